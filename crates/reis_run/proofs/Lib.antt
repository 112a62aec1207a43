pub mod TellLaws
pub mod SessionLaws
pub mod ReportLaws
pub mod WordLaws
