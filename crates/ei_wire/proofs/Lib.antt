pub mod HeaderLaws
pub mod InterfaceNames
pub mod NoPrefix
pub mod TakenBytes
