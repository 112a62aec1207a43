pub mod Live
pub mod Rising
pub mod Kept
mod MapLaws
mod SameRead
