pub mod Stored
pub mod Held
pub mod Asked
pub mod Delivered
pub mod TwoEnds
pub mod Ends
pub mod Written
