pub mod Placed
pub mod Heeding
