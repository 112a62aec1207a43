pub mod Pair
pub mod Stepping
pub mod Calling
pub mod Promises
pub mod Keeping
