pub mod Readings
pub mod Turned
pub mod Limits
pub mod Places
pub mod Sinces
pub mod Rounds
