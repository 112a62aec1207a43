pub mod Keyed
pub mod Places
pub mod PlaceLends
pub mod Lends
pub mod MapOf
