pub mod Messages
pub mod Sending
pub mod Heard
pub mod Both
