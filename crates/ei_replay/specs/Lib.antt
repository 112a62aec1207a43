pub mod Asked
pub mod Steps
pub mod Made
pub mod Played
pub mod Checks
pub mod Sending
pub mod Player
pub mod Replays
