mod Filled
mod FirstMessage
mod Holding
pub mod Kept
mod Meeting
mod Pieces
mod ReadRows
mod Reading
mod Sending
mod Storing
mod TableNews
mod WrittenAt
