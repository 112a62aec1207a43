pub mod Clocks
pub mod Alone
pub mod Limit
pub mod Clients
pub mod Since
pub mod Texts
