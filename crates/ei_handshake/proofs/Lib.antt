pub mod Sending
pub mod Room
pub mod GivenVersion
pub mod OtherNames
pub mod SettledLaws
pub mod Keeping
pub mod Greeting
