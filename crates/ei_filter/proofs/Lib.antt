pub mod Ahead
pub mod Lets
pub mod Noted
pub mod SiftedRight
pub mod Sifting
pub mod Told
