pub mod Announcing
pub mod CutLaws
pub mod StreamLength
pub mod Saying
pub mod Passing
pub mod Disconnecting
pub mod Counting
pub mod FewRequests
pub mod Tallying
pub mod Telling
pub mod DisconnectTold
mod Fronts
