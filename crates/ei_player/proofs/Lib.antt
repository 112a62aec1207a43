pub mod Announcing
pub mod Knowing
