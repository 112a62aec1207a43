pub mod Sent
pub mod Announced
pub mod Agree
pub mod Way
pub mod Steps
pub mod Joined
pub mod Worked
-- what the clauses cite of the crates below
pub use Rattle.ei_spec.specs.Interface
pub use Rattle.ei_spec.specs.Message
pub use Rattle.ei_spec.specs.Piece
pub use Rattle.ei_spec.specs.Reading
pub use Rattle.ei_spec.specs.Rows
pub use Rattle.ei_spec.specs.Value
pub use Rattle.ei_backend.specs.Backend
pub use Rattle.ei_backend.specs.Table
