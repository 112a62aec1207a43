pub mod Ending
pub mod Fields
pub mod RequestLine
pub mod Report
-- what the clauses cite of the crates below
pub use Rattle.ei_wire.specs.ArgText
pub use Rattle.ei_backend.specs.Lent
pub use Rattle.ei_backend.specs.Outside
