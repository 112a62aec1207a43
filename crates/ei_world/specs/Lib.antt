pub mod Received
pub mod Steps
-- what the clauses cite of the crate below
pub use Rattle.ei_linked.specs.Stored
pub use Rattle.ei_linked.specs.Asked
pub use Rattle.ei_linked.specs.TwoEnds
