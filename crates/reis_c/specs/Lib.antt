pub mod Numbers
pub mod Answers
pub mod Calls
pub mod Ending
pub mod Flat
pub mod Handles
pub mod Slot
pub mod Inputs
pub mod Given
pub mod Describing
pub mod Policy
pub mod Connecting
pub mod Starting
-- what the clauses cite of the crates below
pub use Rattle.ei_types.specs.Capability
pub use Rattle.ei_types.specs.Enums
pub use Rattle.ei_serve.specs.Standing
