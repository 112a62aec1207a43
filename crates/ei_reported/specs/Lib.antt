pub mod Event
pub mod Said
pub mod Standing
pub mod Reported
pub mod Changes
pub mod Worked
pub mod WorkedLists
-- what the clauses cite of the crates below
pub use Rattle.ei_spec.specs.Groups
pub use Rattle.ei_spec.specs.History
pub use Rattle.ei_spec.specs.Value
pub use Rattle.ei_types.specs.Capability
pub use Rattle.ei_types.specs.Enums
pub use Rattle.ei_input.specs.Inputs
