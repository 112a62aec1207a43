pub mod Enums
pub mod Capability
pub mod Settled
pub mod Operations
pub mod Errors
pub mod Decided
pub mod Texts
-- what the clauses cite of the crates below
pub use Rattle.ei_spec.specs.Reading
pub use Rattle.ei_spec.specs.Spelling
pub use Rattle.ei_spec.specs.Table
pub use Rattle.ei_spec.specs.Value
