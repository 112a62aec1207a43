pub mod Lent
pub mod Written
pub mod Keys
pub mod View
pub mod Words
pub mod Starting
pub mod Inputs
pub mod Refusals
pub mod Handling
pub mod Feeding
pub mod Passing
pub mod Steps
pub mod Acting
-- what the clauses cite of the crates below
pub use Rattle.ei_types.specs.Capability
pub use Rattle.ei_backend.specs.Outside
pub use Rattle.ei_backend.specs.Outgoing
pub use Rattle.ei_request.specs.Connection
