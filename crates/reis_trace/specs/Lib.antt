pub mod TraceLine
pub mod Pieces
pub mod Traced
pub mod SoFar
-- what the clauses cite of the crates below
pub use Rattle.ei_spec.specs.Interface
pub use Rattle.ei_spec.specs.Message
pub use Rattle.ei_spec.specs.Value
pub use Rattle.ei_wire.specs.ArgText
pub use Rattle.ei_session.specs.Events
pub use Rattle.ei_session.specs.Served
pub use Rattle.ei_session.specs.Setup
pub use Rattle.ei_session.specs.Told
pub use Rattle.ei_backend.specs.Backend
pub use Rattle.ei_client.specs.Event
