pub mod AtFront
pub mod HandedOut
pub mod Causes
pub mod Refusing
pub mod Around
pub mod SessionCode
pub mod Standing
pub mod Wanting
pub mod Steps
pub mod Taking
pub mod Turning
pub mod EndedBy
pub mod Serving
pub mod Whole
pub mod Policy
-- what the clauses cite of the crates below
pub use Rattle.ei_spec.specs.Message
pub use Rattle.ei_types.specs.Capability
pub use Rattle.ei_types.specs.Errors
pub use Rattle.ei_session.specs.Complete
pub use Rattle.ei_session.specs.Handshake
pub use Rattle.ei_session.specs.Served
pub use Rattle.ei_session.specs.Setup
pub use Rattle.ei_backend.specs.Lent
pub use Rattle.ei_backend.specs.Message as ReadMessage
pub use Rattle.ei_backend.specs.Outside
pub use Rattle.ei_request.specs.Held
