pub mod Client
pub mod Handshaker
pub mod Pending
pub mod Versions
-- what the clauses cite of the crates below
pub use Rattle.ei_spec.specs.Interface
pub use Rattle.ei_spec.specs.Message
pub use Rattle.ei_session.specs.Handshake
pub use Rattle.ei_session.specs.Replies
pub use Rattle.ei_session.specs.SettledMap
pub use Rattle.ei_backend.specs.Backend
pub use Rattle.ei_backend.specs.Outgoing
pub use Rattle.ei_backend.specs.Table
pub use Rattle.ei_greeting.specs.Shaking
