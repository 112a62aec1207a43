pub mod Objects
-- what the clauses cite of the crates below
pub use Rattle.ei_spec.specs.Interface
pub use Rattle.ei_types.specs.Capability
pub use Rattle.ei_backend.specs.Backend
pub use Rattle.ei_backend.specs.Table
pub use Rattle.ei_session.specs.Devices
pub use Rattle.ei_playing.specs.Playing
