pub mod Lent
pub mod Fed
pub mod Queue
pub mod View
pub mod Serving
-- what the clauses cite of the crates below
pub use Rattle.ei_spec.specs.Piece
pub use Rattle.ei_types.specs.Capability
pub use Rattle.ei_session.specs.Setup
pub use Rattle.ei_backend.specs.Outside
pub use Rattle.ei_serve.specs.Standing
