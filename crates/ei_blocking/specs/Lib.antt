pub mod SourceEnd
pub mod Still
pub mod Sending
pub mod Blocking
pub mod Steps
-- what the clauses cite of the crates below
pub use Rattle.ei_spec.specs.Piece
pub use Rattle.ei_types.specs.Decided
pub use Rattle.ei_backend.specs.Backend
pub use Rattle.ei_backend.specs.Lent
pub use Rattle.ei_backend.specs.Outside
pub use Rattle.ei_backend.specs.Pieces
pub use Rattle.ei_greeting.specs.Opening
pub use Rattle.ei_greeting.specs.Shaking
