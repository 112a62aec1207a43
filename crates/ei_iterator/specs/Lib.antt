pub mod Turns
pub mod Next
pub mod Sending
pub mod Around
pub mod Iterator
pub mod Lending
pub mod Steps
pub mod Nexts
pub mod Heard
pub mod Shaking
-- what the clauses cite of the crates below
pub use Rattle.ei_spec.specs.Piece
pub use Rattle.ei_backend.specs.Backend
pub use Rattle.ei_backend.specs.Lent
pub use Rattle.ei_backend.specs.Outside
pub use Rattle.ei_backend.specs.Pieces
pub use Rattle.ei_blocking.specs.Blocking
pub use Rattle.ei_event.specs.Connection
pub use Rattle.ei_event.specs.Converter
pub use Rattle.ei_event.specs.Kept
pub use Rattle.ei_event.specs.Typed
pub use Rattle.ei_greeting.specs.Shaking as Greeting
pub use Rattle.ei_heeding.specs.Heeding
pub use Rattle.ei_reported.specs.Changes
pub use Rattle.ei_reported.specs.Said
