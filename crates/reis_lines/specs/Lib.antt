pub mod Asking
pub mod Given
pub mod Held
pub mod HexSource
pub mod Input
pub mod InputText
pub mod LaterReadings
pub mod Lent
pub mod Taken
pub mod Text
-- what the clauses cite of the crates below
pub use Rattle.ei_backend.specs.Memory
pub use Rattle.ei_backend.specs.Outside
