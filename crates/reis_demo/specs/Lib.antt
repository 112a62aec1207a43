pub mod Generated
pub mod Script
pub mod Tally
pub mod Summary
-- what the clauses cite of the crates below
pub use Rattle.ei_spec.specs.Message
pub use Rattle.ei_spec.specs.Piece
pub use Rattle.ei_spec.specs.Value
pub use Rattle.ei_wire.specs.Gives
pub use Rattle.ei_session.specs.Events
pub use Rattle.ei_session.specs.Served
pub use Rattle.ei_backend.specs.Lent
pub use Rattle.ei_backend.specs.Outgoing
pub use Rattle.ei_backend.specs.Outside
pub use Rattle.ei_serve.specs.Serving
pub use Rattle.ei_serve.specs.Standing
pub use Rattle.reis_report.specs.Report
