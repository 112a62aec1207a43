pub mod Keys
pub mod Typed
pub mod Event
pub mod Connection
pub mod Kept
pub mod KeptLends
pub mod Core
pub mod Handling
pub mod Handles
pub mod Converter
pub mod Likely
pub mod Items
-- what the clauses cite of the crates below
pub use Rattle.ei_spec.specs.Interface
pub use Rattle.ei_backend.specs.Codes
pub use Rattle.ei_handler.specs.Handlers
pub use Rattle.ei_input.specs.Queue
pub use Rattle.ei_reported.specs.Event as Heard
pub use Rattle.ei_reported.specs.Said
