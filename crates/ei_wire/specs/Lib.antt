pub mod ArgText
pub mod Gives
pub mod Header
pub mod Kinds
pub mod Letters
pub mod Rows
pub mod Spellings
pub mod Texts
-- what the clauses cite of the crates below
pub use Rattle.ei_spec.specs.Interface
pub use Rattle.ei_spec.specs.Message
pub use Rattle.ei_spec.specs.Reading
pub use Rattle.ei_spec.specs.Spelling
pub use Rattle.ei_spec.specs.Value
