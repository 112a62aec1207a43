pub mod ById
pub mod Entries
pub mod Lends
-- what the clauses cite of the crates below
pub use Rattle.ei_keyed.specs.Keyed
