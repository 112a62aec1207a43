pub mod NamedKnown
