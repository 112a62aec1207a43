pub mod Masks
pub mod Opcodes
pub mod EnumNumbers
