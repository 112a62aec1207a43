pub mod Standing
pub mod Program
pub mod Alike
