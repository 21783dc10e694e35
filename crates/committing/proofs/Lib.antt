pub mod Inputs
pub mod Refusing
pub mod Settling
pub mod Keeping
