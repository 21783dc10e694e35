pub mod Gathers
pub mod Upto
