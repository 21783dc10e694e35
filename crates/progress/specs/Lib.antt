pub mod Causes
pub mod Samples
