pub mod Bits
pub mod Trailing
pub mod Walks
pub mod Joins
pub mod Reached
