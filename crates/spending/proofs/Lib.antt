pub mod Spends
pub mod Rests
