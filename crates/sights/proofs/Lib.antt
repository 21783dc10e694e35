pub mod Holds
pub mod Seeing
