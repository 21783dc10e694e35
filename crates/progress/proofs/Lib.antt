pub mod Last
pub mod Sizes
pub mod Rooted
pub mod Progress
pub mod Samples
