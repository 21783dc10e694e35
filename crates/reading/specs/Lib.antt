pub mod Walks
pub mod Fills
pub mod Blocks
