pub mod Blocks
pub mod Counts
pub mod Tallies
pub mod Readings
pub mod Report
