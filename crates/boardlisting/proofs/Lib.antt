pub mod Loop
pub mod Sparing
pub mod Whole
pub mod Refusals
