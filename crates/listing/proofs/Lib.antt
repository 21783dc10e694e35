pub mod Whole
pub mod Refusals
pub mod Exact
