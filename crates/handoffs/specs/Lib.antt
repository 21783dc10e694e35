pub mod Plans
pub mod Verdict
pub mod Inner
pub mod Given
