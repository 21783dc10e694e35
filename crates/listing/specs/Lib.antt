pub mod Outcomes
pub mod Given
