pub mod Outcomes
pub mod Moves
pub mod Searched
pub mod Spent
pub mod Ready
pub mod Given
