pub mod Echoes
pub mod Joins
pub mod Given
