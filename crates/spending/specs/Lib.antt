pub mod Words
pub mod Spending
pub mod Given
