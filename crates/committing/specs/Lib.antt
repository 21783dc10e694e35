pub mod Committed
pub mod Given
