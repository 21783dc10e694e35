pub mod Choice
pub mod Finding
pub mod Given
