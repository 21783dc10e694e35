pub mod Log
pub mod Given
