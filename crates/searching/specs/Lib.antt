pub mod Positions
pub mod Entered
pub mod Ready
pub mod Searched
