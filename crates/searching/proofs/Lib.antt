pub mod Lends
pub mod Starts
pub mod Entered
pub mod Taken
pub mod Opened
pub mod Ends
pub mod Loop
pub mod Returns
