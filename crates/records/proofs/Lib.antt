pub mod Order
pub mod Ascending
pub mod Buffer
pub mod Places
pub mod Putting
pub mod Growth
pub mod Closing
pub mod Exact
