pub mod Found
pub mod Parsed
