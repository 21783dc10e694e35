pub mod Scanning
pub mod Parsing
