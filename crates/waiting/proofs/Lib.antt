pub mod Reasons
pub mod Whys
