pub mod Echoing
pub mod Ignoring
