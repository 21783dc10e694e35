pub mod Testing
pub mod Answers
