pub mod Walking
pub mod Results
pub mod Answers
