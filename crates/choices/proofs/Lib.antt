pub mod Next
pub mod Fresh
pub mod Pending
pub mod Answers
pub mod Found
