pub mod Quoted
pub mod Decimal
pub mod Laid
pub mod Answers
pub mod Outcome
