pub mod Feeds
pub mod Walking
pub mod Sums
pub mod Answering
