pub mod Model
pub mod Replay
pub mod Outcome
pub mod Listing
pub mod Reachable
pub mod Wanted
pub mod Asking
