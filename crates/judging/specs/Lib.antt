pub mod Draft
pub mod Parse
pub mod Heard
pub mod Places
