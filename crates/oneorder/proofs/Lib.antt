pub mod Items
pub mod Viewed
pub mod OneOrder
pub mod Visible
