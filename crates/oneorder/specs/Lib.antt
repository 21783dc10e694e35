pub mod OneOrder
