pub mod Levels
pub mod Ordered
