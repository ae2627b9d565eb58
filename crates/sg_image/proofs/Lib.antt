pub mod Counting
pub mod Images
