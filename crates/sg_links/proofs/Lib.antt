pub mod Times
pub mod Paths
pub mod Kept
pub mod Changes
pub mod Uses
pub mod Orders
pub mod Padded
