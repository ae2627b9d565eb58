pub mod Uses
pub mod Fails
pub mod Names
pub mod Written
