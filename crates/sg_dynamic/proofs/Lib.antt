pub mod Growth
pub mod Uses
pub mod Raises
pub mod Events
