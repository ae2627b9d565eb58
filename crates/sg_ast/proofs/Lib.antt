pub mod Uses
pub mod Cuts
pub mod Balance
pub mod ItemCuts
mod Worked
