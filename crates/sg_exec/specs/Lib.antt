pub mod Standing
pub mod Running
pub mod Runs
pub mod Preparing
pub mod Examples
pub mod steps
