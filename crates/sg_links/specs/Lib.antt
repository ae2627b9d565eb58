pub mod Lists
pub mod Heads
pub mod LinkLaws
pub mod Examples
pub mod steps
