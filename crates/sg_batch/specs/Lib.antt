pub mod Batches
pub mod Independent
pub mod Examples
pub mod steps
