pub mod Lowered
pub mod Examples
pub mod steps
