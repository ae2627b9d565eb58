pub mod Active
pub mod steps
