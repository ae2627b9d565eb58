pub mod Limits
pub mod Grey
pub mod Pgm
pub mod Image
pub mod Counts
pub mod Examples
pub mod steps
