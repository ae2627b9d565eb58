pub mod Finding
pub mod Tables
pub mod Making
pub mod Stepping
pub mod Building
