pub mod Simplified
pub mod steps
pub mod Kept
pub mod KeptExamples
