pub mod Marked
pub mod Hanging
pub mod Reading
pub mod Noting
pub mod Corners
