pub mod Alike
pub mod Converted
pub mod Used
pub mod Advising
pub mod Advised
pub mod AdviceLaws
pub mod Examples
pub mod steps
