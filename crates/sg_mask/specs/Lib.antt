pub mod Marking
pub mod MaskRace
pub mod MaskLaws
pub mod RangeLaws
pub mod Examples
pub mod steps
