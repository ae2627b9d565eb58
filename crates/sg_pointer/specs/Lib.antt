pub mod PointerLaws
pub mod PointerRace
pub mod RangeLaws
pub mod RangeSettled
pub mod Seats
pub mod Examples
