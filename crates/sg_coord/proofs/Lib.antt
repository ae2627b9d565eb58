pub mod Places
pub mod RowLaws
pub mod SliceLaws
pub mod Masked
pub mod Quotients
pub mod Following
pub mod OrderLaws
pub mod Uses
