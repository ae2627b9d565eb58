pub mod steps
pub mod Front
pub mod ReadExpr
pub mod ReadStmt
pub mod ReadItem
pub mod Parsed
pub mod Laws
