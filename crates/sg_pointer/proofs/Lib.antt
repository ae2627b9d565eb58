pub mod Endings
pub mod Events
pub mod Moves
pub mod Passes
pub mod RangeEnds
pub mod RangeSteps
pub mod Uses
