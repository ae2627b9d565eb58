pub mod RaceSteps
pub mod SlotSteps
pub mod SpreadSteps
