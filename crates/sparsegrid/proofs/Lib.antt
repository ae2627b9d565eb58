mod AdviceLines
mod Cuts
mod Workers
mod SplitForms
mod SplitRows
mod SplitTurns
mod SplitWalk
mod SplitFront
mod SplitWords
mod SplitParse
mod Asking
pub mod Writing
pub mod Bound
pub mod Readings
pub mod Going
pub mod Tasks
pub mod Clauses
pub mod Sources
pub mod Kept
pub mod Opened
pub mod Parts
pub mod Parted
pub mod Reaching
mod PartsTold
pub mod PartsWritten
pub mod Journaled
pub mod Audits
pub mod Beginning
pub mod OfFile
pub mod Lowered
pub mod Codes
pub mod Both
pub mod Open
pub mod Unread
pub mod Lefts
pub mod EndsAlike
pub mod NoGrids
pub mod TwoRuns
pub mod TwoCalls
pub mod WorkedAlike
pub mod WorkedSpelled
pub mod WorkedCompiled
pub mod WorkedEffects
pub mod WorkedRun
pub mod Generating
pub mod Grouped
pub mod Advancing
pub mod GroupsDone
pub mod GroupFront
pub mod GroupRuns
