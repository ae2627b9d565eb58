-- What serves proofs alone: what the pass keeps along a run of what it puts out.
pub mod Pass
pub mod PassExamples
pub mod Serves
pub mod Ruled
pub mod Sets
pub mod Shares
pub mod Trims
pub mod Uses
pub mod Only
pub mod Counted
pub mod Tally
pub mod Made
pub mod Judged
pub mod Typed
pub mod Needed
pub mod Left
