-- What serves proofs alone: what a look notes, what a seat has met and made, whatever the pass and for each, and nodes opened.
pub mod Asked
pub mod Descended
pub mod DescentEnds
pub mod DescentParts
pub mod DescentPlans
pub mod DescentReaching
pub mod DescentSeats
pub mod DescentWalk
pub mod Finding
pub mod Keys
pub mod Lengths
pub mod Levels
pub mod Looked
pub mod Racing
