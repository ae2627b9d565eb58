-- Lemmas for the crates above: the laws of steps on ranges of a larger table, and of what a race leaves of them.
pub use Rattle.sg_pointer.proofs.RangeSteps.{look_keeps, try_keeps, draw_keeps}
pub use Rattle.sg_pointer.proofs.RangeEnds.{ends_settled}
