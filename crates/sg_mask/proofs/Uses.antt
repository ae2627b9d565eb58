-- Lemmas for the crates above: the law of a step on masks that are a range of a larger table.
pub use Rattle.sg_mask.proofs.RangeSteps.{mark_keeps}
