use Rattle.std.proofs.Common.{◌≤◌, ℕ, List, length, take}
use Rattle.sg_store.specs.steps.Filling.{IsFill}
use Rattle.sg_store.proofs.pointer.fill.Given as goal

-- the slots so far are filled, with numbers for which there is room
pub record IsFilled (before after stock : List ℕ) (room taken done : ℕ) (slots : List ℕ) : Type 0 where
  pub fill : IsFill before after (take taken stock) slots
  pub few : taken ≤ room
  pub low : taken ≤ done
  pub enough : taken ≤ length stock

abbrev pub invariant-loop-slot : goal.invariant-loop-slot
invariant-loop-slot l = IsFilled l.fn.links l.links l.stock l.room l.taken l.slot-index (take l.slot-index l.slots)
