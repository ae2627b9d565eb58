use Rattle.std.proofs.Common.{◌≤◌, ℕ, List, length, take}
use Rattle.sg_store.specs.Slots.{links_by_slot}
use Rattle.sg_store.specs.steps.Filling.{IsFill}
use Rattle.sg_store.specs.steps.Keying.{IsKeyed}
use Rattle.sg_store.proofs.hash.fill_keys.Given as goal

-- the slots so far are in the table, with numbers for which there is room
pub record IsFilling (old_keys old_links keys links stock : List ℕ) (room taken done : ℕ) (slots : List ℕ) (count : ℕ) : Type 0 where
  pub keyed : IsKeyed keys links (length old_keys) count
  pub fill : IsFill (links_by_slot old_keys old_links count) (links_by_slot keys links count) (take taken stock) slots
  pub few : taken ≤ room
  pub low : taken ≤ done
  pub enough : taken ≤ length stock

abbrev pub ghost-add_key : goal.ghost-add_key
ghost-add_key g a = g.count

abbrev pub invariant-loop-slot : goal.invariant-loop-slot
invariant-loop-slot g l = IsFilling l.fn.keys l.fn.links l.keys l.links l.stock l.room l.taken l.slot-index (take l.slot-index l.slots) g.count
