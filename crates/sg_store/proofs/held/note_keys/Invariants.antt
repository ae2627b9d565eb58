use Rattle.std.proofs.Common.{◌-◌, ◌≤◌, length}
use Rattle.std.specs.Prelude.{slice_index}
use Rattle.sg_store.specs.steps.Noting.{HeldSoFar}
use Rattle.sg_store.proofs.held.note_keys.Given as goal

abbrev pub invariant-loop-next : goal.invariant-loop-next
invariant-loop-next l = HeldSoFar (λ place. slice_index l.keys place - 1) l.links l.fn.slots l.slots l.place × (l.place ≤ length l.links)

abbrev pub decreases-loop-next : goal.decreases-loop-next
decreases-loop-next l = length l.links - l.place
