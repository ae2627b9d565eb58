use Rattle.std.proofs.Common.{◌≡◌, ◌-◌, ◌≤◌, length, take}
use Rattle.sg_store.specs.steps.Sorting.{keys_in}
use Rattle.sg_store.proofs.keys.keys_in_order.Given as goal

abbrev pub invariant-loop-next : goal.invariant-loop-next
invariant-loop-next l = (l.keys.items ≡ keys_in (take l.place l.words)) × (l.place ≤ length l.words)

abbrev pub decreases-loop-next : goal.decreases-loop-next
decreases-loop-next l = length l.words - l.place
