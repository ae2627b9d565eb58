use Rattle.std.proofs.Common.{◌≡◌, take}
use Rattle.sg_store.proofs.store.Store.copy.Given as goal

abbrev pub invariant-loop-row : goal.invariant-loop-row
invariant-loop-row l = l.fields.items ≡ take l.row-index l.self-inside.fields.items
