use Rattle.std.proofs.Common.{ℕ, ◌<◌, get_or}
use Rattle.sg_store.specs.StoreWords.{StoreWords}
use Rattle.sg_store.specs.WellFormed.{IsWellFormed}
use Rattle.sg_store.proofs.store.Stores.well_formed.Given as goal

abbrev pub invariant-loop-store : goal.invariant-loop-store
invariant-loop-store l = (k : ℕ) (d : StoreWords) → k < l.store-index → IsWellFormed (get_or l.list k d)
