use Rattle.std.proofs.Common.{◌≡◌, get_or, sym, ap, ◌∙◌, subst, arith, inl, inr}
use Rattle.std.proofs.lemmas.Bool.{cases_lt}
use Rattle.std.proofs.lemmas.List.{get_or_default}
use Rattle.sg_store.specs.WellFormed.{IsWellFormed}
use Rattle.sg_store.proofs.store.Stores.well_formed.Goals as goal

pub loop-store-preserved : goal.loop-store-preserved
loop-store-preserved c = λ k d below. elim (cases_lt k c.loop-store.store-index) [
  | inl low ↦ c.loop-store.invariant k d low
  | inr high ↦
      let list = c.as_slice-list.result.now in
      let same : k ≡ c.loop-store.store-index = omega (arith, below, high) in
      subst IsWellFormed (c.store-item.is ∙ get_or_default list c.loop-store.store-index c.store-item.result d (omega arith) ∙ ap (λ i. get_or list i d) (sym same)) c.layout.ensures.well_formed
]
