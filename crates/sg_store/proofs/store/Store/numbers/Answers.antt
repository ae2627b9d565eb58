use Rattle.std.proofs.Common.{◌++◌, [], ◌∷◌, sym, subst, ◌∙◌}
use Rattle.std.proofs.lemmas.Option.{none-some, same_Some}
use Rattle.sg_store.specs.steps.AtNode.{HaveSame}
use Rattle.sg_store.proofs.Wanted.{numbers_next}
use Rattle.sg_store.proofs.store.Store.numbers.Goals as goal
use Rattle.sg_store.proofs.store.Store.numbers.Goals.{in-Some+in_ok-add_slot, in_default}

pub loop-at-preserved : goal.loop-at-preserved
loop-at-preserved c = elim c.match-number_at.branch [
  | in-Some+in_ok-add_slot w ↦
      numbers_next c.args.self.now c.args.index c.loop-at.at-index c.args.wanted.now c.loop-at.slots c.match-number_at.slots _ c.number_at.result c.loop-at-test.true c.number_at.ensures
      c.loop-at.invariant
      (λ q e. subst (λ n. HaveSame c.match-number_at.slots (c.loop-at.slots ++ n ∷ [])) (same_Some w.in-Some.slot q (sym w.in-Some.is ∙ e))
      (subst (λ now. HaveSame now (c.loop-at.slots ++ w.in-Some.slot ∷ [])) (sym w.slots-is) w.in_ok-add_slot.ensures))
      (λ none. absurd (none-some w.in-Some.slot (sym none ∙ w.in-Some.is)))
  | in_default w ↦
      numbers_next c.args.self.now c.args.index c.loop-at.at-index c.args.wanted.now c.loop-at.slots c.match-number_at.slots _ c.number_at.result c.loop-at-test.true c.number_at.ensures
      c.loop-at.invariant (λ q e. absurd (w.in_default.not-Some q e)) (λ none. w.slots-is)
]
