use Rattle.std.proofs.Common.{◌≡◌, ℕ, ◌+◌, ◌∷◌, [], List, Some, length, ap, sym, ◌∙◌, subst}
use Rattle.std.specs.Prelude.{slice_get}
use Rattle.std.proofs.lemmas.List.{length-append}
use Rattle.sg_exec.specs.declared.lanes.moment.Moment.{Moment}
use Rattle.sg_exec.specs.steps.Landing.{current}
use Rattle.sg_exec.proofs.Starting.{over_more}
use Rattle.sg_exec.proofs.lanes.batch.batch_for.Goals as goal

pub loop-number-preserved : goal.loop-number-preserved
loop-number-preserved c = record {
  long = ap length c.in_ok-push.ensures.items ∙ length-append c.loop-number.moments.items (c.new.result ∷ []) ∙ ap (λ (n : ℕ). n + 1) c.loop-number.invariant.long;
  over = subst (λ (ms : List Moment). (k : ℕ) (moment : Moment) → slice_get ms k ≡ Some moment → moment.cells.stores ≡ current c.args.copies.now c.args.stores.now.list) (sym c.in_ok-push.ensures.items)
      (over_more (current c.args.copies.now c.args.stores.now.list) c.loop-number.moments.items c.new.result c.loop-number.invariant.over c.new.ensures);
}
