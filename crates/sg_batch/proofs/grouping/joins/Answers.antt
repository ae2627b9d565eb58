use Rattle.std.proofs.Common.{◌≡◌, ◌<◌, ℕ, List, true, length, refl, sym, ◌∙◌, subst, arith}
use Rattle.std.specs.Prelude.{slice_index}
use Rattle.std.specs.List.{list_all}
use Rattle.std.proofs.lemmas.List.{take_all}
use Rattle.std.proofs.lemmas.Option.{slice_get_read}
use Rattle.sg_batch.specs.Batches.{members}
use Rattle.sg_batch.specs.Independent.{are_independent}
use Rattle.sg_batch.proofs.Grouped.{all_more, all_fails}
use Rattle.sg_batch.proofs.grouping.joins.Goals as goal

pub bounds-kernels-other : goal.bounds-kernels-other
bounds-kernels-other c = c.requires c.loop-other.other-index 0 c.loop-other-test.true

pub returns-then-not-independent : goal.returns-then-not-independent
returns-then-not-independent c =
    let kernels = c.args.kernels.now in
    let other = slice_index c.args.before.now c.loop-other.other-index in
    let below : slice_index c.args.before.now c.loop-other.other-index < length c.args.kernels.now = c.requires c.loop-other.other-index 0 c.loop-other-test.true in
    sym (all_fails (are_independent c.args.kernel.now) kernels c.args.before.now c.loop-other.other-index other c.index-kernels-other.result c.loop-other-test.true refl
    (slice_get_read kernels (length c.args.kernels.now) other c.index-kernels-other.result refl below c.index-kernels-other.is) (sym c.independent.ensures ∙ c.if-not-independent.true))

pub loop-other-preserved : goal.loop-other-preserved
loop-other-preserved c =
    let kernels = c.args.kernels.now in
    let other = slice_index c.args.before.now c.loop-other.other-index in
    let below : slice_index c.args.before.now c.loop-other.other-index < length c.args.kernels.now = c.requires c.loop-other.other-index 0 c.loop-other-test.true in
    all_more (are_independent c.args.kernel.now) kernels c.args.before.now c.loop-other.other-index other c.index-kernels-other.result c.loop-other-test.true refl
    (slice_get_read kernels (length c.args.kernels.now) other c.index-kernels-other.result refl below c.index-kernels-other.is) c.loop-other.invariant (sym c.independent.ensures ∙ c.if-not-independent.false)

pub returns : goal.returns
returns c =
    sym (subst (λ (list : List ℕ). list_all (are_independent c.args.kernel.now) (members c.args.kernels.now list) ≡ true) (take_all c.loop-other.other-index c.args.before.now (omega arith)) c.loop-other.invariant)
