use Rattle.std.proofs.Common.{◌<◌, ℕ, take, length, refl, sym, ap, ◌∙◌, subst, arith}
use Rattle.std.specs.Prelude.{slice_index}
use Rattle.std.proofs.lemmas.List.Elements.{All-take}
use Rattle.std.proofs.lemmas.Option.{slice_get_read}
use Rattle.sg_batch.specs.Batches.{members}
use Rattle.sg_batch.specs.Independent.{AreApart}
use Rattle.sg_batch.proofs.Grouped.{apart_none, apart_more, members_more, longest_full, longest_end, longest_apart}
use Rattle.sg_batch.proofs.grouping.group_of.Goals as goal

pub loop-number-init : goal.loop-number-init
loop-number-init c = record { count = refl; few = omega arith; apart = apart_none }

pub bounds-kernels-number : goal.bounds-kernels-number
bounds-kernels-number c = c.requires.there c.loop-number.number-index 0 c.loop-number-test.true

pub joins-requires : goal.joins-requires
joins-requires c = All-take (λ (number : ℕ). number < length c.args.kernels.now) c.loop-number.count c.args.order.now c.requires.there

pub returns-then-most-count : goal.returns-then-most-count
returns-then-most-count c = longest_full c.args.kernels.now c.args.order.now c.args.most c.loop-number.count c.loop-number.invariant.few (omega arith) c.loop-number.invariant.apart (omega arith)

pub returns-then-not-joins : goal.returns-then-not-joins
returns-then-not-joins c =
    let kernels = c.args.kernels.now in
    let order = c.args.order.now in
    let i = c.loop-number.number-index in
    let number = slice_index c.args.order.now c.loop-number.number-index in
    let below : slice_index c.args.order.now c.loop-number.number-index < length c.args.kernels.now = c.requires.there i 0 c.loop-number-test.true in
    let is = ap (slice_index c.args.order.now) (sym c.loop-number.invariant.count) in
    longest_apart kernels order c.args.most c.loop-number.count c.loop-number.invariant.few (omega arith) c.loop-number.invariant.apart number c.index-kernels-number.result (omega arith) is
    (slice_get_read kernels (length c.args.kernels.now) number c.index-kernels-number.result refl below c.index-kernels-number.is) (sym c.joins.ensures ∙ c.if-not-joins.true)

pub loop-number-preserved : goal.loop-number-preserved
loop-number-preserved c =
    let kernels = c.args.kernels.now in
    let order = c.args.order.now in
    let i = c.loop-number.number-index in
    let number = slice_index c.args.order.now c.loop-number.number-index in
    let kernel = c.index-kernels-number.result in
    let count = c.loop-number.count in
    let below : slice_index c.args.order.now c.loop-number.number-index < length c.args.kernels.now = c.requires.there i 0 c.loop-number-test.true in
    let is = ap (slice_index c.args.order.now) (sym c.loop-number.invariant.count) in
    let there = slice_get_read kernels (length c.args.kernels.now) number kernel refl below c.index-kernels-number.is in
    let passes = sym c.joins.ensures ∙ c.if-not-joins.false in
    record {
      count = omega arith;
      few = omega arith;
      apart = subst AreApart (sym (members_more kernels order count number kernel (omega arith) is there)) (apart_more (members kernels (take count order)) kernel c.loop-number.invariant.apart passes);
    }

pub returns : goal.returns
returns c = longest_end c.args.kernels.now c.args.order.now c.args.most c.loop-number.count c.loop-number.invariant.few (omega arith) c.loop-number.invariant.apart (omega arith)
