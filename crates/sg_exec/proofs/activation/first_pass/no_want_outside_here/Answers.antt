use Rattle.std.proofs.Common.{◌≡◌, ◌∙◌, ◌-◌, ◌*◌, length, take, drop, arith}
use Rattle.sg_exec.specs.steps.Moments.{slice_turn}
use Rattle.sg_exec.specs.steps.Racing.{between}
use Rattle.sg_exec.proofs.Batches.{named_batch, told_more, told_stop, told_end}
use Rattle.sg_exec.proofs.Ranges.{between_long, between_batch}
use Rattle.sg_exec.proofs.activation.first_pass.no_want_outside_here.Goals as goal

pub loop-number-preserved : goal.loop-number-preserved
loop-number-preserved c =
    let mine = between c.args.from c.args.to c.args.points.now in
    let long : length mine ≡ c.args.to - c.args.from = between_long c.args.from c.args.to c.args.points.now c.requires.order c.requires.within in
    let first = c.loop-number.number * 32 in
    let row : c.as_slice-some.result.now ≡ take c.min-count.result (drop first mine) =
    c.as_slice-some.ensures.value ∙ c.in_ok-fill.ensures ∙ between_batch c.args.from c.args.to first c.min-count.result c.args.points.now (omega (arith, c.min-count.ensures)) in
    record {
      over = c.no_want_outside_among.ensures.over;
      found = c.no_want_outside_among.ensures.last;
      told = λ state sees named.
          let view = c.args.stores.now.list in
          let block = c.args.block.now in
          told_more view (slice_turn view state block) mine c.as_slice-some.result.now c.loop-number.number c.min-count.result c.loop-number.active c.in_ok-active.active row (omega (arith, c.min-count.ensures)) (λ less. omega (arith, less, long, c.min-count.ensures)) c.in_ok-active.ensures.so_far
          (c.loop-number.invariant.told state sees named) (c.in_ok-active.ensures.told state sees (named_batch view state block mine c.as_slice-some.result.now first c.min-count.result row named));
    }

pub returns-in_err-active : goal.returns-in_err-active
returns-in_err-active c = λ state sees named.
    let view = c.args.stores.now.list in
    let block = c.args.block.now in
    let mine = between c.args.from c.args.to c.args.points.now in
    let first = c.loop-number.number * 32 in
    let row : c.as_slice-some.result.now ≡ take c.min-count.result (drop first mine) =
    c.as_slice-some.ensures.value ∙ c.in_ok-fill.ensures ∙ between_batch c.args.from c.args.to first c.min-count.result c.args.points.now (omega (arith, c.min-count.ensures)) in
    told_stop view (slice_turn view state block) mine c.as_slice-some.result.now first c.min-count.result c.loop-number.active c.in_err-active.field-0.0 c.from_residual-in_err-active.result c.from_residual-in_err-active.ensures.1 row
    (c.loop-number.invariant.told state sees named) (c.in_err-active.ensures.told state sees (named_batch view state block mine c.as_slice-some.result.now first c.min-count.result row named))

pub returns : goal.returns
returns c = λ state sees named.
    let mine = between c.args.from c.args.to c.args.points.now in
    let long : length mine ≡ c.args.to - c.args.from = between_long c.args.from c.args.to c.args.points.now c.requires.order c.requires.within in
    told_end c.args.stores.now.list (slice_turn c.args.stores.now.list state c.args.block.now) mine (c.loop-number.number * 32) c.loop-number.active (omega (arith, long))
    (c.loop-number.invariant.told state sees named)
