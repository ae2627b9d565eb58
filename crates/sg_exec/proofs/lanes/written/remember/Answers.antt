use Rattle.std.proofs.Common.{sym, ap, ◌∙◌, arith}
use Rattle.sg_exec.specs.steps.Written.{replaced}
use Rattle.sg_exec.proofs.LatestWrites.{replaced_here, set_here}
use Rattle.sg_exec.proofs.lanes.written.remember.Goals as goal

pub returns-then-is_same_field-clause-ok : goal.returns-then-is_same_field-clause-ok
returns-then-is_same_field-clause-ok c =
    let own = c.loop-place.own.items in
    let k = c.loop-place.place in
    set_here own k c.args.write (omega arith)
    ∙ sym (replaced_here c.args.write own k c.index.result.now (omega arith) c.index.ensures (sym c.is_same_field.ensures ∙ c.if-is_same_field.true))
    ∙ c.loop-place.invariant.rest ∙ ap (replaced c.args.write) c.loop-place.invariant.same
