use Rattle.std.proofs.Common.{Some, ap, sym, ◌∙◌}
use Rattle.sg_session.proofs.BoundFiles.{found_here, not_here}
use Rattle.sg_session.proofs.binds.file_bound.Goals as goal

pub returns-then-is : goal.returns-then-is
returns-then-is c =
    ap Some c.as_str.ensures.value
    ∙ sym (found_here c.as_slice-bind-items.result.now c.args.name.now c.loop-bind.bind-index c.bind-item.result c.loop-bind-test.true c.bind-item.is (sym c.is.ensures ∙ c.if-is.true)) ∙ c.loop-bind.invariant

pub loop-bind-preserved : goal.loop-bind-preserved
loop-bind-preserved c = not_here c.as_slice-bind-items.result.now c.args.name.now c.loop-bind.bind-index c.bind-item.result c.loop-bind-test.true c.bind-item.is (sym c.is.ensures ∙ c.if-is.false) ∙ c.loop-bind.invariant
