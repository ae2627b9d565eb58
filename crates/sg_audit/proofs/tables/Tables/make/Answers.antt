use Rattle.std.proofs.Common.{List, length, ap, subst, arith}
use Rattle.sg_layout.specs.declared.shape.Shape.{Shape}
use Rattle.sg_audit.specs.steps.Building.{IsBuilt}
use Rattle.sg_audit.specs.steps.Making.{MakesTables}
use Rattle.sg_audit.proofs.Built.{all_made}
use Rattle.sg_audit.proofs.tables.Tables.make.Goals as goal

pub returns : goal.returns
returns c =
    let same = c.as_slice-list.ensures in
    all_made c.args.layouts.now.list c.loop-index.tables.items c.loop-index.index
    (subst (λ (s : List Shape). IsBuilt MakesTables s c.loop-index.index c.loop-index.tables.items) same c.loop-index.invariant)
    (omega (arith, c.loop-index-test.false, ap length same))
