use Rattle.std.proofs.Common.{◌++◌, ap, ◌∙◌, Vec, List}
use Rattle.std.specs.declared.alloc.Global.{Global}
use Rattle.sg_exec.specs.declared.lanes.cell_write.CellWrite.{CellWrite}
use Rattle.sg_exec.specs.steps.Puts.{in_lists}
use Rattle.sg_exec.proofs.Keeping.{kept_with}
use Rattle.sg_exec.proofs.results.own_writes.Puts.with.Goals as goal

pub returns : goal.returns
returns c =
    let self = c.args.self in
    let later = c.args.later in
    ap (λ (lists : List (Vec CellWrite Global)). in_lists lists ++ later.last.items)
    (c.in_ok-append.ensures.items ∙ ap (λ (lists : List (Vec CellWrite Global)). lists ++ later.before.items) c.in_ok-push.ensures.items)
    ∙ kept_with self.before.items later.before.items self.last later.last.items
