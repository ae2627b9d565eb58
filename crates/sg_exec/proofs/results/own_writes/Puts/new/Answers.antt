use Rattle.std.proofs.Common.{◌++◌, ap, ◌∙◌, Vec, List}
use Rattle.std.specs.declared.alloc.Global.{Global}
use Rattle.sg_exec.specs.declared.lanes.cell_write.CellWrite.{CellWrite}
use Rattle.sg_exec.specs.steps.Puts.{in_lists}
use Rattle.sg_exec.proofs.results.own_writes.Puts.new.Goals as goal

pub returns : goal.returns
returns c =
    ap (λ (lists : List (Vec CellWrite Global)). in_lists lists ++ c.new-2.result.items) c.new.ensures.items ∙ c.new-2.ensures.items
