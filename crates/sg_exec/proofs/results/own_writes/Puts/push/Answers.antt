use Rattle.std.proofs.Common.{◌++◌, ◌∷◌, [], ap, ◌∙◌, sym, List, append_assoc}
use Rattle.sg_exec.specs.declared.lanes.cell_write.CellWrite.{CellWrite}
use Rattle.sg_exec.specs.steps.Puts.{in_lists}
use Rattle.sg_exec.proofs.results.own_writes.Puts.push.Goals as goal

pub returns : goal.returns
returns c =
    let before = in_lists c.args.self.now.before.items in
    ap (λ (ws : List CellWrite). before ++ ws) c.in_ok-push.ensures.items ∙ sym (append_assoc before c.args.self.now.last.items (c.args.write ∷ []))
