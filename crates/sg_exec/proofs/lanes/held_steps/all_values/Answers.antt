use Rattle.std.proofs.Common.{◌≡◌, ℕ, ◌<◌, List, get_or, sym, subst}
use Rattle.sg_exec.specs.steps.Accessing.{IsValueAt}
use Rattle.sg_exec.specs.steps.Holding.{held_at}
use Rattle.sg_exec.proofs.lanes.held_steps.all_values.Goals.{in-Some, in-None}
use Rattle.sg_exec.proofs.lanes.held_steps.all_values.Goals as goal

pub returns : goal.returns
returns c =
    let Values : List ℕ → Type 0 = λ words. (k : ℕ) → k < 32 → IsValueAt c.args.view.now (held_at c.args.row.now k) c.args.field (get_or words k 0) in
    elim c.match-one_of.branch [
      | in-Some w ↦ subst Values (sym w.result-is) w.alike_values.ensures
      | in-None w ↦ subst Values (sym w.result-is) w.each_value.ensures
    ]
