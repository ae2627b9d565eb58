use Rattle.std.proofs.Common.{ℕ, ◌<◌, List, get_or, sym, subst}
use Rattle.sg_exec.specs.steps.Accessing.{TellsActive}
use Rattle.sg_exec.specs.steps.Holding.{held_at}
use Rattle.sg_exec.proofs.lanes.held_steps.all_active.Goals.{in-Some, in-None}
use Rattle.sg_exec.proofs.lanes.held_steps.all_active.Goals as goal

pub returns : goal.returns
returns c =
    let Values : List ℕ → Type 0 = λ words. (k : ℕ) → k < 32 → TellsActive c.args.view.now (held_at c.args.row.now k) (get_or words k 0) in
    elim c.match-one_of.branch [
      | in-Some w ↦ subst Values (sym w.result-is) w.each_active.ensures
      | in-None w ↦ subst Values (sym w.result-is) w.each_active-in-None.ensures
    ]
