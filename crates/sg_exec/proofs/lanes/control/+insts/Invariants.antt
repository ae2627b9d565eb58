use Rattle.std.proofs.Common.{drop}
use Rattle.sg_flat.specs.Domain.{numbers}
use Rattle.sg_ir.specs.Runs.{runs}
use Rattle.sg_exec.specs.steps.Rows.{On}
use Rattle.sg_exec.specs.steps.Moments.{run_turns, AllBecome, Stays}
use Rattle.sg_exec.proofs.SideBySide.{Comes}
use Rattle.sg_exec.proofs.lanes.control.+insts.Given as goal

abbrev pub invariant-run_all-loop-inst : goal.invariant-run_all-loop-inst
invariant-run_all-loop-inst l = AllBecome (Comes (λ seen. runs seen (drop l.inst-index l.block)) (λ seen. runs seen l.block)) Stays (On l.columns.on) l.fn.batch l.batch

abbrev pub invariant-run_turns-loop-k : goal.invariant-run_turns-loop-k
invariant-run_turns-loop-k l =
    AllBecome (Comes (λ seen mid. run_turns seen l.var l.body mid (drop l.k (numbers l.lo l.hi))) (λ seen now. run_turns seen l.var l.body now (numbers l.lo l.hi))) Stays (On l.columns.on) l.fn.batch l.batch
