use Rattle.std.proofs.Common.{ℕ, ◌<◌, List}
use Rattle.std.specs.Prelude.{All, Contains}
use Rattle.sg_flat.specs.declared.effects.Write.{Write}
use Rattle.sg_exec.specs.Runs.{run_write}
use Rattle.sg_exec.proofs.loads.heads.add_heads.Given as goal

abbrev pub invariant-loop-k : goal.invariant-loop-k
invariant-loop-k l =
    (rows : List Write) → ((k : ℕ) → k < l.fn.run.len → Contains rows (run_write l.layout l.place l.fn.run k)) → All (Contains rows) l.fn.heads → All (Contains rows) l.heads
