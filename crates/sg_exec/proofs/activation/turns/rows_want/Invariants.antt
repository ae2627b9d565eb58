use Rattle.std.specs.Prelude.{◌≡◌, ◌==◌, [], filter, drop}
use Rattle.sg_exec.proofs.activation.turns.rows_want.Given as goal

abbrev pub invariant-loop-row : goal.invariant-loop-row
invariant-loop-row l = filter (λ row. row.layout == l.layout) (drop l.row-index l.rows) ≡ [] → filter (λ row. row.layout == l.layout) l.rows ≡ []
