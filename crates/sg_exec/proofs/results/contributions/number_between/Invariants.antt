use Rattle.std.proofs.Common.{◌≡◌, ℕ, ◌<◌, ◌≤◌, Some}
use Rattle.std.specs.Prelude.{slice_get}
use Rattle.sg_exec.specs.declared.results.shared.Accumulated.{Accumulated}
use Rattle.sg_exec.proofs.results.contributions.number_between.Given as goal

abbrev pub invariant-loop-number : goal.invariant-loop-number
invariant-loop-number l = (k : ℕ) (it : Accumulated) → l.from ≤ k → k < l.number → slice_get l.accumulated k ≡ Some it → it.layout ≡ l.layout → it.field ≡ l.field → ⊥
