use Rattle.std.proofs.Common.{◌≡◌, ℕ, [], take}
use Rattle.sg_activate.specs.steps.Finding.{found_in}
use Rattle.sg_activate.proofs.found.is_nothing.Given as goal

abbrev pub invariant-loop-finds : goal.invariant-loop-finds
invariant-loop-finds l = (axes : ℕ) → found_in axes (take l.finds-index l.found) ≡ []
