use Rattle.std.proofs.Common.{◌≡◌, ℕ, ◌==◌, take}
use Rattle.std.specs.List.{list_any}
use Rattle.sg_words.specs.Spread.{bears_mark}
use Rattle.sg_admit.proofs.admission.Known.looped.Given as goal

abbrev pub invariant-loop-var : goal.invariant-loop-var
invariant-loop-var l = (var : ℕ) → bears_mark l.looped var ≡ list_any (λ it. it == var) (take l.var-index l.self.loops)
