use Rattle.std.proofs.Common.{◌≡◌, ◌||◌, ◌==◌, not, map}
use Rattle.std.specs.List.{list_any, range_with_len}
use Rattle.sg_words.specs.Spread.{bears_mark}
use Rattle.sg_admit.proofs.admission.Known.clean_vars.Given as goal

abbrev pub invariant-loop-var : goal.invariant-loop-var
invariant-loop-var l = l.clean ≡ map (λ var. not (bears_mark l.self.marks.dirty var) || list_any (λ it. it == var) l.self.loops) (range_with_len 0 l.var)
