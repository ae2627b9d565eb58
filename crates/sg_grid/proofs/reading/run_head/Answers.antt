use Rattle.std.proofs.Common.{List, ℕ, ◌∷◌, [], ◌++◌, sym, ap}
use Rattle.std.proofs.lemmas.Fmt.{decimal_digit}
use Rattle.sg_grid.proofs.reading.run_head.Goals as goal

pub returns : goal.returns
returns c = ap (λ (text : List ℕ). 103 ∷ 114 ∷ 105 ∷ 100 ∷ 50 ∷ 32 ∷ (text ++ 32 ∷ [])) (sym (decimal_digit c.args.axes c.requires))
