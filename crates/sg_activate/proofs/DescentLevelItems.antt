-- An item of a list of levels, whatever its default; and a slot that fits its type.
use Rattle.std.proofs.Common.{◌≡◌, ℕ, zero, suc, ◌<◌, List, [], ◌∷◌, length, refl, ap, ◌∙◌, arith}
use Rattle.std.specs.Prelude.{slice_index_or}
use Rattle.sg_activate.specs.declared.descent.level.Level.{Level}
use Rattle.sg_activate.specs.steps.DescentWalk.{level_at, no_level}

same-item : (xs : List Level) (i : ℕ) (d e : Level) → i < length xs → slice_index_or xs i d ≡ slice_index_or xs i e
same-item [] i d e below = absurd (omega arith)
same-item (x ∷ xs) zero d e below = refl
same-item (x ∷ xs) (suc i) d e below = same-item xs i d e (omega arith)

pub level_read : (levels xs : List Level) (d : Level) (i : ℕ) → xs ≡ levels → i < length levels → slice_index_or xs i d ≡ level_at levels i
level_read levels xs d i is below = ap (λ xs. slice_index_or xs i d) is ∙ same-item levels i d no_level below
