-- What the pieces of a list of points want.
use Rattle.std.proofs.Common.{◌≡◌, ℕ, ◌<◌, inl, inr, List, [], ◌∷◌, length, ap, ◌∙◌, subst, arith}
use Rattle.std.specs.Prelude.{All, slice_get}
use Rattle.std.proofs.lemmas.List.Elements.{All-nil, All-cons, All-same}
use Rattle.std.proofs.lemmas.Option.{slice_get_cases}
use Rattle.sg_coord.specs.declared.coord.Coord.{Coord}
use Rattle.sg_coord.specs.Bounds.{Bounds}
use Rattle.sg_coord.specs.Coord.{Inside}
use Rattle.trials_stores.specs.steps.Listed.{listed}

pub points_inside : (bounds : Bounds) (coords : List Coord) (list : ℕ → List Coord) → All (Inside bounds) coords → ((piece : ℕ) → list piece ≡ listed (slice_get coords piece))
    → (piece : ℕ) → piece < length coords → All (Inside bounds) (list piece)
points_inside bounds coords list all means piece below = elim ((slice_get_cases coords piece).1) [
  | inl found ↦
      let here : Inside bounds found.0 = subst (Inside bounds) found.3 (all piece found.0 below) in
      All-same (Inside bounds) (list piece) (found.0 ∷ []) (means piece ∙ ap listed found.2) (All-cons (Inside bounds) found.0 [] here (All-nil (Inside bounds)))
  | inr past ↦ absurd (omega (arith, past.0))
]
