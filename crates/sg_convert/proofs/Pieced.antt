-- Parts of a list, in order, are the list.
use Rattle.std.proofs.Common.{◌≡◌, ℕ, zero, suc, ◌+◌, ◌*◌, ◌≤◌, List, [], ◌∷◌, ◌++◌, length, take, drop, sym, ap, ◌∙◌, arith}
use Rattle.std.specs.List.{All}
use Rattle.std.proofs.lemmas.List.{take_all}
use Rattle.std.proofs.lemmas.List.Elements.{All-take, All-drop, All-same}
use Rattle.sg_coord.specs.declared.coord.Coord.{Coord}
use Rattle.sg_coord.specs.Bounds.{Bounds}
use Rattle.sg_coord.specs.Coord.{Inside}
use Rattle.sg_activate.specs.Activating.{wanted_below}
use Rattle.sg_convert.specs.steps.Parts.{part_of}

take_add : (n m : ℕ) (coords : List Coord) → take (n + m) coords ≡ take n coords ++ take m (drop n coords)
take_add zero m coords = let on : zero + m ≡ m = omega arith in ap (λ k. take k coords) on
take_add (suc n) m [] = take_all (suc n + m) [] (omega arith) ∙ sym (take_all m [] (omega arith))
take_add (suc n) m (at ∷ coords) =
    let on : suc n + m ≡ suc (n + m) = omega arith in
    ap (λ k. take k (at ∷ coords)) on ∙ ap (λ (list : List Coord). at ∷ list) (take_add n m coords)

parts_below : (coords : List Coord) (each : ℕ) (list : ℕ → List Coord) → ((piece : ℕ) → list piece ≡ part_of coords each piece) → (count : ℕ) → wanted_below list count ≡ take (count * each) coords
parts_below coords each list means zero = let none : 0 ≡ zero * each = omega arith in ap (λ n. take n coords) none
parts_below coords each list means (suc count) =
    let on : count * each + each ≡ suc count * each = omega arith in
    ap (λ (xs : List Coord). xs ++ list count) (parts_below coords each list means count)
    ∙ ap (λ (xs : List Coord). take (count * each) coords ++ xs) (means count)
    ∙ sym (take_add (count * each) each coords) ∙ ap (λ n. take n coords) on

pub parts_are : (coords : List Coord) (each : ℕ) (list : ℕ → List Coord) → ((piece : ℕ) → list piece ≡ part_of coords each piece) → (count : ℕ) → length coords ≤ count * each → wanted_below list count ≡ coords
parts_are coords each list means count all = parts_below coords each list means count ∙ take_all (count * each) coords all

pub part_inside : (bounds : Bounds) (coords : List Coord) (each piece : ℕ) → All (Inside bounds) coords → All (Inside bounds) (part_of coords each piece)
part_inside bounds coords each piece all = All-take (Inside bounds) each (drop (piece * each) coords) (All-drop (Inside bounds) (piece * each) coords all)

pub parts_inside : (bounds : Bounds) (coords : List Coord) (each : ℕ) (list : ℕ → List Coord) → All (Inside bounds) coords → ((piece : ℕ) → list piece ≡ part_of coords each piece) → (piece : ℕ) → All (Inside bounds) (list piece)
parts_inside bounds coords each list all means piece =
    All-same (Inside bounds) (list piece) (part_of coords each piece) (means piece) (part_inside bounds coords each piece all)
