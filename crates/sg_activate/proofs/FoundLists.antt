-- What was found, list after list: nothing, or some coordinate.
use Rattle.std.proofs.Common.{◌≡◌, ℕ, zero, ◌+◌, ◌<◌, ◌≤◌, List, [], ◌∷◌, ◌++◌, length, get_or, take, refl, sym, ap, ◌∙◌, subst, arith}
use Rattle.std.specs.List.{Contains}
use Rattle.std.proofs.lemmas.List.{take_more, take_all}
use Rattle.std.proofs.lemmas.List.Elements.{Contains-get_or}
use Rattle.sg_coord.specs.declared.coord.Coord.{Coord}
use Rattle.sg_activate.specs.declared.found.Found.{Found}
use Rattle.sg_activate.specs.declared.found.Finds.{Finds}
use Rattle.sg_activate.specs.steps.Finding.{coord_found, coords_found, found_in}
use Rattle.sg_activate.proofs.Asked.{found-append, in_found}

-- a list more that is empty
pub none_more : (axes : ℕ) (found : List Finds) (i : ℕ) (d : Finds) → i < length found → length (get_or found i d).list ≡ 0 → found_in axes (take i found) ≡ [] → found_in axes (take (i + 1) found) ≡ []
none_more axes found i d below empty before =
    ap (found_in axes) (take_more found i d below) ∙ found-append axes (take i found) (get_or found i d ∷ []) ∙ ap (λ l. l ++ (coords_found axes (get_or found i d).list ++ [])) before ∙ none_of (get_or found i d).list empty
  where
    none_of : (list : List Found) → length list ≡ 0 → coords_found axes list ++ [] ≡ []
    none_of [] e = refl
    none_of (x ∷ xs) e = absurd (omega arith)

pub none_all : (axes : ℕ) (found : List Finds) (i : ℕ) → length found ≤ i → found_in axes (take i found) ≡ [] → found_in axes found ≡ []
none_all axes found i all none = ap (found_in axes) (sym (take_all i found all)) ∙ none

-- a list that isn't empty
pub one_there : (axes : ℕ) (found : List Finds) (i : ℕ) (d : Finds) → i < length found → 0 < length (get_or found i d).list → (at : Coord) × Contains (found_in axes found) at
one_there axes found i d below some = there (get_or found i d) (Contains-get_or found i d below) some
  where
    there : (finds : Finds) → Contains found finds → 0 < length finds.list → (at : Coord) × Contains (found_in axes found) at
    there finds is some = go finds.list refl some
      where
        go : (list : List Found) → finds.list ≡ list → 0 < length list → (at : Coord) × Contains (found_in axes found) at
        go [] e some = absurd (omega arith)
        go (x ∷ xs) e some = (coord_found axes x, in_found axes found finds is (coord_found axes x) (subst (λ l. Contains (coords_found axes l) (coord_found axes x)) (sym e) (zero, omega arith, refl)))
