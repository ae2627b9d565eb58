-- The coordinates of a look's lists, one after the other.
use Rattle.std.proofs.Common.{◌≡◌, ℕ, ◌+◌, ◌<◌, List, [], ◌∷◌, ◌++◌, length, take, get_or, sym, ap, ◌∙◌, append_assoc, append-nil}
use Rattle.std.proofs.lemmas.List.{take_more}
use Rattle.sg_coord.specs.declared.coord.Coord.{Coord}
use Rattle.sg_activate.specs.declared.found.Found.{Found}
use Rattle.sg_activate.specs.declared.found.Finds.{Finds}
use Rattle.sg_activate.specs.steps.Finding.{coord_found, coords_found, found_in}
use Rattle.sg_activate.proofs.Asked.{coords-append, found-append}

-- ---- one coordinate more of a list
pub coords_more : (axes : ℕ) (before coords now : List Coord) (list : List Found) (i : ℕ) (found : Found) → i < length list → coords ≡ before ++ coords_found axes (take i list)
    → now ≡ coords ++ coord_found axes (get_or list i found) ∷ [] → now ≡ before ++ coords_found axes (take (i + 1) list)
coords_more axes before coords now list i found below so_far pushed =
    pushed
    ∙ ap (λ l. l ++ coord_found axes (get_or list i found) ∷ []) so_far
    ∙ append_assoc before (coords_found axes (take i list)) (coord_found axes (get_or list i found) ∷ [])
    ∙ ap (λ l. before ++ l) (sym (coords-append axes (take i list) (get_or list i found ∷ [])))
    ∙ ap (λ fs. before ++ coords_found axes fs) (sym (take_more list i found below))

-- ---- one list more
pub lists_more : (axes : ℕ) (coords now : List Coord) (lists : List Finds) (i : ℕ) (finds : Finds) → i < length lists → coords ≡ found_in axes (take i lists)
    → now ≡ coords ++ coords_found axes (get_or lists i finds).list → now ≡ found_in axes (take (i + 1) lists)
lists_more axes coords now lists i finds below so_far added =
    added
    ∙ ap (λ l. l ++ coords_found axes (get_or lists i finds).list) so_far
    ∙ ap (λ l. found_in axes (take i lists) ++ l) (sym (append-nil (coords_found axes (get_or lists i finds).list)))
    ∙ sym (found-append axes (take i lists) (get_or lists i finds ∷ []))
    ∙ ap (found_in axes) (sym (take_more lists i finds below))
