-- The map of a list of files, read by name.
use Rattle.std.proofs.Common.{◌≡◌, ℕ, List, [], ◌∷◌, cond, Some, refl, ap, ◌∙◌}
use Rattle.std.specs.Ordering.{nat_cmp}
use Rattle.std.specs.Cmp.Lexicographic.{slice_cmp, nat_list_cmp_total}
use Rattle.std.specs.FinMap.{get, find, from_entries, get-from_entries}
use Rattle.std.proofs.lemmas.Map.Text.{is_eq-slice_cmp}
use Rattle.sg_outside.specs.MemFiles.{bytes_named}

-- the entry that the map's order finds is the first file of that name
find_named : (files : List (List ℕ × List ℕ)) (name : List ℕ) → find (slice_cmp nat_cmp) name files ≡ bytes_named files name
find_named [] name = refl
find_named (file ∷ files) name =
    ap (λ b. cond b (Some file.1) (find (slice_cmp nat_cmp) name files)) (is_eq-slice_cmp name file.0)
    ∙ ap (cond _ (Some file.1)) (find_named files name)

-- the map has the bytes of the first file of each name
pub get_named : (files : List (List ℕ × List ℕ)) (name : List ℕ) → get (from_entries {R = slice_cmp nat_cmp} files) name ≡ bytes_named files name
get_named files name = get-from_entries nat_list_cmp_total files name ∙ find_named files name
