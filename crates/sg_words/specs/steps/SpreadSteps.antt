-- Place after place is marked, along the links from it.
use Rattle.std.specs.Prelude.{◌≡◌, ℕ, ◌+◌, Bool, true, ◌==◌, List, [], ◌∷◌, ◌++◌, map, length, get_or, if◌then◌else◌}
use Rattle.std.specs.List.{filter}
use Rattle.sg_words.specs.declared.spreads.Link.{Link}
use Rattle.sg_words.specs.Spread.{bears_mark}

-- where the links from a place lead
abbrev pub targets_of : List Link → ℕ → List ℕ
targets_of links place = map (λ link. link.to) (filter (λ link. link.from == place) links)

-- the place has its mark, and where links lead from it is to be marked, unless it had one already
abbrev pub IsVisited : List (List ℕ) → ℕ → List Bool → List ℕ → List Bool → List ℕ → Type 0
IsVisited targets place marks work marks_after work_after =
    ((other : ℕ) → bears_mark marks_after other ≡ (if other == place then true else bears_mark marks other))
    × (work_after ≡ work ++ (if bears_mark marks place then [] else get_or targets place []))

-- how many links lead from places without a mark, where the first of the list is the place with the given number
abbrev pub links_waiting : (ℕ → Bool) → ℕ → List (List ℕ) → ℕ
links_waiting has_mark place [] = 0
links_waiting has_mark place (targets ∷ more) = (if has_mark place then 0 else length targets) + links_waiting has_mark (place + 1) more
