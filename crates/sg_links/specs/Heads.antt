-- How lists are kept: a row of next numbers, and for each list where it begins, where it ends and how many numbers it has.
use Rattle.std.specs.Prelude.{ℕ, zero, suc, List, [], ◌∷◌, map, slice_index}
use Rattle.sg_links.specs.declared.head.Head.{Head}

-- so many numbers along the row
abbrev pub numbers_along : List ℕ → ℕ → ℕ → List ℕ
numbers_along next x zero = []
numbers_along next x (suc k) = x ∷ numbers_along next (slice_index next x) k

-- the lists that heads lead along, one for each head: from its first number on, as many along the row as it counts
abbrev pub lists_of : List ℕ → List Head → List (List ℕ)
lists_of next heads = map (λ head. numbers_along next head.first head.len) heads
