-- Parts of a list of places, one after the other.
use Rattle.std.specs.Prelude.{◌≡◌, refl, ℕ, suc, ◌-◌, nat_lt, if◌then◌else◌, List, [], ◌∷◌, take}
use Rattle.sg_words.specs.Counts.{total}

-- how many places parts with so many places each have, and how many those before one
abbrev pub places_in : List ℕ → ℕ
places_in sizes = total (λ n. n) sizes

abbrev pub first_of : List ℕ → ℕ → ℕ
first_of sizes part = places_in (take part sizes)

-- the part in which a place stands; past the last, how many parts there are
abbrev pub part_of : List ℕ → ℕ → ℕ
part_of [] i = 0
part_of (n ∷ ns) i = if nat_lt i n then 0 else suc (part_of ns (i - n))

-- and its number within that part
abbrev pub place_in_part : List ℕ → ℕ → ℕ
place_in_part [] i = i
place_in_part (n ∷ ns) i = if nat_lt i n then i else place_in_part ns (i - n)

-- worked: parts of 2, 3 and 4 places
second_part : part_of (2 ∷ 3 ∷ 4 ∷ []) 4 ≡ 1
second_part = refl

last_part : place_in_part (2 ∷ 3 ∷ 4 ∷ []) 7 ≡ 2
last_part = refl

past_all : part_of (2 ∷ 3 ∷ 4 ∷ []) 9 ≡ 3
past_all = refl

third_begins : first_of (2 ∷ 3 ∷ 4 ∷ []) 2 ≡ 5
third_begins = refl
