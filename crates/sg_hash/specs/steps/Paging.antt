-- Words that are kept by pages of 64 places.
use Rattle.std.specs.Prelude.{◌≡◌, ◌≢◌, ℕ, zero, suc, ◌+◌, ◌-◌, ◌*◌, ◌/◌, ◌%◌, ◌^◌, ◌<◌, ◌≤◌, List, [], ◌∷◌, ◌++◌, length, map, replicate, slice_index}
use Rattle.std.specs.List.{range_with_len}

-- the word of a place, in the page that its 64 places have
abbrev pub paged_word : List ℕ → List ℕ → ℕ → ℕ
paged_word words pages place = slice_index words (64 * slice_index pages (place / 64) + place % 64)

-- the words of so many places
abbrev pub paged : List ℕ → List ℕ → ℕ → List ℕ
paged words pages places = map (paged_word words pages) (range_with_len 0 places)

-- how many pages stand
abbrev pub stood : List ℕ → ℕ
stood [] = 0
stood (zero ∷ pages) = stood pages
stood (suc page ∷ pages) = suc (stood pages)

-- items, and then the same one up to so many
abbrev pub filled_up : {A : Type 0} → List A → ℕ → A → List A
filled_up items many rest = items ++ replicate (many - length items) rest

-- Page 0 is zeros, for all places whose page doesn't stand; the pages that stand follow, each one's number in one place
pub record ArePages (words pages : List ℕ) (places : ℕ) : Type 0 where
  pub many : length pages ≤ places / 64 + 1
  pub long : length words ≡ 64 * (stood pages + 1)
  pub within : (page : ℕ) → slice_index pages page ≤ stood pages
  pub once : (x y : ℕ) → slice_index pages x ≢ 0 → slice_index pages x ≡ slice_index pages y → x ≡ y
  pub zeros : (at : ℕ) → at < 64 → slice_index words at ≡ 0

-- and there is room for all pages
abbrev pub IsKept : List ℕ → List ℕ → ℕ → ℕ → ℕ → Type 0
IsKept words pages places words_room pages_room = ArePages words pages places
    × (64 * (places / 64 + 2) ≤ words_room) × (places / 64 + 1 ≤ pages_room) × (places + 128 < 2 ^ 64)
