-- Slots that get the numbers of a stock: what a pass over them is given, and what it leaves. A slot word is 0, or one more than its number.
use Rattle.std.specs.Prelude.{◌≡◌, ◌≢◌, refl, ℕ, ◌+◌, ◌-◌, ◌^◌, ◌<◌, ◌≤◌, Bool, true, not, ◌&&◌, ◌==◌, nat_lt, if◌then◌else◌, List, [], ◌∷◌, length, Option, None, Some, slice_index}
use Rattle.sg_words.specs.declared.race.Worker.{Worker}
use Rattle.sg_words.specs.Counts.{one, total, times_in, pairs, firsts}

-- each link is 0 or one more than a number of 32 bits
abbrev pub AreLinks : List ℕ → Type 0
AreLinks links = (i : ℕ) → slice_index links i ≤ 2 ^ 32

-- the stock's numbers are distinct, and in no link
pub record IsFreshStock (links stock : List ℕ) : Type 0 where
  pub distinct : (t u : ℕ) → t < length stock → u < length stock → slice_index stock t ≡ slice_index stock u → t ≡ u
  pub unlinked : (t i : ℕ) → t < length stock → slice_index links i ≢ slice_index stock t + 1

-- a worker holds a ticket past the stock
abbrev pub is_dry : Worker → Bool
is_dry v = nat_lt 0 (firsts 0 v.past)

-- two views of one seat, between which it neither split nor was joined
pub record SameTeam (v w : Worker) : Type 0 where
  pub told : w.told ≡ v.told
  pub size : w.size ≡ v.size
  pub share : w.share ≡ v.share
  pub back : w.back ≡ v.back
  pub left : w.left ≡ v.left

-- the spare that a seat holds, as the list of its view
abbrev pub listed : Option ℕ → List (ℕ × ℕ)
listed None = []
listed (Some t) = (0, t) ∷ []

-- how many words aren't 0
abbrev pub full_words : List ℕ → ℕ
full_words words = total (λ w. one (not (w == 0))) words

-- the numbers of the new links, slot after slot
abbrev pub taken_of : List ℕ → List ℕ → List ℕ
taken_of [] new = []
taken_of (o ∷ os) [] = []
taken_of (o ∷ os) (n ∷ ns) = if (o == 0) && not (n == 0) then ((n - 1) ∷ taken_of os ns) else taken_of os ns

-- the numbers of a list that don't pass a test
abbrev pub outside : (ℕ → Bool) → List ℕ → List ℕ
outside test [] = []
outside test (x ∷ xs) = if test x then outside test xs else (x ∷ outside test xs)

-- whether a number stands in a list
abbrev pub stands_in : List ℕ → ℕ → Bool
stands_in numbers x = nat_lt 0 (times_in x numbers)

-- The slot words at the end, by what the last seat has done and seen: old links stay; what was seen is there; the new links are those that
-- were made, of the stock, each number in one slot. It ran dry if it holds a ticket past the stock, and then, where the stock had 17 more
-- numbers than the free places of a pool of c, more than c slots are linked
pub record Settled (old stock : List ℕ) (v : Worker) (new : List ℕ) (dry : Bool) : Type 0 where
  pub long : length new ≡ length old
  pub stay : (i : ℕ) → 0 < slice_index old i → slice_index new i ≡ slice_index old i
  pub seen : (i n : ℕ) → 0 < pairs i n v.seen → slice_index new i ≡ n + 1
  pub made : (i t : ℕ) → 0 < pairs i t v.made → (slice_index old i ≡ 0) × (t < length stock) × (slice_index new i ≡ slice_index stock t + 1)
  pub bare : (i : ℕ) → slice_index old i ≡ 0 → firsts i v.made ≡ 0 → slice_index new i ≡ 0
  pub of_stock : (i : ℕ) → slice_index old i ≡ 0 → 0 < slice_index new i → (t : ℕ) × (t < length stock) × (slice_index new i ≡ slice_index stock t + 1)
  pub once : (i j : ℕ) → slice_index old i ≡ 0 → 0 < slice_index new i → slice_index new i ≡ slice_index new j → i ≡ j
  pub ran_dry : dry ≡ is_dry v
  pub filled : (c : ℕ) → length stock + full_words old ≡ c + 17 → dry ≡ true → c < full_words new

-- the drawn numbers that aren't linked: those of the tickets that are spares of the last seat or were left to it, at most as many as workers
pub record AreSpares (stock : List ℕ) (v : Worker) (spares : List ℕ) : Type 0 where
  pub stand : (t : ℕ) → t < length stock → times_in (slice_index stock t) spares ≡ pairs 0 t v.spare + pairs 0 t v.left
  pub of_stock : (x : ℕ) → 0 < times_in x spares → (t : ℕ) × (t < length stock) × (slice_index stock t ≡ x)
  pub few : length spares ≤ v.size

-- worked equations
taken-of_three : taken_of (0 ∷ 5 ∷ 0 ∷ 0 ∷ []) (8 ∷ 5 ∷ 0 ∷ 3 ∷ []) ≡ 7 ∷ 2 ∷ []
taken-of_three = refl

full-of_three : full_words (8 ∷ 5 ∷ 0 ∷ 3 ∷ []) ≡ 3
full-of_three = refl

outside_two : outside (stands_in (7 ∷ 2 ∷ [])) (2 ∷ 4 ∷ 7 ∷ 9 ∷ []) ≡ 4 ∷ 9 ∷ []
outside_two = refl
