-- Tables of keys by linear probing: a key word is 0 if its place is empty, else one more than a key.
use Rattle.std.specs.Prelude.{◌≡◌, ◌≢◌, ℕ, ◌+◌, ◌-◌, ◌<◌, ◌≤◌, ◌^◌, ◌%◌, ◌==◌, if◌then◌else◌, Option, Some, None, List, [], ◌∷◌, length, slice_index}
use Rattle.sg_words.specs.RaceMachine.{home}

-- the places in a key's order: its first is `home`, the high part of a product, so that keys at equal distances go to places far
-- apart; each next one follows, and the last is followed by the first
abbrev pub place : ℕ → ℕ → ℕ → ℕ
place places key turn = (home places key + turn) % places

-- a key word whose place isn't empty, and holds another key than this one
abbrev pub HoldsOther : ℕ → ℕ → Type 0
HoldsOther word key = (word ≢ 0) × (word ≢ key + 1)

-- the first so many places of a key's order hold other keys
abbrev pub Passes : List ℕ → ℕ → ℕ → Type 0
Passes keys key turn = (j : ℕ) → j < turn → HoldsOther (slice_index keys (place (length keys) key j)) key

-- where a key stands, the places before that one in its order hold other keys
abbrev pub IsTable : List ℕ → Type 0
IsTable keys = (key turn : ℕ) → turn < length keys →
    slice_index keys (place (length keys) key turn) ≡ key + 1 → Passes keys key turn

-- a link, one more than a number, stands exactly when a key stands
pub record AreBeside (keys links : List ℕ) : Type 0 where
  pub many : length keys ≡ length links
  pub linked : (p : ℕ) → p < length keys → slice_index keys p ≢ 0 → (0 < slice_index links p) × (slice_index links p ≤ 2 ^ 32)
  pub empty : (p : ℕ) → p < length keys → slice_index keys p ≡ 0 → slice_index links p ≡ 0

-- the number that stands beside a key, wherever the key stands: no probing
abbrev pub beside : List ℕ → List ℕ → ℕ → Option ℕ
beside [] links key = None
beside (word ∷ keys) [] key = None
beside (word ∷ keys) (link ∷ links) key = if word == key + 1 then Some (link - 1) else beside keys links key

-- no place holds the key
abbrev pub IsAbsent : List ℕ → ℕ → Type 0
IsAbsent keys key = (p : ℕ) → p < length keys → slice_index keys p ≢ key + 1

-- every place holds another key
abbrev pub IsFull : List ℕ → ℕ → Type 0
IsFull keys key = (p : ℕ) → p < length keys → HoldsOther (slice_index keys p) key
