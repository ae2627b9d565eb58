-- When a row and heads keep lists, and what is laid of them.
use Rattle.std.specs.Prelude.{◌≡◌, ℕ, ◌+◌, ◌-◌, ◌<◌, ◌^◌, true, Bool, List, [], ◌∷◌, length, slice_index, slice_index_or}
use Rattle.sg_links.specs.declared.head.Head.{Head}
use Rattle.sg_links.specs.Lists.{AreDisjoint}
use Rattle.sg_links.specs.Heads.{lists_of}

-- along the row the numbers of the list come one after the other, and then the end
abbrev pub IsPath : List ℕ → ℕ → List ℕ → ℕ → Type 0
IsPath next x [] end = x ≡ end
IsPath next x (y ∷ ys) end = (y ≡ x) × IsPath next (slice_index next x) ys end

-- a head leads along its list, past the last number, which it names
pub record IsLinked (next : List ℕ) (head : Head) (list : List ℕ) : Type 0 where
  pub as_long : head.len ≡ length list
  pub path : IsPath next head.first list (length next)
  pub last : 0 < length list → head.last ≡ slice_index list (length list - 1)

-- what stands for a head past the last one; its numbers mean nothing
abbrev pub no_head : Head
no_head = record { first = 0; last = 0; len = 0 }

-- a row and heads keep these disjoint lists: each head leads along the list at its place; numbers and heads are each fewer than 2 ^ 32
pub record AreLinked (next : List ℕ) (heads : List Head) (lists : List (List ℕ)) : Type 0 where
  pub as_many : length heads ≡ length lists
  pub linked : (i : ℕ) → i < length lists → IsLinked next (slice_index_or heads i no_head) (slice_index_or lists i [])
  pub disjoint : AreDisjoint (record { numbers = length next; lists = lists })
  pub few : length next < 2 ^ 32
  pub few_heads : length heads < 2 ^ 32

-- the list that a head leads along
abbrev pub list_at : List ℕ → List Head → ℕ → List ℕ
list_at next heads head = slice_index_or (lists_of next heads) head []

-- the numbers of a list stand in an order one after the other, from a place on
abbrev pub IsLaid : List ℕ → ℕ → List ℕ → Type 0
IsLaid list start order = (k : ℕ) → k < length list → slice_index order (start + k) ≡ slice_index list k

-- so do those of the first lists, each from a start of its own, and all before an end
pub record AreLaid (count : ℕ) (lists : List (List ℕ)) (starts order : List ℕ) (end : ℕ) : Type 0 where
  pub laid : (i : ℕ) → i < count → IsLaid (slice_index_or lists i []) (slice_index starts i) order
  pub within : (i : ℕ) → i < count → (k : ℕ) → k < length (slice_index_or lists i []) → slice_index starts i + k < end

-- a row and heads keep lists, and where they are arranged all are laid
pub record AreInOrder (next : List ℕ) (heads : List Head) (starts order : List ℕ) (arranged : Bool) : Type 0 where
  pub linked : AreLinked next heads (lists_of next heads)
  pub starts_many : length starts ≡ length heads
  pub order_many : length order ≡ length next
  pub laid : arranged ≡ true → AreLaid (length heads) (lists_of next heads) starts order (length next)
