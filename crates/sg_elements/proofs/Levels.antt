-- What the levels of the walk contain: exactly the paths along which the store leads, each once.
use Rattle.std.proofs.Common.{◌≡◌, ◌≢◌, ℕ, zero, suc, ◌<◌, ◌≤◌, true, List, [], ◌∷◌, ◌++◌, length, map, take, slice_index, refl, sym, ap, ◌∙◌, subst, inl, inr, arith, zero-add}
use Rattle.std.specs.List.{Contains, range_with_len}
use Rattle.std.proofs.lemmas.List.{same_from_push}
use Rattle.std.proofs.lemmas.List.FromFn.{length-range_with_len, get_or-range_with_len}
use Rattle.std.proofs.lemmas.List.Kept.{AllPairs-filter}
use Rattle.sg_words.proofs.Uses.{contains_none, contains_head, contains_cases, from_map, into_map, from_filter, into_filter}
use Rattle.sg_layout.specs.declared.shape.NodeShape.{NodeShape}
use Rattle.sg_layout.specs.Axes.{sizes_of}
use Rattle.sg_layout.specs.Slots.{IsSlot}
use Rattle.sg_store.specs.StoreWords.{StoreWords}
use Rattle.sg_elements.specs.steps.Levels.{is_led, led_below, node_size, level_at}
use Rattle.sg_elements.proofs.Lists.{from_flat_map, into_flat_map, AreApart, apart_flat_map, apart_map}
use Rattle.sg_elements.proofs.Paths.{slot_length, slot_push, slot_cut, led_front}

-- ---- numbers in a range

pub in_range : (size k : ℕ) → k < size → Contains (range_with_len 0 size) k
in_range size k below = (k, omega (arith, length-range_with_len 0 size), get_or-range_with_len 0 size k k below ∙ zero-add k)

pub below_range : (size k : ℕ) → Contains (range_with_len 0 size) k → k < size
below_range size k (i, below, is) =
    let there : i < size = omega (arith, length-range_with_len 0 size) in
    omega (arith, get_or-range_with_len 0 size i k there, is)

range_apart : (size : ℕ) → AreApart (range_with_len 0 size)
range_apart size i j d less below same =
    let there : j < size = omega (arith, length-range_with_len 0 size) in
    omega (arith, get_or-range_with_len 0 size j d there, get_or-range_with_len 0 size i d (omega arith))

-- ---- the paths below one

abbrev paths_below : ℕ → List ℕ → List (List ℕ)
paths_below size path = map (λ offset. path ++ offset ∷ []) (range_with_len 0 size)

-- such a path is the one above it with an offset after it
pub record IsBelow (store : StoreWords) (size : ℕ) (above path : List ℕ) : Type 0 where
  pub offset : ℕ
  pub below : offset < size
  pub is : above ++ offset ∷ [] ≡ path
  pub led : is_led store path ≡ true

from_below : (store : StoreWords) (size : ℕ) (above path : List ℕ) → Contains (led_below store size above) path → IsBelow store size above path
from_below store size above path has =
    let kept = from_filter (is_led store) (paths_below size above) path has in
    let found = from_map (λ (offset : ℕ). above ++ offset ∷ []) (range_with_len 0 size) path kept.0 in
    record { offset = found.0; below = below_range size found.0 found.1; is = found.2; led = kept.1 }

into_below : (store : StoreWords) (size : ℕ) (above path : List ℕ) → IsBelow store size above path → Contains (led_below store size above) path
into_below store size above path is =
    let there = into_map (λ (offset : ℕ). above ++ offset ∷ []) (range_with_len 0 size) is.offset (in_range size is.offset is.below) in
    into_filter (is_led store) (paths_below size above) path (let P : List ℕ → Type 0 = λ list. Contains (paths_below size above) list in subst P is.is there) is.led

below_apart : (store : StoreWords) (size : ℕ) (above : List ℕ) → AreApart (led_below store size above)
below_apart store size above =
    AllPairs-filter (λ (x y : List ℕ). x ≢ y) (is_led store) (paths_below size above)
    (apart_map (λ (offset : ℕ). above ++ offset ∷ []) (range_with_len 0 size) (λ x y p q same. (same_from_push above above x y same).1) (range_apart size))

-- ---- a level

slot_more : (nodes : List NodeShape) (n : ℕ) (slot : List ℕ) (offset : ℕ) → n < length nodes → IsSlot (take n nodes) slot → offset < slice_index (sizes_of nodes) n → IsSlot (take (suc n) nodes) (slot ++ offset ∷ [])
slot_more nodes n slot offset there is below =
    let many : length slot ≡ n = slot_length nodes n slot (omega arith) is in
    let P : ℕ → Type 0 = λ k. IsSlot (take (suc k) nodes) (slot ++ offset ∷ []) in
    let Q : ℕ → Type 0 = λ k. IsSlot (take k nodes) slot in
    let R : ℕ → Type 0 = λ k. offset < slice_index (sizes_of nodes) k in
    subst P many (slot_push nodes slot offset (omega arith) (subst Q (sym many) is) (subst R (sym many) below))

pub from_level : (store : StoreWords) (n : ℕ) (path : List ℕ) → n ≤ length store.shape.nodes → Contains (level_at store n) path → IsSlot (take n store.shape.nodes) path × (is_led store path ≡ true)
from_level store zero path few has = elim (contains_cases path [] [] has) [
  | inl same ↦ (let P : List ℕ → Type 0 = λ list. IsSlot (take 0 store.shape.nodes) list × (is_led store list ≡ true) in subst P same (tt, refl))
  | inr later ↦ absurd (contains_none path later)
]
from_level store (suc n) path few has =
    let found = from_flat_map (led_below store (node_size store n)) (level_at store n) path has in
    let above = from_level store n found.0 (omega arith) found.1 in
    let here = from_below store (node_size store n) found.0 path found.2 in
    let slot = slot_more store.shape.nodes n found.0 here.offset (omega arith) above.0 here.below in
    let P : List ℕ → Type 0 = λ list. IsSlot (take (suc n) store.shape.nodes) list in
    (subst P here.is slot, here.led)

pub into_level : (store : StoreWords) (n : ℕ) (path : List ℕ) → n ≤ length store.shape.nodes → IsSlot (take n store.shape.nodes) path → is_led store path ≡ true → Contains (level_at store n) path
into_level store zero [] few is led = contains_head [] [] [] refl
into_level store zero (x ∷ path) few is led = absurd is
into_level store (suc n) path few is led =
    let cut = slot_cut store.shape.nodes n path (omega arith) is in
    let whole : is_led store (cut.front ++ cut.offset ∷ []) ≡ true = ap (is_led store) cut.is ∙ led in
    let above = into_level store n cut.front (omega arith) cut.is_slot (led_front store cut.front (cut.offset ∷ []) whole) in
    into_flat_map (led_below store (node_size store n)) (level_at store n) cut.front path above
    (into_below store (node_size store n) cut.front path (record { offset = cut.offset; below = cut.below; is = cut.is; led = led }))

pub level_apart : (store : StoreWords) (n : ℕ) → AreApart (level_at store n)
level_apart store zero = λ i j d less below. absurd (omega arith)
level_apart store (suc n) =
    apart_flat_map (led_below store (node_size store n)) (level_at store n) (level_apart store n) (below_apart store (node_size store n))
    (λ x y z p q here there.
    let one = from_below store (node_size store n) x z here in
    let other = from_below store (node_size store n) y z there in
    (same_from_push x y one.offset other.offset (one.is ∙ sym other.is)).0)
