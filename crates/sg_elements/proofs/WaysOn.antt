-- The ways of a node: over all its offsets, and over the keys of a hash node alone.
use Rattle.std.proofs.Common.{◌≡◌, ℕ, zero, suc, ◌*◌, ◌<◌, ◌≤◌, Bool, List, [], ◌∷◌, ◌++◌, length, map, filter, take, get_or, slice_index, is_some, Result, Ok, Err, refl, sym, ap, ◌∙◌, subst, inl, inr, zero-add, arith}
use Rattle.std.specs.List.{All, Contains, range_with_len}
use Rattle.std.specs.Result.{IfOk}
use Rattle.std.proofs.lemmas.List.{length-map, get_or-map}
use Rattle.std.proofs.lemmas.List.FromFn.{length-range_with_len, get_or-range_with_len}
use Rattle.std.proofs.lemmas.List.Elements.{All-filter, filter_passes, All-contains_itself}
use Rattle.sg_words.proofs.Uses.{contains_none, contains_cases, filter_all}
use Rattle.sg_coord.specs.Bounds.{Bounds, volume, IsBounds}
use Rattle.sg_coord.specs.Coord.{Inside}
use Rattle.sg_layout.specs.declared.shape.Kind.TheVariants.{Hash, Dynamic}
use Rattle.sg_layout.specs.declared.shape.NodeShape.{NodeShape}
use Rattle.sg_layout.specs.declared.shape.Shape.{Shape}
use Rattle.sg_layout.specs.Accepted.{IsAccepted}
use Rattle.sg_layout.specs.Axes.{size_of, sizes_of, slots_of, bounds_of_shape}
use Rattle.sg_layout.specs.Live.{kind_at}
use Rattle.sg_layout.specs.PathLaws.{SlotIsReached, CoordinateOfPath}
use Rattle.sg_layout.specs.Slots.{IsSlot, share_at}
use Rattle.sg_store.specs.StoreWords.{StoreWords}
use Rattle.sg_store.specs.Walks.{cell_along}
use Rattle.sg_store.specs.Spots.{root_offsets}
use Rattle.sg_elements.specs.declared.ways.Way.{Way}
use Rattle.sg_elements.specs.steps.Levels.{is_led, led_over, led_below, level_at, node_size, share_row, SharesInside, way_of, offsets_of, AreEnough, AreWays}
use Rattle.sg_elements.proofs.Lists.{filter-map}
use Rattle.sg_elements.proofs.Ends.{led_enough}
use Rattle.sg_elements.proofs.Levels.{below_range}
use Rattle.sg_elements.proofs.Paths.{coordinate_inside, share_inside}

offsets_back : (store : StoreWords) (node : ℕ) (offsets : List ℕ) → offsets_of (map (way_of store.shape node) offsets) ≡ offsets
offsets_back store node [] = refl
offsets_back store node (offset ∷ offsets) = ap (λ (list : List ℕ). offset ∷ list) (offsets_back store node offsets)

pub ways_are : (store : StoreWords) (node : ℕ) (ways : List Way) (offsets : List ℕ) → ways ≡ map (way_of store.shape node) offsets → All (λ offset. offset < node_size store node) offsets
    → ((path : List ℕ) → Contains (level_at store node) path → led_over store path offsets ≡ led_below store (node_size store node) path)
    → (kind_at store.shape.nodes (suc node) ≡ Dynamic → (i : ℕ) → i < length offsets → get_or offsets i 0 ≡ i) → AreWays store node ways
ways_are store node ways offsets are below all first =
    subst (AreWays store node) (sym are) (record {
      below = λ i d less. (let here : i < length offsets = omega (arith, less, length-map offsets (way_of store.shape node)) in
          subst (λ (way : Way). way.offset < node_size store node) (sym (get_or-map (way_of store.shape node) offsets i 0 d here)) (below i 0 here));
      shares = λ i d less. (let here : i < length offsets = omega (arith, less, length-map offsets (way_of store.shape node)) in
          subst (λ (way : Way). way.share ≡ share_row store.shape node way.offset) (sym (get_or-map (way_of store.shape node) offsets i 0 d here)) refl);
      all = λ path there. ap (led_over store path) (offsets_back store node offsets) ∙ all path there;
      first = λ lists i d less. (let here : i < length offsets = omega (arith, less, length-map offsets (way_of store.shape node)) in
          ap (λ (way : Way). way.offset) (get_or-map (way_of store.shape node) offsets i 0 d here) ∙ first lists i here);
    })

pub all_below : (size : ℕ) → All (λ offset. offset < size) (range_with_len 0 size)
all_below size i d less =
    below_range size (get_or (range_with_len 0 size) i d) (All-contains_itself (range_with_len 0 size) i d less)

first_below : (count size : ℕ) → count ≤ size → All (λ offset. offset < size) (range_with_len 0 count)
first_below count size few i d less = let here = all_below count i d less in omega arith

-- ---- the keys of a hash node

pub roots_below : (store : StoreWords) → All (λ offset. offset < node_size store 0) (root_offsets store)
roots_below store =
    All-filter (λ offset. is_some (cell_along store (offset ∷ []))) (λ offset. offset < node_size store 0) (range_with_len 0 (node_size store 0)) (all_below (node_size store 0))

pub roots_all : (store : StoreWords) (path : List ℕ) → Contains (level_at store 0) path → led_over store path (root_offsets store) ≡ led_below store (node_size store 0) path
roots_all store (x ∷ path) there = elim (contains_cases (x ∷ path) [] [] there) [
  | inl same ↦ absurd (cc)
  | inr later ↦ absurd (contains_none (x ∷ path) later)
]
roots_all store [] there =
    let test : ℕ → Bool = λ offset. is_some (cell_along store (offset ∷ [])) in
    let range = range_with_len 0 (node_size store 0) in
    filter-map (λ (offset : ℕ). [] ++ offset ∷ []) (is_led store) (root_offsets store)
    ∙ ap (map (λ (offset : ℕ). [] ++ offset ∷ [])) (filter_all test (filter test range) (filter_passes test range))
    ∙ sym (filter-map (λ (offset : ℕ). [] ++ offset ∷ []) (is_led store) range)

-- ---- what offsets add to a coordinate is inside

abbrev zeros : ℕ → List ℕ
zeros zero = []
zeros (suc n) = 0 ∷ zeros n

zeros_long : (n : ℕ) → length (zeros n) ≡ n
zeros_long zero = refl
zeros_long (suc n) = ap suc (zeros_long n)

some_parts : (x y : ℕ) → 1 ≤ x * y → (1 ≤ x) × (1 ≤ y)
some_parts zero y some = absurd (omega (arith, some))
some_parts (suc x) zero some = absurd (omega (arith, some))
some_parts (suc x) (suc y) some = (omega arith, omega arith)

some_product : (x y : ℕ) → 1 ≤ x → 1 ≤ y → 1 ≤ x * y
some_product zero y one two = absurd (omega (arith, one))
some_product (suc x) zero one two = absurd (omega (arith, two))
some_product (suc x) (suc y) one two = omega arith

-- if each node has a slot, an offset after zeros is one
zeros_slot : (nodes : List NodeShape) (n offset : ℕ) → 1 ≤ slots_of nodes → n < length nodes → offset < slice_index (sizes_of nodes) n → IsSlot (take (suc n) nodes) (zeros n ++ offset ∷ [])
zeros_slot [] n offset some few below = absurd (omega arith)
zeros_slot (node ∷ later) zero offset some few below = (below, tt)
zeros_slot (node ∷ later) (suc n) offset some few below =
    let parts = some_parts (size_of node.sizes) (slots_of later) some in
    (parts.0, zeros_slot later n offset parts.1 (omega arith) below)

pub shares_inside : (shape : Shape) (node : ℕ) → SlotIsReached shape → CoordinateOfPath shape → IsAccepted shape → slots_of shape.nodes ≡ volume (bounds_of_shape shape) → IsBounds (bounds_of_shape shape) → node < length shape.nodes → SharesInside shape node
shares_inside shape node reached whole accepted fill good there offset below =
    let e : Bounds = bounds_of_shape shape in
    let some : 1 ≤ slots_of shape.nodes = subst (λ n. 1 ≤ n) (sym fill) (some_product (e.a * e.b) e.c (some_product e.a e.b good.a_some good.b_some) good.c_some) in
    let slot = zeros_slot shape.nodes node offset some there below in
    let inside = coordinate_inside shape reached whole accepted (suc node) (zeros node ++ offset ∷ []) slot in
    let P : ℕ → Type 0 = λ n. Inside (bounds_of_shape shape) (share_at shape.axes shape.nodes n offset) in
    subst P (zeros_long node) (share_inside shape (zeros node) offset inside)

-- ---- as they are answered

pub keys_ok : (store : StoreWords) (node : ℕ) {E : Type 0} (r : Result (List Way) E) → node ≡ 0 → kind_at store.shape.nodes 1 ≡ Hash → IfOk r (λ ways. ways ≡ map (way_of store.shape 0) (root_offsets store)) → IfOk r (AreWays store node)
keys_ok store node (Ok ways) first hash are =
    subst (λ (n : ℕ). AreWays store n ways) (sym first) (ways_are store 0 ways (root_offsets store) are (roots_below store) (roots_all store) (λ lists. absurd (cc)))
keys_ok store node (Err e) first hash are = tt

-- those over so many first offsets
pub first_ok : (store : StoreWords) (shape : Shape) (node count : ℕ) {E : Type 0} (r : Result (List Way) E) → shape ≡ store.shape → count ≤ node_size store node → AreEnough store node count
    → IfOk r (λ ways. ways ≡ map (way_of shape node) (range_with_len 0 count)) → IfOk r (AreWays store node)
first_ok store shape node count (Ok ways) same few enough are =
    let own : ways ≡ map (way_of store.shape node) (range_with_len 0 count) = are ∙ ap (λ (s : Shape). map (way_of s node) (range_with_len 0 count)) same in
    ways_are store node ways (range_with_len 0 count) own (first_below count (node_size store node) few)
    (λ path there. led_enough store node count path few (enough path there))
    (λ lists i less. let here : i < count = omega (arith, length-range_with_len 0 count) in get_or-range_with_len 0 count i 0 here ∙ zero-add i)
first_ok store shape node count (Err e) same few enough are = tt
