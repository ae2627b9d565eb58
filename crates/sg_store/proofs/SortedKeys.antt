-- The keys of a hash node in order are the offsets over which the root leads on.
use Rattle.std.proofs.Common.{◌≡◌, ◌≢◌, ℕ, zero, suc, ◌+◌, ◌-◌, ◌<◌, ◌≤◌, ◌^◌, Bool, true, cond, eqb, List, [], ◌∷◌, ◌++◌, length, map, filter, get_or, refl, sym, ap, ◌∙◌, subst, arith, zero-add}
use Rattle.std.specs.Prelude.{Option, Some, None, is_some, slice_get, slice_index}
use Rattle.std.specs.Option.{option_and_then}
use Rattle.std.specs.List.{Contains, All, AllPairs, range_with_len}
use Rattle.std.specs.List.Sorted.{IsStrictlySortedBy}
use Rattle.std.specs.Ordering.{nat_cmp}
use Rattle.std.specs.Cmp.{nat_cmp_total}
use Rattle.std.specs.BTreeSet.{BTreeSet, contains}
use Rattle.std.proofs.lemmas.Bool.{ne_eqb}
use Rattle.std.proofs.lemmas.Bool.Decides.{nat_tests}
use Rattle.std.proofs.lemmas.List.{length-map, get_or-map, get_or_default}
use Rattle.std.proofs.lemmas.List.FromFn.{length-range_with_len, get_or-range_with_len}
use Rattle.std.proofs.lemmas.List.Kept.{IsStrictlySortedBy-filter}
use Rattle.std.proofs.lemmas.List.Elements.{Contains-get_or, filter-append}
use Rattle.std.proofs.lemmas.List.Sorted.{Contains-permutation, IsPermutation-sym, IsNonDecreasingBy-from_sort}
use Rattle.std.proofs.lemmas.Map.Keys.{IsDistinct-IsPermutation, IsDistinct-from_apart, IsStrictlyIncreasing-from_distinct, sorted_from_strictly_increasing}
use Rattle.std.proofs.lemmas.Map.Views.{btree_set_contains_iff}
use Rattle.std.proofs.lemmas.Map.Lookups.{btree_set_from_contains, exact_unsigned}
use Rattle.std.proofs.lemmas.Option.{none-some, same_Some}
use Rattle.sg_words.proofs.Uses.{same_tests, from_map, into_map, from_filter, into_filter}
use Rattle.sg_layout.specs.declared.shape.Kind.{Kind}
use Rattle.sg_layout.specs.declared.shape.Kind.TheVariants.{Dense, Bitmasked, Pointer, Hash, Dynamic}
use Rattle.sg_layout.specs.declared.shape.NodeShape.{NodeShape}
use Rattle.sg_layout.specs.Axes.{sizes_of}
use Rattle.sg_hash.specs.Tables.{IsTable, beside}
use Rattle.sg_hash.proofs.Uses.{stands_once}
use Rattle.sg_store.specs.declared.node.NodeWords.{NodeWords}
use Rattle.sg_store.specs.StoreWords.{StoreWords}
use Rattle.sg_store.specs.Slots.{slot_under, active_below}
use Rattle.sg_store.specs.Walks.{place_after, cell_along}
use Rattle.sg_store.specs.WellFormed.{IsHashNode}
use Rattle.sg_store.specs.Spots.{root_offsets}
use Rattle.sg_store.specs.steps.Sorting.{holds_key, keys_in, AreSortedKeys}
use Rattle.sg_store.proofs.Walking.{index_contains}
use Rattle.sg_store.proofs.Counting.{index_within}
use Rattle.sg_store.proofs.KeyPlaces.{some_word, key_here, key_some}
use Rattle.sg_store.proofs.HashAt.{slots_at, hash_node}
use Rattle.sg_store.proofs.AtNumber.{IsAt}
use Rattle.sg_store.proofs.SlotWords.{filled_some, kept_once}

-- ── The keys that words hold ──

pub no_key : (word : ℕ) → word ≡ 0 → keys_in (word ∷ []) ≡ []
no_key word none = ap (λ (w : ℕ). keys_in (w ∷ [])) none

pub one_key : (word : ℕ) → word ≢ 0 → keys_in (word ∷ []) ≡ (word - 1) ∷ []
one_key word some =
    let on : holds_key word ≡ true = grind (arith, nat_tests) in
    ap (λ (b : Bool). map (λ (w : ℕ). w - 1) (cond b (word ∷ []) [])) on

pub keys_more : (front : List ℕ) (word : ℕ) → keys_in (front ++ word ∷ []) ≡ keys_in front ++ keys_in (word ∷ [])
keys_more front word =
    ap (map (λ (w : ℕ). w - 1)) (filter-append holds_key front (word ∷ []))
    ∙ map_more (filter holds_key front) (filter holds_key (word ∷ []))
  where
    map_more : (xs ys : List ℕ) → map (λ (w : ℕ). w - 1) (xs ++ ys) ≡ map (λ (w : ℕ). w - 1) xs ++ map (λ (w : ℕ). w - 1) ys
    map_more [] ys = refl
    map_more (x ∷ xs) ys = ap (λ (zs : List ℕ). (x - 1) ∷ zs) (map_more xs ys)

-- a key is held by a word of some place, and a word of any place holds one
from_keys : (words : List ℕ) (key : ℕ) → Contains (keys_in words) key → (p : ℕ) × (slice_index words p ≡ suc key)
from_keys words key has =
    let found = from_map (λ (w : ℕ). w - 1) (filter holds_key words) key has in
    let kept = from_filter holds_key words found.0 found.1 in
    let word = some_word found.0 (filled_some found.0 kept.1) in
    let at : slice_index words kept.0.0 ≡ found.0 = get_or_default words kept.0.0 0 found.0 kept.0.1 ∙ kept.0.2 in
    let same : word.0 ≡ key = omega (arith, ap (λ (w : ℕ). w - 1) word.1, found.2) in
    (kept.0.0, at ∙ word.1 ∙ ap suc same)

into_keys : (words : List ℕ) (key p : ℕ) → slice_index words p ≡ suc key → Contains (keys_in words) key
into_keys words key p at =
    let some : holds_key (suc key) ≡ true = holds key in
    let back : suc key - 1 ≡ key = omega arith in
    subst (λ (k : ℕ). Contains (keys_in words) k) back
    (into_map (λ (w : ℕ). w - 1) (filter holds_key words) (suc key) (into_filter holds_key words (suc key) (index_contains words p key at) some))
  where
    holds : (k : ℕ) → holds_key (suc k) ≡ true
    holds k = grind (arith, nat_tests)

-- no key is held twice
keys_apart : (words : List ℕ) → IsTable words → AllPairs (λ x y. x ≢ y) (keys_in words)
keys_apart words table i j d less below same =
    let kept : List ℕ = filter holds_key words in
    let within : j < length kept = omega (arith, length-map kept (λ (w : ℕ). w - 1)) in
    let apart = kept_once words (λ x y some equal. one_place x y (some_word (slice_index words x) some) equal) in
    let here : (k : ℕ) → k < length kept → get_or kept k 0 ≢ 0 = λ k there. filled_some (get_or kept k 0) (from_filter holds_key words (get_or kept k 0) (Contains-get_or kept k 0 there)).1 in
    let left : get_or (keys_in words) i d ≡ get_or kept i 0 - 1 = get_or-map (λ (w : ℕ). w - 1) kept i 0 d (omega (arith, less, within)) in
    let right : get_or (keys_in words) j d ≡ get_or kept j 0 - 1 = get_or-map (λ (w : ℕ). w - 1) kept j 0 d within in
    let first = here i (omega (arith, less, within)) in
    let second = here j within in
    apart i j 0 less within (omega (arith, same, left, right, first, second))
  where
    one_place : (x y : ℕ) → (k : ℕ) × (slice_index words x ≡ suc k) → slice_index words x ≡ slice_index words y → x ≡ y
    one_place x y (k, is) equal =
        let one : suc k ≡ k + 1 = omega arith in
        let other : slice_index words y ≡ k + 1 = sym equal ∙ is ∙ one in
        stands_once words table k x y (index_within words x (λ none. cc)) (index_within words y (λ none. absurd (omega (arith, none, other)))) (is ∙ one) other

-- ── Sorted numbers that pass a test ──

keys_strict : (words keys : List ℕ) → IsTable words → AreSortedKeys words keys → IsStrictlySortedBy nat_cmp keys
keys_strict words keys table are =
    let distinct = IsDistinct-from_apart eqb (keys_in words) (λ i j d less below. ne_eqb _ _ (keys_apart words table i j d less below)) in
    sorted_from_strictly_increasing keys
    (IsStrictlyIncreasing-from_distinct keys (IsNonDecreasingBy-from_sort (λ (k : ℕ). k) keys are.sorted)
    (IsDistinct-IsPermutation eqb (λ x y. grind (arith, nat_tests)) (keys_in words) keys are.same distinct))

in_range : (size k : ℕ) → k < size → Contains (range_with_len 0 size) k
in_range size k below = (k, omega (arith, length-range_with_len 0 size), get_or-range_with_len 0 size k k below ∙ zero-add k)

below_range : (size k : ℕ) → Contains (range_with_len 0 size) k → k < size
below_range size k (i, below, is) =
    let there : i < size = omega (arith, length-range_with_len 0 size) in
    omega (arith, get_or-range_with_len 0 size i k there, is)

range_sorted : (size : ℕ) → IsStrictlySortedBy nat_cmp (range_with_len 0 size)
range_sorted size =
    sorted_from_strictly_increasing (range_with_len 0 size)
    (λ k below.
    let last : k + 1 < size = omega (arith, length-range_with_len 0 size) in
    omega (arith, get_or-range_with_len 0 size k 0 (omega arith), get_or-range_with_len 0 size (k + 1) 0 last))

-- numbers in order are those below another that pass a test, where they are the same numbers
those_that_pass : (size : ℕ) (test : ℕ → Bool) (keys : List ℕ) → IsStrictlySortedBy nat_cmp keys → ((key : ℕ) → Contains keys key → (key < size) × (test key ≡ true)) → ((key : ℕ) → key < size → test key ≡ true → Contains keys key)
    → keys ≡ filter test (range_with_len 0 size)
those_that_pass size test keys sorted from into =
    let passing = filter test (range_with_len 0 size) in
    let set : BTreeSet ℕ = record { keys = keys } in
    let other : BTreeSet ℕ = record { keys = passing } in
    btree_set_from_contains nat_cmp_total set other sorted (IsStrictlySortedBy-filter nat_cmp test (range_with_len 0 size) (range_sorted size))
    (λ key. same_tests (contains nat_cmp set key) (contains nat_cmp other key)
    (λ here.
    let found = from key ((btree_set_contains_iff nat_cmp_total exact_unsigned set key).0 here) in
    (btree_set_contains_iff nat_cmp_total exact_unsigned other key).1 (into_filter test (range_with_len 0 size) key (in_range size key found.0) found.1))
    (λ there.
    let kept = from_filter test (range_with_len 0 size) key ((btree_set_contains_iff nat_cmp_total exact_unsigned other key).0 there) in
    (btree_set_contains_iff nat_cmp_total exact_unsigned set key).1 (into key (below_range size key kept.0) kept.1)))
    exact_unsigned

-- ── Where the root leads ──

first_step : (nodes : List NodeShape) (words : List NodeWords) (node : NodeShape) (kept : NodeWords) (offset : ℕ) → slice_get nodes 0 ≡ Some node → slice_get words 0 ≡ Some kept
    → place_after active_below nodes words 0 (offset ∷ []) ≡ active_below node.kind node kept offset
first_step [] words node kept offset at has = absurd (none-some node at)
first_step (n ∷ later) [] node kept offset at has = absurd (none-some kept has)
first_step (n ∷ later) (k ∷ words) node kept offset at has =
    let slot : slot_under n 0 offset ≡ offset = omega arith in
    itself (active_below n.kind n k (slot_under n 0 offset))
    ∙ ap (active_below n.kind n k) slot
    ∙ ap (λ (m : NodeShape). active_below m.kind m k offset) (same_Some n node at)
    ∙ ap (λ (w : NodeWords). active_below node.kind node w offset) (same_Some k kept has)
  where
    itself : (o : Option ℕ) → option_and_then (λ next. Some next) o ≡ o
    itself None = refl
    itself (Some x) = refl

hash_step : (kind : Kind) (node : NodeShape) (kept : NodeWords) (offset : ℕ) → kind ≡ Hash → is_some (active_below kind node kept offset) ≡ is_some (beside kept.keys kept.links offset)
hash_step Dense node kept offset kind = absurd (cc kind)
hash_step Bitmasked node kept offset kind = absurd (cc kind)
hash_step Pointer node kept offset kind = absurd (cc kind)
hash_step Dynamic node kept offset kind = absurd (cc kind)
hash_step Hash node kept offset kind = by_case (beside kept.keys kept.links offset)
  where
    by_case : (o : Option ℕ) → is_some (cond (is_some o) o None) ≡ is_some o
    by_case None = refl
    by_case (Some x) = refl

root_leads : (store : StoreWords) (node : NodeShape) (kept : NodeWords) (offset : ℕ) → IsAt store 1 0 node kept → node.kind ≡ Hash → is_some (cell_along store (offset ∷ [])) ≡ is_some (beside kept.keys kept.links offset)
root_leads store node kept offset at kind =
    ap is_some (first_step store.shape.nodes store.nodes node kept offset at.at at.has) ∙ hash_step node.kind node kept offset kind

first_size : (nodes : List NodeShape) → slots_at nodes 1 0 ≡ slice_index (sizes_of nodes) 0
first_size [] = refl
first_size (node ∷ later) = omega arith

-- the keys of a hash node are few enough
pub keys_small : (store : StoreWords) (node : NodeShape) (kept : NodeWords) → IsAt store 1 0 node kept → node.kind ≡ Hash → All (λ word. word ≤ 2 ^ 32) kept.keys
keys_small store node kept at kind p d below =
    let own = (hash_node store 0 node kept at.well at.at at.has kind).1 in
    let same : get_or kept.keys p d ≡ slice_index kept.keys p = get_or_default kept.keys p d 0 below in
    by_word (slice_index kept.keys p) refl (omega (arith, same)) own
  where
    by_word : (word : ℕ) → slice_index kept.keys p ≡ word → get_or kept.keys p d ≡ word → IsHashNode node kept (slots_at store.shape.nodes 1 0) (hash_node store 0 node kept at.well at.at at.has kind).0 → get_or kept.keys p d ≤ 2 ^ 32
    by_word zero is same own = omega (arith, same)
    by_word (suc key) is same own =
        let held = key_here kept.keys kept.links p key own.table own.links_beside is in
        omega (arith, same, own.keys_are_slots key (ap is_some held), own.few_slots)

pub sorted_offsets : (store : StoreWords) (node : NodeShape) (kept : NodeWords) (keys : List ℕ) → IsAt store 1 0 node kept → node.kind ≡ Hash → AreSortedKeys kept.keys keys → keys ≡ root_offsets store
sorted_offsets store node kept keys at kind are =
    let own = (hash_node store 0 node kept at.well at.at at.has kind).1 in
    let size : ℕ = slice_index (sizes_of store.shape.nodes) 0 in
    those_that_pass size (λ offset. is_some (cell_along store (offset ∷ []))) keys (keys_strict kept.keys keys own.table are)
    (λ key has.
    let place = from_keys kept.keys key (Contains-permutation keys (keys_in kept.keys) key (IsPermutation-sym (keys_in kept.keys) keys are.same) has) in
    let held : is_some (beside kept.keys kept.links key) ≡ true = ap is_some (key_here kept.keys kept.links place.0 key own.table own.links_beside place.1) in
    (omega (arith, own.keys_are_slots key held, first_size store.shape.nodes), root_leads store node kept key at kind ∙ held))
    (λ key below leads.
    let place = key_some kept.keys kept.links key own.links_beside (sym (root_leads store node kept key at kind) ∙ leads) in
    Contains-permutation (keys_in kept.keys) keys key are.same (into_keys kept.keys key place.0 place.1))
