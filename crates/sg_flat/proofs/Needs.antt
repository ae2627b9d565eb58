-- The needs of nodes against the lengths of blocks.
use Rattle.std.proofs.Common.{◌≡◌, ℕ, zero, suc, ◌+◌, ◌-◌, ◌*◌, ◌/◌, ◌%◌, ◌≤◌, inl, inr, max, Bool, true, false, not, ◌&&◌, ◌||◌, cond, eqb, ltb, List, [], ◌∷◌, ◌⊎◌, map, length, get_or, drop, sum_by, Option, Some, None, refl, sym, ap, ◌∙◌, arith, subst}
use Rattle.std.specs.Prelude.{filter, unwrap_or, All, Contains, slice_index}
use Rattle.std.specs.List.{fold, list_any, IsDistinct, AllByRecursion}
use Rattle.std.specs.Str.{bytes_eq}
use Rattle.std.specs.Int.{div_ceil}
use Rattle.std.specs.Ordering.{nat_cmp, eq_by_cmp}
use Rattle.std.specs.Cmp.{nat_cmp_total, unsigned_Decides}
use Rattle.std.specs.Map.{keys_of, values_of}
use Rattle.std.specs.Option.{is_some}
use Rattle.std.specs.Set.{is_member, unique_keys, remove_key}
use Rattle.std.specs.BTreeMap.{BTreeMap, get, values, keys, btree_map_len, IsOrdered, is_at}
use Rattle.std.proofs.lemmas.Bool.{cases_Bool, cases_eq, cases_lt, cond-true, cond-false, cond_both, eq-eqb, ne_eqb, both_ways, ltb-true}
use Rattle.std.proofs.lemmas.Nat.{div-mul-add, mod-mul-add, mod_below, div-add-mod'}
use Rattle.std.proofs.lemmas.List.{get_or-drop, length-map}
use Rattle.std.proofs.lemmas.List.Sums.{sum_by-cons}
use Rattle.std.proofs.lemmas.List.Sorted.{IsPermutation-refl}
use Rattle.std.proofs.lemmas.List.Elements.{All-head, All-tail, All-contains_itself}
use Rattle.std.proofs.lemmas.List.Folds.{list_any-from_Any}
use Rattle.std.proofs.lemmas.Map.Keys.{IsDistinct-from_sorted, IsDistinct-head, IsDistinct-tail, IsDistinct-cons}
use Rattle.std.proofs.lemmas.Map.Made.{sum_by-remove_same, is_some-lookup}
use Rattle.std.proofs.lemmas.Map.Views.{All-found}
use Rattle.sg_coord.specs.declared.coord.Coord.{Coord}
use Rattle.sg_coord.specs.Bounds.{Bounds}
use Rattle.sg_coord.specs.Coord.{Inside}
use Rattle.sg_coord.specs.Laws.{PointOfRow}
use Rattle.sg_layout.specs.declared.shape.NodeShape.{NodeShape}
use Rattle.sg_layout.specs.declared.shape.Shape.{Shape}
use Rattle.sg_layout.specs.declared.shape.Kind.{Kind}
use Rattle.sg_layout.specs.declared.shape.Kind.TheVariants.{Dense, Bitmasked, Pointer, Hash, Dynamic}
use Rattle.sg_layout.specs.Axes.{count_of, bounds_of_shape}
use Rattle.sg_layout.specs.Accepted.{IsAccepted}
use Rattle.sg_layout.specs.Path.{offset_at, offsets, path}
use Rattle.sg_layout.specs.Need.{distinct, reached_slots, greatest_offset, under_slot, chunks_under, need_by, need_of}
use Rattle.sg_flat.specs.steps.Blocks.{bounds_over, nodes_above, is_whole, block_number, row_in_block, live_points, longer, length_at}
use Rattle.sg_flat.proofs.Accepted.{good_at, last_where_dynamic, has_cap}
use Rattle.sg_flat.proofs.MapWords.{is_eq-nat_cmp}
use Rattle.sg_flat.proofs.Slotted.{paths_tell, place_is_offset}
use Rattle.sg_flat.proofs.Reaches.{filter-agree}

-- ---- sums over slots, each once, and over numbers, each once
member_agree : {X : Type 0} (P : X → Type 0) (f : X → List ℕ) (g : X → ℕ) (x : X) (xs : List X) → ((x y : X) → P x → P y → bytes_eq (f x) (f y) ≡ eqb (g x) (g y)) → P x → All P xs → list_any (bytes_eq (f x)) (map f xs) ≡ is_member eqb (map g xs) (g x)
member_agree P f g x [] agree here all = refl
member_agree P f g x (y ∷ ys) agree here all =
    ap (λ (b : Bool). b || list_any (bytes_eq (f x)) (map f ys)) (agree x y here (All-head P y ys all))
    ∙ ap (λ (b : Bool). eqb (g x) (g y) || b) (member_agree P f g x ys agree here (All-tail P y ys all))

pub sum_of_distinct : {X : Type 0} (P : X → Type 0) (f : X → List ℕ) (g : X → ℕ) (F : List ℕ → ℕ) (G : ℕ → ℕ) (xs : List X) → ((x y : X) → P x → P y → bytes_eq (f x) (f y) ≡ eqb (g x) (g y)) → ((x : X) → P x → F (f x) ≡ G (g x)) → All P xs → sum_by F (distinct (map f xs)) ≡ sum_by G (unique_keys eqb (map g xs))
sum_of_distinct P f g F G [] agree same all = refl
sum_of_distinct {X} P f g F G (x ∷ xs) agree same all =
    let here = All-head P x xs all in
    let rest = sum_of_distinct P f g F G xs agree same (All-tail P x xs all) in
    ap (λ (b : Bool). sum_by F (cond b (distinct (map f xs)) (f x ∷ distinct (map f xs)))) (member_agree P f g x xs agree here (All-tail P x xs all))
    ∙ elim (is_member eqb (map g xs) (g x)) as (λ (b : Bool). sum_by F (cond b (distinct (map f xs)) (f x ∷ distinct (map f xs))) ≡ sum_by G (cond b (unique_keys eqb (map g xs)) (g x ∷ unique_keys eqb (map g xs)))) [
      | true ↦ rest
      | false ↦ sum_by-cons F (f x) (distinct (map f xs)) ∙ ap (λ k. k + sum_by F (distinct (map f xs))) (same x here) ∙ ap (λ k. G (g x) + k) rest ∙ sym (sum_by-cons G (g x) (unique_keys eqb (map g xs)))
    ]

-- ---- lists of numbers, each once
unique_member : (xs : List ℕ) (q : ℕ) → is_member eqb (unique_keys eqb xs) q ≡ is_member eqb xs q
unique_member [] q = refl
unique_member (x ∷ xs) q = elim (cases_Bool (is_member eqb xs x)) [
  | inl there ↦ ap (λ (b : Bool). is_member eqb (cond b (unique_keys eqb xs) (x ∷ unique_keys eqb xs)) q) there
      ∙ unique_member xs q
      ∙ absorbed there
  | inr gone ↦ ap (λ (b : Bool). is_member eqb (cond b (unique_keys eqb xs) (x ∷ unique_keys eqb xs)) q) gone
      ∙ ap (λ (b : Bool). eqb q x || b) (unique_member xs q)
]
  where
    absorbed : is_member eqb xs x ≡ true → is_member eqb xs q ≡ (eqb q x || is_member eqb xs q)
    absorbed there = elim (cases_eq q x) [
      | inl same ↦ ap (is_member eqb xs) same ∙ there ∙ sym (ap (λ (b : Bool). b || is_member eqb xs q) (eq-eqb q x same))
      | inr apart ↦ sym (ap (λ (b : Bool). b || is_member eqb xs q) (ne_eqb q x apart))
    ]

none_from_member : (x : ℕ) (xs : List ℕ) → is_member eqb xs x ≡ false → AllByRecursion (λ y. eqb x y ≡ false) xs
none_from_member x [] none = tt
none_from_member x (y ∷ ys) none = elim (cases_Bool (eqb x y)) [
  | inl here ↦ absurd (both_ways _ none (ap (λ (b : Bool). b || is_member eqb ys x) here))
  | inr apart ↦ (apart, none_from_member x ys (sym (ap (λ (b : Bool). b || is_member eqb ys x) apart) ∙ none))
]

member_from_none : (x : ℕ) (xs : List ℕ) → AllByRecursion (λ y. eqb x y ≡ false) xs → is_member eqb xs x ≡ false
member_from_none x [] none = refl
member_from_none x (y ∷ ys) none = ap (λ (b : Bool). b || is_member eqb ys x) none.0 ∙ member_from_none x ys none.1

unique_distinct : (xs : List ℕ) → IsDistinct eqb (unique_keys eqb xs)
unfolding IsDistinct
unique_distinct [] = tt
unique_distinct (x ∷ xs) = elim (cases_Bool (is_member eqb xs x)) [
  | inl there ↦ subst (λ (b : Bool). IsDistinct eqb (cond b (unique_keys eqb xs) (x ∷ unique_keys eqb xs))) (sym there) (unique_distinct xs)
  | inr gone ↦ subst (λ (b : Bool). IsDistinct eqb (cond b (unique_keys eqb xs) (x ∷ unique_keys eqb xs))) (sym gone)
      (IsDistinct-cons eqb x (unique_keys eqb xs) (none_from_member x (unique_keys eqb xs) (unique_member xs x ∙ gone)) (unique_distinct xs))
]

removed_none : (n y : ℕ) (ys : List ℕ) → AllByRecursion (λ z. eqb y z ≡ false) ys → AllByRecursion (λ z. eqb y z ≡ false) (remove_key (eqb n) ys)
removed_none n y [] none = tt
removed_none n y (z ∷ zs) none = cond_both (eqb n z) zs (z ∷ remove_key (eqb n) zs) (λ (ws : List ℕ). AllByRecursion (λ z. eqb y z ≡ false) ws) (λ _. none.1) (λ _. (none.0, removed_none n y zs none.1))

removed_distinct : (n : ℕ) (ys : List ℕ) → IsDistinct eqb ys → IsDistinct eqb (remove_key (eqb n) ys)
removed_distinct n [] apart = apart
removed_distinct n (y ∷ ys) apart =
    cond_both (eqb n y) ys (y ∷ remove_key (eqb n) ys) (λ (ws : List ℕ). IsDistinct eqb ws)
    (λ _. IsDistinct-tail eqb y ys apart)
    (λ _. IsDistinct-cons eqb y (remove_key (eqb n) ys) (removed_none n y ys (IsDistinct-head eqb y ys apart)) (removed_distinct n ys (IsDistinct-tail eqb y ys apart)))

-- after the removal of a number each other one is there as before, and it isn't
removed_member : (n : ℕ) (ys : List ℕ) (q : ℕ) → IsDistinct eqb ys → is_member eqb (remove_key (eqb n) ys) q ≡ (not (eqb n q) && is_member eqb ys q)
removed_member n [] q apart = sym (and_false (not (eqb n q)))
  where
    and_false : (b : Bool) → (b && false) ≡ false
    and_false true = refl
    and_false false = refl
removed_member n (y ∷ ys) q apart = elim (cases_eq n y) [
  | inl same ↦ ap (λ (b : Bool). is_member eqb (cond b ys (y ∷ remove_key (eqb n) ys)) q) (eq-eqb n y same) ∙ elim (cases_eq n q) [
    | inl is ↦ ap (is_member eqb ys) (sym is ∙ same) ∙ member_from_none y ys (IsDistinct-head eqb y ys apart)
        ∙ sym (ap (λ (b : Bool). not b && (eqb q y || is_member eqb ys q)) (eq-eqb n q is))
    | inr other ↦ sym (ap (λ (b : Bool). not b && (eqb q y || is_member eqb ys q)) (ne_eqb n q other) ∙ ap (λ (b : Bool). b || is_member eqb ys q) (ne_eqb q y (λ e. other (same ∙ sym e))))
  ]
  | inr differs ↦ ap (λ (b : Bool). is_member eqb (cond b ys (y ∷ remove_key (eqb n) ys)) q) (ne_eqb n y differs)
      ∙ ap (λ (b : Bool). eqb q y || b) (removed_member n ys q (IsDistinct-tail eqb y ys apart))
      ∙ elim (cases_eq q y) [
        | inl is ↦ ap (λ (b : Bool). b || (not (eqb n q) && is_member eqb ys q)) (eq-eqb q y is)
            ∙ sym (ap (λ (b : Bool). not b && (eqb q y || is_member eqb ys q)) (ne_eqb n q (λ e. differs (e ∙ is))) ∙ ap (λ (b : Bool). b || is_member eqb ys q) (eq-eqb q y is))
        | inr other ↦ ap (λ (b : Bool). b || (not (eqb n q) && is_member eqb ys q)) (ne_eqb q y other)
            ∙ sym (ap (λ (b : Bool). not (eqb n q) && (b || is_member eqb ys q)) (ne_eqb q y other))
      ]
]

-- two lists of the same numbers, each once, have the same sums
pub same_sums : (G : ℕ → ℕ) (xs ys : List ℕ) → IsDistinct eqb xs → IsDistinct eqb ys → ((q : ℕ) → is_member eqb xs q ≡ is_member eqb ys q) → sum_by G xs ≡ sum_by G ys
same_sums G [] [] xs_apart ys_apart same = refl
same_sums G [] (y ∷ ys) xs_apart ys_apart same = absurd (both_ways false refl (same y ∙ ap (λ (b : Bool). b || is_member eqb ys y) (eq-eqb y y refl)))
same_sums G (x ∷ xs) ys xs_apart ys_apart same =
    let there : is_member eqb ys x ≡ true = sym (same x) ∙ ap (λ (b : Bool). b || is_member eqb xs x) (eq-eqb x x refl) in
    let left = remove_key (eqb x) ys in
    let rest : sum_by G xs ≡ sum_by G left =
    same_sums G xs left (IsDistinct-tail eqb x xs xs_apart) (removed_distinct x ys ys_apart)
    (λ q. others q ∙ ap (λ (b : Bool). not (eqb x q) && b) (same q) ∙ sym (removed_member x ys q ys_apart)) in
    let removed : sum_by G left + cond (is_member eqb ys x) (G x) 0 ≡ sum_by G ys = sum_by-remove_same G {eq = eqb} unsigned_Decides x ys left (IsPermutation-refl left) in
    let gone : sum_by G left + G x ≡ sum_by G ys = ap (λ (b : Bool). sum_by G left + cond b (G x) 0) (sym there) ∙ removed in
    sum_by-cons G x xs ∙ (omega arith)
  where
    others : (q : ℕ) → is_member eqb xs q ≡ (not (eqb x q) && (eqb q x || is_member eqb xs q))
    others q = elim (cases_eq x q) [
      | inl is ↦ ap (is_member eqb xs) (sym is) ∙ member_from_none x xs (IsDistinct-head eqb x xs xs_apart) ∙ sym (ap (λ (b : Bool). not b && (eqb q x || is_member eqb xs q)) (eq-eqb x q is))
      | inr other ↦ sym (ap (λ (b : Bool). not b && (eqb q x || is_member eqb xs q)) (ne_eqb x q other) ∙ ap (λ (b : Bool). b || is_member eqb xs q) (ne_eqb q x (λ e. other (sym e))))
    ]

-- ---- the lengths of blocks as a map
-- a block has a length exactly when a coordinate is in it
some_length : {X : Type 0} (reach : X → ℕ) (test : X → Bool) (length : ℕ) (xs : List X) → (k : ℕ) × (fold longer (Some length) (map reach (filter test xs)) ≡ Some k)
some_length reach test length [] = (length, refl)
some_length {X} reach test length (x ∷ xs) =
    cond_both (test x) (x ∷ filter test xs) (filter test xs) (λ (ys : List X). (k : ℕ) × (fold longer (Some length) (map reach ys) ≡ Some k))
    (λ _. some_length reach test (max length (reach x)) xs) (λ _. some_length reach test length xs)

pub record HasLength (length : Option ℕ) (there : Bool) : Type 0 where
  pub some : there ≡ true → (k : ℕ) × (length ≡ Some k)
  pub none : there ≡ false → length ≡ None

has_length : {X : Type 0} (reach : X → ℕ) (test : X → Bool) (xs : List X) → HasLength (fold longer None (map reach (filter test xs))) (list_any test xs)
has_length reach test [] = record { some = λ there. absurd (both_ways false refl there); none = λ _. refl }
has_length {X} reach test (x ∷ xs) = elim (cases_Bool (test x)) [
  | inl here ↦ record {
    some = λ _. (
        let found = some_length reach test (max 0 (reach x)) xs in
        (found.0, ap (λ (b : Bool). fold longer None (map reach (cond b (x ∷ filter test xs) (filter test xs)))) here ∙ found.1)
        );
    none = λ gone. absurd (both_ways _ gone (ap (λ (b : Bool). b || list_any test xs) here));
  }
  | inr apart ↦ (
      let rest = has_length reach test xs in
      let same : fold longer None (map reach (filter test (x ∷ xs))) ≡ fold longer None (map reach (filter test xs)) =
      ap (λ (b : Bool). fold longer None (map reach (cond b (x ∷ filter test xs) (filter test xs)))) apart in
      let any : list_any test (x ∷ xs) ≡ list_any test xs = ap (λ (b : Bool). b || list_any test xs) apart in
      record {
        some = λ there. (let found = rest.some (sym any ∙ there) in (found.0, same ∙ found.1));
        none = λ gone. same ∙ rest.none (sym any ∙ gone);
      }
      )
]

-- the numbers of blocks with a coordinate in them
member_of_blocks : {X : Type 0} (g : X → ℕ) (xs : List X) (q : ℕ) → list_any (λ x. eqb (g x) q) xs ≡ is_member eqb (map g xs) q
member_of_blocks g [] q = refl
member_of_blocks g (x ∷ xs) q = ap (λ (b : Bool). b || list_any (λ y. eqb (g y) q) xs) (eqb_comm (g x) q) ∙ ap (λ (b : Bool). eqb q (g x) || b) (member_of_blocks g xs q)
  where
    eqb_comm : (a b : ℕ) → eqb a b ≡ eqb b a
    eqb_comm a b = elim (cases_eq a b) [
      | inl same ↦ eq-eqb a b same ∙ sym (eq-eqb b a (sym same))
      | inr apart ↦ ne_eqb a b apart ∙ sym (ne_eqb b a (λ same. apart (sym same)))
    ]

-- the keys of a map of lengths are the numbers of the blocks with a coordinate in them
keys_found : (lengths : BTreeMap ℕ ℕ) (q : ℕ) → is_some (get nat_cmp lengths q) ≡ is_member eqb (keys lengths) q
keys_found lengths q = is_some-lookup (is_at (nat_cmp q)) lengths.entries ∙ at_key (keys lengths)
  where
    at_key : (ks : List ℕ) → list_any (is_at (nat_cmp q)) ks ≡ is_member eqb ks q
    at_key [] = refl
    at_key (k ∷ ks) = ap (λ (b : Bool). b || list_any (is_at (nat_cmp q)) ks) (is_eq-nat_cmp q k) ∙ ap (λ (b : Bool). eqb q k || b) (at_key ks)

pub keys_are_blocks : (all block : Bounds) (whole : Bool) (coords : List Coord) (lengths : BTreeMap ℕ ℕ) → ((number : ℕ) → get nat_cmp lengths number ≡ length_at all block whole coords number) → (q : ℕ) → is_member eqb (keys lengths) q ≡ is_member eqb (map (block_number all block) coords) q
keys_are_blocks all block whole coords lengths has q =
    let known = has_length (live_points whole block) (λ (at : Coord). eqb (block_number all block at) q) coords in
    let any : list_any (λ (at : Coord). eqb (block_number all block at) q) coords ≡ is_member eqb (map (block_number all block) coords) q = member_of_blocks (block_number all block) coords q in
    sym (keys_found lengths q) ∙ ap is_some (has q) ∙ elim (cases_Bool (list_any (λ (at : Coord). eqb (block_number all block at) q) coords)) [
      | inl there ↦ ap is_some (known.some there).1 ∙ sym there ∙ any
      | inr gone ↦ ap is_some (known.none gone) ∙ sym gone ∙ any
    ]

same_none : (x : ℕ) (xs : List ℕ) → AllByRecursion (λ y. eq_by_cmp nat_cmp x y ≡ false) xs → AllByRecursion (λ y. eqb x y ≡ false) xs
same_none x [] none = tt
same_none x (y ∷ ys) none = (sym (is_eq-nat_cmp x y) ∙ none.0, same_none x ys none.1)

same_apart : (xs : List ℕ) → IsDistinct (eq_by_cmp nat_cmp) xs → IsDistinct eqb xs
unfolding IsDistinct
same_apart [] apart = tt
same_apart (x ∷ xs) apart = (same_none x xs apart.0, same_apart xs apart.1)

keys_apart : (lengths : BTreeMap ℕ ℕ) → IsOrdered nat_cmp lengths → IsDistinct eqb (keys lengths)
keys_apart lengths ordered = same_apart (keys lengths) (IsDistinct-from_sorted nat_cmp (keys lengths) ordered)

-- a sum over the lengths, as one over the numbers of the blocks
sum_of_values : (h : ℕ → ℕ) (G : ℕ → ℕ) (entries : List (ℕ × ℕ)) → All (λ (e : ℕ × ℕ). h e.1 ≡ G e.0) entries → sum_by h (values_of entries) ≡ sum_by G (keys_of entries)
sum_of_values h G [] all = refl
sum_of_values h G (e ∷ es) all =
    sum_by-cons h e.1 (values_of es)
    ∙ ap (λ k. k + sum_by h (values_of es)) (All-head (λ (e : ℕ × ℕ). h e.1 ≡ G e.0) e es all)
    ∙ ap (λ k. G e.0 + k) (sum_of_values h G es (All-tail (λ (e : ℕ × ℕ). h e.1 ≡ G e.0) e es all))
    ∙ sym (sum_by-cons G e.0 (keys_of es))

pub sum_of_lengths : (h : ℕ → ℕ) (all block : Bounds) (whole : Bool) (coords : List Coord) (lengths : BTreeMap ℕ ℕ) → IsOrdered nat_cmp lengths → ((number : ℕ) → get nat_cmp lengths number ≡ length_at all block whole coords number) → sum_by h (values lengths) ≡ sum_by (λ number. h (unwrap_or (length_at all block whole coords number) 0)) (unique_keys eqb (map (block_number all block) coords))
sum_of_lengths h all block whole coords lengths ordered has =
    let G : ℕ → ℕ = λ number. h (unwrap_or (length_at all block whole coords number) 0) in
    sum_of_values h G lengths.entries (λ k d below. ap (λ (found : Option ℕ). h (unwrap_or found 0)) (sym (All-found nat_cmp_total lengths ordered k d below) ∙ has (get_or lengths.entries k d).0))
    ∙ same_sums G (keys lengths) (unique_keys eqb (map (block_number all block) coords)) (keys_apart lengths ordered) (unique_distinct (map (block_number all block) coords))
    (λ q. keys_are_blocks all block whole coords lengths has q ∙ sym (unique_member (map (block_number all block) coords) q))

-- ---- pointer and hash nodes
ones : {X : Type 0} (xs : List X) → sum_by (λ _. 1) xs ≡ length xs
ones [] = refl
ones (x ∷ xs) = sum_by-cons (λ _. 1) x xs ∙ ap (λ k. 1 + k) (ones xs) ∙ (omega arith)

pub slots_are_lengths : (shape : Shape) (k : ℕ) (coords : List Coord) (whole : Bool) (lengths : BTreeMap ℕ ℕ) → PointOfRow → IsAccepted shape → All (Inside (bounds_of_shape shape)) coords → IsOrdered nat_cmp lengths → ((number : ℕ) → get nat_cmp lengths number ≡ length_at (bounds_of_shape shape) (bounds_over shape.axes (drop k shape.nodes)) whole coords number) → length (reached_slots shape coords k) ≡ btree_map_len lengths
slots_are_lengths shape k coords whole lengths point_of_row accepted inside ordered has =
    let all = bounds_of_shape shape in
    let block = bounds_over shape.axes (drop k shape.nodes) in
    sym (ones (reached_slots shape coords k))
    ∙ sum_of_distinct (Inside all) (λ (at : Coord). path shape at k) (block_number all block) (λ _. 1) (λ _. 1) coords
    (λ (x y : Coord) x_in y_in. paths_tell shape k x y point_of_row accepted x_in y_in) (λ (x : Coord) _. refl) inside
    ∙ sym (sum_of_lengths (λ _. 1) all block whole coords lengths ordered has)
    ∙ ones (values lengths)
    ∙ length-map lengths.entries _

-- ---- dynamic nodes
-- a length of a block is one more than the greatest place in it
greatest_more : {X : Type 0} (place : X → ℕ) (xs : List X) (k : ℕ) → fold longer (Some (suc k)) (map (λ x. suc (place x)) xs) ≡ Some (suc (fold max k (map place xs)))
greatest_more place [] k = refl
greatest_more place (x ∷ xs) k =
    ap (λ m. fold longer (Some m) (map (λ y. suc (place y)) xs)) (max-suc k (place x)) ∙ greatest_more place xs (max k (place x))
  where
    max-suc : (a b : ℕ) → max (suc a) (suc b) ≡ suc (max a b)
    max-suc a b = omega arith

greatest_is : {X : Type 0} (place : X → ℕ) (x : X) (xs : List X) → fold longer None (map (λ y. suc (place y)) (x ∷ xs)) ≡ Some (suc (fold max 0 (map place (x ∷ xs))))
greatest_is place x xs =
    let first : max 0 (suc (place x)) ≡ suc (place x) = omega arith in
    let same : place x ≡ max 0 (place x) = omega arith in
    ap (λ m. fold longer (Some m) (map (λ y. suc (place y)) xs)) first
    ∙ greatest_more place xs (place x)
    ∙ ap (λ m. Some (suc (fold max m (map place xs)))) same

filter_some : {X : Type 0} (test : X → Bool) (xs : List X) → list_any test xs ≡ true → (y : X) × (ys : List X) × (filter test xs ≡ y ∷ ys)
filter_some test [] any = absurd (both_ways false refl any)
filter_some {X} test (x ∷ xs) any = elim (cases_Bool (test x)) [
  | inl here ↦ (x, filter test xs, cond-true (test x) (x ∷ filter test xs) (filter test xs) here)
  | inr apart ↦ (let rest = filter_some test xs (sym (ap (λ (b : Bool). b || list_any test xs) apart) ∙ any) in (rest.0, rest.1, cond-false (test x) (x ∷ filter test xs) (filter test xs) apart ∙ rest.2))
]

-- a number one greater, divided and rounded up
round_up : (g chunk : ℕ) → 1 ≤ chunk → div_ceil (suc g) chunk ≡ (g + chunk) / chunk
round_up g chunk some =
    let rest = mod_below g chunk some in
    let whole : g / chunk * chunk + g % chunk ≡ g = div-add-mod' g chunk in
    let more : (g + chunk) / chunk ≡ g / chunk + 1 =
    ap (λ k. k / chunk) (split (g / chunk) (g % chunk) g whole) ∙ div-mul-add (g / chunk + 1) chunk (g % chunk) rest in
    elim (cases_lt (g % chunk + 1) chunk) [
      | inl below ↦ (
          let next : suc g ≡ g / chunk * chunk + (g % chunk + 1) = omega arith in
          let quotient : suc g / chunk ≡ g / chunk = ap (λ k. k / chunk) next ∙ div-mul-add (g / chunk) chunk (g % chunk + 1) below in
          let left : suc g % chunk ≡ g % chunk + 1 = ap (λ k. k % chunk) next ∙ mod-mul-add (g / chunk) chunk (g % chunk + 1) below in
          omega arith
          )
      | inr past ↦ (
          let next : suc g ≡ (g / chunk + 1) * chunk + 0 = carry (g / chunk) (g % chunk) g whole (omega arith) in
          let quotient : suc g / chunk ≡ g / chunk + 1 = ap (λ k. k / chunk) next ∙ div-mul-add (g / chunk + 1) chunk 0 some in
          let left : suc g % chunk ≡ 0 = ap (λ k. k % chunk) next ∙ mod-mul-add (g / chunk + 1) chunk 0 some in
          omega arith
          )
    ]
  where
    split : (q r n : ℕ) → q * chunk + r ≡ n → n + chunk ≡ (q + 1) * chunk + r
    split q r n is = omega (arith, distributed q)
      where
        distributed : (q : ℕ) → (q + 1) * chunk ≡ q * chunk + chunk
        distributed q = omega arith

    carry : (q r n : ℕ) → q * chunk + r ≡ n → r + 1 ≡ chunk → suc n ≡ (q + 1) * chunk + 0
    carry q r n is full = omega (arith, distributed q)
      where
        distributed : (q : ℕ) → (q + 1) * chunk ≡ q * chunk + chunk
        distributed q = omega arith

-- the offset at a node
offsets_from : (nodes : List NodeShape) (i : ℕ) (at : Coord) → drop i (offsets nodes at) ≡ offsets (drop i nodes) at
offsets_from nodes zero at = refl
offsets_from [] (suc i) at = refl
offsets_from (node ∷ later) (suc i) at = offsets_from later i at

offset_here : (nodes : List NodeShape) (i number : ℕ) (node : NodeShape) (at : Coord) → number ≡ i → drop i nodes ≡ node ∷ [] → slice_index (offsets nodes at) number ≡ offset_at node [] at
offset_here nodes i number node at same split =
    ap (λ k. get_or (offsets nodes at) k 0) (same ∙ sym (add-zero i))
    ∙ sym (get_or-drop i (offsets nodes at) 0 0)
    ∙ ap (λ (xs : List ℕ). get_or xs 0 0) (offsets_from nodes i at ∙ ap (λ (ns : List NodeShape). offsets ns at) split)
  where
    add-zero : (k : ℕ) → k + 0 ≡ k
    add-zero k = omega arith

map-agree : {X Y : Type 0} (f g : X → Y) (xs : List X) → ((x : X) → f x ≡ g x) → map f xs ≡ map g xs
map-agree f g [] agree = refl
map-agree {X} {Y} f g (x ∷ xs) agree = ap (λ y. y ∷ map f xs) (agree x) ∙ ap (λ (ys : List Y). g x ∷ ys) (map-agree f g xs agree)

-- the chunks under a parent that a coordinate is under
chunks_are : (shape : Shape) (i number : ℕ) (node : NodeShape) (chunk : ℕ) (coords : List Coord) (w : Coord) → PointOfRow → IsAccepted shape → number - 1 ≡ i → drop i shape.nodes ≡ node ∷ [] → 1 ≤ chunk → All (Inside (bounds_of_shape shape)) coords → Inside (bounds_of_shape shape) w → Contains coords w → chunks_under shape coords number chunk (path shape w i) ≡ div_ceil (unwrap_or (length_at (bounds_of_shape shape) (bounds_over shape.axes (drop i shape.nodes)) false coords (block_number (bounds_of_shape shape) (bounds_over shape.axes (drop i shape.nodes)) w)) 0) chunk
chunks_are shape i number node chunk coords w point_of_row accepted before split some inside w_in there =
    let all = bounds_of_shape shape in
    let block = bounds_over shape.axes (drop i shape.nodes) in
    let in_block : Coord → Bool = λ (at : Coord). eqb (block_number all block at) (block_number all block w) in
    let place : Coord → ℕ = row_in_block block in
    let offset : Coord → ℕ = λ (at : Coord). slice_index (offsets shape.nodes at) (number - 1) in
    let same_offset : (at : Coord) → offset at ≡ place at =
    λ (at : Coord). offset_here shape.nodes i (number - 1) node at before split ∙ place_is_offset shape.axes node at ∙ ap (λ (ns : List NodeShape). row_in_block (bounds_over shape.axes ns) at) (sym split) in
    let same_under : under_slot shape coords (number - 1) (path shape w i) ≡ filter in_block coords =
    ap (λ k. filter (λ (at : Coord). bytes_eq (path shape at k) (path shape w i)) coords) before
    ∙ filter-agree (Inside all) (λ (at : Coord). bytes_eq (path shape at i) (path shape w i)) in_block coords (λ (at : Coord) at_in. paths_tell shape i at w point_of_row accepted at_in w_in) inside in
    let found = filter_some in_block coords (list_any-from_Any in_block coords (there.0, w, there.1, there.2, eq-eqb (block_number all block w) (block_number all block w) refl)) in
    let greatest : greatest_offset shape number (under_slot shape coords (number - 1) (path shape w i)) ≡ fold max 0 (map place (filter in_block coords)) =
    ap (λ (xs : List Coord). fold max 0 (map offset xs)) same_under ∙ ap (fold max 0) (map-agree offset place (filter in_block coords) same_offset) in
    let length : length_at all block false coords (block_number all block w) ≡ Some (suc (fold max 0 (map place (filter in_block coords)))) =
    ap (λ (xs : List Coord). fold longer None (map (λ (at : Coord). suc (place at)) xs)) found.2
    ∙ greatest_is place found.0 found.1
    ∙ ap (λ (xs : List Coord). Some (suc (fold max 0 (map place xs)))) (sym found.2) in
    ap (λ k. (k + chunk) / chunk) greatest
    ∙ sym (round_up (fold max 0 (map place (filter in_block coords))) chunk some)
    ∙ sym (ap (λ (l : Option ℕ). div_ceil (unwrap_or l 0) chunk) length)

pub chunks_are_lengths : (shape : Shape) (i number : ℕ) (node : NodeShape) (chunk : ℕ) (coords : List Coord) (lengths : BTreeMap ℕ ℕ) → PointOfRow → IsAccepted shape → number - 1 ≡ i → drop i shape.nodes ≡ node ∷ [] → 1 ≤ chunk → All (Inside (bounds_of_shape shape)) coords → IsOrdered nat_cmp lengths → ((k : ℕ) → get nat_cmp lengths k ≡ length_at (bounds_of_shape shape) (bounds_over shape.axes (drop i shape.nodes)) false coords k) → sum_by (chunks_under shape coords number chunk) (reached_slots shape coords (number - 1)) ≡ sum_by (λ length. div_ceil length chunk) (values lengths)
chunks_are_lengths shape i number node chunk coords lengths point_of_row accepted before split some inside ordered has =
    let all = bounds_of_shape shape in
    let block = bounds_over shape.axes (drop i shape.nodes) in
    let P : Coord → Type 0 = λ (at : Coord). Inside all at × Contains coords at in
    ap (λ k. sum_by (chunks_under shape coords number chunk) (distinct (map (λ (at : Coord). path shape at k) coords))) before
    ∙ sum_of_distinct P (λ (at : Coord). path shape at i) (block_number all block) (chunks_under shape coords number chunk)
    (λ k. div_ceil (unwrap_or (length_at all block false coords k) 0) chunk) coords
    (λ (x y : Coord) x_in y_in. paths_tell shape i x y point_of_row accepted x_in.0 y_in.0)
    (λ (w : Coord) w_in. chunks_are shape i number node chunk coords w point_of_row accepted before split some inside w_in.0 w_in.1)
    (λ k d below. (inside k d below, All-contains_itself coords k d below))
    ∙ sym (sum_of_lengths (λ length. div_ceil length chunk) all block false coords lengths ordered has)

-- ---- the needs that the code compares with caps
pub slot_need : (shape : Shape) (i : ℕ) (node : NodeShape) (coords : List Coord) (lengths : BTreeMap ℕ ℕ) (extents block : Bounds) (whole : Bool) → (node.kind ≡ Pointer) ⊎ (node.kind ≡ Hash) → PointOfRow → IsAccepted shape → All (Inside (bounds_of_shape shape)) coords → IsOrdered nat_cmp lengths → extents ≡ bounds_of_shape shape → block ≡ bounds_over shape.axes (drop (nodes_above node.kind i) shape.nodes) → ((number : ℕ) → get nat_cmp lengths number ≡ length_at extents block whole coords number) → need_of shape coords (i + 1) node ≡ btree_map_len lengths
slot_need shape i node coords lengths extents block whole kind point_of_row accepted inside ordered is_all is_block has =
    let one_more : i + 1 ≡ suc i = omega arith in
    let slots : block ≡ bounds_over shape.axes (drop (suc i) shape.nodes) → length (reached_slots shape coords (suc i)) ≡ btree_map_len lengths =
    λ is. slots_are_lengths shape (suc i) coords whole lengths point_of_row accepted inside ordered
    (λ number. has number ∙ ap (λ (e : Bounds). length_at e block whole coords number) is_all ∙ ap (λ (b : Bounds). length_at (bounds_of_shape shape) b whole coords number) is) in
    elim kind [
      | inl is ↦ ap (λ (k : Kind). need_by k shape coords (i + 1) (count_of node.chunk)) is ∙ ap (λ k. length (reached_slots shape coords k)) one_more
          ∙ slots (is_block ∙ ap (λ (k : Kind). bounds_over shape.axes (drop (nodes_above k i) shape.nodes)) is)
      | inr is ↦ ap (λ (k : Kind). need_by k shape coords (i + 1) (count_of node.chunk)) is ∙ ap (λ k. length (reached_slots shape coords k)) one_more
          ∙ slots (is_block ∙ ap (λ (k : Kind). bounds_over shape.axes (drop (nodes_above k i) shape.nodes)) is)
    ]

pub chunk_need : (shape : Shape) (i : ℕ) (node : NodeShape) (later : List NodeShape) (coords : List Coord) (lengths : BTreeMap ℕ ℕ) (extents block : Bounds) (whole : Bool) → node.kind ≡ Dynamic → PointOfRow → IsAccepted shape → drop i shape.nodes ≡ node ∷ later → 1 ≤ count_of node.chunk → All (Inside (bounds_of_shape shape)) coords → IsOrdered nat_cmp lengths → extents ≡ bounds_of_shape shape → block ≡ bounds_over shape.axes (drop (nodes_above node.kind i) shape.nodes) → whole ≡ is_whole node.kind → ((number : ℕ) → get nat_cmp lengths number ≡ length_at extents block whole coords number) → need_of shape coords (i + 1) node ≡ sum_by (λ length. div_ceil length (count_of node.chunk)) (values lengths)
chunk_need shape i node later coords lengths extents block whole kind point_of_row accepted split some inside ordered is_all is_block is_whole' has =
    let last : later ≡ [] = last_where_dynamic node later (good_at shape i node later accepted split) kind in
    ap (λ (k : Kind). need_by k shape coords (i + 1) (count_of node.chunk)) kind
    ∙ chunks_are_lengths shape i (i + 1) node (count_of node.chunk) coords lengths point_of_row accepted (omega arith) (split ∙ ap (λ (ns : List NodeShape). node ∷ ns) last) some inside ordered
    (λ number. has number
    ∙ ap (λ (e : Bounds). length_at e block whole coords number) is_all
    ∙ ap (λ (b : Bounds). length_at (bounds_of_shape shape) b whole coords number) (is_block ∙ ap (λ (k : Kind). bounds_over shape.axes (drop (nodes_above k i) shape.nodes)) kind)
    ∙ ap (λ (w : Bool). length_at (bounds_of_shape shape) (bounds_over shape.axes (drop i shape.nodes)) w coords number) (is_whole' ∙ ap is_whole kind))

-- only a node with a cap needs room
pub full_has_cap : (kind : Kind) (cap : ℕ) (shape : Shape) (coords : List Coord) (number chunk : ℕ) → ltb cap (need_by kind shape coords number chunk) ≡ true → has_cap kind ≡ true
full_has_cap Dense cap shape coords number chunk full = absurd (let h = ltb-true cap 0 full in omega arith)
full_has_cap Bitmasked cap shape coords number chunk full = absurd (let h = ltb-true cap 0 full in omega arith)
full_has_cap Pointer cap shape coords number chunk full = refl
full_has_cap Hash cap shape coords number chunk full = refl
full_has_cap Dynamic cap shape coords number chunk full = refl
