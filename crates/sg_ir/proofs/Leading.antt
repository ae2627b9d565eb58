-- The walk of index words leads to the place of the coordinate that they name.
use Rattle.std.proofs.Common.{◌≡◌, ℕ, zero, suc, ◌+◌, ◌*◌, ◌/◌, ◌%◌, ◌^◌, ◌<◌, ◌≤◌, Bool, true, false, ◌&&◌, cond, eqb, ltb, Option, Some, None, option_and_then, List, [], ◌∷◌, ◌++◌, length, get_or, All, refl, sym, ap, ◌∙◌, subst, append_assoc, arith, pos, ◌≤ℤ◌, ◌-ℤ◌}
use Rattle.std.specs.Prelude.{slice_get}
use Rattle.std.specs.List.{list_all}
use Rattle.std.proofs.Math.Nat.{mod-one, mod-add-mod, mod-eq_of_lt}
use Rattle.std.proofs.lemmas.Nat.{mul-mod_first, mul-le}
use Rattle.std.proofs.lemmas.Int.{ints}
use Rattle.std.proofs.lemmas.Bool.{eq-eqb, lt-ltb, cond-true, and_parts}
use Rattle.std.proofs.lemmas.List.{length_push, append-nil, get_or_default}
use Rattle.std.proofs.lemmas.List.Elements.{All-head, All-tail}
use Rattle.sg_words.specs.declared.operators.Ty.TheVariants as ty
use Rattle.sg_words.specs.Words.{number}
use Rattle.sg_coord.specs.declared.coord.Coord.{Coord}
use Rattle.sg_coord.specs.Bounds.{Bounds, IsBounds}
use Rattle.sg_coord.specs.Coord.{Inside, is_inside, is_on_axis, count_of}
use Rattle.sg_coord.specs.Laws.{InsideTest}
use Rattle.sg_layout.specs.declared.shape.NodeShape.{NodeShape}
use Rattle.sg_layout.specs.declared.shape.Shape.{Shape}
use Rattle.sg_layout.specs.Accepted.{IsAccepted}
use Rattle.sg_layout.specs.Axes.{size_of, slots_of, extent_in, extent_over, bounds_of_shape}
use Rattle.sg_layout.specs.Path.{part_at, offset_at, offsets}
use Rattle.sg_layout.specs.Rules.{has_good_extents}
use Rattle.sg_layout.specs.Slots.{IsSlot}
use Rattle.sg_layout.proofs.Uses.{in_some, over_some, size_some, slots_few, all_good}
use Rattle.sg_ir.specs.Runs.{Place, coord_of, down, add_offset, node_in, node_of}
use Rattle.sg_ir.specs.Places.{place_of_coord, place_at, extents_in}
use Rattle.sg_ir.specs.steps.Walks.{checks, digit, node_offset, led}

-- ---- checks
and4 : (p a b c : Bool) → p ≡ true → b ≡ true → c ≡ true → (((p && a) && b) && c) ≡ a
and4 p a b c ph bh ch =
    let plain : (x : Bool) → (((true && x) && true) && true) ≡ x = λ x. elim x as (λ y. (((true && y) && true) && true) ≡ y) [ true ↦ refl | false ↦ refl ] in
    ap (λ q. ((q && a) && b) && c) ph ∙ ap (λ q. ((true && a) && q) && c) bh ∙ ap (λ q. ((true && a) && true) && q) ch ∙ plain a

and_two : (p a b c : Bool) → p ≡ true → c ≡ true → (((p && a) && b) && c) ≡ (a && b)
and_two p a b c ph ch =
    let plain : (x : Bool) → (x && true) ≡ x = λ x. elim x as (λ y. (y && true) ≡ y) [ true ↦ refl | false ↦ refl ] in
    ap (λ q. ((q && a) && b) && c) ph ∙ ap (λ q. ((true && a) && b) && q) ch ∙ plain (a && b)

and_three : (p a b c : Bool) → p ≡ true → (((p && a) && b) && c) ≡ ((a && b) && c)
and_three p a b c ph = ap (λ q. ((q && a) && b) && c) ph

nested : {A : Type 0} (a b : Bool) (x : Option A) → cond b (cond a x None) None ≡ cond (a && b) x None
nested true b x = refl
nested false true x = refl
nested false false x = refl

-- the checks of words, as many as there are axes, pass exactly when their coordinate is inside
pub inside-checks : (bounds : Bounds) (words : List ℕ) → length words ≡ bounds.n → IsBounds bounds → (x : Option Place) → checks (extents_in bounds) words x ≡ cond (is_inside bounds (coord_of words)) x None
inside-checks bounds [] long good x = let some = good.some_axis in absurd (omega arith)
inside-checks bounds (w ∷ []) long good x =
    let on_one : is_on_axis 1 (pos 0) ≡ true = refl in
    let b_one : bounds.b ≡ 1 = good.b_unused (omega arith) in
    let c_one : bounds.c ≡ 1 = good.c_unused (omega arith) in
    ap (λ test. cond test x None) (sym (and4 (eqb 1 bounds.n) (is_on_axis bounds.a (number ty.I32 w)) (is_on_axis bounds.b (pos 0)) (is_on_axis bounds.c (pos 0))
    (eq-eqb 1 bounds.n long) (ap (λ e. is_on_axis e (pos 0)) b_one ∙ on_one) (ap (λ e. is_on_axis e (pos 0)) c_one ∙ on_one)))
inside-checks bounds (w ∷ v ∷ []) long good x =
    let on_one : is_on_axis 1 (pos 0) ≡ true = refl in
    let c_one : bounds.c ≡ 1 = good.c_unused (omega arith) in
    nested (is_on_axis bounds.a (number ty.I32 w)) (is_on_axis bounds.b (number ty.I32 v)) x
    ∙ ap (λ test. cond test x None) (sym (and_two (eqb 2 bounds.n) (is_on_axis bounds.a (number ty.I32 w)) (is_on_axis bounds.b (number ty.I32 v)) (is_on_axis bounds.c (pos 0))
    (eq-eqb 2 bounds.n long) (ap (λ e. is_on_axis e (pos 0)) c_one ∙ on_one)))
inside-checks bounds (w ∷ v ∷ u ∷ []) long good x =
    ap (λ y. cond (is_on_axis bounds.c (number ty.I32 u)) y None) (nested (is_on_axis bounds.a (number ty.I32 w)) (is_on_axis bounds.b (number ty.I32 v)) x)
    ∙ nested (is_on_axis bounds.a (number ty.I32 w) && is_on_axis bounds.b (number ty.I32 v)) (is_on_axis bounds.c (number ty.I32 u)) x
    ∙ ap (λ test. cond test x None) (sym (and_three (eqb 3 bounds.n) (is_on_axis bounds.a (number ty.I32 w)) (is_on_axis bounds.b (number ty.I32 v)) (is_on_axis bounds.c (number ty.I32 u)) (eq-eqb 3 bounds.n long)))
inside-checks bounds (w ∷ v ∷ u ∷ t ∷ words) long good x = let most = good.three_axes in absurd (omega arith)

-- ---- words and offsets
-- the word of a number that isn't negative is its count
pub count-word : (w : ℕ) → w < 2 ^ 32 → pos 0 ≤ℤ number ty.I32 w → count_of (number ty.I32 w) ≡ w
count-word w small low =
    let P : Bool → Type 0 = λ b. pos 0 ≤ℤ cond b (pos w) (pos w -ℤ pos (2 ^ 32)) → count_of (cond b (pos w) (pos w -ℤ pos (2 ^ 32))) ≡ w in
    (elim (ltb w (2 ^ 31)) as P [ true ↦ λ h. refl | false ↦ λ h. absurd (omega (arith, ints)) ]) low

wrap : (x e d m : ℕ) → (x % m * e + d) % m ≡ (x * e + d) % m
wrap x e d m = sym (mod-add-mod (x % m * e) m d) ∙ ap (λ k. (k + d) % m) (mul-mod_first x e m) ∙ mod-add-mod (x * e) m d

-- the extents of axes that aren't there are 1
abbrev pub Unused : ℕ → NodeShape → Type 0
Unused axes node = (axis : ℕ) → axes < axis → axis ≤ 3 → extent_in node.sizes axis ≡ 1

abbrev pub UnusedOver : ℕ → List NodeShape → Type 0
UnusedOver axes nodes = (axis : ℕ) → axes < axis → axis ≤ 3 → extent_over nodes axis ≡ 1

no_part : (n e : ℕ) → e ≡ 1 → n % e ≡ 0
no_part n e one = ap (λ m. n % m) one ∙ mod-one n

last_none : (x e p : ℕ) → e ≡ 1 → p ≡ 0 → x * e + p ≡ x
last_none x e p one none = ap (λ m. x * m + p) one ∙ ap (λ q. x * 1 + q) none ∙ (let e : x * 1 + 0 ≡ x = omega arith in e)

-- the offset of index words at a node is that of their coordinate
same-offset : (node : NodeShape) (later : List NodeShape) (words : List ℕ) → 1 ≤ length words → length words ≤ 3 → Unused (length words) node →
    All (λ w. count_of (number ty.I32 w) ≡ w) words → offset_at node later (coord_of words) < 2 ^ 32 → node_offset node later words ≡ offset_at node later (coord_of words)
same-offset node later [] some few unused counts small = absurd (omega arith)
same-offset node later (w ∷ []) some few unused counts small =
    let p : ℕ = part_at node later 1 (count_of (number ty.I32 w)) in
    let first : digit node later 1 w ≡ p = ap (part_at node later 1) (sym (All-head (λ w. count_of (number ty.I32 w) ≡ w) w [] counts)) in
    let two : extent_in node.sizes 2 ≡ 1 = unused 2 (omega arith) (omega arith) in
    let three : extent_in node.sizes 3 ≡ 1 = unused 3 (omega arith) (omega arith) in
    first
    ∙ sym (last_none p (extent_in node.sizes 2) (part_at node later 2 0) two (no_part (0 / extent_over later 2) (extent_in node.sizes 2) two))
    ∙ sym (last_none (p * extent_in node.sizes 2 + part_at node later 2 0) (extent_in node.sizes 3) (part_at node later 3 0) three (no_part (0 / extent_over later 3) (extent_in node.sizes 3) three))
same-offset node later (w ∷ v ∷ []) some few unused counts small =
    let P : ℕ → Type 0 = λ w. count_of (number ty.I32 w) ≡ w in
    let p : ℕ = part_at node later 1 (count_of (number ty.I32 w)) in
    let q : ℕ = part_at node later 2 (count_of (number ty.I32 v)) in
    let e : ℕ = extent_in node.sizes 2 in
    let first : digit node later 1 w ≡ p = ap (part_at node later 1) (sym (All-head P w (v ∷ []) counts)) in
    let second : digit node later 2 v ≡ q = ap (part_at node later 2) (sym (All-head P v [] (All-tail P w (v ∷ []) counts))) in
    let three : extent_in node.sizes 3 ≡ 1 = unused 3 (omega arith) (omega arith) in
    let whole : (p * e + q) * extent_in node.sizes 3 + part_at node later 3 0 ≡ p * e + q = last_none (p * e + q) (extent_in node.sizes 3) (part_at node later 3 0) three (no_part (0 / extent_over later 3) (extent_in node.sizes 3) three) in
    let below : p * e + q < 2 ^ 32 = subst (λ n. n < 2 ^ 32) whole small in
    ap (λ d. (d * e + digit node later 2 v) % 2 ^ 32) first ∙ ap (λ d. (p * e + d) % 2 ^ 32) second ∙ mod-eq_of_lt below ∙ sym whole
same-offset node later (w ∷ v ∷ u ∷ []) some few unused counts small =
    let P : ℕ → Type 0 = λ w. count_of (number ty.I32 w) ≡ w in
    let p : ℕ = part_at node later 1 (count_of (number ty.I32 w)) in
    let q : ℕ = part_at node later 2 (count_of (number ty.I32 v)) in
    let r : ℕ = part_at node later 3 (count_of (number ty.I32 u)) in
    let e : ℕ = extent_in node.sizes 2 in
    let f : ℕ = extent_in node.sizes 3 in
    let first : digit node later 1 w ≡ p = ap (part_at node later 1) (sym (All-head P w (v ∷ u ∷ []) counts)) in
    let second : digit node later 2 v ≡ q = ap (part_at node later 2) (sym (All-head P v (u ∷ []) (All-tail P w (v ∷ u ∷ []) counts))) in
    let third : digit node later 3 u ≡ r = ap (part_at node later 3) (sym (All-head P u [] (All-tail P v (u ∷ []) (All-tail P w (v ∷ u ∷ []) counts)))) in
    let below : (p * e + q) * f + r < 2 ^ 32 = small in
    ap (λ d. ((d * e + digit node later 2 v) % 2 ^ 32 * f + digit node later 3 u) % 2 ^ 32) first
    ∙ ap (λ d. ((p * e + d) % 2 ^ 32 * f + digit node later 3 u) % 2 ^ 32) second
    ∙ ap (λ d. ((p * e + q) % 2 ^ 32 * f + d) % 2 ^ 32) third
    ∙ wrap (p * e + q) f r (2 ^ 32)
    ∙ mod-eq_of_lt below
same-offset node later (w ∷ v ∷ u ∷ t ∷ words) some few unused counts small = absurd (omega arith)

-- at each node the offset of the words is that of the coordinate, and below the node's size
abbrev pub Steps : List ℕ → List NodeShape → Type 0
Steps words [] = Unit {0}
Steps words (node ∷ later) = (node_offset node later words ≡ offset_at node later (coord_of words)) × ((offset_at node later (coord_of words) < size_of node.sizes) × Steps words later)

ones : (m n : ℕ) → 1 ≤ m → 1 ≤ n → m * n ≡ 1 → (m ≡ 1) × (n ≡ 1)
ones m n some rest one =
    let h : m * 1 ≤ m * n = mul-le m 1 m n (omega arith) rest in
    let k : 1 * n ≤ m * n = mul-le 1 n m n some (omega arith) in
    (omega arith, omega arith)

pub all-steps : (words : List ℕ) (nodes : List NodeShape) → 1 ≤ length words → length words ≤ 3 → All (λ w. count_of (number ty.I32 w) ≡ w) words →
    list_all has_good_extents nodes ≡ true → UnusedOver (length words) nodes → slots_of nodes ≤ 2 ^ 30 → IsSlot nodes (offsets nodes (coord_of words)) → Steps words nodes
all-steps words [] some few counts good unused most slot = tt
all-steps words (node ∷ later) some few counts good unused most slot =
    let parts = and_parts (has_good_extents node) (list_all has_good_extents later) good in
    let both : (axis : ℕ) → length words < axis → axis ≤ 3 → (extent_in node.sizes axis ≡ 1) × (extent_over later axis ≡ 1) =
    λ axis past last. ones (extent_in node.sizes axis) (extent_over later axis) (in_some node.sizes axis parts.0) (over_some later axis parts.1) (unused axis past last) in
    let size : 1 ≤ size_of node.sizes = size_some node.sizes parts.0 in
    let rest : 1 ≤ slots_of later = all_some later parts.1 in
    let here : size_of node.sizes * 1 ≤ size_of node.sizes * slots_of later = mul-le (size_of node.sizes) 1 (size_of node.sizes) (slots_of later) (omega arith) rest in
    let there : 1 * slots_of later ≤ size_of node.sizes * slots_of later = mul-le 1 (slots_of later) (size_of node.sizes) (slots_of later) size (omega arith) in
    let below : offset_at node later (coord_of words) < size_of node.sizes = slot.0 in (
      same-offset node later words some few (λ axis past last. (both axis past last).0) counts (omega arith),
      (below, all-steps words later some few counts parts.1 (λ axis past last. (both axis past last).1) (omega arith) slot.1),
    )
  where
    all_some : (nodes : List NodeShape) → list_all has_good_extents nodes ≡ true → 1 ≤ slots_of nodes
    all_some [] good = omega arith
    all_some (node ∷ later) good =
        let parts = and_parts (has_good_extents node) (list_all has_good_extents later) good in
        let rest : 1 ≤ slots_of later = all_some later parts.1 in
        let product : 1 * 1 ≤ size_of node.sizes * slots_of later = mul-le 1 1 (size_of node.sizes) (slots_of later) (size_some node.sizes parts.0) rest in
        omega arith

-- ---- the walk down
pub led-none : (shapes : List Shape) (at : ℕ) (nodes : List NodeShape) (words : List ℕ) → led shapes at nodes words None ≡ None
led-none shapes at [] words = refl
led-none shapes at (node ∷ later) words = led-none shapes (suc at) later words

pub slice_get-past : {A : Type 0} (done : List A) (x : A) (later : List A) → slice_get (done ++ x ∷ later) (length done) ≡ Some x
slice_get-past [] x later = refl
slice_get-past (y ∷ done) x later = slice_get-past done x later

abbrev place_of : ℕ → List ℕ → Place
place_of layout path = record { layout = layout; path = path }

pub led-whole : (shapes : List Shape) (layout : ℕ) (shape : Shape) (words : List ℕ) → slice_get shapes layout ≡ Some shape → (done later : List NodeShape) (path : List ℕ) → shape.nodes ≡ done ++ later → Steps words later →
    led shapes (suc (length done)) later words (Some (place_of layout path)) ≡ Some (place_of layout (path ++ offsets later (coord_of words)))
led-whole shapes layout shape words there done [] path split steps = ap (λ p. Some (place_of layout p)) (sym (append-nil path))
led-whole shapes layout shape words there done (node ∷ later) path split steps =
    let o : ℕ = offset_at node later (coord_of words) in
    let found : node_of shapes layout (suc (length done)) ≡ Some node =
    ap (option_and_then (λ (s : Shape). node_in s.nodes (suc (length done)))) there ∙ ap (λ ns. slice_get ns (length done)) split ∙ slice_get-past done node later in
    let step : down shapes (suc (length done)) (node_offset node later words) (Some (place_of layout path)) ≡ Some (place_of layout (path ++ o ∷ [])) =
    ap (λ n. add_offset (node_offset node later words) (place_of layout path) n) found
    ∙ ap (λ k. add_offset k (place_of layout path) (Some node)) steps.0
    ∙ cond-true (ltb o (size_of node.sizes)) (Some (place_of layout (path ++ o ∷ []))) None (lt-ltb o (size_of node.sizes) steps.1.0) in
    let longer : suc (length done) ≡ length (done ++ node ∷ []) = let e = length_push done node in omega arith in
    ap (λ p. led shapes (suc (suc (length done))) later words p) step
    ∙ ap (λ k. led shapes (suc k) later words (Some (place_of layout (path ++ o ∷ [])))) longer
    ∙ led-whole shapes layout shape words there (done ++ node ∷ []) later (path ++ o ∷ []) (split ∙ sym (append_assoc done (node ∷ []) later)) steps.1.1
    ∙ ap (λ p. Some (place_of layout p)) (append_assoc path (o ∷ []) (offsets later (coord_of words)))

by_test : (F : Option Place → Option Place) (b : Bool) (x y : Option Place) → (b ≡ true → F x ≡ y) → F None ≡ None → F (cond b x None) ≡ cond b y None
by_test F true x y same none = same refl
by_test F false x y same none = none

inside_counts : (bounds : Bounds) (words : List ℕ) → length words ≤ 3 → Inside bounds (coord_of words) → All (λ w. w < 2 ^ 32) words → All (λ w. count_of (number ty.I32 w) ≡ w) words
inside_counts bounds words few inside small = λ k d below. here k d below
  where
    low : (k : ℕ) → k < 3 → pos 0 ≤ℤ number ty.I32 (get_or words k 0)
    low zero h = inside.a_low
    low (suc zero) h = inside.b_low
    low (suc (suc zero)) h = inside.c_low
    low (suc (suc (suc k))) h = absurd (omega arith)

    here : (k d : ℕ) → k < length words → count_of (number ty.I32 (get_or words k d)) ≡ get_or words k d
    here k d below = count-word (get_or words k d) (small k d below) (subst (λ w. pos 0 ≤ℤ number ty.I32 w) (get_or_default words k 0 d below) (low k (omega arith)))

-- the checks of index words against a layout's extents, and then one step down each node, lead from its root to the place of their coordinate
pub walk-leads : (shapes : List Shape) (layout : ℕ) (shape : Shape) (words : List ℕ) → slice_get shapes layout ≡ Some shape → IsAccepted shape → IsBounds (bounds_of_shape shape) → InsideTest →
    (is_slot : (at : Coord) → IsSlot shape.nodes (offsets shape.nodes at)) → length words ≡ shape.axes → All (λ w. w < 2 ^ 32) words →
    led shapes 1 shape.nodes words (checks (extents_in (bounds_of_shape shape)) words (Some (place_of layout []))) ≡ place_at shapes layout (coord_of words)
walk-leads shapes layout shape words there accepted good test is_slot long small =
    let bounds : Bounds = bounds_of_shape shape in
    let at : Coord = coord_of words in
    let some : 1 ≤ length words = let h = good.some_axis in omega arith in
    let few : length words ≤ 3 = let h = good.three_axes in omega arith in
    let unused : UnusedOver (length words) shape.nodes = λ axis past last. unused_over axis past last in
    ap (led shapes 1 shape.nodes words) (inside-checks bounds words long good (Some (place_of layout [])))
    ∙ by_test (led shapes 1 shape.nodes words) (is_inside bounds at) (Some (place_of layout [])) (Some (place_of layout (offsets shape.nodes at)))
    (λ inside. led-whole shapes layout shape words there [] shape.nodes [] refl (all-steps words shape.nodes some few (inside_counts bounds words few ((test bounds at).0 inside) small) (all_good shape accepted) unused (slots_few shape accepted) (is_slot at)))
    (led-none shapes 1 shape.nodes words)
    ∙ ap (place_of_coord layout at) (sym there)
  where
    unused_over : (axis : ℕ) → length words < axis → axis ≤ 3 → extent_over shape.nodes axis ≡ 1
    unused_over zero past last = absurd (omega arith)
    unused_over (suc zero) past last = let h = good.some_axis in absurd (omega arith)
    unused_over (suc (suc zero)) past last = good.b_unused (omega arith)
    unused_over (suc (suc (suc zero))) past last = good.c_unused (omega arith)
    unused_over (suc (suc (suc (suc k)))) past last = absurd (omega arith)
