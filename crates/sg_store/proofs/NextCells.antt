-- Cells that follow one another along the last axis.
use Rattle.std.proofs.Common.{◌≡◌, ℕ, zero, suc, ◌+◌, ◌*◌, ◌/◌, ◌%◌, ◌<◌, ◌≤◌, ◌-◌, ◌⊎◌, inl, inr, Bool, true, false, List, [], ◌∷◌, ◌++◌, length, take, get_or, Option, Some, None, ℤ, pos, negsuc, ◌+ℤ◌, ◌≤ℤ◌, ◌<ℤ◌, refl, sym, ap, ap₂, ◌∙◌, subst, arith, div-add-mod', mod-lt}
use Rattle.std.specs.Prelude.{option_and_then, nat_le, if◌then◌else◌}
use Rattle.std.specs.List.{list_all}
use Rattle.std.proofs.lemmas.Bool.{and_parts}
use Rattle.std.proofs.lemmas.Int.{ints}
use Rattle.std.proofs.lemmas.Nat.{mul-le, div-mul-add, mod-mul-add, div_below}
use Rattle.std.proofs.lemmas.List.{take_all, take_more}
use Rattle.std.proofs.lemmas.Option.{same_Some}
use native.Mathlib.Nat.{div-div-eq-div-mul, div-one}
use Rattle.sg_coord.specs.declared.coord.Coord.{Coord}
use Rattle.sg_coord.specs.Bounds.{Bounds}
use Rattle.sg_coord.specs.Coord.{count_of, is_inside, Inside}
use Rattle.sg_coord.specs.Laws.{InsideTest}
use Rattle.sg_coord.proofs.Uses.{offset_below}
use Rattle.sg_layout.specs.declared.shape.Kind.{Kind}
use Rattle.sg_layout.specs.declared.shape.Kind.TheVariants.{Dense, Bitmasked, Pointer, Hash, Dynamic}
use Rattle.sg_layout.specs.declared.shape.NodeShape.{NodeShape}
use Rattle.sg_layout.specs.declared.shape.Shape.{Shape}
use Rattle.sg_layout.specs.Accepted.{IsAccepted}
use Rattle.sg_layout.specs.Axes.{extent_in, extent_over, bounds_of_shape}
use Rattle.sg_layout.specs.Closure.{is_dense}
use Rattle.sg_layout.specs.Rules.{has_good_extents}
use Rattle.sg_layout.specs.Path.{part_at, offset_at, offsets}
use Rattle.sg_layout.proofs.Uses.{unnamed_over, no_fault, axes_declared}
use Rattle.sg_store.specs.declared.node.NodeWords.{NodeWords}
use Rattle.sg_store.specs.Slots.{slot_under, active_below}
use Rattle.sg_store.specs.StoreWords.{StoreWords}
use Rattle.sg_store.specs.Walks.{place_after, cell_along, cell_in}
use Rattle.sg_store.specs.Following.{last_part, left_under, left_in, cells_left, CellsFollow}
use Rattle.sg_store.proofs.ActiveCells.{cell_parts, cell_from_parts}

-- ---- quotients

same_quotient : (x k e : ℕ) → x % e + k < e → (x + k) / e ≡ x / e
same_quotient x k e low =
    let is : x / e * e + x % e ≡ x = div-add-mod' x e in
    let more : x + k ≡ x / e * e + (x % e + k) = omega (arith, is) in
    ap (λ n. n / e) more ∙ div-mul-add (x / e) e (x % e + k) low

next_rest : (x k e : ℕ) → x % e + k < e → (x + k) % e ≡ x % e + k
next_rest x k e low =
    let is : x / e * e + x % e ≡ x = div-add-mod' x e in
    let more : x + k ≡ x / e * e + (x % e + k) = omega (arith, is) in
    ap (λ n. n % e) more ∙ mod-mul-add (x / e) e (x % e + k) low

-- the same over a multiple
same_over : (x k q e : ℕ) → x % e + k < e → (x + k) / (q * e) ≡ x / (q * e)
same_over x k q e low =
    let turned : q * e ≡ e * q = omega arith in
    ap (λ d. (x + k) / d) turned ∙ sym (div-div-eq-div-mul (x + k) e q) ∙ ap (λ n. n / q) (same_quotient x k e low)
    ∙ div-div-eq-div-mul x e q ∙ ap (λ d. x / d) (sym turned)

-- ---- parts

-- the extent of an axis ends with that of the last node
ends : (front : List NodeShape) (last : NodeShape) (axis : ℕ) → extent_over (front ++ last ∷ []) axis ≡ extent_over front axis * extent_in last.sizes axis
ends [] last axis = omega arith
ends (node ∷ front) last axis = ap (λ n. extent_in node.sizes axis * n) (ends front last axis) ∙ omega arith

-- at a node before the last a part stays
part_before : (node : NodeShape) (front : List NodeShape) (last : NodeShape) (axis x k : ℕ) → x % extent_in last.sizes axis + k < extent_in last.sizes axis
    → part_at node (front ++ last ∷ []) axis (x + k) ≡ part_at node (front ++ last ∷ []) axis x
part_before node front last axis x k low =
    ap (λ d. (x + k) / d % extent_in node.sizes axis) (ends front last axis)
    ∙ ap (λ n. n % extent_in node.sizes axis) (same_over x k (extent_over front axis) (extent_in last.sizes axis) low)
    ∙ ap (λ d. x / d % extent_in node.sizes axis) (sym (ends front last axis))

-- at the last node it goes on
part_last : (last : NodeShape) (axis x k : ℕ) → x % extent_in last.sizes axis + k < extent_in last.sizes axis → part_at last [] axis (x + k) ≡ part_at last [] axis x + k
part_last last axis x k low =
    ap (λ n. n % extent_in last.sizes axis) (div-one (x + k)) ∙ next_rest x k (extent_in last.sizes axis) low
    ∙ ap (λ n. n % extent_in last.sizes axis + k) (sym (div-one x))

-- ---- offsets

-- the offsets of two coordinates differ at the last node alone
pub record GoesOn (nodes : List NodeShape) (last : NodeShape) (at next : Coord) (k : ℕ) : Type 0 where
  pub front : List ℕ
  pub end : ℕ
  pub long : length front ≡ length nodes
  pub here : offsets (nodes ++ last ∷ []) at ≡ front ++ end ∷ []
  pub there : offsets (nodes ++ last ∷ []) next ≡ front ++ (end + k) ∷ []

goes_on : (front : List NodeShape) (last : NodeShape) (at next : Coord) (k : ℕ)
    → ((node : NodeShape) (mid : List NodeShape) → offset_at node (mid ++ last ∷ []) next ≡ offset_at node (mid ++ last ∷ []) at)
    → offset_at last [] next ≡ offset_at last [] at + k → GoesOn front last at next k
goes_on [] last at next k same more = record { front = []; end = offset_at last [] at; long = refl; here = refl; there = ap (λ (n : ℕ). n ∷ []) more }
goes_on (node ∷ front) last at next k same more =
    let rest = goes_on front last at next k same more in
    record {
      front = offset_at node (front ++ last ∷ []) at ∷ rest.front;
      end = rest.end;
      long = ap suc rest.long;
      here = ap (λ (os : List ℕ). offset_at node (front ++ last ∷ []) at ∷ os) rest.here;
      there = ap₂ (λ (o : ℕ) (os : List ℕ). o ∷ os) (same node front) rest.there;
    }

-- the offset by the parts' counts
abbrev offset_of : NodeShape → List NodeShape → ℕ → ℕ → ℕ → ℕ
offset_of node later x y z =
    (part_at node later 1 x * extent_in node.sizes 2 + part_at node later 2 y) * extent_in node.sizes 3 + part_at node later 3 z

-- so many further along the third axis
pub on_third : (front : List NodeShape) (last : NodeShape) (at next : Coord) (k : ℕ) → count_of next.a ≡ count_of at.a → count_of next.b ≡ count_of at.b → count_of next.c ≡ count_of at.c + k
    → count_of at.c % extent_in last.sizes 3 + k < extent_in last.sizes 3 → GoesOn front last at next k
on_third front last at next k a b c low =
    let x = count_of at.a in let y = count_of at.b in let z = count_of at.c in
    let counts : (node : NodeShape) (later : List NodeShape) → offset_at node later next ≡ offset_of node later x y (z + k) =
    λ node later. ap (λ n. offset_of node later n (count_of next.b) (count_of next.c)) a ∙ ap (λ n. offset_of node later x n (count_of next.c)) b ∙ ap (offset_of node later x y) c in
    goes_on front last at next k
    (λ node mid. counts node (mid ++ last ∷ []) ∙ ap (λ p. (part_at node (mid ++ last ∷ []) 1 x * extent_in node.sizes 2 + part_at node (mid ++ last ∷ []) 2 y) * extent_in node.sizes 3 + p) (part_before node mid last 3 z k low))
    (counts last [] ∙ ap (λ p. (part_at last [] 1 x * extent_in last.sizes 2 + part_at last [] 2 y) * extent_in last.sizes 3 + p) (part_last last 3 z k low) ∙ omega arith)

-- so many further along the second, where the third is no axis of the last node
pub on_second : (front : List NodeShape) (last : NodeShape) (at next : Coord) (k : ℕ) → count_of next.a ≡ count_of at.a → count_of next.b ≡ count_of at.b + k → count_of next.c ≡ count_of at.c
    → extent_in last.sizes 3 ≡ 1 → count_of at.b % extent_in last.sizes 2 + k < extent_in last.sizes 2 → GoesOn front last at next k
on_second front last at next k a b c flat low =
    let x = count_of at.a in let y = count_of at.b in let z = count_of at.c in
    let counts : (node : NodeShape) (later : List NodeShape) → offset_at node later next ≡ offset_of node later x (y + k) z =
    λ node later. ap (λ n. offset_of node later n (count_of next.b) (count_of next.c)) a ∙ ap (λ n. offset_of node later x n (count_of next.c)) b ∙ ap (offset_of node later x (y + k)) c in
    goes_on front last at next k
    (λ node mid. counts node (mid ++ last ∷ []) ∙ ap (λ p. (part_at node (mid ++ last ∷ []) 1 x * extent_in node.sizes 2 + p) * extent_in node.sizes 3 + part_at node (mid ++ last ∷ []) 3 z) (part_before node mid last 2 y k low))
    (counts last [] ∙ ap (λ p. (part_at last [] 1 x * extent_in last.sizes 2 + p) * extent_in last.sizes 3 + part_at last [] 3 z) (part_last last 2 y k low) ∙ add_second (part_at last [] 1 x * extent_in last.sizes 2) (part_at last [] 2 y) k (extent_in last.sizes 3) (part_at last [] 3 z) flat)
  where
    add_second : (p q k e r : ℕ) → e ≡ 1 → (p + (q + k)) * e + r ≡ (p + q) * e + r + k
    add_second p q k e r is = ap (λ n. (p + (q + k)) * n + r) is ∙ omega arith ∙ ap (λ n. (p + q) * n + r + k) (sym is)

-- so many further along the first, where it is the only axis of the last node
pub on_first : (front : List NodeShape) (last : NodeShape) (at next : Coord) (k : ℕ) → count_of next.a ≡ count_of at.a + k → count_of next.b ≡ count_of at.b → count_of next.c ≡ count_of at.c
    → extent_in last.sizes 2 ≡ 1 → extent_in last.sizes 3 ≡ 1 → count_of at.a % extent_in last.sizes 1 + k < extent_in last.sizes 1 → GoesOn front last at next k
on_first front last at next k a b c second third low =
    let x = count_of at.a in let y = count_of at.b in let z = count_of at.c in
    let counts : (node : NodeShape) (later : List NodeShape) → offset_at node later next ≡ offset_of node later (x + k) y z =
    λ node later. ap (λ n. offset_of node later n (count_of next.b) (count_of next.c)) a ∙ ap (λ n. offset_of node later (x + k) n (count_of next.c)) b ∙ ap (offset_of node later (x + k) y) c in
    goes_on front last at next k
    (λ node mid. counts node (mid ++ last ∷ []) ∙ ap (λ p. (p * extent_in node.sizes 2 + part_at node (mid ++ last ∷ []) 2 y) * extent_in node.sizes 3 + part_at node (mid ++ last ∷ []) 3 z) (part_before node mid last 1 x k low))
    (counts last [] ∙ ap (λ p. (p * extent_in last.sizes 2 + part_at last [] 2 y) * extent_in last.sizes 3 + part_at last [] 3 z) (part_last last 1 x k low)
    ∙ add_first (part_at last [] 1 x) k (extent_in last.sizes 2) (part_at last [] 2 y) (extent_in last.sizes 3) (part_at last [] 3 z) second third)
  where
    add_first : (p k d q e r : ℕ) → d ≡ 1 → e ≡ 1 → ((p + k) * d + q) * e + r ≡ (p * d + q) * e + r + k
    add_first p k d q e r is_d is_e =
        ap (λ n. ((p + k) * n + q) * e + r) is_d ∙ ap (λ n. ((p + k) * 1 + q) * n + r) is_e ∙ omega arith
        ∙ ap (λ n. (p * 1 + q) * n + r + k) (sym is_e) ∙ ap (λ n. (p * n + q) * e + r + k) (sym is_d)

-- ---- cells

none_some : {A : Type 0} (n : ℕ) → None ≡ Some n → A
none_some n is = absurd (cc)

dense_step : (kind : Kind) (last : NodeShape) (kept : NodeWords) (number : ℕ) → kind ≡ Dense → active_below kind last kept number ≡ Some number
dense_step kind last kept number is = ap (λ (k : Kind). active_below k last kept number) is

-- along paths that differ by the last offset, where the last node is dense, the cells differ as the offsets do
pub cell_goes_on : (front : List NodeShape) (last : NodeShape) (words : List NodeWords) (place : ℕ) (fr : List ℕ) (o k cell : ℕ) → last.kind ≡ Dense → length fr ≡ length front
    → place_after active_below (front ++ last ∷ []) words place (fr ++ o ∷ []) ≡ Some cell → place_after active_below (front ++ last ∷ []) words place (fr ++ (o + k) ∷ []) ≡ Some (cell + k)
cell_goes_on [] last [] place fr o k cell dense long is = by_front fr is
  where
    by_front : (those : List ℕ) → place_after active_below (last ∷ []) [] place (those ++ o ∷ []) ≡ Some cell → place_after active_below (last ∷ []) [] place (those ++ (o + k) ∷ []) ≡ Some (cell + k)
    by_front [] none = none_some cell none
    by_front (f ∷ those) none = none_some cell none
cell_goes_on [] last (kept ∷ words) place [] o k cell dense long is =
    let there : (offset : ℕ) → place_after active_below (last ∷ []) (kept ∷ words) place (offset ∷ []) ≡ Some (slot_under last place offset) =
    λ offset. ap (λ (next : Option ℕ). option_and_then (λ n. place_after active_below [] words n []) next) (dense_step last.kind last kept (slot_under last place offset) dense) in
    let cell_is : Some (slot_under last place o) ≡ Some cell = sym (there o) ∙ is in
    let one : slot_under last place o ≡ cell = same_Some (slot_under last place o) cell cell_is in
    there (o + k) ∙ ap (λ (n : ℕ). Some n) (omega (arith, one))
cell_goes_on [] last (kept ∷ words) place (f ∷ fr) o k cell dense long is = absurd (omega (arith, long))
cell_goes_on (node ∷ front) last [] place fr o k cell dense long is = by_front fr is
  where
    by_front : (those : List ℕ) → place_after active_below (node ∷ (front ++ last ∷ [])) [] place (those ++ o ∷ []) ≡ Some cell → place_after active_below (node ∷ (front ++ last ∷ [])) [] place (those ++ (o + k) ∷ []) ≡ Some (cell + k)
    by_front [] none = none_some cell none
    by_front (f ∷ those) none = none_some cell none
cell_goes_on (node ∷ front) last (kept ∷ words) place [] o k cell dense long is = absurd (omega (arith, long))
cell_goes_on (node ∷ front) last (kept ∷ words) place (f ∷ fr) o k cell dense long is =
    by_next (active_below node.kind node kept (slot_under node place f)) is (λ next. cell_goes_on front last words next fr o k cell dense (omega (arith, long)))
  where
    by_next : (found : Option ℕ) → option_and_then (λ next. place_after active_below (front ++ last ∷ []) words next (fr ++ o ∷ [])) found ≡ Some cell
        → ((next : ℕ) → place_after active_below (front ++ last ∷ []) words next (fr ++ o ∷ []) ≡ Some cell → place_after active_below (front ++ last ∷ []) words next (fr ++ (o + k) ∷ []) ≡ Some (cell + k))
        → option_and_then (λ next. place_after active_below (front ++ last ∷ []) words next (fr ++ (o + k) ∷ [])) found ≡ Some (cell + k)
    by_next None none on = none_some cell none
    by_next (Some next) some on = on next some

-- ---- inside

-- a number that goes on within a multiple stays below the whole
below_whole : (x k q e : ℕ) → x % e + k < e → x < q * e → x + k < q * e
below_whole x k q e low whole =
    let is : x / e * e + x % e ≡ x = div-add-mod' x e in
    let under : x / e < q = div_below x e q (omega (arith, low)) whole in
    let most : (x / e + 1) * e ≤ q * e = mul-le (x / e + 1) e q e (omega (arith, under)) (omega arith) in
    omega (arith, is, most, low)

-- the same of an axis over all nodes
below_extent : (front : List NodeShape) (last : NodeShape) (axis x k : ℕ) → x % extent_in last.sizes axis + k < extent_in last.sizes axis → x < extent_over (front ++ last ∷ []) axis → x + k < extent_over (front ++ last ∷ []) axis
below_extent front last axis x k low below =
    subst (λ n. x + k < n) (sym (ends front last axis)) (below_whole x k (extent_over front axis) (extent_in last.sizes axis) low (subst (λ n. x < n) (ends front last axis) below))

more_is : (part : ℤ) (k : ℕ) → pos 0 ≤ℤ part → part +ℤ pos k ≡ pos (count_of part + k)
more_is (pos n) k low = refl
more_is (negsuc n) k low = absurd (omega (arith, ints))

-- the second of two factors of 1
factor_of_one : (q e : ℕ) → q * e ≡ 1 → e ≡ 1
factor_of_one zero e is = absurd (omega (arith, is))
factor_of_one (suc q) zero is = absurd (omega (arith, is))
factor_of_one (suc q) (suc e) is = omega (arith, is, mul-le 1 (suc e) (suc q) (suc e) (omega arith) (omega arith))

-- what is left goes on within a multiple
goes_left : (x k e left : ℕ) → 1 ≤ e → left ≡ e - 1 - x % e → 1 ≤ k → k ≤ left → x % e + k < e
goes_left x k e left some is more few = omega (arith, is, more, few, mod-lt x some)

-- one to three axes
by_axes : {P : Type 0} (n : ℕ) → 1 ≤ n → n ≤ 3 → (n ≡ 1 → P) → (n ≡ 2 → P) → (n ≡ 3 → P) → P
by_axes zero some few one two three = absurd (omega (arith, some))
by_axes (suc zero) some few one two three = one refl
by_axes (suc (suc zero)) some few one two three = two refl
by_axes (suc (suc (suc zero))) some few one two three = three refl
by_axes (suc (suc (suc (suc n)))) some few one two three = absurd (omega (arith, few))

module _ (store : StoreWords) (front : List NodeShape) (last : NodeShape) (nodes_are : store.shape.nodes ≡ front ++ last ∷ []) (dense : last.kind ≡ Dense) (accepted : IsAccepted store.shape) (test : InsideTest) where
  -- the cell of the next coordinate, where the offsets differ at the last node alone
  next_cell : (at next : Coord) (k cell : ℕ) → GoesOn front last at next k → Inside (bounds_of_shape store.shape) next → cell_in store at ≡ Some cell → cell_in store next ≡ Some (cell + k)
  next_cell at next k cell goes inside has =
      let parts = cell_parts store at cell has in
      let here : offsets store.shape.nodes at ≡ goes.front ++ goes.end ∷ [] = ap (λ (ns : List NodeShape). offsets ns at) nodes_are ∙ goes.here in
      let there : offsets store.shape.nodes next ≡ goes.front ++ (goes.end + k) ∷ [] = ap (λ (ns : List NodeShape). offsets ns next) nodes_are ∙ goes.there in
      let mine : place_after active_below (front ++ last ∷ []) store.nodes 0 (goes.front ++ goes.end ∷ []) ≡ Some cell =
      sym (ap (λ (ns : List NodeShape). place_after active_below ns store.nodes 0 (goes.front ++ goes.end ∷ [])) nodes_are) ∙ sym (ap (cell_along store) here) ∙ parts.1 in
      cell_from_parts store next (cell + k) ((test (bounds_of_shape store.shape) next).1 inside)
      (ap (cell_along store) there
      ∙ ap (λ (ns : List NodeShape). place_after active_below ns store.nodes 0 (goes.front ++ (goes.end + k) ∷ [])) nodes_are
      ∙ cell_goes_on front last store.nodes 0 goes.front goes.end k cell dense goes.long mine)

  -- an extent of all nodes
  extent_is : (axis : ℕ) → extent_over store.shape.nodes axis ≡ extent_over (front ++ last ∷ []) axis
  extent_is axis = ap (λ (ns : List NodeShape). extent_over ns axis) nodes_are

  -- the last node doesn't name an axis that the layout doesn't have
  further_is_one : (axis : ℕ) → store.shape.axes < axis → extent_in last.sizes axis ≡ 1
  further_is_one axis past =
      factor_of_one (extent_over front axis) (extent_in last.sizes axis)
      (sym (ends front last axis) ∙ sym (extent_is axis) ∙ unnamed_over store.shape.axes axis 1 store.shape.nodes past (no_fault store.shape accepted))

  part_high : (axis : ℕ) (part : ℤ) (k : ℕ) → pos 0 ≤ℤ part → part <ℤ pos (extent_over store.shape.nodes axis) → count_of part % extent_in last.sizes axis + k < extent_in last.sizes axis
      → (part +ℤ pos k) <ℤ pos (extent_over store.shape.nodes axis)
  part_high axis part k low high left =
      let below : count_of part < extent_over (front ++ last ∷ []) axis = subst (λ (n : ℕ). count_of part < n) (extent_is axis) (offset_below part _ low high) in
      let after : count_of part + k < extent_over store.shape.nodes axis = subst (λ (n : ℕ). count_of part + k < n) (sym (extent_is axis)) (below_extent front last axis (count_of part) k left below) in
      let P : ℤ → Type 0 = λ z. z <ℤ pos (extent_over store.shape.nodes axis) in
      subst P (sym (more_is part k low)) (omega (arith, ints))

  part_low : (part : ℤ) (k : ℕ) → pos 0 ≤ℤ part → pos 0 ≤ℤ (part +ℤ pos k)
  part_low part k low = subst (λ (z : ℤ). pos 0 ≤ℤ z) (sym (more_is part k low)) (omega (arith, ints))

  count_more : (part : ℤ) (k : ℕ) → pos 0 ≤ℤ part → count_of (part +ℤ pos k) ≡ count_of part + k
  count_more part k low = ap count_of (more_is part k low)

  -- along each axis, where it is the last
  first_cell : (at : Coord) (k cell : ℕ) → at.n ≡ 1 → count_of at.a % extent_in last.sizes 1 + k < extent_in last.sizes 1 → Inside (bounds_of_shape store.shape) at → cell_in store at ≡ Some cell
      → cell_in store (record { n = at.n; a = at.a +ℤ pos k; b = at.b; c = at.c }) ≡ Some (cell + k)
  first_cell at k cell axes left inside has =
      let n : at.n ≡ store.shape.axes = inside.same_axes in
      next_cell at (record { n = at.n; a = at.a +ℤ pos k; b = at.b; c = at.c }) k cell
      (on_first front last at _ k (count_more at.a k inside.a_low) refl refl (further_is_one 2 (omega (arith, axes, n))) (further_is_one 3 (omega (arith, axes, n))) left)
      (record {
        same_axes = inside.same_axes;
        a_low = part_low at.a k inside.a_low;
        a_high = part_high 1 at.a k inside.a_low inside.a_high left;
        b_low = inside.b_low;
        b_high = inside.b_high;
        c_low = inside.c_low;
        c_high = inside.c_high;
      }) has

  second_cell : (at : Coord) (k cell : ℕ) → at.n ≡ 2 → count_of at.b % extent_in last.sizes 2 + k < extent_in last.sizes 2 → Inside (bounds_of_shape store.shape) at → cell_in store at ≡ Some cell
      → cell_in store (record { n = at.n; a = at.a; b = at.b +ℤ pos k; c = at.c }) ≡ Some (cell + k)
  second_cell at k cell axes left inside has =
      let n : at.n ≡ store.shape.axes = inside.same_axes in
      next_cell at (record { n = at.n; a = at.a; b = at.b +ℤ pos k; c = at.c }) k cell
      (on_second front last at _ k refl (count_more at.b k inside.b_low) refl (further_is_one 3 (omega (arith, axes, n))) left)
      (record {
        same_axes = inside.same_axes;
        a_low = inside.a_low;
        a_high = inside.a_high;
        b_low = part_low at.b k inside.b_low;
        b_high = part_high 2 at.b k inside.b_low inside.b_high left;
        c_low = inside.c_low;
        c_high = inside.c_high;
      }) has

  third_cell : (at : Coord) (k cell : ℕ) → count_of at.c % extent_in last.sizes 3 + k < extent_in last.sizes 3 → Inside (bounds_of_shape store.shape) at → cell_in store at ≡ Some cell
      → cell_in store (record { n = at.n; a = at.a; b = at.b; c = at.c +ℤ pos k }) ≡ Some (cell + k)
  third_cell at k cell left inside has =
      next_cell at (record { n = at.n; a = at.a; b = at.b; c = at.c +ℤ pos k }) k cell (on_third front last at _ k refl refl (count_more at.c k inside.c_low) left)
      (record {
        same_axes = inside.same_axes;
        a_low = inside.a_low;
        a_high = inside.a_high;
        b_low = inside.b_low;
        b_high = inside.b_high;
        c_low = part_low at.c k inside.c_low;
        c_high = part_high 3 at.c k inside.c_low inside.c_high left;
      }) has

  pub cells_follow : (at : Coord) (count : ℕ) → Inside (bounds_of_shape store.shape) at → 1 ≤ extent_in last.sizes at.n → count ≡ left_under last at → CellsFollow store at count
  cells_follow at count inside some is = λ k cell more few has.
      let axes = axes_declared store.shape accepted.declared in
      let n : at.n ≡ store.shape.axes = inside.same_axes in
      let left : count_of (last_part at) % extent_in last.sizes at.n + k < extent_in last.sizes at.n = goes_left (count_of (last_part at)) k (extent_in last.sizes at.n) count some is more few in
      let Left : ℕ → Type 0 = λ m. count_of (if nat_le 3 m then at.c else (if nat_le 2 m then at.b else at.a)) % extent_in last.sizes m + k < extent_in last.sizes m in
      let there : ℕ → Coord = λ m.
      if nat_le 3 m then record { n = at.n; a = at.a; b = at.b; c = at.c +ℤ pos k }
      else (if nat_le 2 m then record { n = at.n; a = at.a; b = at.b +ℤ pos k; c = at.c }
      else record { n = at.n; a = at.a +ℤ pos k; b = at.b; c = at.c }) in
      let Goes : ℕ → Type 0 = λ m. cell_in store (there m) ≡ Some (cell + k) in
      by_axes at.n (omega (arith, n, axes.0)) (omega (arith, n, axes.1))
      (λ one. subst Goes (sym one) (first_cell at k cell one (subst Left one left) inside has))
      (λ two. subst Goes (sym two) (second_cell at k cell two (subst Left two left) inside has))
      (λ three. subst Goes (sym three) (third_cell at k cell (subst Left three left) inside has))

-- nothing follows
pub none_follow : (store : StoreWords) (at : Coord) → CellsFollow store at 0
none_follow store at = λ k cell some few has. absurd (omega (arith, some, few))

-- ---- how many

left_last : (front : List NodeShape) (last : NodeShape) (at : Coord) → left_in (front ++ last ∷ []) at ≡ left_in (last ∷ []) at
left_last [] last at = refl
left_last (node ∷ []) last at = refl
left_last (node ∷ (next ∷ front)) last at = left_last (next ∷ front) last at

-- of a coordinate inside, by the last node
pub many_left : (shape : Shape) (front : List NodeShape) (last : NodeShape) (at : Coord) (is : Bool) → shape.nodes ≡ front ++ last ∷ [] → is_inside (bounds_of_shape shape) at ≡ true → is_dense last.kind ≡ is
    → cells_left shape at ≡ (if is then left_under last at else 0)
many_left shape front last at is nodes_are inside kind =
    ap (λ (b : Bool). if b then left_in shape.nodes at else 0) inside ∙ ap (λ (nodes : List NodeShape). left_in nodes at) nodes_are ∙ left_last front last at ∙ ap (λ (b : Bool). if b then left_under last at else 0) kind

pub none_left : (shape : Shape) (at : Coord) → is_inside (bounds_of_shape shape) at ≡ false → cells_left shape at ≡ 0
none_left shape at outside = ap (λ (b : Bool). if b then left_in shape.nodes at else 0) outside

-- where the last node isn't dense, whether the coordinate is inside or not
pub other_left : (shape : Shape) (front : List NodeShape) (last : NodeShape) (at : Coord) → shape.nodes ≡ front ++ last ∷ [] → is_dense last.kind ≡ false → cells_left shape at ≡ 0
other_left shape front last at nodes_are kind = by_test (is_inside (bounds_of_shape shape) at) refl
  where
    by_test : (b : Bool) → is_inside (bounds_of_shape shape) at ≡ b → cells_left shape at ≡ 0
    by_test true within = many_left shape front last at false nodes_are within kind
    by_test false outside = none_left shape at outside

pub other_kind : (kind : Kind) → (kind ≡ Bitmasked) ⊎ ((kind ≡ Pointer) ⊎ ((kind ≡ Hash) ⊎ (kind ≡ Dynamic))) → is_dense kind ≡ false
other_kind kind (inl is) = ap is_dense is
other_kind kind (inr (inl is)) = ap is_dense is
other_kind kind (inr (inr (inl is))) = ap is_dense is
other_kind kind (inr (inr (inr is))) = ap is_dense is

-- a part of a coordinate inside isn't below 0
pub low_part : (bounds : Bounds) (at : Coord) → Inside bounds at → pos 0 ≤ℤ last_part at
low_part bounds at inside = by_tests (nat_le 3 at.n) (nat_le 2 at.n)
  where
    by_tests : (third second : Bool) → pos 0 ≤ℤ (if third then at.c else (if second then at.b else at.a))
    by_tests true second = inside.c_low
    by_tests false true = inside.b_low
    by_tests false false = inside.a_low

-- the extents of the last node keep their rule
pub good_last : (front : List NodeShape) (node : NodeShape) → list_all has_good_extents (front ++ node ∷ []) ≡ true → has_good_extents node ≡ true
good_last [] node good = (and_parts (has_good_extents node) true good).0
good_last (first ∷ front) node good = good_last front node (and_parts (has_good_extents first) (list_all has_good_extents (front ++ node ∷ [])) good).1

-- the last of some items
pub split_last : {X : Type 0} (xs : List X) (i : ℕ) (x : X) → i + 1 ≡ length xs → x ≡ get_or xs i x → xs ≡ take i xs ++ x ∷ []
split_last xs i x last is =
    sym (take_all (i + 1) xs (omega (arith, last))) ∙ take_more xs i x (omega (arith, last)) ∙ ap (λ y. take i xs ++ y ∷ []) (sym is)
