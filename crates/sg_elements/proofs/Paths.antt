-- Paths through the first nodes of a layout: one more offset, a path that leads on only where its front does, and the row number of a path.
use Rattle.std.proofs.Common.{◌≡◌, ℕ, zero, suc, ◌+◌, ◌*◌, ◌<◌, ◌≤◌, true, List, [], ◌∷◌, ◌++◌, length, take, slice_index, Option, Some, None, option_and_then, is_some, ℤ, pos, ◌<ℤ◌, refl, sym, ap, ◌∙◌, subst, arith}
use Rattle.std.proofs.lemmas.Int.{ints}
use Rattle.sg_coord.specs.declared.coord.Coord.{Coord}
use Rattle.sg_coord.specs.Bounds.{Bounds}
use Rattle.sg_coord.specs.Coord.{Inside, row_of}
use Rattle.sg_layout.specs.declared.shape.Shape.{Shape}
use Rattle.sg_layout.specs.declared.shape.NodeShape.{NodeShape}
use Rattle.sg_layout.specs.Axes.{bounds_of_shape, sizes_of}
use Rattle.sg_layout.specs.Path.{offsets, path}
use Rattle.sg_layout.specs.PathLaws.{SlotIsReached, CoordinateOfPath}
use Rattle.sg_layout.specs.Accepted.{IsAccepted}
use Rattle.sg_layout.specs.Slots.{IsSlot, share_on, number_on, coordinate_of, share_at}
use Rattle.sg_store.specs.declared.node.NodeWords.{NodeWords}
use Rattle.sg_store.specs.StoreWords.{StoreWords}
use Rattle.sg_store.specs.Slots.{slot_under, active_below}
use Rattle.sg_store.specs.Walks.{NodeStep, place_after}
use Rattle.sg_elements.specs.steps.Levels.{is_led, row_along}

-- ---- one more offset

pub slot_length : (nodes : List NodeShape) (n : ℕ) (slot : List ℕ) → n ≤ length nodes → IsSlot (take n nodes) slot → length slot ≡ n
slot_length nodes zero [] few is = refl
slot_length nodes zero (x ∷ slot) few is = absurd is
slot_length [] (suc n) slot few is = absurd (omega arith)
slot_length (node ∷ later) (suc n) [] few is = absurd is
slot_length (node ∷ later) (suc n) (x ∷ slot) few is = ap suc (slot_length later n slot (omega arith) is.1)

pub slot_push : (nodes : List NodeShape) (slot : List ℕ) (offset : ℕ) → length slot < length nodes → IsSlot (take (length slot) nodes) slot
    → offset < slice_index (sizes_of nodes) (length slot) → IsSlot (take (suc (length slot)) nodes) (slot ++ offset ∷ [])
slot_push [] slot offset few is below = absurd (omega arith)
slot_push (node ∷ later) [] offset few is below = (below, tt)
slot_push (node ∷ later) (x ∷ slot) offset few is below = (is.0, slot_push later slot offset (omega arith) is.1 below)

-- a path through one more node, cut before its last offset
pub record IsPushed (nodes : List NodeShape) (n : ℕ) (slot : List ℕ) : Type 0 where
  pub front : List ℕ
  pub offset : ℕ
  pub is : front ++ offset ∷ [] ≡ slot
  pub is_slot : IsSlot (take n nodes) front
  pub below : offset < slice_index (sizes_of nodes) n

pub slot_cut : (nodes : List NodeShape) (n : ℕ) (slot : List ℕ) → n < length nodes → IsSlot (take (suc n) nodes) slot → IsPushed nodes n slot
slot_cut [] n slot few is = absurd (omega arith)
slot_cut (node ∷ later) n [] few is = absurd is
slot_cut (node ∷ later) zero (x ∷ []) few is = record { front = []; offset = x; is = refl; is_slot = tt; below = is.0 }
slot_cut (node ∷ later) zero (x ∷ (y ∷ slot)) few is = absurd is.1
slot_cut (node ∷ later) (suc n) (x ∷ slot) few is =
    let rest = slot_cut later n slot (omega arith) is.1 in
    record { front = x ∷ rest.front; offset = rest.offset; is = ap (λ (list : List ℕ). x ∷ list) rest.is; is_slot = (is.0, rest.is_slot); below = rest.below }

-- ---- if a path leads, its front does

led_then : (f g : ℕ → Option ℕ) → ((next : ℕ) → is_some (f next) ≡ true → is_some (g next) ≡ true) → (o : Option ℕ) → is_some (option_and_then f o) ≡ true → is_some (option_and_then g o) ≡ true
led_then f g on None led = led
led_then f g on (Some next) led = on next led

led_front_in : (step : NodeStep) (nodes : List NodeShape) (words : List NodeWords) (place : ℕ) (xs ys : List ℕ) → is_some (place_after step nodes words place (xs ++ ys)) ≡ true → is_some (place_after step nodes words place xs) ≡ true
led_front_in step nodes words place [] ys led = refl
led_front_in step [] words place (x ∷ xs) ys led = led
led_front_in step (node ∷ later) [] place (x ∷ xs) ys led = led
led_front_in step (node ∷ later) (kept ∷ words) place (x ∷ xs) ys led =
    led_then (λ next. place_after step later words next (xs ++ ys)) (λ next. place_after step later words next xs) (λ next. led_front_in step later words next xs ys)
    (step node.kind node kept (slot_under node place x)) led

pub led_front : (store : StoreWords) (xs ys : List ℕ) → is_led store (xs ++ ys) ≡ true → is_led store xs ≡ true
led_front store xs ys led = led_front_in active_below store.shape.nodes store.nodes 0 xs ys led

-- ---- what a path adds up to on an axis

-- what an offset at the node with an index adds on an axis
abbrev share_part : (Coord → ℤ) → ℕ → List NodeShape → ℕ → ℕ → ℕ
share_part part axis [] index offset = 0
share_part part axis (node ∷ later) zero offset = share_on part axis node later offset
share_part part axis (node ∷ later) (suc index) offset = share_part part axis later index offset

abbrev in_a : Coord → ℤ
in_a at = at.a

abbrev in_b : Coord → ℤ
in_b at = at.b

abbrev in_c : Coord → ℤ
in_c at = at.c

share_is : (axes : ℕ) (nodes : List NodeShape) (index offset : ℕ) → share_at axes nodes index offset
    ≡ record { n = axes; a = pos (share_part in_a 1 nodes index offset); b = pos (share_part in_b 2 nodes index offset); c = pos (share_part in_c 3 nodes index offset) }
share_is axes [] index offset = refl
share_is axes (node ∷ later) zero offset = refl
share_is axes (node ∷ later) (suc index) offset = share_is axes later index offset

number_none : (part : Coord → ℤ) (axis : ℕ) (nodes : List NodeShape) → number_on part axis nodes [] ≡ 0
number_none part axis [] = refl
number_none part axis (node ∷ later) = refl

number_push : (part : Coord → ℤ) (axis : ℕ) (nodes : List NodeShape) (slot : List ℕ) (offset : ℕ)
    → number_on part axis nodes (slot ++ offset ∷ []) ≡ number_on part axis nodes slot + share_part part axis nodes (length slot) offset
number_push part axis [] slot offset = refl
number_push part axis (node ∷ later) [] offset = omega (arith, number_none part axis later)
number_push part axis (node ∷ later) (x ∷ slot) offset = omega (arith, number_push part axis later slot offset)

number_front : (part : Coord → ℤ) (axis : ℕ) (nodes : List NodeShape) (n : ℕ) (slot : List ℕ) → number_on part axis nodes (take n slot) ≤ number_on part axis nodes slot
number_front part axis [] n slot = omega arith
number_front part axis (node ∷ later) zero slot = omega arith
number_front part axis (node ∷ later) (suc n) [] = omega arith
number_front part axis (node ∷ later) (suc n) (x ∷ slot) = omega (arith, number_front part axis later n slot)

-- ---- the coordinate of a path, with zeros after its offsets

-- on each axis it isn't past a coordinate that has the path
axis_below : (part : Coord → ℤ) (axis : ℕ) (shape : Shape) (at : Coord) (n : ℕ) (slot : List ℕ) (e : ℕ) → path shape at n ≡ slot
    → pos (number_on part axis shape.nodes (offsets shape.nodes at)) ≡ part at → part at <ℤ pos e → number_on part axis shape.nodes slot < e
axis_below part axis shape at n slot e same is high =
    let front = number_front part axis shape.nodes n (offsets shape.nodes at) in
    let below : pos (number_on part axis shape.nodes (offsets shape.nodes at)) <ℤ pos e = let P : ℤ → Type 0 = λ z. z <ℤ pos e in subst P (sym is) high in
    let here : number_on part axis shape.nodes (take n (offsets shape.nodes at)) < e = omega (arith, ints) in
    let Q : List ℕ → Type 0 = λ list. number_on part axis shape.nodes list < e in subst Q same here

pub coordinate_inside : (shape : Shape) → SlotIsReached shape → CoordinateOfPath shape → IsAccepted shape → (n : ℕ) (slot : List ℕ) → IsSlot (take n shape.nodes) slot
    → Inside (bounds_of_shape shape) (coordinate_of shape slot)
coordinate_inside shape reached whole accepted n slot is =
    let found = reached accepted n slot is in
    let at = found.0 in
    let same : coordinate_of shape (offsets shape.nodes at) ≡ at = whole at found.1 in
    let bounds = bounds_of_shape shape in
    let a = axis_below in_a 1 shape at n slot bounds.a found.2 (ap in_a same) found.1.a_high in
    let b = axis_below in_b 2 shape at n slot bounds.b found.2 (ap in_b same) found.1.b_high in
    let c = axis_below in_c 3 shape at n slot bounds.c found.2 (ap in_c same) found.1.c_high in
    record {
      same_axes = refl;
      a_low = omega (arith, ints);
      a_high = omega (arith, ints);
      b_low = omega (arith, ints);
      b_high = omega (arith, ints);
      c_low = omega (arith, ints);
      c_high = omega (arith, ints);
    }

share_below : (part : Coord → ℤ) (axis : ℕ) (nodes : List NodeShape) (slot : List ℕ) (offset e : ℕ) → pos (number_on part axis nodes (slot ++ offset ∷ [])) <ℤ pos e → pos (share_part part axis nodes (length slot) offset) <ℤ pos e
share_below part axis nodes slot offset e high = let sum = number_push part axis nodes slot offset in omega (arith, ints)

pub share_inside : (shape : Shape) (slot : List ℕ) (offset : ℕ) → Inside (bounds_of_shape shape) (coordinate_of shape (slot ++ offset ∷ []))
    → Inside (bounds_of_shape shape) (share_at shape.axes shape.nodes (length slot) offset)
share_inside shape slot offset inside =
    let bounds = bounds_of_shape shape in
    let a = share_below in_a 1 shape.nodes slot offset bounds.a inside.a_high in
    let b = share_below in_b 2 shape.nodes slot offset bounds.b inside.b_high in
    let c = share_below in_c 3 shape.nodes slot offset bounds.c inside.c_high in
    subst (Inside (bounds_of_shape shape)) (sym (share_is shape.axes shape.nodes (length slot) offset)) (record {
      same_axes = refl;
      a_low = omega (arith, ints);
      a_high = a;
      b_low = omega (arith, ints);
      b_high = b;
      c_low = omega (arith, ints);
      c_high = c;
    })

place_adds : (p q a b c x y z : ℕ) → ((a + x) * p + (b + y)) * q + (c + z) ≡ ((a * p + b) * q + c) + ((x * p + y) * q + z)
place_adds p q a b c x y z = omega arith

abbrev place : Bounds → ℕ → ℕ → ℕ → ℕ
place e a b c = (a * e.b + b) * e.c + c

pub row_push : (shape : Shape) (slot : List ℕ) (offset : ℕ) → row_along shape (slot ++ offset ∷ []) ≡ row_along shape slot + row_of (bounds_of_shape shape) (share_at shape.axes shape.nodes (length slot) offset)
row_push shape slot offset =
    let e = bounds_of_shape shape in
    let nodes = shape.nodes in
    let long = slot ++ offset ∷ [] in
    let a = number_on in_a 1 nodes slot in
    let b = number_on in_b 2 nodes slot in
    let c = number_on in_c 3 nodes slot in
    let x = share_part in_a 1 nodes (length slot) offset in
    let y = share_part in_b 2 nodes (length slot) offset in
    let z = share_part in_c 3 nodes (length slot) offset in
    ap (λ (k : ℕ). place e k (number_on in_b 2 nodes long) (number_on in_c 3 nodes long)) (number_push in_a 1 nodes slot offset)
    ∙ ap (λ (k : ℕ). place e (a + x) k (number_on in_c 3 nodes long)) (number_push in_b 2 nodes slot offset)
    ∙ ap (λ (k : ℕ). place e (a + x) (b + y) k) (number_push in_c 3 nodes slot offset)
    ∙ place_adds e.b e.c a b c x y z
    ∙ ap (λ (k : ℕ). place e a b c + k) (sym (ap (row_of e) (share_is shape.axes nodes (length slot) offset)))

pub row_none : (shape : Shape) → row_along shape [] ≡ 0
row_none shape =
    let e = bounds_of_shape shape in
    ap (λ (k : ℕ). place e k (number_on in_b 2 shape.nodes []) (number_on in_c 3 shape.nodes [])) (number_none in_a 1 shape.nodes)
    ∙ ap (λ (k : ℕ). place e 0 k (number_on in_c 3 shape.nodes [])) (number_none in_b 2 shape.nodes)
    ∙ ap (λ (k : ℕ). place e 0 0 k) (number_none in_c 3 shape.nodes)
    ∙ nothing e.b e.c
  where
    nothing : (p q : ℕ) → (0 * p + 0) * q + 0 ≡ 0
    nothing p q = omega arith
