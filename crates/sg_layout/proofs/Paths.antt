-- The whole path of a coordinate inside tells the coordinate, and each slot of the last node is one.
use Rattle.std.proofs.Common.{◌≡◌, ℕ, zero, suc, ◌+◌, ◌*◌, ◌/◌, ◌%◌, ◌<◌, ◌≤◌, List, [], ◌∷◌, length, map, take, None, refl, sym, ap, ◌∙◌, subst, arith, ℤ, pos}
use Rattle.std.proofs.Math.Nat.{pos_of_ne-zero, mod-eq_of_lt}
use Rattle.std.proofs.Math.Arith.{mod-mul}
use Rattle.std.proofs.lemmas.Nat.{mul-add-lt, mod_below, same_from_place}
use Rattle.std.proofs.lemmas.List.{take_all}
use Rattle.std.proofs.lemmas.Int.{ints}
use Rattle.sg_coord.specs.declared.coord.Coord.{Coord}
use Rattle.sg_coord.specs.Bounds.{Bounds, volume}
use Rattle.sg_coord.specs.Coord.{Inside, row_of, point_at}
use Rattle.sg_coord.specs.Laws.{PointInside, RowOfPoint, RowBelow, PointOfRow}
use Rattle.sg_coord.proofs.Uses.{offset_below}
use Rattle.sg_layout.specs.declared.shape.NodeShape.{NodeShape}
use Rattle.sg_layout.specs.declared.shape.Shape.{Shape}
use Rattle.sg_layout.specs.Axes.{count_of, size_of, extent_in, extent_over, bounds_of_shape}
use Rattle.sg_layout.specs.Path.{part_at, offset_at, offsets}
use Rattle.sg_layout.specs.Rules.{first_node_fault}
use Rattle.sg_layout.specs.Slots.{IsSlot, node_bounds, number_on, coordinate_of}
use Rattle.sg_layout.specs.PathLaws.{WholePathIsOffsets, CoordinateOfPath, PathTellsCoordinate, PathIsSlot, SlotIsPath, SlotIsReached, SlotsFillVolume}
use Rattle.sg_layout.proofs.Extending.{axes_declared}
use Rattle.sg_layout.proofs.Keeping.{names_once, faultless_head, faultless_tail}
use Rattle.sg_layout.proofs.Faultless.{size_some, size_axes, no_fault, volume_slots}
use Rattle.sg_layout.proofs.SlotNumbers.{same_cons, slot_through}

-- numbers: a factor of a product that isn't 0, and the digits of a number
factors : (m n : ℕ) → 0 < m * n → (0 < m) × (0 < n)
factors m n h = (pos_of_ne-zero (λ e. omega (arith, ap (λ x. x * n) e)), pos_of_ne-zero (λ e. omega (arith, ap (λ x. m * x) e)))

digits : (e l a p r : ℕ) → 0 < e → 0 < l → r < l → a % (e * l) ≡ p * l + r → (a / l % e ≡ p) × (a % l ≡ r)
digits e l a p r some line low same =
    same_from_place (a / l % e) (a % l) p r l (mod_below a l line) low (sym (mod-mul a {m = e} {c = l} some line) ∙ same)

-- the parts of coordinates inside
abbrev point : ℕ → ℕ → ℕ → ℕ → Coord
point n a b c = record { n = n; a = pos a; b = pos b; c = pos c }

point_inside : (e : Bounds) (n a b c : ℕ) → n ≡ e.n → a < e.a → b < e.b → c < e.c → Inside e (point n a b c)
point_inside e n a b c axes p q r = record {
  same_axes = axes;
  a_low = omega (arith, ints);
  a_high = omega (arith, ints);
  b_low = omega (arith, ints);
  b_high = omega (arith, ints);
  c_low = omega (arith, ints);
  c_high = omega (arith, ints);
}

same_row : (e : Bounds) (x y : Coord) → count_of x.a ≡ count_of y.a → count_of x.b ≡ count_of y.b → count_of x.c ≡ count_of y.c → row_of e x ≡ row_of e y
same_row e x y a b c =
    ap (λ n. (n * e.b + count_of x.b) * e.c + count_of x.c) a ∙ ap (λ n. (count_of y.a * e.b + n) * e.c + count_of x.c) b ∙ ap (λ n. (count_of y.a * e.b + count_of y.b) * e.c + n) c

same_inside : PointOfRow → (e : Bounds) (x y : Coord) → Inside e x → Inside e y → count_of x.a ≡ count_of y.a → count_of x.b ≡ count_of y.b → count_of x.c ≡ count_of y.c → x ≡ y
same_inside law e x y p q a b c = sym (law e x p) ∙ ap (point_at e) (same_row e x y a b c) ∙ law e y q

-- every axis has points, at a node and over nodes
record HasPoints (e : Bounds) : Type 0 where
  a : 0 < e.a
  b : 0 < e.b
  c : 0 < e.c

abbrev over : List NodeShape → Bounds
over nodes = record { n = 3; a = extent_over nodes 1; b = extent_over nodes 2; c = extent_over nodes 3 }

points_here : (node : NodeShape) (later : List NodeShape) → HasPoints (over (node ∷ later)) → HasPoints (node_bounds node)
points_here node later has = record {
  a = (factors (extent_in node.sizes 1) (extent_over later 1) has.a).0;
  b = (factors (extent_in node.sizes 2) (extent_over later 2) has.b).0;
  c = (factors (extent_in node.sizes 3) (extent_over later 3) has.c).0;
}

points_later : (node : NodeShape) (later : List NodeShape) → HasPoints (over (node ∷ later)) → HasPoints (over later)
points_later node later has = record {
  a = (factors (extent_in node.sizes 1) (extent_over later 1) has.a).1;
  b = (factors (extent_in node.sizes 2) (extent_over later 2) has.b).1;
  c = (factors (extent_in node.sizes 3) (extent_over later 3) has.c).1;
}

-- the parts of a coordinate at a node, as a coordinate of the node's box, whose row number is the offset
abbrev parts : NodeShape → List NodeShape → Coord → Coord
parts node later at = point 3 (part_at node later 1 (count_of at.a)) (part_at node later 2 (count_of at.b)) (part_at node later 3 (count_of at.c))

parts_inside : (node : NodeShape) (later : List NodeShape) (at : Coord) → HasPoints (node_bounds node) → Inside (node_bounds node) (parts node later at)
parts_inside node later at has =
    point_inside (node_bounds node) 3 _ _ _ refl (mod_below (count_of at.a / extent_over later 1) (extent_in node.sizes 1) has.a)
    (mod_below (count_of at.b / extent_over later 2) (extent_in node.sizes 2) has.b)
    (mod_below (count_of at.c / extent_over later 3) (extent_in node.sizes 3) has.c)

-- a way to read one axis: of coordinates, of bounds, and of the parts at a node
record IsAxis (part : Coord → ℤ) (axis : ℕ) (extent : Bounds → ℕ) : Type 0 where
  at_node : (node : NodeShape) (later : List NodeShape) (at : Coord) → part (parts node later at) ≡ pos (part_at node later axis (count_of (part at)))
  of_node : (node : NodeShape) → extent (node_bounds node) ≡ extent_in node.sizes axis
  of_nodes : (nodes : List NodeShape) → extent (over nodes) ≡ extent_over nodes axis
  some : (e : Bounds) → HasPoints e → 0 < extent e
  below : (e : Bounds) (at : Coord) → Inside e at → count_of (part at) < extent e

first_axis : IsAxis (λ (at : Coord). at.a) 1 (λ (e : Bounds). e.a)
first_axis = record {
  at_node = λ node later at. refl;
  of_node = λ node. refl;
  of_nodes = λ nodes. refl;
  some = λ e has. has.a;
  below = λ e at inside. offset_below at.a e.a inside.a_low inside.a_high;
}

second_axis : IsAxis (λ (at : Coord). at.b) 2 (λ (e : Bounds). e.b)
second_axis = record {
  at_node = λ node later at. refl;
  of_node = λ node. refl;
  of_nodes = λ nodes. refl;
  some = λ e has. has.b;
  below = λ e at inside. offset_below at.b e.b inside.b_low inside.b_high;
}

third_axis : IsAxis (λ (at : Coord). at.c) 3 (λ (e : Bounds). e.c)
third_axis = record {
  at_node = λ node later at. refl;
  of_node = λ node. refl;
  of_nodes = λ nodes. refl;
  some = λ e has. has.c;
  below = λ e at inside. offset_below at.c e.c inside.c_low inside.c_high;
}

-- from a path back to the number on an axis
number_back : PointOfRow → (part : Coord → ℤ) (axis : ℕ) (extent : Bounds → ℕ) → IsAxis part axis extent → (nodes : List NodeShape) (at : Coord) → HasPoints (over nodes) → number_on part axis nodes (offsets nodes at) ≡ count_of (part at) % extent_over nodes axis
number_back law part axis extent is [] at has = omega arith
number_back law part axis extent is (node ∷ later) at has =
    let here = points_here node later has in
    let rest = points_later node later has in
    let some : 0 < extent_in node.sizes axis = subst (λ n. 0 < n) (is.of_node node) (is.some (node_bounds node) here) in
    let line : 0 < extent_over later axis = subst (λ n. 0 < n) (is.of_nodes later) (is.some (over later) rest) in
    let read : point_at (node_bounds node) (offset_at node later at) ≡ parts node later at = law (node_bounds node) (parts node later at) (parts_inside node later at here) in
    let digit : count_of (part (point_at (node_bounds node) (offset_at node later at))) ≡ part_at node later axis (count_of (part at)) = ap (λ p. count_of (part p)) read ∙ ap count_of (is.at_node node later at) in
    ap (λ d. d * extent_over later axis + number_on part axis later (offsets later at)) digit
    ∙ ap (λ r. part_at node later axis (count_of (part at)) * extent_over later axis + r) (number_back law part axis extent is later at rest)
    ∙ sym (mod-mul (count_of (part at)) {m = extent_in node.sizes axis} {c = extent_over later axis} some line)

-- bounds that something is inside of have points
inside_points : (shape : Shape) (at : Coord) → Inside (bounds_of_shape shape) at → HasPoints (over shape.nodes)
inside_points shape at inside =
    let a = offset_below at.a (extent_over shape.nodes 1) inside.a_low inside.a_high in
    let b = offset_below at.b (extent_over shape.nodes 2) inside.b_low inside.b_high in
    let c = offset_below at.c (extent_over shape.nodes 3) inside.c_low inside.c_high in
    record {
      a = omega arith;
      b = omega arith;
      c = omega arith;
    }

pub offsets_long : (nodes : List NodeShape) (at : Coord) → length (offsets nodes at) ≡ length nodes
offsets_long [] at = refl
offsets_long (node ∷ later) at = ap suc (offsets_long later at)

pub whole_path_is_offsets : (shape : Shape) → WholePathIsOffsets shape
whole_path_is_offsets shape at = take_all (length shape.nodes) (offsets shape.nodes at) (omega (arith, offsets_long shape.nodes at))

pub coordinate_of_path : (shape : Shape) → PointOfRow → CoordinateOfPath shape
coordinate_of_path shape law at inside =
    let e : Bounds = bounds_of_shape shape in
    let nodes : List NodeShape = shape.nodes in
    let has = inside_points shape at inside in
    let a_below = offset_below at.a e.a inside.a_low inside.a_high in
    let b_below = offset_below at.b e.b inside.b_low inside.b_high in
    let c_below = offset_below at.c e.c inside.c_low inside.c_high in
    let a = number_back law (λ (x : Coord). x.a) 1 (λ (x : Bounds). x.a) first_axis nodes at has ∙ mod-eq_of_lt a_below in
    let b = number_back law (λ (x : Coord). x.b) 2 (λ (x : Bounds). x.b) second_axis nodes at has ∙ mod-eq_of_lt b_below in
    let c = number_back law (λ (x : Coord). x.c) 3 (λ (x : Bounds). x.c) third_axis nodes at has ∙ mod-eq_of_lt c_below in
    let there : Inside e (coordinate_of shape (offsets nodes at)) = point_inside e shape.axes _ _ _ refl (omega (arith, a, a_below)) (omega (arith, b, b_below)) (omega (arith, c, c_below)) in
    same_inside law e (coordinate_of shape (offsets nodes at)) at there inside a b c

pub path_tells_coordinate : (shape : Shape) → PointOfRow → PathTellsCoordinate shape
path_tells_coordinate shape law x y p q = (
  (λ same. sym (coordinate_of_path shape law x p) ∙ ap (coordinate_of shape) same ∙ coordinate_of_path shape law y q),
  (λ same. ap (offsets shape.nodes) same),
)

-- nodes without a fault have points
node_points : (axes number : ℕ) (node : NodeShape) (later : List NodeShape) → axes ≤ 3 → first_node_fault axes number (node ∷ later) ≡ None → HasPoints (node_bounds node)
node_points axes number node later few none =
    let good = faultless_head axes number node later none in
    let some : 1 ≤ size_of node.sizes = size_some node.sizes good.extents in
    let product : 0 < extent_in node.sizes 1 * extent_in node.sizes 2 * extent_in node.sizes 3 = omega (arith, size_axes axes node.sizes few (names_once axes number node later good)) in
    let last = factors (extent_in node.sizes 1 * extent_in node.sizes 2) (extent_in node.sizes 3) product in
    let others = factors (extent_in node.sizes 1) (extent_in node.sizes 2) last.0 in
    record {
      a = others.0;
      b = others.1;
      c = last.1;
    }

offsets_slot : RowBelow → (axes number : ℕ) (nodes : List NodeShape) → axes ≤ 3 → first_node_fault axes number nodes ≡ None → (at : Coord) → IsSlot nodes (offsets nodes at)
offsets_slot law axes number [] few none at = tt
offsets_slot law axes number (node ∷ later) few none at =
    let good = faultless_head axes number node later none in
    let size = size_axes axes node.sizes few (names_once axes number node later good) in
    let below = law (node_bounds node) (parts node later at) (parts_inside node later at (node_points axes number node later few none)) in
    (subst (λ n. offset_at node later at < n) (sym size) below, offsets_slot law axes (suc number) later few (faultless_tail axes number node later none) at)

pub path_is_slot : (shape : Shape) → RowBelow → PathIsSlot shape
path_is_slot shape law accepted at through =
    slot_through through shape.nodes (offsets shape.nodes at) (offsets_slot law shape.axes 1 shape.nodes (axes_declared shape accepted.declared).1 (no_fault shape accepted) at)

-- from a slot to the number on an axis
number_below : PointInside → (part : Coord → ℤ) (axis : ℕ) (extent : Bounds → ℕ) → IsAxis part axis extent → (axes number : ℕ) (nodes : List NodeShape) → axes ≤ 3 → first_node_fault axes number nodes ≡ None → (slot : List ℕ) → IsSlot nodes slot → number_on part axis nodes slot < extent_over nodes axis
number_below law part axis extent is axes number [] few none slot slots = omega arith
number_below law part axis extent is axes number (node ∷ later) few none [] slots = absurd slots
number_below law part axis extent is axes number (node ∷ later) few none (offset ∷ slot) slots =
    let good = faultless_head axes number node later none in
    let size = size_axes axes node.sizes few (names_once axes number node later good) in
    let there = law (node_bounds node) offset (subst (λ n. offset < n) size slots.0) in
    let digit : count_of (part (point_at (node_bounds node) offset)) < extent_in node.sizes axis = subst (λ n. count_of (part (point_at (node_bounds node) offset)) < n) (is.of_node node) (is.below (node_bounds node) (point_at (node_bounds node) offset) there) in
    let rest = number_below law part axis extent is axes (suc number) later few (faultless_tail axes number node later none) slot slots.1 in
    omega (arith, mul-add-lt (count_of (part (point_at (node_bounds node) offset))) (extent_over later axis) (number_on part axis later slot) (extent_in node.sizes axis) digit rest)

-- the numbers of a coordinate, as far as these nodes tell them, are those of the slot
record Reads (nodes : List NodeShape) (slot : List ℕ) (at : Coord) : Type 0 where
  a : count_of at.a % extent_over nodes 1 ≡ number_on (λ (x : Coord). x.a) 1 nodes slot
  b : count_of at.b % extent_over nodes 2 ≡ number_on (λ (x : Coord). x.b) 2 nodes slot
  c : count_of at.c % extent_over nodes 3 ≡ number_on (λ (x : Coord). x.c) 3 nodes slot

read_path : PointInside → RowOfPoint → (axes number : ℕ) (nodes : List NodeShape) → axes ≤ 3 → first_node_fault axes number nodes ≡ None → (slot : List ℕ) (at : Coord) → IsSlot nodes slot → Reads nodes slot at → offsets nodes at ≡ slot
read_path inside law axes number [] few none [] at slots reads = refl
read_path inside law axes number [] few none (offset ∷ slot) at slots reads = absurd slots
read_path inside law axes number (node ∷ later) few none [] at slots reads = absurd slots
read_path inside law axes number (node ∷ later) few none (offset ∷ slot) at slots reads =
    let rest = faultless_tail axes number node later none in
    let e : Bounds = node_bounds node in
    let below : offset < volume e = subst (λ n. offset < n) (size_axes axes node.sizes few (names_once axes number node later (faultless_head axes number node later none))) slots.0 in
    let has = node_points axes number node later few none in
    let a_rest = number_below inside (λ (x : Coord). x.a) 1 (λ (x : Bounds). x.a) first_axis axes (suc number) later few rest slot slots.1 in
    let b_rest = number_below inside (λ (x : Coord). x.b) 2 (λ (x : Bounds). x.b) second_axis axes (suc number) later few rest slot slots.1 in
    let c_rest = number_below inside (λ (x : Coord). x.c) 3 (λ (x : Bounds). x.c) third_axis axes (suc number) later few rest slot slots.1 in
    let p : Coord = point_at e offset in
    let a = digits e.a (extent_over later 1) (count_of at.a) (count_of p.a) (number_on (λ (x : Coord). x.a) 1 later slot) has.a (omega arith) a_rest reads.a in
    let b = digits e.b (extent_over later 2) (count_of at.b) (count_of p.b) (number_on (λ (x : Coord). x.b) 2 later slot) has.b (omega arith) b_rest reads.b in
    let c = digits e.c (extent_over later 3) (count_of at.c) (count_of p.c) (number_on (λ (x : Coord). x.c) 3 later slot) has.c (omega arith) c_rest reads.c in
    same_cons (offset_at node later at) offset (offsets later at) slot (same_row e (parts node later at) p a.0 b.0 c.0 ∙ law e offset below)
    (read_path inside law axes (suc number) later few rest slot at slots.1 (record { a = a.1; b = b.1; c = c.1 }))

pub slot_is_path : (shape : Shape) → PointInside → RowOfPoint → SlotIsPath shape
slot_is_path shape inside law accepted slot slots =
    let nodes : List NodeShape = shape.nodes in
    let none = no_fault shape accepted in
    let few = (axes_declared shape accepted.declared).1 in
    let a = number_below inside (λ (x : Coord). x.a) 1 (λ (x : Bounds). x.a) first_axis shape.axes 1 nodes few none slot slots in
    let b = number_below inside (λ (x : Coord). x.b) 2 (λ (x : Bounds). x.b) second_axis shape.axes 1 nodes few none slot slots in
    let c = number_below inside (λ (x : Coord). x.c) 3 (λ (x : Bounds). x.c) third_axis shape.axes 1 nodes few none slot slots in (
      point_inside (bounds_of_shape shape) shape.axes _ _ _ refl a b c,
      read_path inside law shape.axes 1 nodes few none slot (coordinate_of shape slot) slots (record { a = mod-eq_of_lt a; b = mod-eq_of_lt b; c = mod-eq_of_lt c }),
    )

-- a slot of a node, with offsets 0 at the nodes after it
slot_zeros : (axes number : ℕ) (nodes : List NodeShape) → first_node_fault axes number nodes ≡ None → IsSlot nodes (map (λ (node : NodeShape). 0) nodes)
slot_zeros axes number [] none = tt
slot_zeros axes number (node ∷ later) none =
    let some : 0 < size_of node.sizes = size_some node.sizes (faultless_head axes number node later none).extents in
    (some, slot_zeros axes (suc number) later (faultless_tail axes number node later none))

slot_further : (axes number through : ℕ) (nodes : List NodeShape) (slot : List ℕ) → first_node_fault axes number nodes ≡ None → IsSlot (take through nodes) slot → (whole : List ℕ) × IsSlot nodes whole × (take through whole ≡ slot)
slot_further axes number zero nodes [] none is = (map (λ (node : NodeShape). 0) nodes, slot_zeros axes number nodes none, refl)
slot_further axes number zero nodes (offset ∷ slot) none is = absurd is
slot_further axes number (suc n) [] [] none is = ([], tt, refl)
slot_further axes number (suc n) [] (offset ∷ slot) none is = absurd is
slot_further axes number (suc n) (node ∷ later) [] none is = absurd is
slot_further axes number (suc n) (node ∷ later) (offset ∷ slot) none is =
    let rest = slot_further axes (suc number) n later slot (faultless_tail axes number node later none) is.1 in
    (offset ∷ rest.0, (is.0, rest.1), ap (λ s. offset ∷ s) rest.2)

pub slot_is_reached : (shape : Shape) → PointInside → RowOfPoint → SlotIsReached shape
slot_is_reached shape inside law accepted through slot is =
    let whole = slot_further shape.axes 1 through shape.nodes slot (no_fault shape accepted) is in
    let there = slot_is_path shape inside law accepted whole.0 whole.1 in
    (coordinate_of shape whole.0, there.0, ap (take through) there.1 ∙ whole.2)

pub slots_fill_volume : (shape : Shape) → SlotsFillVolume shape
slots_fill_volume shape accepted = sym (volume_slots shape accepted)
