-- Slots of a node against blocks of points: the paths of two coordinates go through one slot where they are in one block.
use Rattle.std.proofs.Common.{◌≡◌, ◌↔◌, ℕ, zero, suc, ◌+◌, ◌*◌, ◌/◌, ◌%◌, ◌<◌, ◌≤◌, Bool, true, false, ◌&&◌, ltb, leb, eqb, List, [], ◌∷◌, get_or, take, drop, refl, sym, ap, ◌∙◌, arith, subst}
use Rattle.std.specs.List.{list_all}
use Rattle.std.specs.Str.{bytes_eq}
use Rattle.std.specs.Cmp.Lexicographic.{bytes_decides}
use Rattle.std.proofs.Math.Arith.{mod-mul}
use Rattle.std.proofs.Math.Nat.{mul_comm, div-div-eq-div-mul, mod-eq_of_lt, div-one, mod-one, mul-one}
use Rattle.std.proofs.lemmas.Nat.{same_from_place, mod_below, div_below}
use Rattle.std.proofs.lemmas.Bool.{and_parts, and_from, eqb-true, eq-eqb, ltb-true, leb-true, lt-ltb, le-leb}
use Rattle.sg_coord.specs.declared.coord.Coord.{Coord}
use Rattle.sg_coord.specs.Bounds.{Bounds, volume}
use Rattle.sg_coord.specs.Coord.{Inside, count_of}
use Rattle.sg_coord.specs.Laws.{PointOfRow, RowBelow}
use Rattle.sg_words.proofs.Uses.{same_tests}
use Rattle.sg_layout.specs.declared.shape.Kind.{Kind}
use Rattle.sg_layout.specs.declared.shape.Kind.TheVariants.{Dense, Bitmasked, Pointer, Hash, Dynamic}
use Rattle.sg_layout.specs.declared.shape.NodeShape.{NodeShape}
use Rattle.sg_layout.specs.declared.shape.Shape.{Shape}
use Rattle.sg_layout.specs.Axes.{extent_in, extent_over, bounds_of_shape}
use Rattle.sg_layout.specs.Accepted.{IsAccepted}
use Rattle.sg_layout.specs.Path.{offset_at, offsets, path}
use Rattle.sg_layout.specs.Live.{is_at_or_below, makes_live}
use Rattle.sg_layout.specs.Rules.{has_good_extents}
use Rattle.sg_flat.specs.steps.Blocks.{bounds_over, nodes_above, is_whole, block_number, within, row_in_block, live_points}
use Rattle.sg_layout.proofs.Uses.{all_good, good_below, in_some, over_some}
use Rattle.sg_flat.proofs.Cuts.{IsCut, same_runs_from_block, same_block_from_runs, within_inside}
use Rattle.sg_coord.proofs.Uses.{offset_below}
use Rattle.sg_flat.proofs.Overs.{over_split, over_cut}

-- ---- one axis: the digits of a number to two bases
axis_step : (x y e f rest later : ℕ) → later ≡ f * rest → 1 ≤ e → 1 ≤ f → (x / rest % (e * f) ≡ y / rest % (e * f)) ↔ ((x / later % e ≡ y / later % e) × (x / rest % f ≡ y / rest % f))
axis_step x y e f rest later is_later e_some f_some = (there, back)
  where
    digits : (n : ℕ) → n / rest % (e * f) ≡ (n / later % e) * f + n / rest % f
    digits n =
        mod-mul (n / rest) {m = e} {c = f} e_some f_some
        ∙ ap (λ k. k % e * f + n / rest % f) (div-div-eq-div-mul n rest f ∙ ap (λ k. n / k) (mul_comm rest f ∙ sym is_later))

    there : x / rest % (e * f) ≡ y / rest % (e * f) → (x / later % e ≡ y / later % e) × (x / rest % f ≡ y / rest % f)
    there same =
        same_from_place (x / later % e) (x / rest % f) (y / later % e) (y / rest % f) f (mod_below (x / rest) f f_some) (mod_below (y / rest) f f_some)
        (sym (digits x) ∙ same ∙ digits y)

    back : (x / later % e ≡ y / later % e) × (x / rest % f ≡ y / rest % f) → x / rest % (e * f) ≡ y / rest % (e * f)
    back same = digits x ∙ ap (λ k. k * f + x / rest % f) same.0 ∙ ap (λ k. y / later % e * f + k) same.1 ∙ sym (digits y)

-- the parts that two coordinates have in the first nodes are the same
abbrev SameAxis : List NodeShape → ℕ → ℕ → ℕ → ℕ → Type 0
SameAxis nodes through axis x y = x / extent_over (drop through nodes) axis % extent_over (take through nodes) axis ≡ y / extent_over (drop through nodes) axis % extent_over (take through nodes) axis

record SameParts (nodes : List NodeShape) (through : ℕ) (x y : Coord) : Type 0 where
  a : SameAxis nodes through 1 (count_of x.a) (count_of y.a)
  b : SameAxis nodes through 2 (count_of x.b) (count_of y.b)
  c : SameAxis nodes through 3 (count_of x.c) (count_of y.c)

-- their parts at one node are
record SameNode (node : NodeShape) (later : List NodeShape) (x y : Coord) : Type 0 where
  a : count_of x.a / extent_over later 1 % extent_in node.sizes 1 ≡ count_of y.a / extent_over later 1 % extent_in node.sizes 1
  b : count_of x.b / extent_over later 2 % extent_in node.sizes 2 ≡ count_of y.b / extent_over later 2 % extent_in node.sizes 2
  c : count_of x.c / extent_over later 3 % extent_in node.sizes 3 ≡ count_of y.c / extent_over later 3 % extent_in node.sizes 3

same_node_from_offset : (node : NodeShape) (later : List NodeShape) (x y : Coord) → has_good_extents node ≡ true → offset_at node later x ≡ offset_at node later y → SameNode node later x y
same_node_from_offset node later x y good same =
    let b_some = in_some node.sizes 2 good in
    let c_some = in_some node.sizes 3 good in
    let e = extent_in node.sizes in
    let first = same_from_place
    (count_of x.a / extent_over later 1 % e 1 * e 2 + count_of x.b / extent_over later 2 % e 2) (count_of x.c / extent_over later 3 % e 3)
    (count_of y.a / extent_over later 1 % e 1 * e 2 + count_of y.b / extent_over later 2 % e 2) (count_of y.c / extent_over later 3 % e 3)
    (e 3) (mod_below (count_of x.c / extent_over later 3) (e 3) c_some) (mod_below (count_of y.c / extent_over later 3) (e 3) c_some) same in
    let second = same_from_place
    (count_of x.a / extent_over later 1 % e 1) (count_of x.b / extent_over later 2 % e 2)
    (count_of y.a / extent_over later 1 % e 1) (count_of y.b / extent_over later 2 % e 2)
    (e 2) (mod_below (count_of x.b / extent_over later 2) (e 2) b_some) (mod_below (count_of y.b / extent_over later 2) (e 2) b_some) first.0 in
    record { a = second.0; b = second.1; c = first.1 }

offset_from_same_node : (node : NodeShape) (later : List NodeShape) (x y : Coord) → SameNode node later x y → offset_at node later x ≡ offset_at node later y
offset_from_same_node node later x y same =
    let e = extent_in node.sizes in
    ap (λ k. (k * e 2 + count_of x.b / extent_over later 2 % e 2) * e 3 + count_of x.c / extent_over later 3 % e 3) same.a
    ∙ ap (λ k. (count_of y.a / extent_over later 1 % e 1 * e 2 + k) * e 3 + count_of x.c / extent_over later 3 % e 3) same.b
    ∙ ap (λ k. (count_of y.a / extent_over later 1 % e 1 * e 2 + count_of y.b / extent_over later 2 % e 2) * e 3 + k) same.c

good_front : (nodes : List NodeShape) (k : ℕ) → list_all has_good_extents nodes ≡ true → list_all has_good_extents (take k nodes) ≡ true
good_front nodes zero good = refl
good_front [] (suc k) good = refl
good_front (node ∷ later) (suc k) good =
    let parts = and_parts (has_good_extents node) (list_all has_good_extents later) good in
    and_from (has_good_extents node) (list_all has_good_extents (take k later)) parts.0 (good_front later k parts.1)

-- ---- paths
parts_from_path : (nodes : List NodeShape) (through : ℕ) (x y : Coord) → list_all has_good_extents nodes ≡ true → take through (offsets nodes x) ≡ take through (offsets nodes y) → SameParts nodes through x y
parts_from_path nodes zero x y good same = record {
  a = mod-one (count_of x.a / extent_over nodes 1) ∙ sym (mod-one (count_of y.a / extent_over nodes 1));
  b = mod-one (count_of x.b / extent_over nodes 2) ∙ sym (mod-one (count_of y.b / extent_over nodes 2));
  c = mod-one (count_of x.c / extent_over nodes 3) ∙ sym (mod-one (count_of y.c / extent_over nodes 3));
}
parts_from_path [] (suc k) x y good same = record {
  a = mod-one (count_of x.a / 1) ∙ sym (mod-one (count_of y.a / 1));
  b = mod-one (count_of x.b / 1) ∙ sym (mod-one (count_of y.b / 1));
  c = mod-one (count_of x.c / 1) ∙ sym (mod-one (count_of y.c / 1));
}
parts_from_path (node ∷ later) (suc k) x y good same =
    let goods = and_parts (has_good_extents node) (list_all has_good_extents later) good in
    let here = same_node_from_offset node later x y goods.0 (ap (λ (xs : List ℕ). get_or xs 0 0) same) in
    let rest = parts_from_path later k x y goods.1 (ap (λ (xs : List ℕ). drop 1 xs) same) in
    let front = good_front later k goods.1 in
    record {
      a = (axis_step (count_of x.a) (count_of y.a) (extent_in node.sizes 1) (extent_over (take k later) 1) (extent_over (drop k later) 1) (extent_over later 1)
          (over_split later k 1) (in_some node.sizes 1 goods.0) (over_some (take k later) 1 front)).1 (here.a, rest.a);
      b = (axis_step (count_of x.b) (count_of y.b) (extent_in node.sizes 2) (extent_over (take k later) 2) (extent_over (drop k later) 2) (extent_over later 2)
          (over_split later k 2) (in_some node.sizes 2 goods.0) (over_some (take k later) 2 front)).1 (here.b, rest.b);
      c = (axis_step (count_of x.c) (count_of y.c) (extent_in node.sizes 3) (extent_over (take k later) 3) (extent_over (drop k later) 3) (extent_over later 3)
          (over_split later k 3) (in_some node.sizes 3 goods.0) (over_some (take k later) 3 front)).1 (here.c, rest.c);
    }

path_from_parts : (nodes : List NodeShape) (through : ℕ) (x y : Coord) → list_all has_good_extents nodes ≡ true → SameParts nodes through x y → take through (offsets nodes x) ≡ take through (offsets nodes y)
path_from_parts nodes zero x y good same = refl
path_from_parts [] (suc k) x y good same = refl
path_from_parts (node ∷ later) (suc k) x y good same =
    let goods = and_parts (has_good_extents node) (list_all has_good_extents later) good in
    let front = good_front later k goods.1 in
    let a = (axis_step (count_of x.a) (count_of y.a) (extent_in node.sizes 1) (extent_over (take k later) 1) (extent_over (drop k later) 1) (extent_over later 1)
    (over_split later k 1) (in_some node.sizes 1 goods.0) (over_some (take k later) 1 front)).0 same.a in
    let b = (axis_step (count_of x.b) (count_of y.b) (extent_in node.sizes 2) (extent_over (take k later) 2) (extent_over (drop k later) 2) (extent_over later 2)
    (over_split later k 2) (in_some node.sizes 2 goods.0) (over_some (take k later) 2 front)).0 same.b in
    let c = (axis_step (count_of x.c) (count_of y.c) (extent_in node.sizes 3) (extent_over (take k later) 3) (extent_over (drop k later) 3) (extent_over later 3)
    (over_split later k 3) (in_some node.sizes 3 goods.0) (over_some (take k later) 3 front)).0 same.c in
    ap (λ first. first ∷ take k (offsets later x)) (offset_from_same_node node later x y (record { a = a.0; b = b.0; c = c.0 }))
    ∙ ap (λ rest. offset_at node later y ∷ rest) (path_from_parts later k x y goods.1 (record { a = a.1; b = b.1; c = c.1 }))

-- a part inside is below the extents over the first nodes, once divided by those over the others
in_front : (nodes : List NodeShape) (k axis n : ℕ) → list_all has_good_extents nodes ≡ true → n < extent_over nodes axis → n / extent_over (drop k nodes) axis % extent_over (take k nodes) axis ≡ n / extent_over (drop k nodes) axis
in_front nodes k axis n good below =
    let some = over_some (drop k nodes) axis (good_below nodes k good) in
    mod-eq_of_lt (div_below n (extent_over (drop k nodes) axis) (extent_over (take k nodes) axis) some (omega (arith, over_split nodes k axis)))

pub cut_over : (shape : Shape) (k : ℕ) → IsAccepted shape → IsCut (bounds_of_shape shape) (bounds_over shape.axes (drop k shape.nodes))
cut_over shape k accepted =
    let below = good_below shape.nodes k (all_good shape accepted) in
    record {
      same_axes = refl;
      a_some = over_some (drop k shape.nodes) 1 below;
      b_some = over_some (drop k shape.nodes) 2 below;
      c_some = over_some (drop k shape.nodes) 3 below;
      a_cut = over_cut shape.nodes k 1 below;
      b_cut = over_cut shape.nodes k 2 below;
      c_cut = over_cut shape.nodes k 3 below;
    }

-- two coordinates inside have one path through the first nodes exactly when they are in one block of the others
pub paths_tell : (shape : Shape) (k : ℕ) (x y : Coord) → PointOfRow → IsAccepted shape → Inside (bounds_of_shape shape) x → Inside (bounds_of_shape shape) y → bytes_eq (path shape x k) (path shape y k) ≡ eqb (block_number (bounds_of_shape shape) (bounds_over shape.axes (drop k shape.nodes)) x) (block_number (bounds_of_shape shape) (bounds_over shape.axes (drop k shape.nodes)) y)
paths_tell shape k x y point_of_row accepted x_in y_in = same_tests _ _ there back
  where
    all : Bounds
    all = bounds_of_shape shape

    nodes : List NodeShape
    nodes = shape.nodes

    good : list_all has_good_extents shape.nodes ≡ true
    good = all_good shape accepted

    front : (axis : ℕ) (n : ℕ) → n < extent_over shape.nodes axis → n / extent_over (drop k shape.nodes) axis % extent_over (take k shape.nodes) axis ≡ n / extent_over (drop k shape.nodes) axis
    front axis n below = in_front shape.nodes k axis n good below

    xa : count_of x.a < extent_over shape.nodes 1
    xa = offset_below x.a (extent_over shape.nodes 1) x_in.a_low x_in.a_high

    xb : count_of x.b < extent_over shape.nodes 2
    xb = offset_below x.b (extent_over shape.nodes 2) x_in.b_low x_in.b_high

    xc : count_of x.c < extent_over shape.nodes 3
    xc = offset_below x.c (extent_over shape.nodes 3) x_in.c_low x_in.c_high

    ya : count_of y.a < extent_over shape.nodes 1
    ya = offset_below y.a (extent_over shape.nodes 1) y_in.a_low y_in.a_high

    yb : count_of y.b < extent_over shape.nodes 2
    yb = offset_below y.b (extent_over shape.nodes 2) y_in.b_low y_in.b_high

    yc : count_of y.c < extent_over shape.nodes 3
    yc = offset_below y.c (extent_over shape.nodes 3) y_in.c_low y_in.c_high

    there : bytes_eq (path shape x k) (path shape y k) ≡ true → eqb (block_number (bounds_of_shape shape) (bounds_over shape.axes (drop k shape.nodes)) x) (block_number (bounds_of_shape shape) (bounds_over shape.axes (drop k shape.nodes)) y) ≡ true
    there same =
        let parts = parts_from_path shape.nodes k x y good ((bytes_decides (path shape x k) (path shape y k)).0 same) in
        eq-eqb _ _ (same_block_from_runs (bounds_of_shape shape) (bounds_over shape.axes (drop k shape.nodes)) x y (x_in.same_axes ∙ sym y_in.same_axes) (record {
          a_run = sym (front 1 (count_of x.a) xa) ∙ parts.a ∙ front 1 (count_of y.a) ya;
          b_run = sym (front 2 (count_of x.b) xb) ∙ parts.b ∙ front 2 (count_of y.b) yb;
          c_run = sym (front 3 (count_of x.c) xc) ∙ parts.c ∙ front 3 (count_of y.c) yc;
        }))

    back : eqb (block_number (bounds_of_shape shape) (bounds_over shape.axes (drop k shape.nodes)) x) (block_number (bounds_of_shape shape) (bounds_over shape.axes (drop k shape.nodes)) y) ≡ true → bytes_eq (path shape x k) (path shape y k) ≡ true
    back same =
        let runs = same_runs_from_block (bounds_of_shape shape) (bounds_over shape.axes (drop k shape.nodes)) x y point_of_row (cut_over shape k accepted) x_in y_in (eqb-true _ _ same) in
        (bytes_decides (path shape x k) (path shape y k)).1 (path_from_parts shape.nodes k x y good (record {
          a = front 1 (count_of x.a) xa ∙ runs.a_run ∙ sym (front 1 (count_of y.a) ya);
          b = front 2 (count_of x.b) xb ∙ runs.b_run ∙ sym (front 2 (count_of y.b) yb);
          c = front 3 (count_of x.c) xc ∙ runs.c_run ∙ sym (front 3 (count_of y.c) yc);
        }))

-- ---- slots that are made live
-- a block that is live as a whole
whole_test : (shape : Shape) (i : ℕ) (w at : Coord) → PointOfRow → RowBelow → IsAccepted shape → Inside (bounds_of_shape shape) w → Inside (bounds_of_shape shape) at → bytes_eq (path shape w (suc i)) (path shape at (suc i)) ≡ (eqb (block_number (bounds_of_shape shape) (bounds_over shape.axes (drop (suc i) shape.nodes)) w) (block_number (bounds_of_shape shape) (bounds_over shape.axes (drop (suc i) shape.nodes)) at) && ltb (row_in_block (bounds_over shape.axes (drop (suc i) shape.nodes)) at) (volume (bounds_over shape.axes (drop (suc i) shape.nodes))))
whole_test shape i w at point_of_row row_below accepted w_in at_in =
    let block = bounds_over shape.axes (drop (suc i) shape.nodes) in
    let below : ltb (row_in_block block at) (volume block) ≡ true =
    lt-ltb _ _ (row_below block (within block at) (within_inside (bounds_of_shape shape) block at (cut_over shape (suc i) accepted) at_in)) in
    paths_tell shape (suc i) w at point_of_row accepted w_in at_in
    ∙ sym (ap (λ (inside : Bool). eqb (block_number (bounds_of_shape shape) block w) (block_number (bounds_of_shape shape) block at) && inside) below ∙ and_true _)
  where
    and_true : (a : Bool) → (a && true) ≡ a
    and_true true = refl
    and_true false = refl

-- a dynamic node, which is the last: the offsets at it are places in a block of its parent
pub place_is_offset : (axes : ℕ) (node : NodeShape) (at : Coord) → offset_at node [] at ≡ row_in_block (bounds_over axes (node ∷ [])) at
place_is_offset axes node at =
    let e = extent_in node.sizes in
    let a : count_of at.a / 1 % e 1 ≡ count_of at.a % (e 1 * 1) = ap (λ k. k % e 1) (div-one (count_of at.a)) ∙ ap (λ k. count_of at.a % k) (sym (mul-one (e 1))) in
    let b : count_of at.b / 1 % e 2 ≡ count_of at.b % (e 2 * 1) = ap (λ k. k % e 2) (div-one (count_of at.b)) ∙ ap (λ k. count_of at.b % k) (sym (mul-one (e 2))) in
    let c : count_of at.c / 1 % e 3 ≡ count_of at.c % (e 3 * 1) = ap (λ k. k % e 3) (div-one (count_of at.c)) ∙ ap (λ k. count_of at.c % k) (sym (mul-one (e 3))) in
    ap (λ k. (k * e 2 + count_of at.b / 1 % e 2) * e 3 + count_of at.c / 1 % e 3) a
    ∙ ap (λ k. (count_of at.a % (e 1 * 1) * k + count_of at.b / 1 % e 2) * e 3 + count_of at.c / 1 % e 3) (sym (mul-one (e 2)))
    ∙ ap (λ k. (count_of at.a % (e 1 * 1) * (e 2 * 1) + k) * e 3 + count_of at.c / 1 % e 3) b
    ∙ ap (λ k. (count_of at.a % (e 1 * 1) * (e 2 * 1) + count_of at.b % (e 2 * 1)) * k + count_of at.c / 1 % e 3) (sym (mul-one (e 3)))
    ∙ ap (λ k. (count_of at.a % (e 1 * 1) * (e 2 * 1) + count_of at.b % (e 2 * 1)) * (e 3 * 1) + k) c

and_assoc : (a b c : Bool) → (a && (b && c)) ≡ ((a && b) && c)
and_assoc true b c = refl
and_assoc false b c = refl

below_test : (nodes : List NodeShape) (i : ℕ) (node : NodeShape) (w at : Coord) → drop i nodes ≡ node ∷ [] → is_at_or_below (take (suc i) (offsets nodes w)) (take (suc i) (offsets nodes at)) ≡ (bytes_eq (take i (offsets nodes w)) (take i (offsets nodes at)) && leb (offset_at node [] at) (offset_at node [] w))
below_test [] zero node w at split = cc
below_test [] (suc i) node w at split = cc
below_test (first ∷ later) zero node w at split =
    subst (λ (nodes : List NodeShape). is_at_or_below (take 1 (offsets nodes w)) (take 1 (offsets nodes at)) ≡ leb (offset_at node [] at) (offset_at node [] w)) (sym split) refl
below_test (first ∷ []) (suc i) node w at split = absurd (no_node i split)
  where
    no_node : (j : ℕ) → drop j [] ≡ node ∷ [] → ⊥
    no_node zero none = cc
    no_node (suc j) none = cc
below_test (first ∷ second ∷ later) (suc i) node w at split =
    ap (λ (rest : Bool). eqb (offset_at first (second ∷ later) w) (offset_at first (second ∷ later) at) && rest) (below_test (second ∷ later) i node w at split)
    ∙ and_assoc (eqb (offset_at first (second ∷ later) w) (offset_at first (second ∷ later) at)) _ _

leb-ltb_suc : (a b : ℕ) → leb a b ≡ ltb a (suc b)
leb-ltb_suc a b = same_tests (leb a b) (ltb a (suc b)) (λ le. lt-ltb a (suc b) (let h = leb-true a b le in omega arith)) (λ lt. le-leb a b (let h = ltb-true a (suc b) lt in omega arith))

length_test : (shape : Shape) (i : ℕ) (node : NodeShape) (w at : Coord) → PointOfRow → IsAccepted shape → drop i shape.nodes ≡ node ∷ [] → Inside (bounds_of_shape shape) w → Inside (bounds_of_shape shape) at → is_at_or_below (path shape w (suc i)) (path shape at (suc i)) ≡ (eqb (block_number (bounds_of_shape shape) (bounds_over shape.axes (drop i shape.nodes)) w) (block_number (bounds_of_shape shape) (bounds_over shape.axes (drop i shape.nodes)) at) && ltb (row_in_block (bounds_over shape.axes (drop i shape.nodes)) at) (suc (row_in_block (bounds_over shape.axes (drop i shape.nodes)) w)))
length_test shape i node w at point_of_row accepted split w_in at_in =
    let block = bounds_over shape.axes (drop i shape.nodes) in
    let place : (z : Coord) → offset_at node [] z ≡ row_in_block block z = λ z. place_is_offset shape.axes node z ∙ ap (λ (ns : List NodeShape). row_in_block (bounds_over shape.axes ns) z) (sym split) in
    below_test shape.nodes i node w at split
    ∙ ap (λ (same : Bool). same && leb (offset_at node [] at) (offset_at node [] w)) (paths_tell shape i w at point_of_row accepted w_in at_in)
    ∙ ap (λ (less : Bool). eqb (block_number (bounds_of_shape shape) block w) (block_number (bounds_of_shape shape) block at) && less)
    (ap (λ k. leb k (offset_at node [] w)) (place at) ∙ ap (leb (row_in_block block at)) (place w) ∙ leb-ltb_suc (row_in_block block at) (row_in_block block w))

-- a coordinate makes the slot of another live at a node exactly when they are in one block and the other is not past what it reaches
pub slot_test : (shape : Shape) (i : ℕ) (node : NodeShape) (later : List NodeShape) (kind : Kind) (w at : Coord) → PointOfRow → RowBelow → IsAccepted shape → drop i shape.nodes ≡ node ∷ later → (kind ≡ Dynamic → later ≡ []) → Inside (bounds_of_shape shape) w → Inside (bounds_of_shape shape) at → makes_live kind (path shape w (suc i)) (path shape at (suc i)) ≡ (eqb (block_number (bounds_of_shape shape) (bounds_over shape.axes (drop (nodes_above kind i) shape.nodes)) w) (block_number (bounds_of_shape shape) (bounds_over shape.axes (drop (nodes_above kind i) shape.nodes)) at) && ltb (row_in_block (bounds_over shape.axes (drop (nodes_above kind i) shape.nodes)) at) (live_points (is_whole kind) (bounds_over shape.axes (drop (nodes_above kind i) shape.nodes)) w))
slot_test shape i node later Dense w at point_of_row row_below accepted split last w_in at_in = whole_test shape i w at point_of_row row_below accepted w_in at_in
slot_test shape i node later Bitmasked w at point_of_row row_below accepted split last w_in at_in = whole_test shape i w at point_of_row row_below accepted w_in at_in
slot_test shape i node later Pointer w at point_of_row row_below accepted split last w_in at_in = whole_test shape i w at point_of_row row_below accepted w_in at_in
slot_test shape i node later Hash w at point_of_row row_below accepted split last w_in at_in = whole_test shape i w at point_of_row row_below accepted w_in at_in
slot_test shape i node later Dynamic w at point_of_row row_below accepted split last w_in at_in =
    length_test shape i node w at point_of_row accepted (split ∙ ap (λ (ns : List NodeShape). node ∷ ns) (last refl)) w_in at_in
