-- What a layout keeps for its nodes fits, and gives their sizes, offsets and shares.
use Rattle.std.proofs.Common.{◌≡◌, ℕ, zero, suc, ◌+◌, ◌*◌, ◌^◌, ◌<◌, ◌≤◌, true, Option, Some, None, List, [], ◌∷◌, ◌++◌, length, get_or, map, drop, take, ◌-◌, refl, sym, ap, ◌∙◌, subst, arith}
use Rattle.std.specs.Prelude.{MatchOption, unwrap_or, slice_index}
use Rattle.std.specs.List.{list_all}
use Rattle.std.proofs.lemmas.Nat.{mul-le}
use Rattle.std.proofs.lemmas.Bool.{and_parts}
use Rattle.std.proofs.lemmas.List.{drop_more, map-append, append_assoc, get_or-map, length-map, length-drop}
use Rattle.std.proofs.Math.Seq.{take-length}
use Rattle.sg_coord.specs.declared.coord.Coord.{Coord}
use Rattle.sg_coord.specs.Bounds.{Bounds, bounds_of, volume}
use Rattle.sg_coord.specs.Coord.{row_of}
use Rattle.sg_layout.specs.declared.shape.NodeShape.{NodeShape}
use Rattle.sg_layout.specs.declared.measures.Measures.{Measures}
use Rattle.sg_layout.specs.Axes.{sizes_of, extent_in, extent_over}
use Rattle.sg_layout.specs.Path.{offsets}
use Rattle.sg_layout.specs.Slots.{node_bounds, share_at}
use Rattle.sg_layout.specs.Rules.{has_good_extents, first_node_fault}
use Rattle.sg_layout.specs.steps.Measuring.{bounds_below, measures_in, measure_at, measure_of, AreMeasurable, parts_in, share_in}
use Rattle.sg_layout.proofs.Keeping.{names_once, faultless_head, faultless_tail}
use Rattle.sg_layout.proofs.Extending.{good_extents, in_some, over_some}
use Rattle.sg_layout.proofs.Faultless.{size_axes}

pub below_good : (axes number : ℕ) (node : NodeShape) (later : List NodeShape) → AreMeasurable axes number (node ∷ later) → list_all has_good_extents later ≡ true
below_good axes number node later fit =
    (and_parts (has_good_extents node) (list_all has_good_extents later) (good_extents axes number (node ∷ later) fit.faultless)).1

own_some : (axes number axis : ℕ) (node : NodeShape) (later : List NodeShape) → AreMeasurable axes number (node ∷ later) → 1 ≤ extent_in node.sizes axis
own_some axes number axis node later fit =
    in_some node.sizes axis (and_parts (has_good_extents node) (list_all has_good_extents later) (good_extents axes number (node ∷ later) fit.faultless)).0

-- a factor of a product is at most the product
right_fits : (x y : ℕ) → 1 ≤ x → y ≤ x * y
right_fits x y some = omega (arith, mul-le 1 y x y some (omega arith))

left_fits : (x y : ℕ) → 1 ≤ y → x ≤ x * y
left_fits x y some = omega (arith, mul-le x 1 x y (omega arith) some)

three_fit : (a b c d e f : ℕ) → a ≤ d → b ≤ e → c ≤ f → a * b * c ≤ d * e * f
three_fit a b c d e f p q r = mul-le (a * b) c (d * e) f (mul-le a b d e p q) r

-- the nodes below a node fit if it fits with them
pub fits_below : (axes number : ℕ) (node : NodeShape) (later : List NodeShape) → AreMeasurable axes number (node ∷ later) → AreMeasurable axes (suc number) later
fits_below axes number node later fit =
    let a = right_fits (extent_in node.sizes 1) (extent_over later 1) (own_some axes number 1 node later fit) in
    let b = right_fits (extent_in node.sizes 2) (extent_over later 2) (own_some axes number 2 node later fit) in
    let c = right_fits (extent_in node.sizes 3) (extent_over later 3) (own_some axes number 3 node later fit) in
    let whole = three_fit (extent_over later 1) (extent_over later 2) (extent_over later 3) (extent_over (node ∷ later) 1) (extent_over (node ∷ later) 2) (extent_over (node ∷ later) 3) a b c in
    let a_most = fit.a_most in
    let b_most = fit.b_most in
    let c_most = fit.c_most in
    let most = fit.volume_most in
    record {
      few = fit.few;
      faultless = faultless_tail axes number node later fit.faultless;
      a_most = omega arith;
      b_most = omega arith;
      c_most = omega arith;
      volume_most = omega arith;
    }

pub own_fits : (axes number : ℕ) (node : NodeShape) (later : List NodeShape) → AreMeasurable axes number (node ∷ later) → volume (node_bounds node) ≤ 2 ^ 30
own_fits axes number node later fit =
    let good = below_good axes number node later fit in
    let a = left_fits (extent_in node.sizes 1) (extent_over later 1) (over_some later 1 good) in
    let b = left_fits (extent_in node.sizes 2) (extent_over later 2) (over_some later 2 good) in
    let c = left_fits (extent_in node.sizes 3) (extent_over later 3) (over_some later 3 good) in
    let whole = three_fit (extent_in node.sizes 1) (extent_in node.sizes 2) (extent_in node.sizes 3) (extent_over (node ∷ later) 1) (extent_over (node ∷ later) 2) (extent_over (node ∷ later) 3) a b c in
    let most = fit.volume_most in
    omega arith

-- an extent that is found is the one looked for
pub found : (o : Option ℕ) (x y : ℕ) → y ≡ unwrap_or o 1 → MatchOption o (2 ^ 15 < x) (λ extent. (extent ≡ x) × (extent ≤ 2 ^ 15)) → x ≤ 2 ^ 15 → y ≡ x
found None x y is long fits = absurd (omega arith)
found (Some e) x y is same fits = is ∙ same.0

abbrev pub bounds : ℕ → ℕ → ℕ → ℕ → Bounds
bounds n a b c = record { n = n; a = a; b = b; c = c }

pub same_bounds : (n a b c d e f : ℕ) → a ≡ d → b ≡ e → c ≡ f → bounds n a b c ≡ bounds n d e f
same_bounds n a b c d e f p q r = ap (λ v. bounds n v b c) p ∙ ap (λ v. bounds n d v c) q ∙ ap (λ v. bounds n d e v) r

-- a slice from an index to the end is the list without its front
rest_all : (nodes : List NodeShape) (i : ℕ) → take (length nodes - i) (drop i nodes) ≡ drop i nodes
rest_all nodes i = ap (λ n. take n (drop i nodes)) (sym (length-drop i nodes)) ∙ take-length (drop i nodes)

pub two_same : (next : Measures) (own : Bounds) (nodes : List NodeShape) (i : ℕ) → bounds_of next.own ≡ own → bounds_of next.below ≡ bounds_below (take (length nodes - i) (drop i nodes)) → measure_of next ≡ (own, bounds_below (drop i nodes))
two_same next own nodes i p q =
    ap (λ (b : Bounds). (b, bounds_of next.below)) p
    ∙ ap (λ (b : Bounds). (own, b)) (q ∙ ap bounds_below (rest_all nodes i))

-- ---- one node more
pub fits_split : (axes number : ℕ) (nodes : List NodeShape) (i : ℕ) (node : NodeShape) → drop i nodes ≡ node ∷ drop (i + 1) nodes → AreMeasurable axes number (drop i nodes) → AreMeasurable axes (number + 1) (drop (i + 1) nodes)
fits_split axes number nodes i node split fit =
    let next : suc number ≡ number + 1 = omega arith in
    subst (λ (n : ℕ). AreMeasurable axes n (drop (i + 1) nodes)) next
    (fits_below axes number node (drop (i + 1) nodes) (subst (λ (ns : List NodeShape). AreMeasurable axes number ns) split fit))

pub split_at : (nodes : List NodeShape) (i : ℕ) (node default : NodeShape) → i < length nodes → node ≡ get_or nodes i default → drop i nodes ≡ node ∷ drop (i + 1) nodes
split_at nodes i node default below is = drop_more nodes i default below ∙ ap (λ (x : NodeShape). x ∷ drop (i + 1) nodes) (sym is)

pub one_more : (done : List Measures) (next : Measures) (nodes : List NodeShape) (i : ℕ) (node : NodeShape) (whole : List (Bounds × Bounds))
    → drop i nodes ≡ node ∷ drop (i + 1) nodes → measure_of next ≡ (node_bounds node, bounds_below (drop (i + 1) nodes))
    → map measure_of done ++ measures_in (drop i nodes) ≡ whole
    → map measure_of (done ++ next ∷ []) ++ measures_in (drop (i + 1) nodes) ≡ whole
one_more done next nodes i node whole split is so_far =
    ap (λ (xs : List (Bounds × Bounds)). xs ++ measures_in (drop (i + 1) nodes)) (map-append measure_of done (next ∷ []))
    ∙ append_assoc (map measure_of done) (measure_of next ∷ []) (measures_in (drop (i + 1) nodes))
    ∙ ap (λ (m : Bounds × Bounds). map measure_of done ++ m ∷ measures_in (drop (i + 1) nodes)) is
    ∙ ap (λ (ns : List NodeShape). map measure_of done ++ measures_in ns) (sym split)
    ∙ so_far

-- ---- what is kept for a node
length_in : (nodes : List NodeShape) → length (measures_in nodes) ≡ length nodes
length_in [] = refl
length_in (node ∷ later) = ap suc (length_in later)

pub as_many : (kept : List Measures) (nodes : List NodeShape) → map measure_of kept ≡ measures_in nodes → length kept ≡ length nodes
as_many kept nodes measured = sym (length-map kept measure_of) ∙ ap (λ (xs : List (Bounds × Bounds)). length xs) measured ∙ length_in nodes

in_at : (nodes : List NodeShape) (i : ℕ) (default : Bounds × Bounds) → i < length nodes → get_or (measures_in nodes) i default ≡ measure_at nodes i
in_at [] i default below = absurd (omega arith)
in_at (node ∷ later) zero default below = refl
in_at (node ∷ later) (suc i) default below = in_at later i default (omega arith)

pub kept_at : (kept slice : List Measures) (nodes : List NodeShape) (i : ℕ) (here default : Measures) → here ≡ get_or slice i default → slice ≡ kept → map measure_of kept ≡ measures_in nodes → i < length nodes → measure_of here ≡ measure_at nodes i
kept_at kept slice nodes i here default is same measured below =
    let there : i < length kept = omega (arith, as_many kept nodes measured) in
    ap measure_of (is ∙ ap (λ (ms : List Measures). get_or ms i default) same)
    ∙ sym (get_or-map measure_of kept i default (measure_of default) there)
    ∙ ap (λ (xs : List (Bounds × Bounds)). get_or xs i (measure_of default)) measured
    ∙ in_at nodes i (measure_of default) below

-- ---- what it gives
pub size_here : (axes number : ℕ) (nodes : List NodeShape) (i : ℕ) → axes ≤ 3 → first_node_fault axes number nodes ≡ None → i < length nodes → volume (measure_at nodes i).0 ≡ slice_index (sizes_of nodes) i
size_here axes number [] i few none below = absurd (omega arith)
size_here axes number (node ∷ later) zero few none below = sym (size_axes axes node.sizes few (names_once axes number node later (faultless_head axes number node later none)))
size_here axes number (node ∷ later) (suc i) few none below = size_here axes (suc number) later i few (faultless_tail axes number node later none) (omega arith)

pub offset_here : (nodes : List NodeShape) (i : ℕ) (at : Coord) → i < length nodes → row_of (measure_at nodes i).0 (parts_in (measure_at nodes i).0 (measure_at nodes i).1 at) ≡ slice_index (offsets nodes at) i
offset_here [] i at below = absurd (omega arith)
offset_here (node ∷ later) zero at below = refl
offset_here (node ∷ later) (suc i) at below = offset_here later i at (omega arith)

pub share_here : (axes : ℕ) (nodes : List NodeShape) (i offset : ℕ) → i < length nodes → share_in axes (measure_at nodes i).0 (measure_at nodes i).1 offset ≡ share_at axes nodes i offset
share_here axes [] i offset below = absurd (omega arith)
share_here axes (node ∷ later) zero offset below = refl
share_here axes (node ∷ later) (suc i) offset below = share_here axes later i offset (omega arith)
