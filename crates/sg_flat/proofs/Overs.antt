-- The extents over nodes, and over those below.
use Rattle.std.proofs.Common.{◌≡◌, ℕ, zero, suc, ◌+◌, ◌*◌, ◌/◌, ◌<◌, ◌≤◌, true, List, [], ◌∷◌, length, get_or, take, drop, sym, ap, ◌∙◌, arith}
use Rattle.std.specs.List.{list_all}
use Rattle.std.proofs.Math.Nat.{mul_assoc, mul_comm, mul-div_cancel, div-le_self}
use Rattle.std.proofs.lemmas.Nat.{le-div, mul-le}
use Rattle.std.proofs.lemmas.List.{drop_more}
use Rattle.sg_coord.specs.Bounds.{Bounds}
use Rattle.sg_layout.specs.declared.shape.NodeShape.{NodeShape}
use Rattle.sg_layout.specs.Axes.{extent_in, extent_over}
use Rattle.sg_layout.specs.Rules.{has_good_extents}
use Rattle.sg_flat.specs.steps.Blocks.{bounds_over}
use Rattle.sg_layout.proofs.Uses.{in_some, over_some}

pub over_split : (nodes : List NodeShape) (k axis : ℕ) → extent_over nodes axis ≡ extent_over (take k nodes) axis * extent_over (drop k nodes) axis
over_split nodes zero axis = omega arith
over_split [] (suc k) axis = omega arith
over_split (node ∷ later) (suc k) axis =
    ap (λ n. extent_in node.sizes axis * n) (over_split later k axis)
    ∙ sym (mul_assoc (extent_in node.sizes axis) (extent_over (take k later) axis) (extent_over (drop k later) axis))

whole_runs : (f e : ℕ) → 1 ≤ e → f * e / e * e ≡ f * e
whole_runs f e some = ap (λ n. n * e) (mul-div_cancel f some)

-- the extents over all nodes are cut by those over the last ones
pub over_cut : (nodes : List NodeShape) (k axis : ℕ) → list_all has_good_extents (drop k nodes) ≡ true → extent_over nodes axis / extent_over (drop k nodes) axis * extent_over (drop k nodes) axis ≡ extent_over nodes axis
over_cut nodes k axis good =
    let split = over_split nodes k axis in
    ap (λ n. n / extent_over (drop k nodes) axis * extent_over (drop k nodes) axis) split
    ∙ whole_runs (extent_over (take k nodes) axis) (extent_over (drop k nodes) axis) (over_some (drop k nodes) axis good)
    ∙ sym split

-- a node's extent fits into that over it and the nodes below it, and leaves theirs
pub extent_fits : (node : NodeShape) (later : List NodeShape) (axis : ℕ) → list_all has_good_extents later ≡ true → extent_in node.sizes axis ≤ extent_over (node ∷ later) axis
extent_fits node later axis good =
    omega (arith, mul-le (extent_in node.sizes axis) 1 (extent_in node.sizes axis) (extent_over later axis) (omega arith) (over_some later axis good))

pub quotient_is : (node : NodeShape) (later : List NodeShape) (axis : ℕ) → has_good_extents node ≡ true → extent_over (node ∷ later) axis / extent_in node.sizes axis ≡ extent_over later axis
quotient_is node later axis good =
    ap (λ n. n / extent_in node.sizes axis) (mul_comm (extent_in node.sizes axis) (extent_over later axis))
    ∙ mul-div_cancel (extent_over later axis) (in_some node.sizes axis good)

-- a quotient by what fits
pub quotient_some : (a e : ℕ) → 1 ≤ e → e ≤ a → 1 ≤ a / e
quotient_some a e some fits = le-div 1 a e some (omega arith)

pub quotient_most : (a e : ℕ) → a / e ≤ a
quotient_most a e = div-le_self a e

pub quotient_of_one : (a e : ℕ) → 1 ≤ e → e ≤ a → a ≡ 1 → a / e ≡ 1
quotient_of_one a e some fits one = let most = quotient_most a e in let least = quotient_some a e some fits in omega arith

pub quotient_volume : (a b c e f g : ℕ) → a / e * (b / f) * (c / g) ≤ a * b * c
quotient_volume a b c e f g =
    mul-le (a / e * (b / f)) (c / g) (a * b) c (mul-le (a / e) (b / f) a b (quotient_most a e) (quotient_most b f)) (quotient_most c g)

-- the node at a place, and those below it
pub split_at : (nodes : List NodeShape) (i : ℕ) (node : NodeShape) → i < length nodes → node ≡ get_or nodes i node → drop i nodes ≡ node ∷ drop (i + 1) nodes
split_at nodes i node below here = drop_more nodes i node below ∙ ap (λ n. n ∷ drop (i + 1) nodes) (sym here)

made : ℕ → ℕ → ℕ → ℕ → Bounds
made n a b c = record { n = n; a = a; b = b; c = c }

pub same_bounds : (x y : Bounds) → x.n ≡ y.n → x.a ≡ y.a → x.b ≡ y.b → x.c ≡ y.c → x ≡ y
unfolding made
same_bounds x y n a b c =
    ap (λ v. made v x.a x.b x.c) n ∙ ap (λ v. made y.n v x.b x.c) a ∙ ap (λ v. made y.n y.a v x.c) b ∙ ap (λ v. made y.n y.a y.b v) c

-- the extents below a node from those over it
pub bounds_below : (axes : ℕ) (node : NodeShape) (later all : List NodeShape) (old new : Bounds) → has_good_extents node ≡ true → all ≡ node ∷ later → old ≡ bounds_over axes all → new.n ≡ old.n → new.a ≡ old.a / extent_in node.sizes 1 → new.b ≡ old.b / extent_in node.sizes 2 → new.c ≡ old.c / extent_in node.sizes 3 → new ≡ bounds_over axes later
bounds_below axes node later all old new good split is_old n a b c =
    let is : old ≡ bounds_over axes (node ∷ later) = is_old ∙ ap (bounds_over axes) split in
    same_bounds new (bounds_over axes later)
    (n ∙ ap (λ (e : Bounds). e.n) is)
    (a ∙ ap (λ (e : Bounds). e.a / extent_in node.sizes 1) is ∙ quotient_is node later 1 good)
    (b ∙ ap (λ (e : Bounds). e.b / extent_in node.sizes 2) is ∙ quotient_is node later 2 good)
    (c ∙ ap (λ (e : Bounds). e.c / extent_in node.sizes 3) is ∙ quotient_is node later 3 good)
