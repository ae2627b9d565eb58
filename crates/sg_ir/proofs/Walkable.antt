-- Extents of nodes that can be walked down.
use Rattle.std.proofs.Common.{◌≡◌, ℕ, ◌+◌, ◌*◌, ◌^◌, ◌<◌, ◌≤◌, true, List, ◌∷◌, length, take, drop, ◌-◌, get_or, sym, ap, ◌∙◌, subst, arith}
use Rattle.std.specs.List.{list_all}
use Rattle.std.proofs.Math.Nat.{mul_assoc}
use Rattle.std.proofs.lemmas.Bool.{and_parts}
use Rattle.std.proofs.lemmas.Nat.{mul-le}
use Rattle.std.proofs.lemmas.List.{drop_more}
use Rattle.sg_layout.specs.declared.shape.NodeShape.{NodeShape}
use Rattle.sg_layout.specs.Axes.{extent_in, extent_over}
use Rattle.sg_layout.specs.Rules.{has_good_extents}
use Rattle.sg_layout.proofs.Uses.{in_some, over_some}
use Rattle.sg_ir.specs.steps.Walks.{AreWalkable}
use Rattle.sg_ir.proofs.Extending.{rest-whole}

parts : (node : NodeShape) (later : List NodeShape) → AreWalkable (node ∷ later) → (has_good_extents node ≡ true) × (list_all has_good_extents later ≡ true)
parts node later walkable = and_parts (has_good_extents node) (list_all has_good_extents later) walkable.good

pub head-good : (node : NodeShape) (later : List NodeShape) → AreWalkable (node ∷ later) → has_good_extents node ≡ true
head-good node later walkable = (parts node later walkable).0

-- a product of extents and what is left of it
over_parts : (m n : ℕ) → 1 ≤ m → m * n ≤ 2 ^ 15 → n ≤ 2 ^ 15
over_parts m n some whole = let h : 1 * n ≤ m * n = mul-le 1 n m n some (omega arith) in omega arith

pub tail-walkable : (node : NodeShape) (later : List NodeShape) → AreWalkable (node ∷ later) → AreWalkable later
tail-walkable node later walkable =
    let good = parts node later walkable in
    record {
      good = good.1;
      small = λ axis first last. over_parts (extent_in node.sizes axis) (extent_over later axis) (in_some node.sizes axis good.0) (walkable.small axis first last);
    }

-- a product of extents, one node further
pub extent-further : (nodes : List NodeShape) (axis i extent part : ℕ) (node : NodeShape) → i < length nodes → node ≡ get_or nodes i node → part ≡ extent_in node.sizes axis →
    list_all has_good_extents (drop i nodes) ≡ true → extent * extent_over (drop i nodes) axis ≡ extent_over nodes axis →
    (extent * part * extent_over (drop (i + 1) nodes) axis ≡ extent_over nodes axis) × (list_all has_good_extents (drop (i + 1) nodes) ≡ true) × (has_good_extents node ≡ true) × (extent * part ≤ extent_over nodes axis)
extent-further nodes axis i extent part node below here part_is good whole =
    let rest : List NodeShape = drop (i + 1) nodes in
    let split : drop i nodes ≡ node ∷ rest = drop_more nodes i node below ∙ ap (λ x. x ∷ rest) (sym here) in
    let both = and_parts (has_good_extents node) (list_all has_good_extents rest) (sym (ap (list_all has_good_extents) split) ∙ good) in
    let same : extent * part * extent_over rest axis ≡ extent_over nodes axis =
    ap (λ n. extent * n * extent_over rest axis) part_is ∙ mul_assoc extent (extent_in node.sizes axis) (extent_over rest axis)
    ∙ ap (λ n. extent * n) (sym (ap (λ xs. extent_over xs axis) split)) ∙ whole in
    let some : 1 ≤ extent_over rest axis = over_some rest axis both.1 in
    let least : extent * part * 1 ≤ extent * part * extent_over rest axis = mul-le (extent * part) 1 (extent * part) (extent_over rest axis) (omega arith) some in
    (same, both.1, both.0, omega arith)

pub split-walkable : (nodes : List NodeShape) (node : NodeShape) → nodes ≡ node ∷ drop 1 nodes → AreWalkable nodes → AreWalkable (node ∷ take (length nodes - 1) (drop 1 nodes))
split-walkable nodes node split walkable =
    let whole : node ∷ take (length nodes - 1) (drop 1 nodes) ≡ nodes = ap (λ later. node ∷ later) (rest-whole nodes) ∙ sym split in
    subst AreWalkable (sym whole) walkable

-- extents at a node and over the nodes below it are 1 at least
pub size-some : (node : NodeShape) (later : List NodeShape) (axis size : ℕ) → AreWalkable (node ∷ later) → size ≡ extent_in node.sizes axis → 1 ≤ size
size-some node later axis size walkable is =
    let some : 1 ≤ extent_in node.sizes axis = in_some node.sizes axis (head-good node later walkable) in
    omega arith

pub over-some : (node : NodeShape) (later : List NodeShape) (axis div : ℕ) → AreWalkable (node ∷ later) → div ≡ extent_over later axis → 1 ≤ div
over-some node later axis div walkable is =
    let some : 1 ≤ extent_over later axis = over_some later axis (parts node later walkable).1 in
    omega arith
