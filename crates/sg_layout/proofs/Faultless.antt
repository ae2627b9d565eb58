-- What shapes without a fault keep of the product of all sizes.
use Rattle.std.proofs.Common.{◌≡◌, ℕ, suc, ◌+◌, ◌*◌, ◌^◌, ◌<◌, ◌≤◌, Bool, true, false, not, ◌&&◌, ltb, leb, Option, Some, None, List, [], ◌∷◌, eqb, cond, length, get_or, drop, refl, sym, ap, ◌∙◌, subst, arith, inl, inr, ℤ, pos, to_z, of_z, w32, SFits}
use Rattle.std.specs.Prelude.{Ok, Err}
use Rattle.std.specs.List.{list_any, list_all}
use Rattle.std.proofs.lemmas.Bool.{and_parts, not-true, eq-eqb, ne_eqb, ltb-true, leb-true, cond-true, cond-false, or_parts, eqb-false, cases_eq}
use Rattle.std.proofs.lemmas.Nat.{mul-le}
use Rattle.std.proofs.lemmas.Int.{ints, to_z-of_z}
use Rattle.std.proofs.lemmas.List.{drop_more}
use Rattle.sg_coord.specs.Bounds.{volume}
use Rattle.sg_layout.specs.declared.shape.Size.{Size}
use Rattle.sg_layout.specs.declared.shape.NodeShape.{NodeShape}
use Rattle.sg_layout.specs.declared.shape.Shape.{Shape}
use Rattle.sg_layout.specs.declared.layout.LayoutFault.{LayoutFault}
use Rattle.sg_layout.specs.declared.layout.LayoutFault.TheVariants.{TooLarge}
use Rattle.sg_layout.specs.Axes.{count_of, size_of, slots_of, extent_in, extent_over, bounds_of_shape}
use Rattle.sg_layout.specs.Accepted.{IsAccepted}
use Rattle.sg_layout.specs.Rules.{is_extent, names_axes_once, first_node_fault, is_small, is_declared, checked_by}
use Rattle.sg_layout.proofs.Extending.{extent_is, axes_declared}
use Rattle.sg_layout.proofs.Keeping.{names_once, faultless_head, faultless_tail}

-- sizes are 1 at least
pub size_some : (sizes : List Size) → list_all (λ size. is_extent size.extent) sizes ≡ true → 1 ≤ size_of sizes
size_some [] good = omega arith
size_some (size ∷ sizes) good =
    let parts = and_parts (is_extent size.extent) (list_all (λ size. is_extent size.extent) sizes) good in
    let here = extent_is size.extent parts.0 in
    let rest : 1 ≤ size_of sizes = size_some sizes parts.1 in
    omega (arith, mul-le 1 1 (count_of size.extent) (size_of sizes) here.some rest)

pub slots_some : (axes number : ℕ) (nodes : List NodeShape) → first_node_fault axes number nodes ≡ None → 1 ≤ slots_of nodes
slots_some axes number [] none = omega arith
slots_some axes number (node ∷ later) none =
    let here : 1 ≤ size_of node.sizes = size_some node.sizes (faultless_head axes number node later none).extents in
    let rest : 1 ≤ slots_of later = slots_some axes (suc number) later (faultless_tail axes number node later none) in
    omega (arith, mul-le 1 1 (size_of node.sizes) (slots_of later) here rest)

-- the extent of an axis that the first size names, and of one that it doesn't
in_here : (size : Size) (sizes : List Size) (axis : ℕ) → size.axis ≡ axis → extent_in (size ∷ sizes) axis ≡ count_of size.extent
in_here size sizes axis same = cond-true (eqb size.axis axis) (count_of size.extent) (extent_in sizes axis) (eq-eqb size.axis axis same)

in_later : (size : Size) (sizes : List Size) (axis : ℕ) → (size.axis ≡ axis → ⊥) → extent_in (size ∷ sizes) axis ≡ extent_in sizes axis
in_later size sizes axis other = cond-false (eqb size.axis axis) (count_of size.extent) (extent_in sizes axis) (ne_eqb size.axis axis other)

in_none : (sizes : List Size) (axis : ℕ) → list_any (λ other. eqb other.axis axis) sizes ≡ false → extent_in sizes axis ≡ 1
in_none [] axis none = refl
in_none (size ∷ sizes) axis none =
    let parts = or_parts (eqb size.axis axis) (list_any (λ other. eqb other.axis axis) sizes) none in
    in_later size sizes axis (eqb-false size.axis axis parts.0) ∙ in_none sizes axis parts.1

-- the size of a node is the product of what it gives the three axes
times_three : (n a b c d e f : ℕ) → a ≡ d → b ≡ e → c ≡ f → n * (a * b * c) ≡ n * (d * e * f)
times_three n a b c d e f p q r = ap (λ x. n * (x * b * c)) p ∙ ap (λ x. n * (d * x * c)) q ∙ ap (λ x. n * (d * e * x)) r

product_three : (a b c d e f : ℕ) → a ≡ d → b ≡ e → c ≡ f → a * b * c ≡ d * e * f
product_three a b c d e f p q r = ap (λ x. x * b * c) p ∙ ap (λ x. d * x * c) q ∙ ap (λ x. d * e * x) r

pub size_axes : (axes : ℕ) (sizes : List Size) → axes ≤ 3 → names_axes_once axes sizes ≡ true → size_of sizes ≡ extent_in sizes 1 * extent_in sizes 2 * extent_in sizes 3
size_axes axes [] few good = refl
size_axes axes (size ∷ sizes) few good =
    let parts = and_parts (ltb 0 size.axis && leb size.axis axes) (not (list_any (λ other. eqb other.axis size.axis) sizes) && names_axes_once axes sizes) good in
    let known = and_parts (ltb 0 size.axis) (leb size.axis axes) parts.0 in
    let low = ltb-true 0 size.axis known.0 in
    let high = leb-true size.axis axes known.1 in
    let rest = and_parts (not (list_any (λ other. eqb other.axis size.axis) sizes)) (names_axes_once axes sizes) parts.1 in
    let absent : extent_in sizes size.axis ≡ 1 = in_none sizes size.axis (not-true (list_any (λ other. eqb other.axis size.axis) sizes) rest.0) in
    let n : ℕ = count_of size.extent in
    let a : ℕ = extent_in sizes 1 in
    let b : ℕ = extent_in sizes 2 in
    let c : ℕ = extent_in sizes 3 in
    let below : n * size_of sizes ≡ n * (a * b * c) = ap (λ s. n * s) (size_axes axes sizes few rest.1) in
    elim (cases_eq size.axis 1) [
      | inl first ↦
          let one : a ≡ 1 = ap (extent_in sizes) (sym first) ∙ absent in
          below ∙ times_three n a b c 1 b c one refl refl ∙ (let e : n * (1 * b * c) ≡ n * b * c = omega arith in e)
          ∙ sym (product_three (extent_in (size ∷ sizes) 1) (extent_in (size ∷ sizes) 2) (extent_in (size ∷ sizes) 3) n b c (in_here size sizes 1 first) (in_later size sizes 2 (λ same. omega arith)) (in_later size sizes 3 (λ same. omega arith)))
      | inr not_first ↦ elim (cases_eq size.axis 2) [
        | inl second ↦
            let one : b ≡ 1 = ap (extent_in sizes) (sym second) ∙ absent in
            below ∙ times_three n a b c a 1 c refl one refl ∙ (let e : n * (a * 1 * c) ≡ a * n * c = omega arith in e)
            ∙ sym (product_three (extent_in (size ∷ sizes) 1) (extent_in (size ∷ sizes) 2) (extent_in (size ∷ sizes) 3) a n c (in_later size sizes 1 (λ same. omega arith)) (in_here size sizes 2 second) (in_later size sizes 3 (λ same. omega arith)))
        | inr not_second ↦
            let third : size.axis ≡ 3 = omega (arith, not_first, not_second) in
            let one : c ≡ 1 = ap (extent_in sizes) (sym third) ∙ absent in
            below ∙ times_three n a b c a b 1 refl refl one ∙ (let e : n * (a * b * 1) ≡ a * b * n = omega arith in e)
            ∙ sym (product_three (extent_in (size ∷ sizes) 1) (extent_in (size ∷ sizes) 2) (extent_in (size ∷ sizes) 3) a b n (in_later size sizes 1 (λ same. omega arith)) (in_later size sizes 2 (λ same. omega arith)) (in_here size sizes 3 third))
      ]
    ]

-- the product of the sizes is the product of the axes
pub slots_axes : (axes number : ℕ) (nodes : List NodeShape) → axes ≤ 3 → first_node_fault axes number nodes ≡ None → slots_of nodes ≡ extent_over nodes 1 * extent_over nodes 2 * extent_over nodes 3
slots_axes axes number [] few none = refl
slots_axes axes number (node ∷ later) few none =
    let here = size_axes axes node.sizes few (names_once axes number node later (faultless_head axes number node later none)) in
    let rest = slots_axes axes (suc number) later few (faultless_tail axes number node later none) in
    let a : ℕ = extent_in node.sizes 1 in
    let b : ℕ = extent_in node.sizes 2 in
    let c : ℕ = extent_in node.sizes 3 in
    let turned : a * b * c * (extent_over later 1 * extent_over later 2 * extent_over later 3) ≡ a * extent_over later 1 * (b * extent_over later 2) * (c * extent_over later 3) = omega arith in
    ap (λ s. s * slots_of later) here ∙ ap (λ s. a * b * c * s) rest ∙ turned

-- what a shape keeps that is accepted
small_from : (small : Bool) (shape : Shape) → cond small (Ok shape) (Err TooLarge) ≡ Ok shape → small ≡ true
small_from true shape e = refl
small_from false shape e = cc

pub from_checked : (fault : Option LayoutFault) (shape : Shape) → checked_by fault shape ≡ Ok shape → (fault ≡ None) × (is_small (bounds_of_shape shape) ≡ true)
from_checked None shape e = (refl, small_from (is_small (bounds_of_shape shape)) shape e)
from_checked (Some fault) shape e = cc

pub no_fault : (shape : Shape) → IsAccepted shape → first_node_fault shape.axes 1 shape.nodes ≡ None
no_fault shape accepted = (from_checked (first_node_fault shape.axes 1 shape.nodes) shape accepted.keeps_rules).0

pub volume_slots : (shape : Shape) → IsAccepted shape → volume (bounds_of_shape shape) ≡ slots_of shape.nodes
volume_slots shape accepted =
    sym (slots_axes shape.axes 1 shape.nodes (axes_declared shape accepted.declared).1 (no_fault shape accepted))

pub slots_few : (shape : Shape) → IsAccepted shape → slots_of shape.nodes ≤ 2 ^ 30
slots_few shape accepted =
    let bounds = bounds_of_shape shape in
    let small = (from_checked (first_node_fault shape.axes 1 shape.nodes) shape accepted.keeps_rules).1 in
    let a = and_parts (leb bounds.a (2 ^ 15)) (leb bounds.b (2 ^ 15) && (leb bounds.c (2 ^ 15) && leb (volume bounds) (2 ^ 30))) small in
    let b = and_parts (leb bounds.b (2 ^ 15)) (leb bounds.c (2 ^ 15) && leb (volume bounds) (2 ^ 30)) a.1 in
    let c = and_parts (leb bounds.c (2 ^ 15)) (leb (volume bounds) (2 ^ 30)) b.1 in
    let most : volume bounds ≤ 2 ^ 30 = leb-true (volume bounds) (2 ^ 30) c.1 in
    omega (arith, volume_slots shape accepted)

-- how many nodes and fields a declared shape has
pub counts_declared : (shape : Shape) → is_declared shape ≡ true → (length shape.nodes ≤ 6) × (length shape.fields ≤ 16)
counts_declared shape declared =
    let first = and_parts (ltb 0 shape.axes && leb shape.axes 3) _ declared in
    let second = and_parts (ltb 0 (length shape.nodes) && leb (length shape.nodes) 6) _ first.1 in
    let third = and_parts (ltb 0 (length shape.fields) && leb (length shape.fields) 16) _ second.1 in (
      leb-true (length shape.nodes) 6 (and_parts (ltb 0 (length shape.nodes)) (leb (length shape.nodes) 6) second.0).1,
      leb-true (length shape.fields) 16 (and_parts (ltb 0 (length shape.fields)) (leb (length shape.fields) 16) third.0).1,
    )

-- a product of sizes, one further
pub size_further : (sizes : List Size) (i product : ℕ) (default : Size) → i < length sizes → product * size_of (drop i sizes) ≡ size_of sizes → list_all (λ size. is_extent size.extent) (drop i sizes) ≡ true → (product * count_of (get_or sizes i default).extent * size_of (drop (i + 1) sizes) ≡ size_of sizes) × (list_all (λ size. is_extent size.extent) (drop (i + 1) sizes) ≡ true) × (is_extent (get_or sizes i default).extent ≡ true) × (product * count_of (get_or sizes i default).extent ≤ size_of sizes)
size_further sizes i product default below whole good =
    let size : Size = get_or sizes i default in
    let rest : List Size = drop (i + 1) sizes in
    let split : drop i sizes ≡ size ∷ rest = drop_more sizes i default below in
    let all : list_all (λ size. is_extent size.extent) (size ∷ rest) ≡ true = sym (ap (list_all (λ size. is_extent size.extent)) split) ∙ good in
    let parts = and_parts (is_extent size.extent) (list_all (λ size. is_extent size.extent) rest) all in
    let turned : product * count_of size.extent * size_of rest ≡ product * (count_of size.extent * size_of rest) = omega arith in
    let same : product * count_of size.extent * size_of rest ≡ size_of sizes = turned ∙ ap (λ xs. product * size_of xs) (sym split) ∙ whole in
    let some : 1 ≤ size_of rest = size_some rest parts.1 in
    let grows : product * count_of size.extent * 1 ≤ product * count_of size.extent * size_of rest = mul-le (product * count_of size.extent) 1 (product * count_of size.extent) (size_of rest) (omega arith) some in
    (same, parts.1, parts.0, omega arith)

-- an extent as the code reads it, by casts
read_extent : (z : ℤ) → is_extent z ≡ true → to_z w32 (of_z w32 z) ≡ z
read_extent z good =
    let is = extent_is z good in
    let number : ℕ = count_of z in
    let fits : SFits w32 (pos number) = omega (arith, ints) in
    subst (λ x. to_z w32 (of_z w32 x) ≡ x) (sym is.whole) (to_z-of_z w32 (pos number) fits)

pub size_step : (sizes : List Size) (i product n : ℕ) (default : Size) → i < length sizes → n ≡ count_of (to_z w32 (of_z w32 (get_or sizes i default).extent)) → product * size_of (drop i sizes) ≡ size_of sizes → list_all (λ size. is_extent size.extent) (drop i sizes) ≡ true → (product * n * size_of (drop (i + 1) sizes) ≡ size_of sizes) × (list_all (λ size. is_extent size.extent) (drop (i + 1) sizes) ≡ true) × (product * n ≤ size_of sizes)
size_step sizes i product n default below is whole good =
    let further = size_further sizes i product default below whole good in
    let count : n ≡ count_of (get_or sizes i default).extent = is ∙ ap count_of (read_extent (get_or sizes i default).extent further.2) in
    subst (λ m. (product * m * size_of (drop (i + 1) sizes) ≡ size_of sizes) × (list_all (λ size. is_extent size.extent) (drop (i + 1) sizes) ≡ true) × (product * m ≤ size_of sizes)) (sym count)
    (further.0, further.1, further.3)
