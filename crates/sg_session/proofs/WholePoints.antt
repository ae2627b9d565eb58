-- The coordinates inside a layout that keeps the rules are those of the words of their parts.
use Rattle.std.proofs.Common.{◌≡◌, ℕ, zero, suc, ◌*◌, ◌<◌, ◌≤◌, ℤ, pos, negsuc, ◌≤ℤ◌, ◌<ℤ◌, w32, Bool, true, false, not, ◌&&◌, ltb, leb, eqb, List, [], ◌∷◌, length, take, None, Result, Ok, Err, refl, sym, ap, ◌∙◌, arith}
use Rattle.std.specs.Prelude.{if◌then◌else◌}
use Rattle.std.specs.List.{list_any}
use Rattle.std.proofs.lemmas.Int.{ints, fits_signed_from_abs}
use Rattle.std.proofs.lemmas.Bool.{and_parts, cond-false, leb-true, ne_eqb}
use Rattle.sg_words.specs.declared.operators.Ty.TheVariants as ty
use Rattle.sg_words.specs.Words.{number, word_of}
use Rattle.sg_words.specs.WordLaws.{NumberHasWord}
use Rattle.sg_words.proofs.Uses.{fault_or-ok}
use Rattle.sg_coord.specs.declared.coord.Coord.{Coord}
use Rattle.sg_coord.specs.Bounds.{volume}
use Rattle.sg_coord.specs.Coord.{Inside}
use Rattle.sg_coord.proofs.Uses.{same_parts}
use Rattle.sg_layout.specs.declared.layout.LayoutFault.{LayoutFault}
use Rattle.sg_layout.specs.declared.layout.LayoutFault.TheVariants.{TooLarge}
use Rattle.sg_layout.specs.declared.shape.NodeShape.{NodeShape}
use Rattle.sg_layout.specs.declared.shape.Shape.{Shape}
use Rattle.sg_layout.specs.declared.shape.Size.{Size}
use Rattle.sg_layout.specs.Axes.{bounds_of_shape, count_of, extent_in, extent_over}
use Rattle.sg_coord.specs.Limits.{most_extent, most_points}
use Rattle.sg_layout.specs.Rules.{has_few_axes, names_axes_once, first_node_fault, is_small, checked_shape}
use Rattle.sg_layout.proofs.Uses.{faultless_head, faultless_tail}
use Rattle.sg_types.specs.Values.{coord_of}
use Rattle.sg_types.specs.Iterations.{part_words}

-- a coordinate that is that of the words of its parts
abbrev pub IsWhole : Coord → Type 0
IsWhole at = (length (part_words at) ≡ at.n) × (coord_of (part_words at) ≡ at)

whole_from : (at : Coord) → at.n ≤ 3 → number ty.I32 (word_of at.a) ≡ at.a → number ty.I32 (word_of at.b) ≡ at.b → number ty.I32 (word_of at.c) ≡ at.c
    → (at.n ≤ 0 → pos 0 ≡ at.a) → (at.n ≤ 1 → pos 0 ≡ at.b) → (at.n ≤ 2 → pos 0 ≡ at.c) → IsWhole at
whole_from at few back_a back_b back_c no_a no_b no_c = by_axes at.n refl
  where
    by_axes : (n : ℕ) → at.n ≡ n → IsWhole at
    by_axes zero e = (
      ap (λ (n : ℕ). length (take n (word_of at.a ∷ word_of at.b ∷ word_of at.c ∷ []))) e ∙ sym e,
      ap (λ (n : ℕ). coord_of (take n (word_of at.a ∷ word_of at.b ∷ word_of at.c ∷ []))) e ∙ same_parts _ at (sym e) (no_a (omega (arith, e))) (no_b (omega (arith, e))) (no_c (omega (arith, e))),
    )
    by_axes (suc zero) e = (
      ap (λ (n : ℕ). length (take n (word_of at.a ∷ word_of at.b ∷ word_of at.c ∷ []))) e ∙ sym e,
      ap (λ (n : ℕ). coord_of (take n (word_of at.a ∷ word_of at.b ∷ word_of at.c ∷ []))) e ∙ same_parts _ at (sym e) back_a (no_b (omega (arith, e))) (no_c (omega (arith, e))),
    )
    by_axes (suc (suc zero)) e = (
      ap (λ (n : ℕ). length (take n (word_of at.a ∷ word_of at.b ∷ word_of at.c ∷ []))) e ∙ sym e,
      ap (λ (n : ℕ). coord_of (take n (word_of at.a ∷ word_of at.b ∷ word_of at.c ∷ []))) e ∙ same_parts _ at (sym e) back_a back_b (no_c (omega (arith, e))),
    )
    by_axes (suc (suc (suc zero))) e = (
      ap (λ (n : ℕ). length (take n (word_of at.a ∷ word_of at.b ∷ word_of at.c ∷ []))) e ∙ sym e,
      ap (λ (n : ℕ). coord_of (take n (word_of at.a ∷ word_of at.b ∷ word_of at.c ∷ []))) e ∙ same_parts _ at (sym e) back_a back_b back_c,
    )
    by_axes (suc (suc (suc (suc n)))) e = absurd (omega (arith, few, e))

-- an axis that no node names has extent 1
unnamed_in : (axes axis : ℕ) (sizes : List Size) → axes < axis → names_axes_once axes sizes ≡ true → extent_in sizes axis ≡ 1
unnamed_in axes axis [] past good = refl
unnamed_in axes axis (size ∷ sizes) past good =
    let parts = and_parts (ltb 0 size.axis && leb size.axis axes) (not (list_any (λ other. eqb other.axis size.axis) sizes) && names_axes_once axes sizes) good in
    let known = leb-true size.axis axes (and_parts (ltb 0 size.axis) (leb size.axis axes) parts.0).1 in
    let rest = and_parts (not (list_any (λ other. eqb other.axis size.axis) sizes)) (names_axes_once axes sizes) parts.1 in
    cond-false (eqb size.axis axis) (count_of size.extent) (extent_in sizes axis) (ne_eqb size.axis axis (λ same. omega arith))
    ∙ unnamed_in axes axis sizes past rest.1

unnamed_over : (axes axis number : ℕ) (nodes : List NodeShape) → axes < axis → first_node_fault axes number nodes ≡ None → extent_over nodes axis ≡ 1
unnamed_over axes axis number [] past none = refl
unnamed_over axes axis number (node ∷ later) past none =
    let once = (and_parts (names_axes_once axes node.sizes) (has_few_axes node.kind node.sizes) (faultless_head axes number node later none).names).0 in
    let here : extent_in node.sizes axis ≡ 1 = unnamed_in axes axis node.sizes past once in
    let rest : extent_over later axis ≡ 1 = unnamed_over axes axis (suc number) later past (faultless_tail axes number node later none) in
    ap (λ n. n * extent_over later axis) here ∙ ap (λ n. 1 * n) rest

small_if : (b : Bool) (shape : Shape) → ◌≡◌ {A = Result Shape LayoutFault} (if b then Ok shape else Err TooLarge) (Ok shape) → b ≡ true
small_if true shape e = refl
small_if false shape e = absurd (cc)

-- what a layout that keeps the rules has: no fault in its nodes, and few points on each axis
record KeepsSizes (shape : Shape) : Type 0 where
  faultless : first_node_fault shape.axes 1 shape.nodes ≡ None
  a : (bounds_of_shape shape).a ≤ most_extent
  b : (bounds_of_shape shape).b ≤ most_extent
  c : (bounds_of_shape shape).c ≤ most_extent

keeps_sizes : (shape : Shape) → checked_shape shape ≡ Ok shape → KeepsSizes shape
keeps_sizes shape e =
    let bounds = bounds_of_shape shape in
    let parts = fault_or-ok (first_node_fault shape.axes 1 shape.nodes) (if is_small (bounds_of_shape shape) then Ok shape else Err TooLarge) shape e in
    let small = small_if (is_small bounds) shape parts.1 in
    let first = and_parts (leb bounds.a most_extent) (leb bounds.b most_extent && (leb bounds.c most_extent && leb (volume bounds) most_points)) small in
    let second = and_parts (leb bounds.b most_extent) (leb bounds.c most_extent && leb (volume bounds) most_points) first.1 in
    let third = and_parts (leb bounds.c most_extent) (leb (volume bounds) most_points) second.1 in
    record {
      faultless = parts.0;
      a = leb-true bounds.a most_extent first.0;
      b = leb-true bounds.b most_extent second.0;
      c = leb-true bounds.c most_extent third.0;
    }

inside_word : ((z : ℤ) → NumberHasWord ty.I32 z) → (z : ℤ) (extent : ℕ) → pos 0 ≤ℤ z → z <ℤ pos extent → extent ≤ most_extent → number ty.I32 (word_of z) ≡ z
inside_word numbers_have_words (pos k) extent low high few =
    let top : extent ≤ 32768 = few in
    let below : k < 2147483648 = omega (arith, ints) in
    (numbers_have_words (pos k) (fits_signed_from_abs w32 (pos k) below)).1
inside_word numbers_have_words (negsuc k) extent low high few = absurd (omega (arith, ints))

zero_part : (z : ℤ) (extent : ℕ) → pos 0 ≤ℤ z → z <ℤ pos extent → extent ≡ 1 → pos 0 ≡ z
zero_part z extent low high one = omega (arith, ints)

pub inside_whole : ((z : ℤ) → NumberHasWord ty.I32 z) → (shape : Shape) (at : Coord) → checked_shape shape ≡ Ok shape → shape.axes ≤ 3 → Inside (bounds_of_shape shape) at → IsWhole at
inside_whole numbers_have_words shape at e few inside =
    let is = keeps_sizes shape e in
    let bounds = bounds_of_shape shape in
    let same = inside.same_axes in
    whole_from at (omega arith)
    (inside_word numbers_have_words at.a bounds.a inside.a_low inside.a_high is.a) (inside_word numbers_have_words at.b bounds.b inside.b_low inside.b_high is.b) (inside_word numbers_have_words at.c bounds.c inside.c_low inside.c_high is.c)
    (λ l. zero_part at.a bounds.a inside.a_low inside.a_high (unnamed_over shape.axes 1 1 shape.nodes (omega arith) is.faultless))
    (λ l. zero_part at.b bounds.b inside.b_low inside.b_high (unnamed_over shape.axes 2 1 shape.nodes (omega arith) is.faultless))
    (λ l. zero_part at.c bounds.c inside.c_low inside.c_high (unnamed_over shape.axes 3 1 shape.nodes (omega arith) is.faultless))
