-- The points of a kernel's domain have as many parts as its loop has variables, all of them numbers of words.
use Rattle.std.proofs.Common.{◌≡◌, ℕ, zero, suc, ◌+◌, ◌<◌, ◌≤◌, ◌^◌, ℤ, pos, negsuc, ◌+ℤ◌, ◌-ℤ◌, ◌≤ℤ◌, ◌<ℤ◌, w32, inl, inr, Bool, true, false, List, [], ◌∷◌, map, length, take, Option, Some, None, refl, sym, ap, ◌∙◌, subst, arith}
use Rattle.std.specs.Prelude.{slice_get, Contains, FitsSigned, nat_le}
use Rattle.std.specs.List.{AllByRecursion, flat_map, range_with_len}
use Rattle.std.proofs.lemmas.Int.{ints, fits_signed_from_abs}
use Rattle.std.proofs.lemmas.Bool.{leb-true}
use Rattle.sg_words.specs.declared.operators.Ty.TheVariants as ty
use Rattle.sg_words.specs.Words.{number, word_of}
use Rattle.sg_words.specs.WordLaws.{NumberHasWord}
use Rattle.sg_words.proofs.Uses.{contains_none, contains_cases}
use Rattle.sg_coord.specs.declared.coord.Coord.{Coord}
use Rattle.sg_coord.specs.Bounds.{Bounds, IsBounds}
use Rattle.sg_coord.specs.Coord.{Inside}
use Rattle.sg_coord.proofs.Uses.{same_parts}
use Rattle.sg_layout.specs.declared.shape.Shape.{Shape}
use Rattle.sg_layout.specs.Axes.{bounds_of_shape, count_of}
use Rattle.sg_layout.specs.ClosureLaws.{ClosureIsInside}
use Rattle.sg_flat.specs.declared.state.FlatLayout.{FlatLayout}
use Rattle.sg_flat.specs.declared.state.FlatState.{FlatState}
use Rattle.sg_flat.specs.State.{IsFlatLayout, AreFlatLayouts, IsFlat}
use Rattle.sg_flat.specs.Domain.{parts_of, box_points, active_in}
use Rattle.sg_types.specs.Values.{coord_of}
use Rattle.sg_types.specs.Iterations.{part_words}
use Rattle.sg_lower.specs.steps.Basis.{IsSmall}
use Rattle.sg_lower.proofs.UsedReads.{all_append}

-- ---- coordinates whose parts are numbers of words

-- a coordinate that is that of the words of its parts
abbrev pub IsWhole : Coord → Type 0
IsWhole at = (length (part_words at) ≡ at.n) × (coord_of (part_words at) ≡ at)

word_is : (numbers_have_words : (z : ℤ) → NumberHasWord ty.I32 z) (z : ℤ) → FitsSigned w32 z → number ty.I32 (word_of z) ≡ z
word_is numbers_have_words z fits = (numbers_have_words z fits).1

whole_from : (at : Coord) → at.n ≤ 3 → number ty.I32 (word_of at.a) ≡ at.a → number ty.I32 (word_of at.b) ≡ at.b → number ty.I32 (word_of at.c) ≡ at.c
    → (at.n ≤ 0 → pos 0 ≡ at.a) → (at.n ≤ 1 → pos 0 ≡ at.b) → (at.n ≤ 2 → pos 0 ≡ at.c) → IsWhole at
whole_from at few back_a back_b back_c no_a no_b no_c = by_axes at.n refl
  where
    by_axes : (n : ℕ) → at.n ≡ n → IsWhole at
    by_axes zero e = (
      ap (λ (n : ℕ). length (take n (word_of at.a ∷ word_of at.b ∷ word_of at.c ∷ []))) e ∙ sym e,
      ap (λ (n : ℕ). coord_of (take n (word_of at.a ∷ word_of at.b ∷ word_of at.c ∷ []))) e ∙ same_parts _ at (sym e) (no_a (omega (arith, e))) (no_b (omega (arith, e))) (no_c (omega (arith, e))),
    )
    by_axes (suc zero) e = (
      ap (λ (n : ℕ). length (take n (word_of at.a ∷ word_of at.b ∷ word_of at.c ∷ []))) e ∙ sym e,
      ap (λ (n : ℕ). coord_of (take n (word_of at.a ∷ word_of at.b ∷ word_of at.c ∷ []))) e ∙ same_parts _ at (sym e) back_a (no_b (omega (arith, e))) (no_c (omega (arith, e))),
    )
    by_axes (suc (suc zero)) e = (
      ap (λ (n : ℕ). length (take n (word_of at.a ∷ word_of at.b ∷ word_of at.c ∷ []))) e ∙ sym e,
      ap (λ (n : ℕ). coord_of (take n (word_of at.a ∷ word_of at.b ∷ word_of at.c ∷ []))) e ∙ same_parts _ at (sym e) back_a back_b (no_c (omega (arith, e))),
    )
    by_axes (suc (suc (suc zero))) e = (
      ap (λ (n : ℕ). length (take n (word_of at.a ∷ word_of at.b ∷ word_of at.c ∷ []))) e ∙ sym e,
      ap (λ (n : ℕ). coord_of (take n (word_of at.a ∷ word_of at.b ∷ word_of at.c ∷ []))) e ∙ same_parts _ at (sym e) back_a back_b back_c,
    )
    by_axes (suc (suc (suc (suc n)))) e = absurd (omega (arith, few, e))

module _ (numbers_have_words : (z : ℤ) → NumberHasWord ty.I32 z) where
  inside_word : (z : ℤ) (extent : ℕ) → pos 0 ≤ℤ z → z <ℤ pos extent → extent ≤ 2 ^ 15 → number ty.I32 (word_of z) ≡ z
  inside_word (pos k) extent low high few =
      let top : extent ≤ 32768 = few in
      let below : k < 2147483648 = omega (arith, ints) in
      word_is numbers_have_words (pos k) (fits_signed_from_abs w32 (pos k) below)
  inside_word (negsuc k) extent low high few = absurd (omega (arith, ints))

  zero_part : (z : ℤ) (extent : ℕ) → pos 0 ≤ℤ z → z <ℤ pos extent → extent ≡ 1 → pos 0 ≡ z
  zero_part z extent low high one = omega (arith, ints)

  -- a coordinate inside extents
  pub inside_whole : (bounds : Bounds) (at : Coord) → IsBounds bounds → Inside bounds at → IsWhole at
  inside_whole bounds at is inside =
      let same = inside.same_axes in
      let some = is.some_axis in
      let few = is.three_axes in
      whole_from at (omega arith) (inside_word at.a bounds.a inside.a_low inside.a_high is.a_most) (inside_word at.b bounds.b inside.b_low inside.b_high is.b_most) (inside_word at.c bounds.c inside.c_low inside.c_high is.c_most)
      (λ l. absurd (omega arith)) (λ l. zero_part at.b bounds.b inside.b_low inside.b_high (is.b_unused (omega arith))) (λ l. zero_part at.c bounds.c inside.c_low inside.c_high (is.c_unused (omega arith)))

-- ---- boxes

-- a part of a box on an axis
abbrev PartOf : Bool → ℤ → ℤ → ℤ → Type 0
PartOf true lo hi z = (lo ≤ℤ z) × (z <ℤ hi)
PartOf false lo hi z = pos 0 ≡ z

mapped : {X Y : Type 0} (P : X → Type 0) (Q : Y → Type 0) (f : X → Y) → ((x : X) → P x → Q (f x)) → (xs : List X) → AllByRecursion P xs → AllByRecursion Q (map f xs)
mapped P Q f g [] all = tt
mapped P Q f g (x ∷ xs) all = (g x all.0, mapped P Q f g xs all.1)

flat : {X Y : Type 0} (P : X → Type 0) (Q : Y → Type 0) (f : X → List Y) → ((x : X) → P x → AllByRecursion Q (f x)) → (xs : List X) → AllByRecursion P xs → AllByRecursion Q (flat_map f xs)
flat P Q f g [] all = tt
flat P Q f g (x ∷ xs) all = all_append Q (f x) (flat_map f xs) (g x all.0) (flat P Q f g xs all.1)

pub of_all : {X : Type 0} (P : X → Type 0) (xs : List X) → AllByRecursion P xs → (x : X) → Contains xs x → P x
of_all P [] all x has = absurd (contains_none x has)
of_all P (first ∷ xs) all x has = elim (contains_cases x first xs has) [
  | inl same ↦ subst P same all.0
  | inr later ↦ of_all P xs all.1 x later
]

range_below : (a n end : ℕ) → a + n ≤ end → AllByRecursion (λ k. k < end) (range_with_len a n)
range_below a zero end l = tt
range_below a (suc n) end l = (omega (arith, l), range_below (a + 1) n end (omega (arith, l)))

below_hi : (lo hi z : ℤ) (k : ℕ) → hi -ℤ lo ≡ z → k < count_of z → (lo ≤ℤ (lo +ℤ pos k)) × ((lo +ℤ pos k) <ℤ hi)
below_hi lo hi (pos n) k e below = (omega (arith, ints), omega (arith, ints, e, below))
below_hi lo hi (negsuc n) k e below = absurd (omega (arith, below))

part_of : (used : Bool) (lo hi : ℤ) → AllByRecursion (PartOf used lo hi) (parts_of used lo hi)
part_of true lo hi = mapped (λ k. k < count_of (hi -ℤ lo)) (PartOf true lo hi) (λ k. lo +ℤ pos k) (λ k below. below_hi lo hi (hi -ℤ lo) k refl below) (range_with_len 0 (count_of (hi -ℤ lo))) (range_below 0 (count_of (hi -ℤ lo)) (count_of (hi -ℤ lo)) (omega arith))
part_of false lo hi = (refl, tt)

record IsInBox (lo hi at : Coord) : Type 0 where
  n : at.n ≡ lo.n
  a : PartOf (nat_le 1 lo.n) lo.a hi.a at.a
  b : PartOf (nat_le 2 lo.n) lo.b hi.b at.b
  c : PartOf (nat_le 3 lo.n) lo.c hi.c at.c

in_box : (lo hi : Coord) → AllByRecursion (IsInBox lo hi) (box_points lo hi)
in_box lo hi =
    flat (PartOf (nat_le 1 lo.n) lo.a hi.a) (IsInBox lo hi) (λ a. flat_map (λ b. map (λ c. let at : Coord = record { n = lo.n; a = a; b = b; c = c } in at) (parts_of (nat_le 3 lo.n) lo.c hi.c)) (parts_of (nat_le 2 lo.n) lo.b hi.b))
    (λ a is_a. flat (PartOf (nat_le 2 lo.n) lo.b hi.b) (IsInBox lo hi) (λ b. map (λ c. let at : Coord = record { n = lo.n; a = a; b = b; c = c } in at) (parts_of (nat_le 3 lo.n) lo.c hi.c))
    (λ b is_b. mapped (PartOf (nat_le 3 lo.n) lo.c hi.c) (IsInBox lo hi) (λ c. let at : Coord = record { n = lo.n; a = a; b = b; c = c } in at) (λ c is_c. record { n = refl; a = is_a; b = is_b; c = is_c })
    (parts_of (nat_le 3 lo.n) lo.c hi.c) (part_of (nat_le 3 lo.n) lo.c hi.c)) (parts_of (nat_le 2 lo.n) lo.b hi.b) (part_of (nat_le 2 lo.n) lo.b hi.b)) (parts_of (nat_le 1 lo.n) lo.a hi.a) (part_of (nat_le 1 lo.n) lo.a hi.a)

module _ (numbers_have_words : (z : ℤ) → NumberHasWord ty.I32 z) where
  part_word : (used : Bool) (lo hi z : ℤ) → FitsSigned w32 lo → FitsSigned w32 hi → PartOf used lo hi z → number ty.I32 (word_of z) ≡ z
  part_word true lo hi z low high is =
      let from = is.0 in
      let to = is.1 in
      let fits : FitsSigned w32 z = omega (arith, ints, low, high, from, to) in
      word_is numbers_have_words z fits
  part_word false lo hi z low high is = subst (λ (y : ℤ). number ty.I32 (word_of y) ≡ y) is refl

  unused : (n k : ℕ) (lo hi z : ℤ) → n < k → PartOf (nat_le k n) lo hi z → pos 0 ≡ z
  unused n k lo hi z below is = by_test (nat_le k n) refl is
    where
      by_test : (b : Bool) → nat_le k n ≡ b → PartOf b lo hi z → pos 0 ≡ z
      by_test true e part = let l = leb-true k n e in absurd (omega (arith, l, below))
      by_test false e part = part

  pub box_whole : (lo hi at : Coord) → lo.n ≤ 3 → IsSmall lo → IsSmall hi → Contains (box_points lo hi) at → IsWhole at × (at.n ≡ lo.n)
  box_whole lo hi at few low high has =
      let is = of_all (IsInBox lo hi) (box_points lo hi) (in_box lo hi) at has in
      let same = is.n in (
        whole_from at (omega arith) (part_word (nat_le 1 lo.n) lo.a hi.a at.a low.0 high.0 is.a) (part_word (nat_le 2 lo.n) lo.b hi.b at.b low.1.0 high.1.0 is.b) (part_word (nat_le 3 lo.n) lo.c hi.c at.c low.1.1 high.1.1 is.c)
            (λ l. unused lo.n 1 lo.a hi.a at.a (omega arith) is.a) (λ l. unused lo.n 2 lo.b hi.b at.b (omega arith) is.b) (λ l. unused lo.n 3 lo.c hi.c at.c (omega arith) is.c),
        same,
      )

  -- ---- active coordinates

  abbrev IsThis : Shape → Option FlatLayout → Type 0
  IsThis shape None = Unit {0}
  IsThis shape (Some it) = IsFlatLayout shape it

  flat_at : (shapes : List Shape) (layouts : List FlatLayout) (number : ℕ) (it : FlatLayout) → AreFlatLayouts shapes layouts → slice_get layouts number ≡ Some it → (shape : Shape) × (slice_get shapes number ≡ Some shape) × IsFlatLayout shape it
  flat_at [] [] number it all is = absurd (cc)
  flat_at [] (first ∷ layouts) number it all is = absurd all
  flat_at (shape ∷ shapes) [] number it all is = absurd all
  flat_at (shape ∷ shapes) (first ∷ layouts) zero it all is = (shape, refl, subst (λ (found : Option FlatLayout). IsThis shape found) is all.0)
  flat_at (shape ∷ shapes) (first ∷ layouts) (suc number) it all is = flat_at shapes layouts number it all.1 is

  pub walk_whole : (shapes : List Shape) (state : FlatState) (layout : ℕ) (at : Coord) → IsFlat shapes state → ((shape : Shape) → ClosureIsInside shape)
      → ((shape : Shape) → slice_get shapes layout ≡ Some shape → IsBounds (bounds_of_shape shape)) → Contains (active_in (slice_get state.layouts layout)) at
      → (shape : Shape) × (slice_get shapes layout ≡ Some shape) × IsWhole at × (at.n ≡ shape.axes)
  walk_whole shapes state layout at fine closures bounds has = by_found (slice_get state.layouts layout) refl
    where
      by_found : (found : Option FlatLayout) → slice_get state.layouts layout ≡ found → (shape : Shape) × (slice_get shapes layout ≡ Some shape) × IsWhole at × (at.n ≡ shape.axes)
      by_found None none = absurd (contains_none at (subst (λ (f : Option FlatLayout). Contains (active_in f) at) none has))
      by_found (Some it) is =
          let found = flat_at shapes state.layouts layout it fine is in
          let shape = found.0 in
          let active : Contains it.active at = subst (λ (f : Option FlatLayout). Contains (active_in f) at) is has in
          let inside : Inside (bounds_of_shape shape) at = (closures shape it.active at (subst (λ (ats : List Coord). Contains ats at) found.2.closed active)).1 in
          (shape, found.1, inside_whole numbers_have_words (bounds_of_shape shape) at (bounds shape found.1) inside, inside.same_axes)
