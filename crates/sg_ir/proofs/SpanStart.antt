-- At the start of an iteration all words lie in the first spans.
use Rattle.std.specs.Prelude.{◌≡◌, refl, ℕ, zero, suc, ◌^◌, ◌==◌, nat_le, nat_lt, Bool, true, false, if◌then◌else◌, List, [], ◌∷◌, take, get_or, slice_get, Some, ℤ, pos, ◌≤ℤ◌, ◌<ℤ◌, All, Contains, IsTrue}
use Rattle.std.specs.Int.Signed.{≤ℤ_refl}
use Rattle.std.proofs.Common.{arith, subst}
use Rattle.std.proofs.lemmas.Bool.{and_parts, ltb-true}
use Rattle.std.proofs.lemmas.Bool.Decides.{nat_tests}
use Rattle.std.proofs.lemmas.Int.{ints}
use Rattle.std.proofs.lemmas.List.Elements.{All-head, All-tail}
use Rattle.sg_words.specs.declared.operators.Ty.{Ty}
use Rattle.sg_words.specs.declared.operators.BinOp.{BinOp}
use Rattle.sg_words.specs.declared.operators.UnOp.{UnOp}
use Rattle.sg_words.specs.Words.{word_of}
use Rattle.sg_words.specs.WordLaws.{IsWord, WordHasNumber, NumberHasWord, SumIsModular, DifferenceIsModular, ProductIsModular, AppliedIsWord, AppliedUnIsWord, MulqIsWord}
use Rattle.sg_words.proofs.Uses.{contains_none}
use Rattle.sg_coord.specs.declared.coord.Coord.{Coord}
use Rattle.sg_coord.specs.Bounds.{Bounds}
use Rattle.sg_coord.specs.Coord.{Inside, is_inside, row_of}
use Rattle.sg_layout.specs.declared.shape.Shape.{Shape}
use Rattle.sg_layout.specs.Axes.{bounds_of_shape}
use Rattle.sg_layout.specs.ClosureLaws.{ClosureIsInside}
use Rattle.sg_flat.specs.declared.effects.Domain.{Domain}
use Rattle.sg_flat.specs.declared.effects.Domain.TheVariants.{Walk, Range}
use Rattle.sg_flat.specs.declared.state.FlatLayout.{FlatLayout}
use Rattle.sg_flat.specs.declared.state.FlatState.{FlatState}
use Rattle.sg_flat.specs.Domain.{active_in, domain_points}
use Rattle.sg_flat.specs.Laws.{IsPartOf, IsInBox, BoxIsRanges}
use Rattle.sg_flat.specs.State.{IsFlatField, AreFlatLayouts, IsFlat, words_or_none, value_in, value_or_zero}
use Rattle.sg_flat.specs.Words.{are_words, word_at}
use Rattle.sg_ir.specs.Runs.{iteration_start, part_words}
use Rattle.sg_ir.specs.Blocks.{Block}
use Rattle.sg_ir.specs.Span.{whole_i32, only, range_span, sets, extent_span, walk_span, box_span, domain_span, first_spans}
use Rattle.sg_ir.specs.SpanLaws.{Lies, FitsSpans, WordsLieInSpans}
use Rattle.sg_ir.specs.Flat.{moment_of}
use Rattle.sg_ir.specs.Scoped.{first_room}
use Rattle.sg_ir.proofs.SpanWords.{lies_whole, range_lies}
use Rattle.sg_ir.proofs.SpanSound.{sound}

-- ---- words of a flat state
word_low : (words : List (ℕ × ℕ)) (row : ℕ) → IsTrue (are_words words) → IsWord (word_at words row)
word_low [] row h = omega arith
word_low (entry ∷ entries) row h = let parts = and_parts (nat_lt entry.1 (2 ^ 32)) (are_words entries) h in
    by_test (entry.0 == row) (ltb-true entry.1 (2 ^ 32) parts.0) (word_low entries row parts.1)
  where
    by_test : (b : Bool) → IsWord entry.1 → IsWord (word_at entries row) → IsWord (if b then entry.1 else word_at entries row)
    by_test true p q = p
    by_test false p q = q

field_low : (shape : Shape) (active : List Coord) (fields : List (List (ℕ × ℕ))) → All (IsFlatField shape active) fields → (field : ℕ) → IsTrue (are_words (words_or_none (slice_get fields field)))
field_low shape active [] all field = refl
field_low shape active (words ∷ fields) all zero = (All-head (IsFlatField shape active) words fields all).in_range
field_low shape active (words ∷ fields) all (suc field) = field_low shape active fields (All-tail (IsFlatField shape active) words fields all) field

value_low : (bounds : Bounds) (words : List (ℕ × ℕ)) (at : Coord) → IsTrue (are_words words) → IsWord (value_in bounds words at)
value_low bounds words at h = by_test (is_inside bounds at)
  where
    by_test : (b : Bool) → IsWord (if b then word_at words (row_of bounds at) else 0)
    by_test true = word_low words (row_of bounds at) h
    by_test false = omega arith

pub values_low : (shapes : List Shape) (layouts : List FlatLayout) → AreFlatLayouts shapes layouts → (layout field : ℕ) (at : Coord) → IsWord (value_or_zero (slice_get shapes layout) (slice_get layouts layout) field at)
values_low [] [] flat layout field at = omega arith
values_low [] (one ∷ layouts) flat layout field at = absurd flat
values_low (shape ∷ shapes) [] flat layout field at = absurd flat
values_low (shape ∷ shapes) (one ∷ layouts) flat zero field at = value_low (bounds_of_shape shape) (words_or_none (slice_get one.fields field)) at (field_low shape one.active one.fields flat.0.fields_fit field)
values_low (shape ∷ shapes) (one ∷ layouts) flat (suc layout) field at = values_low shapes layouts flat.1 layout field at

-- ---- words of a coordinate's parts
first_word : (n x y z : ℕ) → get_or (take n (x ∷ y ∷ z ∷ [])) 0 0 ≡ (if nat_le 1 n then x else 0)
first_word zero x y z = refl
first_word (suc n) x y z = let e : nat_le 1 (suc n) ≡ true = grind (arith, nat_tests) in rw e refl

second_word : (n x y z : ℕ) → get_or (take n (x ∷ y ∷ z ∷ [])) 1 0 ≡ (if nat_le 2 n then y else 0)
second_word zero x y z = refl
second_word (suc zero) x y z = refl
second_word (suc (suc n)) x y z = let e : nat_le 2 (suc (suc n)) ≡ true = grind (arith, nat_tests) in rw e refl

third_word : (n x y z : ℕ) → get_or (take n (x ∷ y ∷ z ∷ [])) 2 0 ≡ (if nat_le 3 n then z else 0)
third_word zero x y z = refl
third_word (suc zero) x y z = refl
third_word (suc (suc zero)) x y z = refl
third_word (suc (suc (suc n))) x y z = let e : nat_le 3 (suc (suc (suc n))) ≡ true = grind (arith, nat_tests) in rw e refl

no_word : (n x y z k : ℕ) → get_or (take n (x ∷ y ∷ z ∷ [])) (suc (suc (suc k))) 0 ≡ 0
no_word zero x y z k = refl
no_word (suc zero) x y z k = refl
no_word (suc (suc zero)) x y z k = refl
no_word (suc (suc (suc n))) x y z k = taken_none n k
  where
    taken_none : (n k : ℕ) → get_or (take {A = ℕ} n []) k 0 ≡ 0
    taken_none zero k = refl
    taken_none (suc n) k = refl

module _
    (number_law : (t : Ty) (w : ℕ) → WordHasNumber t w)
    (word_law : (t : Ty) (z : ℤ) → NumberHasWord t z)
    (sum_law : (t : Ty) (a b : ℕ) → SumIsModular t a b)
    (difference_law : (t : Ty) (a b : ℕ) → DifferenceIsModular t a b)
    (product_law : (t : Ty) (a b : ℕ) → ProductIsModular t a b)
    (applied_law : (how : BinOp) (t : Ty) (a b : ℕ) → AppliedIsWord how t a b)
    (un_law : (how : UnOp) (a : ℕ) → AppliedUnIsWord how a)
    (mulq_law : (a b s : ℕ) → MulqIsWord a b s)
    (inside_law : (shape : Shape) → ClosureIsInside shape)
    (box_law : (lo hi : Coord) → BoxIsRanges lo hi) where
  abbrev in_range : (lo hi turn : ℤ) → lo ≤ℤ turn → turn <ℤ hi → Lies (range_span lo hi) (word_of turn)
  in_range = range_lies number_law word_law sum_law difference_law product_law applied_law un_law mulq_law

  zero_lies : Lies (only (pos 0)) 0
  zero_lies = record { is_word = omega arith; low = ≤ℤ_refl (pos 0); high = ≤ℤ_refl (pos 0) }

  extent_lies : (extent : ℕ) (part : ℤ) (there : Bool) → pos 0 ≤ℤ part → part <ℤ pos extent → Lies (extent_span extent) (if there then word_of part else 0)
  extent_lies extent part true low high = in_range (pos 0) (pos extent) part low high
  extent_lies extent part false low high = in_range (pos 0) (pos extent) (pos 0) (≤ℤ_refl (pos 0)) (omega (arith, ints))

  box_lies : (lo hi part : ℤ) (there : Bool) → IsPartOf there lo hi part → Lies (if there then range_span lo hi else only (pos 0)) (if there then word_of part else 0)
  box_lies lo hi part true is = in_range lo hi part is.0 is.1
  box_lies lo hi part false is = zero_lies

  -- a coordinate inside a layout, and one in a box
  inside_lies : (shape : Shape) (at : Coord) → Inside (bounds_of_shape shape) at → (var : ℕ) → Lies (walk_span (Some shape) var) (get_or (part_words at) var 0)
  inside_lies shape at inside zero = rw (first_word at.n (word_of at.a) (word_of at.b) (word_of at.c)) (extent_lies (bounds_of_shape shape).a at.a (nat_le 1 at.n) inside.a_low inside.a_high)
  inside_lies shape at inside (suc zero) = rw (second_word at.n (word_of at.a) (word_of at.b) (word_of at.c)) (extent_lies (bounds_of_shape shape).b at.b (nat_le 2 at.n) inside.b_low inside.b_high)
  inside_lies shape at inside (suc (suc zero)) = rw (third_word at.n (word_of at.a) (word_of at.b) (word_of at.c)) (extent_lies (bounds_of_shape shape).c at.c (nat_le 3 at.n) inside.c_low inside.c_high)
  inside_lies shape at inside (suc (suc (suc var))) = rw (no_word at.n (word_of at.a) (word_of at.b) (word_of at.c) var) (extent_lies 1 (pos 0) false (≤ℤ_refl (pos 0)) (omega (arith, ints)))

  boxed_lies : (lo hi at : Coord) → IsInBox lo hi at → (var : ℕ) → Lies (box_span lo hi var) (get_or (part_words at) var 0)
  boxed_lies lo hi at is zero = rw (first_word at.n (word_of at.a) (word_of at.b) (word_of at.c), is.same_axes) (box_lies lo.a hi.a at.a (nat_le 1 lo.n) is.a_part)
  boxed_lies lo hi at is (suc zero) = rw (second_word at.n (word_of at.a) (word_of at.b) (word_of at.c), is.same_axes) (box_lies lo.b hi.b at.b (nat_le 2 lo.n) is.b_part)
  boxed_lies lo hi at is (suc (suc zero)) = rw (third_word at.n (word_of at.a) (word_of at.b) (word_of at.c), is.same_axes) (box_lies lo.c hi.c at.c (nat_le 3 lo.n) is.c_part)
  boxed_lies lo hi at is (suc (suc (suc var))) = rw (no_word at.n (word_of at.a) (word_of at.b) (word_of at.c) var) zero_lies

  walked_lies : (shapes : List Shape) (layouts : List FlatLayout) → AreFlatLayouts shapes layouts → (layout : ℕ) (at : Coord) → Contains (active_in (slice_get layouts layout)) at
      → (var : ℕ) → Lies (walk_span (slice_get shapes layout) var) (get_or (part_words at) var 0)
  walked_lies [] [] flat layout at has var = absurd (contains_none at has)
  walked_lies [] (one ∷ layouts) flat layout at has var = absurd flat
  walked_lies (shape ∷ shapes) [] flat layout at has var = absurd flat
  walked_lies (shape ∷ shapes) (one ∷ layouts) flat zero at has var =
      inside_lies shape at (inside_law shape one.active at (subst (λ (coords : List Coord). Contains coords at) flat.0.closed has)).1 var
  walked_lies (shape ∷ shapes) (one ∷ layouts) flat (suc layout) at has var = walked_lies shapes layouts flat.1 layout at has var

  domain_lies : (shapes : List Shape) (domain : Domain) (state : FlatState) → IsFlat shapes state → (at : Coord) → Contains (domain_points state domain) at
      → (var : ℕ) → Lies (domain_span shapes domain var) (get_or (part_words at) var 0)
  domain_lies shapes (Walk layout) state flat at has var = walked_lies shapes state.layouts flat layout at has var
  domain_lies shapes (Range lo hi) state flat at has var = boxed_lies lo hi at ((box_law lo hi at).0 has) var

  pub first_fits : (shapes : List Shape) (domain : Domain) (block : Block) (state : FlatState) → IsFlat shapes state → (at : Coord) → Contains (domain_points state domain) at
      → FitsSpans (first_spans shapes domain block) (moment_of (iteration_start (record { shapes = shapes; state = state; at = at })))
  first_fits shapes domain block state flat at has = record {
    vars = λ var. by_test var (sets var block == 0) (domain_lies shapes domain state flat at has var);
    writes = λ k d below. absurd (omega (arith, below));
  }
    where
      by_test : (var : ℕ) (test : Bool) → Lies (domain_span shapes domain var) (get_or (part_words at) var 0) → Lies (if test then domain_span shapes domain var else whole_i32) (get_or (part_words at) var 0)
      by_test var true lies = lies
      by_test var false lies = lies_whole number_law word_law sum_law difference_law product_law applied_law un_law mulq_law (get_or (part_words at) var 0) lies.is_word

  pub words_lie_in_spans : (shapes : List Shape) (domain : Domain) (block : Block) → WordsLieInSpans shapes domain block
  words_lie_in_spans shapes domain block good state flat at has =
      (sound number_law word_law sum_law difference_law product_law applied_law un_law mulq_law (record { shapes = shapes; state = state; at = at }) (values_low shapes state.layouts flat)
      block (first_spans shapes domain block) first_room (moment_of (iteration_start (record { shapes = shapes; state = state; at = at }))) good
      (λ r. lies_whole number_law word_law sum_law difference_law product_law applied_law un_law mulq_law 0 (omega arith)) (first_fits shapes domain block state flat at has)).holds
