-- Words lie in the spans of the operations that give them.
use Rattle.std.specs.Prelude.{◌≡◌, refl, ℕ, zero, suc, ◌+◌, ◌*◌, ◌/◌, ◌%◌, ◌^◌, ◌≤◌, ◌==◌, Bool, true, false, ◌&&◌, if◌then◌else◌, List, [], ◌∷◌, reverse, find, Option, Some, None, ℤ, pos, negsuc, ◌+ℤ◌, ◌-ℤ◌, ◌*ℤ◌, ◌≤ℤ◌, ◌<ℤ◌, int_le, int_lt, All, FitsSigned}
use Rattle.std.specs.Int.{w32}
use Rattle.std.specs.Int.Signed.{≤ℤ_refl}
use Rattle.std.proofs.Common.{arith, ap, ◌∙◌}
use Rattle.std.proofs.Math.Nat.{mod-le, div-le_self}
use Rattle.std.proofs.lemmas.List.{reverse-append}
use Rattle.std.proofs.lemmas.Int.{ints}
use Rattle.std.proofs.lemmas.List.Elements.{All-head, All-tail, All-append}
use Rattle.sg_words.specs.declared.operators.Ty.{Ty}
use Rattle.sg_words.specs.declared.operators.Ty.TheVariants as ty
use Rattle.sg_words.specs.declared.operators.BinOp.{BinOp}
use Rattle.sg_words.specs.declared.operators.BinOp.TheVariants as bin
use Rattle.sg_words.specs.declared.operators.UnOp.{UnOp}
use Rattle.sg_words.specs.Words.{number, flag, word_of, applied}
use Rattle.sg_words.specs.WordLaws.{IsWord, WordHasNumber, NumberHasWord, SumIsModular, DifferenceIsModular, ProductIsModular, AppliedIsWord, AppliedUnIsWord, MulqIsWord}
use Rattle.sg_coord.specs.declared.coord.Coord.{Coord}
use Rattle.sg_ir.specs.declared.op.Op.{Op}
use Rattle.sg_ir.specs.declared.op.Op.TheVariants as op
use Rattle.sg_ir.specs.Runs.{Seen, CodeWrite, at_of, cell_value, is_active_place, is_own, value_or_own}
use Rattle.sg_ir.specs.declared.span.Span.{Span}
use Rattle.sg_ir.specs.Span.{whole_i32, only, fits_i32, cut_to_i32, bin_span, range_span, Spans, reg_span, op_span}
use Rattle.sg_ir.specs.SpanLaws.{Lies, HasConstantWord, StateIsWords, RoomFits, FitsSpans}
use Rattle.sg_ir.specs.Scoped.{RunMoment, Room, op_word}
use Rattle.sg_ir.proofs.Products.{products_lie}

in_whole : (z : ℤ) → FitsSigned w32 z → (negsuc 2147483647 ≤ℤ z) × (z ≤ℤ pos 2147483647)
in_whole z h = (omega (arith, ints), omega (arith, ints))

fit_between : (lo hi z : ℤ) → ((int_le (negsuc 2147483647) lo && int_le lo (pos 2147483647)) && (int_le (negsuc 2147483647) hi && int_le hi (pos 2147483647))) ≡ true → lo ≤ℤ z → z ≤ℤ hi → FitsSigned w32 z
fit_between lo hi z fits_i32 low high = grind (arith, ints)

word_of-word : (z : ℤ) → IsWord (word_of z)
word_of-word (pos n) = omega arith
word_of-word (negsuc n) = omega arith

-- a lookup in a list whose items all hold
found_word : (p : CodeWrite → Bool) (writes : List CodeWrite) (value : ℕ) → All (λ (write : CodeWrite). IsWord write.value) writes → IsWord value → IsWord (value_or_own (find p writes) value)
found_word p [] value all h = h
found_word p (write ∷ writes) value all h = chosen (p write) (All-head (λ (w : CodeWrite). IsWord w.value) write writes all) (found_word p writes value (All-tail (λ (w : CodeWrite). IsWord w.value) write writes all) h)
  where
    chosen : (test : Bool) → IsWord write.value → IsWord (value_or_own (find p writes) value) → IsWord (value_or_own (if test then Some write else find p writes) value)
    chosen true one other = one
    chosen false one other = other

pub all_one : {X : Type 0} (P : X → Type 0) (x : X) → P x → All P (x ∷ [])
all_one P x h zero d below = h
all_one P x h (suc k) d below = absurd (omega (arith, below))

all_reverse : {X : Type 0} (P : X → Type 0) (xs : List X) → All P xs → All P (reverse xs)
all_reverse P [] all = all
all_reverse P (x ∷ xs) all = rw (reverse-append (x ∷ []) xs) (All-append P (reverse xs) (x ∷ []) (all_reverse P xs (All-tail P x xs all)) (all_one P x (All-head P x xs all)))

module _
    (number_law : (t : Ty) (w : ℕ) → WordHasNumber t w)
    (word_law : (t : Ty) (z : ℤ) → NumberHasWord t z)
    (sum_law : (t : Ty) (a b : ℕ) → SumIsModular t a b)
    (difference_law : (t : Ty) (a b : ℕ) → DifferenceIsModular t a b)
    (product_law : (t : Ty) (a b : ℕ) → ProductIsModular t a b)
    (applied_law : (how : BinOp) (t : Ty) (a b : ℕ) → AppliedIsWord how t a b)
    (un_law : (how : UnOp) (a : ℕ) → AppliedUnIsWord how a)
    (mulq_law : (a b s : ℕ) → MulqIsWord a b s) where
  pub lies_whole : (w : ℕ) → IsWord w → Lies whole_i32 w
  lies_whole w h = let in_it : (negsuc 2147483647 ≤ℤ number ty.I32 w) × (number ty.I32 w ≤ℤ pos 2147483647) = in_whole (number ty.I32 w) (number_law ty.I32 w h).0 in
      record { is_word = h; low = in_it.0; high = in_it.1 }

  lies_exactly : (lo hi z : ℤ) (w : ℕ) → FitsSigned w32 z → lo ≤ℤ z → z ≤ℤ hi → w ≡ word_of z → Lies (record { lo = lo; hi = hi }) w
  lies_exactly lo hi z w fits_i32 low high is =
      let known : IsWord (word_of z) × (number ty.I32 (word_of z) ≡ z) = word_law ty.I32 z fits_i32 in
      let same : number ty.I32 w ≡ z = ap (number ty.I32) is ∙ known.1 in
      record { is_word = rw is known.0; low = rw same low; high = rw same high }

  -- a number between the ends has its word in the cut interval
  pub cut_within : (lo hi z : ℤ) (w : ℕ) → lo ≤ℤ z → z ≤ℤ hi → w ≡ word_of z → Lies (cut_to_i32 lo hi) w
  cut_within lo hi z w low high is = by_test ((int_le (negsuc 2147483647) lo && int_le lo (pos 2147483647)) && (int_le (negsuc 2147483647) hi && int_le hi (pos 2147483647))) refl
    where
      by_test : (test : Bool) → ((int_le (negsuc 2147483647) lo && int_le lo (pos 2147483647)) && (int_le (negsuc 2147483647) hi && int_le hi (pos 2147483647))) ≡ test → Lies (if test then record { lo = lo; hi = hi } else whole_i32) w
      by_test true e = lies_exactly lo hi z w (fit_between lo hi z e low high) low high is
      by_test false e = lies_whole w (rw is (word_of-word z))

  sum_lies : (x y : Span) (a b : ℕ) → Lies x a → Lies y b → Lies (bin_span bin.Add ty.I32 x y) (applied bin.Add ty.I32 a b)
  sum_lies x y a b la lb = cut_within (x.lo +ℤ y.lo) (x.hi +ℤ y.hi) (number ty.I32 a +ℤ number ty.I32 b) (applied bin.Add ty.I32 a b)
      (sums x.lo y.lo (number ty.I32 a) (number ty.I32 b) la.low lb.low) (sums (number ty.I32 a) (number ty.I32 b) x.hi y.hi la.high lb.high) (sum_law ty.I32 a b la.is_word lb.is_word)
    where
      sums : (p q r s : ℤ) → p ≤ℤ r → q ≤ℤ s → (p +ℤ q) ≤ℤ (r +ℤ s)
      sums p q r s h k = omega (arith, ints)

  difference_lies : (x y : Span) (a b : ℕ) → Lies x a → Lies y b → Lies (bin_span bin.Sub ty.I32 x y) (applied bin.Sub ty.I32 a b)
  difference_lies x y a b la lb = cut_within (x.lo -ℤ y.hi) (x.hi -ℤ y.lo) (number ty.I32 a -ℤ number ty.I32 b) (applied bin.Sub ty.I32 a b)
      (differences x.lo y.hi (number ty.I32 a) (number ty.I32 b) la.low lb.high) (differences (number ty.I32 a) (number ty.I32 b) x.hi y.lo la.high lb.low) (difference_law ty.I32 a b la.is_word lb.is_word)
    where
      differences : (p q r s : ℤ) → p ≤ℤ r → s ≤ℤ q → (p -ℤ q) ≤ℤ (r -ℤ s)
      differences p q r s h k = omega (arith, ints)

  product_lies : (x y : Span) (a b : ℕ) → Lies x a → Lies y b → Lies (bin_span bin.Mul ty.I32 x y) (applied bin.Mul ty.I32 a b)
  product_lies x y a b la lb =
      let ends = products_lie x.lo x.hi y.lo y.hi (number ty.I32 a) (number ty.I32 b) la.low la.high lb.low lb.high in
      cut_within _ _ (number ty.I32 a *ℤ number ty.I32 b) (applied bin.Mul ty.I32 a b) ends.0 ends.1 (product_law ty.I32 a b la.is_word lb.is_word)

  pub bin_lies : (how : BinOp) (given : Ty) (x y : Span) (a b : ℕ) → Lies x a → Lies y b → Lies (bin_span how given x y) (applied how given a b)
  bin_lies bin.Add ty.I32 x y a b la lb = sum_lies x y a b la lb
  bin_lies bin.Sub ty.I32 x y a b la lb = difference_lies x y a b la lb
  bin_lies bin.Mul ty.I32 x y a b la lb = product_lies x y a b la lb
  bin_lies how given x y a b la lb = lies_whole (applied how given a b) (applied_law how given a b la.is_word lb.is_word)

  -- the numbers of a range
  pub range_lies : (lo hi turn : ℤ) → lo ≤ℤ turn → turn <ℤ hi → Lies (range_span lo hi) (word_of turn)
  range_lies lo hi turn low high = by_test (int_lt lo hi) refl
    where
      absent : (p q r : ℤ) → p ≤ℤ q → q <ℤ r → int_lt p r ≡ false → ⊥
      absent p q r h k e = grind (arith, ints)

      below : (q r : ℤ) → q <ℤ r → q ≤ℤ (r -ℤ pos 1)
      below q r k = omega (arith, ints)

      by_test : (test : Bool) → int_lt lo hi ≡ test → Lies (if test then cut_to_i32 lo (hi -ℤ pos 1) else only (pos 0)) (word_of turn)
      by_test true e = cut_within lo (hi -ℤ pos 1) turn (word_of turn) low (below turn hi high) refl
      by_test false e = absurd (absent lo turn hi low high e)

  quotient_word : (a div size : ℕ) → IsWord a → IsWord (a / div % size)
  quotient_word a div size h = let m : a / div % size ≤ a / div = mod-le (a / div) size in let d : a / div ≤ a = div-le_self a div in omega arith

  offset_word : (a : ℕ) → IsWord (a % 2 ^ 32)
  offset_word a = omega arith

  cell_word : (seen : Seen) → StateIsWords seen → (layout field : ℕ) (at : Option Coord) → IsWord (cell_value seen layout field at)
  cell_word seen words layout field None = omega arith
  cell_word seen words layout field (Some at) = words layout field at

  flag_word : (b : Bool) → IsWord (flag b)
  flag_word true = omega arith
  flag_word false = omega arith

  -- the word that an operation gives lies in its span
  pub op_lies : (seen : Seen) → StateIsWords seen → (spans : Spans) (room : Room) (now : RunMoment) → RoomFits spans room → FitsSpans spans now → (how : Op) → HasConstantWord how → Lies (op_span spans how) (op_word seen room now how)
  op_lies seen words spans room now regs fits_i32 (op.Const word truth) h = record { is_word = h; low = ≤ℤ_refl (number ty.I32 word); high = ≤ℤ_refl (number ty.I32 word) }
  op_lies seen words spans room now regs fits_i32 (op.Var var) h = fits_i32.vars var
  op_lies seen words spans room now regs fits_i32 (op.Bin how given a b) h = bin_lies how given (reg_span spans a) (reg_span spans b) (room.regs a) (room.regs b) (regs a) (regs b)
  op_lies seen words spans room now regs fits_i32 (op.Un how given a) h = lies_whole _ (un_law how (room.regs a))
  op_lies seen words spans room now regs fits_i32 (op.Mulq a b s) h = lies_whole _ (mulq_law (room.regs a) (room.regs b) (room.regs s))
  op_lies seen words spans room now regs fits_i32 (op.Extract div size from) h = lies_whole _ (quotient_word (room.regs from) div size (regs from).is_word)
  op_lies seen words spans room now regs fits_i32 (op.Offset high size low) h = lies_whole _ (offset_word (room.regs high * size + room.regs low))
  op_lies seen words spans room now regs fits_i32 (op.Read place layout field) h = lies_whole _ (cell_word seen words layout field (at_of seen.shapes (room.places place)))
  op_lies seen words spans room now regs fits_i32 (op.Active place) h = lies_whole _ (flag_word (is_active_place seen (at_of seen.shapes (room.places place)) (room.places place)))
  op_lies seen words spans room now regs fits_i32 (op.OwnRead layout field) h =
      lies_whole _ (found_word (λ write. is_own write.way && ((write.layout == layout) && (write.field == field))) (reverse now.writes) _ (all_reverse (λ (w : CodeWrite). IsWord w.value) now.writes fits_i32.writes) (words layout field seen.at))
