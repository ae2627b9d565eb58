-- The law of spans, by recursion on a block.
use Rattle.std.specs.Prelude.{◌≡◌, refl, ℕ, zero, suc, ◌+◌, ◌<◌, ◌≤◌, ◌==◌, Bool, true, false, if◌then◌else◌, [], ◌∷◌, ◌++◌, map, fold, Some, ℤ, pos, negsuc, ◌+ℤ◌, ◌-ℤ◌, ◌≤ℤ◌, ◌<ℤ◌, All}
use Rattle.std.specs.List.{range_with_len}
use Rattle.std.proofs.Common.{arith, sym, ap, subst, ◌∙◌}
use Rattle.std.proofs.lemmas.Bool.{eqb-true}
use Rattle.std.proofs.lemmas.Int.{ints}
use Rattle.std.proofs.lemmas.List.Elements.{All-append}
use Rattle.sg_words.specs.declared.operators.Ty.{Ty}
use Rattle.sg_words.specs.declared.operators.BinOp.{BinOp}
use Rattle.sg_words.specs.declared.operators.UnOp.{UnOp}
use Rattle.sg_words.specs.Words.{word_of}
use Rattle.sg_words.specs.WordLaws.{IsWord, WordHasNumber, NumberHasWord, SumIsModular, DifferenceIsModular, ProductIsModular, AppliedIsWord, AppliedUnIsWord, MulqIsWord}
use Rattle.sg_coord.specs.Coord.{count_of}
use Rattle.sg_flat.specs.Domain.{numbers}
use Rattle.sg_flat.specs.declared.effects.Way.TheVariants.{Own, Acc}
use Rattle.sg_ir.specs.declared.op.Op.{Op}
use Rattle.sg_ir.specs.declared.op.Op.TheVariants as op
use Rattle.sg_ir.specs.Runs.{Seen, CodeWrite, put, at_of}
use Rattle.sg_ir.specs.Blocks.{Sight, Value, Activity, sight_op, Block, End, Word, Spot, Cell, Do, Branch, Loop, SetVar, WriteOwn, Contribute, Wish}
use Rattle.sg_ir.specs.declared.span.Span.{Span}
use Rattle.sg_ir.specs.Span.{whole_i32, range_span, Spans, reg_span, var_span, op_span, with_span, in_loop}
use Rattle.sg_ir.specs.SpanLaws.{Lies, HasConstantWord, WhereTest, EachTurn, SpansHold, IsSpanned, StateIsWords, RoomFits, FitsSpans}
use Rattle.sg_ir.specs.Scoped.{RunMoment, Room, room_reg, room_place, op_word, step_root, step_place, moment_after_act, at_turn, run}
use Rattle.sg_ir.proofs.SpanWords.{lies_whole, range_lies, op_lies, all_one}

-- the spans hold along a run, and what is known holds after it
pub record Sound (seen : Seen) (spans : Spans) (block : Block) (room : Room) (now : RunMoment) : Type 0 where
  pub holds : SpansHold seen spans block room now
  pub fits : FitsSpans spans (run seen block room now)

-- a new entry in front, on both sides
lies_either : (test : Bool) (s t : Span) (w v : ℕ) → Lies s w → Lies t v → Lies (if test then s else t) (if test then w else v)
lies_either true s t w v h k = h
lies_either false s t w v h k = k

pub room_with : (spans : Spans) (room : Room) (to : ℕ) (span : Span) (word : ℕ) → RoomFits spans room → Lies span word → RoomFits (with_span to span spans) (room_reg to word room)
room_with spans room to span word fits lies r = lies_either (r == to) span (reg_span spans r) word (room.regs r) lies (fits r)

-- a variable that has all of I32 may be set to any word
pub vars_set : (spans : Spans) (vars : ℕ → ℕ) (var word : ℕ) → ((v : ℕ) → Lies (var_span spans v) (vars v)) → var_span spans var ≡ whole_i32 → Lies whole_i32 word → (v : ℕ) → Lies (var_span spans v) (put var word vars v)
vars_set spans vars var word fits all lies v = by_test (v == var) refl
  where
    by_test : (test : Bool) → (v == var) ≡ test → Lies (var_span spans v) (if test then word else vars v)
    by_test true e = subst (λ (span : Span). Lies span word) (sym (ap (var_span spans) (eqb-true v var e) ∙ all)) lies
    by_test false e = fits v

-- into a turn of a loop, and out of the loop
pub entered : (spans : Spans) (var : ℕ) (lo hi turn : ℤ) (now : RunMoment) → FitsSpans spans now → Lies (range_span lo hi) (word_of turn) → FitsSpans (in_loop var lo hi spans) (at_turn var turn now)
entered spans var lo hi turn now fits lies = record {
  vars = λ v. lies_either (v == var) (range_span lo hi) (var_span spans v) (word_of turn) (now.vars v) lies (fits.vars v);
  writes = fits.writes;
}

pub left : (whole_law : (w : ℕ) → IsWord w → Lies whole_i32 w) (spans : Spans) (var : ℕ) (lo hi : ℤ) (now : RunMoment) → var_span spans var ≡ whole_i32 → FitsSpans (in_loop var lo hi spans) now → FitsSpans spans now
left whole_law spans var lo hi now all fits = record { vars = λ v. by_test v (v == var) refl (fits.vars v); writes = fits.writes }
  where
    by_test : (v : ℕ) (test : Bool) → (v == var) ≡ test → Lies (if test then range_span lo hi else var_span spans v) (now.vars v) → Lies (var_span spans v) (now.vars v)
    by_test v true e lies = subst (λ (span : Span). Lies span (now.vars v)) (sym (ap (var_span spans) (eqb-true v var e) ∙ all)) (whole_law (now.vars v) lies.is_word)
    by_test v false e lies = lies

-- the numbers of a range
pub counted : (lo hi z : ℤ) (k : ℕ) → z ≡ hi -ℤ lo → k < count_of z → (lo ≤ℤ (lo +ℤ pos k)) × ((lo +ℤ pos k) <ℤ hi)
counted lo hi (pos n) k is below = (omega (arith, ints), omega (arith, ints))
counted lo hi (negsuc n) k is below = absurd (omega (arith, below))

module _
    (number_law : (t : Ty) (w : ℕ) → WordHasNumber t w)
    (word_law : (t : Ty) (z : ℤ) → NumberHasWord t z)
    (sum_law : (t : Ty) (a b : ℕ) → SumIsModular t a b)
    (difference_law : (t : Ty) (a b : ℕ) → DifferenceIsModular t a b)
    (product_law : (t : Ty) (a b : ℕ) → ProductIsModular t a b)
    (applied_law : (how : BinOp) (t : Ty) (a b : ℕ) → AppliedIsWord how t a b)
    (un_law : (how : UnOp) (a : ℕ) → AppliedUnIsWord how a)
    (mulq_law : (a b s : ℕ) → MulqIsWord a b s)
    (seen : Seen) (state : StateIsWords seen) where
  abbrev any_word : (w : ℕ) → IsWord w → Lies whole_i32 w
  any_word = lies_whole number_law word_law sum_law difference_law product_law applied_law un_law mulq_law

  abbrev in_range : (lo hi turn : ℤ) → lo ≤ℤ turn → turn <ℤ hi → Lies (range_span lo hi) (word_of turn)
  in_range = range_lies number_law word_law sum_law difference_law product_law applied_law un_law mulq_law

  gives : (spans : Spans) (room : Room) (now : RunMoment) → RoomFits spans room → FitsSpans spans now → (how : Op) → HasConstantWord how → Lies (op_span spans how) (op_word seen room now how)
  gives = op_lies number_law word_law sum_law difference_law product_law applied_law un_law mulq_law seen state

  wrote : (spans : Spans) (now : RunMoment) (write : CodeWrite) → FitsSpans spans now → IsWord write.value → All (λ (w : CodeWrite). IsWord w.value) (now.writes ++ write ∷ [])
  wrote spans now write fits h = All-append (λ (w : CodeWrite). IsWord w.value) now.writes (write ∷ []) fits.writes (all_one (λ (w : CodeWrite). IsWord w.value) write h)

  -- the turns of a loop, from one on
  turns_sound : (spans : Spans) (var : ℕ) (lo hi : ℤ) (body : Block) (room : Room) → var_span spans var ≡ whole_i32
      → ((now : RunMoment) → FitsSpans (in_loop var lo hi spans) now → Sound seen (in_loop var lo hi spans) body room now)
      → (start count : ℕ) → start + count ≤ count_of (hi -ℤ lo) → (now : RunMoment) → FitsSpans spans now
      → EachTurn (λ turn reached. SpansHold seen (in_loop var lo hi spans) body room (at_turn var turn reached)) (λ reached turn. run seen body room (at_turn var turn reached)) now (map (λ k. lo +ℤ pos k) (range_with_len start count))
      × FitsSpans spans (fold (λ reached turn. run seen body room (at_turn var turn reached)) now (map (λ k. lo +ℤ pos k) (range_with_len start count)))
  turns_sound spans var lo hi body room all each start zero few now fits = (tt, fits)
  turns_sound spans var lo hi body room all each start (suc count) few now fits =
      let inside : (lo ≤ℤ (lo +ℤ pos start)) × ((lo +ℤ pos start) <ℤ hi) = counted lo hi (hi -ℤ lo) start refl (omega arith) in
      let turn : Sound seen (in_loop var lo hi spans) body room (at_turn var (lo +ℤ pos start) now) =
      each (at_turn var (lo +ℤ pos start) now) (entered spans var lo hi (lo +ℤ pos start) now fits (in_range lo hi (lo +ℤ pos start) inside.0 inside.1)) in
      let more = turns_sound spans var lo hi body room all each (start + 1) count (omega arith) (run seen body room (at_turn var (lo +ℤ pos start) now)) (left any_word spans var lo hi _ all turn.fits) in
      ((turn.holds, more.0), more.1)

  -- what is seen at a place lies in all of I32
  seen_lies : (spans : Spans) (room : Room) (now : RunMoment) → RoomFits spans room → FitsSpans spans now → (place : ℕ) (sight : Sight) → Lies whole_i32 (op_word seen room now (sight_op place sight))
  seen_lies spans room now regs fits place (Value layout field) = gives spans room now regs fits (op.Read place layout field) tt
  seen_lies spans room now regs fits place Activity = gives spans room now regs fits (op.Active place) tt

  pub sound : (block : Block) (spans : Spans) (room : Room) (now : RunMoment) → IsSpanned spans block → RoomFits spans room → FitsSpans spans now → Sound seen spans block room now
  sound End spans room now good regs fits = record { holds = tt; fits = fits }
  sound (Word to how rest) spans room now good regs fits =
      let lies = gives spans room now regs fits how good.0 in
      let more = sound rest (with_span to (op_span spans how) spans) (room_reg to (op_word seen room now how) room) now good.1
      (room_with spans room to (op_span spans how) (op_word seen room now how) regs lies) (record { vars = fits.vars; writes = fits.writes }) in
      record { holds = (lies, more.holds); fits = record { vars = more.fits.vars; writes = more.fits.writes } }
  sound (Spot to how rest) spans room now good regs fits =
      let more = sound rest spans (room_place to (step_root room how) (step_place seen room how) room) now good regs fits in
      record { holds = more.holds; fits = more.fits }
  sound (Cell to place sight index rest) spans room now good regs fits =
      let lies : Lies whole_i32 (op_word seen room now (sight_op place sight)) = seen_lies spans room now regs fits place sight in
      let more = sound rest (with_span to whole_i32 spans) (room_reg to (op_word seen room now (sight_op place sight)) room) now good
      (room_with spans room to whole_i32 (op_word seen room now (sight_op place sight)) regs lies) (record { vars = fits.vars; writes = fits.writes }) in
      record { holds = (lies, more.holds); fits = record { vars = more.fits.vars; writes = more.fits.writes } }
  sound (Do (SetVar var from) rest) spans room now good regs fits =
      let more = sound rest spans room (moment_after_act seen room (SetVar var from) now) good.1 regs
      (record { vars = vars_set spans now.vars var (room.regs from) fits.vars good.0 (any_word (room.regs from) (regs from).is_word); writes = fits.writes }) in
      record { holds = more.holds; fits = more.fits }
  sound (Do (WriteOwn layout field from stmt) rest) spans room now good regs fits =
      let more = sound rest spans room (moment_after_act seen room (WriteOwn layout field from stmt) now) good.1 regs (record { vars = fits.vars; writes = wrote spans now (record { layout = layout; field = field; stmt = stmt; at = Some seen.at; way = Own; value = room.regs from }) fits (regs from).is_word }) in
      record { holds = more.holds; fits = more.fits }
  sound (Do (Contribute how layout field place from index stmt) rest) spans room now good regs fits =
      let more = sound rest spans room (moment_after_act seen room (Contribute how layout field place from index stmt) now) good.1 regs (record { vars = fits.vars; writes = wrote spans now (record { layout = layout; field = field; stmt = stmt; at = at_of seen.shapes (room.places place); way = Acc how; value = room.regs from }) fits (regs from).is_word }) in
      record { holds = more.holds; fits = more.fits }
  sound (Do (Wish layout index stmt) rest) spans room now good regs fits =
      let more = sound rest spans room (moment_after_act seen room (Wish layout index stmt) now) good.1 regs (record { vars = fits.vars; writes = fits.writes }) in
      record { holds = more.holds; fits = more.fits }
  sound (Branch cond block otherwise rest) spans room now good regs fits =
      let first = sound block spans room now good.0 regs fits in
      let second = sound otherwise spans room now good.1 regs fits in
      let both = by_test (room.regs cond == 0) first second in
      let more = sound rest spans room (if room.regs cond == 0 then run seen otherwise room now else run seen block room now) good.2 regs both.1 in
      record { holds = (both.0, more.holds); fits = more.fits }
    where
      by_test : (test : Bool) → Sound seen spans block room now → Sound seen spans otherwise room now →
          WhereTest test (SpansHold seen spans otherwise room now) (SpansHold seen spans block room now) × FitsSpans spans (if test then run seen otherwise room now else run seen block room now)
      by_test true a b = (b.holds, b.fits)
      by_test false a b = (a.holds, a.fits)
  sound (Loop var lo hi body rest) spans room now good regs fits =
      let turns = turns_sound spans var lo hi body room good.0 (λ reached inside. sound body (in_loop var lo hi spans) room reached good.1 regs inside) 0 (count_of (hi -ℤ lo)) (omega arith) now fits in
      let more = sound rest spans room (fold (λ reached turn. run seen body room (at_turn var turn reached)) now (numbers lo hi)) good.2 regs turns.1 in
      record { holds = (turns.0, more.holds); fits = more.fits }
