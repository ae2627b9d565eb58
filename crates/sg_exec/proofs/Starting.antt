-- Iterations side by side, from their starts to their ends.
use Rattle.std.proofs.Common.{◌≡◌, ℕ, zero, suc, ◌+◌, ◌*◌, ◌<◌, ◌≤◌, inl, inr, List, [], ◌∷◌, ◌++◌, length, get_or, take, Bool, true, false, None, Some, refl, sym, ap, ◌∙◌, subst, arith}
use Rattle.std.specs.Prelude.{slice_get, slice_set, if◌then◌else◌, nat_lt}
use Rattle.std.proofs.lemmas.Bool.{cases_eq}
use Rattle.std.proofs.lemmas.Bool.Decides.{nat_tests}
use Rattle.std.proofs.lemmas.Option.{same_Some, slice_get_within}
use Rattle.std.proofs.lemmas.List.{take_all, length-set, get_or-set_same, get_or-set_other}
use Rattle.std.proofs.lemmas.List.Elements.{All-nil}
use Rattle.sg_words.specs.Words.{word_of}
use Rattle.sg_coord.specs.declared.coord.Coord.{Coord}
use Rattle.sg_flat.specs.declared.state.FlatState.{FlatState}
use Rattle.sg_store.specs.StoreWords.{StoreWords}
use Rattle.sg_ir.specs.declared.code.Inst.{Inst}
use Rattle.sg_ir.specs.Runs.{runs, iteration_start, part_words}
use Rattle.sg_exec.specs.declared.lanes.batch.Batch.{Batch}
use Rattle.sg_exec.specs.declared.lanes.moment.Moment.{Moment}
use Rattle.sg_exec.specs.steps.Machines.{seen_in, Sees, HoldsPlace, IsAtLoop}
use Rattle.sg_exec.specs.steps.Rows.{item_in}
use Rattle.sg_exec.specs.steps.Moments.{AllMove, IsOver, IsFresh, AreFresh, AreStarted, Iterated}
use Rattle.sg_exec.proofs.Rows.{below_or_past, past, set_same, set_other}
use Rattle.sg_exec.proofs.SideBySide.{there}

-- ---- moments that are started one after the other

-- the moments before a number are started at their points, and the rest are left
pub record Starting (points : List Coord) (number : ℕ) (old now : List Moment) : Type 0 where
  pub long : length now ≡ length old
  pub done : (k : ℕ) (at : Coord) (before after : Moment) → k < number → slice_get points k ≡ Some at → slice_get old k ≡ Some before → slice_get now k ≡ Some after → IsFresh at before after
  pub rest : (k : ℕ) → number ≤ k → slice_get now k ≡ slice_get old k

pub starting_none : (points : List Coord) (xs : List Moment) → Starting points 0 xs xs
starting_none points xs = record {
  long = refl;
  done = λ k at before after below is was now. absurd (omega (arith, below));
  rest = λ k above. refl;
}

pub starting_more : (points : List Coord) (number : ℕ) (old now : List Moment) (at : Coord) (mid after : Moment) → Starting points number old now → slice_get points number ≡ Some at → slice_get now number ≡ Some mid
    → IsFresh at mid after → Starting points (number + 1) old (slice_set now number after)
starting_more points number old now at mid after so point is step =
    let within : number < length now = slice_get_within now number mid is in
    record {
      long = length-set now number after ∙ so.long;
      done = λ k that before later below that_is was now_is. elim (cases_eq k number) [
        | inl here ↦ (
            let point_is : at ≡ that = same_Some _ _ (sym point ∙ sym (ap (slice_get points) here) ∙ that_is) in
            let old_is : before ≡ mid = same_Some _ _ (sym was ∙ ap (slice_get old) here ∙ sym (so.rest number (omega arith)) ∙ is) in
            let new_is : after ≡ later = same_Some _ _ (sym (set_same now number after within) ∙ sym (ap (slice_get (slice_set now number after)) here) ∙ now_is) in
            subst (λ (c : Coord). IsFresh c before later) point_is (subst (λ (m : Moment). IsFresh at before m) new_is (subst (λ (m : Moment). IsFresh at m after) (sym old_is) step))
            )
        | inr elsewhere ↦ so.done k that before later (omega (arith, below, elsewhere)) that_is was (sym (set_other now number k after elsewhere) ∙ now_is)
      ];
      rest = λ k above. set_other now number k after (λ (same : k ≡ number). absurd (omega (arith, above, same))) ∙ so.rest k (omega (arith, above));
    }

pub starting_all : (points : List Coord) (number : ℕ) (old now : List Moment) → number ≡ length points → Starting points number old now → AreFresh points old now
starting_all points number old now all so = record {
  long = so.long;
  each = λ k at before after is was now_is. so.done k at before after (omega (arith, all, slice_get_within points k at is)) is was now_is;
  rest = λ k past. so.rest k (omega (arith, all, past));
}

-- ---- the words of coordinates' parts

is_low : (k n : ℕ) → k < n → nat_lt k n ≡ true
is_low k n below = grind (arith, nat_tests, below)

-- the word of each part, and 0 past the last
parts_at : (n a b c number : ℕ) → get_or (take n (a ∷ b ∷ c ∷ [])) number 0 ≡ get_or ((if nat_lt 0 n then a else 0) ∷ (if nat_lt 1 n then b else 0) ∷ (if nat_lt 2 n then c else 0) ∷ []) number 0
parts_at zero a b c zero = refl
parts_at zero a b c (suc zero) = refl
parts_at zero a b c (suc (suc zero)) = refl
parts_at zero a b c (suc (suc (suc number))) = refl
parts_at (suc zero) a b c zero = refl
parts_at (suc zero) a b c (suc zero) = refl
parts_at (suc zero) a b c (suc (suc zero)) = refl
parts_at (suc zero) a b c (suc (suc (suc number))) = refl
parts_at (suc (suc zero)) a b c zero = refl
parts_at (suc (suc zero)) a b c (suc zero) = refl
parts_at (suc (suc zero)) a b c (suc (suc zero)) = refl
parts_at (suc (suc zero)) a b c (suc (suc (suc number))) = refl
parts_at (suc (suc (suc n))) a b c number =
    ap (λ (ws : List ℕ). get_or ws number 0) (take_all (suc (suc (suc n))) (a ∷ b ∷ c ∷ []) (omega arith))
    ∙ ap (λ (t : Bool). get_or ((if t then a else 0) ∷ b ∷ c ∷ []) number 0) (sym (is_low 0 (suc (suc (suc n))) (omega arith)))
    ∙ ap (λ (t : Bool). get_or ((if nat_lt 0 (suc (suc (suc n))) then a else 0) ∷ (if t then b else 0) ∷ c ∷ []) number 0) (sym (is_low 1 (suc (suc (suc n))) (omega arith)))
    ∙ ap (λ (t : Bool). get_or ((if nat_lt 0 (suc (suc (suc n))) then a else 0) ∷ (if nat_lt 1 (suc (suc (suc n))) then b else 0) ∷ (if t then c else 0) ∷ []) number 0) (sym (is_low 2 (suc (suc (suc n))) (omega arith)))

put_past : (old : List ℕ) (k x y z row : ℕ) → 3 ≤ row → item_in (slice_set (slice_set (slice_set old k x) (32 + k) y) (64 + k) z) 0 k row ≡ item_in old 0 k row
put_past old k x y z row high =
    get_or-set_other (slice_set (slice_set old k x) (32 + k) y) (64 + k) (row * 32 + k) z 0 (λ (same : row * 32 + k ≡ 64 + k). absurd (omega (arith, high, same)))
    ∙ get_or-set_other (slice_set old k x) (32 + k) (row * 32 + k) y 0 (λ (same : row * 32 + k ≡ 32 + k). absurd (omega (arith, high, same)))
    ∙ get_or-set_other old k (row * 32 + k) x 0 (λ (same : row * 32 + k ≡ k). absurd (omega (arith, high, same)))

-- three words that were put into a column, and all else of the column is 0
put_three : (old : List ℕ) (k x y z : ℕ) → k < 32 → 96 ≤ length old → ((number : ℕ) → item_in old 0 k number ≡ 0)
    → (number : ℕ) → item_in (slice_set (slice_set (slice_set old k x) (32 + k) y) (64 + k) z) 0 k number ≡ get_or (x ∷ y ∷ z ∷ []) number 0
put_three old k x y z small room none zero =
    let all : List ℕ = slice_set (slice_set (slice_set old k x) (32 + k) y) (64 + k) z in
    let place : 0 * 32 + k ≡ k = omega arith in
    ap (λ (p : ℕ). get_or all p 0) place
    ∙ get_or-set_other (slice_set (slice_set old k x) (32 + k) y) (64 + k) k z 0 (λ (same : k ≡ 64 + k). absurd (omega (arith, same)))
    ∙ get_or-set_other (slice_set old k x) (32 + k) k y 0 (λ (same : k ≡ 32 + k). absurd (omega (arith, same)))
    ∙ get_or-set_same old k x 0 (omega (arith, small, room))
put_three old k x y z small room none (suc zero) =
    let all : List ℕ = slice_set (slice_set (slice_set old k x) (32 + k) y) (64 + k) z in
    let place : 1 * 32 + k ≡ 32 + k = omega arith in
    ap (λ (p : ℕ). get_or all p 0) place
    ∙ get_or-set_other (slice_set (slice_set old k x) (32 + k) y) (64 + k) (32 + k) z 0 (λ (same : 32 + k ≡ 64 + k). absurd (omega (arith, same)))
    ∙ get_or-set_same (slice_set old k x) (32 + k) y 0 (omega (arith, small, room, length-set old k x))
put_three old k x y z small room none (suc (suc zero)) =
    let all : List ℕ = slice_set (slice_set (slice_set old k x) (32 + k) y) (64 + k) z in
    let place : 2 * 32 + k ≡ 64 + k = omega arith in
    ap (λ (p : ℕ). get_or all p 0) place
    ∙ get_or-set_same (slice_set (slice_set old k x) (32 + k) y) (64 + k) z 0 (omega (arith, small, room, length-set old k x, length-set (slice_set old k x) (32 + k) y))
put_three old k x y z small room none (suc (suc (suc number))) =
    put_past old k x y z (suc (suc (suc number))) (omega arith) ∙ none (suc (suc (suc number))) ∙ sym (past [] 0 number (omega arith))

pub part_put : (at : Coord) (old : List ℕ) (k x y z : ℕ) → k < 32 → 96 ≤ length old → ((number : ℕ) → item_in old 0 k number ≡ 0)
    → x ≡ (if nat_lt 0 at.n then word_of at.a else 0) → y ≡ (if nat_lt 1 at.n then word_of at.b else 0) → z ≡ (if nat_lt 2 at.n then word_of at.c else 0)
    → (number : ℕ) → item_in (slice_set (slice_set (slice_set old k x) (32 + k) y) (64 + k) z) 0 k number ≡ get_or (part_words at) number 0
part_put at old k x y z small room none is_x is_y is_z number =
    put_three old k x y z small room none number
    ∙ ap (λ (w : ℕ). get_or (w ∷ y ∷ z ∷ []) number 0) is_x
    ∙ ap (λ (w : ℕ). get_or ((if nat_lt 0 at.n then word_of at.a else 0) ∷ w ∷ z ∷ []) number 0) is_y
    ∙ ap (λ (w : ℕ). get_or ((if nat_lt 0 at.n then word_of at.a else 0) ∷ (if nat_lt 1 at.n then word_of at.b else 0) ∷ w ∷ []) number 0) is_z
    ∙ sym (parts_at at.n (word_of at.a) (word_of at.b) (word_of at.c) number)

pub part_others : (old : List ℕ) (k x y z : ℕ) → k < 32 → (other number : ℕ) → other < 32 → (other ≡ k → ⊥)
    → item_in (slice_set (slice_set (slice_set old k x) (32 + k) y) (64 + k) z) 0 other number ≡ item_in old 0 other number
part_others old k x y z small other number few apart =
    get_or-set_other (slice_set (slice_set old k x) (32 + k) y) (64 + k) (number * 32 + other) z 0 (λ (same : number * 32 + other ≡ 64 + k). apart (omega (arith, same, small, few)))
    ∙ get_or-set_other (slice_set old k x) (32 + k) (number * 32 + other) y 0 (λ (same : number * 32 + other ≡ 32 + k). apart (omega (arith, same, small, few)))
    ∙ get_or-set_other old k (number * 32 + other) x 0 (λ (same : number * 32 + other ≡ k). apart (omega (arith, same, small, few)))

-- the columns before a number have the words of their points, and the rest are 0
pub record Parting (points : List Coord) (at : ℕ) (now : List ℕ) : Type 0 where
  pub done : (k : ℕ) (point : Coord) → k < at → slice_get points k ≡ Some point → (number : ℕ) → item_in now 0 k number ≡ get_or (part_words point) number 0
  pub rest : (k number : ℕ) → k < 32 → at ≤ k → item_in now 0 k number ≡ 0

pub parting_more : (points : List Coord) (at : ℕ) (now new : List ℕ) (point : Coord) → length points ≤ 32 → slice_get points at ≡ Some point → Parting points at now
    → ((number : ℕ) → item_in new 0 at number ≡ get_or (part_words point) number 0)
    → ((other number : ℕ) → other < 32 → (other ≡ at → ⊥) → item_in new 0 other number ≡ item_in now 0 other number) → Parting points (at + 1) new
parting_more points at now new point few is so put others = record {
  done = λ k that below that_is number. elim (cases_eq k at) [
    | inl here ↦ (
        let same : point ≡ that = same_Some _ _ (sym is ∙ sym (ap (slice_get points) here) ∙ that_is) in
        ap (λ (c : ℕ). item_in new 0 c number) here ∙ put number ∙ ap (λ (c : Coord). get_or (part_words c) number 0) same
        )
    | inr elsewhere ↦ others k number (omega (arith, few, slice_get_within points k that that_is)) elsewhere ∙ so.done k that (omega (arith, below, elsewhere)) that_is number
  ];
  rest = λ k number small past. others k number small (λ (same : k ≡ at). absurd (omega (arith, past, same))) ∙ so.rest k number small (omega (arith, past));
}

-- ---- batches

-- one more moment over the same stores
pub over_more : (stores : List StoreWords) (moments : List Moment) (more : Moment) → ((k : ℕ) (moment : Moment) → slice_get moments k ≡ Some moment → moment.cells.stores ≡ stores) → more.cells.stores ≡ stores
    → (k : ℕ) (moment : Moment) → slice_get (moments ++ more ∷ []) k ≡ Some moment → moment.cells.stores ≡ stores
over_more stores [] more over is zero moment at = subst (λ (m : Moment). m.cells.stores ≡ stores) (same_Some more moment at) is
over_more stores [] more over is (suc k) moment at = absurd (let h : None ≡ Some moment = at in cc)
over_more stores (first ∷ moments) more over is zero moment at = over zero moment at
over_more stores (first ∷ moments) more over is (suc k) moment at = over_more stores moments more (λ j. over (suc j)) is k moment at

-- a batch of started moments, with the words of the points' parts and no others
pub started_all : (points : List Coord) (old new : Batch) → new.places.stores ≡ old.places.stores → AreFresh points old.moments.items new.moments.items
    → ((place : ℕ) → get_or new.regs.items place 0 ≡ 0) → ((place : ℕ) → get_or new.places.list place None ≡ None)
    → (new.lacks ≡ false → (k : ℕ) (at : Coord) → slice_get points k ≡ Some at → (number : ℕ) → item_in new.vars.items 0 k number ≡ get_or (part_words at) number 0)
    → AreStarted points old new
started_all points old new stores fresh regs places vars = record {
  over = λ list over. record {
    places = stores ∙ over.places;
    whole = fresh.long ∙ over.whole;
    moments = λ k moment is.
        let before = there new.moments.items old.moments.items k moment is (sym fresh.long) in
        elim (below_or_past k (length points)) [
          | inl low ↦ (fresh.each k (point_there points k low).0 before.0 moment (point_there points k low).1 before.1 is).stores ∙ over.moments k before.0 before.1
          | inr past ↦ over.moments k moment (sym (fresh.rest k past) ∙ is)
        ];
  };
  start = λ list state over k at moment point is lacks named.
      let before = there new.moments.items old.moments.items k moment is (sym fresh.long) in
      let it : IsFresh at before.0 moment = fresh.each k at before.0 moment point before.1 is in
      record {
        stores_are = stores ∙ over.places;
        regs_are = λ number. regs (number * 32 + k);
        vars_are = vars lacks k at point;
        places_are = λ p. subst (λ held. HoldsPlace list held None) (sym (places (p * 32 + k))) tt;
        cells_over = it.stores ∙ over.moments k before.0 before.1;
        at_is = it.at_is;
        writes_are = it.writes;
        own_at = All-nil (IsAtLoop at);
        wants_are = it.wants;
      };
}
  where
    point_there : (those : List Coord) (k : ℕ) → k < length those → (at : Coord) × (slice_get those k ≡ Some at)
    point_there [] k below = absurd (omega (arith, below))
    point_there (p ∷ ps) zero below = (p, refl)
    point_there (p ∷ ps) (suc k) below = point_there ps k (omega (arith, below))

pub ran_all : (stores : List StoreWords) (block : List Inst) (points : List Coord) (on : ℕ → Type 0) (old mid new : Batch) → length points ≤ 32 → ((k : ℕ) → k < length points → on k) → IsOver stores old → AreStarted points old mid → AllMove (λ seen. runs seen block) on mid new
    → new.lacks ≡ false → (state : FlatState) → Sees stores state → (k : ℕ) (at : Coord) → slice_get points k ≡ Some at → Iterated stores state at block new k
ran_all stores block points on old mid new few all over started moves lacks state sees k at point moment is =
    let before = there new.moments.items mid.moments.items k moment is (sym moves.long) in
    let low : k < length points = slice_get_within points k at point in
    (moves.among k before.0 moment (record { before_is = before.1; after_is = is }) (omega (arith, low, few)) (all k low)).follows stores state at sees (iteration_start (seen_in stores state at))
    (started.start stores state over k at before.0 point before.1) lacks
