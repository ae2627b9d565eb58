-- What seats have taken, write after write, and what is pending.
use Rattle.std.proofs.Common.{◌≡◌, ℕ, zero, suc, ◌+◌, ◌<◌, ◌≤◌, ◌==◌, Bool, true, false, cond, inl, inr, List, [], ◌∷◌, ◌++◌, length, take, get_or, Option, Some, None, refl, sym, ap, ◌∙◌, subst, arith, append_assoc, map}
use Rattle.std.specs.Prelude.{slice_get, slice_set}
use Rattle.std.proofs.lemmas.Bool.{cases_eq}
use Rattle.std.proofs.lemmas.List.{append-nil, take_more, length-take, length-append}
use Rattle.std.proofs.lemmas.Option.{same_Some, slice_get_within}
use Rattle.sg_words.specs.declared.operators.Ty.{Ty}
use Rattle.sg_words.specs.declared.operators.AccOp.{AccOp}
use Rattle.sg_words.specs.Words.{folded}
use Rattle.sg_words.proofs.Uses.{folded_grouped}
use Rattle.sg_flat.specs.declared.effects.Way.TheVariants.{Own, Acc}
use Rattle.sg_accum.specs.declared.seat.AccSeat.{AccSeat}
use Rattle.sg_accum.specs.Folding.{operator_of, type_of, given_to, given_of, HasGivenWord}
use Rattle.sg_exec.specs.declared.lanes.cell_write.CellWrite.{CellWrite}
use Rattle.sg_exec.specs.declared.results.shared.Accumulated.{Accumulated}
use Rattle.sg_exec.specs.declared.results.shared.Pending.{Pending}
use Rattle.sg_exec.specs.steps.Racing.{given_by, contributions, joining, ComeTo, HaveGiven}
use Rattle.sg_exec.specs.steps.Pending.{due, IsPending, ArePending, NonePending, HasTaken, HaveTaken, HasGivenLast, HaveGivenLast}
use Rattle.sg_exec.proofs.Coming.{come_same, come_on, come_both, come_more, come_joined}
use Rattle.sg_exec.proofs.Giving.{at_below, set_same, set_other, set_long, given_to-append, contributions-append, given_own, given_nowhere, given_elsewhere, given_here}

abbrev Given : Type 0
Given = List (ℕ × ℕ)

-- ---- one seat

taken_nothing : (it : Accumulated) (xs : Given) (one : Option Pending) (seat : AccSeat) → xs ≡ [] → HasTaken it xs one seat one seat
taken_nothing it xs one seat none = record {
  given = λ c. come_same (joining it) (due one seat c) (due one seat c ++ given_to c xs)
      (sym (ap (λ (g : Given). due one seat c ++ given_to c g) none ∙ append-nil (due one seat c)));
  weight_is = refl;
}

taken_as : (it : Accumulated) (xs : Given) (before : Option Pending) (old : AccSeat) (after : Option Pending) (now : AccSeat) → xs ≡ [] → before ≡ after → old ≡ now → HasTaken it xs before old after now
taken_as it xs before old after now none same stays =
    subst (λ (one : Option Pending). HasTaken it xs before old one now) same
    (subst (λ (seat : AccSeat). HasTaken it xs before old before seat) stays (taken_nothing it xs before old none))

taken_more : (it : Accumulated) (xs ys : Given) (a : Option Pending) (old : AccSeat) (b : Option Pending) (mid : AccSeat) (d : Option Pending) (now : AccSeat)
    → HasTaken it xs a old b mid → HasTaken it ys b mid d now → HasTaken it (xs ++ ys) a old d now
taken_more it xs ys a old b mid d now first second = record {
  given = λ c.
      let gx = given_to c xs in
      let gy = given_to c ys in
      let all = due a old c ++ given_to c (xs ++ ys) in
      come_on (joining it) (due d now c) (due b mid c ++ gy) all (second.given c)
      (come_on (joining it) (due b mid c ++ gy) ((due a old c ++ gx) ++ gy) all
      (come_more (joining it) (due b mid c) (due a old c ++ gx) gy (first.given c))
      (come_same (joining it) ((due a old c ++ gx) ++ gy) all
      (append_assoc (due a old c) gx gy ∙ ap (λ (g : List ℕ). due a old c ++ g) (sym (given_to-append c xs ys)))));
  weight_is = second.weight_is ∙ first.weight_is;
}

-- none was pending, and the contribution is
pub taken_first : (it : Accumulated) (cell word : ℕ) (seat : AccSeat) → HasTaken it ((cell, word) ∷ []) None seat (Some (record { cell = cell; word = word })) seat
taken_first it cell word seat = record {
  given = λ c.
      let g = given_to c ((cell, word) ∷ []) in
      come_same (joining it) (given_of seat c ++ g) ((given_of seat c ++ []) ++ g) (ap (λ (l : List ℕ). l ++ g) (sym (append-nil (given_of seat c))));
  weight_is = refl;
}

-- the one that was pending was given, and the contribution is pending
pub taken_given : (it : Accumulated) (cell word : ℕ) (one : Pending) (old now : AccSeat) → HasGivenWord one.cell one.word old now
    → HasTaken it ((cell, word) ∷ []) (Some one) old (Some (record { cell = cell; word = word })) now
taken_given it cell word one old now added = record {
  given = λ c.
      let g = given_to c ((cell, word) ∷ []) in
      come_same (joining it) (given_of now c ++ g) (due (Some one) old c ++ g) (ap (λ (l : List ℕ). l ++ g) (added.given_is c));
  weight_is = added.handed_stays;
}

-- the contribution was joined to the one that was pending, which goes to the same cell
pub taken_joined : (it : Accumulated) (cell word : ℕ) (one : Pending) (both : ℕ) (seat : AccSeat) → one.cell ≡ cell → operator_of it.pass ≡ it.op → type_of it.pass ≡ it.ty → both ≡ folded it.op it.ty one.word word
    → HasTaken it ((cell, word) ∷ []) (Some one) seat (Some (record { cell = cell; word = both })) seat
taken_joined it cell word one both seat same operator order is = record {
  given = λ c.
      let two = given_to c ((one.cell, one.word) ∷ []) ++ given_to c ((cell, word) ∷ []) in
      let after = given_of seat c ++ given_to c ((cell, both) ∷ []) in
      let before = due (Some one) seat c ++ given_to c ((cell, word) ∷ []) in
      come_on (joining it) after (given_of seat c ++ two) before
      (come_both (joining it) (given_of seat c) (given_to c ((cell, both) ∷ [])) (given_of seat c) two (come_same (joining it) (given_of seat c) (given_of seat c) refl) (joined c))
      (come_same (joining it) (given_of seat c ++ two) before (sym (append_assoc (given_of seat c) (given_to c ((one.cell, one.word) ∷ [])) (given_to c ((cell, word) ∷ [])))));
  weight_is = refl;
}
  where
    word_is : both ≡ joining it one.word word
    word_is = is ∙ ap (λ (o : AccOp). folded o it.ty one.word word) (sym operator) ∙ ap (λ (t : Ty). folded (operator_of it.pass) t one.word word) (sym order)

    by_test : (b : Bool) → ComeTo (joining it) (map (λ (y : ℕ × ℕ). y.1) (cond b ((cell, both) ∷ []) []))
        (map (λ (y : ℕ × ℕ). y.1) (cond b ((one.cell, one.word) ∷ []) []) ++ map (λ (y : ℕ × ℕ). y.1) (cond b ((cell, word) ∷ []) []))
    by_test true = subst (λ (n : ℕ). ComeTo (joining it) (n ∷ []) (one.word ∷ word ∷ [])) (sym word_is)
        (come_joined (joining it) one.word word (λ old. folded_grouped (operator_of it.pass) (type_of it.pass) old one.word word))
    by_test false = come_same (joining it) [] [] refl

    joined : (c : ℕ) → ComeTo (joining it) (given_to c ((cell, both) ∷ [])) (given_to c ((one.cell, one.word) ∷ []) ++ given_to c ((cell, word) ∷ []))
    joined c =
        subst (λ (n : ℕ). ComeTo (joining it) (given_to c ((cell, both) ∷ [])) (map (λ (y : ℕ × ℕ). y.1) (cond (n == c) ((one.cell, one.word) ∷ []) []) ++ given_to c ((cell, word) ∷ []))) (sym same)
        (by_test (cell == c))

-- what is pending is given at the end
pub last_none : (seat : AccSeat) → HasGivenLast None seat seat
last_none seat = record { given = λ c. sym (append-nil (given_of seat c)); weight_is = refl }

pub last_given : (one : Pending) (old now : AccSeat) → HasGivenWord one.cell one.word old now → HasGivenLast (Some one) old now
last_given one old now added = record { given = added.given_is; weight_is = added.handed_stays }

-- ---- all seats

pub took_nothing : (accumulated : List Accumulated) (befores : List (Option Pending)) (olds : List AccSeat) → HaveTaken accumulated [] befores olds befores olds
took_nothing accumulated befores olds = λ k it before old after now is was_before was after_is now_is.
    taken_as it [] before old after now refl (same_Some _ _ (sym was_before ∙ after_is)) (same_Some _ _ (sym was ∙ now_is))

pub took_more : (accumulated : List Accumulated) (xs ys : List CellWrite) (befores : List (Option Pending)) (olds : List AccSeat) (amids : List (Option Pending)) (mids : List AccSeat) (afters : List (Option Pending)) (nows : List AccSeat)
    → length amids ≡ length accumulated → length mids ≡ length accumulated → HaveTaken accumulated xs befores olds amids mids → HaveTaken accumulated ys amids mids afters nows → HaveTaken accumulated (xs ++ ys) befores olds afters nows
took_more accumulated xs ys befores olds amids mids afters nows along long first second = λ k it before old after now is was_before was after_is now_is.
    let below : k < length accumulated = slice_get_within accumulated k it is in
    let one = at_below amids k (omega (arith, below, along)) in
    let mid = at_below mids k (omega (arith, below, long)) in
    subst (λ (g : Given). HasTaken it g before old after now) (sym (contributions-append it.layout it.field xs ys))
    (taken_more it (contributions it.layout it.field xs) (contributions it.layout it.field ys) before old one.0 mid.0 after now
    (first k it before old one.0 mid.0 is was_before was one.1 mid.1) (second k it one.0 mid.0 after now is one.1 mid.1 after_is now_is))

pub took_next : (accumulated : List Accumulated) (writes : List CellWrite) (k : ℕ) (d : CellWrite) (befores : List (Option Pending)) (olds : List AccSeat) (amids : List (Option Pending)) (mids : List AccSeat) (afters : List (Option Pending))
    (nows : List AccSeat) → k < length writes → length amids ≡ length accumulated → length mids ≡ length accumulated → HaveTaken accumulated (take k writes) befores olds amids mids → HaveTaken accumulated (get_or writes k d ∷ []) amids mids afters nows
    → HaveTaken accumulated (take (k + 1) writes) befores olds afters nows
took_next accumulated writes k d befores olds amids mids afters nows below along long first second =
    subst (λ (ws : List CellWrite). HaveTaken accumulated ws befores olds afters nows) (sym (take_more writes k d below))
    (took_more accumulated (take k writes) (get_or writes k d ∷ []) befores olds amids mids afters nows along long first second)

-- a write that gives nothing to any of the fields
took_none : (accumulated : List Accumulated) (write : CellWrite) (befores : List (Option Pending)) (olds : List AccSeat)
    → ((k : ℕ) (it : Accumulated) → slice_get accumulated k ≡ Some it → given_by it.layout it.field write ≡ []) → HaveTaken accumulated (write ∷ []) befores olds befores olds
took_none accumulated write befores olds none = λ k it before old after now is was_before was after_is now_is.
    taken_as it (given_by it.layout it.field write ++ []) before old after now (ap (λ (g : Given). g ++ []) (none k it is)) (same_Some _ _ (sym was_before ∙ after_is)) (same_Some _ _ (sym was ∙ now_is))

pub took_own : (accumulated : List Accumulated) (write : CellWrite) (befores : List (Option Pending)) (olds : List AccSeat) → write.way ≡ Own → HaveTaken accumulated (write ∷ []) befores olds befores olds
took_own accumulated write befores olds own = took_none accumulated write befores olds (λ k it is. given_own it.layout it.field write own)

pub took_nowhere : (accumulated : List Accumulated) (write : CellWrite) (befores : List (Option Pending)) (olds : List AccSeat) → write.cell ≡ None → HaveTaken accumulated (write ∷ []) befores olds befores olds
took_nowhere accumulated write befores olds none = took_none accumulated write befores olds (λ k it is. given_nowhere it.layout it.field write none)

pub took_unknown : (accumulated : List Accumulated) (write : CellWrite) (befores : List (Option Pending)) (olds : List AccSeat)
    → ((k : ℕ) (it : Accumulated) → slice_get accumulated k ≡ Some it → it.layout ≡ write.layout → it.field ≡ write.place → ⊥) → HaveTaken accumulated (write ∷ []) befores olds befores olds
took_unknown accumulated write befores olds none =
    took_none accumulated write befores olds (λ k it is. given_elsewhere it.layout it.field write (λ same there. none k it is (sym same) (sym there)))

-- what was set at a number is what stands there
set_is : {X : Type 0} (xs : List X) (number k : ℕ) (x y : X) → k ≡ number → number < length xs → slice_get (slice_set xs number x) k ≡ Some y → x ≡ y
set_is xs number k x y here below at = same_Some _ _ (sym (set_same xs number x below) ∙ sym (ap (slice_get (slice_set xs number x)) here) ∙ at)

was_is : {X : Type 0} (xs : List X) (number k : ℕ) (x y : X) → k ≡ number → slice_get xs number ≡ Some x → slice_get xs k ≡ Some y → x ≡ y
was_is xs number k x y here is at = same_Some _ _ (sym is ∙ sym (ap (slice_get xs) here) ∙ at)

stays_is : {X : Type 0} (xs : List X) (number k : ℕ) (x y z : X) → (k ≡ number → ⊥) → slice_get xs k ≡ Some y → slice_get (slice_set xs number x) k ≡ Some z → y ≡ z
stays_is xs number k x y z elsewhere was at = same_Some _ _ (sym was ∙ sym (set_other xs number k x elsewhere) ∙ at)

-- a contribution that a seat took
pub took_one : (accumulated : List Accumulated) (write : CellWrite) (befores : List (Option Pending)) (olds : List AccSeat) (number cell : ℕ) (op : AccOp) (it : Accumulated) (before : Option Pending) (old : AccSeat) (after : Option Pending) (now : AccSeat)
    → ((j k : ℕ) (one other : Accumulated) → slice_get accumulated j ≡ Some one → slice_get accumulated k ≡ Some other → one.layout ≡ other.layout → one.field ≡ other.field → j ≡ k)
    → slice_get accumulated number ≡ Some it → slice_get befores number ≡ Some before → slice_get olds number ≡ Some old → write.way ≡ Acc op → it.layout ≡ write.layout → it.field ≡ write.place → write.cell ≡ Some cell
    → HasTaken it ((cell, write.value) ∷ []) before old after now → HaveTaken accumulated (write ∷ []) befores olds (slice_set befores number after) (slice_set olds number now)
took_one accumulated write befores olds number cell op it before old after now apart is was_before was way same there at taken = λ k other before' old' after' now' is_other was_before' was' after_is now_is.
    elim (cases_eq k number) [
      | inl here ↦ (
          let g = contributions it.layout it.field (write ∷ []) in
          subst (λ (o : Accumulated). HasTaken o (contributions o.layout o.field (write ∷ [])) before' old' after' now') (was_is accumulated number k it other here is is_other)
          (subst (λ (b : Option Pending). HasTaken it g b old' after' now') (was_is befores number k before before' here was_before was_before')
          (subst (λ (s : AccSeat). HasTaken it g before s after' now') (was_is olds number k old old' here was was')
          (subst (λ (a : Option Pending). HasTaken it g before old a now') (set_is befores number k after after' here (slice_get_within befores number before was_before) after_is)
          (subst (λ (s : AccSeat). HasTaken it g before old after s) (set_is olds number k now now' here (slice_get_within olds number old was) now_is)
          (subst (λ (gs : Given). HasTaken it gs before old after now)
          (sym (ap (λ (gs : Given). gs ++ []) (given_here it.layout it.field cell op write way (sym same) (sym there) at))) taken)))))
          )
      | inr elsewhere ↦ taken_as other (given_by other.layout other.field write ++ []) before' old' after' now'
          (ap (λ (gs : Given). gs ++ []) (given_elsewhere other.layout other.field write
          (λ layouts fields. elsewhere (apart k number other it is_other is (sym layouts ∙ sym same) (sym fields ∙ sym there)))))
          (stays_is befores number k after before' after' elsewhere was_before' after_is) (stays_is olds number k now old' now' elsewhere was' now_is)
    ]

-- ---- what is pending for all fields

pub pending_set : (accumulated : List Accumulated) (pending : List (Option Pending)) (number : ℕ) (it : Accumulated) (after : Option Pending) → ArePending accumulated pending → slice_get accumulated number ≡ Some it → IsPending it after
    → ArePending accumulated (slice_set pending number after)
pending_set accumulated pending number it after are is own = record {
  long = set_long pending number after ∙ are.long;
  each = λ k other one is_other at. elim (cases_eq k number) [
    | inl here ↦ (
        let below : number < length accumulated = slice_get_within accumulated number it is in
        let long = are.long in
        subst (λ (o : Accumulated). IsPending o one) (was_is accumulated number k it other here is is_other)
        (subst (λ (w : Option Pending). IsPending it w) (set_is pending number k after one here (omega (arith, below, long)) at) own)
        )
    | inr elsewhere ↦ are.each k other one is_other (sym (set_other pending number k after elsewhere) ∙ at)
  ];
}

pub none_are_pending : (accumulated : List Accumulated) (pending : List (Option Pending)) → NonePending accumulated pending → ArePending accumulated pending
none_are_pending accumulated pending none = record { long = none.long; each = λ k it one is at. subst (λ (w : Option Pending). IsPending it w) (sym (none.none k one at)) tt }

-- none for any of no fields, and of one field more
pub none_first : (accumulated : List Accumulated) → NonePending (take 0 accumulated) []
none_first accumulated = record { long = refl; none = λ k one at. absurd (cc) }

all_none : (xs : List (Option Pending)) → ((k : ℕ) (one : Option Pending) → slice_get xs k ≡ Some one → one ≡ None) → (k : ℕ) (one : Option Pending) → slice_get (xs ++ None ∷ []) k ≡ Some one → one ≡ None
all_none [] each zero one at = sym (same_Some _ _ at)
all_none [] each (suc k) one at = absurd (cc)
all_none (x ∷ xs) each zero one at = each zero one at
all_none (x ∷ xs) each (suc k) one at = all_none xs (λ j other here. each (suc j) other here) k one at

pub none_more : (accumulated : List Accumulated) (k : ℕ) (pending : List (Option Pending)) → k < length accumulated → NonePending (take k accumulated) pending → NonePending (take (k + 1) accumulated) (pending ++ None ∷ [])
none_more accumulated k pending below none = record {
  long =
      let old : length pending ≡ length (take k accumulated) = none.long in
      let before : length (take k accumulated) ≡ _ = length-take k accumulated in
      let after : length (take (k + 1) accumulated) ≡ _ = length-take (k + 1) accumulated in
      let more : length (pending ++ None ∷ []) ≡ length pending + 1 = length-append pending (None ∷ []) in
      omega (arith, below);
  none = all_none pending none.none;
}

-- ---- the end of a batch

-- what was pending for the fields before a number is given, and for the others is as it was
pub record GivenBelow (number : ℕ) (accumulated : List Accumulated) (befores : List (Option Pending)) (olds : List AccSeat) (afters : List (Option Pending)) (nows : List AccSeat) : Type 0 where
  pub long : length afters ≡ length accumulated
  pub done : (k : ℕ) (it : Accumulated) (before : Option Pending) (old : AccSeat) (after : Option Pending) (now : AccSeat) → slice_get accumulated k ≡ Some it → slice_get befores k ≡ Some before → slice_get olds k ≡ Some old →
      slice_get afters k ≡ Some after → slice_get nows k ≡ Some now → k < number → HasGivenLast before old now × (after ≡ None)
  pub left : (k : ℕ) (it : Accumulated) (before : Option Pending) (old : AccSeat) (after : Option Pending) (now : AccSeat) → slice_get accumulated k ≡ Some it → slice_get befores k ≡ Some before → slice_get olds k ≡ Some old →
      slice_get afters k ≡ Some after → slice_get nows k ≡ Some now → number ≤ k → (before ≡ after) × (old ≡ now)

pub given_start : (accumulated : List Accumulated) (befores : List (Option Pending)) (olds : List AccSeat) → length befores ≡ length accumulated → GivenBelow 0 accumulated befores olds befores olds
given_start accumulated befores olds long = record {
  long = long;
  done = λ k it before old after now is was_before was after_is now_is below. absurd (omega (arith, below));
  left = λ k it before old after now is was_before was after_is now_is past. (same_Some _ _ (sym was_before ∙ after_is), same_Some _ _ (sym was ∙ now_is));
}

below_or_at : (k n : ℕ) → (k ≡ n → ⊥) → k < n + 1 → k < n
below_or_at zero zero apart below = absurd (apart refl)
below_or_at zero (suc n) apart below = omega arith
below_or_at (suc k) zero apart below = absurd (omega (arith, below))
below_or_at (suc k) (suc n) apart below = let less = below_or_at k n (λ same. apart (ap suc same)) (omega (arith, below)) in omega (arith, less)

pub given_next : (accumulated : List Accumulated) (befores : List (Option Pending)) (olds : List AccSeat) (amids : List (Option Pending)) (mids : List AccSeat) (number : ℕ) (it : Accumulated) (one : Option Pending) (mid now : AccSeat)
    → slice_get accumulated number ≡ Some it → slice_get amids number ≡ Some one → slice_get mids number ≡ Some mid → HasGivenLast one mid now → GivenBelow number accumulated befores olds amids mids
    → GivenBelow (number + 1) accumulated befores olds (slice_set amids number None) (slice_set mids number now)
given_next accumulated befores olds amids mids number it one mid now is one_is mid_is gave to = record {
  long = set_long amids number None ∙ to.long;
  done = λ k other before old after new is_other was_before was after_is now_is below. elim (cases_eq k number) [
    | inl here ↦ (
        let stood = to.left k other before old one mid is_other was_before was (ap (slice_get amids) here ∙ one_is) (ap (slice_get mids) here ∙ mid_is) (omega (arith, here)) in (
          subst (λ (b : Option Pending). HasGivenLast b old new) (sym stood.0)
              (subst (λ (s : AccSeat). HasGivenLast one s new) (sym stood.1)
              (subst (λ (s : AccSeat). HasGivenLast one mid s) (set_is mids number k now new here (slice_get_within mids number mid mid_is) now_is) gave)),
          sym (set_is amids number k None after here (slice_get_within amids number one one_is) after_is),
        )
        )
    | inr elsewhere ↦ to.done k other before old after new is_other was_before was (sym (set_other amids number k None elsewhere) ∙ after_is) (sym (set_other mids number k now elsewhere) ∙ now_is) (below_or_at k number elsewhere below)
  ];
  left = λ k other before old after new is_other was_before was after_is now_is past.
      let elsewhere : (k ≡ number → ⊥) = λ here. absurd (omega (arith, here, past)) in
      to.left k other before old after new is_other was_before was (sym (set_other amids number k None elsewhere) ∙ after_is) (sym (set_other mids number k now elsewhere) ∙ now_is) (omega (arith, past));
}

-- one that is left is pending as it was
pub left_pending : (accumulated : List Accumulated) (befores : List (Option Pending)) (olds : List AccSeat) (amids : List (Option Pending)) (mids : List AccSeat) (number : ℕ) (it : Accumulated) (one : Option Pending) (mid : AccSeat)
    → length olds ≡ length accumulated → ArePending accumulated befores → slice_get accumulated number ≡ Some it → slice_get amids number ≡ Some one → slice_get mids number ≡ Some mid → GivenBelow number accumulated befores olds amids mids → IsPending it one
left_pending accumulated befores olds amids mids number it one mid long are is one_is mid_is to =
    let below : number < length accumulated = slice_get_within accumulated number it is in
    let along = are.long in
    let before = at_below befores number (omega (arith, below, along)) in
    let old = at_below olds number (omega (arith, below, long)) in
    subst (λ (w : Option Pending). IsPending it w) (to.left number it before.0 old.0 one mid is before.1 old.1 one_is mid_is (omega arith)).0 (are.each number it before.0 is before.1)

module _ (accumulated : List Accumulated) (befores : List (Option Pending)) (olds : List AccSeat) (afters : List (Option Pending)) (nows : List AccSeat) (number : ℕ) (along : length befores ≡ length accumulated) (long : length olds ≡ length accumulated)
    (new_long : length nows ≡ length accumulated) (all : length accumulated ≤ number) (to : GivenBelow number accumulated befores olds afters nows) where
  pub gave_last : HaveGivenLast accumulated befores olds nows
  gave_last = λ k it before old now is was_before was now_is.
      let below : k < length accumulated = slice_get_within accumulated k it is in
      let after_long = to.long in
      let after = at_below afters k (omega (arith, below, after_long)) in
      (to.done k it before old after.0 now is was_before was after.1 now_is (omega (arith, below, all))).0

  pub none_left : NonePending accumulated afters
  none_left = record {
    long = to.long;
    none = λ k one at.
        let within : k < length afters = slice_get_within afters k one at in
        let after_long = to.long in
        let it = at_below accumulated k (omega (arith, within, after_long)) in
        let before = at_below befores k (omega (arith, within, after_long, along)) in
        let old = at_below olds k (omega (arith, within, after_long, long)) in
        let now = at_below nows k (omega (arith, within, after_long, new_long)) in
        (to.done k it.0 before.0 old.0 one now.0 it.1 before.1 old.1 at now.1 (omega (arith, within, after_long, all))).1;
  }

-- where nothing was pending before, all that was taken is given
pub taken_is_given : (accumulated : List Accumulated) (writes : List CellWrite) (befores : List (Option Pending)) (olds : List AccSeat) (afters : List (Option Pending)) (mids nows : List AccSeat) → NonePending accumulated befores
    → length afters ≡ length accumulated → length mids ≡ length accumulated → HaveTaken accumulated writes befores olds afters mids → HaveGivenLast accumulated afters mids nows → HaveGiven accumulated writes olds nows
taken_is_given accumulated writes befores olds afters mids nows none along long took last = λ k it old now is was at.
    let below : k < length accumulated = slice_get_within accumulated k it is in
    let before_long = none.long in
    let before = at_below befores k (omega (arith, below, before_long)) in
    let after = at_below afters k (omega (arith, below, along)) in
    let mid = at_below mids k (omega (arith, below, long)) in
    let cs = contributions it.layout it.field writes in
    let taken = subst (λ (b : Option Pending). HasTaken it cs b old after.0 mid.0) (none.none k before.0 before.1) (took k it before.0 old after.0 mid.0 is before.1 was after.1 mid.1) in
    let gave = last k it after.0 mid.0 now is after.1 mid.1 at in
    record {
      given = λ c.
          let g = given_to c cs in
          come_on (joining it) (given_of now c) (due after.0 mid.0 c) (given_of old c ++ g) (come_same (joining it) (given_of now c) (due after.0 mid.0 c) (gave.given c))
          (come_on (joining it) (due after.0 mid.0 c) ((given_of old c ++ []) ++ g) (given_of old c ++ g) (taken.given c)
          (come_same (joining it) ((given_of old c ++ []) ++ g) (given_of old c ++ g) (ap (λ (l : List ℕ). l ++ g) (append-nil (given_of old c)))));
      weight_is = gave.weight_is ∙ taken.weight_is;
    }
