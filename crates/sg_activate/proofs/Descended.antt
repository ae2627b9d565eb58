-- What a seat of a descent has reached and made, while it learns more and after a join.
use Rattle.std.proofs.Common.{◌≡◌, ℕ, suc, ◌+◌, ◌<◌, ◌⊎◌, inl, inr, List, ◌++◌, length, sym, subst, arith}
use Rattle.std.specs.Prelude.{◌==◌, Option, Some, None, MatchOption}
use Rattle.std.specs.List.{Contains}
use Rattle.std.proofs.lemmas.Bool.{cases_lt}
use Rattle.sg_words.specs.declared.race.Worker.{Worker}
use Rattle.sg_words.specs.Counts.{one, pairs, firsts, times_in}
use Rattle.sg_words.proofs.Uses.{total-append}
use Rattle.sg_words.specs.RaceMachine.{newcomer, after_split, after_join}
use Rattle.sg_coord.specs.declared.coord.Coord.{Coord}
use Rattle.sg_layout.specs.declared.shape.Kind.{Kind}
use Rattle.sg_layout.specs.declared.shape.Kind.TheVariants.{Dense, Bitmasked, Pointer, Hash, Dynamic}
use Rattle.sg_layout.specs.Live.{kind_at}
use Rattle.sg_activate.specs.declared.descent.rule.Start.{Start}
use Rattle.sg_activate.specs.declared.descent.walk.Reach.{Reach}
use Rattle.sg_activate.specs.declared.descent.walk.Reach.TheVariants as reach
use Rattle.sg_activate.specs.Descending.{HasOpened, HasOpenedAbove, IsAnswered, IsSlotFor, IsBitFor, KnowsKey, KnowsMore, GrewFor, FitsSeat}
use Rattle.sg_activate.specs.steps.Descended.{HasReached, HasMadeFor}
use Rattle.sg_activate.proofs.DescentBridge.{knows_slot_more}
use Rattle.sg_activate.proofs.LinkSteps.{pairs-append, firsts-append}

-- a view of a seat that knows all that another does
record Knows (v w : Worker) : Type 0 where
  seen : (i n : ℕ) → 0 < pairs i n v.seen → 0 < pairs i n w.seen
  marked : (b : ℕ) → 0 < times_in b v.marked → 0 < times_in b w.marked
  missed : (i : ℕ) → 0 < times_in i v.missed → 0 < times_in i w.missed
  past : (l : ℕ) → 0 < firsts l v.past → 0 < firsts l w.past

of_more : (v w : Worker) → KnowsMore v w → Knows v w
of_more v w more = record { seen = more.seen; marked = more.marked; missed = more.missed; past = more.past }

module _ (start : Start) (v w : Worker) (more : Knows v w) where
  opened_more : (kind : Kind) (number : ℕ) (at : Coord) → HasOpened start v kind number at → HasOpened start w kind number at
  opened_more Dense number at is = tt
  opened_more Bitmasked number at is = record { slot = is.slot; knows = knows_slot_more start v w more.seen number at is.slot is.knows; marked = more.marked _ is.marked }
  opened_more Pointer number at is = record { slot = is.slot; knows = knows_slot_more start v w more.seen number at is.slot is.knows; next = is.next; seen = more.seen _ _ is.seen }
  opened_more Hash number at is = tt
  opened_more Dynamic number at is = tt

  above_more : (number : ℕ) (at : Coord) → HasOpenedAbove start v number at → HasOpenedAbove start w number at
  above_more number at is above first below = opened_more (kind_at start.layout.nodes above) above at (is above first below)

  answered_more : (at : Coord) (answer : Reach) → IsAnswered start v at answer → IsAnswered start w at answer
  answered_more at reach.Open is = above_more (suc (length start.layout.nodes)) at is
  answered_more at (reach.Dry node) is = (
    above_more node at is.0,
    record {
      pointer = is.1.pointer;
      slot = is.1.slot;
      knows = knows_slot_more start v w more.seen node at is.1.slot is.1.knows;
      missed = more.missed _ is.1.missed;
      past = more.past _ is.1.past;
    },
  )

  reached_knows : (at : Coord) → HasReached start at v → HasReached start at w
  reached_knows at is key = let r = is key in (r.0, answered_more at r.0 r.1)

  slot_more : (at : Coord) (i : ℕ) → IsSlotFor start v at i → IsSlotFor start w at i
  slot_more at i is = record { number = is.number; first = is.first; pointer = is.pointer; slot = is.slot; knows = knows_slot_more start v w more.seen is.number at is.slot is.knows; is = is.is }

  bit_more : (at : Coord) (b : ℕ) → IsBitFor start v at b → IsBitFor start w at b
  bit_more at b is = record { number = is.number; first = is.first; masked = is.masked; slot = is.slot; knows = knows_slot_more start v w more.seen is.number at is.slot is.knows; is = is.is }

-- ---- after an ask
pub reached_more : (start : Start) (v w : Worker) → KnowsMore v w → (at : Coord) → HasReached start at v → HasReached start at w
reached_more start v w more = reached_knows start v w (of_more v w more)

pub made_more : (start : Start) (v w : Worker) (at : Coord) → KnowsMore v w → GrewFor start at v w → (wanted : List Coord) → Contains wanted at → HasMadeFor start wanted v → HasMadeFor start wanted w
made_more start v w at more grew wanted has made = record {
  made = λ i t some. elim (grew.made i t some) [
    | inl old ↦ let r = made.made i t old in (r.0, r.1, slot_more start v w (of_more v w more) r.0 i r.2)
    | inr new ↦ (at, has, new)
  ];
  marked = λ b some. elim (grew.marked b some) [
    | inl old ↦ let r = made.marked b old in (r.0, r.1, bit_more start v w (of_more v w more) r.0 b r.2)
    | inr new ↦ (at, has, new)
  ];
}

pub reached_here : (start : Start) (v : Worker) (at : Coord) (answer : Option Reach) → MatchOption answer (KnowsKey start at → ⊥) (λ a. IsAnswered start v at a) → HasReached start at v
reached_here start v at None none key = absurd (none key)
reached_here start v at (Some answer) is key = (answer, is)

-- ---- a newcomer, and the halves of a split
pub made_none : (start : Start) (wanted : List Coord) (v : Worker) (told : List ℕ) (share : ℕ) → v ≡ newcomer told share → HasMadeFor start wanted v
made_none start wanted v told share is = subst (HasMadeFor start wanted) (sym is) (record {
  made = λ i t some. absurd (omega (arith, some));
  marked = λ b some. absurd (omega (arith, some));
})

pub made_split : (start : Start) (wanted : List Coord) (v w : Worker) → w ≡ after_split v → HasMadeFor start wanted v → HasMadeFor start wanted w
made_split start wanted v w is made = subst (HasMadeFor start wanted) (sym is) (
    let more : Knows v (after_split v) = record { seen = λ i n h. h; marked = λ b h. h; missed = λ i h. h; past = λ l h. h } in
    record {
      made = λ i t some. let r = made.made i t some in (r.0, r.1, slot_more start v (after_split v) more r.0 i r.2);
      marked = λ b some. let r = made.marked b some in (r.0, r.1, bit_more start v (after_split v) more r.0 b r.2);
    })

-- ---- after a join
times-append : (b : ℕ) (xs ys : List ℕ) → times_in b (xs ++ ys) ≡ times_in b xs + times_in b ys
times-append b xs ys = total-append (λ (x : ℕ). one (x == b)) xs ys

left : (v w : Worker) → Knows v (after_join v w)
left v w = record {
  seen = λ i n h. let e = pairs-append i n v.seen w.seen in omega arith;
  marked = λ b h. let e = times-append b v.marked w.marked in omega arith;
  missed = λ i h. let e = times-append i v.missed w.missed in omega arith;
  past = λ l h. let e = firsts-append l v.past w.past in omega arith;
}

right : (v w : Worker) → Knows w (after_join v w)
right v w = record {
  seen = λ i n h. let e = pairs-append i n v.seen w.seen in omega arith;
  marked = λ b h. let e = times-append b v.marked w.marked in omega arith;
  missed = λ i h. let e = times-append i v.missed w.missed in omega arith;
  past = λ l h. let e = firsts-append l v.past w.past in omega arith;
}

pub reached_left : (start : Start) (v w x : Worker) → x ≡ after_join v w → (at : Coord) → HasReached start at v → HasReached start at x
reached_left start v w x is at reached = subst (HasReached start at) (sym is) (reached_knows start v (after_join v w) (left v w) at reached)

pub reached_right : (start : Start) (v w x : Worker) → x ≡ after_join v w → (at : Coord) → HasReached start at w → HasReached start at x
reached_right start v w x is at reached = subst (HasReached start at) (sym is) (reached_knows start w (after_join v w) (right v w) at reached)

either_some : (n m k : ℕ) → n ≡ m + k → 0 < n → (0 < m) ⊎ (0 < k)
either_some n m k is some = elim (cases_lt 0 m) [
  | inl first ↦ inl first
  | inr none ↦ inr (omega arith)
]

pub made_join : (start : Start) (wanted : List Coord) (v w x : Worker) → x ≡ after_join v w → HasMadeFor start wanted v → HasMadeFor start wanted w → HasMadeFor start wanted x
made_join start wanted v w x is mine theirs = subst (HasMadeFor start wanted) (sym is) (record {
  made = λ i t some. elim (either_some (pairs i t (v.made ++ w.made)) (pairs i t v.made) (pairs i t w.made) (pairs-append i t v.made w.made) some) [
    | inl here ↦ let r = mine.made i t here in (r.0, r.1, slot_more start v (after_join v w) (left v w) r.0 i r.2)
    | inr there ↦ let r = theirs.made i t there in (r.0, r.1, slot_more start w (after_join v w) (right v w) r.0 i r.2)
  ];
  marked = λ b some. elim (either_some (times_in b (v.marked ++ w.marked)) (times_in b v.marked) (times_in b w.marked) (times-append b v.marked w.marked) some) [
    | inl here ↦ let r = mine.marked b here in (r.0, r.1, bit_more start v (after_join v w) (left v w) r.0 b r.2)
    | inr there ↦ let r = theirs.marked b there in (r.0, r.1, bit_more start w (after_join v w) (right v w) r.0 b r.2)
  ];
})

-- ---- the end
pub fits_seat : (start : Start) (wanted : List Coord) (v : Worker) → HasMadeFor start wanted v → ((at : Coord) → Contains wanted at → HasReached start at v) → ((at : Coord) → Contains wanted at → KnowsKey start at) → FitsSeat start v wanted
fits_seat start wanted v made reached keys = record {
  made = made.made;
  marked = made.marked;
  answered = λ at has. reached at has (keys at has);
}
