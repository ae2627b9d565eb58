-- Writes and wants that were added to the moments of iterations side by side.
use Rattle.std.proofs.Common.{◌≡◌, ℕ, zero, suc, ◌+◌, ◌<◌, ◌≤◌, inl, inr, arith, List, [], ◌∷◌, length, get_or, Some, refl, sym, ap, ◌∙◌, subst}
use Rattle.std.specs.Prelude.{slice_get, slice_set}
use Rattle.std.specs.List.{AllZip}
use Rattle.std.proofs.lemmas.Bool.{cases_eq}
use Rattle.std.proofs.lemmas.List.{length-set}
use Rattle.std.proofs.lemmas.Option.{same_Some}
use Rattle.sg_flat.specs.declared.state.FlatState.{FlatState}
use Rattle.sg_flat.specs.State.{value_of}
use Rattle.sg_store.specs.StoreWords.{StoreWords}
use Rattle.sg_store.specs.StandsFor.{StandsFor}
use Rattle.sg_exec.specs.declared.lanes.moment.Moment.{Moment}
use Rattle.sg_exec.specs.steps.Rows.{On}
use Rattle.sg_exec.specs.Standing.{shapes_of}
use Rattle.sg_exec.specs.steps.Written.{own_write, last_or}
use Rattle.sg_exec.specs.steps.Accessing.{AreCellsOver, AreMade, BecomesIf, IsOwnValue, KeepStores}
use Rattle.sg_exec.proofs.Rows.{set_same, set_other, below_or_past, isnt_on, on_below}
use Rattle.sg_exec.proofs.SideBySide.{there}

-- the item that was lent came back as it was
pub set_itself : {X : Type 0} (xs : List X) (k : ℕ) (d x : X) → x ≡ get_or xs k d → k < length xs → slice_set xs k x ≡ xs
set_itself [] k d x is below = absurd (omega (arith, below))
set_itself (y ∷ xs) zero d x is below = ap (λ z. z ∷ xs) is
set_itself (y ∷ xs) (suc k) d x is below = ap (λ zs. y ∷ zs) (set_itself xs k d x is (omega (arith, below)))

pub keep_none : (moments : List Moment) → KeepStores moments moments
keep_none moments = record {
  long = refl;
  same = λ k before after was is. ap (λ (m : Moment). m.cells.stores) (same_Some after before (sym is ∙ was));
}

pub keep_more : (at : ℕ) (old now : List Moment) (before after : Moment) → at < length now → slice_get now at ≡ Some before → KeepStores old now → after.cells.stores ≡ before.cells.stores → KeepStores old (slice_set now at after)
keep_more at old now before after below here so step = record {
  long = length-set now at after ∙ so.long;
  same = λ k first last was is. elim (cases_eq k at) [
    | inl at_it ↦ (
        let last_is : after ≡ last = same_Some after last (sym (set_same now at after below) ∙ sym (ap (slice_get (slice_set now at after)) at_it) ∙ is) in
        sym (ap (λ (m : Moment). m.cells.stores) last_is) ∙ step ∙ so.same k first before was (ap (slice_get now) at_it ∙ here)
        )
    | inr other ↦ so.same k first last was (sym (set_other now at k after other) ∙ is)
  ];
}

pub over_still : (stores : List StoreWords) (old now : List Moment) → KeepStores old now → AreCellsOver stores old → AreCellsOver stores now
over_still stores old now so over k moment is =
    let before = there now old k moment is (sym so.long) in
    so.same k before.0 moment before.1 is ∙ over k before.0 before.1

-- the moments before a number have become others where their lanes aren't 0, and are as they were where they are
abbrev pub AreMadeBefore : (ℕ → Moment → Moment → Type 0) → List ℕ → ℕ → List Moment → List Moment → Type 0
AreMadeBefore Becomes lanes at old now = AreMade (λ k. BecomesIf (Becomes k) (get_or lanes k 0)) (λ k. k < at) old now

pub made_none : (Becomes : ℕ → Moment → Moment → Type 0) (lanes : List ℕ) (moments : List Moment) → AreMadeBefore Becomes lanes 0 moments moments
made_none Becomes lanes moments = record {
  among = λ k before after was is inside. absurd (omega (arith, inside));
  others = λ k out. refl;
}

pub made_more : (Becomes : ℕ → Moment → Moment → Type 0) (lanes : List ℕ) (at : ℕ) (old now : List Moment) (before after : Moment) → at < length now → slice_get now at ≡ Some before → AreMadeBefore Becomes lanes at old now
    → BecomesIf (Becomes at) (get_or lanes at 0) before after → AreMadeBefore Becomes lanes (at + 1) old (slice_set now at after)
made_more Becomes lanes at old now before after below here so step = record {
  among = λ k early late was is inside. elim (cases_eq k at) [
    | inl at_it ↦ (
        let late_is : after ≡ late = same_Some after late (sym (set_same now at after below) ∙ sym (ap (slice_get (slice_set now at after)) at_it) ∙ is) in
        let early_is : before ≡ early = same_Some before early (sym here ∙ so.others at (λ (it : at < at). absurd (omega (arith, it))) ∙ sym (ap (slice_get old) at_it) ∙ was) in
        subst (λ (n : ℕ). BecomesIf (Becomes n) (get_or lanes n 0) early late) (sym at_it)
        (subst (λ (m : Moment). BecomesIf (Becomes at) (get_or lanes at 0) m late) early_is (subst (λ (m : Moment). BecomesIf (Becomes at) (get_or lanes at 0) before m) late_is step))
        )
    | inr other ↦ so.among k early late was (sym (set_other now at k after other) ∙ is) (omega (arith, inside, other))
  ];
  others = λ k out.
      set_other now at k after (λ (same : k ≡ at). out (omega (arith, same)))
      ∙ so.others k (λ (it : k < at). out (omega (arith, it)));
}

moment_at : (moments : List Moment) (k : ℕ) → k < length moments → (m : Moment) × (slice_get moments k ≡ Some m)
moment_at [] k below = absurd (omega (arith, below))
moment_at (m ∷ moments) zero below = (m, refl)
moment_at (m ∷ moments) (suc k) below = moment_at moments k (omega (arith, below))

-- all moments
pub made_end : (Becomes : ℕ → Moment → Moment → Type 0) (lanes : List ℕ) (at : ℕ) (old now : List Moment) → length lanes ≡ 32 → 32 ≤ at → at ≤ length old → length now ≡ length old → AreMadeBefore Becomes lanes at old now
    → AreMade Becomes (On lanes) old now
made_end Becomes lanes at old now long whole room same so = record {
  among = λ k before after was is on. (so.among k before after was is (omega (arith, on_below lanes k long on, whole))).set on;
  others = λ k off. elim (below_or_past k at) [
    | inl low ↦ (
        let before = moment_at old k (omega (arith, low, room)) in
        let after = moment_at now k (omega (arith, low, room, same)) in
        after.1 ∙ ap (λ (m : Moment). Some m) ((so.among k before.0 after.0 before.1 after.1 low).zero (isnt_on lanes k off)) ∙ sym before.1
        )
    | inr high ↦ so.others k (λ (it : k < at). absurd (omega (arith, it, high)))
  ];
}

-- the value in the own cell of the moment of a column
pub own_value_at : (stores : List StoreWords) (moments : List Moment) (layout field k word : ℕ) (moment : Moment) → slice_get moments k ≡ Some moment → moment.cells.stores ≡ stores
    → ((state : FlatState) → AllZip StandsFor moment.cells.stores state.layouts → word ≡ last_or (own_write layout field moment.cells.writes) (value_of (shapes_of moment.cells.stores) state layout field moment.cells.at))
    → IsOwnValue stores moments layout field k word
own_value_at stores moments layout field k word moment here over value other there =
    let is : moment ≡ other = same_Some moment other (sym here ∙ there) in
    subst (λ (m : Moment). (state : FlatState) → AllZip StandsFor stores state.layouts → word ≡ last_or (own_write layout field m.cells.writes) (value_of (shapes_of stores) state layout field m.cells.at)) is
    (subst (λ (ss : List StoreWords). (state : FlatState) → AllZip StandsFor ss state.layouts → word ≡ last_or (own_write layout field moment.cells.writes) (value_of (shapes_of ss) state layout field moment.cells.at)) over value)

-- the same of lists that are given otherwise
pub keep_as : (xs old ys new : List Moment) → xs ≡ old → new ≡ ys → KeepStores xs ys → KeepStores old new
keep_as xs old ys new was is so = subst (λ (them : List Moment). KeepStores them new) was (subst (λ (them : List Moment). KeepStores xs them) (sym is) so)

pub made_as : (Becomes : ℕ → Moment → Moment → Type 0) (on : ℕ → Type 0) (xs old ys new : List Moment) → xs ≡ old → new ≡ ys → AreMade Becomes on xs ys → AreMade Becomes on old new
made_as Becomes on xs old ys new was is so =
    subst (λ (them : List Moment). AreMade Becomes on them new) was (subst (λ (them : List Moment). AreMade Becomes on xs them) (sym is) so)
