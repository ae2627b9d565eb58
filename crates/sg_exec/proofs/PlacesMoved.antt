-- What an instruction on places makes of the executor's rows.
use Rattle.std.proofs.Common.{◌≡◌, Bool, true, false, ℕ, ◌<◌, ◌≤◌, List, length, Option, None, refl, sym, ap, ◌∙◌, subst}
use Rattle.std.specs.Prelude.{slice_get, if◌then◌else◌}
use Rattle.sg_words.specs.declared.operators.Ty.TheVariants as ty
use Rattle.sg_words.specs.Words.{number}
use Rattle.sg_coord.specs.declared.coord.Coord.{Coord}
use Rattle.sg_coord.specs.Coord.{is_on_axis}
use Rattle.sg_flat.specs.declared.state.FlatState.{FlatState}
use Rattle.sg_store.specs.StoreWords.{StoreWords}
use Rattle.sg_ir.specs.Runs.{Seen, Moved, Place, put, set_place, check, down}
use Rattle.sg_exec.specs.declared.lanes.batch.Batch.{Batch}
use Rattle.sg_exec.specs.declared.lanes.held.Held.{Held}
use Rattle.sg_exec.specs.declared.lanes.moment.Moment.{Moment}
use Rattle.sg_exec.specs.Standing.{shapes_of}
use Rattle.sg_exec.specs.steps.Machines.{seen_in, Sees, HoldsPlace}
use Rattle.sg_exec.specs.steps.Rows.{item_in, IsPut}
use Rattle.sg_exec.specs.steps.Moments.{column, IsMoved, IsOver, Moves, Stays, AllMove, KeepsRows}
use Rattle.sg_exec.specs.steps.Accessing.{AreCellsOver}
use Rattle.sg_exec.proofs.Going.{as_moved}
use Rattle.sg_exec.proofs.Rows.{other_item}
use Rattle.sg_exec.proofs.RowsMoved.{put_there, same_at, over_same}
use Rattle.sg_exec.proofs.SideBySide.{kept_then}

-- nothing of a batch but what its place registers hold is another
pub record OnlyPlaces (old new : Batch) : Type 0 where
  pub kept : new.lacks ≡ false → old.lacks ≡ false
  pub regs : new.regs ≡ old.regs
  pub vars : new.vars ≡ old.vars
  pub moments : new.moments ≡ old.moments
  pub stores : new.places.stores ≡ old.places.stores

-- where places have become others
places_moved : (stores : List StoreWords) (at : Coord) (old new : Batch) (k : ℕ) (moment : Moment) (now : Moved) (places : ℕ → Option Place) (roots : ℕ → ℕ) → OnlyPlaces old new → ((p : ℕ) → HoldsPlace stores (item_in new.places.list None k p) (places p))
    → IsMoved stores at (column old k moment) now → IsMoved stores at (column new k moment) (record now { places = places; roots = roots })
places_moved stores at old new k moment now places roots only are moved = record {
  stores_are = only.stores ∙ moved.stores_are;
  regs_are = λ number. ap (λ it. item_in it.items 0 k number) only.regs ∙ moved.regs_are number;
  vars_are = λ number. ap (λ it. item_in it.items 0 k number) only.vars ∙ moved.vars_are number;
  places_are = are;
  cells_over = moved.cells_over;
  at_is = moved.at_is;
  writes_are = moved.writes_are;
  own_at = moved.own_at;
  wants_are = moved.wants_are;
}

-- place registers become what is held for the values of how far the run has come
pub places_done : (old mid new : Batch) (on : ℕ → Type 0) (to : ℕ) (Holds : ℕ → Option Held → Type 0) (root : Moved → ℕ) (value : Seen → Moved → Option Place) (act : Seen → Moved → Moved) → ((seen : Seen) (now : Moved) → act seen now ≡ set_place to (root now) (value seen now) now)
    → KeepsRows old mid → OnlyPlaces mid new → (new.lacks ≡ false → IsPut Holds on to None mid.places.list new.places.list)
    → ((k : ℕ) (held : Option Held) (stores : List StoreWords) (state : FlatState) (at : Coord) (moment : Moment) (now : Moved) → k < 32 → Holds k held → Sees stores state → IsMoved stores at (column mid k moment) now
    → HoldsPlace stores held (value (seen_in stores state at) now))
    → AllMove act on old new
places_done old mid new on to Holds root value act is keeps only has same =
    let same_moments : new.moments.items ≡ mid.moments.items = ap (λ ms. ms.items) only.moments in
    kept_then act on old mid new keeps (record {
      over = over_same mid new same_moments only.stores;
      long = ap length same_moments;
      among = λ k before after at small inside.
          subst (λ (m : Moment). Moves act (column mid k before) (column new k m)) (same_at mid new same_moments k before after at)
          (record {
            kept = λ lacks. only.kept lacks;
            follows = λ stores state here sees now follows.
                as_moved (sym (is (seen_in stores state here) now))
                (λ lacks named.
                let moved = follows (only.kept lacks) named in
                places_moved stores here mid new k before now (put to (value (seen_in stores state here) now) now.places) (put to (root now) now.roots) only
                (put_there (HoldsPlace stores) Holds on to None mid.places.list new.places.list k (value (seen_in stores state here) now) now.places small (has lacks)
                (same k (item_in new.places.list None k to) stores state here before now small ((has lacks).there k small inside) sees moved) moved.places_are) moved);
          });
      others = λ k before after at small out.
          subst (λ (m : Moment). Stays (column mid k before) (column new k m)) (same_at mid new same_moments k before after at)
          (record {
            kept = λ lacks. only.kept lacks;
            follows = λ stores state here sees now follows lacks named.
                let moved = follows (only.kept lacks) named in
                places_moved stores here mid new k before now now.places now.roots only
                (λ p. subst (λ (held : Option Held). HoldsPlace stores held (now.places p)) (sym (other_item Holds on to None mid.places.list new.places.list k p (has lacks) small (λ (it : (p ≡ to) × on k). out it.1))) (moved.places_are p)) moved;
          });
    })

-- two steps that made rows longer
pub keeps_both : (a b c : Batch) → KeepsRows a b → KeepsRows b c → KeepsRows a c
keeps_both a b c one two = record {
  moments = two.moments ∙ one.moments;
  stores = two.stores ∙ one.stores;
  kept = λ lacks. one.kept (two.kept lacks);
  regs = λ place. two.regs place ∙ one.regs place;
  vars = λ place. two.vars place ∙ one.vars place;
  held = λ place. two.held place ∙ one.held place;
}

-- what is held where a check passes, and where it doesn't
pub check_holds : (stores : List StoreWords) (held given : Option Held) (place : Option Place) (extent word other : ℕ) → held ≡ (if is_on_axis extent (number ty.I32 word) then given else None) → word ≡ other → HoldsPlace stores given place
    → HoldsPlace stores held (check extent other place)
check_holds stores held given place extent word other is same holds =
    subst (λ (w : ℕ). HoldsPlace stores held (check extent w place)) same (subst (λ (it : Option Held). HoldsPlace stores it (check extent word place)) (sym is) (by_test (is_on_axis extent (number ty.I32 word))))
  where
    by_test : (b : Bool) → HoldsPlace stores (if b then given else None) (if b then place else None)
    by_test true = holds
    by_test false = tt

-- what is held one step down
pub step_holds : (mine stores : List StoreWords) (held given : Option Held) (place : Option Place) (node word other : ℕ) → mine ≡ stores → word ≡ other
    → ((there : Option Place) → HoldsPlace mine given there → HoldsPlace mine held (down (shapes_of mine) node word there)) → HoldsPlace stores given place → HoldsPlace stores held (down (shapes_of stores) node other place)
step_holds mine stores held given place node word other same_stores same leads holds =
    subst (λ (w : ℕ). HoldsPlace stores held (down (shapes_of stores) node w place)) same
    ((subst (λ (ss : List StoreWords). (there : Option Place) → HoldsPlace ss given there → HoldsPlace ss held (down (shapes_of ss) node word there)) same_stores leads) place holds)

-- no row has become longer
pub keeps_itself : {batch : Batch} → KeepsRows batch batch
keeps_itself {batch} = record { moments = refl; stores = refl; kept = λ lacks. lacks; regs = λ place. refl; vars = λ place. refl; held = λ place. refl }

-- the same over the stores of the batch itself
pub still_over : (stores : List StoreWords) (batch : Batch) → IsOver stores batch → IsOver batch.places.stores batch
still_over stores batch over = subst (λ (ss : List StoreWords). IsOver ss batch) (sym over.places) over

pub over_kept : (old new : Batch) → KeepsRows old new → IsOver old.places.stores old → AreCellsOver new.places.stores new.moments.items
over_kept old new keeps over k moment is =
    over.moments k moment (sym (ap (λ ms. slice_get ms.items k) keeps.moments) ∙ is) ∙ sym keeps.stores
