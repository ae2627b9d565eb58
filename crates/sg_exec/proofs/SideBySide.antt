-- Iterations side by side: what holds of each of them, instruction by instruction.
use Rattle.std.proofs.Common.{◌≡◌, ℕ, ◌+◌, ◌*◌, ◌<◌, ◌≤◌, inl, inr, List, length, Some, true, false, refl, sym, ap, ◌∙◌, subst, arith}
use Rattle.std.specs.Prelude.{slice_get, ◌==◌, ◌&&◌, ◌⊎◌, Bool, not}
use Rattle.std.proofs.lemmas.Bool.{cases_eq}
use Rattle.std.proofs.lemmas.Bool.Decides.{nat_tests}
use Rattle.std.proofs.lemmas.Option.{same_Some, slice_get_within, slice_get-get_or}
use Rattle.sg_coord.specs.declared.coord.Coord.{Coord}
use Rattle.sg_flat.specs.declared.state.FlatState.{FlatState}
use Rattle.sg_store.specs.StoreWords.{StoreWords}
use Rattle.sg_ir.specs.declared.code.Inst.{Inst}
use Rattle.sg_ir.specs.declared.code.Inst.TheVariants as v
use Rattle.sg_ir.specs.Runs.{Seen, Moved, does, runs}
use Rattle.sg_exec.specs.declared.lanes.batch.Batch.{Batch}
use Rattle.sg_exec.specs.declared.lanes.moment.Moment.{Moment}
use Rattle.sg_exec.specs.steps.Machines.{seen_in, Sees, HoldsPlace}
use Rattle.sg_exec.specs.steps.Rows.{item_in}
use Rattle.sg_exec.specs.steps.Moments.{Column, column, Follows, Moves, Stays, AreAt, AllBecome, AllMove, KeepsRows, IsOver}
use Rattle.sg_exec.proofs.Rows.{lane_cases}
use Rattle.sg_exec.proofs.Going.{Going, going_start, going_next, going_end, goes_otherwise, goes_in, moves_by, moves_inst, moves_there}

-- ---- columns of a batch

pub there : (xs ys : List Moment) (k : ℕ) (x : Moment) → slice_get xs k ≡ Some x → length ys ≡ length xs → (y : Moment) × (slice_get ys k ≡ Some y)
there xs ys k x is same =
    let below : k < length xs = slice_get_within xs k x is in
    (_, slice_get-get_or ys k x (omega arith))

pub become_same : (R S : Column → Column → Type 0) → ((c : Column) → R c c) → ((c : Column) → S c c) → (on : ℕ → Type 0) (batch : Batch) → AllBecome R S on batch batch
become_same R S is_same is_left on batch = record {
  over = λ stores over. over;
  long = refl;
  among = λ k before after at small inside.
      subst (λ (m : Moment). R (column batch k before) (column batch k m)) (same_Some _ _ (sym at.before_is ∙ at.after_is)) (is_same (column batch k before));
  others = λ k before after at small out.
      subst (λ (m : Moment). S (column batch k before) (column batch k m)) (same_Some _ _ (sym at.before_is ∙ at.after_is)) (is_left (column batch k before));
}

pub become_then : (R R' T S S' U : Column → Column → Type 0) → ((a b c : Column) → R a b → R' b c → T a c) → ((a b c : Column) → S a b → S' b c → U a c)
    → (on : ℕ → Type 0) (a b c : Batch) → AllBecome R S on a b → AllBecome R' S' on b c → AllBecome T U on a c
become_then R R' T S S' U both left on a b c one two = record {
  over = λ stores over. two.over stores (one.over stores over);
  long = two.long ∙ one.long;
  among = λ k before after at small inside.
      let mid = there a.moments.items b.moments.items k before at.before_is one.long in
      both (column a k before) (column b k mid.0) (column c k after)
      (one.among k before mid.0 (record { before_is = at.before_is; after_is = mid.1 }) small inside)
      (two.among k mid.0 after (record { before_is = mid.1; after_is = at.after_is }) small inside);
  others = λ k before after at small out.
      let mid = there a.moments.items b.moments.items k before at.before_is one.long in
      left (column a k before) (column b k mid.0) (column c k after)
      (one.others k before mid.0 (record { before_is = at.before_is; after_is = mid.1 }) small out)
      (two.others k mid.0 after (record { before_is = mid.1; after_is = at.after_is }) small out);
}

pub become_so : (R S T U : Column → Column → Type 0) → ((a b : Column) → R a b → T a b) → ((a b : Column) → S a b → U a b) → (on : ℕ → Type 0) (old new : Batch) → AllBecome R S on old new → AllBecome T U on old new
become_so R S T U so so' on old new all = record {
  over = all.over;
  long = all.long;
  among = λ k before after at small inside. so (column old k before) (column new k after) (all.among k before after at small inside);
  others = λ k before after at small out. so' (column old k before) (column new k after) (all.others k before after at small out);
}

-- all goes over the same stores as before
pub over_still : (R S : Column → Column → Type 0) (on : ℕ → Type 0) (old now : Batch) → AllBecome R S on old now → IsOver old.places.stores old → IsOver now.places.stores now
over_still R S on old now all over =
    let it : IsOver old.places.stores now = all.over old.places.stores over in
    subst (λ (stores : List StoreWords). IsOver stores now) (sym it.places) it

-- ---- columns on their way through a block

-- a column has come to where the rest leads to the whole
pub record Comes (rest whole : Seen → Moved → Moved) (old now : Column) : Type 0 where
  pub kept : now.lacks ≡ false → old.lacks ≡ false
  pub going : (stores : List StoreWords) (state : FlatState) (at : Coord) → Sees stores state → (moved : Moved) → Follows stores at old moved
      → Going (Follows stores at now) (rest (seen_in stores state at)) (whole (seen_in stores state at) moved)

pub comes_start : (whole : Seen → Moved → Moved) (c : Column) → Comes whole whole c c
comes_start whole c = record {
  kept = λ lacks. lacks;
  going = λ stores state at sees moved follows. going_start _ (whole (seen_in stores state at)) moved follows;
}

pub comes_next : (act rest next whole : Seen → Moved → Moved) → ((seen : Seen) (mid : Moved) → rest seen mid ≡ next seen (act seen mid))
    → (old mid now : Column) → Comes rest whole old mid → Moves act mid now → Comes next whole old now
comes_next act rest next whole split old mid now comes step = record {
  kept = λ lacks. comes.kept (step.kept lacks);
  going = λ stores state at sees moved follows.
      going_next _ _ (act (seen_in stores state at)) _ (next (seen_in stores state at)) _ (split (seen_in stores state at)) (comes.going stores state at sees moved follows) (step.follows stores state at sees);
}

pub comes_end : (rest whole : Seen → Moved → Moved) → ((seen : Seen) (mid : Moved) → rest seen mid ≡ mid) → (old now : Column) → Comes rest whole old now → Moves whole old now
comes_end rest whole none old now comes = record {
  kept = comes.kept;
  follows = λ stores state at sees moved follows. going_end _ _ _ (none (seen_in stores state at)) (comes.going stores state at sees moved follows);
}

pub moves_then : (first second : Seen → Moved → Moved) (a b c : Column) → Moves first a b → Moves second b c → Moves (λ seen now. second seen (first seen now)) a c
moves_then first second a b c one two = record {
  kept = λ lacks. one.kept (two.kept lacks);
  follows = λ stores state at sees now follows. two.follows stores state at sees (first (seen_in stores state at) now) (one.follows stores state at sees now follows);
}

pub stays_itself : (c : Column) → Stays c c
stays_itself c = record {
  kept = λ lacks. lacks;
  follows = λ stores state at sees now follows. follows;
}

pub stays_then : (a b c : Column) → Stays a b → Stays b c → Stays a c
stays_then a b c one two = moves_then (λ seen now. now) (λ seen now. now) a b c one two

-- the same for all columns
pub all_start : (whole : Seen → Moved → Moved) (on : ℕ → Type 0) (batch : Batch) → AllBecome (Comes whole whole) Stays on batch batch
all_start whole on batch = become_same (Comes whole whole) Stays (comes_start whole) stays_itself on batch

pub all_next : (act rest next whole : Seen → Moved → Moved) → ((seen : Seen) (mid : Moved) → rest seen mid ≡ next seen (act seen mid))
    → (on : ℕ → Type 0) (old mid now : Batch) → AllBecome (Comes rest whole) Stays on old mid → AllMove act on mid now → AllBecome (Comes next whole) Stays on old now
all_next act rest next whole split on old mid now come step =
    become_then (Comes rest whole) (Moves act) (Comes next whole) Stays Stays Stays (comes_next act rest next whole split) stays_then on old mid now come step

pub all_end : (rest whole : Seen → Moved → Moved) → ((seen : Seen) (mid : Moved) → rest seen mid ≡ mid) → (on : ℕ → Type 0) (old now : Batch) → AllBecome (Comes rest whole) Stays on old now → AllMove whole on old now
all_end rest whole none on old now come = become_so (Comes rest whole) Stays (Moves whole) Stays (comes_end rest whole none) (λ a b stays. stays) on old now come

pub all_by : (act other : Seen → Moved → Moved) → ((seen : Seen) (now : Moved) → act seen now ≡ other seen now) → (on : ℕ → Type 0) (old now : Batch) → AllMove act on old now → AllMove other on old now
all_by act other same on old now all = become_so (Moves act) Stays (Moves other) Stays (λ a b step. moves_by act other same step) (λ a b stays. stays) on old now all

pub all_inst : (inst given : Inst) → inst ≡ given → (on : ℕ → Type 0) (old now : Batch) → AllMove (λ seen. does seen given) on old now → AllMove (λ seen. does seen inst) on old now
all_inst inst given is on old now all =
    become_so (Moves (λ seen. does seen given)) Stays (Moves (λ seen. does seen inst)) Stays (λ a b step. moves_inst inst given is step) (λ a b stays. stays) on old now all

pub all_then : (one two : Seen → Moved → Moved) (on : ℕ → Type 0) (a b c : Batch) → AllMove one on a b → AllMove two on b c → AllMove (λ seen now. two seen (one seen now)) on a c
all_then one two on a b c before after = become_then (Moves one) (Moves two) (Moves (λ seen now. two seen (one seen now))) Stays Stays Stays (moves_then one two) stays_then on a b c before after

-- ---- rows that have at most become longer

kept_moved : (stores : List StoreWords) (at : Coord) (old new : Batch) (k : ℕ) (moment : Moment) (now : Moved) → KeepsRows old new → Follows stores at (column old k moment) now → Follows stores at (column new k moment) now
kept_moved stores at old new k moment now keeps follows = λ lacks named.
    let moved = follows (keeps.kept lacks) named in
    record {
      stores_are = keeps.stores ∙ moved.stores_are;
      regs_are = λ number. keeps.regs (number * 32 + k) ∙ moved.regs_are number;
      vars_are = λ number. keeps.vars (number * 32 + k) ∙ moved.vars_are number;
      places_are = λ p. subst (λ held. HoldsPlace stores held (now.places p)) (sym (keeps.held (p * 32 + k))) (moved.places_are p);
      cells_over = moved.cells_over;
      at_is = moved.at_is;
      writes_are = moved.writes_are;
      own_at = moved.own_at;
      wants_are = moved.wants_are;
    }

pub keeps_stay : (old new : Batch) (k : ℕ) (moment : Moment) → KeepsRows old new → Stays (column old k moment) (column new k moment)
keeps_stay old new k moment keeps = record {
  kept = keeps.kept;
  follows = λ stores state at sees now follows. kept_moved stores at old new k moment now keeps follows;
}

same_moment : (old new : Batch) (k : ℕ) (before after : Moment) → KeepsRows old new → AreAt k old new before after → before ≡ after
same_moment old new k before after keeps at = same_Some before after (sym at.before_is ∙ sym (ap (λ ms. slice_get ms.items k) keeps.moments) ∙ at.after_is)

keeps_over : (old new : Batch) (stores : List StoreWords) → KeepsRows old new → IsOver stores old → IsOver stores new
keeps_over old new stores keeps over = record {
  places = keeps.stores ∙ over.places;
  whole = ap (λ ms. length ms.items) keeps.moments ∙ over.whole;
  moments = λ k moment is. over.moments k moment (sym (ap (λ ms. slice_get ms.items k) keeps.moments) ∙ is);
}

pub keeps_all : (on : ℕ → Type 0) (old new : Batch) → KeepsRows old new → AllBecome Stays Stays on old new
keeps_all on old new keeps = record {
  over = λ stores over. keeps_over old new stores keeps over;
  long = ap (λ ms. length ms.items) keeps.moments;
  among = λ k before after at small inside. subst (λ (m : Moment). Stays (column old k before) (column new k m)) (same_moment old new k before after keeps at) (keeps_stay old new k before keeps);
  others = λ k before after at small out. subst (λ (m : Moment). Stays (column old k before) (column new k m)) (same_moment old new k before after keeps at) (keeps_stay old new k before keeps);
}

-- rows that became longer twice
pub keeps_both : (old mid new : Batch) → KeepsRows old mid → KeepsRows mid new → KeepsRows old new
keeps_both old mid new one two = record {
  moments = two.moments ∙ one.moments;
  stores = two.stores ∙ one.stores;
  kept = λ lacks. one.kept (two.kept lacks);
  regs = λ place. two.regs place ∙ one.regs place;
  vars = λ place. two.vars place ∙ one.vars place;
  held = λ place. two.held place ∙ one.held place;
}

-- rows that became longer first
pub kept_then : (act : Seen → Moved → Moved) (on : ℕ → Type 0) (old mid new : Batch) → KeepsRows old mid → AllMove act on mid new → AllMove act on old new
kept_then act on old mid new keeps all =
    become_then Stays (Moves act) (Moves act) Stays Stays Stays (moves_then (λ seen now. now) act) stays_then on old mid new (keeps_all on old mid keeps) all

-- ---- branches

is_zero : (word : ℕ) → (word == 0) ≡ true → word ≡ 0
is_zero word is = grind (arith, nat_tests, is)

isnt_zero : (word : ℕ) → (word == 0) ≡ false → word ≡ 0 → ⊥
isnt_zero word not is = grind (arith, nat_tests, not, is)

pub if_zero : (cond : ℕ) (block otherwise : List Inst) (old now : Column) → old.regs cond ≡ 0 → Moves (λ seen. runs seen otherwise) old now → Moves (λ seen. does seen (v.If cond block otherwise)) old now
if_zero cond block otherwise old now nil step =
    moves_there old now (v.If cond block otherwise) (λ seen. runs seen otherwise)
    (λ stores state at moved is. goes_otherwise (seen_in stores state at) moved (v.If cond block otherwise) cond block otherwise refl (sym (is.regs_are cond) ∙ nil)) step

pub if_other : (cond : ℕ) (block otherwise : List Inst) (old now : Column) → (old.regs cond ≡ 0 → ⊥) → Moves (λ seen. runs seen block) old now → Moves (λ seen. does seen (v.If cond block otherwise)) old now
if_other cond block otherwise old now other step =
    moves_there old now (v.If cond block otherwise) (λ seen. runs seen block)
    (λ stores state at moved is. goes_in (seen_in stores state at) moved (v.If cond block otherwise) cond block otherwise refl (λ nil. other (is.regs_are cond ∙ nil))) step

true_isnt_false : (b : Bool) → b ≡ true → b ≡ false → ⊥
true_isnt_false true p q = absurd (cc)
true_isnt_false false p q = absurd (cc)

left_of : (a b : Bool) → (a && b) ≡ true → a ≡ true
left_of true b h = refl
left_of false b h = absurd (true_isnt_false false h refl)

right_of : (a b : Bool) → (a && b) ≡ true → b ≡ true
right_of true b h = h
right_of false b h = absurd (true_isnt_false false h refl)

of_not : (b : Bool) → not b ≡ true → b ≡ false
of_not true h = absurd (true_isnt_false false h refl)
of_not false h = refl

test_no : (b : Bool) → not b ≡ false → b ≡ true
test_no true h = refl
test_no false h = absurd (true_isnt_false true refl h)

both_true : (a b : Bool) → a ≡ true → b ≡ true → (a && b) ≡ true
both_true true b p q = q
both_true false b p q = absurd (true_isnt_false false p refl)

and_not : (a b : Bool) → a ≡ true → b ≡ false → (a && not b) ≡ true
and_not true true p q = absurd (true_isnt_false true refl q)
and_not true false p q = refl
and_not false b p q = absurd (true_isnt_false false p refl)

-- an `if` by masks: first the columns that go in, then those that don't
pub branch_both : (cond : ℕ) (block otherwise : List Inst) (on goes rests word : ℕ → Bool) (old mid new : Batch)
    → ((k : ℕ) → goes k ≡ (on k && word k)) → ((k : ℕ) → rests k ≡ (on k && not (word k))) → ((k : ℕ) → k < 32 → word k ≡ not (item_in old.regs.items 0 k cond == 0))
    → AllMove (λ seen. runs seen block) (λ k. goes k ≡ true) old mid → AllMove (λ seen. runs seen otherwise) (λ k. rests k ≡ true) mid new
    → AllMove (λ seen. does seen (v.If cond block otherwise)) (λ k. on k ≡ true) old new
branch_both cond block otherwise on goes rests word old mid new goes_is rests_is word_is one two = record {
  over = λ stores over. two.over stores (one.over stores over);
  long = two.long ∙ one.long;
  among = λ k before after at small inside.
      let m = there old.moments.items mid.moments.items k before at.before_is one.long in
      let early : AreAt k old mid before m.0 = record { before_is = at.before_is; after_is = m.1 } in
      let late : AreAt k mid new m.0 after = record { before_is = m.1; after_is = at.after_is } in
      elim (lane_cases (word k)) [
        | inl w ↦
            if_other cond block otherwise (column old k before) (column new k after) (isnt_zero _ (of_not _ (sym (word_is k small) ∙ w)))
            (moves_then (λ seen. runs seen block) (λ seen now. now) (column old k before) (column mid k m.0) (column new k after)
            (one.among k before m.0 early small (goes_is k ∙ both_true (on k) (word k) inside w))
            (two.others k m.0 after late small (λ (n : rests k ≡ true). true_isnt_false (word k) w (of_not (word k) (right_of (on k) (not (word k)) (sym (rests_is k) ∙ n))))))
        | inr w ↦
            if_zero cond block otherwise (column old k before) (column new k after) (is_zero _ (test_no _ (sym (word_is k small) ∙ w)))
            (moves_then (λ seen now. now) (λ seen. runs seen otherwise) (column old k before) (column mid k m.0) (column new k after)
            (one.others k before m.0 early small (λ (y : goes k ≡ true). true_isnt_false (word k) (right_of (on k) (word k) (sym (goes_is k) ∙ y)) w))
            (two.among k m.0 after late small (rests_is k ∙ and_not (on k) (word k) inside w)))
      ];
  others = λ k before after at small out.
      let m = there old.moments.items mid.moments.items k before at.before_is one.long in
      stays_then (column old k before) (column mid k m.0) (column new k after)
      (one.others k before m.0 (record { before_is = at.before_is; after_is = m.1 }) small (λ (y : goes k ≡ true). out (left_of (on k) (word k) (sym (goes_is k) ∙ y))))
      (two.others k m.0 after (record { before_is = m.1; after_is = at.after_is }) small (λ (n : rests k ≡ true). out (left_of (on k) (not (word k)) (sym (rests_is k) ∙ n))));
}

-- where no column is on, nothing has to be done
pub none_on : (act : Seen → Moved → Moved) (on : ℕ → Type 0) (batch : Batch) → ((k : ℕ) → k < 32 → on k → ⊥) → AllMove act on batch batch
none_on act on batch none = record {
  over = λ stores over. over;
  long = refl;
  among = λ k before after at small inside. absurd (none k small inside);
  others = λ k before after at small out. (become_same Stays Stays stays_itself stays_itself (λ k. ⊥) batch).others k before after at small (λ it. it);
}
