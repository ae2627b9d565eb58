-- What an instruction makes of the executor's rows.
use Rattle.std.proofs.Common.{◌≡◌, ℕ, ◌<◌, ◌≤◌, List, [], ◌++◌, ◌∷◌, length, None, inl, inr, sym, ap, ◌∙◌, subst, arith}
use Rattle.std.specs.Prelude.{slice_get, take, drop, Some}
use Rattle.std.proofs.lemmas.Bool.{cases_eq, cond-true, cond-false, eq-eqb, ne_eqb}
use Rattle.std.proofs.lemmas.List.{append-nil, take_all, drop_all}
use Rattle.std.proofs.lemmas.Option.{same_Some}
use Rattle.sg_coord.specs.declared.coord.Coord.{Coord}
use Rattle.sg_flat.specs.declared.state.FlatState.{FlatState}
use Rattle.sg_store.specs.StoreWords.{StoreWords}
use Rattle.sg_ir.specs.Runs.{Seen, Moved, Access, put, set_reg, set_var_word, add_access}
use Rattle.sg_ir.specs.Named.{IsNamedAccess, AreNamed}
use Rattle.sg_exec.specs.declared.lanes.batch.Batch.{Batch}
use Rattle.sg_exec.specs.declared.lanes.moment.Moment.{Moment}
use Rattle.sg_exec.specs.Standing.{shapes_of}
use Rattle.sg_exec.specs.steps.Machines.{seen_in, Sees, HoldsPlace}
use Rattle.sg_exec.specs.steps.Rows.{item_in, IsPut}
use Rattle.sg_exec.specs.steps.Moments.{column, IsMoved, Moves, Stays, AreAt, AllMove, KeepsRows, IsOver}
use Rattle.sg_exec.proofs.EarlierAccesses.{named_before}
use Rattle.sg_exec.proofs.Going.{as_moved}
use Rattle.sg_exec.proofs.Rows.{other_item}
use Rattle.sg_exec.proofs.SideBySide.{kept_then}

-- ---- a row that was put

-- in a column where an item was put, all is as a number's value says
pub put_there : {A B : Type 0} (Same : A → B → Type 0) (Holds : ℕ → A → Type 0) (on : ℕ → Type 0) (to : ℕ) (none : A) (old new : List A) (k : ℕ) (value : B) (f : ℕ → B) → k < 32 → IsPut Holds on to none old new
    → Same (item_in new none k to) value → ((number : ℕ) → Same (item_in old none k number) (f number)) → (number : ℕ) → Same (item_in new none k number) (put to value f number)
put_there Same Holds on to none old new k value f small is here there number = elim (cases_eq number to) [
  | inl same ↦ subst (λ b. Same (item_in new none k number) b) (sym (cond-true _ value (f number) (eq-eqb number to same))) (subst (λ (n : ℕ). Same (item_in new none k n) value) (sym same) here)
  | inr other ↦ subst (λ b. Same (item_in new none k number) b) (sym (cond-false _ value (f number) (ne_eqb number to other)))
      (subst (λ a. Same a (f number)) (sym (other_item Holds on to none old new k number is small (λ (it : (number ≡ to) × on k). other it.0))) (there number))
]

-- a list that was lent as a slice of its own length, as it came back
pub whole_items : {A : Type 0} (n : ℕ) (news olds : List A) → length news ≡ n → length olds ≡ n → take n (news ++ drop (length news) olds) ≡ news
whole_items {A} n news olds long same =
    ap (λ (rest : List A). take n (news ++ rest)) (drop_all (length news) olds (omega (arith, long, same))) ∙ ap (take n) (append-nil news) ∙ take_all n news (omega (arith, long))

-- ---- one row of a batch

-- nothing of a batch but its registers is another
pub record OnlyRegs (old new : Batch) : Type 0 where
  pub lacks : new.lacks ≡ old.lacks
  pub vars : new.vars ≡ old.vars
  pub places : new.places ≡ old.places
  pub moments : new.moments.items ≡ old.moments.items

pub same_at : (old new : Batch) → new.moments.items ≡ old.moments.items → (k : ℕ) (before after : Moment) → AreAt k old new before after → before ≡ after
same_at old new same k before after at = same_Some before after (sym at.before_is ∙ sym (ap (λ (ms : List Moment). slice_get ms k) same) ∙ at.after_is)

pub over_same : (old new : Batch) → new.moments.items ≡ old.moments.items → new.places.stores ≡ old.places.stores → (stores : List StoreWords) → IsOver stores old → IsOver stores new
over_same old new same same_stores stores over = record {
  places = same_stores ∙ over.places;
  whole = ap length same ∙ over.whole;
  moments = λ k moment is. over.moments k moment (sym (ap (λ (ms : List Moment). slice_get ms k) same) ∙ is);
}

-- where registers have become others
regs_moved : (stores : List StoreWords) (at : Coord) (old new : Batch) (k : ℕ) (moment : Moment) (now : Moved) (regs : ℕ → ℕ) (accesses : List Access) → OnlyRegs old new → ((number : ℕ) → item_in new.regs.items 0 k number ≡ regs number)
    → IsMoved stores at (column old k moment) now → IsMoved stores at (column new k moment) (record now { regs = regs; accesses = accesses })
regs_moved stores at old new k moment now regs accesses only are moved = record {
  stores_are = ap (λ it. it.stores) only.places ∙ moved.stores_are;
  regs_are = are;
  vars_are = λ number. ap (λ it. item_in it.items 0 k number) only.vars ∙ moved.vars_are number;
  places_are = λ p. subst (λ held. HoldsPlace stores held (now.places p)) (sym (ap (λ it. item_in it.list None k p) only.places)) (moved.places_are p);
  cells_over = moved.cells_over;
  at_is = moved.at_is;
  writes_are = moved.writes_are;
  own_at = moved.own_at;
  wants_are = moved.wants_are;
}

-- registers become words that are the values of how far the run has come, where its accesses so far tell something
pub told_done : (old mid new : Batch) (before after : List ℕ) (on : ℕ → Type 0) (to : ℕ) (Holds : ℕ → ℕ → Type 0) (value : Seen → Moved → ℕ) (more : Moved → List Access) (act : Seen → Moved → Moved) (Told : List StoreWords → Moved → Type 0)
    → ((seen : Seen) (now : Moved) → act seen now ≡ record now { regs = put to (value seen now) now.regs; accesses = more now })
    → ((stores : List StoreWords) (now : Moved) → AreNamed (shapes_of stores) (more now) → AreNamed (shapes_of stores) now.accesses × Told stores now)
    → KeepsRows old mid → OnlyRegs mid new → before ≡ mid.regs.items → new.regs.items ≡ after → IsPut Holds on to 0 before after
    → ((k word : ℕ) (stores : List StoreWords) (state : FlatState) (at : Coord) (moment : Moment) (now : Moved) → k < 32 → slice_get mid.moments.items k ≡ Some moment → Holds k word → Sees stores state
    → IsMoved stores at (column mid k moment) now → Told stores now → word ≡ value (seen_in stores state at) now)
    → AllMove act on old new
told_done old mid new before_items after_items on to Holds value more act Told is tells keeps only was made has_made same =
    let has_before : IsPut Holds on to 0 before_items new.regs.items = subst (λ (items : List ℕ). IsPut Holds on to 0 before_items items) (sym made) has_made in
    let has : IsPut Holds on to 0 mid.regs.items new.regs.items = subst (λ (items : List ℕ). IsPut Holds on to 0 items new.regs.items) was has_before in
    kept_then act on old mid new keeps (record {
      over = over_same mid new only.moments (ap (λ it. it.stores) only.places);
      long = ap length only.moments;
      among = λ k before after at small inside.
          subst (λ (m : Moment). Moves act (column mid k before) (column new k m)) (same_at mid new only.moments k before after at)
          (record {
            kept = λ lacks. sym only.lacks ∙ lacks;
            follows = λ stores state here sees now follows.
                as_moved (sym (is (seen_in stores state here) now))
                (λ lacks named.
                let both = tells stores now named in
                let moved = follows (sym only.lacks ∙ lacks) both.0 in
                regs_moved stores here mid new k before now (put to (value (seen_in stores state here) now) now.regs) (more now) only
                (put_there (λ (a b : ℕ). a ≡ b) Holds on to 0 mid.regs.items new.regs.items k (value (seen_in stores state here) now) now.regs small has
                (same k (item_in new.regs.items 0 k to) stores state here before now small at.before_is (has.there k small inside) sees moved both.1) moved.regs_are) moved);
          });
      others = λ k before after at small out.
          subst (λ (m : Moment). Stays (column mid k before) (column new k m)) (same_at mid new only.moments k before after at)
          (record {
            kept = λ lacks. sym only.lacks ∙ lacks;
            follows = λ stores state here sees now follows lacks named.
                let moved = follows (sym only.lacks ∙ lacks) named in
                regs_moved stores here mid new k before now now.regs now.accesses only (λ number. other_item Holds on to 0 mid.regs.items new.regs.items k number has small (λ (it : (number ≡ to) × on k). out it.1) ∙ moved.regs_are number) moved;
          });
    })

-- registers become words that are the values of how far the run has come
pub regs_done : (old mid new : Batch) (before after : List ℕ) (on : ℕ → Type 0) (to : ℕ) (Holds : ℕ → ℕ → Type 0) (value : Seen → Moved → ℕ) (act : Seen → Moved → Moved) → ((seen : Seen) (now : Moved) → act seen now ≡ set_reg to (value seen now) now)
    → KeepsRows old mid → OnlyRegs mid new → before ≡ mid.regs.items → new.regs.items ≡ after → IsPut Holds on to 0 before after
    → ((k word : ℕ) (stores : List StoreWords) (state : FlatState) (at : Coord) (moment : Moment) (now : Moved) → k < 32 → Holds k word → Sees stores state → IsMoved stores at (column mid k moment) now → word ≡ value (seen_in stores state at) now)
    → AllMove act on old new
regs_done old mid new before after on to Holds value act is keeps only was made has same =
    told_done old mid new before after on to Holds value (λ now. now.accesses) act (λ stores now. Unit {0}) is (λ stores now named. (named, tt)) keeps only was made has
    (λ k word stores state at moment now small there holds sees moved told. same k word stores state at moment now small holds sees moved)

-- ---- accesses

-- one access more changes no row, and where all are named the last is
pub reads_done : (old mid new : Batch) (before after : List ℕ) (on : ℕ → Type 0) (to : ℕ) (Holds : ℕ → ℕ → Type 0) (value : Seen → Moved → ℕ) (access : Moved → Access) (act : Seen → Moved → Moved)
    → ((seen : Seen) (now : Moved) → act seen now ≡ set_reg to (value seen now) (add_access (access now) now))
    → KeepsRows old mid → OnlyRegs mid new → before ≡ mid.regs.items → new.regs.items ≡ after → IsPut Holds on to 0 before after
    → ((k word : ℕ) (stores : List StoreWords) (state : FlatState) (at : Coord) (moment : Moment) (now : Moved) → k < 32 → Holds k word → Sees stores state → IsMoved stores at (column mid k moment) now
    → IsNamedAccess (shapes_of stores) (access now) → word ≡ value (seen_in stores state at) now)
    → AllMove act on old new
reads_done old mid new before after on to Holds value access act is keeps only was made has same =
    told_done old mid new before after on to Holds value (λ now. now.accesses ++ access now ∷ []) act (λ stores now. IsNamedAccess (shapes_of stores) (access now)) is
    (λ stores now named. named_before stores now.accesses (access now) named) keeps only was made has
    (λ k word stores state at moment now small there holds sees moved told. same k word stores state at moment now small holds sees moved told)

-- ---- variables

-- nothing of a batch but its variables is another
pub record OnlyVars (old new : Batch) : Type 0 where
  pub lacks : new.lacks ≡ old.lacks
  pub regs : new.regs ≡ old.regs
  pub places : new.places ≡ old.places
  pub moments : new.moments.items ≡ old.moments.items

-- where variables have become others
vars_moved : (stores : List StoreWords) (at : Coord) (old new : Batch) (k : ℕ) (moment : Moment) (now : Moved) (vars : ℕ → ℕ) → OnlyVars old new → ((number : ℕ) → item_in new.vars.items 0 k number ≡ vars number)
    → IsMoved stores at (column old k moment) now → IsMoved stores at (column new k moment) (record now { vars = vars })
vars_moved stores at old new k moment now vars only are moved = record {
  stores_are = ap (λ it. it.stores) only.places ∙ moved.stores_are;
  regs_are = λ number. ap (λ it. item_in it.items 0 k number) only.regs ∙ moved.regs_are number;
  vars_are = are;
  places_are = λ p. subst (λ held. HoldsPlace stores held (now.places p)) (sym (ap (λ it. item_in it.list None k p) only.places)) (moved.places_are p);
  cells_over = moved.cells_over;
  at_is = moved.at_is;
  writes_are = moved.writes_are;
  own_at = moved.own_at;
  wants_are = moved.wants_are;
}

-- variables become words that are the values of how far the run has come
pub vars_done : (old mid new : Batch) (before after : List ℕ) (on : ℕ → Type 0) (to : ℕ) (Holds : ℕ → ℕ → Type 0) (value : Seen → Moved → ℕ) (act : Seen → Moved → Moved) → ((seen : Seen) (now : Moved) → act seen now ≡ set_var_word to (value seen now) now)
    → KeepsRows old mid → OnlyVars mid new → before ≡ mid.vars.items → new.vars.items ≡ after → IsPut Holds on to 0 before after
    → ((k word : ℕ) (stores : List StoreWords) (state : FlatState) (at : Coord) (moment : Moment) (now : Moved) → k < 32 → Holds k word → Sees stores state → IsMoved stores at (column mid k moment) now → word ≡ value (seen_in stores state at) now)
    → AllMove act on old new
vars_done old mid new before_items after_items on to Holds value act is keeps only was made has_made same =
    let has_before : IsPut Holds on to 0 before_items new.vars.items = subst (λ (items : List ℕ). IsPut Holds on to 0 before_items items) (sym made) has_made in
    let has : IsPut Holds on to 0 mid.vars.items new.vars.items = subst (λ (items : List ℕ). IsPut Holds on to 0 items new.vars.items) was has_before in
    kept_then act on old mid new keeps (record {
      over = over_same mid new only.moments (ap (λ it. it.stores) only.places);
      long = ap length only.moments;
      among = λ k before after at small inside.
          subst (λ (m : Moment). Moves act (column mid k before) (column new k m)) (same_at mid new only.moments k before after at)
          (record {
            kept = λ lacks. sym only.lacks ∙ lacks;
            follows = λ stores state here sees now follows.
                as_moved (sym (is (seen_in stores state here) now))
                (λ lacks named.
                let moved = follows (sym only.lacks ∙ lacks) named in
                vars_moved stores here mid new k before now (put to (value (seen_in stores state here) now) now.vars) only
                (put_there (λ (a b : ℕ). a ≡ b) Holds on to 0 mid.vars.items new.vars.items k (value (seen_in stores state here) now) now.vars small has
                (same k (item_in new.vars.items 0 k to) stores state here before now small (has.there k small inside) sees moved) moved.vars_are) moved);
          });
      others = λ k before after at small out.
          subst (λ (m : Moment). Stays (column mid k before) (column new k m)) (same_at mid new only.moments k before after at)
          (record {
            kept = λ lacks. sym only.lacks ∙ lacks;
            follows = λ stores state here sees now follows lacks named.
                let moved = follows (sym only.lacks ∙ lacks) named in
                vars_moved stores here mid new k before now now.vars only (λ number. other_item Holds on to 0 mid.vars.items new.vars.items k number has small (λ (it : (number ≡ to) × on k). out it.1) ∙ moved.vars_are number) moved;
          });
    })
