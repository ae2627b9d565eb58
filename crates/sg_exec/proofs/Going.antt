-- A run of code, instruction by instruction and turn by turn.
use Rattle.std.proofs.lemmas.Bool.Decides.{nat_tests}
use Rattle.std.proofs.Common.{Bool, true, false, ◌≡◌, ℕ, suc, ◌+◌, ◌<◌, ◌≤◌, List, [], ◌∷◌, map, length, drop, get_or, drop-cons, add-one, ℤ, pos, ◌+ℤ◌, ◌-ℤ◌, refl, sym, ap, ◌∙◌, subst, arith}
use Rattle.std.specs.Prelude.{Result, Ok, Err, OnOk, ◌==◌, if◌then◌else◌}
use Rattle.std.proofs.lemmas.List.{drop_all}
use Rattle.std.proofs.lemmas.List.FromFn.{length-map-range_with_len, get_or-map-range_with_len}
use Rattle.sg_words.specs.Words.{word_of}
use Rattle.sg_layout.specs.Axes.{count_of}
use Rattle.sg_flat.specs.Domain.{numbers}
use Rattle.sg_ir.specs.declared.code.Inst.{Inst}
use Rattle.sg_ir.specs.declared.code.Inst.TheVariants as v
use Rattle.sg_ir.specs.Runs.{Seen, Moved, InstAction, actions_in_turn, does, runs, set_var_word}
use Rattle.sg_ir.proofs.Uses.{does-If, does-For}
use Rattle.sg_coord.specs.declared.coord.Coord.{Coord}
use Rattle.sg_flat.specs.declared.state.FlatState.{FlatState}
use Rattle.sg_store.specs.StoreWords.{StoreWords}
use Rattle.sg_exec.specs.steps.Machines.{seen_in}
use Rattle.sg_exec.specs.steps.Moments.{Column, IsMoved, Follows, Moves, run_turns}
use Rattle.sg_exec.proofs.EarlierAccesses.{named_earlier}

-- something holds of how far a run has come from where the rest leads to the whole
pub record Going (Holds : Moved → Type 0) (rest : InstAction) (whole : Moved) : Type 0 where
  pub mid : Moved
  pub holds : Holds mid
  pub same : rest mid ≡ whole

pub going_start : (Holds : Moved → Type 0) (rest : InstAction) (now : Moved) → Holds now → Going Holds rest (rest now)
going_start Holds rest now holds = record { mid = now; holds = holds; same = refl }

pub going_next : (Holds Next : Moved → Type 0) (act rest next : InstAction) (whole : Moved) → ((mid : Moved) → rest mid ≡ next (act mid)) → Going Holds rest whole
    → ((mid : Moved) → Holds mid → Next (act mid)) → Going Next next whole
going_next Holds Next act rest next whole split going step =
    record { mid = act going.mid; holds = step going.mid going.holds; same = sym (split going.mid) ∙ going.same }

pub going_end : (Holds : Moved → Type 0) (rest : InstAction) (whole : Moved) → ((mid : Moved) → rest mid ≡ mid) → Going Holds rest whole → Holds whole
going_end Holds rest whole none going = subst Holds (sym (none going.mid) ∙ going.same) going.holds

-- ---- the instructions of a block

pub drop_item : {X : Type 0} (xs : List X) (i : ℕ) (x : X) → i < length xs → x ≡ get_or xs i x → drop i xs ≡ x ∷ drop (i + 1) xs
drop_item xs i x below at = rw add-one (drop-cons xs i x below ∙ ap (λ y. y ∷ drop (suc i) xs) (sym at))

pub runs_next : (seen : Seen) (block : List Inst) (i : ℕ) (inst : Inst) → i < length block → inst ≡ get_or block i inst
    → (mid : Moved) → runs seen (drop i block) mid ≡ runs seen (drop (i + 1) block) (does seen inst mid)
runs_next seen block i inst below at mid = ap (λ (insts : List Inst). runs seen insts mid) (drop_item block i inst below at)

pub runs_end : (seen : Seen) (block : List Inst) (i : ℕ) → length block ≤ i → (mid : Moved) → runs seen (drop i block) mid ≡ mid
runs_end seen block i past mid = ap (λ (insts : List Inst). runs seen insts mid) (drop_all i block past)

-- ---- the turns of an inner loop

numbers_next : (lo hi : ℤ) (k : ℕ) → k < count_of (hi -ℤ lo) → drop k (numbers lo hi) ≡ (lo +ℤ pos k) ∷ drop (k + 1) (numbers lo hi)
numbers_next lo hi k below =
    let long : k < length (numbers lo hi) = omega (arith, length-map-range_with_len (λ j. lo +ℤ pos j) 0 (count_of (hi -ℤ lo))) in
    rw add-one (drop-cons (numbers lo hi) k (pos 0) long
    ∙ ap (λ (z : ℤ). z ∷ drop (suc k) (numbers lo hi)) (get_or-map-range_with_len (λ j. lo +ℤ pos j) 0 (count_of (hi -ℤ lo)) k k (pos 0) below (omega arith)))

numbers_end : (lo hi : ℤ) (k : ℕ) → count_of (hi -ℤ lo) ≤ k → drop k (numbers lo hi) ≡ []
numbers_end lo hi k above = drop_all k (numbers lo hi) (omega (arith, length-map-range_with_len (λ j. lo +ℤ pos j) 0 (count_of (hi -ℤ lo))))

pub turns_next : (seen : Seen) (var : ℕ) (body : List Inst) (lo hi : ℤ) (k : ℕ) → k < count_of (hi -ℤ lo) → (mid : Moved) → run_turns seen var body mid (drop k (numbers lo hi))
    ≡ run_turns seen var body (runs seen body (set_var_word var (word_of (lo +ℤ pos k)) mid)) (drop (k + 1) (numbers lo hi))
turns_next seen var body lo hi k below mid = ap (run_turns seen var body mid) (numbers_next lo hi k below)

pub turns_end : (seen : Seen) (var : ℕ) (body : List Inst) (lo hi : ℤ) (k : ℕ) → count_of (hi -ℤ lo) ≤ k → (mid : Moved) → run_turns seen var body mid (drop k (numbers lo hi)) ≡ mid
turns_end seen var body lo hi k past mid = ap (run_turns seen var body mid) (numbers_end lo hi k past)

pub on_ok : {A E : Type 0} (P Q : Type 0) (answer : Result A E) → (P → Q) → OnOk answer P → OnOk answer Q
on_ok P Q (Ok a) f h = f h
on_ok P Q (Err e) f h = tt

-- what follows how far a run has come follows the same run by an equation
pub as_moved : {stores : List StoreWords} {at : Coord} {it : Column} {now next : Moved} → now ≡ next → Follows stores at it now → Follows stores at it next
as_moved {stores} {at} {it} is follows = subst (λ (moved : Moved). Follows stores at it moved) is follows

-- and a column that moved by an action moved by any that is the same
pub moves_by : {old new : Column} (act other : Seen → Moved → Moved) → ((seen : Seen) (now : Moved) → act seen now ≡ other seen now) → Moves act old new → Moves other old new
moves_by act other same step = record {
  kept = step.kept;
  follows = λ stores state at sees now follows. as_moved (same (seen_in stores state at) now) (step.follows stores state at sees now follows);
}

pub moves_inst : {old new : Column} (inst given : Inst) → inst ≡ given → Moves (λ seen. does seen given) old new → Moves (λ seen. does seen inst) old new
moves_inst inst given is step = moves_by (λ seen. does seen given) (λ seen. does seen inst) (λ seen now. ap (λ (it : Inst). does seen it now) (sym is)) step

-- and by an instruction that does the same from where the column was
pub moves_there : (old new : Column) (inst : Inst) (act : Seen → Moved → Moved)
    → ((stores : List StoreWords) (state : FlatState) (at : Coord) (now : Moved) → IsMoved stores at old now → act (seen_in stores state at) now ≡ does (seen_in stores state at) inst now)
    → Moves act old new → Moves (λ seen. does seen inst) old new
moves_there old new inst act same step = record {
  kept = step.kept;
  follows = λ stores state at sees now follows lacks named.
      let moved = follows (step.kept lacks) (named_earlier stores (seen_in stores state at) inst now named) in
      as_moved (same stores state at now moved) (step.follows stores state at sees now follows) lacks named;
}

-- ---- branches and inner loops

is_not : (word : ℕ) → (word ≡ 0 → ⊥) → (word == 0) ≡ false
is_not word not = grind (arith, nat_tests, not)

is_yes : (word : ℕ) → word ≡ 0 → (word == 0) ≡ true
is_yes word is = grind (arith, nat_tests, is)

branch_no : (seen : Seen) (block otherwise : List Inst) (now : Moved) (word : ℕ) → word ≡ 0 → actions_in_turn (if word == 0 then map (does seen) otherwise else map (does seen) block) now ≡ runs seen otherwise now
branch_no seen block otherwise now word is = ap (λ (test : Bool). actions_in_turn (if test then map (does seen) otherwise else map (does seen) block) now) (is_yes word is)

branch_yes : (seen : Seen) (block otherwise : List Inst) (now : Moved) (word : ℕ) → (word ≡ 0 → ⊥) → actions_in_turn (if word == 0 then map (does seen) otherwise else map (does seen) block) now ≡ runs seen block now
branch_yes seen block otherwise now word not = ap (λ (test : Bool). actions_in_turn (if test then map (does seen) otherwise else map (does seen) block) now) (is_not word not)

pub goes_otherwise : (seen : Seen) (now : Moved) (inst : Inst) (cond : ℕ) (block otherwise : List Inst) → inst ≡ v.If cond block otherwise → now.regs cond ≡ 0 → runs seen otherwise now ≡ does seen inst now
goes_otherwise seen now inst cond block otherwise is none =
    sym (ap (λ (it : Inst). does seen it now) is ∙ does-If seen cond block otherwise now ∙ branch_no seen block otherwise now (now.regs cond) none)

pub goes_in : (seen : Seen) (now : Moved) (inst : Inst) (cond : ℕ) (block otherwise : List Inst) → inst ≡ v.If cond block otherwise → (now.regs cond ≡ 0 → ⊥) → runs seen block now ≡ does seen inst now
goes_in seen now inst cond block otherwise is not =
    sym (ap (λ (it : Inst). does seen it now) is ∙ does-If seen cond block otherwise now ∙ branch_yes seen block otherwise now (now.regs cond) not)

pub goes_round : (seen : Seen) (now : Moved) (inst : Inst) (var : ℕ) (lo hi : ℤ) (body : List Inst) → inst ≡ v.For var lo hi body → run_turns seen var body now (numbers lo hi) ≡ does seen inst now
goes_round seen now inst var lo hi body is = sym (ap (λ (it : Inst). does seen it now) is ∙ does-For seen var lo hi body now)
