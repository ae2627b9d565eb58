-- What keeps words within limits, and what a slice wants then.
use Rattle.std.proofs.Common.{◌≡◌, ℕ, zero, suc, ◌+◌, ◌^◌, ◌<◌, ◌≤◌, drop-cons, add-one, Bool, true, false, ℤ, pos, negsuc, ◌-ℤ◌, ◌≤ℤ◌, ◌<ℤ◌, List, [], ◌∷◌, map, length, take, drop, get_or, fold, Some, refl, sym, ap, ◌∙◌, subst, arith}
use Rattle.std.specs.Prelude.{◌==◌, not, nat_lt, if◌then◌else◌, slice_get, Contains}
use Rattle.std.proofs.lemmas.Bool.{eqb-true, ltb-false, lt-ltb}
use Rattle.std.proofs.lemmas.Int.{ints}
use Rattle.std.proofs.lemmas.List.{drop_all}
use Rattle.std.proofs.lemmas.List.Elements.{All-nil, All-cons, All-append}
use lib.ListN.{length-map}
use Rattle.sg_words.specs.declared.operators.Ty.TheVariants as ty
use Rattle.sg_words.specs.Words.{number, word_of}
use Rattle.sg_coord.specs.declared.coord.Coord.{Coord}
use Rattle.sg_coord.specs.Bounds.{Bounds, IsBounds}
use Rattle.sg_coord.specs.Coord.{is_inside}
use Rattle.sg_coord.specs.Laws.{InsideTest}
use Rattle.sg_layout.specs.Axes.{bounds_of_shape}
use Rattle.sg_layout.specs.ClosureLaws.{PointsAreInside, DenseIsFull}
use Rattle.sg_layout.specs.Rules.{all_dense}
use Rattle.sg_flat.specs.Domain.{numbers}
use Rattle.sg_flat.specs.declared.state.FlatState.{FlatState}
use Rattle.sg_store.specs.StoreWords.{StoreWords}
use Rattle.sg_store.specs.StoreLaws.{CellsAreActive}
use Rattle.sg_store.specs.WellFormed.{IsWellFormed}
use Rattle.sg_ir.specs.declared.code.Inst.{Inst}
use Rattle.sg_ir.specs.declared.code.Inst.TheVariants as v
use Rattle.sg_ir.specs.declared.code.Inst.TheOpen as i
use Rattle.sg_ir.specs.Runs.{Seen, Moved, InstAction, actions_in_turn, coord_of, does, inst_step, iteration_start, part_words, put, runs, set_reg, set_var_word}
use Rattle.sg_ir.proofs.Uses.{by_inst, fold-Const, fold-Var, fold-Set, fold-Bin, fold-Un, fold-Mulq, fold-Root, fold-Check, fold-Extract, fold-Offset, fold-Child, fold-HashChild, fold-MaskBit, fold-DynCell, fold-ReadCell, fold-IsActive, fold-OwnRead, fold-OwnWrite, fold-Acc, fold-Want, fold-If, fold-For}
use Rattle.sg_ir.proofs.Uses.{does-Const, does-Var, does-Set, does-Bin, does-Un, does-Mulq, does-Root, does-Check, does-Extract, does-Offset, does-Child, does-HashChild, does-MaskBit, does-DynCell, does-ReadCell, does-IsActive, does-OwnRead, does-OwnWrite, does-Acc, does-Want, does-If, does-For}
use Rattle.sg_exec.specs.declared.activation.limits.Limits.{Limits}
use Rattle.sg_exec.specs.declared.workers.points.Most.{Most}
use Rattle.sg_exec.specs.steps.Machines.{seen_in}
use Rattle.sg_exec.specs.steps.Boxes.{IsUpToMost}
use Rattle.sg_exec.specs.steps.Limiting.{most_of, binds, past_step, sets_past, IsUpTo, IsIdleWant, AreLimited, BlockIsLimited, InstIsLimited, StartsLimited, StayDense, StayInside, WantsIdle}

le_keeps : (less most word : ℕ) → nat_lt most less ≡ false → IsUpTo less word → IsUpTo most word
le_keeps less most word test up low =
    let least : less ≤ most = ltb-false most less test in
    let under : less < 2 ^ 31 = omega (arith, least, low) in
    omega (arith, least, up under)

free_keeps : (most word : ℕ) → binds most ≡ false → IsUpTo most word
free_keeps most word free low = absurd (cc (free, lt-ltb most (2 ^ 31) low))

put_keeps : (list : List ℕ) (words : ℕ → ℕ) (to word : ℕ) → ((k : ℕ) → IsUpTo (most_of list k) (words k)) → IsUpTo (most_of list to) word → (k : ℕ) → IsUpTo (most_of list k) (put to word words k)
put_keeps list words to word all low k = by_test (k == to) refl
  where
    by_test : (test : Bool) → (k == to) ≡ test → IsUpTo (most_of list k) (if test then word else words k)
    by_test true e = subst (λ (n : ℕ). IsUpTo (most_of list n) word) (sym (eqb-true k to e)) low
    by_test false e = all k

module _ (stores : List StoreWords) (limits : Limits) where
  abbrev Limited : Moved → Type 0
  Limited = AreLimited stores limits

  reg_set : (to word : ℕ) (now : Moved) → IsUpTo (most_of limits.regs.items to) word → Limited now → Limited (set_reg to word now)
  reg_set to word now low is = record { regs = put_keeps limits.regs.items now.regs to word is.regs low; vars = is.vars; wants = is.wants }

  var_set : (var word : ℕ) (now : Moved) → IsUpTo (most_of limits.vars.items var) word → Limited now → Limited (set_var_word var word now)
  var_set var word now low is = record { regs = is.regs; vars = put_keeps limits.vars.items now.vars var word is.vars low; wants = is.wants }

  abbrev Keeps : Inst → Type 0
  Keeps inst = sets_past limits inst ≡ false → InstIsLimited stores limits inst

  leaf : (inst : Inst) (test : Bool) (act : Seen → InstAction) → sets_past limits inst ≡ test → ((seen : Seen) (now : Moved) → does seen inst now ≡ act seen now)
      → (test ≡ false → (seen : Seen) (now : Moved) → Limited now → Limited (act seen now)) → Keeps inst
  leaf inst test act same is holds kept seen now limited = subst (λ (m : Moved). AreLimited stores limits m) (sym (is seen now)) (holds (sym same ∙ kept) seen now limited)

  pub keeps_limits : (inst : Inst) → Keeps inst
  keeps_limits = by_inst Keeps
      (λ to word. leaf _ _ (λ seen. inst_step seen (i.Const to word)) (fold-Const (past_step limits) to word) (λ seen now. does-Const seen to word now)
      (λ test seen now is. reg_set to word now (λ low. ltb-false (most_of limits.regs.items to) word test) is))
      (λ to var. leaf _ _ (λ seen. inst_step seen (i.Var to var)) (fold-Var (past_step limits) to var) (λ seen now. does-Var seen to var now)
      (λ test seen now is. reg_set to (now.vars var) now (le_keeps (most_of limits.vars.items var) (most_of limits.regs.items to) (now.vars var) test (is.vars var)) is))
      (λ var from. leaf _ _ (λ seen. inst_step seen (i.Set var from)) (fold-Set (past_step limits) var from) (λ seen now. does-Set seen var from now)
      (λ test seen now is. var_set var (now.regs from) now (le_keeps (most_of limits.regs.items from) (most_of limits.vars.items var) (now.regs from) test (is.regs from)) is))
      (λ to op given a b. leaf _ _ (λ seen. inst_step seen (i.Bin to op given a b)) (fold-Bin (past_step limits) to op given a b) (λ seen now. does-Bin seen to op given a b now)
      (λ free seen now is. reg_set to _ now (free_keeps _ _ free) is))
      (λ to op given a. leaf _ _ (λ seen. inst_step seen (i.Un to op given a)) (fold-Un (past_step limits) to op given a) (λ seen now. does-Un seen to op given a now)
      (λ free seen now is. reg_set to _ now (free_keeps _ _ free) is))
      (λ to a b s. leaf _ _ (λ seen. inst_step seen (i.Mulq to a b s)) (fold-Mulq (past_step limits) to a b s) (λ seen now. does-Mulq seen to a b s now)
      (λ free seen now is. reg_set to _ now (free_keeps _ _ free) is))
      (λ to layout. leaf _ _ (λ seen. inst_step seen (i.Root to layout)) (fold-Root (past_step limits) to layout) (λ seen now. does-Root seen to layout now)
      (λ test seen now is. record { regs = is.regs; vars = is.vars; wants = is.wants }))
      (λ to place axis extent index. leaf _ _ (λ seen. inst_step seen (i.Check to place axis extent index)) (fold-Check (past_step limits) to place axis extent index) (λ seen now. does-Check seen to place axis extent index now)
      (λ test seen now is. record { regs = is.regs; vars = is.vars; wants = is.wants }))
      (λ to div size from. leaf _ _ (λ seen. inst_step seen (i.Extract to div size from)) (fold-Extract (past_step limits) to div size from) (λ seen now. does-Extract seen to div size from now)
      (λ free seen now is. reg_set to _ now (free_keeps _ _ free) is))
      (λ to high size low. leaf _ _ (λ seen. inst_step seen (i.Offset to high size low)) (fold-Offset (past_step limits) to high size low) (λ seen now. does-Offset seen to high size low now)
      (λ free seen now is. reg_set to _ now (free_keeps _ _ free) is))
      (λ to place node offset. leaf _ _ (λ seen. inst_step seen (i.Child to place node offset)) (fold-Child (past_step limits) to place node offset) (λ seen now. does-Child seen to place node offset now)
      (λ test seen now is. record { regs = is.regs; vars = is.vars; wants = is.wants }))
      (λ to place node offset. leaf _ _ (λ seen. inst_step seen (i.HashChild to place node offset)) (fold-HashChild (past_step limits) to place node offset) (λ seen now. does-HashChild seen to place node offset now)
      (λ test seen now is. record { regs = is.regs; vars = is.vars; wants = is.wants }))
      (λ to place node offset. leaf _ _ (λ seen. inst_step seen (i.MaskBit to place node offset)) (fold-MaskBit (past_step limits) to place node offset) (λ seen now. does-MaskBit seen to place node offset now)
      (λ test seen now is. record { regs = is.regs; vars = is.vars; wants = is.wants }))
      (λ to place node offset. leaf _ _ (λ seen. inst_step seen (i.DynCell to place node offset)) (fold-DynCell (past_step limits) to place node offset) (λ seen now. does-DynCell seen to place node offset now)
      (λ test seen now is. record { regs = is.regs; vars = is.vars; wants = is.wants }))
      (λ to place layout field index. leaf _ _ (λ seen. inst_step seen (i.ReadCell to place layout field index)) (fold-ReadCell (past_step limits) to place layout field index) (λ seen now. does-ReadCell seen to place layout field index now)
      (λ free seen now is. record { regs = put_keeps limits.regs.items now.regs to _ is.regs (free_keeps _ _ free); vars = is.vars; wants = is.wants }))
      (λ to place index. leaf _ _ (λ seen. inst_step seen (i.IsActive to place index)) (fold-IsActive (past_step limits) to place index) (λ seen now. does-IsActive seen to place index now)
      (λ free seen now is. record { regs = put_keeps limits.regs.items now.regs to _ is.regs (free_keeps _ _ free); vars = is.vars; wants = is.wants }))
      (λ to layout field. leaf _ _ (λ seen. inst_step seen (i.OwnRead to layout field)) (fold-OwnRead (past_step limits) to layout field) (λ seen now. does-OwnRead seen to layout field now)
      (λ free seen now is. reg_set to _ now (free_keeps _ _ free) is))
      (λ layout field from stmt. leaf _ _ (λ seen. inst_step seen (i.OwnWrite layout field from stmt)) (fold-OwnWrite (past_step limits) layout field from stmt) (λ seen now. does-OwnWrite seen layout field from stmt now)
      (λ test seen now is. record { regs = is.regs; vars = is.vars; wants = is.wants }))
      (λ op layout field place from index stmt. leaf _ _ (λ seen. inst_step seen (i.Acc op layout field place from index stmt)) (fold-Acc (past_step limits) op layout field place from index stmt) (λ seen now. does-Acc seen op layout field place from index stmt now)
      (λ test seen now is. record { regs = is.regs; vars = is.vars; wants = is.wants }))
      (λ layout index stmt kept. absurd (cc (fold-Want (past_step limits) layout index stmt, kept)))
      (λ cond block otherwise kept. absurd (cc (fold-If (past_step limits) cond block otherwise, kept)))
      (λ var lo hi body kept. absurd (cc (fold-For (past_step limits) var lo hi body, kept)))

  pub want_limited : (inst : Inst) (layout : ℕ) (index : List ℕ) (stmt : ℕ) → inst ≡ v.Want layout index stmt → WantsIdle stores limits layout index → InstIsLimited stores limits inst
  want_limited inst layout index stmt is idle seen now limited =
      subst (λ (m : Moved). AreLimited stores limits m) (sym (ap (λ (it : Inst). does seen it now) is ∙ does-Want seen layout index stmt now)) (record {
        regs = limited.regs;
        vars = limited.vars;
        wants = All-append (IsIdleWant stores) now.wants _ limited.wants (All-cons (IsIdleWant stores) _ [] (idle stmt now limited) (All-nil (IsIdleWant stores)));
      })

  branch : (test : Bool) (first second : List InstAction) (now : Moved) → Limited (actions_in_turn first now) → Limited (actions_in_turn second now) → Limited (actions_in_turn (if test then second else first) now)
  branch true first second now one other = other
  branch false first second now one other = one

  pub if_limited : (inst : Inst) (cond : ℕ) (block otherwise : List Inst) → inst ≡ v.If cond block otherwise → BlockIsLimited stores limits block → BlockIsLimited stores limits otherwise → InstIsLimited stores limits inst
  if_limited inst cond block otherwise is first second seen now limited =
      subst (λ (m : Moved). AreLimited stores limits m) (sym (ap (λ (it : Inst). does seen it now) is ∙ does-If seen cond block otherwise now))
      (branch (now.regs cond == 0) (map (does seen) block) (map (does seen) otherwise) now (first seen now limited) (second seen now limited))

  turns_limited : (seen : Seen) (var : ℕ) (body : List Inst) (turns : List ℤ) (now : Moved) → binds (most_of limits.vars.items var) ≡ false → BlockIsLimited stores limits body → Limited now
      → Limited (fold (λ (reached : Moved) (turn : ℤ). actions_in_turn (map (does seen) body) (set_var_word var (word_of turn) reached)) now turns)
  turns_limited seen var body [] now free each limited = limited
  turns_limited seen var body (turn ∷ turns) now free each limited =
      turns_limited seen var body turns (actions_in_turn (map (does seen) body) (set_var_word var (word_of turn) now)) free each
      (each seen (set_var_word var (word_of turn) now) (var_set var (word_of turn) now (free_keeps _ _ free) limited))

  pub for_limited : (inst : Inst) (var : ℕ) (lo hi : ℤ) (body : List Inst) → inst ≡ v.For var lo hi body → binds (most_of limits.vars.items var) ≡ false → BlockIsLimited stores limits body → InstIsLimited stores limits inst
  for_limited inst var lo hi body is free each seen now limited =
      subst (λ (m : Moved). AreLimited stores limits m) (sym (ap (λ (it : Inst). does seen it now) is ∙ does-For seen var lo hi body now))
      (turns_limited seen var body (numbers lo hi) now free each limited)

  -- one instruction more, from the end
  pub block_next : (block : List Inst) (k : ℕ) (inst : Inst) → k < length block → inst ≡ get_or block k inst → InstIsLimited stores limits inst → BlockIsLimited stores limits (drop (k + 1) block) → BlockIsLimited stores limits (drop k block)
  block_next block k inst below is one later = λ seen now limited.
      subst (λ (insts : List Inst). AreLimited stores limits (runs seen insts now)) (sym split) (later seen (does seen inst now) (one seen now limited))
    where
      split : drop k block ≡ inst ∷ drop (k + 1) block
      split = rw add-one (drop-cons block k inst below ∙ ap (λ (x : Inst). x ∷ drop (suc k) block) (sym is))

  pub block_end : (block : List Inst) (k : ℕ) → length block ≤ k → BlockIsLimited stores limits (drop k block)
  block_end block k past = subst (λ (insts : List Inst). BlockIsLimited stores limits insts) (sym (drop_all k block past)) (λ seen now limited. limited)

  -- a want at a coordinate that stays inside a layout of dense nodes
  pub idle : (layout : ℕ) (index : List ℕ) (store : StoreWords) → slice_get stores layout ≡ Some store → StayDense store → StayInside (bounds_of_shape store.shape) limits index → WantsIdle stores limits layout index
  idle layout index store there dense stay stmt now limited =
      let inside : is_inside (bounds_of_shape store.shape) (coord_of (map now.regs index)) ≡ true = stay now.regs limited.regs in
      record { store = store; there = there; inside = inside; active = dense (coord_of (map now.regs index)) inside }

-- a part that keeps below an extent is on its axis
low_number : (word most extent : ℕ) → IsUpTo most word → most < extent → extent ≤ 32768 → (pos 0 ≤ℤ number ty.I32 word) × (number ty.I32 word <ℤ pos extent)
low_number word most extent up below few =
    let low : word ≤ most = up (omega (arith, below, few)) in
    let small : word < 2 ^ 31 = omega (arith, low, below, few) in
    subst (λ (z : ℤ). (pos 0 ≤ℤ z) × (z <ℤ pos extent)) (sym (ap (λ (b : Bool). if b then pos word else (pos word -ℤ pos (2 ^ 32))) (lt-ltb word (2 ^ 31) small)))
    (omega (arith, ints), omega (arith, ints, low, below))

pub inside_within : (bounds : Bounds) (index : List ℕ) (words : ℕ → ℕ) (a b c : ℕ) → InsideTest → IsBounds bounds → length index ≡ bounds.n → a < bounds.a → b < bounds.b → c < bounds.c
    → IsUpTo a (get_or (map words index) 0 0) → IsUpTo b (get_or (map words index) 1 0) → IsUpTo c (get_or (map words index) 2 0) → is_inside bounds (coord_of (map words index)) ≡ true
inside_within bounds index words a b c law is long a_low b_low c_low a_up b_up c_up =
    let first = low_number (get_or (map words index) 0 0) a bounds.a a_up a_low is.a_most in
    let second = low_number (get_or (map words index) 1 0) b bounds.b b_up b_low is.b_most in
    let third = low_number (get_or (map words index) 2 0) c bounds.c c_up c_low is.c_most in
    (law bounds (coord_of (map words index))).1 (record {
      same_axes = length-map index words ∙ long;
      a_low = first.0;
      a_high = first.1;
      b_low = second.0;
      b_high = second.1;
      c_low = third.0;
      c_high = third.1;
    })

pub from_not : (b : Bool) → not b ≡ false → b ≡ true
from_not true e = refl
from_not false e = absurd (cc (e))

-- in a store of dense nodes every coordinate inside has a cell
pub dense_cells : (store : StoreWords) → DenseIsFull store.shape → CellsAreActive store → IsWellFormed store → PointsAreInside (bounds_of_shape store.shape) → InsideTest → all_dense store.shape.nodes ≡ true → StayDense store
dense_cells store full cells well inside test dense at is flat stands =
    (cells well flat stands at).1
    (subst (λ (all : List Coord). Contains all at) (sym (full dense flat.active).0 ∙ sym stands.is_flat.closed) ((inside at).1 ((test (bounds_of_shape store.shape) at).0 is)))

-- ---- the start of an iteration

word_low : (z : ℤ) (most : ℕ) → pos 0 ≤ℤ z → z ≤ℤ pos most → word_of z ≤ most
word_low (pos k) most low high = omega (arith, ints, high)
word_low (negsuc k) most low high = absurd (omega (arith, ints, low))

first_low : (n x y z most : ℕ) → x ≤ most → get_or (take n (x ∷ y ∷ z ∷ [])) 0 0 ≤ most
first_low zero x y z most low = omega arith
first_low (suc n) x y z most low = low

second_low : (n x y z most : ℕ) → y ≤ most → get_or (take n (x ∷ y ∷ z ∷ [])) 1 0 ≤ most
second_low zero x y z most low = omega arith
second_low (suc zero) x y z most low = omega arith
second_low (suc (suc n)) x y z most low = low

third_low : (n x y z most : ℕ) → z ≤ most → get_or (take n (x ∷ y ∷ z ∷ [])) 2 0 ≤ most
third_low zero x y z most low = omega arith
third_low (suc zero) x y z most low = omega arith
third_low (suc (suc zero)) x y z most low = omega arith
third_low (suc (suc (suc n))) x y z most low = low

none_there : (n k most : ℕ) → get_or (take {A = ℕ} n []) k 0 ≤ most
none_there zero k most = omega arith
none_there (suc n) k most = omega arith

later_low : (n x y z k most : ℕ) → get_or (take n (x ∷ y ∷ z ∷ [])) (suc (suc (suc k))) 0 ≤ most
later_low zero x y z k most = omega arith
later_low (suc zero) x y z k most = omega arith
later_low (suc (suc zero)) x y z k most = omega arith
later_low (suc (suc (suc n))) x y z k most = none_there n k most

pub start_limited : (stores : List StoreWords) (limits : Limits) (most : Most) (state : FlatState) (at : Coord) → StartsLimited limits most → IsUpToMost most at → AreLimited stores limits (iteration_start (seen_in stores state at))
start_limited stores limits most state at starts up = record {
  regs = λ reg low. omega arith;
  vars = vars;
  wants = All-nil (IsIdleWant stores);
}
  where
    vars : (var : ℕ) → IsUpTo (most_of limits.vars.items var) (get_or (part_words at) var 0)
    vars zero low = omega (arith, starts.a, first_low at.n (word_of at.a) (word_of at.b) (word_of at.c) most.a (word_low at.a most.a up.a_low up.a_high))
    vars (suc zero) low = omega (arith, starts.b, second_low at.n (word_of at.a) (word_of at.b) (word_of at.c) most.b (word_low at.b most.b up.b_low up.b_high))
    vars (suc (suc zero)) low = omega (arith, starts.c, third_low at.n (word_of at.a) (word_of at.b) (word_of at.c) most.c (word_low at.c most.c up.c_low up.c_high))
    vars (suc (suc (suc var))) low = later_low at.n (word_of at.a) (word_of at.b) (word_of at.c) var (most_of limits.vars.items (suc (suc (suc var))))
