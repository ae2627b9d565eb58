-- A well-typed block without what isn't kept is well typed.
use Rattle.std.specs.Prelude.{◌≡◌, refl, ℕ, ℤ, Bool, true, false, not, ◌&&◌, ◌||◌, ◌==◌, nat_lt, List, [], ◌∷◌, length, slice_get, Option, Some, None, option_map}
use Rattle.std.specs.List.{list_all}
use Rattle.std.proofs.Common.{ap, ◌∙◌}
use Rattle.std.proofs.lemmas.Bool.{and_parts, and_from}
use Rattle.sg_words.specs.declared.operators.Ty.{Ty}
use Rattle.sg_layout.specs.declared.shape.Shape.{Shape}
use Rattle.sg_ir.specs.declared.op.Op.{Op}
use Rattle.sg_ir.specs.declared.op.Op.TheVariants as op
use Rattle.sg_ir.specs.declared.op.Step.{Step}
use Rattle.sg_ir.specs.declared.op.Step.TheVariants as step
use Rattle.sg_ir.specs.Blocks.{Sight, Value, Activity, sight_op, Block, End, Word, Spot, Cell, Do, Branch, Loop, Act, SetVar, WriteOwn, Contribute, Wish}
use Rattle.sg_ir.specs.WellTyped.{KnownPlace, Scope, Frame, with_reg, with_var, is_truth, is_truth_as, reads, indexes, is_i32, takes_truth, is_lnot, holds_of, checkable, descends, is_cell}
use Rattle.sg_ir.specs.InScope.{AreSet, op_regs, op_places, step_regs, step_places, act_regs, act_places}
use Rattle.sg_simplify.specs.steps.Judged.{gives_type, field_truth, truth_of, operands_fit, index_fits, way_by, step_reads, step_known, and_known, act_fits, behind_act, is_no_read, fits_scope, sight_fits}
use Rattle.sg_simplify.specs.Kept.{Keep, behind_where, is_end, keeps_act, kept_part, op_vars, ReadsKept}
use Rattle.sg_simplify.proofs.KeptTests.{both_if, past}

and_same : (a b c d : Bool) → a ≡ b → c ≡ d → (a && c) ≡ (b && d)
and_same a b c d e f = ap (λ x. x && c) e ∙ ap (λ x. b && x) f

module _ (keep : Keep) (shapes : List Shape) (types : List Ty) (room : ℕ) (var_types : List Ty) (setters counts : ℕ → ℕ) (same : (v : ℕ) → keep.vars v ≡ true → counts v ≡ setters v) where
  abbrev at : Frame
  at = record { shapes = shapes; regs = types; places = room; vars = var_types; setters = setters }

  abbrev narrow : Frame
  narrow = record { shapes = shapes; regs = types; places = room; vars = var_types; setters = counts }

  -- the same is set, so far as it is kept
  pub record SameScope (scope few : Scope) : Type 0 where
    pub regs : (r : ℕ) → keep.regs r ≡ true → few.regs r ≡ scope.regs r
    pub places : (p : ℕ) → keep.places p ≡ true → few.places p ≡ scope.places p
    pub vars : (v : ℕ) → keep.vars v ≡ true → few.vars v ≡ scope.vars v

  reg_both : (to : ℕ) (scope few : Scope) → SameScope scope few → SameScope (with_reg to scope) (with_reg to few)
  reg_both to scope few agree = record { regs = λ r is. both_if (r == to) true true (few.regs r) (scope.regs r) refl (agree.regs r is); places = agree.places; vars = agree.vars }

  reg_past : (to : ℕ) (scope few : Scope) → keep.regs to ≡ false → SameScope scope few → SameScope (with_reg to scope) few
  reg_past to scope few off agree = record { regs = λ r is. past keep.regs to r true (scope.regs r) (few.regs r) off is (agree.regs r is); places = agree.places; vars = agree.vars }

  var_both : (var : ℕ) (scope few : Scope) → SameScope scope few → SameScope (with_var var scope) (with_var var few)
  var_both var scope few agree = record { regs = agree.regs; places = agree.places; vars = λ v is. both_if (v == var) true true (few.vars v) (scope.vars v) refl (agree.vars v is) }

  var_past : (var : ℕ) (scope few : Scope) → keep.vars var ≡ false → SameScope scope few → SameScope (with_var var scope) few
  var_past var scope few off agree = record { regs = agree.regs; places = agree.places; vars = λ v is. past keep.vars var v true (scope.vars v) (few.vars v) off is (agree.vars v is) }

  place_both : (to : ℕ) (known other : Option KnownPlace) (scope few : Scope) → other ≡ known → SameScope scope few → SameScope (and_known to known scope) (and_known to other few)
  place_both to None None scope few e agree = agree
  place_both to None (Some other) scope few e agree = absurd (cc)
  place_both to (Some known) None scope few e agree = absurd (cc)
  place_both to (Some known) (Some other) scope few e agree = record { regs = agree.regs; places = λ p is. both_if (p == to) (Some other) (Some known) (few.places p) (scope.places p) e (agree.places p is); vars = agree.vars }

  place_past : (to : ℕ) (known : Option KnownPlace) (scope few : Scope) → keep.places to ≡ false → SameScope scope few → SameScope (and_known to known scope) few
  place_past to None scope few off agree = agree
  place_past to (Some known) scope few off agree = record { regs = agree.regs; places = λ p is. past keep.places to p (Some known) (scope.places p) (few.places p) off is (agree.places p is); vars = agree.vars }

  reads_same : (scope few : Scope) → SameScope scope few → (truth : Bool) (r : ℕ) → keep.regs r ≡ true → reads narrow few truth r ≡ reads at scope truth r
  reads_same scope few agree truth r on = and_same (few.regs r) (scope.regs r) (is_truth_as truth (slice_get types r)) (is_truth_as truth (slice_get types r)) (agree.regs r on) refl

  all_same : (scope few : Scope) → SameScope scope few → (index : List ℕ) → AreSet keep.regs index → list_all (reads narrow few false) index ≡ list_all (reads at scope false) index
  all_same scope few agree [] set = refl
  all_same scope few agree (r ∷ index) set =
      and_same (reads narrow few false r) (reads at scope false r) (list_all (reads narrow few false) index) (list_all (reads at scope false) index) (reads_same scope few agree false r set.0) (all_same scope few agree index set.1)

  index_same : (scope few : Scope) → SameScope scope few → (index : List ℕ) → AreSet keep.regs index → (shape : Option Shape) → holds_of (λ s. indexes narrow few s index) shape ≡ holds_of (λ s. indexes at scope s index) shape
  index_same scope few agree index set None = refl
  index_same scope few agree index set (Some shape) = and_same (length index == shape.axes) (length index == shape.axes) (list_all (reads narrow few false) index) (list_all (reads at scope false) index) refl (all_same scope few agree index set)

  op_same : (scope few : Scope) → SameScope scope few → (how : Op) → AreSet keep.regs (op_regs how) → AreSet keep.places (op_places how) → AreSet keep.vars (op_vars how) → operands_fit narrow few how ≡ operands_fit at scope how
  op_same scope few agree (op.Const word truth) rs ps vs = refl
  op_same scope few agree (op.Var var) rs ps vs = agree.vars var vs.0
  op_same scope few agree (op.Bin how kind a b) rs ps vs =
      and_same (reads narrow few (takes_truth how) a) (reads at scope (takes_truth how) a) (reads narrow few (takes_truth how) b) (reads at scope (takes_truth how) b)
      (reads_same scope few agree (takes_truth how) a rs.0) (reads_same scope few agree (takes_truth how) b rs.1.0)
  op_same scope few agree (op.Un how kind a) rs ps vs = reads_same scope few agree (is_lnot how) a rs.0
  op_same scope few agree (op.Mulq a b s) rs ps vs =
      and_same (reads narrow few false a) (reads at scope false a) (reads narrow few false b && reads narrow few false s) (reads at scope false b && reads at scope false s) (reads_same scope few agree false a rs.0)
      (and_same (reads narrow few false b) (reads at scope false b) (reads narrow few false s) (reads at scope false s) (reads_same scope few agree false b rs.1.0) (reads_same scope few agree false s rs.1.1.0))
  op_same scope few agree (op.Extract div size from) rs ps vs =
      ap (λ x. nat_lt 0 div && (nat_lt 0 size && x)) (reads_same scope few agree false from rs.0)
  op_same scope few agree (op.Offset high size low) rs ps vs =
      ap (λ x. nat_lt 0 size && x)
      (and_same (reads narrow few false high) (reads at scope false high) (reads narrow few false low) (reads at scope false low) (reads_same scope few agree false high rs.0) (reads_same scope few agree false low rs.1.0))
  op_same scope few agree (op.Read place layout field) rs ps vs = ap (holds_of (is_cell at layout)) (agree.places place ps.0)
  op_same scope few agree (op.Active place) rs ps vs = ap (holds_of (λ (known : KnownPlace). is_cell at known.layout known)) (agree.places place ps.0)
  op_same scope few agree (op.OwnRead layout field) rs ps vs = refl

  -- what sees something at a place, and its index registers
  sight_same : (scope few : Scope) → SameScope scope few → (place : ℕ) (sight : Sight) → keep.places place ≡ true → operands_fit narrow few (sight_op place sight) ≡ operands_fit at scope (sight_op place sight)
  sight_same scope few agree place (Value layout field) on = op_same scope few agree (op.Read place layout field) tt (on, tt) tt
  sight_same scope few agree place Activity on = op_same scope few agree (op.Active place) tt (on, tt) tt

  named_same : (scope few : Scope) → SameScope scope few → (place : ℕ) (sight : Sight) (index : List ℕ) → keep.places place ≡ true → AreSet keep.regs index
      → sight_fits narrow few place sight index ≡ sight_fits at scope place sight index
  named_same scope few agree place (Value layout field) index on set = index_same scope few agree index set (slice_get shapes layout)
  named_same scope few agree place Activity index on set =
      ap (holds_of (λ (known : KnownPlace). index_fits narrow few known.layout index)) (agree.places place on) ∙ by_known (scope.places place)
    where
      by_known : (found : Option KnownPlace) → holds_of (λ known. index_fits narrow few known.layout index) found ≡ holds_of (λ known. index_fits at scope known.layout index) found
      by_known None = refl
      by_known (Some known) = index_same scope few agree index set (slice_get shapes known.layout)

  step_same : (scope few : Scope) → SameScope scope few → (how : Step) → AreSet keep.regs (step_regs how) → AreSet keep.places (step_places how) → step_reads narrow few how ≡ step_reads at scope how
  step_same scope few agree (step.Root layout) rs ps = refl
  step_same scope few agree (step.Check place axis extent index) rs ps =
      ap (λ x. nat_lt 0 extent && x)
      (and_same (holds_of (checkable at axis extent) (few.places place)) (holds_of (checkable at axis extent) (scope.places place)) (reads narrow few false index) (reads at scope false index)
      (ap (holds_of (checkable at axis extent)) (agree.places place ps.0)) (reads_same scope few agree false index rs.0))
  step_same scope few agree (step.Down descent place node offset) rs ps =
      and_same (holds_of (descends at (way_by descent) node) (few.places place)) (holds_of (descends at (way_by descent) node) (scope.places place)) (reads narrow few false offset) (reads at scope false offset)
      (ap (holds_of (descends at (way_by descent) node)) (agree.places place ps.0)) (reads_same scope few agree false offset rs.0)

  known_same : (scope few : Scope) → SameScope scope few → (how : Step) → AreSet keep.places (step_places how) → step_known few how ≡ step_known scope how
  known_same scope few agree (step.Root layout) ps = refl
  known_same scope few agree (step.Check place axis extent index) ps = ap (option_map (λ (known : KnownPlace). record { layout = known.layout; passed = 0 })) (agree.places place ps.0)
  known_same scope few agree (step.Down descent place node offset) ps = ap (option_map (λ (known : KnownPlace). record { layout = known.layout; passed = node })) (agree.places place ps.0)

  act_same : (scope few : Scope) → SameScope scope few → (what : Act) → AreSet keep.regs (act_regs what) → AreSet keep.places (act_places what) → act_fits narrow few what ≡ act_fits at scope what
  act_same scope few agree (SetVar var from) rs ps = ap (λ x. x && gives_type (option_map is_truth (slice_get var_types var)) (slice_get types from)) (agree.regs from rs.0)
  act_same scope few agree (WriteOwn layout field from stmt) rs ps = ap (λ x. x && gives_type (field_truth shapes layout field) (slice_get types from)) (agree.regs from rs.0)
  act_same scope few agree (Contribute how layout field place from index stmt) rs ps =
      and_same (holds_of (is_cell at layout) (few.places place)) (holds_of (is_cell at layout) (scope.places place)) _ _ (ap (holds_of (is_cell at layout)) (agree.places place ps.0))
      (and_same (few.regs from) (scope.regs from) _ _ (agree.regs from rs.0)
      (ap (λ x. gives_type (field_truth shapes layout field) (slice_get types from) && x) (index_same scope few agree index rs.1 (slice_get shapes layout))))
  act_same scope few agree (Wish layout index stmt) rs ps = index_same scope few agree index rs (slice_get shapes layout)

  act_both : (what : Act) (scope few : Scope) → SameScope scope few → SameScope (behind_act what scope) (behind_act what few)
  act_both (SetVar var from) scope few agree = var_both var scope few agree
  act_both (WriteOwn layout field from stmt) scope few agree = agree
  act_both (Contribute how layout field place from index stmt) scope few agree = agree
  act_both (Wish layout index stmt) scope few agree = agree

  act_past : (what : Act) (scope few : Scope) → keeps_act keep what ≡ false → SameScope scope few → SameScope (behind_act what scope) few
  act_past (SetVar var from) scope few off agree = var_past var scope few off agree
  act_past (WriteOwn layout field from stmt) scope few off agree = agree
  act_past (Contribute how layout field place from index stmt) scope few off agree = agree
  act_past (Wish layout index stmt) scope few off agree = agree

  abbrev StaysTyped : Block → Type 0
  StaysTyped block = (scope few : Scope) → SameScope scope few → ReadsKept keep (kept_part keep block) → fits_scope at scope block ≡ true → fits_scope narrow few (kept_part keep block) ≡ true

  -- what fits here, and what follows, fit
  heads : (a b c d : Bool) → b ≡ a → (a && c) ≡ true → (c ≡ true → d ≡ true) → (b && d) ≡ true
  heads true true c d e h more = more h
  heads true false c d e h more = absurd (cc)
  heads false b c d e h more = absurd (cc)

  tails : (a c d : Bool) → (a && c) ≡ true → (c ≡ true → d ≡ true) → d ≡ true
  tails true c d h more = more h
  tails false c d h more = absurd (cc)

  word_typed : (to : ℕ) (how : Op) (rest : Block) → StaysTyped rest → StaysTyped (Word to how rest)
  word_typed to how rest more scope few agree reads e = by_test (keep.regs to) refl reads
    where
      by_test : (test : Bool) → keep.regs to ≡ test → ReadsKept keep (behind_where test (Word to how) (kept_part keep rest)) → fits_scope narrow few (behind_where test (Word to how) (kept_part keep rest)) ≡ true
      by_test true is read =
          heads (is_no_read how && (operands_fit at scope how && gives_type (truth_of shapes var_types how) (slice_get types to))) (is_no_read how && (operands_fit narrow few how && gives_type (truth_of shapes var_types how) (slice_get types to)))
          (fits_scope at (with_reg to scope) rest) (fits_scope narrow (with_reg to few) (kept_part keep rest))
          (ap (λ x. is_no_read how && (x && gives_type (truth_of shapes var_types how) (slice_get types to))) (op_same scope few agree how read.0 read.1 read.2)) e
          (λ f. more (with_reg to scope) (with_reg to few) (reg_both to scope few agree) read.3 f)
      by_test false is read =
          tails (is_no_read how && (operands_fit at scope how && gives_type (truth_of shapes var_types how) (slice_get types to))) (fits_scope at (with_reg to scope) rest) (fits_scope narrow few (kept_part keep rest)) e
          (λ f. more (with_reg to scope) few (reg_past to scope few is agree) read f)

  spot_typed : (to : ℕ) (how : Step) (rest : Block) → StaysTyped rest → StaysTyped (Spot to how rest)
  spot_typed to how rest more scope few agree reads e = by_test (keep.places to) refl reads
    where
      by_test : (test : Bool) → keep.places to ≡ test → ReadsKept keep (behind_where test (Spot to how) (kept_part keep rest)) → fits_scope narrow few (behind_where test (Spot to how) (kept_part keep rest)) ≡ true
      by_test true is read =
          heads (nat_lt to room && step_reads at scope how) (nat_lt to room && step_reads narrow few how)
          (fits_scope at (and_known to (step_known scope how) scope) rest) (fits_scope narrow (and_known to (step_known few how) few) (kept_part keep rest))
          (ap (λ x. nat_lt to room && x) (step_same scope few agree how read.0 read.1)) e
          (λ f. more (and_known to (step_known scope how) scope) (and_known to (step_known few how) few) (place_both to (step_known scope how) (step_known few how) scope few (known_same scope few agree how read.1) agree) read.2 f)
      by_test false is read =
          tails (nat_lt to room && step_reads at scope how) (fits_scope at (and_known to (step_known scope how) scope) rest) (fits_scope narrow few (kept_part keep rest)) e
          (λ f. more (and_known to (step_known scope how) scope) few (place_past to (step_known scope how) scope few is agree) read f)

  cell_typed : (to place : ℕ) (sight : Sight) (index : List ℕ) (rest : Block) → StaysTyped rest → StaysTyped (Cell to place sight index rest)
  cell_typed to place sight index rest more scope few agree reads e = by_test (keep.regs to) refl reads
    where
      fits : Bool → Bool → Bool
      fits there named = there && (gives_type (truth_of shapes var_types (sight_op place sight)) (slice_get types to) && named)

      by_test : (test : Bool) → keep.regs to ≡ test → ReadsKept keep (behind_where test (Cell to place sight index) (kept_part keep rest))
          → fits_scope narrow few (behind_where test (Cell to place sight index) (kept_part keep rest)) ≡ true
      by_test true is read =
          heads (fits (operands_fit at scope (sight_op place sight)) (sight_fits at scope place sight index)) (fits (operands_fit narrow few (sight_op place sight)) (sight_fits narrow few place sight index))
          (fits_scope at (with_reg to scope) rest) (fits_scope narrow (with_reg to few) (kept_part keep rest))
          (ap (λ x. fits x (sight_fits narrow few place sight index)) (sight_same scope few agree place sight read.1)
          ∙ ap (fits (operands_fit at scope (sight_op place sight))) (named_same scope few agree place sight index read.1 read.0)) e
          (λ f. more (with_reg to scope) (with_reg to few) (reg_both to scope few agree) read.2 f)
      by_test false is read =
          tails (fits (operands_fit at scope (sight_op place sight)) (sight_fits at scope place sight index)) (fits_scope at (with_reg to scope) rest) (fits_scope narrow few (kept_part keep rest)) e
          (λ f. more (with_reg to scope) few (reg_past to scope few is agree) read f)

  do_typed : (what : Act) (rest : Block) → StaysTyped rest → StaysTyped (Do what rest)
  do_typed what rest more scope few agree reads e = by_test (keeps_act keep what) refl reads
    where
      by_test : (test : Bool) → keeps_act keep what ≡ test → ReadsKept keep (behind_where test (Do what) (kept_part keep rest)) → fits_scope narrow few (behind_where test (Do what) (kept_part keep rest)) ≡ true
      by_test true is read =
          heads (act_fits at scope what) (act_fits narrow few what) (fits_scope at (behind_act what scope) rest) (fits_scope narrow (behind_act what few) (kept_part keep rest))
          (act_same scope few agree what read.0 read.1) e (λ f. more (behind_act what scope) (behind_act what few) (act_both what scope few agree) read.2 f)
      by_test false is read =
          tails (act_fits at scope what) (fits_scope at (behind_act what scope) rest) (fits_scope narrow few (kept_part keep rest)) e
          (λ f. more (behind_act what scope) few (act_past what scope few is agree) read f)

  branch_typed : (cond : ℕ) (block otherwise rest : Block) → StaysTyped block → StaysTyped otherwise → StaysTyped rest → StaysTyped (Branch cond block otherwise rest)
  branch_typed cond block otherwise rest one two more scope few agree reads_kept e =
      let first = and_parts (reads at scope true cond && (fits_scope at scope block && fits_scope at scope otherwise)) (fits_scope at scope rest) e in
      let second = and_parts (reads at scope true cond) (fits_scope at scope block && fits_scope at scope otherwise) first.0 in
      let third = and_parts (fits_scope at scope block) (fits_scope at scope otherwise) second.1 in
      by_test (is_end (kept_part keep block) && is_end (kept_part keep otherwise)) reads_kept second.0 third.0 third.1 first.1
    where
      by_test : (none : Bool) → ReadsKept keep (behind_where (not none) (Branch cond (kept_part keep block) (kept_part keep otherwise)) (kept_part keep rest))
          → reads at scope true cond ≡ true → fits_scope at scope block ≡ true → fits_scope at scope otherwise ≡ true → fits_scope at scope rest ≡ true
          → fits_scope narrow few (behind_where (not none) (Branch cond (kept_part keep block) (kept_part keep otherwise)) (kept_part keep rest)) ≡ true
      by_test true read a b c d = more scope few agree read d
      by_test false read a b c d =
          and_from (reads narrow few true cond && (fits_scope narrow few (kept_part keep block) && fits_scope narrow few (kept_part keep otherwise))) (fits_scope narrow few (kept_part keep rest))
          (and_from (reads narrow few true cond) (fits_scope narrow few (kept_part keep block) && fits_scope narrow few (kept_part keep otherwise)) (reads_same scope few agree true cond read.0 ∙ a)
          (and_from (fits_scope narrow few (kept_part keep block)) (fits_scope narrow few (kept_part keep otherwise)) (one scope few agree read.1 b) (two scope few agree read.2 c)))
          (more scope few agree read.3 d)

  loop_typed : (var : ℕ) (lo hi : ℤ) (body rest : Block) → StaysTyped body → StaysTyped rest → StaysTyped (Loop var lo hi body rest)
  loop_typed var lo hi body rest turn more scope few agree reads_kept e =
      let first = and_parts (holds_of is_i32 (slice_get var_types var) && ((setters var == 1) && fits_scope at (with_var var scope) body)) (fits_scope at scope rest) e in
      let second = and_parts (holds_of is_i32 (slice_get var_types var)) ((setters var == 1) && fits_scope at (with_var var scope) body) first.0 in
      let third = and_parts (setters var == 1) (fits_scope at (with_var var scope) body) second.1 in
      by_test (keep.vars var || not (is_end (kept_part keep body))) reads_kept second.0 third.0 third.1 first.1
    where
      by_test : (test : Bool) → ReadsKept keep (behind_where test (Loop var lo hi (kept_part keep body)) (kept_part keep rest))
          → holds_of is_i32 (slice_get var_types var) ≡ true → (setters var == 1) ≡ true → fits_scope at (with_var var scope) body ≡ true → fits_scope at scope rest ≡ true
          → fits_scope narrow few (behind_where test (Loop var lo hi (kept_part keep body)) (kept_part keep rest)) ≡ true
      by_test true read a b c d =
          and_from (holds_of is_i32 (slice_get var_types var) && ((counts var == 1) && fits_scope narrow (with_var var few) (kept_part keep body))) (fits_scope narrow few (kept_part keep rest))
          (and_from (holds_of is_i32 (slice_get var_types var)) ((counts var == 1) && fits_scope narrow (with_var var few) (kept_part keep body)) a
          (and_from (counts var == 1) (fits_scope narrow (with_var var few) (kept_part keep body)) (ap (λ n. n == 1) (same var read.0) ∙ b)
          (turn (with_var var scope) (with_var var few) (var_both var scope few agree) read.1 c)))
          (more scope few agree read.2 d)
      by_test false read a b c d = more scope few agree read d

  pub kept_typed : (block : Block) → StaysTyped block
  kept_typed End = λ scope few agree reads e. refl
  kept_typed (Word to how rest) = word_typed to how rest (kept_typed rest)
  kept_typed (Spot to how rest) = spot_typed to how rest (kept_typed rest)
  kept_typed (Cell to place sight index rest) = cell_typed to place sight index rest (kept_typed rest)
  kept_typed (Do what rest) = do_typed what rest (kept_typed rest)
  kept_typed (Branch cond block otherwise rest) = branch_typed cond block otherwise rest (kept_typed block) (kept_typed otherwise) (kept_typed rest)
  kept_typed (Loop var lo hi body rest) = loop_typed var lo hi body rest (kept_typed body) (kept_typed rest)
