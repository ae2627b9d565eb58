-- A block without what isn't kept runs to the same writes and wants, and to the same words of the variables that are kept.
use Rattle.std.specs.Prelude.{◌≡◌, refl, ℕ, ◌==◌, Bool, true, false, not, ◌&&◌, ◌||◌, if◌then◌else◌, List, [], ◌∷◌, map, fold, Option, ℤ}
use Rattle.std.proofs.Common.{sym, subst}
use Rattle.sg_words.specs.Words.{word_of}
use Rattle.sg_flat.specs.Domain.{numbers}
use Rattle.sg_ir.specs.declared.op.Op.{Op}
use Rattle.sg_ir.specs.declared.op.Op.TheVariants as op
use Rattle.sg_ir.specs.declared.op.Step.{Step}
use Rattle.sg_ir.specs.declared.op.Step.TheVariants as step
use Rattle.sg_ir.specs.Runs.{Seen, Place}
use Rattle.sg_ir.specs.Blocks.{Sight, Value, Activity, sight_op, Block, End, Word, Spot, Cell, Do, Branch, Loop, Act, SetVar, WriteOwn, Contribute, Wish}
use Rattle.sg_ir.specs.InScope.{AreSet, op_regs, op_places, step_regs, step_places, act_regs, act_places}
use Rattle.sg_ir.specs.Scoped.{RunMoment, Room, room_reg, room_place, op_word, step_root, step_place, moment_after_act, at_turn, run}
use Rattle.sg_simplify.specs.Kept.{Keep, behind_where, is_end, keeps_act, kept_part, op_vars, ReadsKept}
use Rattle.sg_simplify.proofs.KeptTests.{both_if, past, end_is}

module _ (seen : Seen) (keep : Keep) where
  -- the same, so far as it is kept
  pub record SameRoom (room other : Room) : Type 0 where
    pub regs : (r : ℕ) → keep.regs r ≡ true → other.regs r ≡ room.regs r
    pub places : (p : ℕ) → keep.places p ≡ true → other.places p ≡ room.places p
    pub roots : (p : ℕ) → keep.places p ≡ true → other.roots p ≡ room.roots p

  pub record SameMoment (now other : RunMoment) : Type 0 where
    pub vars : (v : ℕ) → keep.vars v ≡ true → other.vars v ≡ now.vars v
    pub writes : other.writes ≡ now.writes
    pub wants : other.wants ≡ now.wants

  pub reg_both : (to w v : ℕ) (room other : Room) → v ≡ w → SameRoom room other → SameRoom (room_reg to w room) (room_reg to v other)
  reg_both to w v room other e same = record { regs = λ r is. both_if (r == to) v w (other.regs r) (room.regs r) e (same.regs r is); places = same.places; roots = same.roots }

  pub place_both : (to m n : ℕ) (w v : Option Place) (room other : Room) → n ≡ m → v ≡ w → SameRoom room other → SameRoom (room_place to m w room) (room_place to n v other)
  place_both to m n w v room other d e same = record {
    regs = same.regs;
    places = λ p is. both_if (p == to) v w (other.places p) (room.places p) e (same.places p is);
    roots = λ p is. both_if (p == to) n m (other.roots p) (room.roots p) d (same.roots p is);
  }

  pub reg_past : (to w : ℕ) (room other : Room) → keep.regs to ≡ false → SameRoom room other → SameRoom (room_reg to w room) other
  reg_past to w room other off same = record { regs = λ r is. past keep.regs to r w (room.regs r) (other.regs r) off is (same.regs r is); places = same.places; roots = same.roots }

  pub place_past : (to m : ℕ) (w : Option Place) (room other : Room) → keep.places to ≡ false → SameRoom room other → SameRoom (room_place to m w room) other
  place_past to m w room other off same = record {
    regs = same.regs;
    places = λ p is. past keep.places to p w (room.places p) (other.places p) off is (same.places p is);
    roots = λ p is. past keep.places to p m (room.roots p) (other.roots p) off is (same.roots p is);
  }

  pub op_same : (how : Op) (room other : Room) (now then_now : RunMoment) → AreSet keep.regs (op_regs how) → AreSet keep.places (op_places how) → AreSet keep.vars (op_vars how) → SameRoom room other → SameMoment now then_now
      → op_word seen other then_now how ≡ op_word seen room now how
  op_same (op.Const word truth) room other now later regs places vars same moment = refl
  op_same (op.Var var) room other now later regs places vars same moment = moment.vars var vars.0
  op_same (op.Bin how kind a b) room other now later regs places vars same moment = rw (same.regs a regs.0, same.regs b regs.1.0) refl
  op_same (op.Un how kind a) room other now later regs places vars same moment = rw (same.regs a regs.0) refl
  op_same (op.Mulq a b s) room other now later regs places vars same moment = rw (same.regs a regs.0, same.regs b regs.1.0, same.regs s regs.1.1.0) refl
  op_same (op.Extract div size from) room other now later regs places vars same moment = rw (same.regs from regs.0) refl
  op_same (op.Offset high size low) room other now later regs places vars same moment = rw (same.regs high regs.0, same.regs low regs.1.0) refl
  op_same (op.Read place layout field) room other now later regs places vars same moment = rw (same.places place places.0) refl
  op_same (op.Active place) room other now later regs places vars same moment = rw (same.places place places.0) refl
  op_same (op.OwnRead layout field) room other now later regs places vars same moment = rw (moment.writes) refl

  pub step_same : (how : Step) (room other : Room) → AreSet keep.regs (step_regs how) → AreSet keep.places (step_places how) → SameRoom room other → step_place seen other how ≡ step_place seen room how
  step_same (step.Root layout) room other regs places same = refl
  step_same (step.Check place axis extent index) room other regs places same = rw (same.places place places.0, same.regs index regs.0) refl
  step_same (step.Down descent place node offset) room other regs places same = rw (same.places place places.0, same.regs offset regs.0) refl

  pub root_same : (how : Step) (room other : Room) → AreSet keep.places (step_places how) → SameRoom room other → step_root other how ≡ step_root room how
  root_same (step.Root layout) room other places same = refl
  root_same (step.Check place axis extent index) room other places same = same.roots place places.0
  root_same (step.Down descent place node offset) room other places same = same.roots place places.0

  pub sight_same : (place : ℕ) (sight : Sight) (room other : Room) (now then_now : RunMoment) → keep.places place ≡ true → SameRoom room other → SameMoment now then_now
      → op_word seen other then_now (sight_op place sight) ≡ op_word seen room now (sight_op place sight)
  sight_same place (Value layout field) room other now later on same moment = op_same (op.Read place layout field) room other now later tt (on, tt) tt same moment
  sight_same place Activity room other now later on same moment = op_same (op.Active place) room other now later tt (on, tt) tt same moment

  pub words_same : (index : List ℕ) (room other : Room) → AreSet keep.regs index → SameRoom room other → map other.regs index ≡ map room.regs index
  words_same [] room other regs same = refl
  words_same (r ∷ index) room other regs same = rw (same.regs r regs.0, words_same index room other regs.1 same) refl

  pub act_same : (what : Act) (room other : Room) (now later : RunMoment) → AreSet keep.regs (act_regs what) → AreSet keep.places (act_places what) → SameRoom room other → SameMoment now later
      → SameMoment (moment_after_act seen room what now) (moment_after_act seen other what later)
  act_same (SetVar var from) room other now later regs places same moment = record {
    vars = λ v is. both_if (v == var) (other.regs from) (room.regs from) (later.vars v) (now.vars v) (same.regs from regs.0) (moment.vars v is);
    writes = moment.writes;
    wants = moment.wants;
  }
  act_same (WriteOwn layout field from stmt) room other now later regs places same moment = record { vars = moment.vars; writes = rw (moment.writes, same.regs from regs.0) refl; wants = moment.wants }
  act_same (Contribute how layout field place from index stmt) room other now later regs places same moment = record { vars = moment.vars; writes = rw (moment.writes, same.regs from regs.0, same.places place places.0) refl; wants = moment.wants }
  act_same (Wish layout index stmt) room other now later regs places same moment = record { vars = moment.vars; writes = moment.writes; wants = rw (moment.wants, words_same index room other regs same) refl }

  pub act_past : (what : Act) (room : Room) (now later : RunMoment) → keeps_act keep what ≡ false → SameMoment now later → SameMoment (moment_after_act seen room what now) later
  act_past (SetVar var from) room now later off moment = record { vars = λ v is. past keep.vars var v (room.regs from) (now.vars v) (later.vars v) off is (moment.vars v is); writes = moment.writes; wants = moment.wants }
  act_past (WriteOwn layout field from stmt) room now later off moment = absurd (cc)
  act_past (Contribute how layout field place from index stmt) room now later off moment = absurd (cc)
  act_past (Wish layout index stmt) room now later off moment = absurd (cc)

  pub turn_both : (var : ℕ) (turn : ℤ) (now later : RunMoment) → SameMoment now later → SameMoment (at_turn var turn now) (at_turn var turn later)
  turn_both var turn now later moment = record { vars = λ v is. both_if (v == var) (word_of turn) (word_of turn) (later.vars v) (now.vars v) refl (moment.vars v is); writes = moment.writes; wants = moment.wants }

  pub turn_past : (var : ℕ) (turn : ℤ) (now later : RunMoment) → keep.vars var ≡ false → SameMoment now later → SameMoment (at_turn var turn now) later
  turn_past var turn now later off moment = record { vars = λ v is. past keep.vars var v (word_of turn) (now.vars v) (later.vars v) off is (moment.vars v is); writes = moment.writes; wants = moment.wants }

  -- what is claimed of a block
  abbrev pub Keeps : Block → Type 0
  Keeps block = (room other : Room) (now later : RunMoment) → ReadsKept keep (kept_part keep block) → SameRoom room other → SameMoment now later → SameMoment (run seen block room now) (run seen (kept_part keep block) other later)

  -- a block of which nothing is left leaves what is kept as it is
  pub leaves : (block : Block) → Keeps block → is_end (kept_part keep block) ≡ true → (room : Room) (now later : RunMoment) → SameMoment now later → SameMoment (run seen block room now) later
  leaves block keeps e room now later moment =
      let none : kept_part keep block ≡ End = end_is (kept_part keep block) e in
      let there = keeps room room now later (rw none tt) (record { regs = λ r is. refl; places = λ p is. refl; roots = λ p is. refl }) moment in
      subst (λ (b : Block). SameMoment (run seen block room now) (run seen b room later)) none there

  pub turns_same : (body : Block) → Keeps body → (var : ℕ) (room other : Room) → ReadsKept keep (kept_part keep body) → SameRoom room other → (turns : List ℤ) (now later : RunMoment) → SameMoment now later
      → SameMoment (fold (λ reached turn. run seen body room (at_turn var turn reached)) now turns) (fold (λ reached turn. run seen (kept_part keep body) other (at_turn var turn reached)) later turns)
  turns_same body keeps var room other reads same [] now later moment = moment
  turns_same body keeps var room other reads same (turn ∷ turns) now later moment =
      turns_same body keeps var room other reads same turns (run seen body room (at_turn var turn now)) (run seen (kept_part keep body) other (at_turn var turn later))
      (keeps room other (at_turn var turn now) (at_turn var turn later) reads same (turn_both var turn now later moment))

  pub turns_past : (body : Block) → Keeps body → is_end (kept_part keep body) ≡ true → (var : ℕ) → keep.vars var ≡ false → (room : Room) (turns : List ℤ) (now later : RunMoment) → SameMoment now later
      → SameMoment (fold (λ reached turn. run seen body room (at_turn var turn reached)) now turns) later
  turns_past body keeps e var off room [] now later moment = moment
  turns_past body keeps e var off room (turn ∷ turns) now later moment =
      turns_past body keeps e var off room turns (run seen body room (at_turn var turn now)) later (leaves body keeps e room (at_turn var turn now) later (turn_past var turn now later off moment))

  word_keeps : (to : ℕ) (how : Op) (rest : Block) → Keeps rest → Keeps (Word to how rest)
  word_keeps to how rest keeps room other now later reads same moment = by_test (keep.regs to) refl reads
    where
      by_test : (test : Bool) → keep.regs to ≡ test → ReadsKept keep (behind_where test (Word to how) (kept_part keep rest))
          → SameMoment (run seen (Word to how rest) room now) (run seen (behind_where test (Word to how) (kept_part keep rest)) other later)
      by_test true e read = keeps (room_reg to (op_word seen room now how) room) (room_reg to (op_word seen other later how) other) now later read.3
          (reg_both to _ _ room other (op_same how room other now later read.0 read.1 read.2 same moment) same) moment
      by_test false e read = keeps (room_reg to (op_word seen room now how) room) other now later read (reg_past to _ room other e same) moment

  cell_keeps : (to place : ℕ) (sight : Sight) (index : List ℕ) (rest : Block) → Keeps rest → Keeps (Cell to place sight index rest)
  cell_keeps to place sight index rest keeps room other now later reads same moment = by_test (keep.regs to) refl reads
    where
      how : Op
      how = sight_op place sight

      by_test : (test : Bool) → keep.regs to ≡ test → ReadsKept keep (behind_where test (Cell to place sight index) (kept_part keep rest))
          → SameMoment (run seen (Cell to place sight index rest) room now) (run seen (behind_where test (Cell to place sight index) (kept_part keep rest)) other later)
      by_test true e read = keeps (room_reg to (op_word seen room now how) room) (room_reg to (op_word seen other later how) other) now later read.2
          (reg_both to _ _ room other (sight_same place sight room other now later read.1 same moment) same) moment
      by_test false e read = keeps (room_reg to (op_word seen room now how) room) other now later read (reg_past to _ room other e same) moment

  spot_keeps : (to : ℕ) (how : Step) (rest : Block) → Keeps rest → Keeps (Spot to how rest)
  spot_keeps to how rest keeps room other now later reads same moment = by_test (keep.places to) refl reads
    where
      by_test : (test : Bool) → keep.places to ≡ test → ReadsKept keep (behind_where test (Spot to how) (kept_part keep rest))
          → SameMoment (run seen (Spot to how rest) room now) (run seen (behind_where test (Spot to how) (kept_part keep rest)) other later)
      by_test true e read = keeps (room_place to (step_root room how) (step_place seen room how) room) (room_place to (step_root other how) (step_place seen other how) other) now later read.2
          (place_both to _ _ _ _ room other (root_same how room other read.1 same) (step_same how room other read.0 read.1 same) same) moment
      by_test false e read = keeps (room_place to (step_root room how) (step_place seen room how) room) other now later read (place_past to _ _ room other e same) moment

  do_keeps : (what : Act) (rest : Block) → Keeps rest → Keeps (Do what rest)
  do_keeps what rest keeps room other now later reads same moment = by_test (keeps_act keep what) refl reads
    where
      by_test : (test : Bool) → keeps_act keep what ≡ test → ReadsKept keep (behind_where test (Do what) (kept_part keep rest))
          → SameMoment (run seen (Do what rest) room now) (run seen (behind_where test (Do what) (kept_part keep rest)) other later)
      by_test true e read = keeps room other (moment_after_act seen room what now) (moment_after_act seen other what later) read.2 same (act_same what room other now later read.0 read.1 same moment)
      by_test false e read = keeps room other (moment_after_act seen room what now) later read same (act_past what room now later e moment)

  pub left_of : (a b : Bool) → (a && b) ≡ true → a ≡ true
  left_of true b e = refl
  left_of false b e = absurd (cc)

  pub right_of : (a b : Bool) → (a && b) ≡ true → b ≡ true
  right_of true b e = e
  right_of false b e = absurd (cc)

  branch_keeps : (cond : ℕ) (block otherwise rest : Block) → Keeps block → Keeps otherwise → Keeps rest → Keeps (Branch cond block otherwise rest)
  branch_keeps cond block otherwise rest one two keeps room other now later reads same moment = by_test (is_end (kept_part keep block) && is_end (kept_part keep otherwise)) refl reads
    where
      inst : Block → Block
      inst = Branch cond (kept_part keep block) (kept_part keep otherwise)

      by_way : (zero_is : Bool) → is_end (kept_part keep block) ≡ true → is_end (kept_part keep otherwise) ≡ true → SameMoment (if zero_is then run seen otherwise room now else run seen block room now) later
      by_way true e f = leaves otherwise two f room now later moment
      by_way false e f = leaves block one e room now later moment

      either_way : (zero_is : Bool) → ReadsKept keep (kept_part keep block) → ReadsKept keep (kept_part keep otherwise)
          → SameMoment (if zero_is then run seen otherwise room now else run seen block room now) (if zero_is then run seen (kept_part keep otherwise) other later else run seen (kept_part keep block) other later)
      either_way true e f = two room other now later f same moment
      either_way false e f = one room other now later e same moment

      by_test : (none : Bool) → (is_end (kept_part keep block) && is_end (kept_part keep otherwise)) ≡ none → ReadsKept keep (behind_where (not none) inst (kept_part keep rest))
          → SameMoment (run seen (Branch cond block otherwise rest) room now) (run seen (behind_where (not none) inst (kept_part keep rest)) other later)
      by_test true e read = keeps room other (if room.regs cond == 0 then run seen otherwise room now else run seen block room now) later read same
          (by_way (room.regs cond == 0) (left_of (is_end (kept_part keep block)) (is_end (kept_part keep otherwise)) e) (right_of (is_end (kept_part keep block)) (is_end (kept_part keep otherwise)) e))
      by_test false e read = keeps room other (if room.regs cond == 0 then run seen otherwise room now else run seen block room now)
          (if other.regs cond == 0 then run seen (kept_part keep otherwise) other later else run seen (kept_part keep block) other later) read.3 same
          (subst (λ (w : ℕ). SameMoment (if room.regs cond == 0 then run seen otherwise room now else run seen block room now) (if w == 0 then run seen (kept_part keep otherwise) other later else run seen (kept_part keep block) other later))
          (sym (same.regs cond read.0)) (either_way (room.regs cond == 0) read.1 read.2))

  loop_keeps : (var : ℕ) (lo hi : ℤ) (body rest : Block) → Keeps body → Keeps rest → Keeps (Loop var lo hi body rest)
  loop_keeps var lo hi body rest turn keeps room other now later reads same moment = by_test (keep.vars var) (is_end (kept_part keep body)) refl refl reads
    where
      inst : Block → Block
      inst = Loop var lo hi (kept_part keep body)

      turns : RunMoment
      turns = fold (λ reached turn. run seen body room (at_turn var turn reached)) now (numbers lo hi)

      by_test : (known none : Bool) → keep.vars var ≡ known → is_end (kept_part keep body) ≡ none → ReadsKept keep (behind_where (known || not none) inst (kept_part keep rest))
          → SameMoment (run seen (Loop var lo hi body rest) room now) (run seen (behind_where (known || not none) inst (kept_part keep rest)) other later)
      by_test true none e f read = keeps room other turns _ read.2 same (turns_same body turn var room other read.1 same (numbers lo hi) now later moment)
      by_test false false e f read = keeps room other turns _ read.2 same (turns_same body turn var room other read.1 same (numbers lo hi) now later moment)
      by_test false true e f read = keeps room other turns later read same (turns_past body turn f var e room (numbers lo hi) now later moment)

  -- a block without what isn't kept runs to the same, so far as it is kept
  pub keeps_run : (block : Block) → Keeps block
  keeps_run End = λ room other now later reads same moment. moment
  keeps_run (Word to how rest) = word_keeps to how rest (keeps_run rest)
  keeps_run (Spot to how rest) = spot_keeps to how rest (keeps_run rest)
  keeps_run (Cell to place sight index rest) = cell_keeps to place sight index rest (keeps_run rest)
  keeps_run (Do what rest) = do_keeps what rest (keeps_run rest)
  keeps_run (Branch cond block otherwise rest) = branch_keeps cond block otherwise rest (keeps_run block) (keeps_run otherwise) (keeps_run rest)
  keeps_run (Loop var lo hi body rest) = loop_keeps var lo hi body rest (keeps_run body) (keeps_run rest)
