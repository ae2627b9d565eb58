-- What a block leaves alone, and what stays known for a shorter block and a later moment.
use Rattle.std.specs.Prelude.{◌≡◌, refl, ℕ, ◌+◌, ◌==◌, Bool, true, false, if◌then◌else◌, List, [], ◌∷◌, fold, ℤ}
use Rattle.std.proofs.Common.{arith, sym, subst, ◌∙◌}
use Rattle.std.proofs.lemmas.Bool.{eqb-true}
use Rattle.sg_words.specs.Words.{word_of}
use Rattle.sg_flat.specs.Domain.{numbers}
use Rattle.sg_ir.specs.declared.op.Op.{Op}
use Rattle.sg_ir.specs.declared.op.Op.TheVariants as op
use Rattle.sg_ir.specs.Runs.{Seen, put}
use Rattle.sg_ir.specs.Blocks.{sight_op, Block, End, Word, Spot, Cell, Do, Branch, Loop, SetVar, WriteOwn, Contribute, Wish}
use Rattle.sg_ir.specs.Span.{sets}
use Rattle.sg_ir.specs.SpanLaws.{FitsSpans}
use Rattle.sg_ir.specs.Scoped.{RunMoment, Room, room_reg, room_place, op_word, step_root, step_place, moment_after_act, at_turn, run}
use Rattle.sg_simplify.specs.steps.Pass.{Given, Pass, Next, vars_of}
use Rattle.sg_simplify.specs.steps.Serves.{EachByRecursion, OpStays, OpHolds, HoldsInRoom}
use Rattle.sg_simplify.proofs.Tables.{each_map}

-- ---- variables that a block doesn't set
abbrev pub flag : Bool → ℕ
flag test = if test then 1 else 0

same_flag : (test : Bool) → test ≡ true → flag test ≡ 0 → ⊥
same_flag true e h = absurd (omega (arith, h))
same_flag false e h = absurd (cc)

pub put_other : (set var word : ℕ) (f : ℕ → ℕ) → flag (set == var) ≡ 0 → put set word f var ≡ f var
put_other set var word f h = by_test (var == set) refl
  where
    by_test : (test : Bool) → (var == set) ≡ test → (if test then word else f var) ≡ f var
    by_test true e = absurd (same_flag (set == set) (grind arith) (subst (λ k. flag (set == k) ≡ 0) (eqb-true var set e) h))
    by_test false e = refl

pub first_none : (a b : ℕ) → a + b ≡ 0 → a ≡ 0
first_none a b h = omega (arith, h)

pub last_none : (a b : ℕ) → a + b ≡ 0 → b ≡ 0
last_none a b h = omega (arith, h)

pub none_of : (a b c : ℕ) → a + (b + c) ≡ 0 → a + b ≡ 0
none_of a b c h = omega (arith, h)

pub none_of_three : (a b c : ℕ) → a + (b + c) ≡ 0 → a + (b + 0) ≡ 0
none_of_three a b c h = omega (arith, h)

-- what is known, for a shorter block and a later moment
abbrev pub Moves : Block → Block → RunMoment → RunMoment → Type 0
Moves block rest now reached = (var : ℕ) → sets var block ≡ 0 → (sets var rest ≡ 0) × (reached.vars var ≡ now.vars var)

module _ (seen : Seen) where
  turns_leave : (var set : ℕ) (body : Block) (room : Room) → flag (set == var) ≡ 0 → ((now : RunMoment) → (run seen body room now).vars var ≡ now.vars var) → (turns : List ℤ) (now : RunMoment)
      → (fold (λ reached turn. run seen body room (at_turn set turn reached)) now turns).vars var ≡ now.vars var
  turns_leave var set body room off each [] now = refl
  turns_leave var set body room off each (turn ∷ turns) now =
      turns_leave var set body room off each turns (run seen body room (at_turn set turn now)) ∙ (each (at_turn set turn now) ∙ put_other set var (word_of turn) now.vars off)

  pub run_leaves : (var : ℕ) (block : Block) (room : Room) (now : RunMoment) → sets var block ≡ 0 → (run seen block room now).vars var ≡ now.vars var
  run_leaves var End room now h = refl
  run_leaves var (Word to how rest) room now h = run_leaves var rest (room_reg to (op_word seen room now how) room) now h
  run_leaves var (Spot to how rest) room now h = run_leaves var rest (room_place to (step_root room how) (step_place seen room how) room) now h
  run_leaves var (Cell to place sight index rest) room now h = run_leaves var rest (room_reg to (op_word seen room now (sight_op place sight)) room) now h
  run_leaves var (Do (SetVar set from) rest) room now h =
      run_leaves var rest room (moment_after_act seen room (SetVar set from) now) (last_none _ (sets var rest) h) ∙ put_other set var (room.regs from) now.vars (first_none _ (sets var rest) h)
  run_leaves var (Do (WriteOwn layout field from stmt) rest) room now h = run_leaves var rest room (moment_after_act seen room (WriteOwn layout field from stmt) now) (last_none _ (sets var rest) h)
  run_leaves var (Do (Contribute how layout field place from index stmt) rest) room now h = run_leaves var rest room (moment_after_act seen room (Contribute how layout field place from index stmt) now) (last_none _ (sets var rest) h)
  run_leaves var (Do (Wish layout index stmt) rest) room now h = run_leaves var rest room (moment_after_act seen room (Wish layout index stmt) now) (last_none _ (sets var rest) h)
  run_leaves var (Branch cond block otherwise rest) room now h =
      run_leaves var rest room (if room.regs cond == 0 then run seen otherwise room now else run seen block room now) (last_none (sets var otherwise) (sets var rest) (last_none (sets var block) _ h))
      ∙ by_test (room.regs cond == 0) (run_leaves var block room now (first_none (sets var block) _ h)) (run_leaves var otherwise room now (first_none (sets var otherwise) (sets var rest) (last_none (sets var block) _ h)))
    where
      by_test : (test : Bool) → (run seen block room now).vars var ≡ now.vars var → (run seen otherwise room now).vars var ≡ now.vars var
          → (if test then run seen otherwise room now else run seen block room now).vars var ≡ now.vars var
      by_test true a b = b
      by_test false a b = a
  run_leaves var (Loop set lo hi body rest) room now h =
      let more = last_none (flag (set == var)) (sets var body + sets var rest) h in
      run_leaves var rest room _ (last_none (sets var body) (sets var rest) more)
      ∙ turns_leave var set body room (first_none (flag (set == var)) (sets var body + sets var rest) h)
      (λ reached. run_leaves var body room reached (first_none (sets var body) (sets var rest) more)) (numbers lo hi) now

  stays_moved : (block rest : Block) (now reached : RunMoment) → Moves block rest now reached → (how : Op) → OpStays block how → OpStays rest how
  stays_moved block rest now reached moves (op.Const word truth) h = tt
  stays_moved block rest now reached moves (op.Var var) h = (moves var h).0
  stays_moved block rest now reached moves (op.Bin how kind a b) h = tt
  stays_moved block rest now reached moves (op.Un how kind a) h = tt
  stays_moved block rest now reached moves (op.Mulq a b s) h = tt
  stays_moved block rest now reached moves (op.Extract div size from) h = tt
  stays_moved block rest now reached moves (op.Offset high size low) h = tt
  stays_moved block rest now reached moves (op.Read place layout field) h = tt
  stays_moved block rest now reached moves (op.Active place) h = tt
  stays_moved block rest now reached moves (op.OwnRead layout field) h = absurd h

  word_moved : (block rest : Block) (now reached : RunMoment) → Moves block rest now reached → (room : Room) (how : Op) → OpStays block how → op_word seen room now how ≡ op_word seen room reached how
  word_moved block rest now reached moves room (op.Const word truth) h = refl
  word_moved block rest now reached moves room (op.Var var) h = sym (moves var h).1
  word_moved block rest now reached moves room (op.Bin how kind a b) h = refl
  word_moved block rest now reached moves room (op.Un how kind a) h = refl
  word_moved block rest now reached moves room (op.Mulq a b s) h = refl
  word_moved block rest now reached moves room (op.Extract div size from) h = refl
  word_moved block rest now reached moves room (op.Offset high size low) h = refl
  word_moved block rest now reached moves room (op.Read place layout field) h = refl
  word_moved block rest now reached moves room (op.Active place) h = refl
  word_moved block rest now reached moves room (op.OwnRead layout field) h = absurd h

  pub ops_moved : (block rest : Block) (next : Next) (room : Room) (now reached : RunMoment) → Moves block rest now reached → (entries : List (Op × ℕ))
      → EachByRecursion (OpHolds seen block next room now) entries → EachByRecursion (OpHolds seen rest next room reached) entries
  ops_moved block rest next room now reached moves entries =
      each_map (OpHolds seen block next room now) (OpHolds seen rest next room reached)
      (λ entry h. record {
        named = h.named;
        below = h.below;
        stays = stays_moved block rest now reached moves entry.0 h.stays;
        word = h.word ∙ word_moved block rest now reached moves room entry.0 h.stays;
        lies = h.lies;
      }) entries

  pub holds_moved : (given : Given) (block rest : Block) (known : Pass) (next : Next) (room : Room) (now reached : RunMoment) → Moves block rest now reached → FitsSpans (vars_of given known) reached
      → HoldsInRoom seen given block known next room now → HoldsInRoom seen given rest known next room reached
  holds_moved given block rest known next room now reached moves fits h = record { ops = ops_moved block rest next room now reached moves known.ops h.ops; steps = h.steps; words = h.words; fits = fits }
