-- A scoped run tells what a run over one file of registers tells.
use Rattle.std.specs.Prelude.{◌≡◌, refl, ℕ, ◌==◌, Bool, true, false, if◌then◌else◌, List, [], ◌∷◌, map, fold, ℤ}
use Rattle.std.proofs.Common.{sym, ap, subst, ◌∙◌}
use Rattle.std.proofs.lemmas.Bool.{eqb-true}
use Rattle.sg_words.specs.declared.operators.Ty.{Ty}
use Rattle.sg_words.specs.Words.{word_of}
use Rattle.sg_flat.specs.Domain.{numbers}
use Rattle.sg_ir.specs.declared.code.Inst.{Inst}
use Rattle.sg_ir.specs.declared.op.Op.{Op}
use Rattle.sg_ir.specs.declared.op.Op.TheVariants as op
use Rattle.sg_ir.specs.declared.op.Step.{Step}
use Rattle.sg_ir.specs.declared.op.Step.TheVariants as step
use Rattle.sg_ir.specs.Runs.{Seen, Moved, put, set_reg, set_place, set_var_word, iteration_start, iteration}
use Rattle.sg_ir.specs.Blocks.{Sight, Value, Activity, sight_op, Block, End, Word, Spot, Cell, Do, Branch, Loop, Act, SetVar, WriteOwn, Contribute, Wish, block_of}
use Rattle.sg_ir.specs.Scoped.{RunMoment, Room, room_reg, room_place, op_word, step_root, step_place, moment_after_act, at_turn, run, first_room}
use Rattle.sg_ir.specs.Flat.{room_of, moment_of, moved_by, moved_by_sight, goes}
use Rattle.sg_ir.specs.InScope.{InScope, and_reg, and_place, nothing, op_regs, op_places, step_regs, step_places, act_regs, act_places, AreSet, IsScoped, AgreesInScope}
use Rattle.sg_ir.proofs.Chained.{goes-runs}

-- where one number is given something new
pub put_same : {A : Type 0} (to : ℕ) (x y : A) (set : ℕ → Bool) (f g : ℕ → A) → x ≡ y → ((r : ℕ) → set r ≡ true → f r ≡ g r) → (r : ℕ) → put to true set r ≡ true → put to x f r ≡ put to y g r
put_same {A} to x y set f g e h r = by_test (r == to)
  where
    by_test : (test : Bool) → (if test then true else set r) ≡ true → (if test then x else f r) ≡ (if test then y else g r)
    by_test true is = e
    by_test false is = h r is

pub put_all : {A : Type 0} (to : ℕ) (x y : A) (f g : ℕ → A) → x ≡ y → ((r : ℕ) → f r ≡ g r) → (r : ℕ) → put to x f r ≡ put to y g r
put_all {A} to x y f g e h r = by_test (r == to)
  where
    by_test : (test : Bool) → (if test then x else f r) ≡ (if test then y else g r)
    by_test true = e
    by_test false = h r

put_kept : {A : Type 0} (to : ℕ) (x : A) (set : ℕ → Bool) (f : ℕ → A) → set to ≡ false → (r : ℕ) → set r ≡ true → put to x f r ≡ f r
put_kept {A} to x set f free r is = by_test (r == to) refl
  where
    by_test : (test : Bool) → (r == to) ≡ test → (if test then x else f r) ≡ f r
    by_test true e = absurd (differ (sym is ∙ (ap set (eqb-true r to e) ∙ free)))
      where
        differ : true ≡ false → ⊥
        differ h = absurd (cc)
    by_test false e = refl

put_wider : (to : ℕ) (set : ℕ → Bool) (r : ℕ) → set r ≡ true → put to true set r ≡ true
put_wider to set r is = by_test (r == to)
  where
    by_test : (test : Bool) → (if test then true else set r) ≡ true
    by_test true = refl
    by_test false = is

pub mapped : (set : ℕ → Bool) (f g : ℕ → ℕ) → ((r : ℕ) → set r ≡ true → f r ≡ g r) → (rs : List ℕ) → AreSet set rs → map f rs ≡ map g rs
mapped set f g h [] all = refl
mapped set f g h (r ∷ rs) all = rw (h r all.0, mapped set f g h rs all.1) refl

-- what is seen at a place reads no register, and that place
sight_regs : (set : ℕ → Bool) (place : ℕ) (sight : Sight) → AreSet set (op_regs (sight_op place sight))
sight_regs set place (Value layout field) = tt
sight_regs set place Activity = tt

sight_places : (set : ℕ → Bool) (place : ℕ) (sight : Sight) → AreSet set (place ∷ []) → AreSet set (op_places (sight_op place sight))
sight_places set place (Value layout field) there = there
sight_places set place Activity there = there

module _ (seen : Seen) where
  pub op_same : (scope : InScope) (room : Room) (moment : RunMoment) (moved : Moved) → AgreesInScope scope room moment moved → (how : Op) → AreSet scope.regs (op_regs how) → AreSet scope.places (op_places how)
      → op_word seen (room_of moved) (moment_of moved) how ≡ op_word seen room moment how
  op_same scope room moment moved same (op.Const word truth) regs places = refl
  op_same scope room moment moved same (op.Var var) regs places = same.vars var
  op_same scope room moment moved same (op.Bin how given a b) regs places = rw (same.regs a regs.0, same.regs b regs.1.0) refl
  op_same scope room moment moved same (op.Un how given a) regs places = rw (same.regs a regs.0) refl
  op_same scope room moment moved same (op.Mulq a b s) regs places = rw (same.regs a regs.0, same.regs b regs.1.0, same.regs s regs.1.1.0) refl
  op_same scope room moment moved same (op.Extract div size from) regs places = rw (same.regs from regs.0) refl
  op_same scope room moment moved same (op.Offset high size low) regs places = rw (same.regs high regs.0, same.regs low regs.1.0) refl
  op_same scope room moment moved same (op.Read place layout field) regs places = rw (same.places place places.0) refl
  op_same scope room moment moved same (op.Active place) regs places = rw (same.places place places.0) refl
  op_same scope room moment moved same (op.OwnRead layout field) regs places = rw same.writes refl

  pub step_same : (scope : InScope) (room : Room) (moment : RunMoment) (moved : Moved) → AgreesInScope scope room moment moved → (how : Step) → AreSet scope.regs (step_regs how) → AreSet scope.places (step_places how)
      → step_place seen (room_of moved) how ≡ step_place seen room how
  step_same scope room moment moved same (step.Root layout) regs places = refl
  step_same scope room moment moved same (step.Check place axis extent index) regs places = rw (same.regs index regs.0, same.places place places.0) refl
  step_same scope room moment moved same (step.Down descent place node offset) regs places = rw (same.regs offset regs.0, same.places place places.0) refl

  -- and from the same root
  pub root_same : (scope : InScope) (room : Room) (moment : RunMoment) (moved : Moved) → AgreesInScope scope room moment moved → (how : Step) → AreSet scope.places (step_places how)
      → step_root (room_of moved) how ≡ step_root room how
  root_same scope room moment moved same (step.Root layout) places = refl
  root_same scope room moment moved same (step.Check place axis extent index) places = same.roots place places.0
  root_same scope room moment moved same (step.Down descent place node offset) places = same.roots place places.0

  pub act_same : (scope : InScope) (room : Room) (moment : RunMoment) (moved : Moved) → AgreesInScope scope room moment moved → (what : Act) → AreSet scope.regs (act_regs what) → AreSet scope.places (act_places what)
      → AgreesInScope scope room (moment_after_act seen room what moment) (moved_by seen what moved)
  act_same scope room moment moved same (SetVar var from) regs places = record {
    regs = same.regs;
    places = same.places;
    roots = same.roots;
    vars = put_all var (moved.regs from) (room.regs from) moved.vars moment.vars (same.regs from regs.0) same.vars;
    writes = same.writes;
    wants = same.wants;
  }
  act_same scope room moment moved same (WriteOwn layout field from stmt) regs places = record {
    regs = same.regs;
    places = same.places;
    roots = same.roots;
    vars = same.vars;
    writes = rw (same.writes, same.regs from regs.0) refl;
    wants = same.wants;
  }
  act_same scope room moment moved same (Contribute how layout field place from index stmt) regs places = record {
    regs = same.regs;
    places = same.places;
    roots = same.roots;
    vars = same.vars;
    writes = rw (same.writes, same.regs from regs.0, same.places place places.0) refl;
    wants = same.wants;
  }
  act_same scope room moment moved same (Wish layout index stmt) regs places = record {
    regs = same.regs;
    places = same.places;
    roots = same.roots;
    vars = same.vars;
    writes = same.writes;
    wants = rw (same.wants, mapped scope.regs moved.regs room.regs same.regs index regs) refl;
  }

  -- a register, or a place, that is set; and out of the scope that has it
  pub reg_same : (scope : InScope) (room : Room) (moment : RunMoment) (moved : Moved) (to word : ℕ) (other : ℕ) → other ≡ word → AgreesInScope scope room moment moved → AgreesInScope (and_reg to scope) (room_reg to word room) moment (set_reg to other moved)
  reg_same scope room moment moved to word other e same = record {
    regs = put_same to other word scope.regs moved.regs room.regs e same.regs;
    places = same.places;
    roots = same.roots;
    vars = same.vars;
    writes = same.writes;
    wants = same.wants;
  }

  out_of_reg : (scope : InScope) (room : Room) (moment : RunMoment) (moved : Moved) (to word : ℕ) → scope.regs to ≡ false → AgreesInScope (and_reg to scope) (room_reg to word room) moment moved → AgreesInScope scope room moment moved
  out_of_reg scope room moment moved to word free same = record {
    regs = λ r is. same.regs r (put_wider to scope.regs r is) ∙ put_kept to word scope.regs room.regs free r is;
    places = same.places;
    roots = same.roots;
    vars = same.vars;
    writes = same.writes;
    wants = same.wants;
  }

  out_of_place : (scope : InScope) (room : Room) (moment : RunMoment) (moved : Moved) (to : ℕ) (how : Step) → scope.places to ≡ false → AgreesInScope (and_place to scope) (room_place to (step_root room how) (step_place seen room how) room) moment moved → AgreesInScope scope room moment moved
  out_of_place scope room moment moved to how free same = record {
    regs = same.regs;
    places = λ p is. same.places p (put_wider to scope.places p is) ∙ put_kept to (step_place seen room how) scope.places room.places free p is;
    roots = λ p is. same.roots p (put_wider to scope.places p is) ∙ put_kept to (step_root room how) scope.places room.roots free p is;
    vars = same.vars;
    writes = same.writes;
    wants = same.wants;
  }

  turns_same : (scope : InScope) (room : Room) (var : ℕ) (body : Block) → ((moment : RunMoment) (moved : Moved) → AgreesInScope scope room moment moved → AgreesInScope scope room (run seen body room moment) (goes seen body moved))
      → (turns : List ℤ) (moment : RunMoment) (moved : Moved) → AgreesInScope scope room moment moved
      → AgreesInScope scope room (fold (λ reached turn. run seen body room (at_turn var turn reached)) moment turns) (fold (λ reached turn. goes seen body (set_var_word var (word_of turn) reached)) moved turns)
  turns_same scope room var body each [] moment moved same = same
  turns_same scope room var body each (turn ∷ turns) moment moved same =
      turns_same scope room var body each turns (run seen body room (at_turn var turn moment)) (goes seen body (set_var_word var (word_of turn) moved))
      (each (at_turn var turn moment) (set_var_word var (word_of turn) moved) (record {
        regs = same.regs;
        places = same.places;
        roots = same.roots;
        vars = put_all var (word_of turn) (word_of turn) moved.vars moment.vars refl same.vars;
        writes = same.writes;
        wants = same.wants;
      }))

  pub scoped_same : (block : Block) (scope : InScope) (room : Room) (moment : RunMoment) (moved : Moved) → IsScoped scope block → AgreesInScope scope room moment moved → AgreesInScope scope room (run seen block room moment) (goes seen block moved)
  scoped_same End scope room moment moved good same = same
  scoped_same (Word to how rest) scope room moment moved good same =
      let e : op_word seen (room_of moved) (moment_of moved) how ≡ op_word seen room moment how = op_same scope room moment moved same how good.0 good.1 in
      out_of_reg scope room _ _ to (op_word seen room moment how) good.2
      (scoped_same rest (and_reg to scope) (room_reg to (op_word seen room moment how) room) moment (set_reg to (op_word seen (room_of moved) (moment_of moved) how) moved) good.3
      (reg_same scope room moment moved to (op_word seen room moment how) (op_word seen (room_of moved) (moment_of moved) how) e same))
  scoped_same (Spot to how rest) scope room moment moved good same =
      let e : step_place seen (room_of moved) how ≡ step_place seen room how = step_same scope room moment moved same how good.0 good.1 in
      out_of_place scope room _ _ to how good.2
      (scoped_same rest (and_place to scope) (room_place to (step_root room how) (step_place seen room how) room) moment (set_place to (step_root (room_of moved) how) (step_place seen (room_of moved) how) moved) good.3 (record {
        regs = same.regs;
        places = put_same to (step_place seen (room_of moved) how) (step_place seen room how) scope.places moved.places room.places e same.places;
        roots = put_same to (step_root (room_of moved) how) (step_root room how) scope.places moved.roots room.roots (root_same scope room moment moved same how good.1) same.roots;
        vars = same.vars;
        writes = same.writes;
        wants = same.wants;
      }))
  scoped_same (Cell to place sight index rest) scope room moment moved good same =
      let e : op_word seen (room_of moved) (moment_of moved) (sight_op place sight) ≡ op_word seen room moment (sight_op place sight) = op_same scope room moment moved same (sight_op place sight) (sight_regs scope.regs place sight) (sight_places scope.places place sight good.0) in
      let next : AgreesInScope (and_reg to scope) (room_reg to (op_word seen room moment (sight_op place sight)) room) moment (set_reg to (op_word seen (room_of moved) (moment_of moved) (sight_op place sight)) moved) =
      reg_same scope room moment moved to (op_word seen room moment (sight_op place sight)) (op_word seen (room_of moved) (moment_of moved) (sight_op place sight)) e same in
      out_of_reg scope room _ _ to (op_word seen room moment (sight_op place sight)) good.1
      (scoped_same rest (and_reg to scope) (room_reg to (op_word seen room moment (sight_op place sight)) room) moment (moved_by_sight seen to place sight index moved) good.2
      (record { regs = next.regs; places = next.places; roots = next.roots; vars = next.vars; writes = next.writes; wants = next.wants }))
  scoped_same (Do what rest) scope room moment moved good same =
      scoped_same rest scope room (moment_after_act seen room what moment) (moved_by seen what moved) good.2 (act_same scope room moment moved same what good.0 good.1)
  scoped_same (Branch cond block otherwise rest) scope room moment moved good same =
      scoped_same rest scope room (if room.regs cond == 0 then run seen otherwise room moment else run seen block room moment) (if moved.regs cond == 0 then goes seen otherwise moved else goes seen block moved) good.3
      (subst (λ (word : ℕ). AgreesInScope scope room (if room.regs cond == 0 then run seen otherwise room moment else run seen block room moment) (if word == 0 then goes seen otherwise moved else goes seen block moved))
      (sym (same.regs cond good.0)) (by_test (room.regs cond == 0) (scoped_same block scope room moment moved good.1 same) (scoped_same otherwise scope room moment moved good.2 same)))
    where
      by_test : (test : Bool) → AgreesInScope scope room (run seen block room moment) (goes seen block moved) → AgreesInScope scope room (run seen otherwise room moment) (goes seen otherwise moved)
          → AgreesInScope scope room (if test then run seen otherwise room moment else run seen block room moment) (if test then goes seen otherwise moved else goes seen block moved)
      by_test true first second = second
      by_test false first second = first
  scoped_same (Loop var lo hi body rest) scope room moment moved good same =
      scoped_same rest scope room (fold (λ reached turn. run seen body room (at_turn var turn reached)) moment (numbers lo hi)) (fold (λ reached turn. goes seen body (set_var_word var (word_of turn) reached)) moved (numbers lo hi)) good.1
      (turns_same scope room var body (λ reached moved_to agreed. scoped_same body scope room reached moved_to good.0 agreed) (numbers lo hi) moment moved same)

  -- both forms tell the same of an iteration
  pub forms_alike : (regs : List Ty) (insts : List Inst) → IsScoped nothing (block_of regs insts) → AgreesInScope nothing first_room (run seen (block_of regs insts) first_room (moment_of (iteration_start seen))) (iteration seen insts)
  forms_alike regs insts good = subst (λ (moved : Moved). AgreesInScope nothing first_room (run seen (block_of regs insts) first_room (moment_of (iteration_start seen))) moved) (goes-runs seen regs insts (iteration_start seen))
      (scoped_same (block_of regs insts) nothing first_room (moment_of (iteration_start seen)) (iteration_start seen) good
      (record { regs = λ r is. refl; places = λ p is. refl; roots = λ p is. refl; vars = λ var. refl; writes = refl; wants = refl }))
