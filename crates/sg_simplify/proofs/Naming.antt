-- Accesses are named along a run over one file of registers exactly when they are along the scoped run.
use Rattle.std.specs.Prelude.{◌≡◌, refl, ℕ, ◌==◌, Bool, true, false, if◌then◌else◌, List, [], ◌∷◌, ◌++◌, map, fold, ℤ, All}
use Rattle.std.proofs.Common.{arith, sym, ap, subst, ◌∙◌, append_assoc}
use Rattle.std.proofs.lemmas.List.{append-nil}
use Rattle.std.proofs.lemmas.List.Elements.{All-head, All-tail, All-append}
use Rattle.sg_words.specs.declared.operators.Ty.{Ty}
use Rattle.sg_words.specs.Words.{word_of}
use Rattle.sg_layout.specs.declared.shape.Shape.{Shape}
use Rattle.sg_flat.specs.Domain.{numbers}
use Rattle.sg_ir.specs.declared.code.Inst.{Inst}
use Rattle.sg_ir.specs.Runs.{Seen, Moved, Access, coord_of, named_by, set_reg, set_place, set_var_word, iteration_start, iteration}
use Rattle.sg_ir.specs.Places.{place_at}
use Rattle.sg_ir.specs.Named.{IsNamedAccess, AreNamed}
use Rattle.sg_ir.specs.Blocks.{Block, End, Word, Spot, Cell, Do, Branch, Loop, SetVar, WriteOwn, Contribute, Wish, block_of, Sight, Value, Activity, sight_op}
use Rattle.sg_ir.specs.SpanLaws.{WhereTest, EachTurn}
use Rattle.sg_ir.specs.Scoped.{RunMoment, Room, room_reg, room_place, op_word, step_root, step_place, moment_after_act, at_turn, run, first_room}
use Rattle.sg_ir.specs.Flat.{room_of, moment_of, moved_by, sight_access, moved_by_sight, goes}
use Rattle.sg_ir.specs.InScope.{InScope, and_reg, and_place, nothing, IsScoped, AgreesInScope}
use Rattle.sg_ir.proofs.Uses.{goes-runs}
use Rattle.sg_ir.proofs.Uses.{put_same, put_all, mapped, op_same, step_same, root_same, act_same, reg_same, scoped_same}
use Rattle.sg_ir.proofs.Uses.{all_one}
use Rattle.sg_simplify.specs.steps.Serves.{EachByRecursion, IsAt, OpIsAt, NamesAll}
use Rattle.sg_simplify.proofs.Sights.{sight_regs, sight_places}

-- ---- each and all
all_each : {X : Type 0} (P : X → Type 0) (xs : List X) → All P xs → EachByRecursion P xs
all_each P [] all = tt
all_each P (x ∷ xs) all = (All-head P x xs all, all_each P xs (All-tail P x xs all))

pub each_all : {X : Type 0} (P : X → Type 0) (xs : List X) → EachByRecursion P xs → All P xs
each_all P [] each = λ k d below. absurd (omega (arith, below))
each_all P (x ∷ xs) each = All-append P (x ∷ []) xs (all_one P x each.0) (each_all P xs each.1)

each_append : {X : Type 0} (P : X → Type 0) (xs ys : List X) → EachByRecursion P xs → EachByRecursion P ys → EachByRecursion P (xs ++ ys)
each_append P [] ys first second = second
each_append P (x ∷ xs) ys first second = (first.0, each_append P xs ys first.1 second)

each_first : {X : Type 0} (P : X → Type 0) (xs ys : List X) → EachByRecursion P (xs ++ ys) → EachByRecursion P xs
each_first P [] ys all = tt
each_first P (x ∷ xs) ys all = (all.0, each_first P xs ys all.1)

each_second : {X : Type 0} (P : X → Type 0) (xs ys : List X) → EachByRecursion P (xs ++ ys) → EachByRecursion P ys
each_second P [] ys all = all
each_second P (x ∷ xs) ys all = each_second P xs ys all.1

-- the accesses after are those before and more, which are named exactly when a fact holds
record Tells (shapes : List Shape) (fact : Type 0) (before after : List Access) : Type 0 where
  more : List Access
  is : after ≡ before ++ more
  there : fact → EachByRecursion (IsNamedAccess shapes) more
  back : EachByRecursion (IsNamedAccess shapes) more → fact

tells_none : (shapes : List Shape) (accesses : List Access) → Tells shapes (Unit {0}) accesses accesses
tells_none shapes accesses = record { more = []; is = sym (append-nil accesses); there = λ h. tt; back = λ h. tt }

tells_one : (shapes : List Shape) (fact : Type 0) (accesses : List Access) (access : Access) → (fact → IsNamedAccess shapes access) → (IsNamedAccess shapes access → fact) → Tells shapes fact accesses (accesses ++ access ∷ [])
tells_one shapes fact accesses access there back = record { more = access ∷ []; is = refl; there = λ h. (there h, tt); back = λ h. back h.0 }

tells_on : (shapes : List Shape) (P Q : Type 0) (a b c : List Access) → Tells shapes P a b → Tells shapes Q b c → Tells shapes (P × Q) a c
tells_on shapes P Q a b c first second = record {
  more = first.more ++ second.more;
  is = second.is ∙ (ap (λ accesses. accesses ++ second.more) first.is ∙ append_assoc a first.more second.more);
  there = λ h. each_append (IsNamedAccess shapes) first.more second.more (first.there h.0) (second.there h.1);
  back = λ h. (first.back (each_first (IsNamedAccess shapes) first.more second.more h), second.back (each_second (IsNamedAccess shapes) first.more second.more h));
}

module _ (seen : Seen) where
  -- an access, over one file and in scope
  at_there : (room : Room) (moved : Moved) (place layout : ℕ) (index : List ℕ) → moved.places place ≡ room.places place → map moved.regs index ≡ map room.regs index
      → IsAt seen.shapes room place layout index → moved.places place ≡ place_at seen.shapes layout (coord_of (map moved.regs index))
  at_there room moved place layout index same words h = same ∙ (h ∙ ap (λ ws. place_at seen.shapes layout (coord_of ws)) (sym words))

  at_back : (room : Room) (moved : Moved) (place layout : ℕ) (index : List ℕ) → moved.places place ≡ room.places place → map moved.regs index ≡ map room.regs index
      → moved.places place ≡ place_at seen.shapes layout (coord_of (map moved.regs index)) → IsAt seen.shapes room place layout index
  at_back room moved place layout index same words h = sym same ∙ (h ∙ ap (λ ws. place_at seen.shapes layout (coord_of ws)) words)

  -- the same of what is seen at a place
  sight_there : (room : Room) (moved : Moved) (place : ℕ) (sight : Sight) (index : List ℕ) → moved.places place ≡ room.places place → moved.roots place ≡ room.roots place → map moved.regs index ≡ map room.regs index
      → OpIsAt seen.shapes room (sight_op place sight) index → IsNamedAccess seen.shapes (sight_access sight place index moved)
  sight_there room moved place (Value layout field) index same root words h = at_there room moved place layout index same words h
  sight_there room moved place Activity index same root words h = at_there room moved place (moved.roots place) index same words (subst (λ (layout : ℕ). IsAt seen.shapes room place layout index) (sym root) h)

  sight_back : (room : Room) (moved : Moved) (place : ℕ) (sight : Sight) (index : List ℕ) → moved.places place ≡ room.places place → moved.roots place ≡ room.roots place → map moved.regs index ≡ map room.regs index
      → IsNamedAccess seen.shapes (sight_access sight place index moved) → OpIsAt seen.shapes room (sight_op place sight) index
  sight_back room moved place (Value layout field) index same root words h = at_back room moved place layout index same words h
  sight_back room moved place Activity index same root words h = subst (λ (layout : ℕ). IsAt seen.shapes room place layout index) root (at_back room moved place (moved.roots place) index same words h)

  turns_tell : (scope : InScope) (room : Room) (var : ℕ) (body : Block) → IsScoped scope body
      → ((moment : RunMoment) (moved : Moved) → AgreesInScope scope room moment moved → Tells seen.shapes (NamesAll seen body room moment) moved.accesses (goes seen body moved).accesses)
      → (turns : List ℤ) (moment : RunMoment) (moved : Moved) → AgreesInScope scope room moment moved
      → Tells seen.shapes (EachTurn (λ turn reached. NamesAll seen body room (at_turn var turn reached)) (λ reached turn. run seen body room (at_turn var turn reached)) moment turns) moved.accesses
      (fold (λ reached turn. goes seen body (set_var_word var (word_of turn) reached)) moved turns).accesses
  turns_tell scope room var body scoped each [] moment moved same = tells_none seen.shapes moved.accesses
  turns_tell scope room var body scoped each (turn ∷ turns) moment moved same =
      let here : AgreesInScope scope room (at_turn var turn moment) (set_var_word var (word_of turn) moved) = record {
        regs = same.regs;
        places = same.places;
        roots = same.roots;
        vars = put_all var (word_of turn) (word_of turn) moved.vars moment.vars refl same.vars;
        writes = same.writes;
        wants = same.wants;
      } in
      tells_on seen.shapes _ _ moved.accesses (goes seen body (set_var_word var (word_of turn) moved)).accesses _
      (each (at_turn var turn moment) (set_var_word var (word_of turn) moved) here)
      (turns_tell scope room var body scoped each turns (run seen body room (at_turn var turn moment)) (goes seen body (set_var_word var (word_of turn) moved))
      (scoped_same seen body scope room (at_turn var turn moment) (set_var_word var (word_of turn) moved) scoped here))

  goes_tells : (block : Block) (scope : InScope) (room : Room) (moment : RunMoment) (moved : Moved) → IsScoped scope block → AgreesInScope scope room moment moved
      → Tells seen.shapes (NamesAll seen block room moment) moved.accesses (goes seen block moved).accesses
  goes_tells End scope room moment moved good same = tells_none seen.shapes moved.accesses
  goes_tells (Word to how rest) scope room moment moved good same =
      let e = op_same seen scope room moment moved same how good.0 good.1 in
      goes_tells rest (and_reg to scope) (room_reg to (op_word seen room moment how) room) moment (set_reg to (op_word seen (room_of moved) (moment_of moved) how) moved) good.3
      (reg_same seen scope room moment moved to (op_word seen room moment how) (op_word seen (room_of moved) (moment_of moved) how) e same)
  goes_tells (Spot to how rest) scope room moment moved good same =
      let e = step_same seen scope room moment moved same how good.0 good.1 in
      goes_tells rest (and_place to scope) (room_place to (step_root room how) (step_place seen room how) room) moment (set_place to (step_root (room_of moved) how) (step_place seen (room_of moved) how) moved) good.3 (record {
        regs = same.regs;
        roots = put_same to (step_root (room_of moved) how) (step_root room how) scope.places moved.roots room.roots (root_same seen scope room moment moved same how good.1) same.roots;
        places = put_same to (step_place seen (room_of moved) how) (step_place seen room how) scope.places moved.places room.places e same.places;
        vars = same.vars;
        writes = same.writes;
        wants = same.wants;
      })
  goes_tells (Cell to place sight index rest) scope room moment moved good same =
      let how = sight_op place sight in
      let e = op_same seen scope room moment moved same how (sight_regs scope.regs place sight) (sight_places scope.places place sight good.0.0) in
      let next = reg_same seen scope room moment moved to (op_word seen room moment how) (op_word seen (room_of moved) (moment_of moved) how) e same in
      let words = mapped scope.regs moved.regs room.regs same.regs index good.3 in
      tells_on seen.shapes _ _ moved.accesses (moved.accesses ++ sight_access sight place index moved ∷ []) _
      (tells_one seen.shapes (OpIsAt seen.shapes room how index) moved.accesses (sight_access sight place index moved)
      (sight_there room moved place sight index (same.places place good.0.0) (same.roots place good.0.0) words) (sight_back room moved place sight index (same.places place good.0.0) (same.roots place good.0.0) words))
      (goes_tells rest (and_reg to scope) (room_reg to (op_word seen room moment how) room) moment (moved_by_sight seen to place sight index moved) good.2
      (record { regs = next.regs; places = next.places; roots = next.roots; vars = next.vars; writes = next.writes; wants = next.wants }))
  goes_tells (Do (SetVar var from) rest) scope room moment moved good same =
      tells_on seen.shapes (Unit {0}) _ moved.accesses moved.accesses _ (tells_none seen.shapes moved.accesses)
      (goes_tells rest scope room (moment_after_act seen room (SetVar var from) moment) (moved_by seen (SetVar var from) moved) good.2 (act_same seen scope room moment moved same (SetVar var from) good.0 good.1))
  goes_tells (Do (WriteOwn layout field from stmt) rest) scope room moment moved good same =
      tells_on seen.shapes (Unit {0}) _ moved.accesses moved.accesses _ (tells_none seen.shapes moved.accesses)
      (goes_tells rest scope room (moment_after_act seen room (WriteOwn layout field from stmt) moment) (moved_by seen (WriteOwn layout field from stmt) moved) good.2 (act_same seen scope room moment moved same (WriteOwn layout field from stmt) good.0 good.1))
  goes_tells (Do (Contribute how layout field place from index stmt) rest) scope room moment moved good same =
      let words = mapped scope.regs moved.regs room.regs same.regs index good.0.1 in
      tells_on seen.shapes _ _ moved.accesses (moved.accesses ++ record { asks = false; layout = layout; place = moved.places place; at = named_by index moved } ∷ []) _
      (tells_one seen.shapes (IsAt seen.shapes room place layout index) moved.accesses (record { asks = false; layout = layout; place = moved.places place; at = named_by index moved })
      (at_there room moved place layout index (same.places place good.1.0) words) (at_back room moved place layout index (same.places place good.1.0) words))
      (goes_tells rest scope room (moment_after_act seen room (Contribute how layout field place from index stmt) moment) (moved_by seen (Contribute how layout field place from index stmt) moved) good.2
      (act_same seen scope room moment moved same (Contribute how layout field place from index stmt) good.0 good.1))
  goes_tells (Do (Wish layout index stmt) rest) scope room moment moved good same =
      tells_on seen.shapes (Unit {0}) _ moved.accesses moved.accesses _ (tells_none seen.shapes moved.accesses)
      (goes_tells rest scope room (moment_after_act seen room (Wish layout index stmt) moment) (moved_by seen (Wish layout index stmt) moved) good.2 (act_same seen scope room moment moved same (Wish layout index stmt) good.0 good.1))
  goes_tells (Branch cond block otherwise rest) scope room moment moved good same =
      let ways = subst (λ (word : ℕ). Tells seen.shapes (WhereTest (room.regs cond == 0) (NamesAll seen otherwise room moment) (NamesAll seen block room moment)) moved.accesses
      (if word == 0 then goes seen otherwise moved else goes seen block moved).accesses) (sym (same.regs cond good.0))
      (told (room.regs cond == 0) (goes_tells block scope room moment moved good.1 same) (goes_tells otherwise scope room moment moved good.2 same)) in
      let agreed = subst (λ (word : ℕ). AgreesInScope scope room (if room.regs cond == 0 then run seen otherwise room moment else run seen block room moment) (if word == 0 then goes seen otherwise moved else goes seen block moved))
      (sym (same.regs cond good.0)) (met (room.regs cond == 0) (scoped_same seen block scope room moment moved good.1 same) (scoped_same seen otherwise scope room moment moved good.2 same)) in
      tells_on seen.shapes _ _ moved.accesses (if moved.regs cond == 0 then goes seen otherwise moved else goes seen block moved).accesses _ ways
      (goes_tells rest scope room (if room.regs cond == 0 then run seen otherwise room moment else run seen block room moment) (if moved.regs cond == 0 then goes seen otherwise moved else goes seen block moved) good.3 agreed)
    where
      told : (test : Bool) → Tells seen.shapes (NamesAll seen block room moment) moved.accesses (goes seen block moved).accesses → Tells seen.shapes (NamesAll seen otherwise room moment) moved.accesses (goes seen otherwise moved).accesses
          → Tells seen.shapes (WhereTest test (NamesAll seen otherwise room moment) (NamesAll seen block room moment)) moved.accesses (if test then goes seen otherwise moved else goes seen block moved).accesses
      told true first second = second
      told false first second = first

      met : (test : Bool) → AgreesInScope scope room (run seen block room moment) (goes seen block moved) → AgreesInScope scope room (run seen otherwise room moment) (goes seen otherwise moved)
          → AgreesInScope scope room (if test then run seen otherwise room moment else run seen block room moment) (if test then goes seen otherwise moved else goes seen block moved)
      met true first second = second
      met false first second = first
  goes_tells (Loop var lo hi body rest) scope room moment moved good same =
      let agreed = scoped_same seen (Loop var lo hi body End) scope room moment moved (good.0, tt) same in
      tells_on seen.shapes _ _ moved.accesses (fold (λ reached turn. goes seen body (set_var_word var (word_of turn) reached)) moved (numbers lo hi)).accesses _
      (turns_tell scope room var body good.0 (λ reached moved_to met. goes_tells body scope room reached moved_to good.0 met) (numbers lo hi) moment moved same)
      (goes_tells rest scope room (fold (λ reached turn. run seen body room (at_turn var turn reached)) moment (numbers lo hi)) (fold (λ reached turn. goes seen body (set_var_word var (word_of turn) reached)) moved (numbers lo hi)) good.1 agreed)

  starts : AgreesInScope nothing first_room (moment_of (iteration_start seen)) (iteration_start seen)
  starts = record { regs = λ r is. refl; places = λ p is. refl; roots = λ p is. refl; vars = λ var. refl; writes = refl; wants = refl }

  -- of an iteration
  pub told_named : (regs : List Ty) (insts : List Inst) → IsScoped nothing (block_of regs insts) → AreNamed seen.shapes (iteration seen insts).accesses → NamesAll seen (block_of regs insts) first_room (moment_of (iteration_start seen))
  told_named regs insts scoped named =
      let tells = goes_tells (block_of regs insts) nothing first_room (moment_of (iteration_start seen)) (iteration_start seen) scoped starts in
      tells.back (all_each (IsNamedAccess seen.shapes) tells.more (subst (AreNamed seen.shapes) (ap (λ (moved : Moved). moved.accesses) (sym (goes-runs seen regs insts (iteration_start seen))) ∙ tells.is) named))

  pub named_told : (regs : List Ty) (insts : List Inst) → IsScoped nothing (block_of regs insts) → NamesAll seen (block_of regs insts) first_room (moment_of (iteration_start seen)) → AreNamed seen.shapes (iteration seen insts).accesses
  named_told regs insts scoped names =
      let tells = goes_tells (block_of regs insts) nothing first_room (moment_of (iteration_start seen)) (iteration_start seen) scoped starts in
      subst (AreNamed seen.shapes) (sym tells.is ∙ ap (λ (moved : Moved). moved.accesses) (goes-runs seen regs insts (iteration_start seen))) (each_all (IsNamedAccess seen.shapes) tells.more (tells.there names))
