-- Along a run of a block without what isn't kept each access is at its place, where this is so of the block.
use Rattle.std.specs.Prelude.{◌≡◌, refl, ℕ, ℤ, ◌==◌, Bool, true, false, not, ◌&&◌, ◌||◌, if◌then◌else◌, List, [], ◌∷◌, fold}
use Rattle.std.proofs.Common.{sym, ap, subst, ◌∙◌}
use Rattle.sg_flat.specs.Domain.{numbers}
use Rattle.sg_ir.specs.declared.op.Op.{Op}
use Rattle.sg_ir.specs.declared.op.Step.{Step}
use Rattle.sg_ir.specs.Runs.{Seen, coord_of}
use Rattle.sg_ir.specs.Places.{place_at}
use Rattle.sg_ir.specs.Blocks.{Sight, Value, Activity, sight_op, Block, End, Word, Spot, Cell, Do, Branch, Loop, Act, SetVar, WriteOwn, Contribute, Wish}
use Rattle.sg_ir.specs.SpanLaws.{WhereTest, EachTurn}
use Rattle.sg_ir.specs.InScope.{AreSet}
use Rattle.sg_ir.specs.Scoped.{RunMoment, Room, room_reg, room_place, op_word, step_root, step_place, moment_after_act, at_turn, run}
use Rattle.sg_simplify.specs.steps.Serves.{IsAt, OpIsAt, NamesAll}
use Rattle.sg_simplify.specs.Kept.{Keep, behind_where, is_end, kept_part, ReadsKept}
use Rattle.sg_simplify.proofs.KeptRuns.{SameRoom, SameMoment, reg_both, reg_past, place_both, place_past, op_same, step_same, root_same, sight_same, words_same, act_same, act_past, turn_both, leaves, turns_same, turns_past, left_of, right_of, keeps_run}

module _ (seen : Seen) (keep : Keep) where
  abbrev StaysNamed : Block → Type 0
  StaysNamed block = (room other : Room) (now later : RunMoment) → ReadsKept keep (kept_part keep block) → SameRoom seen keep room other → SameMoment seen keep now later → NamesAll seen block room now → NamesAll seen (kept_part keep block) other later

  at_kept : (room other : Room) (place layout : ℕ) (index : List ℕ) → SameRoom seen keep room other → keep.places place ≡ true → AreSet keep.regs index → IsAt seen.shapes room place layout index → IsAt seen.shapes other place layout index
  at_kept room other place layout index same on set h = same.places place on ∙ (h ∙ ap (λ ws. place_at seen.shapes layout (coord_of ws)) (sym (words_same seen keep index room other set same)))

  sight_kept : (room other : Room) (place : ℕ) (sight : Sight) (index : List ℕ) → SameRoom seen keep room other → keep.places place ≡ true → AreSet keep.regs index
      → OpIsAt seen.shapes room (sight_op place sight) index → OpIsAt seen.shapes other (sight_op place sight) index
  sight_kept room other place (Value layout field) index same on set h = at_kept room other place layout index same on set h
  sight_kept room other place Activity index same on set h =
      subst (λ (layout : ℕ). IsAt seen.shapes other place layout index) (sym (same.roots place on)) (at_kept room other place (room.roots place) index same on set h)

  word_named : (to : ℕ) (how : Op) (rest : Block) → StaysNamed rest → StaysNamed (Word to how rest)
  word_named to how rest more room other now later reads same moment names = by_test (keep.regs to) refl reads
    where
      by_test : (test : Bool) → keep.regs to ≡ test → ReadsKept keep (behind_where test (Word to how) (kept_part keep rest)) → NamesAll seen (behind_where test (Word to how) (kept_part keep rest)) other later
      by_test true e read = more (room_reg to (op_word seen room now how) room) (room_reg to (op_word seen other later how) other) now later read.3
          (reg_both seen keep to _ _ room other (op_same seen keep how room other now later read.0 read.1 read.2 same moment) same) moment names
      by_test false e read = more (room_reg to (op_word seen room now how) room) other now later read (reg_past seen keep to _ room other e same) moment names

  spot_named : (to : ℕ) (how : Step) (rest : Block) → StaysNamed rest → StaysNamed (Spot to how rest)
  spot_named to how rest more room other now later reads same moment names = by_test (keep.places to) refl reads
    where
      by_test : (test : Bool) → keep.places to ≡ test → ReadsKept keep (behind_where test (Spot to how) (kept_part keep rest)) → NamesAll seen (behind_where test (Spot to how) (kept_part keep rest)) other later
      by_test true e read = more (room_place to (step_root room how) (step_place seen room how) room) (room_place to (step_root other how) (step_place seen other how) other) now later read.2
          (place_both seen keep to _ _ _ _ room other (root_same seen keep how room other read.1 same) (step_same seen keep how room other read.0 read.1 same) same) moment names
      by_test false e read = more (room_place to (step_root room how) (step_place seen room how) room) other now later read (place_past seen keep to _ _ room other e same) moment names

  cell_named : (to place : ℕ) (sight : Sight) (index : List ℕ) (rest : Block) → StaysNamed rest → StaysNamed (Cell to place sight index rest)
  cell_named to place sight index rest more room other now later reads same moment names = by_test (keep.regs to) refl reads
    where
      how : Op
      how = sight_op place sight

      by_test : (test : Bool) → keep.regs to ≡ test → ReadsKept keep (behind_where test (Cell to place sight index) (kept_part keep rest)) → NamesAll seen (behind_where test (Cell to place sight index) (kept_part keep rest)) other later
      by_test true e read = (
        sight_kept room other place sight index same read.1 read.0 names.0,
        more (room_reg to (op_word seen room now how) room) (room_reg to (op_word seen other later how) other) now later read.2
            (reg_both seen keep to _ _ room other (sight_same seen keep place sight room other now later read.1 same moment) same) moment names.1,
      )
      by_test false e read = more (room_reg to (op_word seen room now how) room) other now later read (reg_past seen keep to _ room other e same) moment names.1

  do_named : (what : Act) (rest : Block) → StaysNamed rest → StaysNamed (Do what rest)
  do_named (SetVar var from) rest more room other now later reads same moment names = by_test (keep.vars var) refl reads
    where
      what : Act
      what = SetVar var from

      by_test : (test : Bool) → keep.vars var ≡ test → ReadsKept keep (behind_where test (Do what) (kept_part keep rest)) → NamesAll seen (behind_where test (Do what) (kept_part keep rest)) other later
      by_test true e read = (tt, more room other (moment_after_act seen room what now) (moment_after_act seen other what later) read.2 same (act_same seen keep what room other now later read.0 read.1 same moment) names.1)
      by_test false e read = more room other (moment_after_act seen room what now) later read same (act_past seen keep what room now later e moment) names.1
  do_named (WriteOwn layout field from stmt) rest more room other now later reads same moment names =
      (tt, more room other _ _ reads.2 same (act_same seen keep (WriteOwn layout field from stmt) room other now later reads.0 reads.1 same moment) names.1)
  do_named (Contribute how layout field place from index stmt) rest more room other now later reads same moment names = (
    at_kept room other place layout index same reads.1.0 reads.0.1 names.0,
    more room other _ _ reads.2 same (act_same seen keep (Contribute how layout field place from index stmt) room other now later reads.0 reads.1 same moment) names.1,
  )
  do_named (Wish layout index stmt) rest more room other now later reads same moment names =
      (tt, more room other _ _ reads.2 same (act_same seen keep (Wish layout index stmt) room other now later reads.0 reads.1 same moment) names.1)

  branch_named : (cond : ℕ) (block otherwise rest : Block) → StaysNamed block → StaysNamed otherwise → StaysNamed rest → StaysNamed (Branch cond block otherwise rest)
  branch_named cond block otherwise rest one two more room other now later reads same moment names = by_test (is_end (kept_part keep block) && is_end (kept_part keep otherwise)) refl reads
    where
      inst : Block → Block
      inst = Branch cond (kept_part keep block) (kept_part keep otherwise)

      -- if nothing is left
      none_way : (zero_is : Bool) → is_end (kept_part keep block) ≡ true → is_end (kept_part keep otherwise) ≡ true → SameMoment seen keep (if zero_is then run seen otherwise room now else run seen block room now) later
      none_way true e f = leaves seen keep otherwise (keeps_run seen keep otherwise) f room now later moment
      none_way false e f = leaves seen keep block (keeps_run seen keep block) e room now later moment

      either_way : (zero_is : Bool) → ReadsKept keep (kept_part keep block) → ReadsKept keep (kept_part keep otherwise)
          → SameMoment seen keep (if zero_is then run seen otherwise room now else run seen block room now) (if zero_is then run seen (kept_part keep otherwise) other later else run seen (kept_part keep block) other later)
      either_way true e f = keeps_run seen keep otherwise room other now later f same moment
      either_way false e f = keeps_run seen keep block room other now later e same moment

      either_named : (zero_is : Bool) → ReadsKept keep (kept_part keep block) → ReadsKept keep (kept_part keep otherwise) → WhereTest zero_is (NamesAll seen otherwise room now) (NamesAll seen block room now)
          → WhereTest zero_is (NamesAll seen (kept_part keep otherwise) other later) (NamesAll seen (kept_part keep block) other later)
      either_named true e f h = two room other now later f same moment h
      either_named false e f h = one room other now later e same moment h

      by_test : (none : Bool) → (is_end (kept_part keep block) && is_end (kept_part keep otherwise)) ≡ none → ReadsKept keep (behind_where (not none) inst (kept_part keep rest)) → NamesAll seen (behind_where (not none) inst (kept_part keep rest)) other later
      by_test true e read = more room other (if room.regs cond == 0 then run seen otherwise room now else run seen block room now) later read same
          (none_way (room.regs cond == 0) (left_of seen keep (is_end (kept_part keep block)) (is_end (kept_part keep otherwise)) e) (right_of seen keep (is_end (kept_part keep block)) (is_end (kept_part keep otherwise)) e)) names.1
      by_test false e read = (
        subst (λ (w : ℕ). WhereTest (w == 0) (NamesAll seen (kept_part keep otherwise) other later) (NamesAll seen (kept_part keep block) other later)) (sym (same.regs cond read.0))
            (either_named (room.regs cond == 0) read.1 read.2 names.0),
        more room other (if room.regs cond == 0 then run seen otherwise room now else run seen block room now)
            (if other.regs cond == 0 then run seen (kept_part keep otherwise) other later else run seen (kept_part keep block) other later) read.3 same
            (subst (λ (w : ℕ). SameMoment seen keep (if room.regs cond == 0 then run seen otherwise room now else run seen block room now) (if w == 0 then run seen (kept_part keep otherwise) other later else run seen (kept_part keep block) other later))
            (sym (same.regs cond read.0)) (either_way (room.regs cond == 0) read.1 read.2)) names.1,
      )

  turns_named : (body : Block) → StaysNamed body → (var : ℕ) (room other : Room) → ReadsKept keep (kept_part keep body) → SameRoom seen keep room other → (turns : List ℤ) (now later : RunMoment) → SameMoment seen keep now later
      → EachTurn (λ turn reached. NamesAll seen body room (at_turn var turn reached)) (λ reached turn. run seen body room (at_turn var turn reached)) now turns
      → EachTurn (λ turn reached. NamesAll seen (kept_part keep body) other (at_turn var turn reached)) (λ reached turn. run seen (kept_part keep body) other (at_turn var turn reached)) later turns
  turns_named body names var room other reads same [] now later moment each = tt
  turns_named body names var room other reads same (turn ∷ turns) now later moment each = (
    names room other (at_turn var turn now) (at_turn var turn later) reads same (turn_both seen keep var turn now later moment) each.0,
    turns_named body names var room other reads same turns (run seen body room (at_turn var turn now)) (run seen (kept_part keep body) other (at_turn var turn later))
        (keeps_run seen keep body room other (at_turn var turn now) (at_turn var turn later) reads same (turn_both seen keep var turn now later moment)) each.1,
  )

  loop_named : (var : ℕ) (lo hi : ℤ) (body rest : Block) → StaysNamed body → StaysNamed rest → StaysNamed (Loop var lo hi body rest)
  loop_named var lo hi body rest turn more room other now later reads same moment names = by_test (keep.vars var) (is_end (kept_part keep body)) refl refl reads
    where
      inst : Block → Block
      inst = Loop var lo hi (kept_part keep body)

      turns : RunMoment
      turns = fold (λ reached turn. run seen body room (at_turn var turn reached)) now (numbers lo hi)

      stays : ReadsKept keep (inst (kept_part keep rest)) → NamesAll seen (inst (kept_part keep rest)) other later
      stays read = (
        turns_named body turn var room other read.1 same (numbers lo hi) now later moment names.0,
        more room other turns _ read.2 same (turns_same seen keep body (keeps_run seen keep body) var room other read.1 same (numbers lo hi) now later moment) names.1,
      )

      by_test : (known none : Bool) → keep.vars var ≡ known → is_end (kept_part keep body) ≡ none → ReadsKept keep (behind_where (known || not none) inst (kept_part keep rest))
          → NamesAll seen (behind_where (known || not none) inst (kept_part keep rest)) other later
      by_test true none e f read = stays read
      by_test false false e f read = stays read
      by_test false true e f read = more room other turns later read same (turns_past seen keep body (keeps_run seen keep body) f var e room (numbers lo hi) now later moment) names.1

  -- a block without what isn't kept names its accesses
  pub kept_named : (block : Block) → StaysNamed block
  kept_named End = λ room other now later reads same moment names. tt
  kept_named (Word to how rest) = word_named to how rest (kept_named rest)
  kept_named (Spot to how rest) = spot_named to how rest (kept_named rest)
  kept_named (Cell to place sight index rest) = cell_named to place sight index rest (kept_named rest)
  kept_named (Do what rest) = do_named what rest (kept_named rest)
  kept_named (Branch cond block otherwise rest) = branch_named cond block otherwise rest (kept_named block) (kept_named otherwise) (kept_named rest)
  kept_named (Loop var lo hi body rest) = loop_named var lo hi body rest (kept_named body) (kept_named rest)
