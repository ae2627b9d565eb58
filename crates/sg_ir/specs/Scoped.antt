-- The meaning of a block where registers and places are in scope to the end of their block: a run hands on variables and what it told.
use Rattle.std.specs.Prelude.{ℕ, ◌+◌, ◌*◌, ◌/◌, ◌%◌, ◌^◌, ◌==◌, if◌then◌else◌, List, [], ◌∷◌, ◌++◌, map, fold, Option, Some, None, ℤ}
use Rattle.sg_words.specs.Words.{word_of, flag, applied, applied_un, mulq_of}
use Rattle.sg_flat.specs.declared.effects.Way.TheVariants.{Own, Acc}
use Rattle.sg_flat.specs.State as flat
use Rattle.sg_flat.specs.Domain.{numbers}
use Rattle.sg_ir.specs.declared.op.Op.{Op}
use Rattle.sg_ir.specs.declared.op.Op.TheVariants as op
use Rattle.sg_ir.specs.declared.op.Step.{Step}
use Rattle.sg_ir.specs.declared.op.Step.TheVariants as step
use Rattle.sg_ir.specs.Runs.{Seen, Place, CodeWrite, CodeWant, put, check, down, at_of, cell_value, is_active_place, coord_of, own_write, value_or_own}
use Rattle.sg_ir.specs.Blocks.{sight_op, Block, End, Word, Spot, Cell, Do, Branch, Loop, Act, SetVar, WriteOwn, Contribute, Wish}

-- what a run hands on: the words of variables, and what was written and wanted so far
pub record RunMoment : Type 0 where
  pub vars : ℕ → ℕ
  pub writes : List CodeWrite
  pub wants : List CodeWant

-- what is set in scope: a register that isn't has 0, a place none
pub record Room : Type 0 where
  pub regs : ℕ → ℕ
  pub places : ℕ → Option Place
  pub roots : ℕ → ℕ

-- what is set in scope, where this register now holds this word
abbrev pub room_reg : ℕ → ℕ → Room → Room
room_reg to word room = record { regs = put to word room.regs; places = room.places; roots = room.roots }

-- what is set in scope, where this place is now that one, or none
abbrev pub room_place : ℕ → ℕ → Option Place → Room → Room
room_place to root place room = record { regs = room.regs; places = put to place room.places; roots = put to root room.roots }

-- the word that an operation gives
abbrev pub op_word : Seen → Room → RunMoment → Op → ℕ
op_word seen room now (op.Const word truth) = word
op_word seen room now (op.Var var) = now.vars var
op_word seen room now (op.Bin how given a b) = applied how given (room.regs a) (room.regs b)
op_word seen room now (op.Un how given a) = applied_un how (room.regs a)
op_word seen room now (op.Mulq a b s) = mulq_of (room.regs a) (room.regs b) (room.regs s)
op_word seen room now (op.Extract div size from) = room.regs from / div % size
op_word seen room now (op.Offset high size low) = (room.regs high * size + room.regs low) % 2 ^ 32
op_word seen room now (op.Read place layout field) = cell_value seen layout field (at_of seen.shapes (room.places place))
op_word seen room now (op.Active place) = flag (is_active_place seen (at_of seen.shapes (room.places place)) (room.places place))
op_word seen room now (op.OwnRead layout field) = value_or_own (own_write layout field now.writes) (flat.value_of seen.shapes seen.state layout field seen.at)

-- the place that a step gives
abbrev pub step_place : Seen → Room → Step → Option Place
step_place seen room (step.Root layout) = Some (record { layout = layout; path = [] })
step_place seen room (step.Check place axis extent index) = check extent (room.regs index) (room.places place)
step_place seen room (step.Down descent place node offset) = down seen.shapes node (room.regs offset) (room.places place)

-- the layout from whose root the place comes that a step gives
abbrev pub step_root : Room → Step → ℕ
step_root room (step.Root layout) = layout
step_root room (step.Check place axis extent index) = room.roots place
step_root room (step.Down descent place node offset) = room.roots place

-- the moment after an act
abbrev pub moment_after_act : Seen → Room → Act → RunMoment → RunMoment
moment_after_act seen room (SetVar var from) now = record { vars = put var (room.regs from) now.vars; writes = now.writes; wants = now.wants }
moment_after_act seen room (WriteOwn layout field from stmt) now = record {
  vars = now.vars;
  writes = now.writes ++ record { layout = layout; field = field; stmt = stmt; at = Some seen.at; way = Own; value = room.regs from } ∷ [];
  wants = now.wants;
}
moment_after_act seen room (Contribute how layout field place from index stmt) now = record {
  vars = now.vars;
  writes = now.writes ++ record { layout = layout; field = field; stmt = stmt; at = at_of seen.shapes (room.places place); way = Acc how; value = room.regs from } ∷ [];
  wants = now.wants;
}
moment_after_act seen room (Wish layout index stmt) now = record {
  vars = now.vars;
  writes = now.writes;
  wants = now.wants ++ record { layout = layout; stmt = stmt; at = coord_of (map room.regs index) } ∷ [];
}

-- the moment where a loop's variable has the word of a turn
abbrev pub at_turn : ℕ → ℤ → RunMoment → RunMoment
at_turn var turn now = record { vars = put var (word_of turn) now.vars; writes = now.writes; wants = now.wants }

-- a run of a block
abbrev pub run : Seen → Block → Room → RunMoment → RunMoment
run seen End room now = now
run seen (Word to how rest) room now = run seen rest (room_reg to (op_word seen room now how) room) now
run seen (Spot to how rest) room now = run seen rest (room_place to (step_root room how) (step_place seen room how) room) now
run seen (Cell to place sight index rest) room now = run seen rest (room_reg to (op_word seen room now (sight_op place sight)) room) now
run seen (Do what rest) room now = run seen rest room (moment_after_act seen room what now)
run seen (Branch cond block otherwise rest) room now = run seen rest room (if room.regs cond == 0 then run seen otherwise room now else run seen block room now)
run seen (Loop var lo hi body rest) room now = run seen rest room (fold (λ reached turn. run seen body room (at_turn var turn reached)) now (numbers lo hi))

-- the start of an iteration
abbrev pub first_room : Room
first_room = record { regs = λ r. 0; places = λ p. None; roots = λ p. 0 }
