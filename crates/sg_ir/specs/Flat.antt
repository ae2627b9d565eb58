-- The meaning of a chain over one file of registers and one of places, as runs of lists of instructions have it.
use Rattle.std.specs.Prelude.{ℕ, true, false, ◌==◌, if◌then◌else◌, List, fold, Some}
use Rattle.sg_words.specs.Words.{word_of}
use Rattle.sg_flat.specs.declared.effects.Way.TheVariants.{Own, Acc}
use Rattle.sg_flat.specs.Domain.{numbers}
use Rattle.sg_ir.specs.Runs.{Seen, Moved, Access, set_reg, set_place, set_var_word, add_code_write, add_want, add_access, at_of, named_by}
use Rattle.sg_ir.specs.Blocks.{Sight, Value, Activity, sight_op, Block, End, Word, Spot, Cell, Do, Branch, Loop, Act, SetVar, WriteOwn, Contribute, Wish}
use Rattle.sg_ir.specs.Scoped.{Room, RunMoment, op_word, step_root, step_place}

-- what a run has made, as registers and places in scope, and as a moment
abbrev pub room_of : Moved → Room
room_of now = record { regs = now.regs; places = now.places; roots = now.roots }

-- the variables, writes and wants of a run, without its accesses
abbrev pub moment_of : Moved → RunMoment
moment_of now = record { vars = now.vars; writes = now.writes; wants = now.wants }

-- after an act
abbrev pub moved_by : Seen → Act → Moved → Moved
moved_by seen (SetVar var from) now = set_var_word var (now.regs from) now
moved_by seen (WriteOwn layout field from stmt) now =
    add_code_write (record { layout = layout; field = field; stmt = stmt; at = Some seen.at; way = Own; value = now.regs from }) now
moved_by seen (Contribute how layout field place from index stmt) now =
    add_code_write (record { layout = layout; field = field; stmt = stmt; at = at_of seen.shapes (now.places place); way = Acc how; value = now.regs from })
    (add_access (record { asks = false; layout = layout; place = now.places place; at = named_by index now }) now)
moved_by seen (Wish layout index stmt) now = add_want (record { layout = layout; stmt = stmt; at = named_by index now }) now

-- what it is to see something at a place, as an access
abbrev pub sight_access : Sight → ℕ → List ℕ → Moved → Access
sight_access (Value layout field) place index now = record { asks = false; layout = layout; place = now.places place; at = named_by index now }
sight_access Activity place index now = record { asks = true; layout = now.roots place; place = now.places place; at = named_by index now }

-- after something is seen at a place
abbrev pub moved_by_sight : Seen → ℕ → ℕ → Sight → List ℕ → Moved → Moved
moved_by_sight seen to place sight index now =
    set_reg to (op_word seen (room_of now) (moment_of now) (sight_op place sight)) (add_access (sight_access sight place index now) now)

-- a run of a chain
abbrev pub goes : Seen → Block → Moved → Moved
goes seen End now = now
goes seen (Word to how rest) now = goes seen rest (set_reg to (op_word seen (room_of now) (moment_of now) how) now)
goes seen (Spot to how rest) now = goes seen rest (set_place to (step_root (room_of now) how) (step_place seen (room_of now) how) now)
goes seen (Cell to place sight index rest) now = goes seen rest (moved_by_sight seen to place sight index now)
goes seen (Do what rest) now = goes seen rest (moved_by seen what now)
goes seen (Branch cond block otherwise rest) now = goes seen rest (if now.regs cond == 0 then goes seen otherwise now else goes seen block now)
goes seen (Loop var lo hi body rest) now = goes seen rest (fold (λ reached turn. goes seen body (set_var_word var (word_of turn) reached)) now (numbers lo hi))
