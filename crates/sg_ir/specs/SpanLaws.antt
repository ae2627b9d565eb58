-- The law of spans: in every iteration each word that a register is set to lies in the span of the instruction that sets it.
use Rattle.std.specs.Prelude.{◌≡◌, ℕ, ◌==◌, Bool, true, false, List, [], ◌∷◌, ℤ, ◌≤ℤ◌, All, Contains}
use Rattle.sg_words.specs.declared.operators.Ty.TheVariants as ty
use Rattle.sg_words.specs.Words.{number}
use Rattle.sg_words.specs.WordLaws.{IsWord}
use Rattle.sg_coord.specs.declared.coord.Coord.{Coord}
use Rattle.sg_flat.specs.Domain.{numbers, domain_points}
use Rattle.sg_flat.specs.declared.effects.Domain.{Domain}
use Rattle.sg_flat.specs.declared.state.FlatState.{FlatState}
use Rattle.sg_flat.specs.State.{IsFlat}
use Rattle.sg_layout.specs.declared.shape.Shape.{Shape}
use Rattle.sg_flat.specs.State as flat
use Rattle.sg_ir.specs.declared.op.Op.{Op}
use Rattle.sg_ir.specs.declared.op.Op.TheVariants as op
use Rattle.sg_ir.specs.Runs.{Seen, CodeWrite, iteration_start}
use Rattle.sg_ir.specs.Blocks.{sight_op, Block, End, Word, Spot, Cell, Do, Branch, Loop, Act, SetVar, WriteOwn, Contribute, Wish}
use Rattle.sg_ir.specs.declared.span.Span.{Span}
use Rattle.sg_ir.specs.Span.{whole_i32, Spans, reg_span, var_span, op_span, with_span, in_loop, first_spans}
use Rattle.sg_ir.specs.Scoped.{RunMoment, Room, room_reg, room_place, op_word, step_root, step_place, moment_after_act, at_turn, run, first_room}
use Rattle.sg_ir.specs.Flat.{moment_of}

-- a word whose number, as I32, is in the span
pub record Lies (span : Span) (word : ℕ) : Type 0 where
  pub is_word : IsWord word
  pub low : span.lo ≤ℤ number ty.I32 word
  pub high : number ty.I32 word ≤ℤ span.hi

-- the one or the other, as a test says
abbrev pub WhereTest : Bool → Type 0 → Type 0 → Type 0
WhereTest true P Q = P
WhereTest false P Q = Q

-- a fact at the moment of each turn, where `next` makes the moment of a turn from that of the turn before
abbrev pub EachTurn : (ℤ → RunMoment → Type 0) → (RunMoment → ℤ → RunMoment) → RunMoment → List ℤ → Type 0
EachTurn holds next now [] = Unit {0}
EachTurn holds next now (turn ∷ turns) = holds turn now × EachTurn holds next (next now turn) turns

-- along a run of a block each word that a register is set to lies in the span of the instruction that sets it
abbrev pub SpansHold : Seen → Spans → Block → Room → RunMoment → Type 0
SpansHold seen spans End room now = Unit {0}
SpansHold seen spans (Word to how rest) room now =
    Lies (op_span spans how) (op_word seen room now how) × SpansHold seen (with_span to (op_span spans how) spans) rest (room_reg to (op_word seen room now how) room) now
SpansHold seen spans (Spot to how rest) room now = SpansHold seen spans rest (room_place to (step_root room how) (step_place seen room how) room) now
SpansHold seen spans (Cell to place sight index rest) room now =
    Lies whole_i32 (op_word seen room now (sight_op place sight)) × SpansHold seen (with_span to whole_i32 spans) rest (room_reg to (op_word seen room now (sight_op place sight)) room) now
SpansHold seen spans (Do what rest) room now = SpansHold seen spans rest room (moment_after_act seen room what now)
SpansHold seen spans (Branch cond block otherwise rest) room now =
    WhereTest (room.regs cond == 0) (SpansHold seen spans otherwise room now) (SpansHold seen spans block room now)
    × SpansHold seen spans rest room (run seen (Branch cond block otherwise End) room now)
SpansHold seen spans (Loop var lo hi body rest) room now =
    EachTurn (λ turn reached. SpansHold seen (in_loop var lo hi spans) body room (at_turn var turn reached)) (λ reached turn. run seen body room (at_turn var turn reached)) now (numbers lo hi)
    × SpansHold seen spans rest room (run seen (Loop var lo hi body End) room now)

-- an operation whose constant is a word
abbrev pub HasConstantWord : Op → Type 0
HasConstantWord (op.Const word truth) = IsWord word
HasConstantWord (op.Var var) = Unit {0}
HasConstantWord (op.Bin how given a b) = Unit {0}
HasConstantWord (op.Un how given a) = Unit {0}
HasConstantWord (op.Mulq a b s) = Unit {0}
HasConstantWord (op.Extract div size from) = Unit {0}
HasConstantWord (op.Offset high size low) = Unit {0}
HasConstantWord (op.Read place layout field) = Unit {0}
HasConstantWord (op.Active place) = Unit {0}
HasConstantWord (op.OwnRead layout field) = Unit {0}

-- constants of a block are words, and an instruction sets only a variable that has all of I32 there
abbrev pub IsSpanned : Spans → Block → Type 0
IsSpanned spans End = Unit {0}
IsSpanned spans (Word to how rest) = HasConstantWord how × IsSpanned (with_span to (op_span spans how) spans) rest
IsSpanned spans (Spot to how rest) = IsSpanned spans rest
IsSpanned spans (Cell to place sight index rest) = IsSpanned (with_span to whole_i32 spans) rest
IsSpanned spans (Do what rest) = ActIsSpanned what × IsSpanned spans rest
  where
    ActIsSpanned : Act → Type 0
    ActIsSpanned (SetVar var from) = var_span spans var ≡ whole_i32
    ActIsSpanned (WriteOwn layout field from stmt) = Unit {0}
    ActIsSpanned (Contribute how layout field place from index stmt) = Unit {0}
    ActIsSpanned (Wish layout index stmt) = Unit {0}
IsSpanned spans (Branch cond block otherwise rest) = IsSpanned spans block × IsSpanned spans otherwise × IsSpanned spans rest
IsSpanned spans (Loop var lo hi body rest) = (var_span spans var ≡ whole_i32) × IsSpanned (in_loop var lo hi spans) body × IsSpanned spans rest

-- all values of the state are words
abbrev pub StateIsWords : Seen → Type 0
StateIsWords seen = (layout field : ℕ) (at : Coord) → IsWord (flat.value_of seen.shapes seen.state layout field at)

-- what is known holds of the registers in scope, and of a moment: words of variables lie in their spans, and written values are words
abbrev pub RoomFits : Spans → Room → Type 0
RoomFits spans room = (r : ℕ) → Lies (reg_span spans r) (room.regs r)

-- at a moment each variable's word lies in its span, and each value written so far is a word
pub record FitsSpans (spans : Spans) (now : RunMoment) : Type 0 where
  pub vars : (var : ℕ) → Lies (var_span spans var) (now.vars var)
  pub writes : All (λ (write : CodeWrite). IsWord write.value) now.writes

-- The law of spans: for every flat state and every coordinate of the domain, along the iteration each word that a register is set to
-- lies in the span of the instruction that sets it.
abbrev pub WordsLieInSpans : List Shape → Domain → Block → Type 0
WordsLieInSpans shapes domain block =
    IsSpanned (first_spans shapes domain block) block →
    (state : FlatState) → IsFlat shapes state → (at : Coord) → Contains (domain_points state domain) at →
    let seen : Seen = record { shapes = shapes; state = state; at = at } in
    SpansHold seen (first_spans shapes domain block) block first_room (moment_of (iteration_start seen))
