-- What the pass keeps: what is known holds of the room in which its output runs, and what follows serves whatever result is wanted.
use Rattle.std.specs.Prelude.{◌≡◌, ℕ, ◌<◌, ◌≤◌, ◌==◌, true, if◌then◌else◌, List, [], ◌∷◌, length, map, fold, Option, Some, ℤ, ◌≤ℤ◌, ◌<ℤ◌}
use Rattle.sg_words.specs.WordLaws.{IsWord}
use Rattle.sg_flat.specs.Domain.{numbers}
use Rattle.sg_layout.specs.declared.shape.Shape.{Shape}
use Rattle.sg_layout.specs.Axes.{bounds_of_shape}
use Rattle.sg_words.specs.declared.operators.Ty.{Ty}
use Rattle.sg_words.specs.declared.operators.BinOp.{BinOp}
use Rattle.sg_words.specs.Words.{word_of, applied}
use Rattle.sg_ir.specs.declared.op.Op.{Op}
use Rattle.sg_ir.specs.declared.op.Op.TheVariants as op
use Rattle.sg_ir.specs.declared.op.Step.{Step}
use Rattle.sg_ir.specs.declared.op.Step.TheVariants as step
use Rattle.sg_ir.specs.Runs.{Seen, Place, coord_of}
use Rattle.sg_ir.specs.Places.{place_at}
use Rattle.sg_ir.specs.Blocks.{sight_op, Block, End, Word, Spot, Cell, Do, Branch, Loop, Act, SetVar, WriteOwn, Contribute, Wish}
use Rattle.sg_ir.specs.declared.span.Span.{Span}
use Rattle.sg_ir.specs.Span.{whole_i32, Spans, bin_span, range_span, op_span, sets}
use Rattle.sg_ir.specs.Shared.{same_op, same_step}
use Rattle.sg_ir.specs.SpanLaws.{Lies, HasConstantWord, WhereTest, EachTurn, IsSpanned, RoomFits, FitsSpans}
use Rattle.sg_ir.specs.Scoped.{RunMoment, Room, room_reg, room_place, op_word, step_root, step_place, moment_after_act, at_turn, run}
use Rattle.sg_ir.specs.Places.{extents_in}
use Rattle.sg_ir.specs.steps.Walks.{checks, led}
use Rattle.sg_simplify.specs.steps.Pass.{Given, Pass, Next, Making, span_in, vars_of}

-- each item of a list
abbrev pub EachByRecursion : {A : Type 0} → (A → Type 0) → List A → Type 0
EachByRecursion P [] = Unit {0}
EachByRecursion P (x ∷ xs) = P x × EachByRecursion P xs

-- the place is that of the coordinate that the index registers name
abbrev pub IsAt : List Shape → Room → ℕ → ℕ → List ℕ → Type 0
IsAt shapes room place layout index = room.places place ≡ place_at shapes layout (coord_of (map room.regs index))

-- what sees something at a place is at the place of its coordinate: in the layout of the field, or in that from whose root the place comes
abbrev pub OpIsAt : List Shape → Room → Op → List ℕ → Type 0
OpIsAt shapes room (op.Read place layout field) index = IsAt shapes room place layout index
OpIsAt shapes room (op.Active place) index = IsAt shapes room place (room.roots place) index
OpIsAt shapes room how index = Unit {0}

-- along a run of a block each access is at its place
abbrev pub NamesAll : Seen → Block → Room → RunMoment → Type 0
NamesAll seen End room now = Unit {0}
NamesAll seen (Word to how rest) room now = NamesAll seen rest (room_reg to (op_word seen room now how) room) now
NamesAll seen (Spot to how rest) room now = NamesAll seen rest (room_place to (step_root room how) (step_place seen room how) room) now
NamesAll seen (Cell to place sight index rest) room now =
    OpIsAt seen.shapes room (sight_op place sight) index × NamesAll seen rest (room_reg to (op_word seen room now (sight_op place sight)) room) now
NamesAll seen (Do what rest) room now = ActIsAt what × NamesAll seen rest room (moment_after_act seen room what now)
  where
    ActIsAt : Act → Type 0
    ActIsAt (SetVar var from) = Unit {0}
    ActIsAt (WriteOwn layout field from stmt) = Unit {0}
    ActIsAt (Contribute how layout field place from index stmt) = IsAt seen.shapes room place layout index
    ActIsAt (Wish layout index stmt) = Unit {0}
NamesAll seen (Branch cond block otherwise rest) room now =
    WhereTest (room.regs cond == 0) (NamesAll seen otherwise room now) (NamesAll seen block room now)
    × NamesAll seen rest room (if room.regs cond == 0 then run seen otherwise room now else run seen block room now)
NamesAll seen (Loop var lo hi body rest) room now =
    EachTurn (λ turn reached. NamesAll seen body room (at_turn var turn reached)) (λ reached turn. run seen body room (at_turn var turn reached)) now (numbers lo hi)
    × NamesAll seen rest room (fold (λ reached turn. run seen body room (at_turn var turn reached)) now (numbers lo hi))

-- what an operation and a step read is below these numbers of registers and places
abbrev pub OpBelow : ℕ → ℕ → Op → Type 0
OpBelow regs places (op.Const word truth) = Unit {0}
OpBelow regs places (op.Var var) = Unit {0}
OpBelow regs places (op.Bin how kind a b) = (a < regs) × (b < regs)
OpBelow regs places (op.Un how kind a) = a < regs
OpBelow regs places (op.Mulq a b s) = (a < regs) × (b < regs) × (s < regs)
OpBelow regs places (op.Extract div size from) = from < regs
OpBelow regs places (op.Offset high size low) = (high < regs) × (low < regs)
OpBelow regs places (op.Read place layout field) = place < places
OpBelow regs places (op.Active place) = place < places
OpBelow regs places (op.OwnRead layout field) = Unit {0}

-- the place and the register that a step reads are below these numbers; a root reads none
abbrev pub StepBelow : ℕ → ℕ → Step → Type 0
StepBelow regs places (step.Root layout) = Unit {0}
StepBelow regs places (step.Check place axis extent index) = (place < places) × (index < regs)
StepBelow regs places (step.Down descent place node offset) = (place < places) × (offset < regs)

-- the word that an operation gives stays along a block
abbrev pub OpStays : Block → Op → Type 0
OpStays rest (op.Var var) = sets var rest ≡ 0
OpStays rest (op.OwnRead layout field) = ⊥
OpStays rest how = Unit {0}

-- an entry of the table of operations, and of that of steps
pub record OpHolds (seen : Seen) (rest : Block) (next : Next) (room : Room) (now : RunMoment) (entry : Op × ℕ) : Type 0 where
  pub named : entry.1 < length next.spans
  pub below : OpBelow (length next.spans) next.places entry.0
  pub stays : OpStays rest entry.0
  pub word : room.regs entry.1 ≡ op_word seen room now entry.0
  pub lies : Lies (span_in next entry.1) (room.regs entry.1)

-- a known step reads what was put out, and its place, put out too, is in this room the one that the step gives, and from the same root
pub record StepHolds (seen : Seen) (next : Next) (room : Room) (entry : Step × ℕ) : Type 0 where
  pub named : entry.1 < next.places
  pub below : StepBelow (length next.spans) next.places entry.0
  pub place : room.places entry.1 ≡ step_place seen room entry.0
  pub root : room.roots entry.1 ≡ step_root room entry.0

-- what is known holds in a room at a moment, from which the rest of a block runs
pub record HoldsInRoom (seen : Seen) (given : Given) (rest : Block) (pass : Pass) (next : Next) (room : Room) (now : RunMoment) : Type 0 where
  pub ops : EachByRecursion (OpHolds seen rest next room now) pass.ops
  pub steps : EachByRecursion (StepHolds seen next room) pass.steps
  pub words : (r : ℕ) → Lies whole_i32 (room.regs r)
  pub fits : FitsSpans (vars_of given pass) now

-- more was put out, and what was set stays set
pub record Later (next : Next) (room : Room) (further : Next) (beyond : Room) : Type 0 where
  pub regs : length next.spans ≤ length further.spans
  pub places : next.places ≤ further.places
  pub spans : (r : ℕ) → r < length next.spans → span_in further r ≡ span_in next r
  pub kept : (r : ℕ) → r < length next.spans → beyond.regs r ≡ room.regs r
  pub kept_places : (p : ℕ) → p < next.places → beyond.places p ≡ room.places p
  pub kept_roots : (p : ℕ) → p < next.places → beyond.roots p ≡ room.roots p

-- the same inner loops are round here, and given registers have the same names
pub record Alike (pass : Pass) (next : Next) (known : Pass) (further : Next) : Type 0 where
  pub loops : known.loops ≡ pass.loops
  pub names : further.names ≡ next.names

-- what is put out runs to a result, and names its accesses
pub record Good (seen : Seen) (made : Block × Next) (room : Room) (now result : RunMoment) : Type 0 where
  pub runs : run seen made.0 room now ≡ result
  pub names : NamesAll seen made.0 room now

-- what follows is good, given a register with this word, or this place
abbrev pub Serves : Seen → Given → Block → Pass → Next → Room → RunMoment → RunMoment → ℕ → (ℕ → Making) → Type 0
Serves seen given rest pass next room now result word go =
    (t : ℕ) (known : Pass) (further : Next) (beyond : Room) → Later next room further beyond → Alike pass next known further → HoldsInRoom seen given rest known further beyond now →
    t < length further.spans → beyond.regs t ≡ word → Lies (span_in further t) word → Good seen (go t known further) beyond now result

-- what follows is good, given a place of this room that is this one, or none if this is none, and comes from the root of this layout
abbrev pub ServesPlace : Seen → Given → Block → Pass → Next → Room → RunMoment → RunMoment → ℕ → Option Place → (ℕ → Making) → Type 0
ServesPlace seen given rest pass next room now result root place go =
    (t : ℕ) (known : Pass) (further : Next) (beyond : Room) → Later next room further beyond → Alike pass next known further → HoldsInRoom seen given rest known further beyond now →
    t < further.places → beyond.places t ≡ place → beyond.roots t ≡ root → Good seen (go t known further) beyond now result

-- what the laws of words and of equality say
pub record Laws (seen : Seen) : Type 0 where
  pub same_ops : (a b : Op) → same_op a b ≡ true → a ≡ b
  pub same_steps : (a b : Step) → same_step a b ≡ true → a ≡ b
  pub all_words : (word : ℕ) → IsWord word → Lies whole_i32 word
  pub ranges : (lo hi turn : ℤ) → lo ≤ℤ turn → turn <ℤ hi → Lies (range_span lo hi) (word_of turn)
  pub runs_fit : (block : Block) (spans : Spans) (room : Room) (now : RunMoment) → IsSpanned spans block → RoomFits spans room → FitsSpans spans now → FitsSpans spans (run seen block room now)
  pub wide : (span : Span) (word : ℕ) → Lies span word → Lies whole_i32 word
  pub bins : (how : BinOp) (kind : Ty) (x y : Span) (a b : ℕ) → Lies x a → Lies y b → Lies (bin_span how kind x y) (applied how kind a b)
  pub words : (spans : Spans) (room : Room) (now : RunMoment) → RoomFits spans room → FitsSpans spans now → (how : Op) → HasConstantWord how → Lies (op_span spans how) (op_word seen room now how)

-- operands lie in their spans
abbrev pub OpLies : Next → Room → Op → Type 0
OpLies next room (op.Bin how kind a b) = Lies (span_in next a) (room.regs a) × Lies (span_in next b) (room.regs b)
OpLies next room (op.Extract div size from) = Lies (span_in next from) (room.regs from)
OpLies next room (op.Offset high size low) = Lies (span_in next high) (room.regs high) × Lies (span_in next low) (room.regs low)
OpLies next room how = Unit {0}

-- an index register is there, and its word in its span
abbrev pub IsIndex : Next → Room → ℕ → Type 0
IsIndex next room r = (r < length next.spans) × Lies (span_in next r) (room.regs r)

-- the walk of words down a layout leads to the place of their coordinate
abbrev pub Leads : List Shape → ℕ → Shape → List ℕ → Type 0
Leads shapes layout shape words =
    led shapes 1 shape.nodes words (checks (extents_in (bounds_of_shape shape)) words (Some (record { layout = layout; path = [] }))) ≡ place_at shapes layout (coord_of words)
