-- The pass, on chains: equal pure instructions are shared, and the places of accesses are built anew with the checks that they need.
-- What follows an instruction is passed on, so that a chain of instructions is one expression.
use Rattle.std.specs.Prelude.{ℕ, ℤ, suc, Bool, true, false, ◌&&◌, ◌==◌, if◌then◌else◌, List, [], ◌∷◌, ◌++◌, length, map, nat_eq, slice_get, get_or, unwrap_or, Option, Some, None}
use Rattle.std.specs.Map.{lookup}
use Rattle.indexmap.specs.IndexMap.{insert_entry}
use Rattle.sg_words.specs.declared.operators.Ty.{Ty}
use Rattle.sg_words.specs.declared.operators.Ty.TheVariants as ty
use Rattle.sg_layout.specs.declared.shape.Kind.{Kind}
use Rattle.sg_layout.specs.declared.shape.Kind.TheVariants.{Dense, Bitmasked, Pointer, Hash, Dynamic}
use Rattle.sg_layout.specs.declared.shape.NodeShape.{NodeShape}
use Rattle.sg_layout.specs.declared.shape.Shape.{Shape}
use Rattle.sg_layout.specs.Axes.{bounds_of_shape, extent_in, extent_over}
use Rattle.sg_flat.specs.declared.effects.Domain.{Domain}
use Rattle.sg_ir.specs.declared.op.Op.{Op}
use Rattle.sg_ir.specs.declared.op.Op.TheVariants as op
use Rattle.sg_ir.specs.declared.op.Step.{Step}
use Rattle.sg_ir.specs.declared.op.Step.TheVariants as step
use Rattle.sg_ir.specs.declared.op.Descent.{Descent}
use Rattle.sg_ir.specs.declared.op.Descent.TheVariants as by
use Rattle.sg_ir.specs.Places.{extents_in}
use Rattle.sg_ir.specs.Blocks.{Sight, Value, Activity, sight_op, Block, End, Word, Spot, Cell, Do, Branch, Loop, Act, SetVar, WriteOwn, Contribute, Wish}
use Rattle.sg_ir.specs.declared.span.Span.{Span}
use Rattle.sg_ir.specs.Span.{whole_i32, Spans, bin_span, range_span, op_span, first_spans}
use Rattle.sg_ir.specs.Shared.{same_op, same_step, is_pure, is_single}
use Rattle.sg_ir.specs.Trimmed.{is_within}
use Rattle.sg_ir.specs.WellTyped.{is_truth}

-- what is given: the layouts, the types of the given registers, which variables at most one instruction sets, the spans of the variables
-- outside of inner loops of them, and the layouts from whose roots given places come
pub record Given : Type 0 where
  pub shapes : List Shape
  pub types : List Ty
  pub single : ℕ → Bool
  pub others : ℕ → Span
  pub roots : List (ℕ × ℕ)

-- the layout from whose root a place comes; 0 if nothing is known of it
abbrev pub root_known : List (ℕ × ℕ) → ℕ → ℕ
root_known roots place = unwrap_or (lookup (nat_eq place) roots) 0

-- the layout from whose root the place comes that a step gives
abbrev pub root_by : List (ℕ × ℕ) → Step → ℕ
root_by roots (step.Root layout) = layout
root_by roots (step.Check place axis extent index) = root_known roots place
root_by roots (step.Down descent place node offset) = root_known roots place

-- the same for each place that a block sets, in order of the text, beside those that are known before
abbrev pub roots_in : List (ℕ × ℕ) → Block → List (ℕ × ℕ)
roots_in roots End = roots
roots_in roots (Word to how rest) = roots_in roots rest
roots_in roots (Spot to how rest) = roots_in (insert_entry nat_eq roots to (root_by roots how)) rest
roots_in roots (Cell to place sight index rest) = roots_in roots rest
roots_in roots (Do what rest) = roots_in roots rest
roots_in roots (Branch cond block otherwise rest) = roots_in (roots_in (roots_in roots block) otherwise) rest
roots_in roots (Loop var lo hi body rest) = roots_in (roots_in roots body) rest

-- what is known in scope: the registers of pure operations and the places of steps that were put out, the oldest first; and the spans
-- of the variables of the inner loops round here, the last first
pub record Pass : Type 0 where
  pub ops : List (Op × ℕ)
  pub steps : List (Step × ℕ)
  pub loops : List (ℕ × Span)

-- what was put out so far: the types and the spans of the registers, how many places, and the new register of each given one
pub record Next : Type 0 where
  pub types : List Ty
  pub spans : List Span
  pub places : ℕ
  pub names : List (ℕ × ℕ)

-- what is put out from here on, and what was put out after it
abbrev pub Making : Type 0
Making = Pass → Next → Block × Next

-- the new name of a given register; itself if it has none
abbrev pub made_name : Next → ℕ → ℕ
made_name next r = unwrap_or (lookup (nat_eq r) next.names) r

-- from here on the given register has this new name, instead of any that it had
abbrev pub with_name : ℕ → ℕ → Next → Next
with_name from to next = record { types = next.types; spans = next.spans; places = next.places; names = insert_entry nat_eq next.names from to }

-- one more register was put out, of this type and span: its number is how many there were
abbrev pub next_with_reg : Ty → Span → Next → Next
next_with_reg type span next = record { types = next.types ++ type ∷ []; spans = next.spans ++ span ∷ []; places = next.places; names = next.names }

-- one more place was put out: its number is how many there were
abbrev pub next_with_place : Next → Next
next_with_place next = record { types = next.types; spans = next.spans; places = suc next.places; names = next.names }

-- the type of a given register
abbrev pub given_type : Given → ℕ → Ty
given_type given r = get_or given.types r ty.U32

-- the span of a new register, and of the word that an operation on new registers gives
abbrev pub span_in : Next → ℕ → Span
span_in next r = get_or next.spans r whole_i32

-- the spans of variables here: for the variable of a loop round here that of its range, else the given one; none of registers
abbrev pub vars_of : Given → Pass → Spans
vars_of given pass = record { regs = []; loops = pass.loops; others = given.others }

-- the span in which the word of an operation on new registers lies here: all of i32 if nothing is known of it
abbrev pub span_of : Given → Pass → Next → Op → Span
span_of given pass next (op.Bin how kind a b) = bin_span how kind (span_in next a) (span_in next b)
span_of given pass next how = op_span (vars_of given pass) how

-- an operation on the new registers
abbrev pub renamed : Next → Op → Op
renamed next (op.Const word truth) = op.Const word truth
renamed next (op.Var var) = op.Var var
renamed next (op.Bin how kind a b) = op.Bin how kind (made_name next a) (made_name next b)
renamed next (op.Un how kind a) = op.Un how kind (made_name next a)
renamed next (op.Mulq a b s) = op.Mulq (made_name next a) (made_name next b) (made_name next s)
renamed next (op.Extract div size from) = op.Extract div size (made_name next from)
renamed next (op.Offset high size low) = op.Offset (made_name next high) size (made_name next low)
renamed next (op.Read place layout field) = op.Read place layout field
renamed next (op.Active place) = op.Active place
renamed next (op.OwnRead layout field) = op.OwnRead layout field

-- what is known after a register and a place that are put out
abbrev pub and_op : Op → ℕ → Pass → Pass
and_op how to pass = record { ops = pass.ops ++ (how, to) ∷ []; steps = pass.steps; loops = pass.loops }

-- after a step that is put out it is known which place it gives
abbrev pub and_step : Step → ℕ → Pass → Pass
and_step how to pass = record { ops = pass.ops; steps = pass.steps ++ (how, to) ∷ []; loops = pass.loops }

-- in front of what is put out
abbrev pub put_in_front : (Block → Block) → Block × Next → Block × Next
put_in_front link made = (link made.0, made.1)

-- the instruction that sets a register to an operation; what sees something at a place has index registers besides
abbrev pub set_word : ℕ → Op → List ℕ → Block → Block
set_word to (op.Read place layout field) index rest = Cell to place (Value layout field) index rest
set_word to (op.Active place) index rest = Cell to place Activity index rest
set_word to how index rest = Word to how rest

-- `go` is what follows, given the register. A new register; and one that holds the operation: a known one, else a new one.
abbrev pub fresh : Given → Ty → Op → List ℕ → (ℕ → Making) → Making
fresh given type how index go pass next =
    put_in_front (set_word (length next.spans) how index) (go (length next.spans) pass (next_with_reg type (span_of given pass next how) next))

-- what follows gets the known register if there is one, else a new one that is known from here on
abbrev pub taken_at : Given → Ty → Op → List ℕ → (ℕ → Making) → Option ℕ → Making
taken_at given type how index go (Some t) pass next = go t pass next
taken_at given type how index go None pass next =
    put_in_front (set_word (length next.spans) how index)
    (go (length next.spans) (and_op how (length next.spans) pass) (next_with_reg type (span_of given pass next how) next))

-- a register that holds the operation: one known to hold the same operation, else a new one
abbrev pub looked_up : Given → Ty → Op → List ℕ → (ℕ → Making) → Making
looked_up given type how index go pass next = taken_at given type how index go (lookup (same_op how) pass.ops) pass next

-- the first of two registers that may be there
abbrev pub first_of : Option ℕ → Option ℕ → Option ℕ
first_of (Some r) other = Some r
first_of None other = other

-- a register where a test holds, else none
abbrev pub reg_where : Bool → ℕ → Option ℕ
reg_where true r = Some r
reg_where false r = None

-- the operand whose word an operation gives again: the whole of a word below the size, and a sum with 0
abbrev pub operand_again : Next → Op → Option ℕ
operand_again next (op.Extract div size from) = reg_where ((div == 1) && is_within size (span_in next from)) from
operand_again next (op.Offset high size low) =
    first_of (reg_where (is_within 1 (span_in next high)) low) (reg_where ((size == 1) && is_within 1 (span_in next low)) high)
operand_again next how = None

-- an operation in its plainest form: a word modulo 1 is 0
abbrev pub plainest : Ty → Op → Op
plainest type (op.Extract div size from) = if size == 1 then op.Const 0 (is_truth type) else op.Extract div size from
plainest type how = how

-- what follows gets the operand that the operation gives again, if there is one
abbrev pub taken_or : Given → Ty → Op → List ℕ → (ℕ → Making) → Option ℕ → Making
taken_or given type how index go (Some t) pass next = go t pass next
taken_or given type how index go None pass next = looked_up given type (plainest type how) index go pass next

-- a register that holds the word of the operation: an operand, one known to hold the same operation, or a new one
abbrev pub taken : Given → Ty → Op → List ℕ → (ℕ → Making) → Making
taken given type how index go pass next = taken_or given type how index go (operand_again next how) pass next

-- the register of an operation: a shared one where the operation is pure, else always a new one
abbrev pub numbered : Bool → Given → Ty → Op → (ℕ → Making) → Making
numbered true given type how go pass next = taken given type how [] go pass next
numbered false given type how go pass next = fresh given type how [] go pass next

-- a place that a step gives: a known one, else a new one
abbrev pub stepped_at : Step → (ℕ → Making) → Option ℕ → Making
stepped_at how go (Some t) pass next = go t pass next
stepped_at how go None pass next = put_in_front (Spot next.places how) (go next.places (and_step how next.places pass) (next_with_place next))

-- the place of the same step where one is known, else a new place that is known from here on
abbrev pub stepped : Step → (ℕ → Making) → Making
stepped how go pass next = stepped_at how go (lookup (same_step how) pass.steps) pass next

-- the checks of axes from this one on: one where the span isn't within the extent
abbrev pub check_at : Bool → Step → ℕ → (ℕ → Making) → Making
check_at true how place go pass next = go place pass next
check_at false how place go pass next = stepped how go pass next

-- one check for each axis from here on whose index register may lie outside; what follows gets the place after the last
abbrev pub checks_made : ℕ → List ℕ → List ℕ → ℕ → (ℕ → Making) → Making
checks_made axis [] index place go pass next = go place pass next
checks_made axis (extent ∷ extents) [] place go pass next = go place pass next
checks_made axis (extent ∷ extents) (r ∷ index) place go pass next =
    check_at (is_within extent (span_in next r)) (step.Check place axis extent r) place (λ p. checks_made (suc axis) extents index p go) pass next

-- the part of an index on an axis at a node
abbrev pub part : Given → NodeShape → List NodeShape → ℕ → ℕ → (ℕ → Making) → Making
part given node later axis r go = taken given ty.U32 (op.Extract (extent_over later axis) (extent_in node.sizes axis) r) [] go

-- the offset at a node, from an axis on, counted from 1
abbrev pub offset_made : Given → NodeShape → List NodeShape → ℕ → List ℕ → ℕ → (ℕ → Making) → Making
offset_made given node later axis [] high go pass next = go high pass next
offset_made given node later axis (r ∷ index) high go pass next =
    part given node later axis r
    (λ low. taken given ty.U32 (op.Offset high (extent_in node.sizes axis) low) [] (λ o. offset_made given node later (suc axis) index o go)) pass next

-- the offset at a node of the coordinate that index registers name; register 0 if there are no index registers
abbrev pub offset : Given → NodeShape → List NodeShape → List ℕ → (ℕ → Making) → Making
offset given node later [] go pass next = go 0 pass next
offset given node later (r ∷ index) go pass next = part given node later 1 r (λ high. offset_made given node later 2 index high go) pass next

-- the instruction that goes down a node of this kind: to a child, to one by its key, by a bit, or to a cell of a chunk
abbrev pub descent_of : Kind → Descent
descent_of Dense = by.Child
descent_of Pointer = by.Child
descent_of Hash = by.HashChild
descent_of Bitmasked = by.MaskBit
descent_of Dynamic = by.DynCell

-- down these nodes, of which the first has this number
abbrev pub descended : Given → List NodeShape → ℕ → List ℕ → ℕ → (ℕ → Making) → Making
descended given [] number index place go pass next = go place pass next
descended given (node ∷ later) number index place go pass next =
    offset given node later index
    (λ o. stepped (step.Down (descent_of node.kind) place number o) (λ p. descended given later (suc number) index p go)) pass next

-- the place of an access by index registers, in a layout that may be there
abbrev pub placed_in : Given → Option Shape → ℕ → List ℕ → (ℕ → Making) → Making
placed_in given None layout index go pass next = go 0 pass next
placed_in given (Some shape) layout index go pass next =
    stepped (step.Root layout)
    (λ r. checks_made 0 (extents_in (bounds_of_shape shape)) index r (λ p. descended given shape.nodes 1 index p go)) pass next

-- the place of an access to the layout with this number, from 0; place 0 if there is no such layout
abbrev pub place_made : Given → ℕ → List ℕ → (ℕ → Making) → Making
place_made given layout index go pass next = placed_in given (slice_get given.shapes layout) layout index go pass next

-- the layout at a given place of which something is seen: that of the field, or that from whose root the place comes
abbrev pub sight_layout : List (ℕ × ℕ) → ℕ → Sight → ℕ
sight_layout roots place (Value layout field) = layout
sight_layout roots place Activity = root_known roots place

-- the same, where the roots of given places are known
abbrev pub layout_seen : Given → ℕ → Sight → ℕ
layout_seen given = sight_layout given.roots

-- an act
abbrev pub act_made : Given → Act → Making → Making
act_made given (SetVar var from) go pass next = put_in_front (Do (SetVar var (made_name next from))) (go pass next)
act_made given (WriteOwn layout field from stmt) go pass next = put_in_front (Do (WriteOwn layout field (made_name next from) stmt)) (go pass next)
act_made given (Contribute how layout field place from index stmt) go pass next =
    place_made given layout (map (made_name next) index)
    (λ p now later. put_in_front (Do (Contribute how layout field p (made_name next from) (map (made_name next) index) stmt)) (go now later)) pass next
act_made given (Wish layout index stmt) go pass next = put_in_front (Do (Wish layout (map (made_name next) index) stmt)) (go pass next)

-- the inside of a loop
abbrev pub looped : ℕ → ℤ → ℤ → Pass → Pass
looped var lo hi pass = record { ops = pass.ops; steps = pass.steps; loops = (var, range_span lo hi) ∷ pass.loops }

-- The pass over a block. Places of the given code are left out. After a block inside, what was known before it is known again.
abbrev pub simplified : Given → Block → Making
simplified given End pass next = (End, next)
simplified given (Word to how rest) pass next =
    numbered (is_pure given.single how) given (given_type given to) (renamed next how) (λ t now later. simplified given rest now (with_name to t later)) pass next
simplified given (Spot to how rest) pass next = simplified given rest pass next
simplified given (Cell to place sight index rest) pass next =
    place_made given (layout_seen given place sight) (map (made_name next) index)
    (λ p. taken given (given_type given to) (sight_op p sight) (map (made_name next) index)
    (λ t now later. simplified given rest now (with_name to t later))) pass next
simplified given (Do what rest) pass next = act_made given what (simplified given rest) pass next
simplified given (Branch cond block otherwise rest) pass next =
    let first = simplified given block pass next in
    let second = simplified given otherwise pass first.1 in
    let more = simplified given rest pass second.1 in
    (Branch (made_name next cond) first.0 second.0 more.0, more.1)
simplified given (Loop var lo hi body rest) pass next =
    let turn = simplified given body (looped var lo hi pass) next in
    let more = simplified given rest pass turn.1 in
    (Loop var lo hi turn.0 more.0, more.1)

-- what is given with a whole block over a domain, and the starts
abbrev pub given_of : List Shape → Domain → List Ty → Block → Given
given_of shapes domain types block = record { shapes = shapes; types = types; single = is_single block; others = (first_spans shapes domain block).others; roots = roots_in [] block }

-- at the start of a whole block nothing is known, and no inner loop is round here
abbrev pub first_pass : Pass
first_pass = record { ops = []; steps = []; loops = [] }

-- at the start nothing was put out, and no given register has a new name
abbrev pub first_next : Next
first_next = record { types = []; spans = []; places = 0; names = [] }

-- the pass over a whole block
abbrev pub simple : List Shape → Domain → List Ty → Block → Block
simple shapes domain types block = (simplified (given_of shapes domain types block) block first_pass first_next).0
