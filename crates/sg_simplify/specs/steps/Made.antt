-- What code has made so far, as the pass on chains has it; and that instructions which were put out stand for what the pass puts out.
use Rattle.std.specs.Prelude.{◌≡◌, ℕ, ◌≤◌, ◌^◌, Bool, true, false, IsTrue, List, ◌++◌, map, length, reverse}
use Rattle.std.specs.List.{list_all}
use Rattle.sg_words.specs.declared.operators.Ty.{Ty}
use Rattle.sg_words.specs.declared.operators.Ty.TheVariants as ty
use Rattle.std.specs.Prelude.{get_or}
use Rattle.sg_layout.specs.declared.shape.NodeShape.{NodeShape}
use Rattle.sg_layout.specs.declared.shape.Shape.{Shape}
use Rattle.sg_flat.specs.declared.effects.Domain.{Domain}
use Rattle.sg_ir.specs.declared.code.Code.{Code}
use Rattle.sg_layout.specs.Axes.{extent_over}
use Rattle.sg_layout.specs.Rules.{has_good_extents}
use Rattle.sg_ir.specs.declared.code.Inst.{Inst, fold-Inst}
use Rattle.sg_ir.specs.declared.code.Inst.TheOpen as i
use Rattle.sg_ir.specs.declared.code.Inst.TheOpen.{Inst-F}
use Rattle.sg_ir.specs.declared.op.Op.{Op}
use Rattle.sg_ir.specs.declared.op.Op.TheVariants as op
use Rattle.sg_ir.specs.declared.op.Step.{Step}
use Rattle.sg_ir.specs.declared.op.Step.TheVariants as step
use Rattle.sg_ir.specs.Trimmed.{is_within}
use Rattle.sg_ir.specs.Blocks.{Block, chained, link, block_of, block_in}
use Rattle.sg_ir.specs.WellTyped.{is_truth}
use Rattle.sg_simplify.specs.declared.given.Given as code
use Rattle.sg_simplify.specs.declared.made.Made.{Made}
use Rattle.sg_simplify.specs.declared.made.Looped.{Looped}
use Rattle.sg_ir.specs.declared.span.Span.{Span}
use Rattle.sg_simplify.specs.steps.Pass.{Given, Pass, Next, Making, given_of, span_of, next_with_reg, with_name, span_in, check_at, first_pass, first_next, simplified}

-- what is given in code
abbrev pub given_in : code.Given → Given
given_in given = given_of given.layouts.now.list given.domain given.code.now.regs (block_of given.code.now.regs given.code.now.body)

-- what the pass puts out of a whole code
abbrev pub put_out : List Shape → Domain → Code → Block × Next
put_out shapes domain given = simplified (given_of shapes domain given.regs (block_in given)) (block_in given) first_pass first_next

-- the variable of a loop with its span there
abbrev pub span_in_loop : Looped → ℕ × Span
span_in_loop looped = (looped.var, looped.span)

-- what is known, and what was put out
abbrev pub pass_of : Made → Pass
pass_of made = record { ops = made.ops.entries; steps = made.steps.entries; loops = reverse (map span_in_loop made.loops) }

-- the types and spans of the registers, how many places, and the new names, as code has put them out so far
abbrev pub next_of : Made → Next
next_of made = record { types = map (λ reg. reg.ty) made.regs; spans = map (λ reg. reg.span) made.regs; places = made.places; names = made.names.entries }

-- the types of the registers that were put out so far, by their numbers
abbrev pub types_of : Made → List Ty
types_of made = map (λ reg. reg.ty) made.regs

-- more registers, and more that is known
pub record Longer (old new : Made) : Type 0 where
  pub types : List Ty
  pub more_types : types_of new ≡ types_of old ++ types
  pub ops : List (Op × ℕ)
  pub more_ops : (pass_of new).ops ≡ (pass_of old).ops ++ ops
  pub steps : List (Step × ℕ)
  pub more_steps : (pass_of new).steps ≡ (pass_of old).steps ++ steps
  pub loops : (pass_of new).loops ≡ (pass_of old).loops

-- instructions before what the pass puts out
abbrev pub onto : List Ty → List Inst → Block × Next → Block × Next
onto types insts made = (chained (map (link types) insts) made.0, made.1)

-- whatever the types of later registers are, the instructions so far and then what the one puts out are those further on and then
-- what the other puts out
abbrev pub Continues : Made → Made → List Inst → List Inst → Making → Making → Type 0
Continues old new before behind making rest =
    (more : List Ty) → onto (types_of new ++ more) before (making (pass_of old) (next_of old)) ≡ onto (types_of new ++ more) behind (rest (pass_of new) (next_of new))

-- instructions were put out that stand for what the pass puts out on its way from one to the other
pub record Goes (old new : Made) (before behind : List Inst) (making rest : Making) : Type 0 where
  pub longer : Longer old new
  pub continues : Continues old new before behind making rest

-- what follows a register of the given code, once its new one is known
abbrev pub onward : Given → ℕ → Block → ℕ → Making
onward given from rest to pass next = simplified given rest pass (with_name from to next)

-- the check of one axis, if it is needed
abbrev pub check_in : (axis extent index place : ℕ) → (ℕ → Making) → Making
check_in axis extent index place go pass next = check_at (is_within extent (span_in next index)) (step.Check place axis extent index) place go pass next

-- extents of nodes are at least 1, and no product of those of an axis is past the greatest
pub record AreWide (nodes : List NodeShape) : Type 0 where
  pub good : IsTrue (list_all has_good_extents nodes)
  pub small : (axis : ℕ) → 1 ≤ axis → extent_over nodes axis ≤ 2 ^ 15

-- One layer: whether an instruction sets a register to an operation.
abbrev pub word_step : Inst-F Bool → Bool
word_step (i.Const to word) = true
word_step (i.Var to var) = true
word_step (i.Bin to how kind a b) = true
word_step (i.Un to how kind a) = true
word_step (i.Mulq to a b s) = true
word_step (i.Extract to div size from) = true
word_step (i.Offset to high size low) = true
word_step (i.OwnRead to layout field) = true
word_step _ = false

-- an instruction sets a register to an operation other than a read of a cell
abbrev pub is_word : Inst → Bool
is_word = fold-Inst Bool word_step

-- a constant's register holds a truth value where the operation says so
abbrev pub HasTruth : Ty → Op → Type 0
HasTruth type (op.Const word truth) = truth ≡ is_truth type
HasTruth type how = Unit {0}

-- a constant set to this register is a truth value exactly when the register's type is Bool; U32 where the register isn't there
abbrev pub TruthIs : List Ty → ℕ → Op → Type 0
TruthIs types to how = HasTruth (get_or types to ty.U32) how

-- a new register
pub record AddsMadeReg (given : Given) (type : Ty) (how : Op) (to : ℕ) (old new : Made) : Type 0 where
  pub number : to ≡ length (next_of old).spans
  pub known : pass_of new ≡ pass_of old
  pub next : next_of new ≡ next_with_reg type (span_of given (pass_of old) (next_of old) how) (next_of old)
