-- Shared code: no pure instruction computes again what an earlier one of its block, or of a block round it, has computed.
use Rattle.std.specs.Prelude.{ℕ, Bool, true, false, not, ◌&&◌, nat_le, List, [], ◌∷◌}
use Rattle.std.specs.List.{list_any}
use Rattle.sg_ir.specs.declared.op.Op.{Op}
use Rattle.sg_ir.specs.declared.op.Op.TheVariants as op
use Rattle.sg_ir.specs.declared.op.Step.{Step}
use Rattle.sg_ir.specs.contracts.op.OpPartialEq.TheImpl as op_eq
use Rattle.sg_ir.specs.contracts.op.StepPartialEq.TheImpl as step_eq
use Rattle.sg_ir.specs.Blocks.{sight_op, Block, End, Word, Spot, Cell, Do, Branch, Loop}
use Rattle.sg_ir.specs.Span.{sets}

-- two operations, and two steps to a place, are equal: their kinds and all their numbers are
abbrev pub same_op : Op → Op → Bool
same_op = (op_eq.eq-value).it

-- two steps are of one kind with the same numbers, whatever places they set
abbrev pub same_step : Step → Step → Bool
same_step = (step_eq.eq-value).it

-- A pure operation gives the same word wherever it stands in its block. Not pure are own reads, and the words of variables that more
-- than one instruction sets; `single` says which variables have one or none.
abbrev pub is_pure : (ℕ → Bool) → Op → Bool
is_pure single (op.Var var) = single var
is_pure single (op.OwnRead layout field) = false
is_pure single (op.Const word truth) = true
is_pure single (op.Bin how given a b) = true
is_pure single (op.Un how given a) = true
is_pure single (op.Mulq a b s) = true
is_pure single (op.Extract div size from) = true
is_pure single (op.Offset high size low) = true
is_pure single (op.Read place layout field) = true
is_pure single (op.Active place) = true

-- In a block after these operations and steps, of which none is a pure one that an earlier one equals. What is seen at a place is pure; two
-- that see the same at one place are equal whatever registers name their coordinate. What a block inside has, is not after what follows it.
abbrev pub shares : (ℕ → Bool) → List Op → List Step → Block → Bool
shares single ops steps End = true
shares single ops steps (Word to how rest) = not (is_pure single how && list_any (same_op how) ops) && shares single (how ∷ ops) steps rest
shares single ops steps (Spot to how rest) = not (list_any (same_step how) steps) && shares single ops (how ∷ steps) rest
shares single ops steps (Cell to place sight index rest) =
    not (list_any (same_op (sight_op place sight)) ops) && shares single (sight_op place sight ∷ ops) steps rest
shares single ops steps (Do what rest) = shares single ops steps rest
shares single ops steps (Branch cond block otherwise rest) =
    shares single ops steps block && (shares single ops steps otherwise && shares single ops steps rest)
shares single ops steps (Loop var lo hi body rest) = shares single ops steps body && shares single ops steps rest

-- no more than one instruction of a block sets a variable
abbrev pub is_single : Block → ℕ → Bool
is_single block var = nat_le (sets var block) 1

-- a whole block is shared
abbrev pub is_shared : Block → Bool
is_shared block = shares (is_single block) [] [] block
