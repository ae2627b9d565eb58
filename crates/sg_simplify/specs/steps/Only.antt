-- The uses of fields in a block, as a test of each.
use Rattle.std.specs.Prelude.{Bool, false, ◌||◌}
use Rattle.sg_flat.specs.declared.effects.Way.TheVariants.{Own, Acc}
use Rattle.sg_ir.specs.declared.op.Op.{Op}
use Rattle.sg_ir.specs.declared.op.Op.TheVariants as op
use Rattle.sg_ir.specs.Apt.{Use, Writes, Reads, ReadsOwn}
use Rattle.sg_ir.specs.Blocks.{sight_op, Block, End, Word, Spot, Cell, Do, Branch, Loop, Act, SetVar, WriteOwn, Contribute, Wish}

-- a use that passes a test
abbrev pub op_use : (Use → Bool) → Op → Bool
op_use test (op.Read place layout field) = test (Reads layout field)
op_use test (op.OwnRead layout field) = test (ReadsOwn layout field)
op_use test how = false

-- an act writes a field in a way that passes the test: its own cell, or a contribution by an operator
abbrev pub act_use : (Use → Bool) → Act → Bool
act_use test (SetVar var from) = false
act_use test (WriteOwn layout field from stmt) = test (Writes layout field Own)
act_use test (Contribute how layout field place from index stmt) = test (Writes layout field (Acc how))
act_use test (Wish layout index stmt) = false

-- some operation or act of a block, or of a block inside it, uses a field in a way that passes the test
abbrev pub has_use : (Use → Bool) → Block → Bool
has_use test End = false
has_use test (Word to how rest) = op_use test how || has_use test rest
has_use test (Spot to how rest) = has_use test rest
has_use test (Cell to place sight index rest) = op_use test (sight_op place sight) || has_use test rest
has_use test (Do what rest) = act_use test what || has_use test rest
has_use test (Branch cond block otherwise rest) = has_use test block || (has_use test otherwise || has_use test rest)
has_use test (Loop var lo hi body rest) = has_use test body || has_use test rest
