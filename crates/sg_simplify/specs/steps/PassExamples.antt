-- Worked equations of the pass.
use Rattle.std.specs.Prelude.{◌≡◌, refl, ◌&&◌, true, false, [], ◌∷◌}
use Rattle.sg_words.specs.declared.operators.Ty.TheVariants as ty
use Rattle.sg_words.specs.declared.operators.BinOp.TheVariants as bin
use Rattle.sg_flat.specs.declared.effects.Domain.TheVariants.{Walk}
use Rattle.sg_ir.specs.declared.op.Op.TheVariants as op
use Rattle.sg_ir.specs.declared.op.Step.TheVariants as step
use Rattle.sg_ir.specs.declared.op.Descent.TheVariants as by
use Rattle.sg_ir.specs.Blocks.{Value, End, Word, Spot, Cell, Do, Branch, WriteOwn}
use Rattle.sg_ir.specs.Shared.{is_shared}
use Rattle.sg_ir.specs.Trimmed.{is_trimmed}
use Rattle.sg_ir.specs.BlockExamples.{row_of_eight, two_reads}
use Rattle.sg_simplify.specs.steps.Pass.{simple}

-- a constant twice, and a sum of both
constants_are_shared : simple [] (Walk 0) [] (Word 4 (op.Const 5 false) (Word 5 (op.Const 5 false) (Word 6 (op.Bin bin.Add ty.I32 4 5) (Do (WriteOwn 0 0 6 0) End))))
    ≡ Word 0 (op.Const 5 false) (Word 1 (op.Bin bin.Add ty.I32 0 0) (Do (WriteOwn 0 0 1 0) End))
constants_are_shared = refl

-- what a branch has computed is not known after it
branches_keep_apart : simple [] (Walk 0) [] (Word 4 (op.Const 0 true) (Branch 4 (Word 5 (op.Const 5 false) End) End (Word 6 (op.Const 5 false) (Do (WriteOwn 0 0 6 0) End))))
    ≡ Word 0 (op.Const 0 true) (Branch 0 (Word 1 (op.Const 5 false) End) End (Word 2 (op.Const 5 false) (Do (WriteOwn 0 0 2 0) End)))
branches_keep_apart = refl

-- the check of a read at i isn't needed
needless_check_goes : simple (row_of_eight ∷ []) (Walk 0) [] (Word 0 (op.Var 0) (Spot 0 (step.Root 0) (Spot 1 (step.Check 0 0 8 0) (Word 1 (op.Extract 1 8 0) (Spot 2 (step.Down by.Child 1 1 1) (Cell 2 2 (Value 0 0) (0 ∷ []) End))))))
    ≡ Word 0 (op.Var 0) (Spot 0 (step.Root 0) (Spot 1 (step.Down by.Child 0 1 0) (Cell 1 1 (Value 0 0) (0 ∷ []) End)))
needless_check_goes = refl

-- the part of an index on an axis that isn't split is 0, and an offset with 0 for its other part is the one part
parts_of_one_go : simple (row_of_eight ∷ []) (Walk 0) [] (Word 0 (op.Var 0) (Word 1 (op.Extract 8 1 0) (Word 2 (op.Offset 1 8 0) (Word 3 (op.Offset 2 1 1) (Do (WriteOwn 0 0 3 0) End)))))
    ≡ Word 0 (op.Var 0) (Word 1 (op.Const 0 false) (Do (WriteOwn 0 0 0 0) End))
parts_of_one_go = refl

-- reads at i and at i - 1
two_reads_are_simple : (is_shared (simple (row_of_eight ∷ []) (Walk 0) [] two_reads) && is_trimmed (row_of_eight ∷ []) (Walk 0) (simple (row_of_eight ∷ []) (Walk 0) [] two_reads)) ≡ true
two_reads_are_simple = refl
