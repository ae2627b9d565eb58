-- Worked equations of what can be left out of code.
use Rattle.std.specs.Prelude.{◌≡◌, refl, ◌==◌, true, false, Bool, pos, [], ◌∷◌}
use Rattle.sg_words.specs.declared.operators.Ty.TheVariants as ty
use Rattle.sg_words.specs.declared.operators.BinOp.TheVariants as bin
use Rattle.sg_ir.specs.declared.op.Op.TheVariants as op
use Rattle.sg_ir.specs.Blocks.{Block, End, Word, Do, Branch, Loop, SetVar, WriteOwn, Wish}
use Rattle.sg_simplify.specs.Kept.{Keep, behind_where, kept_part, ReadsKept, IsLean}

-- register 0 alone
abbrev first_only : Keep
first_only = record { regs = λ r. r == 0; places = λ p. false; vars = λ v. false }

-- a slice that wants the loop's coordinate: of the loop that counts in variable 1 nothing is left
abbrev counting : Block
counting = Word 0 (op.Var 0) (Word 1 (op.Const 0 false) (Do (SetVar 1 1) (Loop 2 (pos 0) (pos 200)
    (Word 2 (op.Var 1) (Word 3 (op.Const 8 false) (Word 4 (op.Bin bin.Lt ty.I32 2 3) (Branch 4 (Word 5 (op.Bin bin.Add ty.I32 2 3) (Do (SetVar 1 5) End)) End End))))
    (Do (Wish 0 (0 ∷ []) 0) End))))

loop_goes : kept_part first_only counting ≡ Word 0 (op.Var 0) (Do (Wish 0 (0 ∷ []) 0) End)
loop_goes = refl

-- so it isn't lean
counting_is_not_lean : IsLean counting → ⊥
counting_is_not_lean lean = differ (lean keep_one (tt, tt, (refl, tt), ((refl, tt), tt, tt)))
  where
    keep_one : Keep
    keep_one = record { regs = λ r. r == 0; places = λ p. false; vars = λ v. v == 0 }

    differ : Word 0 (op.Var 0) (Do (Wish 0 (0 ∷ []) 0) End) ≡ counting → ⊥
    differ e = absurd (cc)

-- what is left is lean: a write's register and what that is made of have to stay
abbrev writing : Block
writing = Word 0 (op.Var 0) (Word 1 (op.Bin bin.Add ty.I32 0 0) (Do (WriteOwn 0 0 1 0) End))

writing_is_lean : IsLean writing
writing_is_lean keep reads = by_tests (keep.regs 0) (keep.regs 1) refl refl reads
  where
    clash : {A : Type 0} (b : Bool) → b ≡ true → b ≡ false → A
    clash b e f = absurd (cc)

    write : Block
    write = Do (WriteOwn 0 0 1 0) End

    by_tests : (a b : Bool) → keep.regs 0 ≡ a → keep.regs 1 ≡ b → ReadsKept keep (behind_where a (Word 0 (op.Var 0)) (behind_where b (Word 1 (op.Bin bin.Add ty.I32 0 0)) write))
        → behind_where a (Word 0 (op.Var 0)) (behind_where b (Word 1 (op.Bin bin.Add ty.I32 0 0)) write) ≡ writing
    by_tests true true e f reads = refl
    by_tests true false e f reads = clash (keep.regs 1) reads.3.0.0 f
    by_tests false true e f reads = clash (keep.regs 0) reads.0.0 e
    by_tests false false e f reads = clash (keep.regs 1) reads.0.0 f
