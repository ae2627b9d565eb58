-- Worked judgements of code.
use Rattle.std.specs.Prelude.{◌≡◌, Bool, true, false, List, [], ◌∷◌, None}
use Rattle.std.proofs.Common.{refl}
use Rattle.sg_words.specs.declared.operators.Ty.TheVariants as ty
use Rattle.sg_words.specs.declared.operators.BinOp.TheVariants as b
use Rattle.sg_layout.specs.Examples.{line_of_four}
use Rattle.sg_ir.specs.declared.code.Inst.{Inst}
use Rattle.sg_ir.specs.declared.code.Inst.TheVariants as v
use Rattle.sg_ir.specs.WellTyped.{Frame, Scope, judged}
use Rattle.sg_ir.proofs.Judging.{judges-Const, judges-Var, judges-Bin, judges-Root, judges-Check, judges-Extract, judges-Child, judges-ReadCell, judges-OwnWrite, judges-If}

-- one layout of four points with one field; the registers 0 and 1 are truth values, the others numbers; one variable of the loop
abbrev frame : Frame
frame = record {
  shapes = line_of_four ∷ [];
  regs = ty.Bool ∷ ty.Bool ∷ ty.I32 ∷ ty.I32 ∷ ty.U32 ∷ ty.I32 ∷ [];
  places = 3;
  vars = ty.I32 ∷ [];
  setters = λ v. 0;
}

abbrev start : Scope
start = record { regs = λ r. false; places = λ p. None; vars = λ v. true }

-- whether all is good, as a word that stays
verdict : Bool × Scope → Bool
verdict reached = reached.0

verdict-is : (reached : Bool × Scope) → verdict reached ≡ reached.0
unfolding verdict
verdict-is reached = refl

-- `x[i] = x[i];` by its place
abbrev copies : List Inst
copies = v.Var 2 0 ∷ v.Root 0 0 ∷ v.Check 1 0 0 4 2 ∷ v.Extract 4 1 4 2 ∷ v.Child 2 1 1 4 ∷ v.ReadCell 5 2 0 0 (2 ∷ []) ∷ v.OwnWrite 0 0 5 1 ∷ []

copy_is_good : verdict (judged frame copies start) ≡ true
copy_is_good = simp (judges-Var frame, judges-Root frame, judges-Check frame, judges-Extract frame, judges-Child frame, judges-ReadCell frame, judges-OwnWrite frame) (verdict-is _)

-- an extent that isn't the axis's
other_extent_is_not : verdict (judged frame (v.Var 2 0 ∷ v.Root 0 0 ∷ v.Check 1 0 0 8 2 ∷ []) start) ≡ false
other_extent_is_not = simp (judges-Var frame, judges-Root frame, judges-Check frame) (verdict-is _)

-- a register that one branch of an `if` alone sets, used after it
branch_register_is_not : verdict (judged frame (v.Const 0 1 ∷ v.If 0 (v.Const 2 5 ∷ []) [] ∷ v.OwnWrite 0 0 2 1 ∷ []) start) ≡ false
branch_register_is_not = simp (judges-Const frame, judges-If frame, judges-OwnWrite frame) (verdict-is _)

-- a truth value as a number
truth_as_number_is_not : verdict (judged frame (v.Const 0 1 ∷ v.Var 2 0 ∷ v.Bin 3 b.Add ty.I32 2 0 ∷ []) start) ≡ false
truth_as_number_is_not = simp (judges-Const frame, judges-Var frame, judges-Bin frame) (verdict-is _)
