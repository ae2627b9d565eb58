-- Worked turns of kernel code.
use Rattle.std.specs.Prelude.{◌≡◌, ℕ, List, [], ◌∷◌, Some, None, Err}
use Rattle.std.proofs.Common.{refl, sym, ap, ◌∙◌}
use Rattle.sg_words.specs.declared.operators.Ty.TheVariants as ty
use Rattle.sg_words.specs.declared.operators.BinOp.TheVariants as b
use Rattle.sg_words.specs.declared.operators.AccOp.TheVariants as acc
use Rattle.sg_layout.specs.declared.shape.Shape.{Shape}
use Rattle.sg_layout.specs.Examples.{at1, line_of_four}
use Rattle.sg_flat.specs.declared.effects.Way.TheVariants.{Own, Acc}
use Rattle.sg_flat.specs.declared.effects.Write.{Write}
use Rattle.sg_flat.specs.declared.effects.Turn.{Turn}
use Rattle.sg_flat.specs.declared.effects.Domain.TheVariants.{Walk}
use Rattle.sg_flat.specs.declared.effects.RunFault.TheVariants.{WriteOutside}
use Rattle.sg_flat.specs.declared.state.FlatState.{FlatState}
use Rattle.sg_flat.specs.Examples.{state1}
use Rattle.sg_flat.specs.Kernel.{kernel_meaning}
use Rattle.sg_ir.specs.declared.code.Code.{Code}
use Rattle.sg_ir.specs.declared.code.Inst.{Inst}
use Rattle.sg_ir.specs.declared.code.Inst.TheVariants as v
use Rattle.sg_ir.specs.declared.code.KernelCode.{KernelCode}
use Rattle.sg_ir.specs.Runs.{Seen, Moved, CodeWrite, CodeWant, iteration}
use Rattle.sg_ir.proofs.Uses.{does-Const, does-Var, does-Bin, does-Root, does-Check, does-Extract, does-Child, does-OwnWrite, does-Acc, does-Want}
use Rattle.sg_exec.specs.Running.{located, seen_at, code_turn, code_effects, run_meaning}

-- two layouts of four points, and a state in which the points 2 and 3 of the first are active
abbrev shapes : List Shape
shapes = line_of_four ∷ line_of_four ∷ []

abbrev state : FlatState
state = state1 (at1 2 ∷ at1 3 ∷ []) []

-- `x[i] = 5; y[i + 1] += 5;`, with the numbers 3 and 4
abbrev body : List Inst
body =
    v.Const 0 5 ∷ v.OwnWrite 0 0 0 3 ∷ v.Var 1 0 ∷ v.Const 2 1 ∷ v.Bin 3 b.Add ty.I32 1 2
    ∷ v.Root 0 1 ∷ v.Check 1 0 0 4 3 ∷ v.Extract 4 1 4 3 ∷ v.Child 2 1 1 4 ∷ v.Acc acc.Add 1 0 2 0 (3 ∷ []) 4 ∷ []

abbrev slice : List Inst
slice = v.Var 0 0 ∷ v.Const 1 1 ∷ v.Bin 2 b.Add ty.I32 0 1 ∷ v.Want 1 (2 ∷ []) 4 ∷ []

abbrev code_of : List Inst → Code
code_of insts = record { regs = []; places = 3; vars = ty.I32 ∷ []; body = insts }

abbrev kernel : KernelCode
kernel = record { slice = code_of slice; code = code_of body; domain = Walk 0 }

-- ---- what is told, as words that stay
told : Moved → List CodeWrite
told now = now.writes

told-is : (now : Moved) → told now ≡ now.writes
unfolding told
told-is now = refl

wanted : Moved → List CodeWant
wanted now = now.wants

wanted-is : (now : Moved) → wanted now ≡ now.wants
unfolding wanted
wanted-is now = refl

abbrev turn_by : ℕ → List CodeWant → List CodeWrite → Turn
turn_by i wants writes = record { at = at1 i; writes = located (Walk 0) (at1 i) wants writes }

abbrev seen : ℕ → Seen
seen i = seen_at shapes state (at1 i)

shown : (i : ℕ) (wants : List CodeWant) (writes : List CodeWrite) → wanted (iteration (seen i) slice) ≡ wants → told (iteration (seen i) body) ≡ writes
    → code_turn shapes state kernel (at1 i) ≡ turn_by i wants writes
shown i wants writes w t =
    ap (λ (it : List CodeWant). turn_by i it (iteration (seen i) body).writes) (sym (wanted-is (iteration (seen i) slice)) ∙ w)
    ∙ ap (turn_by i wants) (sym (told-is (iteration (seen i) body)) ∙ t)

-- ---- turns: the own write at the loop's coordinate, and the contribution beside it, outside too
abbrev own : ℕ → Write
own i = record { layout = 0; place = 0; stmt = 3; at = at1 i; way = Own; value = 5 }

abbrev added : ℕ → Write
added i = record { layout = 1; place = 0; stmt = 4; at = at1 i; way = Acc acc.Add; value = 5 }

abbrev want : ℕ → CodeWant
want i = record { layout = 1; stmt = 4; at = at1 i }

abbrev own_code : ℕ → CodeWrite
own_code i = record { layout = 0; field = 0; stmt = 3; at = Some (at1 i); way = Own; value = 5 }

abbrev turn : ℕ → ℕ → Turn
turn i beside = record { at = at1 i; writes = own i ∷ added beside ∷ [] }

inside : code_turn shapes state kernel (at1 2) ≡ turn 2 3
inside = shown 2 (want 3 ∷ []) (own_code 2 ∷ record { layout = 1; field = 0; stmt = 4; at = Some (at1 3); way = Acc acc.Add; value = 5 } ∷ [])
    (simp (does-Const (seen 2), does-Var (seen 2), does-Bin (seen 2), does-Want (seen 2)) (wanted-is _))
    (simp (does-Const (seen 2), does-Var (seen 2), does-Bin (seen 2), does-Root (seen 2), does-Check (seen 2), does-Extract (seen 2), does-Child (seen 2), does-OwnWrite (seen 2), does-Acc (seen 2)) (told-is _))

outside : code_turn shapes state kernel (at1 3) ≡ turn 3 4
outside = shown 3 (want 4 ∷ []) (own_code 3 ∷ record { layout = 1; field = 0; stmt = 4; at = None; way = Acc acc.Add; value = 5 } ∷ [])
    (simp (does-Const (seen 3), does-Var (seen 3), does-Bin (seen 3), does-Want (seen 3)) (wanted-is _))
    (simp (does-Const (seen 3), does-Var (seen 3), does-Bin (seen 3), does-Root (seen 3), does-Check (seen 3), does-Extract (seen 3), does-Child (seen 3), does-OwnWrite (seen 3), does-Acc (seen 3)) (told-is _))

in_row_order : code_effects shapes state kernel ≡ record { turns = turn 2 3 ∷ turn 3 4 ∷ [] }
in_row_order = ap (λ (it : Turn). record { turns = it ∷ code_turn shapes state kernel (at1 3) ∷ [] }) inside ∙ ap (λ (it : Turn). record { turns = turn 2 3 ∷ it ∷ [] }) outside

-- so the run is refused
refused : run_meaning shapes state kernel ≡ Err (WriteOutside 4 (at1 3))
refused = ap (kernel_meaning shapes state) in_row_order
