-- Instructions that set a register or a place set no variable.
use Rattle.std.proofs.Common.{◌≡◌, ℕ, List, [], ◌∷◌, ◌++◌, Result, Ok, Err, IfOk, ap, ◌∙◌}
use Rattle.std.specs.List.{flat_map}
use Rattle.std.proofs.lemmas.List.{append-nil}
use Rattle.sg_words.specs.declared.operators.Ty.{Ty}
use Rattle.sg_words.specs.declared.memory.Memory.{Memory}
use Rattle.sg_ir.specs.declared.code.Inst.{Inst, fold-Inst}
use Rattle.sg_ir.specs.declared.names.Names.{Names}
use Rattle.sg_ir.specs.WellTyped.{SetName, SetsReg, sets_step, var_number, set_vars}
use Rattle.sg_ir.specs.Emits.{PutsReg, PutsPlace}
use Rattle.sg_ir.proofs.Uses.{set_vars-append}

pub vars_kept : (result : Result ℕ Memory) (given : Ty) (inst : ℕ → Inst) (mid new : Names) (a b z : List Inst) → ((to : ℕ) → fold-Inst (List SetName) sets_step (inst to) ≡ SetsReg to ∷ []) → set_vars b ≡ set_vars a
    → IfOk result (λ to. PutsReg given inst to mid new b z) → IfOk result (λ to. set_vars z ≡ set_vars a)
vars_kept (Ok to) given inst mid new a b z sets before puts =
    ap set_vars puts.block ∙ (set_vars-append b (inst to ∷ []) ∙ (ap (λ (ss : List SetName). set_vars b ++ flat_map var_number (ss ++ [])) (sets to) ∙ (append-nil (set_vars b) ∙ before)))
vars_kept (Err e) given inst mid new a b z sets before puts = tt

pub vars_kept_place : (result : Result ℕ Memory) (inst : ℕ → Inst) (old new : Names) (b z : List Inst) → ((to : ℕ) → set_vars (inst to ∷ []) ≡ [])
    → IfOk result (λ to. PutsPlace inst to old new b z) → IfOk result (λ to. set_vars z ≡ set_vars b)
vars_kept_place (Ok to) inst old new b z sets puts =
    ap set_vars puts.block ∙ (set_vars-append b (inst to ∷ []) ∙ (ap (λ (l : List ℕ). set_vars b ++ l) (sets to) ∙ append-nil (set_vars b)))
vars_kept_place (Err e) inst old new b z sets puts = tt
