-- What was there stands in front, through calls that add and through those that run out of memory.
use Rattle.std.proofs.Common.{◌≡◌, ℕ, ◌≤◌, List, [], ◌∷◌, ◌++◌, sym, ap, subst, ◌∙◌, append_assoc, arith}
use Rattle.std.proofs.lemmas.List.{append-nil}
use Rattle.sg_words.specs.declared.operators.Ty.{Ty}
use Rattle.sg_ir.specs.declared.code.Inst.{Inst}
use Rattle.sg_ir.specs.declared.names.Names.{Names}
use Rattle.sg_ir.specs.Emits.{AddsReg, AddsPlace, PutsReg, PutsPlace, StandInFront}

-- nothing is new
pub front-kept : (old new : Names) (before after : List Inst) → new ≡ old → after ≡ before → StandInFront old new before after
front-kept old new before after names block =
    record {
      types = [];
      regs = ap (λ (it : Names). it.regs) names ∙ sym (append-nil old.regs);
      places = subst (λ (it : Names). old.places ≤ it.places) (sym names) (omega arith);
      insts = [];
      block = block ∙ sym (append-nil before);
    }

-- a new register alone, and a new place alone
pub front-reg : (ty : Ty) (to : ℕ) (old new : Names) (before after : List Inst) → AddsReg ty to old new → after ≡ before → StandInFront old new before after
front-reg ty to old new before after adds block =
    let places = adds.places in
    record { types = ty ∷ []; regs = adds.regs; places = omega (arith, places); insts = []; block = block ∙ sym (append-nil before) }

pub front-place : (to : ℕ) (old new : Names) (before after : List Inst) → AddsPlace to old new → after ≡ before → StandInFront old new before after
front-place to old new before after adds block =
    let places = adds.places in
    record { types = []; regs = adds.regs ∙ sym (append-nil old.regs); places = omega (arith, places); insts = []; block = block ∙ sym (append-nil before) }

-- an instruction that sets a new register, or a new place
pub front-put-reg : (ty : Ty) (inst : ℕ → Inst) (to : ℕ) (old new : Names) (before after : List Inst) → PutsReg ty inst to old new before after → StandInFront old new before after
front-put-reg ty inst to old new before after puts =
    let places = puts.names.places in
    record { types = ty ∷ []; regs = puts.names.regs; places = omega (arith, places); insts = inst to ∷ []; block = puts.block }

pub front-put-place : (inst : ℕ → Inst) (to : ℕ) (old new : Names) (before after : List Inst) → PutsPlace inst to old new before after → StandInFront old new before after
front-put-place inst to old new before after puts =
    let places = puts.names.places in
    record { types = []; regs = puts.names.regs ∙ sym (append-nil old.regs); places = omega (arith, places); insts = inst to ∷ []; block = puts.block }

-- one after the other
pub front-trans : (a b c : Names) (x y z : List Inst) → StandInFront a b x y → StandInFront b c y z → StandInFront a c x z
front-trans a b c x y z one two =
    let first = one.places in
    let second = two.places in
    record {
      types = one.types ++ two.types;
      regs = two.regs ∙ (ap (λ (ts : List Ty). ts ++ two.types) one.regs ∙ append_assoc a.regs one.types two.types);
      places = omega (arith, first, second);
      insts = one.insts ++ two.insts;
      block = two.block ∙ (ap (λ (is : List Inst). is ++ two.insts) one.block ∙ append_assoc x one.insts two.insts);
    }
