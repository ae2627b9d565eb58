use Rattle.std.proofs.Common.{◌≡◌, map, take}
use Rattle.sg_simplify.specs.declared.made.Reg.{Reg}
use Rattle.sg_simplify.proofs.pass.types.Given as goal

abbrev pub invariant-loop-reg : goal.invariant-loop-reg
invariant-loop-reg l = l.types ≡ map (λ (reg : Reg). reg.ty) (take l.reg-index l.regs)
