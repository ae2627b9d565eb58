use Rattle.std.proofs.Common.{◌∙◌}
use Rattle.sg_ir.specs.Span.{whole_i32}
use Rattle.sg_simplify.specs.declared.made.Reg.{Reg}
use Rattle.sg_simplify.proofs.Reading.{get-none-of}
use Rattle.sg_simplify.proofs.made.Made.span.Goals as goal

pub returns-in-None : goal.returns-in-None
returns-in-None c = c.whole.ensures ∙ get-none-of (λ (reg : Reg). reg.span) c.args.self.now.regs c.args.reg whole_i32 c.in-None.ensures.value
