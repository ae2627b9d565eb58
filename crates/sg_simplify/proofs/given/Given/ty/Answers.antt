use Rattle.sg_words.specs.declared.operators.Ty.TheVariants as ty
use Rattle.sg_simplify.proofs.Reading.{get-none}
use Rattle.sg_simplify.proofs.given.Given.ty.Goals as goal

pub returns-in-None : goal.returns-in-None
returns-in-None c = get-none c.args.self.now.code.now.regs c.args.reg ty.U32 c.in-None.ensures.value
