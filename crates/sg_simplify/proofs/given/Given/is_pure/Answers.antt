use Rattle.std.proofs.Common.{◌∙◌, sym, ap}
use Rattle.sg_ir.specs.Blocks.{block_of}
use Rattle.sg_ir.specs.Span.{sets}
use Rattle.sg_ir.specs.Shared.{is_pure, is_single}
use Rattle.sg_simplify.proofs.given.Given.is_pure.Goals as goal

pub returns-in-Var : goal.returns-in-Var
returns-in-Var c =
    let code = c.args.self.now.code.now in
    let block = block_of code.regs code.body in
    c.has_few.ensures (λ v. sets v block) c.args.self.now.counted ∙ ap (is_pure (is_single block)) (sym c.in-Var.is)
