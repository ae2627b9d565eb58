use Rattle.std.proofs.Common.{[], drop}
use Rattle.sg_ir.specs.Blocks.{block_of}
use Rattle.sg_simplify.specs.steps.Pass.{simplified}
use Rattle.sg_simplify.specs.steps.Made.{given_in, Goes}
use Rattle.sg_simplify.proofs.made.Made.+blocks.Given as goal

abbrev pub invariant-block-loop-inst : goal.invariant-block-loop-inst
invariant-block-loop-inst l =
    Goes l.fn.self l.self [] l.out (simplified (given_in l.given) (block_of l.given.code.now.regs l.insts)) (simplified (given_in l.given) (block_of l.given.code.now.regs (drop l.inst-index l.insts)))
