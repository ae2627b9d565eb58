use Rattle.std.proofs.Common.{◌∙◌, sym}
use Rattle.std.proofs.lemmas.Result.{IfOk-weaker}
use Rattle.sg_simplify.specs.steps.Made.{given_in}
use Rattle.sg_simplify.proofs.Taking.{taken-numbered, fresh-numbered}
use Rattle.sg_simplify.proofs.made.Made.numbered.Goals as goal

pub returns-then-is_pure : goal.returns-then-is_pure
returns-then-is_pure c =
    IfOk-weaker c.taken.result _ _
    (λ to goes. taken-numbered (given_in c.args.given.now) c.args.ty c.args.op _ c.new.result to c.args.self.now c.taken.new.self c.args.out.now c.taken.new.out (sym c.is_pure.ensures ∙ c.if-is_pure.true) c.new.ensures goes) c.taken.ensures

pub returns-else-is_pure : goal.returns-else-is_pure
returns-else-is_pure c =
    IfOk-weaker c.fresh.result _ _
    (λ to goes. fresh-numbered (given_in c.args.given.now) c.args.ty c.args.op _ c.new-else-is_pure.result to c.args.self.now c.fresh.new.self c.args.out.now c.fresh.new.out (sym c.is_pure.ensures ∙ c.if-is_pure.false) c.new-else-is_pure.ensures goes) c.fresh.ensures.puts
