use Rattle.std.proofs.lemmas.Result.{IfOk-weaker}
use Rattle.sg_simplify.specs.steps.Made.{given_in}
use Rattle.sg_simplify.proofs.Reading.{first-rest}
use Rattle.sg_simplify.proofs.Descending.{offset-none, offset-goes}
use Rattle.sg_simplify.proofs.made.Made.offset.Goals as goal

pub returns-in_default : goal.returns-in_default
returns-in_default c = offset-none (given_in c.args.given.now) c.args.node.now c.args.later.now c.args.index.now c.args.self.now c.args.out.now c.in_default.len_below

pub returns : goal.returns
returns c =
    let index = c.args.index.now in
    IfOk-weaker c.joined.result _ _
    (λ to others. offset-goes (given_in c.args.given.now) c.args.node.now c.args.later.now _ c.in_ok-high.high to index _ c.args.self.now c.part.new.self c.joined.new.self c.args.out.now c.part.new.out c.joined.new.out
    (first-rest index c.in-len1-up.len_at_least) c.in_ok-high.ensures others) c.joined.ensures
