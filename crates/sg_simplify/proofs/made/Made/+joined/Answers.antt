use Rattle.std.proofs.Common.{length, ap, ◌∙◌, arith}
use Rattle.std.proofs.lemmas.Result.{IfOk-weaker}
use Rattle.sg_layout.specs.Axes.{extent_in}
use Rattle.sg_simplify.specs.steps.Made.{given_in}
use Rattle.sg_simplify.proofs.Reading.{rest-whole, rest-shorter, first-rest}
use Rattle.sg_simplify.proofs.Descending.{joined-none, joined-next}
use Rattle.sg_simplify.proofs.made.Made.+joined.Goals as goal

pub returns-in_default : goal.returns-in_default
returns-in_default t c =
    joined-none (given_in c.args.given.now) c.args.node.now c.args.later.now c.args.axis c.args.index.now c.args.high c.args.self.now c.args.out.now c.in_default.len_below

pub joined-requires : goal.joined-requires
joined-requires t c =
    let index = c.args.index.now in
    let shorter = rest-shorter index c.in-len1-up.len_at_least in
    let whole = ap length (rest-whole index) in
    (omega (arith, shorter, whole, c.decreases), (c.requires.wide, omega (arith, c.in-Some.ensures.1)))

pub returns : goal.returns
returns t c =
    let index = c.args.index.now in
    IfOk-weaker c.joined.result _ _
    (λ to others. joined-next (given_in c.args.given.now) c.args.node.now c.args.later.now c.args.axis _ c.args.high c.in_ok-low.low c.extent_in-size.result c.in_ok-next.next c.in-Some.following to index _ c.new.result
    c.args.self.now c.part.new.self c.taken.new.self c.joined.new.self c.args.out.now c.part.new.out c.taken.new.out c.joined.new.out
    (first-rest index c.in-len1-up.len_at_least) (c.extent_in-size.ensures.value ∙ ap (λ sizes. extent_in sizes c.args.axis) c.as_slice.ensures) c.new.ensures c.in-Some.ensures.1
    c.in_ok-low.ensures c.in_ok-next.ensures others) c.joined.ensures
