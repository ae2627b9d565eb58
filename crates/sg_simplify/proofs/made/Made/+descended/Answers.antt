use Rattle.std.proofs.Common.{◌-◌, length, take, drop, ap, subst, arith}
use Rattle.std.proofs.lemmas.Result.{IfOk-weaker}
use Rattle.sg_simplify.specs.steps.Made.{given_in, AreWide}
use Rattle.sg_simplify.proofs.Reading.{rest-whole, rest-shorter, split-first}
use Rattle.sg_simplify.proofs.Descending.{wide-later, descended-none, descended-next}
use Rattle.sg_simplify.proofs.made.Made.+descended.Goals as goal

pub returns-in_default : goal.returns-in_default
returns-in_default t c = descended-none (given_in c.args.given.now) c.args.nodes.now c.args.number c.args.index.now c.args.place c.args.self.now c.args.out.now c.in_default.len_below

pub offset-requires : goal.offset-requires
offset-requires t c = record { wide = subst AreWide (split-first c.args.nodes.now c.node-item.result c.in-len1-up.len_at_least c.node-item.is) c.requires.wide }

pub descended-requires : goal.descended-requires
descended-requires t c =
    let nodes = c.args.nodes.now in
    let node = c.node-item.result in
    let shorter = rest-shorter nodes c.in-len1-up.len_at_least in
    let whole = ap length (rest-whole nodes) in
    let few = c.requires.few in
    let wide = subst AreWide (split-first nodes node c.in-len1-up.len_at_least c.node-item.is) c.requires.wide in
    (omega (arith, shorter, whole, c.decreases), (omega (arith, shorter, whole), wide-later node (take (length nodes - 1) (drop 1 nodes)) wide))

pub returns : goal.returns
returns t c =
    let nodes = c.args.nodes.now in
    let node = c.node-item.result in
    IfOk-weaker c.descended.result _ _
    (λ to others. descended-next (given_in c.args.given.now) nodes _ node c.args.number c.args.place c.in_ok-offset.offset c.in_ok-next.next to c.args.index.now c.descent_of.result
    c.args.self.now c.offset.new.self c.stepped.new.self c.descended.new.self c.args.out.now c.offset.new.out c.stepped.new.out c.descended.new.out
    (split-first nodes node c.in-len1-up.len_at_least c.node-item.is) c.descent_of.ensures c.in_ok-offset.ensures c.in_ok-next.ensures others) c.descended.ensures
