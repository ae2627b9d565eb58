use Rattle.std.proofs.Common.{◌≡◌, ◌<◌, suc, ◌+◌, [], length, sym, ◌∙◌, subst, arith}
use Rattle.std.proofs.lemmas.List.{get_or_default}
use Rattle.sg_activate.specs.steps.DescentEnds.{HasGot, IsTaken}
use Rattle.sg_activate.proofs.descent.ended.Ended.settle.Goals as goal

pub settle_at-requires-clause-go : goal.settle_at-requires-clause-go
settle_at-requires-clause-go c =
    let go = c.requires.go in
    record { v = go.v; store = go.store; ending = go.ending; got = c.loop-index.invariant go.v go.store go.ending go.got; fit = go.fit }

pub settle_at-requires-clause-taken : goal.settle_at-requires-clause-taken
settle_at-requires-clause-taken c =
    let e = c.args.self.now in
    let many = c.requires.many in
    let long = c.len-index-end.ensures in
    let test = c.loop-index-test.true in
    let below : c.loop-index.index < length c.args.taken.now = omega arith in
    subst (IsTaken e.start e.base e.levels e.links c.loop-index.index)
    (sym (c.as_slice.ensures ∙ c.index-taken-index.is ∙ get_or_default c.args.taken.now c.loop-index.index c.index-taken-index.result [] below)) (c.requires.taken c.loop-index.index below)

pub loop-index-preserved : goal.loop-index-preserved
loop-index-preserved c =
    let e = c.args.self.now in
    let next : suc c.loop-index.index ≡ c.loop-index.index + 1 = omega arith in
    λ v store ending got.
    subst (HasGot e.start e.base v e.links e.masks store c.settle_at.new.store) next (c.settle_at.ensures v store ending (c.loop-index.invariant v store ending got))

pub returns : goal.returns
returns c =
    let e = c.args.self.now in
    let long = c.len-index-end.ensures in
    let test = c.loop-index-test.false in
    let within = c.loop-index.auto.index-end in
    let all : c.loop-index.index ≡ length e.levels = omega arith in
    λ v store ending got. subst (HasGot e.start e.base v e.links e.masks store c.loop-index.store) all (c.loop-index.invariant v store ending got)
