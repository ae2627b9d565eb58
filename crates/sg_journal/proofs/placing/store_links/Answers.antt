use Rattle.std.proofs.Common.{◌≡◌, length, ap, arith}
use Rattle.sg_layout.specs.declared.shape.Shape.{Shape}
use Rattle.sg_journal.proofs.PlacingLoops.{one_so_far, all_so_far}
use Rattle.sg_journal.proofs.placing.store_links.Goals as goal

pub loop-index-preserved : goal.loop-index-preserved
loop-index-preserved c =
    one_so_far c.args.store.now c.loop-index.index c.loop-index.nodes c.push.new.self c.in_ok-of.field-0 c.in_ok-push.ensures.ok c.in_ok-of.ensures c.loop-index.invariant

pub returns : goal.returns
returns c =
    let all : c.loop-index.index ≡ length c.args.store.now.shape.nodes =
    omega (arith, c.loop-index-test.false, c.loop-index.auto.index-end, c.nodes-index-end.ensures.value, ap (λ (s : Shape). length s.nodes) c.layout.ensures.layout) in
    all_so_far c.args.store.now c.loop-index.index c.loop-index.nodes all c.loop-index.invariant
