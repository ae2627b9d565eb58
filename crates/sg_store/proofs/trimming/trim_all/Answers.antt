use Rattle.std.proofs.Common.{length, refl, sym, ◌∙◌, arith}
use Rattle.std.proofs.lemmas.Option.{slice_get_read}
use Rattle.sg_store.proofs.StoreTrims.{plan_read, one_trimmed}
use Rattle.sg_store.proofs.trimming.trim_all.Goals as goal

pub trim_at-requires-clause-plannable : goal.trim_at-requires-clause-plannable
trim_at-requires-clause-plannable c = λ kept has.
    let i = c.loop-index.index in
    let n = length c.args.shapes.now in
    (c.requires.planned.each i c.index-shapes-index.result (slice_get_read c.args.shapes.now n i c.index-shapes-index.result refl c.loop-index-test.true c.index-shapes-index.is)
    kept (sym (c.loop-index.invariant.later i (omega arith)) ∙ has)
    c.index-plans-count.result (plan_read c.args.plans.now n i c.index-plans-count.result c.requires.planned.many c.loop-index-test.true c.index-plans-count.is)).0

pub trim_at-requires-clause-plan : goal.trim_at-requires-clause-plan
trim_at-requires-clause-plan c = λ kept has.
    let i = c.loop-index.index in
    let n = length c.args.shapes.now in
    (c.requires.planned.each i c.index-shapes-index.result (slice_get_read c.args.shapes.now n i c.index-shapes-index.result refl c.loop-index-test.true c.index-shapes-index.is)
    kept (sym (c.loop-index.invariant.later i (omega arith)) ∙ has)
    c.index-plans-count.result (plan_read c.args.plans.now n i c.index-plans-count.result c.requires.planned.many c.loop-index-test.true c.index-plans-count.is)).1

pub loop-index-preserved : goal.loop-index-preserved
loop-index-preserved c =
    let i = c.loop-index.index in
    let n = length c.args.shapes.now in
    one_trimmed c.args.shapes.now c.args.nodes.now.items c.loop-index.nodes.items c.trim_at.new.nodes.items c.args.plans.now i c.index-shapes-index.result c.index-plans-count.result
    c.loop-index.invariant (slice_get_read c.args.shapes.now n i c.index-shapes-index.result refl c.loop-index-test.true c.index-shapes-index.is)
    (plan_read c.args.plans.now n i c.index-plans-count.result c.requires.planned.many c.loop-index-test.true c.index-plans-count.is) c.trim_at.ensures
