use Rattle.std.proofs.Common.{get_or, length, arith, sym, ap, ◌∙◌, is_some}
use Rattle.sg_elements.specs.declared.branches.Branch.{Branch}
use Rattle.sg_elements.specs.declared.ways.Way.{Way}
use Rattle.sg_elements.proofs.Growing.{branch_there, count_one, count_none, not_led}
use Rattle.sg_elements.proofs.Ends.{led_to_end}
use Rattle.sg_elements.proofs.branches.count_below.Goals as goal
use Rattle.sg_elements.proofs.branches.count_below.Goals.{in-Some, in-None+else-lists}

pub down-requires : goal.down-requires
down-requires g c =
    let d : Branch = record { spot = record { node = 0; part = 0; slot = 0 }; row = 0 } in
    let here = branch_there c.args.store.now c.args.node c.args.level.now c.args.index g.path d c.requires.1.0 c.requires.1.1.0 in
    (here.leads, omega (arith, here.many, here.leads.node, c.requires.0))

pub loop-way-preserved : goal.loop-way-preserved
loop-way-preserved g c =
    let store = c.args.store.now in
    let d : Branch = record { spot = record { node = 0; part = 0; slot = 0 }; row = 0 } in
    let e : Way = record { offset = 0; share = 0 } in
    let i = c.loop-way.way-index in
    let ways = c.args.ways.now in
    let way = get_or ways i e in
    let branch = get_or c.args.level.now c.args.index d in
    let here = branch_there store c.args.node c.args.level.now c.args.index g.path d c.requires.1.0 c.requires.1.1.0 in
    let counted = c.loop-way.invariant.counted in
    let few = c.loop-way.invariant.few in
    elim c.match-down.branch [
      | in-Some w ↦ (
          let one = count_one store g.path ways i e c.loop-way-test.true (ap is_some w.in-Some.ensures.below.leads) in
          record { counted = omega (arith, w.count-is, counted, one); few = omega (arith, w.count-is, few) }
          )
      | in-None+else-lists w ↦ (
          let none = count_none store g.path ways i e c.loop-way-test.true
          (not_led store c.args.node branch.spot.node way.offset g.path (here.leads.node ∙ here.many) (c.requires.1.1.1.below i e c.loop-way-test.true) w.in-None.ensures.none) in
          record { counted = omega (arith, w.count-is, counted, none); few = omega (arith, w.count-is, few) }
          )
    ]

-- the list ends here
pub returns-then-lists : goal.returns-then-lists
returns-then-lists g c =
    let store = c.args.store.now in
    let d : Branch = record { spot = record { node = 0; part = 0; slot = 0 }; row = 0 } in
    let e : Way = record { offset = 0; share = 0 } in
    let i = c.loop-way.way-index in
    let ways = c.args.ways.now in
    let branch = get_or c.args.level.now c.args.index d in
    let here = branch_there store c.args.node c.args.level.now c.args.index g.path d c.requires.1.0 c.requires.1.1.0 in
    let none = not_led store c.args.node branch.spot.node (get_or ways i e).offset g.path (here.leads.node ∙ here.many) (c.requires.1.1.1.below i e c.loop-way-test.true) c.in-None.ensures.none in
    let end = led_to_end store c.args.node g.path ways i e c.requires.1.1.1 c.loop-way-test.true here.many (c.has_lists-lists.ensures.0 c.if-lists.true) none in
    c.loop-way.invariant.counted ∙ ap length (sym end)
