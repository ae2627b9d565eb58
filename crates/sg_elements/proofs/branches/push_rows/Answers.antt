use Rattle.std.proofs.Common.{◌≡◌, ◌+◌, ◌++◌, map, take, get_or, arith, sym, ap, ◌∙◌, subst, List, ℕ, Vec, Global, append-nil, is_some}
use Rattle.sg_coord.specs.Bounds.{IsBounds}
use Rattle.sg_layout.specs.declared.shape.Shape.{Shape}
use Rattle.sg_layout.specs.Axes.{bounds_of_shape}
use Rattle.sg_elements.specs.declared.branches.Branch.{Branch}
use Rattle.sg_elements.specs.declared.ways.Way.{Way}
use Rattle.sg_elements.specs.steps.Levels.{AddsRows, offsets_of, row_along}
use Rattle.sg_elements.proofs.Growing.{branch_there, way_there, way_row, way_small, adds_row, adds_no_row, not_led}
use Rattle.sg_elements.proofs.Ends.{led_to_end}
use Rattle.sg_elements.proofs.branches.push_rows.Goals as goal
use Rattle.sg_elements.proofs.branches.push_rows.Goals.{in-Some+in_ok-push-in-Some, in-None+else-lists}

pub loop-way-init : goal.loop-way-init
loop-way-init g c = sym (append-nil c.args.rows.now.items)

pub down-requires : goal.down-requires
down-requires g c =
    let d : Branch = record { spot = record { node = 0; part = 0; slot = 0 }; row = 0 } in
    let here = branch_there c.args.store.now c.args.node c.args.level.now c.args.index g.path d c.requires.1.0 c.requires.1.1.0 in
    (here.leads, omega (arith, here.many, here.leads.node, c.requires.0))

pub overflow_add-row : goal.overflow_add-row
overflow_add-row g c =
    let store = c.args.store.now in
    let d : Branch = record { spot = record { node = 0; part = 0; slot = 0 }; row = 0 } in
    let e : Way = record { offset = 0; share = 0 } in
    let here = branch_there store c.args.node c.args.level.now c.args.index g.path d c.requires.1.0 c.requires.1.1.0 in
    let more = way_there store c.args.node (get_or c.args.level.now c.args.index d) g.path c.args.ways.now c.loop-way.way-index e (c.paths_tell.ensures.reached store.shape) (c.paths_tell.ensures.coordinate store.shape) c.numbering.ensures.row_below
    c.layout.ensures.well_formed.accepted c.requires.0 here c.requires.1.1.1 c.loop-way-test.true in
    let good : IsBounds (bounds_of_shape c.args.store.now.shape) = subst (λ (s : Shape). IsBounds (bounds_of_shape s)) c.layout.ensures.layout c.extents-extents.ensures.bounds in
    omega (arith, way_small store c.args.node (get_or c.args.level.now c.args.index d).row g.path c.args.ways.now c.loop-way.way-index e c.requires.1.1.1 c.loop-way-test.true more good)

pub loop-way-preserved : goal.loop-way-preserved
loop-way-preserved g c =
    let store = c.args.store.now in
    let d : Branch = record { spot = record { node = 0; part = 0; slot = 0 }; row = 0 } in
    let e : Way = record { offset = 0; share = 0 } in
    let i = c.loop-way.way-index in
    let ways = c.args.ways.now in
    let way = get_or ways i e in
    let branch = get_or c.args.level.now c.args.index d in
    let here = branch_there store c.args.node c.args.level.now c.args.index g.path d c.requires.1.0 c.requires.1.1.0 in
    let P : List ℕ → Type 0 = λ list. AddsRows c.args.store.now (offsets_of (take (c.loop-way.way-index + 1) c.args.ways.now)) g.path c.args.rows.now.items list in
    elim c.match-down.branch [
      | in-Some+in_ok-push-in-Some w ↦ (
          let more = way_there store c.args.node branch g.path ways i e (c.paths_tell.ensures.reached store.shape) (c.paths_tell.ensures.coordinate store.shape) c.numbering.ensures.row_below
          c.layout.ensures.well_formed.accepted c.requires.0 here c.requires.1.1.1 c.loop-way-test.true in
          let row = way_row store c.args.node branch.row g.path ways i e c.requires.1.1.1 c.loop-way-test.true more in
          subst P (sym (ap (λ (v : Vec ℕ Global). v.items) w.rows-is ∙ w.in_ok-push-in-Some.ensures.items))
          (adds_row store g.path ways i e c.args.rows.now.items c.loop-way.rows.items (branch.row + way.share) c.loop-way-test.true c.loop-way.invariant
          (ap is_some w.in-Some.ensures.below.leads) row))
      | in-None+else-lists w ↦ subst P (sym (ap (λ (v : Vec ℕ Global). v.items) w.rows-is))
          (adds_no_row store g.path ways i e c.args.rows.now.items c.loop-way.rows.items c.loop-way-test.true c.loop-way.invariant
          (not_led store c.args.node branch.spot.node way.offset g.path (here.leads.node ∙ here.many) (c.requires.1.1.1.below i e c.loop-way-test.true) w.in-None.ensures.none))
    ]

-- the list ends here
pub returns-then-lists : goal.returns-then-lists
returns-then-lists g c =
    let store = c.args.store.now in
    let d : Branch = record { spot = record { node = 0; part = 0; slot = 0 }; row = 0 } in
    let e : Way = record { offset = 0; share = 0 } in
    let i = c.loop-way.way-index in
    let ways = c.args.ways.now in
    let branch = get_or c.args.level.now c.args.index d in
    let here = branch_there store c.args.node c.args.level.now c.args.index g.path d c.requires.1.0 c.requires.1.1.0 in
    let none = not_led store c.args.node branch.spot.node (get_or ways i e).offset g.path (here.leads.node ∙ here.many) (c.requires.1.1.1.below i e c.loop-way-test.true) c.in-None.ensures.none in
    let end = led_to_end store c.args.node g.path ways i e c.requires.1.1.1 c.loop-way-test.true here.many (c.has_lists-lists.ensures.0 c.if-lists.true) none in
    subst (λ (list : List (List ℕ)). c.loop-way.rows.items ≡ c.args.rows.now.items ++ map (row_along c.args.store.now.shape) list) (sym end) c.loop-way.invariant
