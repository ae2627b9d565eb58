use Rattle.std.proofs.Common.{◌≡◌, ◌-◌, ◌≤◌, List, suc, length, sym, ap, subst, arith}
use Rattle.sg_layout.specs.declared.shape.Shape.{Shape}
use Rattle.sg_elements.specs.declared.branches.Branch.{Branch}
use Rattle.sg_elements.specs.steps.Levels.{AreBranches, AreWays, level_at}
use Rattle.sg_elements.proofs.Halves.{whole_between, if_ok_mixed}
use Rattle.sg_elements.proofs.reached.rows_reached_by.Goals as goal

pub rows_among-requires-clause-there : goal.rows_among-requires-clause-there
rows_among-requires-clause-there g c κs within =
    omega (arith, c.nodes-last.ensures.value, c.nodes-last.ensures.some, ap (λ (s : Shape). length s.nodes) c.layout.ensures.layout)

pub rows_among-requires-clause-level : goal.rows_among-requires-clause-level
rows_among-requires-clause-level g c κs within =
    let store = c.args.store.now in
    let last = c.nodes-last.result - 1 in
    subst (λ (level : List Branch). AreBranches store last level (level_at store last)) (sym c.deref-2.ensures.value) c.in_ok-level.ensures

pub rows_among-requires-clause-ways : goal.rows_among-requires-clause-ways
rows_among-requires-clause-ways g c κs within = subst (AreWays c.args.store.now (c.nodes-last.result - 1)) (sym c.as_slice-list.ensures) c.in_ok-ways.ensures

pub rows_among-requires-clause-order : goal.rows_among-requires-clause-order
rows_among-requires-clause-order g c κs within = omega arith

pub rows_among-requires-clause-within : goal.rows_among-requires-clause-within
rows_among-requires-clause-within g c κs within = omega (arith, c.len.ensures, c.deref-2.ensures.len)

pub returns : goal.returns
returns g c =
    let store = c.args.store.now in
    let last = c.nodes-last.result - 1 in
    let level : AreBranches store last c.deref-2.result.now (level_at store last) =
    subst (λ (level : List Branch). AreBranches store last level (level_at store last)) (sym c.deref-2.ensures.value) c.in_ok-level.ensures in
    let past : length c.deref-2.result.now ≤ c.len.result = omega (arith, c.len.ensures, c.deref-2.ensures.len) in
    let whole : suc (c.nodes-last.result - 1) ≡ length c.args.store.now.shape.nodes =
    omega (arith, c.nodes-last.ensures.value, c.nodes-last.ensures.some, ap (λ (s : Shape). length s.nodes) c.layout.ensures.layout) in
    if_ok_mixed store last c.len.result c.rows_among.result (whole_between store last c.len.result c.deref-2.result.now level past whole) c.rows_among.ensures
