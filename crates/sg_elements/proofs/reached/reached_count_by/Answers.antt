use Rattle.std.proofs.Common.{◌≡◌, ◌-◌, ◌≤◌, List, suc, zero-add, length, sym, ap, ◌∙◌, subst, arith}
use Rattle.sg_layout.specs.declared.shape.Shape.{Shape}
use Rattle.sg_elements.specs.declared.branches.Branch.{Branch}
use Rattle.sg_elements.specs.steps.Levels.{AreBranches, AreWays, level_at}
use Rattle.sg_elements.proofs.Growing.{few_below}
use Rattle.sg_elements.proofs.Halves.{whole_between}
use Rattle.sg_elements.proofs.reached.reached_count_by.Goals as goal

pub count_among-requires-clause-there : goal.count_among-requires-clause-there
count_among-requires-clause-there g c κs within =
    omega (arith, c.nodes-last.ensures.value, c.nodes-last.ensures.some, ap (λ (s : Shape). length s.nodes) c.layout.ensures.layout)

pub count_among-requires-clause-level : goal.count_among-requires-clause-level
count_among-requires-clause-level g c κs within =
    let store = c.args.store.now in
    let last = c.nodes-last.result - 1 in
    subst (λ (level : List Branch). AreBranches store last level (level_at store last)) (sym c.deref-2.ensures.value) c.in_ok-level.ensures

pub count_among-requires-clause-ways : goal.count_among-requires-clause-ways
count_among-requires-clause-ways g c κs within = subst (AreWays c.args.store.now (c.nodes-last.result - 1)) (sym c.as_slice-list.ensures) c.in_ok-ways.ensures

pub count_among-requires-clause-order : goal.count_among-requires-clause-order
count_among-requires-clause-order g c κs within = omega arith

pub count_among-requires-clause-within : goal.count_among-requires-clause-within
count_among-requires-clause-within g c κs within = omega (arith, c.len.ensures, c.deref-2.ensures.len)

pub count_among-requires-clause-few : goal.count_among-requires-clause-few
count_among-requires-clause-few g c κs within =
    let last = c.nodes-last.result - 1 in
    let whole : suc (c.nodes-last.result - 1) ≡ length c.args.store.now.shape.nodes =
    omega (arith, c.nodes-last.ensures.value, c.nodes-last.ensures.some, ap (λ (s : Shape). length s.nodes) c.layout.ensures.layout) in
    few_below c.args.store.now last whole c.requires.few

pub returns : goal.returns
returns g c =
    let store = c.args.store.now in
    let last = c.nodes-last.result - 1 in
    let level : AreBranches store last c.deref-2.result.now (level_at store last) =
    subst (λ (level : List Branch). AreBranches store last level (level_at store last)) (sym c.deref-2.ensures.value) c.in_ok-level.ensures in
    let past : length c.deref-2.result.now ≤ c.len.result = omega (arith, c.len.ensures, c.deref-2.ensures.len) in
    let whole : suc (c.nodes-last.result - 1) ≡ length c.args.store.now.shape.nodes =
    omega (arith, c.nodes-last.ensures.value, c.nodes-last.ensures.some, ap (λ (s : Shape). length s.nodes) c.layout.ensures.layout) in
    sym (zero-add c.count_among.result) ∙ sym c.count_among.ensures ∙ ap length (whole_between store last c.len.result c.deref-2.result.now level past whole)
