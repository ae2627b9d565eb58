use Rattle.std.proofs.Common.{◌≡◌, ◌-◌, ◌≤◌, List, suc, length, sym, ap, subst, arith}
use Rattle.sg_layout.specs.declared.shape.Shape.{Shape}
use Rattle.sg_elements.specs.declared.branches.Branch.{Branch}
use Rattle.sg_elements.specs.steps.Levels.{AreBranches, AreWays, level_at}
use Rattle.sg_elements.proofs.Halves.{whole_between, if_ok_whole}
use Rattle.sg_elements.proofs.reached.reached_rows.Goals as goal

pub rows_between-requires : goal.rows_between-requires
rows_between-requires c =
    let store = c.args.store.now in
    let last = c.nodes-last.result - 1 in
    record {
      there = omega (arith, c.nodes-last.ensures.value, c.nodes-last.ensures.some, ap (λ (s : Shape). length s.nodes) c.layout.ensures.layout);
      level = subst (λ (level : List Branch). AreBranches store last level (level_at store last)) (sym c.deref-2.ensures.value) c.in_ok-level.ensures;
      ways = subst (AreWays store last) (sym c.as_slice.ensures) c.in_ok-ways.ensures;
      order = omega arith;
      within = omega (arith, c.len.ensures, c.deref-2.ensures.len);
    }

pub returns : goal.returns
returns c =
    let store = c.args.store.now in
    let last = c.nodes-last.result - 1 in
    let level : AreBranches store last c.deref-2.result.now (level_at store last) =
    subst (λ (level : List Branch). AreBranches store last level (level_at store last)) (sym c.deref-2.ensures.value) c.in_ok-level.ensures in
    let past : length c.deref-2.result.now ≤ c.len.result = omega (arith, c.len.ensures, c.deref-2.ensures.len) in
    let whole : suc (c.nodes-last.result - 1) ≡ length c.args.store.now.shape.nodes =
    omega (arith, c.nodes-last.ensures.value, c.nodes-last.ensures.some, ap (λ (s : Shape). length s.nodes) c.layout.ensures.layout) in
    if_ok_whole store last c.len.result c.rows_between.result (whole_between store last c.len.result c.deref-2.result.now level past whole) c.rows_between.ensures
