use Rattle.std.proofs.Common.{◌≡◌, ◌-◌, ◌≤◌, List, suc, zero-add, length, sym, ap, ◌∙◌, subst, arith}
use Rattle.sg_layout.specs.declared.shape.Shape.{Shape}
use Rattle.sg_elements.specs.declared.branches.Branch.{Branch}
use Rattle.sg_elements.specs.steps.Levels.{AreBranches, AreWays, level_at}
use Rattle.sg_elements.proofs.Growing.{few_below}
use Rattle.sg_elements.proofs.Halves.{whole_between}
use Rattle.sg_elements.proofs.reached.reached_count.Goals as goal

pub count_between-count-requires : goal.count_between-count-requires
count_between-count-requires c =
    let store = c.args.store.now in
    let last = c.nodes-last.result - 1 in
    let whole : suc (c.nodes-last.result - 1) ≡ length c.args.store.now.shape.nodes =
    omega (arith, c.nodes-last.ensures.value, c.nodes-last.ensures.some, ap (λ (s : Shape). length s.nodes) c.layout.ensures.layout) in
    record {
      there = omega (arith, c.nodes-last.ensures.value, c.nodes-last.ensures.some, ap (λ (s : Shape). length s.nodes) c.layout.ensures.layout);
      level = subst (λ (level : List Branch). AreBranches store last level (level_at store last)) (sym c.deref-2.ensures.value) c.in_ok-level.ensures;
      ways = subst (AreWays store last) (sym c.as_slice.ensures) c.in_ok-ways.ensures;
      order = omega arith;
      within = omega (arith, c.len.ensures, c.deref-2.ensures.len);
      few = few_below store last whole c.requires.few;
    }

pub returns : goal.returns
returns c =
    let store = c.args.store.now in
    let last = c.nodes-last.result - 1 in
    let level : AreBranches store last c.deref-2.result.now (level_at store last) =
    subst (λ (level : List Branch). AreBranches store last level (level_at store last)) (sym c.deref-2.ensures.value) c.in_ok-level.ensures in
    let past : length c.deref-2.result.now ≤ c.len.result = omega (arith, c.len.ensures, c.deref-2.ensures.len) in
    let whole : suc (c.nodes-last.result - 1) ≡ length c.args.store.now.shape.nodes =
    omega (arith, c.nodes-last.ensures.value, c.nodes-last.ensures.some, ap (λ (s : Shape). length s.nodes) c.layout.ensures.layout) in
    sym (zero-add c.count_between-count.result) ∙ sym c.count_between-count.ensures ∙ ap length (whole_between store last c.len.result c.deref-2.result.now level past whole)
