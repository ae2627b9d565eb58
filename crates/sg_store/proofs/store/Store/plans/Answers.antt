use Rattle.std.proofs.Common.{◌≡◌, ℕ, suc, ◌+◌, ◌-◌, Bool, subst, arith}
use Rattle.sg_store.specs.StoreWords.{StoreWords}
use Rattle.sg_store.specs.steps.KeptWords.{in_row}
use Rattle.sg_store.specs.steps.StorePlans.{IsRowAt, ArePlansFrom}
use Rattle.sg_store.proofs.store.Store.plans.Goals as goal

pub plan_above-requires-clause-row : goal.plan_above-requires-clause-row
plan_above-requires-clause-row c =
    let same : suc c.nodes-nodes.result - c.loop-done.done ≡ suc (c.nodes-nodes.result - c.loop-done.done) = omega (arith, c.loop-done-test.true) in
    record {
      cells = in_row c.args.cells;
      within = c.requires;
      is = subst (λ k. IsRowAt c.args.self.now.shape.nodes c.args.self.now.nodes (in_row c.args.cells) k c.loop-done.row) same c.loop-done.invariant.row;
    }

pub loop-done-preserved : goal.loop-done-preserved
loop-done-preserved c =
    let store : StoreWords = c.args.self.now in
    let n : ℕ = c.nodes-nodes.result in
    let keeps : ℕ → Bool = in_row c.args.cells in
    let same : suc n - c.loop-done.done ≡ suc (n - c.loop-done.done) = omega (arith, c.loop-done-test.true) in
    let next : n - c.loop-done.done ≡ suc n - (c.loop-done.done + 1) = omega arith in
    let both = c.in_ok-row.ensures keeps
    (subst (λ k. IsRowAt store.shape.nodes store.nodes keeps k c.loop-done.row) same c.loop-done.invariant.row)
    (subst (λ k. ArePlansFrom store.shape.nodes store.nodes keeps k c.loop-done.plans.items) same c.loop-done.invariant.plans) in
    record {
      row = subst (λ k. IsRowAt store.shape.nodes store.nodes keeps k c.in_ok-row.row) next both.0;
      plans = subst (λ k. ArePlansFrom store.shape.nodes store.nodes keeps k c.plan_above.new.plans.items) next both.1;
    }

pub plan_first-requires : goal.plan_first-requires
plan_first-requires c =
    let store : StoreWords = c.args.self.now in
    let end : suc c.nodes-nodes.result - c.loop-done.done ≡ 1 = omega (arith, c.loop-done-test.false, c.loop-done.auto.done-end, c.nodes-nodes.ensures.some) in
    record {
      cells = in_row c.args.cells;
      within = c.requires;
      is = subst (λ k. IsRowAt store.shape.nodes store.nodes (in_row c.args.cells) k c.loop-done.row) end c.loop-done.invariant.row;
    }

pub returns : goal.returns
returns c =
    let store : StoreWords = c.args.self.now in
    let end : suc c.nodes-nodes.result - c.loop-done.done ≡ 1 = omega (arith, c.loop-done-test.false, c.loop-done.auto.done-end, c.nodes-nodes.ensures.some) in
    c.in_ok-plan_first.ensures (in_row c.args.cells)
    (subst (λ k. IsRowAt store.shape.nodes store.nodes (in_row c.args.cells) k c.loop-done.row) end c.loop-done.invariant.row)
    (subst (λ k. ArePlansFrom store.shape.nodes store.nodes (in_row c.args.cells) k c.loop-done.plans.items) end c.loop-done.invariant.plans)
