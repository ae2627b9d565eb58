use Rattle.std.proofs.Common.{◌≡◌, ℕ, ◌+◌, [], ◌∷◌, map, subst, arith}
use Rattle.std.specs.List.{range_with_len}
use Rattle.std.proofs.lemmas.List.FromFn.{map-range_with_len_more}
use Rattle.sg_exec.specs.Runs.{run_write}
use Rattle.sg_exec.specs.steps.Blocks.{RowsLanded}
use Rattle.sg_exec.proofs.RowsLand.{block_tree, landed_nothing, landed_next}
use Rattle.sg_exec.proofs.loads.landing_runs.land_run.Goals as goal

pub loop-k-init : goal.loop-k-init
loop-k-init c = record { landed = landed_nothing c.args.store.now c.args.layout; block = c.no_block-block.ensures }

pub loop-k-preserved : goal.loop-k-preserved
loop-k-preserved c =
    let k = c.loop-k.k in
    let write = run_write c.args.layout c.args.place c.args.run in
    let landed : RowsLanded c.loop-k.store c.land_row.new.store c.args.layout (write k ∷ []) = c.land_row.ensures c.if-not-land_row.false in
    record {
      landed = landed_next c.args.store.now c.loop-k.store c.land_row.new.store c.args.layout (map write (range_with_len 0 k)) (write k ∷ []) (map write (range_with_len 0 (k + 1)))
          (map-range_with_len_more write 0 k k (omega arith)) c.loop-k.invariant.landed landed;
      block = λ _. block_tree c.loop-k.store c.land_row.new.store c.args.run c.in-Some.next landed.tree c.in-Some.ensures.is;
    }

pub returns : goal.returns
returns c = λ _.
    let whole : c.loop-k.k ≡ c.args.run.len = omega (arith, c.loop-k.auto.k-end, c.loop-k-test.false) in
    subst (λ (n : ℕ). RowsLanded c.args.store.now c.loop-k.store c.args.layout (map (run_write c.args.layout c.args.place c.args.run) (range_with_len 0 n))) whole c.loop-k.invariant.landed
