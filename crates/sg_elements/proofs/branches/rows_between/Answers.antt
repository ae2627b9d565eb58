use Rattle.std.proofs.Common.{◌≡◌, ◌++◌, ◌∙◌, ℕ, List, sym, ap, subst, arith, append-nil}
use Rattle.sg_elements.specs.steps.Levels.{rows_upto}
use Rattle.sg_elements.proofs.Growing.{branch_at, rows_more}
use Rattle.sg_elements.proofs.branches.rows_between.Goals as goal

pub loop-index-init : goal.loop-index-init
loop-index-init c =
    let front = rows_upto c.args.store.now c.args.node c.args.from in
    sym (ap (λ (rows : List ℕ). front ++ rows) c.new-rows.ensures.items ∙ append-nil front)

pub push_rows-requires : goal.push_rows-requires
push_rows-requires c = (
  c.requires.there,
  (
    omega (arith, c.loop-index-test.true, c.requires.within),
    (
      (λ branch there. branch_at c.args.store.now c.args.node c.loop-index.index c.args.level.now branch c.requires.level (omega (arith, c.loop-index-test.true, c.requires.within)) there),
      c.requires.ways,
    ),
  ),
)

pub loop-index-preserved : goal.loop-index-preserved
loop-index-preserved c =
    rows_more c.args.store.now c.args.node c.loop-index.index c.args.level.now (rows_upto c.args.store.now c.args.node c.args.from) c.loop-index.rows.items c.push_rows.new.rows.items c.args.ways.now
    c.requires.level (omega (arith, c.loop-index-test.true, c.requires.within)) c.requires.ways c.loop-index.invariant c.in_ok-push_rows.ensures

pub returns : goal.returns
returns c =
    let end : c.loop-index.index ≡ c.args.to = omega (arith, c.loop-index-test.false, c.loop-index.auto.index-end, c.requires.order) in
    subst (λ (n : ℕ). rows_upto c.args.store.now c.args.node n ≡ rows_upto c.args.store.now c.args.node c.args.from ++ c.loop-index.rows.items) end c.loop-index.invariant
