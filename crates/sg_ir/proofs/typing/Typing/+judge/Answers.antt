use Rattle.std.proofs.Common.{ℕ, suc, take, add-one, sym, ap, ◌∙◌, List}
use Rattle.sg_ir.specs.declared.code.Inst.{Inst}
use Rattle.sg_ir.specs.declared.before.Before.TheVariants as bv
use Rattle.sg_ir.specs.steps.Frames.{are_good, frame_in, scope_in}
use Rattle.sg_ir.proofs.Scoping.{judged-bad}
use Rattle.sg_ir.proofs.Scanning.{take-next}
use Rattle.sg_ir.proofs.Judgement.{for-fits, next-fits}
use Rattle.sg_ir.proofs.typing.Typing.+judge.Goals as goal

pub block_fits-returns-then-not-inst_fits : goal.block_fits-returns-then-not-inst_fits
block_fits-returns-then-not-inst_fits t c =
    let xs = c.args.block.now in
    let e = take-next xs c.loop-done.done c.index-block-done.result c.loop-done-test.true c.index-block-done.is in
    let next = next-fits c.args.self.now _ c.args.before c.index-block-done.result c.inst_fits.result c.inst_fits.ensures c.loop-done.invariant in
    sym (judged-bad (frame_in c.args.self.now) xs (suc c.loop-done.done) (scope_in c.args.self.now c.args.before.now)
    (ap (are_good c.args.self.now c.args.before.now) e ∙ next ∙ c.if-not-inst_fits.true))

pub block_fits-loop-done-preserved : goal.block_fits-loop-done-preserved
block_fits-loop-done-preserved t c =
    let xs = c.args.block.now in
    let good = λ (n : ℕ). are_good c.args.self.now c.args.before.now (take n xs) in
    let e = take-next xs c.loop-done.done c.index-block-done.result c.loop-done-test.true c.index-block-done.is in
    let next = next-fits c.args.self.now _ c.args.before c.index-block-done.result c.inst_fits.result c.inst_fits.ensures c.loop-done.invariant in
    ap good (add-one c.loop-done.done) ∙ ap (are_good c.args.self.now c.args.before.now) e ∙ next ∙ c.if-not-inst_fits.false

pub inst_fits-returns-in-For : goal.inst_fits-returns-in-For
inst_fits-returns-in-For t c =
    let inner = λ (block : List Inst). are_good c.args.self.now (bv.Loop c.in-For.var c.args.before) block in
    for-fits c.args.self.now c.args.before c.args.inst.now c.in-For.var c.in-For._lo c.in-For._hi c.in-For.body c.both-in-For.result c.is_loop_var.result c.block_fits-in-For.result
    c.in-For.is c.both-in-For.ensures c.is_loop_var.ensures (c.block_fits-in-For.ensures ∙ ap inner c.as_slice-in-For.ensures)
