use Rattle.std.proofs.Common.{List, true, false, ◌&&◌, refl, sym, ap, ◌∙◌}
use Rattle.sg_ir.specs.declared.code.Inst.{Inst}
use Rattle.sg_ir.specs.declared.before.Before.TheVariants as bv
use Rattle.sg_ir.specs.WellTyped.{has_no_twice, set_regs, set_places}
use Rattle.sg_ir.specs.steps.Frames.{are_good}
use Rattle.sg_ir.proofs.Judgement.{well-typed-is}
use Rattle.sg_ir.proofs.typing.well_typed.Goals as goal

pub returns-then-block_fits : goal.returns-then-block_fits
returns-then-block_fits c =
    let it = c.typing_of-typing.result in
    let fits = sym c.if-block_fits.true ∙ c.block_fits.ensures ∙ ap (are_good it bv.Start) c.as_slice-body.ensures in
    let twice = λ (body : List Inst). has_no_twice (set_regs body) && has_no_twice (set_places body) in
    well-typed-is it c.args.layouts.now.list c.args.code.now true c.sets_once.result c.typing_of-typing.ensures.frame c.typing_of-typing.ensures.free fits (c.sets_once.ensures ∙ ap twice c.as_slice-body.ensures)

pub returns-else-block_fits : goal.returns-else-block_fits
returns-else-block_fits c =
    let it = c.typing_of-typing.result in
    let fits = sym c.if-block_fits.false ∙ c.block_fits.ensures ∙ ap (are_good it bv.Start) c.as_slice-body.ensures in
    let body = c.args.code.now.body in
    well-typed-is it c.args.layouts.now.list c.args.code.now false (has_no_twice (set_regs body) && has_no_twice (set_places body)) c.typing_of-typing.ensures.frame c.typing_of-typing.ensures.free fits refl
