use Rattle.std.proofs.Common.{Bool, true, ◌&&◌, Option, sym, ap, ◌∙◌}
use Rattle.std.specs.Prelude.{slice_get}
use Rattle.sg_ir.specs.declared.before.Passed.{Passed}
use Rattle.sg_ir.specs.WellTyped.{KnownPlace, is_cell, indexes, holds_of, is_truth_as}
use Rattle.sg_ir.specs.steps.Frames.{frame_in, scope_in}
use Rattle.sg_ir.specs.steps.Scopes.{known_by_check}
use Rattle.sg_ir.proofs.typing.Typing.active_fits.Goals as goal

pub returns-in-Some : goal.returns-in-Some
returns-in-Some c =
    let at = frame_in c.args.self.now in
    let scope = scope_in c.args.self.now c.args.before.now in
    let known = c.in-Some.known in
    let here : KnownPlace = record { layout = known.layout; passed = known.passed } in
    let index = holds_of (λ shape. indexes at scope shape c.args.index.now) (slice_get at.shapes known.layout) in
    let fits = λ (given : Option Passed).
    holds_of (λ (it : KnownPlace). is_cell at it.layout it && (holds_of (λ shape. indexes at scope shape c.args.index.now) (slice_get at.shapes it.layout) && is_truth_as true (slice_get at.regs c.args.to))) (known_by_check given) in
    c.both.ensures
    ∙ (ap (λ (b : Bool). b && c.both-last.result) c.is_cell.ensures
    ∙ (ap (λ (b : Bool). is_cell at known.layout here && b)
    (c.both-last.ensures ∙ (ap (λ (b : Bool). b && c.is_of.result) c.indexes.ensures ∙ ap (λ (b : Bool). index && b) (c.is_of.ensures ∙ ap (is_truth_as true) c.reg.ensures)))
    ∙ ap fits (sym c.in-Some.is ∙ c.passed_by.ensures)))
