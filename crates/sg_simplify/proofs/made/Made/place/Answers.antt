use Rattle.std.proofs.Common.{ap, ◌∙◌, sym, subst}
use Rattle.std.proofs.lemmas.Result.{IfOk-weaker}
use Rattle.sg_coord.specs.Bounds.{Bounds}
use Rattle.sg_layout.specs.declared.shape.Shape.{Shape}
use Rattle.sg_ir.specs.Places.{extents_in}
use Rattle.sg_simplify.specs.steps.Made.{given_in, AreWide}
use Rattle.sg_simplify.proofs.Descending.{wide-shape, placed-none, placed-goes}
use Rattle.sg_simplify.proofs.made.Made.place.Goals as goal

pub returns-in_default : goal.returns-in_default
returns-in_default c = placed-none (given_in c.args.given.now) c.args.number c.args.index.now c.args.self.now c.args.out.now (sym c.in_default.ensures)

pub descended-requires-clause-wide : goal.descended-requires-clause-wide
descended-requires-clause-wide c =
    subst AreWide (sym (c.as_slice.ensures ∙ ap (λ (shape : Shape). shape.nodes) c.shape.ensures.value)) (wide-shape c.in-Some.layout.now c.shape.ensures.accepted c.extents-extents.ensures.bounds)

pub returns : goal.returns
returns c =
    IfOk-weaker c.descended.result _ _
    (λ to others. placed-goes (given_in c.args.given.now) c.in-Some.layout.now c.args.number c.in_ok-root.root c.in_ok-inside.inside to c.args.index.now _ c.as_slice.result.now
    c.args.self.now c.stepped.new.self c.checked.new.self c.descended.new.self c.args.out.now c.stepped.new.out c.checked.new.out c.descended.new.out
    (sym c.in-Some.ensures) (ap (λ (bounds : Bounds). extents_in bounds) c.extents-extents.ensures.value) (c.as_slice.ensures ∙ ap (λ (shape : Shape). shape.nodes) c.shape.ensures.value)
    c.in_ok-root.ensures c.in_ok-inside.ensures others) c.descended.ensures
