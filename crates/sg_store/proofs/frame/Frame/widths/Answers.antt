use Rattle.std.proofs.Common.{◌≡◌, ◌<◌, List, length, get_or, ap, sym, ◌∙◌, subst, arith}
use Rattle.std.specs.Prelude.{slice_get}
use Rattle.std.proofs.lemmas.Option.{slice_get-get_or}
use Rattle.sg_layout.specs.declared.shape.Shape.{Shape}
use Rattle.sg_store.specs.declared.frame.NodeWidths.{NodeWidths}
use Rattle.sg_store.specs.steps.Widths.{IsWidths}
use Rattle.sg_store.proofs.frame.Frame.widths.Goals as goal

pub returns : goal.returns
returns c =
    let read : List NodeWidths = c.as_slice.result.now in
    let same : read ≡ c.self.inside.widths = c.as_slice.ensures in
    let below : c.args.index < length read =
    omega (arith, c.requires, ap length same, c.self.invariant.many, ap (λ (s : Shape). length s.nodes) c.self.view_is) in
    subst (λ (s : Shape). IsWidths s.nodes c.args.index (get_or read c.args.index _)) c.self.view_is
    (c.self.invariant.each c.args.index (get_or read c.args.index _) (ap (λ l. slice_get l c.args.index) (sym same) ∙ slice_get-get_or read c.args.index _ below))
