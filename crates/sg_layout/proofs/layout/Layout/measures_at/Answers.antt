use Rattle.std.proofs.Common.{◌∙◌, ap, subst, arith, List, length}
use Rattle.sg_coord.specs.Bounds.{Bounds, volume}
use Rattle.sg_layout.specs.declared.shape.Shape.{Shape}
use Rattle.sg_layout.specs.declared.measures.Measures.{Measures}
use Rattle.sg_layout.specs.Accepted.{IsAccepted}
use Rattle.sg_layout.specs.steps.Measuring.{measures_in}
use Rattle.sg_layout.proofs.Extending.{axes_declared}
use Rattle.sg_layout.proofs.Faultless.{no_fault}
use Rattle.sg_layout.proofs.Measured.{as_many, kept_at, size_here}
use Rattle.sg_layout.proofs.layout.Layout.measures_at.Goals as goal

pub bounds-as_slice-node : goal.bounds-as_slice-node
bounds-as_slice-node c =
    let measured = c.self.invariant.measured ∙ ap (λ (s : Shape). measures_in s.nodes) c.self.view_is in
    omega (arith, as_many c.self.inside.measures c.args.self.now.nodes measured, ap (λ (ms : List Measures). length ms) c.as_slice.ensures, c.requires)

pub returns-clause-value : goal.returns-clause-value
returns-clause-value c =
    let measured = c.self.invariant.measured ∙ ap (λ (s : Shape). measures_in s.nodes) c.self.view_is in
    kept_at c.self.inside.measures c.as_slice.result.now c.args.self.now.nodes c.args.node c.index-as_slice-node.result _ c.index-as_slice-node.is c.as_slice.ensures measured c.requires

pub returns-clause-size : goal.returns-clause-size
returns-clause-size c =
    let measured = c.self.invariant.measured ∙ ap (λ (s : Shape). measures_in s.nodes) c.self.view_is in
    let accepted = subst (λ (s : Shape). IsAccepted s) c.self.view_is c.self.invariant.accepted in
    ap (λ (m : Bounds × Bounds). volume m.0)
    (kept_at c.self.inside.measures c.as_slice.result.now c.args.self.now.nodes c.args.node c.index-as_slice-node.result _ c.index-as_slice-node.is c.as_slice.ensures measured c.requires)
    ∙ size_here c.args.self.now.axes 1 c.args.self.now.nodes c.args.node (axes_declared c.args.self.now accepted.declared).1 (no_fault c.args.self.now accepted) c.requires
