use Rattle.std.proofs.Common.{◌≡◌, true, ◌*◌, ◌≤◌, ◌∙◌, ap, arith}
use Rattle.std.specs.List.{list_all}
use Rattle.sg_layout.specs.Axes.{extent_over}
use Rattle.sg_layout.specs.Rules.{has_good_extents}
use Rattle.sg_layout.proofs.Extending.{good_extents, over_some, unnamed_over, axes_declared}
use Rattle.sg_layout.proofs.axes.extents_of.Goals as goal

pub extent_over-requires : goal.extent_over-requires
extent_over-requires c =
    ap (list_all has_good_extents) c.as_slice-nodes.ensures ∙ good_extents c.args.shape.now.axes 1 c.args.shape.now.nodes c.requires.no_fault

pub extent_over-requires-2 : goal.extent_over-requires-2
extent_over-requires-2 c =
    ap (list_all has_good_extents) c.as_slice-nodes.ensures ∙ good_extents c.args.shape.now.axes 1 c.args.shape.now.nodes c.requires.no_fault

pub extent_over-requires-3 : goal.extent_over-requires-3
extent_over-requires-3 c =
    ap (list_all has_good_extents) c.as_slice-nodes.ensures ∙ good_extents c.args.shape.now.axes 1 c.args.shape.now.nodes c.requires.no_fault

pub invariant_of-result : goal.invariant_of-result
invariant_of-result c =
    let shape = c.args.shape.now in
    let good : list_all has_good_extents shape.nodes ≡ true = good_extents shape.axes 1 shape.nodes c.requires.no_fault in
    let axes = axes_declared shape c.requires.declared in
    let a_is : c.in_ok-a.a ≡ extent_over shape.nodes 1 = c.in_ok-a.ensures.0 ∙ ap (λ nodes. extent_over nodes 1) c.as_slice-nodes.ensures in
    let b_is : c.in_ok-b.b ≡ extent_over shape.nodes 2 = c.in_ok-b.ensures.0 ∙ ap (λ nodes. extent_over nodes 2) c.as_slice-nodes.ensures in
    let c_is : c.in_ok-c.c ≡ extent_over shape.nodes 3 = c.in_ok-c.ensures.0 ∙ ap (λ nodes. extent_over nodes 3) c.as_slice-nodes.ensures in
    let volume : c.in_ok-a.a * c.in_ok-b.b * c.in_ok-c.c ≤ 1073741824 = rw (c.from.ensures, c.from-2.ensures, c.from-3.ensures) at c.if-from-gt-MOST_POINTS.false in
    record {
      some_axis = axes.0;
      three_axes = axes.1;
      a_some = omega (arith, a_is, over_some shape.nodes 1 good);
      a_most = c.in_ok-a.ensures.1;
      b_some = omega (arith, b_is, over_some shape.nodes 2 good);
      b_most = c.in_ok-b.ensures.1;
      b_unused = λ unused. b_is ∙ unnamed_over shape.axes 2 1 shape.nodes unused c.requires.no_fault;
      c_some = omega (arith, c_is, over_some shape.nodes 3 good);
      c_most = c.in_ok-c.ensures.1;
      c_unused = λ unused. c_is ∙ unnamed_over shape.axes 3 1 shape.nodes unused c.requires.no_fault;
      volume_most = volume;
    }
