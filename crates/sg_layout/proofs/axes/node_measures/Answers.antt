use Rattle.std.proofs.Common.{◌≡◌, ◌*◌, ◌≤◌, ◌^◌, ap, ◌∙◌, arith}
use Rattle.sg_layout.specs.Axes.{extent_in}
use Rattle.sg_layout.proofs.Measured.{own_fits}
use Rattle.sg_layout.proofs.axes.node_measures.Goals as goal

pub invariant_of-own : goal.invariant_of-own
invariant_of-own c =
    let sizes = c.args.node.now.sizes in
    let a_is : c.extent_in.result ≡ extent_in sizes 1 = c.extent_in.ensures.value ∙ ap (λ s. extent_in s 1) c.as_slice-sizes.ensures in
    let b_is : c.extent_in-2.result ≡ extent_in sizes 2 = c.extent_in-2.ensures.value ∙ ap (λ s. extent_in s 2) c.as_slice-sizes.ensures in
    let c_is : c.extent_in-3.result ≡ extent_in sizes 3 = c.extent_in-3.ensures.value ∙ ap (λ s. extent_in s 3) c.as_slice-sizes.ensures in
    let volume : extent_in sizes 1 * extent_in sizes 2 * extent_in sizes 3 ≤ 2 ^ 30 = own_fits c.args.axes c.args.number c.args.node.now c.args.later.now c.requires in
    record {
      some_axis = omega arith;
      three_axes = omega arith;
      a_some = c.extent_in.ensures.some;
      a_most = c.extent_in.ensures.most;
      b_some = c.extent_in-2.ensures.some;
      b_most = c.extent_in-2.ensures.most;
      b_unused = λ unused. absurd (omega arith);
      c_some = c.extent_in-3.ensures.some;
      c_most = c.extent_in-3.ensures.most;
      c_unused = λ unused. absurd (omega arith);
      volume_most = rw (a_is, b_is, c_is) volume;
    }
