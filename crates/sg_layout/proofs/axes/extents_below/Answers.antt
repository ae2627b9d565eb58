use Rattle.std.proofs.Common.{◌*◌, ◌≤◌, ◌^◌, arith}
use Rattle.sg_layout.specs.Axes.{extent_over}
use Rattle.sg_layout.proofs.Extending.{over_some}
use Rattle.sg_layout.proofs.Measured.{below_good, fits_below, found, same_bounds}
use Rattle.sg_layout.proofs.axes.extents_below.Goals as goal

pub extent_over-requires : goal.extent_over-requires
extent_over-requires c = below_good c.args.axes c.args.number c.args.node.now c.args.later.now c.requires

pub extent_over-requires-2 : goal.extent_over-requires-2
extent_over-requires-2 c = below_good c.args.axes c.args.number c.args.node.now c.args.later.now c.requires

pub extent_over-requires-3 : goal.extent_over-requires-3
extent_over-requires-3 c = below_good c.args.axes c.args.number c.args.node.now c.args.later.now c.requires

pub invariant_of-result : goal.invariant_of-result
invariant_of-result c =
    let later = c.args.later.now in
    let good = below_good c.args.axes c.args.number c.args.node.now later c.requires in
    let fit = fits_below c.args.axes c.args.number c.args.node.now later c.requires in
    let a_is = found c.extent_over.result (extent_over later 1) c.unwrap_or-a.result c.unwrap_or-a.ensures c.extent_over.ensures fit.a_most in
    let b_is = found c.extent_over-2.result (extent_over later 2) c.unwrap_or-b.result c.unwrap_or-b.ensures c.extent_over-2.ensures fit.b_most in
    let c_is = found c.extent_over-3.result (extent_over later 3) c.unwrap_or-c.result c.unwrap_or-c.ensures c.extent_over-3.ensures fit.c_most in
    let volume : extent_over later 1 * extent_over later 2 * extent_over later 3 ≤ 2 ^ 30 = fit.volume_most in
    let a_fits : extent_over later 1 ≤ 2 ^ 15 = fit.a_most in
    let b_fits : extent_over later 2 ≤ 2 ^ 15 = fit.b_most in
    let c_fits : extent_over later 3 ≤ 2 ^ 15 = fit.c_most in
    record {
      some_axis = omega arith;
      three_axes = omega arith;
      a_some = omega (arith, a_is, over_some later 1 good);
      a_most = omega arith;
      b_some = omega (arith, b_is, over_some later 2 good);
      b_most = omega arith;
      b_unused = λ unused. absurd (omega arith);
      c_some = omega (arith, c_is, over_some later 3 good);
      c_most = omega arith;
      c_unused = λ unused. absurd (omega arith);
      volume_most = rw (a_is, b_is, c_is) volume;
    }

pub returns : goal.returns
returns c =
    let later = c.args.later.now in
    let fit = fits_below c.args.axes c.args.number c.args.node.now later c.requires in
    same_bounds 3 _ _ _ _ _ _
    (found c.extent_over.result (extent_over later 1) c.unwrap_or-a.result c.unwrap_or-a.ensures c.extent_over.ensures fit.a_most)
    (found c.extent_over-2.result (extent_over later 2) c.unwrap_or-b.result c.unwrap_or-b.ensures c.extent_over-2.ensures fit.b_most)
    (found c.extent_over-3.result (extent_over later 3) c.unwrap_or-c.result c.unwrap_or-c.ensures c.extent_over-3.ensures fit.c_most)
