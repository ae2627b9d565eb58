use Rattle.std.proofs.Common.{ap, ◌∙◌, arith, ◌≡◌, ◌≤◌}
use Rattle.sg_layout.specs.Axes.{extent_in}
use Rattle.sg_flat.proofs.Overs.{quotient_some, quotient_most, quotient_of_one, quotient_volume}
use Rattle.sg_flat.proofs.cutting.extents_without.Goals as goal

pub invariant_of-result : goal.invariant_of-result
invariant_of-result c =
    let e = c.args.extents in
    let a = c.extent_in.result in
    let b = c.extent_in-2.result in
    let c' = c.extent_in-3.result in
    let a_is : a ≡ extent_in c.args.node.now.sizes 1 = c.extent_in.ensures.value ∙ ap (λ sizes. extent_in sizes 1) c.as_slice-sizes.ensures in
    let b_is : b ≡ extent_in c.args.node.now.sizes 2 = c.extent_in-2.ensures.value ∙ ap (λ sizes. extent_in sizes 2) c.as_slice-sizes.ensures in
    let c_is : c' ≡ extent_in c.args.node.now.sizes 3 = c.extent_in-3.ensures.value ∙ ap (λ sizes. extent_in sizes 3) c.as_slice-sizes.ensures in
    let a_fits : a ≤ e.a = omega (arith, c.requires.a_fits) in
    let b_fits : b ≤ e.b = omega (arith, c.requires.b_fits) in
    let c_fits : c' ≤ e.c = omega (arith, c.requires.c_fits) in
    record {
      some_axis = e.some_axis;
      three_axes = e.three_axes;
      a_some = quotient_some e.a a c.extent_in.ensures.some a_fits;
      a_most = (let most = quotient_most e.a a in let before = e.a_most in omega arith);
      b_some = quotient_some e.b b c.extent_in-2.ensures.some b_fits;
      b_most = (let most = quotient_most e.b b in let before = e.b_most in omega arith);
      b_unused = λ unused. quotient_of_one e.b b c.extent_in-2.ensures.some b_fits (e.b_unused unused);
      c_some = quotient_some e.c c' c.extent_in-3.ensures.some c_fits;
      c_most = (let most = quotient_most e.c c' in let before = e.c_most in omega arith);
      c_unused = λ unused. quotient_of_one e.c c' c.extent_in-3.ensures.some c_fits (e.c_unused unused);
      volume_most = (let most = quotient_volume e.a e.b e.c a b c' in let before = e.volume_most in omega arith);
    }
