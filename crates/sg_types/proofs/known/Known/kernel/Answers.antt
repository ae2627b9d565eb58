use Rattle.std.proofs.Common.{ap, length, [], arith}
use Rattle.sg_types.specs.Statements.{Reached}
use Rattle.sg_types.specs.Counting.{block_count}
use Rattle.sg_types.proofs.Beginnings.{number_begun, length_begun}
use Rattle.sg_types.proofs.known.Known.kernel.Goals as goal

pub block-requires : goal.block-requires
block-requires c =
    let vars = c.as_slice.result.now in
    let vars_are = c.as_slice.ensures in
    let body_is = ap block_count c.as_slice-2.ensures in
    let number = ap (λ (at : Reached). at.number) c.in_ok-at.ensures in
    let types = ap (λ (at : Reached). length at.types) c.in_ok-at.ensures in
    let start : Reached = record { number = 1; types = []; scope = [] } in
    record {
      numbers = omega (arith, number, body_is, number_begun start vars, c.requires);
      vars = omega (arith, types, body_is, length_begun start vars, ap length vars_are, c.requires);
    }
