use Rattle.std.proofs.Common.{◌≡◌, ◌%◌, length, arith}
use Rattle.sg_accum.proofs.Halving.{if_ok_begun}
use Rattle.sg_accum.proofs.halves.+begins.Goals as goal

pub returns : goal.returns
returns g t c =
    let first = c.split_at.result.0.now in
    let last = c.split_at.result.1.now in
    let even : length first % 65536 ≡ 0 = omega (arith, c.split_at.ensures.front_len, c.middle_of.ensures.whole) in
    if_ok_begun c.args.op c.args.ty c.args.values.now first last c.in_ok-front.field-0 c.in_ok-back.field-0 c.both_begun.result c.split_at.ensures.by_index.0 even
    (rw c.in_ok-front.was at c.join-front.ensures.first) (rw c.in_ok-back.was at c.join-front.ensures.second) c.both_begun.ensures.parts c.both_begun.ensures.seats
