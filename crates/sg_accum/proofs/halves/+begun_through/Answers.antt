use Rattle.std.proofs.Common.{◌≡◌, ◌%◌, length, arith}
use Rattle.sg_accum.proofs.Halving.{if_ok_begun}
use Rattle.sg_accum.proofs.halves.+begun_through.Goals as goal

pub returns : goal.returns
returns t c =
    let first = c.split_at.result.0.now in
    let last = c.split_at.result.1.now in
    let even : length first % 65536 ≡ 0 = omega (arith, c.split_at.ensures.front_len, c.middle_of.ensures.whole) in
    if_ok_begun c.args.op c.args.ty c.args.values.now first last c.in_ok-front.front c.in_ok-back.back c.both_begun.result c.split_at.ensures.by_index.0 even c.in_ok-front.ensures c.in_ok-back.ensures
    c.both_begun.ensures.parts c.both_begun.ensures.seats
