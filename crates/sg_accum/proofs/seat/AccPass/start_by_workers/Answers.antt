use Rattle.sg_accum.proofs.Halving.{begun-itself, begun-some, if_ok_start}
use Rattle.sg_accum.proofs.seat.AccPass.start_by_workers.Goals as goal

pub pass_of-requires : goal.pass_of-requires
pass_of-requires g c =
    let made = c.in_ok-begun.begun in
    record {
      some = begun-some c.args.op c.args.ty c.args.values.now made.parts.items made.seats.items c.requires.cells c.in_ok-begun.ensures;
      begun = begun-itself c.args.op c.args.ty c.args.values.now made.parts.items made.seats.items c.in_ok-begun.ensures;
    }

pub returns : goal.returns
returns g c =
    let made = c.in_ok-begun.begun in
    if_ok_start c.args.op c.args.ty c.args.values.now made.parts.items made.seats.items c.pass_of.result c.in_ok-begun.ensures c.pass_of.ensures
