use Rattle.sg_accum.proofs.Ledgers.{own-stays}
use Rattle.sg_accum.proofs.Roomy.{rooms-stay}
use Rattle.sg_accum.proofs.Giving.{part-within, seat-within, takes, giving, given-word}
use Rattle.std.proofs.Common.{◌/◌, refl}
use Rattle.sg_accum.proofs.seat.AccPass.keep_bits.Goals as goal

pub index-requires : goal.index-requires
index-requires c = part-within c.args.self.now c.args.seat.now c.args.cell c.requires.own c.requires.inside

pub index_mut-requires : goal.index_mut-requires
index_mut-requires c = seat-within c.args.self.now c.args.seat.now c.args.cell c.requires.own c.requires.inside

pub keep_bits-requires : goal.keep_bits-requires
keep_bits-requires c =
    let here = takes c.args.self.now c.args.seat.now _ c.args.cell _ _ c.requires.own c.requires.inside c.requires.operator c.index.ensures c.index_mut.ensures.value in
    record { own = here.own; inside = here.inside; operator = here.operator }

pub invariant_of-seat : goal.invariant_of-seat
invariant_of-seat c =
    let now = giving c.args.self.now c.args.seat.now c.args.cell c.args.word _ _ c.requires.own c.requires.inside c.index_mut.ensures.value c.keep_bits.ensures.gave in
    let rooms = rooms-stay c.args.seat.now _ now.long now.share in
    record { some = now.some; alike = now.alike; enough = rooms.enough; room = rooms.each }

pub returns-clause-own : goal.returns-clause-own
returns-clause-own c = own-stays c.args.self.now.parts.items c.args.seat.now.seats.items (c.args.cell / 65536) _ _ c.index_mut.ensures.value c.keep_bits.ensures.own c.requires.own

pub returns-clause-gave : goal.returns-clause-gave
returns-clause-gave c =
    given-word c.args.cell c.args.word c.args.seat.now _ _ refl (giving c.args.self.now c.args.seat.now c.args.cell c.args.word _ c.keep_bits.new.seat c.requires.own c.requires.inside c.index_mut.ensures.value c.keep_bits.ensures.gave)
