use Rattle.std.proofs.Common.{◌<◌, ◌++◌, ◌∷◌, [], List, ℕ, length, ap, ◌∙◌, arith}
use Rattle.sg_accum.proofs.Ledgers.{same_many}
use Rattle.sg_accum.proofs.Halving.{ended-only}
use Rattle.sg_accum.proofs.halves.one_ended.Goals as goal

pub returns : goal.returns
returns c =
    let new = c.end.result in
    let few : length c.args.seats.items < 2 = omega (arith, same_many c.args.parts.items c.args.seats.items c.requires.can.own, c.requires.few) in
    ended-only c.args.op c.args.ty c.args.parts.items c.take_last-part.new.self.items c.args.seats.items c.take_last-seat.new.self.items c.take_last-part.result c.take_last-seat.result
    c.push_reserved.new.self.items new c.take_last-part.ensures.items c.requires.few c.take_last-seat.ensures.items few c.requires.can.by
    (c.push_reserved.ensures.items ∙ ap (λ (l : List (List ℕ)). l ++ new ∷ []) c.in_ok-done.ensures.items) c.end.ensures
