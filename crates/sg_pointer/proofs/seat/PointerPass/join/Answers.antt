use Rattle.std.proofs.Common.{rules, sym, ap, ◌∙◌, arith}
use Rattle.sg_pointer.proofs.Passes.{join-allowed}
use Rattle.sg_words.proofs.Uses.{dry-join}
use Rattle.sg_pointer.proofs.seat.PointerPass.join.Goals as goal

pub join_seat-requires : goal.join_seat-requires
join_seat-requires c =
    let sized = c.args.self.now.sized in
    (search rules, search rules, search rules, omega arith, join-allowed c.args.self.now _ _ _ _ (search rules) (search rules))

pub invariant_of-seat-clause-dries : goal.invariant_of-seat-clause-dries
invariant_of-seat-clause-dries c = c.either-seat.ensures ∙ dry-join c.args.seat.now.seat.me.0 c.args.other.seat.me.0 _ _ c.args.seat.now.dries c.args.other.dries ∙ sym (ap (λ m. Rattle.sg_words.specs.Stocks.is_dry m.0) c.join_seat.ensures.2)
