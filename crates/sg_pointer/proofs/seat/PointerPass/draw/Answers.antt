use Rattle.std.proofs.Common.{rules, ap, ◌∙◌, arith}
use Rattle.std.specs.Prelude.{slice_index}
use Rattle.sg_pointer.proofs.Passes.{draw-allowed}
use Rattle.sg_words.proofs.Uses.{drawn-past}
use Rattle.sg_pointer.proofs.seat.PointerPass.draw.Goals as goal

pub fetch_add-ticket-requires : goal.fetch_add-ticket-requires
fetch_add-ticket-requires c =
    let sized = c.args.self.now.sized in
    (search rules, omega arith, draw-allowed c.args.self.now _ _ _ _ (search rules) (search rules) c.requires.own.told c.requires.none c.requires.not_dry)

pub invariant_of-seat-else-ticket-len : goal.invariant_of-seat-else-ticket-len
invariant_of-seat-else-ticket-len c =
    let limit = ap (λ l. slice_index l 0) c.requires.own.told in
    let me = c.fetch_add-ticket.ensures.2 in
    let past = drawn-past c.args.seat.now.seat.me.0 c.fetch_add-ticket.new.seat.me.0 _ _ (ap (λ m. m.0) me) (omega arith) in
    let live = c.args.seat.now.working in
    record {
      empty_handed = ap (λ m. m.1) me ∙ c.args.seat.now.empty_handed;
      working = omega arith;
      spares = past.1 ∙ c.args.seat.now.spares;
      dries = past.3;
    }
