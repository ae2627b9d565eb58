use Rattle.std.proofs.Common.{rules, ◌≡◌, ◌≤◌, ◌/◌, length, sym, ◌∙◌, subst₂, arith}
use Rattle.sg_accum.specs.Parts.{part_values, seat_workers}
use Rattle.sg_accum.specs.steps.Teams.{CanEnd, AreEnded}
use Rattle.sg_accum.proofs.Halving.{can-front, can-back, ended-both, if_ok_ended}
use Rattle.sg_accum.proofs.halves.+ends.Goals as goal

pub join-front-requires-after_bounds : goal.join-front-requires-after_bounds
join-front-requires-after_bounds g t c κs within =
    let parts = c.args.parts in
    let many : c.len-middle.result ≡ length parts.items = c.len-middle.ensures ∙ parts.ok.0 in
    let two : 2 ≤ length parts.items = omega (arith, c.if-len-lt2.false, c.len.ensures, parts.ok.0) in
    let m = c.len-middle.result / 2 in
    let front = subst₂ (CanEnd c.args.op c.args.ty) (sym c.in_ok-last_parts.ensures.items) (sym c.in_ok-last_seats.ensures.items)
    (can-front c.args.op c.args.ty m parts.items c.args.seats.items (omega arith) (omega arith) c.requires) in
    let back = subst₂ (CanEnd c.args.op c.args.ty) (sym c.in_ok-last_parts.ensures.tail) (sym c.in_ok-last_seats.ensures.tail)
    (can-back c.args.op c.args.ty m parts.items c.args.seats.items (omega arith) c.requires) in
    ((search rules, ((λ a has. has), ((search rules, omega arith, front), search rules))), (search rules, ((λ a has. has), ((search rules, back), search rules))))

pub returns : goal.returns
returns g t c =
    let parts = c.args.parts in
    let many : c.len-middle.result ≡ length parts.items = c.len-middle.ensures ∙ parts.ok.0 in
    let m = c.len-middle.result / 2 in
    let done = c.in_ok-front.field-0.items in
    let rest = c.in_ok-back.field-0.items in
    let front = subst₂ (λ ps ss. AreEnded c.args.op c.args.ty (part_values ps) (seat_workers ss) done) c.in_ok-last_parts.ensures.items c.in_ok-last_seats.ensures.items
    (rw c.in_ok-front.was at c.join-front.ensures.first) in
    let back = subst₂ (λ ps ss. AreEnded c.args.op c.args.ty (part_values ps) (seat_workers ss) rest) c.in_ok-last_parts.ensures.tail c.in_ok-last_seats.ensures.tail
    (rw c.in_ok-back.was at c.join-front.ensures.second) in
    if_ok_ended c.args.op c.args.ty (part_values parts.items) (seat_workers c.args.seats.items) done rest c.both_ended.result
    (ended-both c.args.op c.args.ty m parts.items c.args.seats.items done rest (omega arith) front back) c.both_ended.ensures
