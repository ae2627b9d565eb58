use Rattle.std.proofs.Common.{◌≡◌, ◌<◌, ◌≤◌, ◌/◌, length, length-take-le, length-drop, sym, ap, ◌∙◌, subst₂, arith}
use Rattle.sg_accum.specs.Parts.{part_values, seat_workers}
use Rattle.sg_accum.specs.steps.Teams.{CanEnd, AreEnded}
use Rattle.sg_accum.proofs.Halving.{can-front, can-back, ended-both, if_ok_ended}
use Rattle.sg_accum.proofs.halves.+ended_here.Goals as goal

pub ended_here-requires : goal.ended_here-requires
ended_here-requires t c =
    let parts = c.args.parts in
    let many : c.len-middle.result ≡ length parts.items = c.len-middle.ensures ∙ parts.ok.0 in
    let two : 2 ≤ length parts.items = omega (arith, c.if-len-lt2.false, c.len.ensures, parts.ok.0) in
    let m = c.len-middle.result / 2 in
    let small : length c.split_off.new.self.items < length parts.items = omega (arith, ap length c.in_ok-last_parts.ensures.items, length-take-le m parts.items (omega arith), many, two) in (
      omega (arith, small, c.decreases),
      subst₂ (CanEnd c.args.op c.args.ty) (sym c.in_ok-last_parts.ensures.items) (sym c.in_ok-last_seats.ensures.items)
          (can-front c.args.op c.args.ty m parts.items c.args.seats.items (omega arith) (omega arith) c.requires),
    )

pub ended_here-requires-2 : goal.ended_here-requires-2
ended_here-requires-2 t c =
    let parts = c.args.parts in
    let many : c.len-middle.result ≡ length parts.items = c.len-middle.ensures ∙ parts.ok.0 in
    let two : 2 ≤ length parts.items = omega (arith, c.if-len-lt2.false, c.len.ensures, parts.ok.0) in
    let m = c.len-middle.result / 2 in
    let less : length c.in_ok-last_parts.last_parts.items < length parts.items = omega (arith, ap length c.in_ok-last_parts.ensures.tail, length-drop m parts.items, many, two) in (
      omega (arith, less, c.decreases),
      subst₂ (CanEnd c.args.op c.args.ty) (sym c.in_ok-last_parts.ensures.tail) (sym c.in_ok-last_seats.ensures.tail)
          (can-back c.args.op c.args.ty m parts.items c.args.seats.items (omega arith) c.requires),
    )

pub returns : goal.returns
returns t c =
    let parts = c.args.parts in
    let many : c.len-middle.result ≡ length parts.items = c.len-middle.ensures ∙ parts.ok.0 in
    let m = c.len-middle.result / 2 in
    let front = subst₂ (λ ps ss. AreEnded c.args.op c.args.ty (part_values ps) (seat_workers ss) c.in_ok-front.front.items) c.in_ok-last_parts.ensures.items c.in_ok-last_seats.ensures.items
    c.in_ok-front.ensures in
    let back = subst₂ (λ ps ss. AreEnded c.args.op c.args.ty (part_values ps) (seat_workers ss) c.in_ok-back.back.items) c.in_ok-last_parts.ensures.tail c.in_ok-last_seats.ensures.tail
    c.in_ok-back.ensures in
    if_ok_ended c.args.op c.args.ty (part_values parts.items) (seat_workers c.args.seats.items) c.in_ok-front.front.items c.in_ok-back.back.items c.both_ended.result
    (ended-both c.args.op c.args.ty m parts.items c.args.seats.items c.in_ok-front.front.items c.in_ok-back.back.items (omega arith) front back) c.both_ended.ensures
