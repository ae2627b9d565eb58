use Rattle.std.proofs.Common.{◌≡◌, ◌+◌, ◌-◌, ◌/◌, ◌≤◌, length, sym, ap, ◌∙◌, subst, arith}
use Rattle.std.proofs.lemmas.List.{length-map}
use Rattle.sg_words.specs.RaceMachine.{after_split, other_half}
use Rattle.sg_accum.specs.declared.rooms.Rooms.{Rooms}
use Rattle.sg_accum.specs.Parts.{seat_workers}
use Rattle.sg_accum.specs.Folding.{share_of}
use Rattle.sg_accum.specs.steps.Rooms.{AreRooms, splits_of}
use Rattle.sg_accum.proofs.Ledgers.{same_many}
use Rattle.sg_accum.proofs.Roomy.{rooms-cut}
use Rattle.sg_accum.proofs.Shares.{left-seats, right-seats, cut-in-two}
use Rattle.sg_accum.proofs.seat.AccPass.split.Goals as goal

pub cut-first-requires : goal.cut-first-requires
cut-first-requires c =
    let enough = c.args.seat.now.enough in
    record { some = subst (λ (them : Rooms). 2 ≤ splits_of them) (sym c.replace.ensures.value) (omega (arith, enough, c.requires.share)) }

pub split_each-requires-clause-none : goal.split_each-requires-clause-none
split_each-requires-clause-none c =
    (c.cut-first.ensures.first (length c.args.seat.now.seats.items) (subst (AreRooms (length c.args.seat.now.seats.items)) (sym c.replace.ensures.value) c.args.seat.now.room)).none

pub split_each-requires-clause-room : goal.split_each-requires-clause-room
split_each-requires-clause-room c =
    let n = length c.args.seat.now.seats.items in
    let wide = (c.cut-first.ensures.first n (subst (AreRooms n) (sym c.replace.ensures.value) c.args.seat.now.room)).wide in
    omega (arith, wide, same_many c.args.self.now.parts.items c.args.seat.now.seats.items c.requires.own)

pub invariant_of-seat : goal.invariant_of-seat
invariant_of-seat c =
    let seat = c.args.seat.now in
    let now = left-seats seat c.split_each.new.seats.items c.split_each.ensures.left in
    let long = ap length c.split_each.ensures.left ∙ length-map (seat_workers seat.seats.items) after_split in
    let rooms = rooms-cut seat c.split_each.new.seats.items (share_of seat - share_of seat / 2) c.cut-first.result.mine long now.team.share_is (omega arith) (ap splits_of (sym c.replace.ensures.value) ∙ c.cut-first.ensures.mine)
    (λ parts them. c.cut-first.ensures.left parts (subst (AreRooms parts) (sym c.replace.ensures.value) them)) in
    record { some = now.some; alike = now.team.alike; enough = rooms.enough; room = rooms.each }

pub invariant_of-result : goal.invariant_of-result
invariant_of-result c =
    let seat = c.args.seat.now in
    let other = right-seats seat c.split_each.new.others.items c.split_each.ensures.right in
    let long = ap length c.split_each.ensures.right ∙ length-map (seat_workers seat.seats.items) other_half in
    let double : splits_of seat.rooms ≡ splits_of c.cut-first.result.theirs + splits_of c.cut-first.result.theirs =
    ap splits_of (sym c.replace.ensures.value) ∙ omega (arith, c.cut-first.ensures.mine, c.cut-first.ensures.theirs) in
    let rooms = rooms-cut seat c.split_each.new.others.items (share_of seat / 2) c.cut-first.result.theirs long other.team.share_is (omega arith) double
    (λ parts them. c.cut-first.ensures.right parts (subst (AreRooms parts) (sym c.replace.ensures.value) them)) in
    record { some = other.some; alike = other.team.alike; enough = rooms.enough; room = rooms.each }

pub returns-clause-cut : goal.returns-clause-cut
returns-clause-cut c = cut-in-two c.args.seat.now _ _ c.split_each.ensures.left c.split_each.ensures.right
