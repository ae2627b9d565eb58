use Rattle.std.proofs.Common.{◌≡◌, ℕ, ◌+◌, ◌-◌, length, take, get_or, vec_len, refl, ap, ◌∙◌, subst, arith}
use Rattle.std.specs.Prelude.{slice_set}
use Rattle.std.proofs.lemmas.Option.{same_Some, slice_get_read, slice_get-get_or}
use Rattle.sg_exec.proofs.Splitting.{Joining, last_left, joining_more, all_joined}
use Rattle.sg_exec.proofs.workers.state.join_all.Goals as goal

pub loop-number-preserved : goal.loop-number-preserved
loop-number-preserved c =
    let accumulated = c.args.accumulated.now in
    let others = c.args.others.now.items in
    let seats = c.loop-number.seats.items in
    let lefts = c.loop-number.others.items in
    let so = c.loop-number.invariant in
    let number = length accumulated - c.loop-number.number in
    let last = length accumulated - 1 - c.loop-number.number in
    let test = c.loop-number-test.true in
    let long = so.seats.long in
    let other_long = c.requires.others.long in
    let next : number ≡ last + 1 = omega arith in
    let left = last_left others lefts number last next (omega arith) so.left in
    let left_long = left.0 in
    let counted : vec_len c.loop-number.others ≡ length lefts = omega arith in
    subst (λ (n : ℕ). Joining accumulated n c.args.seats.now.items others (slice_set seats last c.join.new.seat) c.pop.new.self.items) (omega arith)
    (joining_more accumulated number last c.args.seats.now.items others seats lefts c.pop.new.self.items _ c.index_mut-seat.result.now c.in-Some.other c.join.new.seat
    next so c.requires.others (slice_get-get_or accumulated last c.index-accumulated-last.result (omega arith))
    (slice_get_read seats (length seats) last c.index_mut-seat.result.now refl (omega arith) c.index_mut-seat.ensures.value)
    (same_Some _ _ (c.in-Some.ensures.value c.in-Some.other (omega arith)) ∙ ap (λ (n : ℕ). get_or lefts (n - 1) c.in-Some.other) counted ∙ left.1 c.in-Some.other)
    (c.in-Some.ensures.rest ∙ ap (λ (n : ℕ). take (n - 1) lefts) counted ∙ left.2) c.join.ensures.own c.join.ensures.merged)

pub returns-clause-joined : goal.returns-clause-joined
returns-clause-joined c =
    let past = c.loop-number-test.false in
    all_joined c.args.accumulated.now (length c.args.accumulated.now - c.loop-number.number) c.args.seats.now.items c.args.others.now.items c.loop-number.seats.items c.loop-number.others.items
    (omega arith) c.loop-number.invariant
