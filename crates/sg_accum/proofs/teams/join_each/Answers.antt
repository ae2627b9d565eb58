use Rattle.std.proofs.Common.{◌≡◌, ◌<◌, length, take, drop, get_or, set, ◌++◌, take_all, sym, ap, ◌∙◌, subst, arith}
use Rattle.sg_words.specs.declared.race.Worker.{Worker}
use Rattle.sg_words.specs.RaceMachine.{after_join}
use Rattle.sg_accum.specs.declared.part.Part.{Part}
use Rattle.sg_accum.specs.declared.part.PartSeat.{PartSeat}
use Rattle.sg_accum.specs.Parts.{seat_workers, worker_at}
use Rattle.sg_accum.specs.steps.Teams.{joined_each}
use Rattle.sg_accum.proofs.Ledgers.{same_many, own-at, own-stays, worker-here}
use Rattle.sg_accum.proofs.Rounds.{many-workers, many-joined, joined-at, none-joined, reads-down, writes-down, popped}
use Rattle.sg_accum.proofs.teams.join_each.Goals as goal

pub loop-other-init : goal.loop-other-init
loop-other-init c =
    let others = c.args.others.items in
    let seats = c.args.seats.now.items in
    let same : length (seat_workers others) ≡ length (seat_workers seats) =
    many-workers others ∙ same_many c.args.parts.now others c.requires.other ∙ sym (many-workers seats ∙ same_many c.args.parts.now seats c.requires.own) in
    record {
      own = c.requires.own;
      left = sym (take_all (length others) others (omega arith));
      few = omega arith;
      both = none-joined (seat_workers seats) (seat_workers others) (length others) same (sym (many-workers others) ∙ same);
    }

pub bounds-parts-place : goal.bounds-parts-place
bounds-parts-place c =
    let last = popped c.args.others.items c.loop-other.others.items c.pop.new.self.items c.in-Some.other c.in-Some.ensures.items c.loop-other.invariant.left c.loop-other.invariant.few in
    let within = last.within in
    omega (arith, c.len-place.ensures, c.pop.new.self.ok.0, within, same_many c.args.parts.now c.args.others.items c.requires.other)

pub index_mut-requires : goal.index_mut-requires
index_mut-requires c =
    let last = popped c.args.others.items c.loop-other.others.items c.pop.new.self.items c.in-Some.other c.in-Some.ensures.items c.loop-other.invariant.left c.loop-other.invariant.few in
    let within = last.within in
    omega (
      arith,
      c.len-place.ensures,
      c.pop.new.self.ok.0,
      within,
      same_many c.args.parts.now c.args.others.items c.requires.other,
      same_many c.args.parts.now c.loop-other.seats.items c.loop-other.invariant.own,
      c.loop-other.seats.ok.0,
    )

pub join-requires-clause-own : goal.join-requires-clause-own
join-requires-clause-own c =
    let last = popped c.args.others.items c.loop-other.others.items c.pop.new.self.items c.in-Some.other c.in-Some.ensures.items c.loop-other.invariant.left c.loop-other.invariant.few in
    let within = last.within in
    let below : c.len-place.result < length c.args.parts.now =
    omega (arith, c.len-place.ensures, c.pop.new.self.ok.0, within, same_many c.args.parts.now c.args.others.items c.requires.other) in
    ap (λ (s : PartSeat). s.seat.table_id) c.index_mut.ensures.value
    ∙ own-at c.args.parts.now c.loop-other.seats.items c.len-place.result c.loop-other.invariant.own below c.index-parts-place.result c.index_mut.result.now
    ∙ ap (λ (p : Part). p.table.shared.table_id) (sym c.index-parts-place.is)

pub join-requires-clause-other : goal.join-requires-clause-other
join-requires-clause-other c =
    let last = popped c.args.others.items c.loop-other.others.items c.pop.new.self.items c.in-Some.other c.in-Some.ensures.items c.loop-other.invariant.left c.loop-other.invariant.few in
    let within = last.within in
    let place : c.len-place.result ≡ length c.pop.new.self.items = c.len-place.ensures ∙ c.pop.new.self.ok.0 in
    let below : c.len-place.result < length c.args.parts.now = omega (arith, place, within, same_many c.args.parts.now c.args.others.items c.requires.other) in
    ap (λ (s : PartSeat). s.seat.table_id) (last.is ∙ ap (λ n. get_or c.args.others.items n c.in-Some.other) (sym place))
    ∙ own-at c.args.parts.now c.args.others.items c.len-place.result c.requires.other below c.index-parts-place.result c.in-Some.other
    ∙ ap (λ (p : Part). p.table.shared.table_id) (sym c.index-parts-place.is)

pub loop-other-preserved : goal.loop-other-preserved
loop-other-preserved c =
    let others = c.args.others.items in
    let first = c.args.seats.now.items in
    let seats = c.loop-other.seats.items in
    let left = c.pop.new.self.items in
    let n = length left in
    let other = c.in-Some.other in
    let mine = c.index_mut.result.now in
    let new = c.join.new.seat in
    let last = popped others c.loop-other.others.items left other c.in-Some.ensures.items c.loop-other.invariant.left c.loop-other.invariant.few in
    let within = last.within in
    let place : c.len-place.result ≡ n = c.len-place.ensures ∙ c.pop.new.self.ok.0 in
    let vs = seat_workers first in
    let us = seat_workers others in
    let now = joined_each vs us in
    let many : length others ≡ length c.args.parts.now = same_many c.args.parts.now others c.requires.other in
    let many' : length first ≡ length c.args.parts.now = same_many c.args.parts.now first c.requires.own in
    let many'' : length seats ≡ length c.args.parts.now = same_many c.args.parts.now seats c.loop-other.invariant.own in
    let same : length us ≡ length vs = omega (arith, many-workers others, many-workers first, many, many') in
    let below : n < length vs = omega (arith, many-workers first, many, many', within) in
    let inside : n < length seats = omega (arith, many, many'', within) in
    let at : mine ≡ get_or seats n mine = c.index_mut.ensures.value ∙ ap (λ k. get_or seats k mine) place in
    let done = subst (λ m. seat_workers seats ≡ take m vs ++ drop m now) last.one_less c.loop-other.invariant.both in
    let mine-is : mine.seat.me.0 ≡ worker_at vs n = reads-down seats vs now n mine done (many-joined vs us same) below inside at in
    let other-is : other.seat.me.0 ≡ worker_at us n = sym (worker-here others n other within last.is) in
    let new-is : new.seat.me.0 ≡ worker_at now n =
    c.join.ensures.both ∙ ap (λ (v : Worker). after_join v other.seat.me.0) mine-is ∙ ap (after_join (worker_at vs n)) other-is ∙ sym (joined-at vs us n same below) in
    record {
      own = own-stays c.args.parts.now seats c.len-place.result mine new c.index_mut.ensures.value c.join.ensures.own c.loop-other.invariant.own;
      left = last.rest;
      few = omega (arith, within);
      both = subst (λ k. seat_workers (set seats k new) ≡ take n vs ++ drop n now) (sym place) (writes-down seats vs now n new done (many-joined vs us same) below new-is);
    }
