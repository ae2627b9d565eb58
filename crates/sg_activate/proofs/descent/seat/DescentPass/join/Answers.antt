use Rattle.std.proofs.Common.{rules, ◌≡◌, ◌<◌, ap, ◌∙◌, subst, arith}
use Rattle.sg_words.specs.declared.race.Worker.{Worker}
use Rattle.sg_words.specs.Counts.{pairs}
use Rattle.sg_words.specs.RaceMachine.{after_join}
use Rattle.sg_activate.proofs.DescentMores.{bits-join}
use Rattle.sg_activate.proofs.DescentViews.{spares-same}
use Rattle.sg_activate.proofs.DescentCuts.{join-allowed, dry-join, inside_join}
use Rattle.sg_activate.proofs.descent.seat.DescentPass.join.Goals as goal

pub join_seat-requires : goal.join_seat-requires
join_seat-requires c =
    let sized = c.args.self.now.sized in
    let some' = c.args.self.now.some in
    (search rules, search rules, search rules, omega arith, join-allowed c.args.self.now _ _ _ _ (search rules) (search rules))

pub invariant_of-seat : goal.invariant_of-seat
invariant_of-seat c =
    let v = c.args.seat.now.seat.me.0 in
    let w = c.args.other.seat.me.0 in
    let u = c.join_seat.new.seat.me.0 in
    let me = c.join_seat.ensures.2 in
    let is : u ≡ after_join v w = ap (λ m. m.0) me in
    let live = c.args.seat.now.working in
    let share : u.share ≡ v.share = ap (λ (u : Worker). u.share) is in
    record {
      empty_handed = ap (λ m. m.1) me ∙ c.args.seat.now.empty_handed;
      working = omega arith;
      rows = c.args.seat.now.rows;
      flags = c.either_each-flags.ensures.rows;
      bits = c.args.seat.now.bits;
      spares_are = spares-same c.args.seat.now.spares v u (ap (λ (u : Worker). u.spare) is) c.args.seat.now.spares_are;
      dry_are = dry-join c.args.seat.now.dry c.args.other.dry c.either_each-flags.result v w u is c.args.seat.now.dry_are c.args.other.dry_are c.either_each-flags.ensures.each;
      bits_are = bits-join c.args.seat.now.last_bits v w u is c.args.seat.now.bits_are;
    }

pub returns-clause-own : goal.returns-clause-own
returns-clause-own c =
    let h = c.join_seat.ensures in
    record {
      at = record {
        table = h.0 ∙ c.requires.own.at.table;
        told = ap (λ m. m.0.told) h.2 ∙ c.requires.own.at.told;
        spare = λ l t has. c.requires.own.at.spare l t (subst (λ s. 0 < pairs l t s) (ap (λ m. m.0.spare) h.2) has);
      };
      inside = inside_join c.args.self.now c.args.seat.now.seat.me.0 c.args.other.seat.me.0 c.join_seat.new.seat.me.0 (ap (λ m. m.0) h.2) c.requires.own.inside c.requires.other.inside;
    }
