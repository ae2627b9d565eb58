use Rattle.std.proofs.Common.{rules, ◌≡◌, ◌+◌, ◌/◌, ap, sym, ◌∙◌, arith}
use Rattle.std.specs.Prelude.{slice_index}
use Rattle.sg_words.specs.declared.race.Worker.{Worker}
use Rattle.sg_words.specs.RaceMachine.{after_mark}
use Rattle.sg_activate.proofs.DescentMores.{mark-more, bits-more}
use Rattle.sg_activate.proofs.DescentPasses.{mark-allowed}
use Rattle.sg_activate.proofs.DescentViews.{spares-same, dry-same}
use Rattle.sg_activate.proofs.descent.seat.DescentPass.mark.Goals as goal

pub fetch_or-requires : goal.fetch_or-requires
fetch_or-requires c =
    let sized = c.args.self.now.sized in
    let inside = c.requires.inside in
    let links = c.len.ensures in
    (search rules, omega arith, mark-allowed c.args.self.now _ _ _ c.args.bit _ _ (ap (λ n. n + c.args.bit / 64) c.len.ensures) c.power_of-power.ensures (search rules) c.requires.own.told c.requires.inside c.requires.known)

pub invariant_of-seat : goal.invariant_of-seat
invariant_of-seat c =
    let v = c.args.seat.now.seat.me.0 in
    let w = c.fetch_or.new.seat.me.0 in
    let at = ap (λ n. n + c.args.bit / 64) (c.len.ensures ∙ sym (ap (λ t. slice_index t 0) c.requires.own.told)) in
    let me = c.fetch_or.ensures.2 c.args.bit at c.power_of-power.ensures in
    let is : w ≡ after_mark c.args.bit v = ap (λ m. m.0) me in
    let live = c.args.seat.now.working in
    let share : w.share ≡ v.share = ap (λ (u : Worker). u.share) is in
    record {
      empty_handed = ap (λ m. m.1) me ∙ c.args.seat.now.empty_handed;
      working = omega arith;
      rows = c.args.seat.now.rows;
      flags = c.args.seat.now.flags;
      bits = c.args.seat.now.bits;
      spares_are = spares-same c.args.seat.now.spares v w (ap (λ (u : Worker). u.spare) is) c.args.seat.now.spares_are;
      dry_are = dry-same c.args.seat.now.dry v w (ap (λ (u : Worker). u.past) is) c.args.seat.now.dry_are;
      bits_are = bits-more c.args.seat.now.last_bits v w (mark-more c.args.bit v w is) c.args.seat.now.bits_are;
    }
