use Rattle.std.proofs.Common.{rules, ◌<◌, refl, sym, ap, ◌∙◌, subst, arith}
use Rattle.atomic_table.specs.Table.{Me}
use Rattle.sg_words.specs.declared.race.Worker.{Worker}
use Rattle.sg_dynamic.proofs.Raises.{raise-allowed}
use Rattle.sg_dynamic.proofs.seat.LengthPass.raise.Goals as goal

pub fetch_max-requires : goal.fetch_max-requires
fetch_max-requires c =
    let sized = c.args.self.now.sized in
    let inside = c.requires.inside in
    (search rules, omega arith, raise-allowed c.args.self.now.lengths _ _ _ _ c.args.parent c.args.index _ c.args.self.now.told (search rules) inside refl)

pub returns-clause-worker : goal.returns-clause-worker
returns-clause-worker c = ap (λ m. m.0) (c.fetch_max.ensures.2 c.args.index refl)

pub invariant_of-seat : goal.invariant_of-seat
invariant_of-seat c =
    let me = c.fetch_max.ensures.2 c.args.index refl in
    let live = c.args.seat.now.working in
    record {
      empty_handed = ap (λ m. m.1) me ∙ c.args.seat.now.empty_handed;
      working = subst (λ (m : Me (Unit {0}) Worker). 0 < m.0.share) (sym me) live;
    }
