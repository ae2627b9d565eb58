use Rattle.std.proofs.Common.{rules, ◌<◌, sym, ap, ◌∙◌, subst, arith}
use Rattle.sg_words.specs.Counts.{pairs}
use Rattle.sg_words.specs.RaceMachine.{after_join}
use Rattle.sg_hash.proofs.Searches.{full-joins, others-same, beside-joined, linked-joined}
use Rattle.sg_hash.proofs.Passes.{join-allowed}
use Rattle.sg_words.proofs.Uses.{dry-join}
use Rattle.sg_hash.proofs.seat.HashPass.join.Goals as goal

pub join_seat-requires : goal.join_seat-requires
join_seat-requires c =
    let sized = c.args.self.now.sized in
    (search rules, search rules, search rules, omega arith, join-allowed c.args.self.now _ _ _ _ (search rules) (search rules))

pub invariant_of-seat-clause-dries : goal.invariant_of-seat-clause-dries
invariant_of-seat-clause-dries c = c.either-seat.ensures ∙ dry-join c.args.seat.now.seat.me.0 c.args.other.seat.me.0 _ _ c.args.seat.now.dries c.args.other.dries ∙ sym (ap (λ m. Rattle.sg_words.specs.Stocks.is_dry m.0) c.join_seat.ensures.2)

pub returns-clause-own : goal.returns-clause-own
returns-clause-own c =
    let h = c.join_seat.ensures in
    record {
      at = record {
        table = h.0 ∙ c.requires.own.at.table;
        told = ap (λ m. m.0.told) h.2 ∙ c.requires.own.at.told;
        spare = λ t has. c.requires.own.at.spare t (subst (λ l. 0 < pairs 0 t l) (ap (λ m. m.0.spare) h.2) has);
      };
      others = λ is. let o = full-joins _ c.args.seat.now.seat.me.0 c.args.other.seat.me.0 c.args.seat.now.full c.args.other.full _ c.either-seat-2.ensures c.requires.own.others c.requires.other.others is in
          (o.0, others-same _ o.0 _ (after_join c.args.seat.now.seat.me.0 c.args.other.seat.me.0) c.join_seat.new.seat.me.0 (ap (λ m. m.0.keys) h.2) o.1);
      beside = beside-joined c.args.seat.now.seat.me.0 c.args.other.seat.me.0 c.join_seat.new.seat.me.0 (ap (λ m. m.0.made) h.2) (ap (λ m. m.0.keys) h.2) c.requires.own.beside c.requires.other.beside;
      linked = linked-joined c.args.seat.now.seat.me.0 c.args.other.seat.me.0 c.join_seat.new.seat.me.0 (ap (λ m. m.0) h.2) c.requires.own.linked c.requires.other.linked;
    }
