use Rattle.std.proofs.Common.{rules, ◌<◌, nat_lt, refl, sym, ap, ◌∙◌, subst, arith}
use Rattle.sg_words.specs.Counts.{pairs, firsts}
use Rattle.sg_hash.proofs.Passes.{split-allowed}
use Rattle.sg_hash.proofs.Searches.{full-grows, beside-kept, linked-kept}
use Rattle.sg_hash.proofs.seat.HashPass.split.Goals as goal

pub split_seat-other-requires : goal.split_seat-other-requires
split_seat-other-requires c =
    let sized = c.args.self.now.sized in
    (search rules, omega arith, split-allowed c.args.self.now _ _ c.requires.share)

pub returns-clause-own : goal.returns-clause-own
returns-clause-own c =
    let h = c.split_seat-other.ensures in
    record {
      at = record {
        table = h.0 ∙ c.requires.own.at.table;
        told = ap (λ m. m.0.told) h.2 ∙ c.requires.own.at.told;
        spare = λ t has. c.requires.own.at.spare t (subst (λ l. 0 < pairs 0 t l) (ap (λ m. m.0.spare) h.2) has);
      };
      others = full-grows _ c.args.seat.now.seat.me.0 c.split_seat-other.new.seat.me.0 c.args.seat.now.full c.args.seat.now.full refl
          (λ p k has. subst (λ l. 0 < pairs p k l) (sym (ap (λ m. m.0.keys) h.2)) has) c.requires.own.others;
      beside = beside-kept c.args.seat.now.seat.me.0 c.split_seat-other.new.seat.me.0 (ap (λ m. m.0.made) h.2)
          (λ p k has. subst (λ l. 0 < pairs p k l) (sym (ap (λ m. m.0.keys) h.2)) has) c.requires.own.beside;
      linked = linked-kept c.args.seat.now.seat.me.0 c.split_seat-other.new.seat.me.0 (ap (λ m. m.0.put) h.2) (λ p k has. subst (λ l. 0 < pairs p k l) (sym (ap (λ m. m.0.keys) h.2)) has)
          (λ p n has. subst (λ l. 0 < pairs p n l) (sym (ap (λ m. m.0.seen) h.2)) has) (λ d. ap (λ m. nat_lt 0 (firsts 0 m.0.past)) h.2 ∙ d) c.requires.own.linked;
    }
