use Rattle.std.proofs.Common.{rules, ◌<◌, ap, ◌∙◌, subst, arith}
use Rattle.sg_words.specs.Counts.{pairs}
use Rattle.sg_activate.proofs.DescentCuts.{split-allowed, inside_split}
use Rattle.sg_activate.proofs.descent.seat.DescentPass.split.Goals as goal

pub split_seat-other-requires : goal.split_seat-other-requires
split_seat-other-requires c =
    let sized = c.args.self.now.sized in
    let some' = c.args.self.now.some in
    (search rules, omega arith, split-allowed c.args.self.now _ _ c.requires.share)

pub returns-clause-own : goal.returns-clause-own
returns-clause-own c =
    let h = c.split_seat-other.ensures in
    record {
      at = record {
        table = h.0 ∙ c.requires.own.at.table;
        told = ap (λ m. m.0.told) h.2 ∙ c.requires.own.at.told;
        spare = λ l t has. c.requires.own.at.spare l t (subst (λ s. 0 < pairs l t s) (ap (λ m. m.0.spare) h.2) has);
      };
      inside = inside_split c.args.self.now c.args.seat.now.seat.me.0 c.split_seat-other.new.seat.me.0 (ap (λ m. m.0) h.2) c.requires.own.inside;
    }
