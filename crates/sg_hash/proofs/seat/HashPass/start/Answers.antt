use Rattle.std.proofs.Common.{◌<◌, [], ap, ◌∙◌, subst, arith}
use Rattle.std.proofs.lemmas.Bool.{false≢true}
use Rattle.sg_words.specs.Counts.{times_in, pairs}
use Rattle.sg_hash.proofs.Starts.{opened, all-words}
use Rattle.sg_hash.proofs.seat.HashPass.start.Goals as goal

pub of_words-requires : goal.of_words-requires
of_words-requires c =
    opened (record { keys = c.args.keys; links = c.args.links; stock = c.args.stock }) c.as_slice-4.result.now c.requires.table c.requires.many
    (c.as_slice-4.ensures ∙ c.in_ok-push-2.ensures.ok ∙ all-words c.args.links c.args.keys c.loop-i.words c.loop-i.i c.loop-i.invariant (omega arith))

pub returns-clause-seat : goal.returns-clause-seat
returns-clause-seat c =
    let h = c.in_ok-table.ensures in
    record {
      at = record {
        table = h.2;
        told = ap (λ m. m.0.told) h.4;
        spare = λ t has. absurd (let none : 0 < pairs 0 t [] = subst (λ l. 0 < pairs 0 t l) (ap (λ m. m.0.spare) h.4) has in omega arith);
      };
      others = λ is. absurd (false≢true is);
      beside = λ p t has. absurd (let none : 0 < pairs p t [] = subst (λ l. 0 < pairs p t l) (ap (λ m. m.0.made) h.4) has in omega arith);
      linked = λ k has. absurd (let none : 0 < times_in k [] = subst (λ l. 0 < times_in k l) (ap (λ m. m.0.put) h.4) has in omega arith);
    }
