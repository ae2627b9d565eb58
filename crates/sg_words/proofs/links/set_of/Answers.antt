use Rattle.std.proofs.Common.{true, false, length, refl, ap, ◌∙◌, arith}
use Rattle.std.proofs.lemmas.List.{length-set}
use Rattle.std.specs.Prelude.{slice_index, slice_index_or}
use Rattle.sg_words.proofs.LinkLoops.{number-more, set-more}
use Rattle.sg_words.proofs.links.set_of.Goals as goal

pub loop-number-preserved : goal.loop-number-preserved
loop-number-preserved c =
    let numbers = c.args.numbers.now in
    let number = slice_index numbers c.loop-number.number-index in
    let below = c.places_for-places.ensures c.loop-number.number-index c.loop-number-test.true in
    let long = c.loop-number.invariant.long in
    record {
      long = ap length c.set.ensures ∙ length-set c.loop-number.set number true ∙ long;
      stand = λ x. number-more numbers c.loop-number.number-index x number (slice_index_or c.loop-number.set x false) (slice_index_or c.set.new.self x false) c.loop-number-test.true refl
          (ap (λ l. slice_index_or l x false) c.set.ensures ∙ set-more c.loop-number.set number x (omega arith)) (c.loop-number.invariant.stand x);
    }
