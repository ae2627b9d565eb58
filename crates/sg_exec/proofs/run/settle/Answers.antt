use Rattle.std.proofs.Common.{◌≡◌, ◌<◌, Some, None, Option, length, refl, sym, ap, ◌∙◌, arith}
use Rattle.std.specs.Prelude.{slice_get, slice_set}
use Rattle.std.proofs.lemmas.Option.{slice_get_read}
use Rattle.sg_store.specs.StoreWords.{StoreWords}
use Rattle.sg_exec.specs.steps.Landing.{current}
use Rattle.sg_exec.proofs.Settling.{settled_placed, placed_long, settled_all, none_further, set_long}
use Rattle.sg_exec.proofs.run.settle.Goals as goal

pub loop-number-preserved : goal.loop-number-preserved
loop-number-preserved c =
    let copies = c.loop-number.copies.items in
    let stores = c.loop-number.stores.list in
    let number = c.loop-number.number in
    let count = c.loop-number.invariant.count in
    let long = c.loop-number.invariant.long in
    let below : number < length copies = omega arith in
    let lengths : length copies ≡ length stores = omega arith in
    let at : slice_get copies number ≡ Some c.take-copy.result = slice_get_read copies (length copies) number c.index_mut-slot.result.now refl below c.index_mut-slot.ensures.value ∙ ap Some (sym c.take-copy.ensures.value) in
    record {
      count = set_long copies number c.take-copy.new.self ∙ count;
      long = ap length c.place.ensures ∙ placed_long stores number c.take-copy.result ∙ long;
      same = ap (λ (copy : Option StoreWords). current (slice_set copies number copy) c.place.new.stores.list) c.take-copy.ensures.after
          ∙ ap (current (slice_set copies number None)) c.place.ensures ∙ settled_placed copies stores number c.take-copy.result at lengths ∙ c.loop-number.invariant.same;
      none = λ j low. ap (λ (copy : Option StoreWords). slice_get (slice_set copies number copy) j) c.take-copy.ensures.after ∙ none_further copies number c.loop-number.invariant.none below j low;
    }

pub returns : goal.returns
returns c =
    let count = c.loop-number.invariant.count in
    let long = c.loop-number.invariant.long in
    let lengths : length c.loop-number.copies.items ≡ length c.loop-number.stores.list = omega arith in
    sym (settled_all c.loop-number.copies.items c.loop-number.stores.list lengths (λ j low. c.loop-number.invariant.none j (omega arith))) ∙ c.loop-number.invariant.same
