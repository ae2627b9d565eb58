use Rattle.std.proofs.Common.{ℕ, ◌/◌, ◌%◌, ap, ◌∙◌}
use Rattle.std.specs.Prelude.{slice_set}
use Rattle.sg_store.specs.Slots.{mask_bit}
use Rattle.sg_store.proofs.Marking.{marked, with_bit}
use Rattle.sg_store.proofs.mask.mark.Goals as goal

pub returns-clause-bits : goal.returns-clause-bits
returns-clause-bits c = λ bit.
    let set = c.set.ensures ∙ ap (λ (w : ℕ). slice_set c.args.masks.now (c.args.number / 64) (with_bit w (c.args.number % 64))) c.get-word.ensures in
    ap (λ masks. mask_bit masks bit) set ∙ marked c.args.masks.now c.args.number bit c.requires
