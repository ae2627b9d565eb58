use Rattle.std.proofs.Common.{suc, ◌+◌, length, sym, ap, ◌∙◌, subst}
use Rattle.sg_words.specs.Stocks.{AreLinks}
use Rattle.sg_activate.specs.steps.DescentEnds.{slots_of_node}
use Rattle.sg_activate.proofs.DescentTaken.{all_taken, over_full, same_long, small_slots}
use Rattle.sg_activate.proofs.descent.ended.Ended.numbers_at.Goals as goal

pub taken_numbers-requires-clause-long : goal.taken_numbers-requires-clause-long
taken_numbers-requires-clause-long c =
    let e = c.args.self.now in
    let number = suc (e.base + c.args.index) in
    same_long e.start number c.as_slice.result.now c.as_slice-2.result.now c.slots-old.result.now c.slots-new.result.now c.slots-old.ensures c.slots-new.ensures
    (ap length c.as_slice-2.ensures ∙ e.long ∙ sym (ap length c.as_slice.ensures))

pub taken_numbers-requires-clause-links : goal.taken_numbers-requires-clause-links
taken_numbers-requires-clause-links c =
    let e = c.args.self.now in
    let number = suc (e.base + c.args.index) in
    small_slots e.start number c.as_slice-2.result.now c.slots-new.result.now c.slots-new.ensures (subst AreLinks (sym c.as_slice-2.ensures) e.small)

pub returns-then-fits-clause-taken : goal.returns-then-fits-clause-taken
returns-then-fits-clause-taken c =
    let e = c.args.self.now in
    let number = suc (e.base + c.args.index) in
    all_taken e.start e.base e.levels e.levels_are e.links c.args.index c.requires.there c.slots-old.result.now c.slots-new.result.now c.in_ok-taken.taken c.len.result c.in_ok-taken.ensures
    (c.slots-old.ensures ∙ ap (slots_of_node e.start number) c.as_slice.ensures) (c.slots-new.ensures ∙ ap (slots_of_node e.start number) c.as_slice-2.ensures) c.len.ensures (sym c.fits.ensures ∙ c.if-fits.true)

pub returns-clause-full : goal.returns-clause-full
returns-clause-full c =
    let e = c.args.self.now in
    let number = suc (e.base + c.args.index) in
    over_full e.start e.base e.levels e.levels_are e.links c.args.index c.requires.there c.args.store.now c.slots-old.result.now c.slots-new.result.now c.in_ok-taken.taken c.len.result c.number-node.result c.cap_at-cap.result
    c.requires.same c.requires.pointer c.in_ok-taken.ensures
    (c.slots-old.ensures ∙ ap (slots_of_node e.start number) c.as_slice.ensures) (c.slots-new.ensures ∙ ap (slots_of_node e.start number) c.as_slice-2.ensures) c.len.ensures (sym c.fits.ensures ∙ c.if-fits.false)
    c.number-node.ensures c.cap_at-cap.ensures
