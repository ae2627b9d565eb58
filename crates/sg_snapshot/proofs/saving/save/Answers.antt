use Rattle.std.proofs.Common.{◌≡◌, ◌++◌, ◌∷◌, ℕ, List, length, sym, ap, ◌∙◌, subst, codes}
use Rattle.sg_store.specs.Standing.{StandForState, shapes_of}
use Rattle.sg_store.specs.StoreWords.{StoreWords}
use Rattle.sg_snapshot.specs.Numbers.{number_bytes, bytes_of}
use Rattle.sg_snapshot.specs.Parts.{parts_numbers}
use Rattle.sg_snapshot.specs.Image.{parts_of}
use Rattle.sg_snapshot.proofs.Writings.{image_begins, store_more, stores_end, image_ends}
use Rattle.sg_snapshot.proofs.saving.save.Goals as goal

pub loop-store-init : goal.loop-store-init
loop-store-init c = λ flats are.
    let mark : c.extend_from_slice.new.self.items ≡ codes "SGS1" = c.in_ok-extend_from_slice.ensures.items ∙ ap (λ (l : List ℕ). l ++ codes "SGS1") c.new-bytes.ensures.items in
    image_begins c.as_slice-list.result.now flats c.in_ok-many.many c.push_number.new.bytes.items c.in_ok-many.ensures
    (c.in_ok-push_number.ensures ∙ ap (λ (l : List ℕ). l ++ number_bytes c.in_ok-many.many) mark)

pub loop-store-preserved : goal.loop-store-preserved
loop-store-preserved c = λ flats are.
    let list = c.as_slice-list.result.now in
    store_more list flats c.loop-store.store-index c.store-item.result c.loop-store.bytes.items c.push_part.new.bytes.items (codes "SGS1" ++ bytes_of (length list ∷ parts_numbers (parts_of (shapes_of list) flats))) are
    c.loop-store-test.true c.store-item.is c.in_ok-push_part.ensures (c.loop-store.invariant flats are)

pub returns : goal.returns
returns c = λ state stands.
    let list = c.as_slice-list.result.now in
    let shapes = c.args.layouts.now.list in
    let are : StandForState shapes list state = subst (λ (l : List StoreWords). StandForState shapes l state) (sym c.as_slice-list.ensures) stands in
    c.from_vec.ensures
    ∙ image_ends shapes list state c.loop-store.bytes.items are
    (stores_end list state.layouts c.loop-store.store-index c.loop-store.bytes.items (codes "SGS1" ++ bytes_of (length list ∷ parts_numbers (parts_of (shapes_of list) state.layouts))) c.loop-store-test.false
    (c.loop-store.invariant state.layouts are.stand))
