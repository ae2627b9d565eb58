use Rattle.std.proofs.lemmas.Option.{slice_get_read, slice_get_within}
use Rattle.std.proofs.Common.{◌<◌, length, refl, arith, ◌≡◌, ◌∷◌, [], Some, List, sym, subst}
use Rattle.std.specs.Prelude.{slice_get, unwrap_or}
use Rattle.sg_store.specs.StoreWords.{StoreWords}
use Rattle.sg_exec.specs.steps.Landing.{current, Lands}
use Rattle.sg_exec.proofs.Going.{on_ok}
use Rattle.sg_exec.proofs.StoresLanded.{lands_one, lands_past, current_at, current_set, no_current}
use Rattle.sg_exec.specs.steps.Made.{HaveTrees}
use Rattle.sg_exec.proofs.TreesKept.{trees_itself, trees_set}
use Rattle.sg_exec.proofs.results.landing.land.Goals as goal

pub returns-in_default-clause-lands : goal.returns-in_default-clause-lands
returns-in_default-clause-lands c =
    lands_past (current c.args.copies.now.items c.args.stores.now.list) c.args.write.now
    (no_current c.args.copies.now.items c.args.stores.now.list c.args.write.now.layout (sym c.in_default.ensures.value))

pub returns-clause-lands : goal.returns-clause-lands
returns-clause-lands c =
    let copies = c.args.copies.now.items in
    let stores = c.args.stores.now.list in
    let write = c.args.write.now in
    let store = c.in-Some.store.now in
    let is : slice_get stores write.layout ≡ Some store = sym c.in-Some.ensures.value in
    let slot : slice_get copies write.layout ≡ Some c.index_mut-slot.result.now =
    slice_get_read copies (length copies) write.layout c.index_mut-slot.result.now refl (let below : write.layout < length stores = slice_get_within stores write.layout store is in let room = c.requires.room in omega arith) c.index_mut-slot.ensures.value in
    let old = unwrap_or c.index_mut-slot.result.now store in
    let now = unwrap_or c.land_in.new.slot store in
    on_ok _ _ c.land_in.result (λ lands.
    subst (λ (after : List StoreWords). Lands (current copies stores) after (write ∷ []))
    (sym (current_set copies stores write.layout c.land_in.new.slot store c.requires.room is))
    (lands_one (current copies stores) old now write (current_at copies stores write.layout c.index_mut-slot.result.now store slot is) c.land_in.ensures.shape lands)) c.land_in.ensures.lands

pub returns-in_default-clause-trees : goal.returns-in_default-clause-trees
returns-in_default-clause-trees c = trees_itself (current c.args.copies.now.items c.args.stores.now.list)

pub returns-clause-trees : goal.returns-clause-trees
returns-clause-trees c =
    let copies = c.args.copies.now.items in
    let stores = c.args.stores.now.list in
    let write = c.args.write.now in
    let store = c.in-Some.store.now in
    let is : slice_get stores write.layout ≡ Some store = sym c.in-Some.ensures.value in
    subst (λ (after : List StoreWords). HaveTrees (current copies stores) after)
    (sym (current_set copies stores write.layout c.land_in.new.slot store c.requires.room is))
    (trees_set (current copies stores) write.layout (unwrap_or c.index_mut-slot.result.now store) (unwrap_or c.land_in.new.slot store)
    (current_at copies stores write.layout c.index_mut-slot.result.now store (slice_get_read copies (length copies) write.layout c.index_mut-slot.result.now refl (let below : write.layout < length stores = slice_get_within stores write.layout store is in let room = c.requires.room in omega arith) c.index_mut-slot.ensures.value) is)
    c.land_in.ensures.same)
