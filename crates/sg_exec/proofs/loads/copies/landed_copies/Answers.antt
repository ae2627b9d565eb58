use Rattle.std.proofs.Common.{◌≡◌, ℕ, List, Option, length, get_or, Some, refl, sym, arith}
use Rattle.std.specs.Prelude.{slice_get}
use Rattle.std.proofs.lemmas.Option.{slice_get_read, slice_get_within}
use Rattle.sg_store.specs.StoreWords.{StoreWords}
use Rattle.sg_exec.specs.Runs.{writes_of_runs}
use Rattle.sg_exec.proofs.Covered.{CoverLaws}
use Rattle.sg_exec.proofs.RowsLand.{run_layout}
use Rattle.sg_exec.proofs.RunsLoaded.{rows_ran, rows_links}
use Rattle.sg_exec.proofs.loads.copies.landed_copies.Goals as goal

-- the copy that the rows land in is that of the store
slot_is : (stores : List StoreWords) (copies : List (Option StoreWords)) (layout : ℕ) (store : StoreWords) (slot : Option StoreWords) → slice_get stores layout ≡ Some store
    → length copies ≡ length stores → slot ≡ get_or copies layout slot → slice_get copies layout ≡ Some slot
slot_is stores copies layout store slot there room read =
    slice_get_read copies (length copies) layout slot refl (omega (arith, slice_get_within stores layout store there, room)) read

pub returns-then-all-clause-ran : goal.returns-then-all-clause-ran
returns-then-all-clause-ran c = λ state all.
    let stores = c.args.stores.now.list in
    let copies = c.args.copies.items in
    let store = c.in-Some.store.now in
    let slot = c.index_mut-slot.result.now in
    let there : slice_get stores c.args.layout ≡ Some store = sym c.in-Some.ensures.value in
    let laws : CoverLaws = record {
      test = c.numbering.ensures.inside_test;
      inside = c.closure_members.ensures.inside;
      of_members = c.closure_members.ensures.of_members;
      extends = c.closure_closes.ensures.extends;
      absorbs = c.closure_closes.ensures.absorbs;
      full_of = c.need_grows.ensures.full;
      full_absorbs = c.need_absorbs.ensures.full;
    } in
    rows_ran stores copies (writes_of_runs c.args.layout c.args.place c.args.runs.now) c.args.layout store slot c.land_runs_in.new.slot c.requires.asked there
    (slot_is stores copies c.args.layout store slot there c.requires.room c.index_mut-slot.ensures.value)
    (c.in_ok-all.ensures.lands c.if-all.true) laws (run_layout c.args.layout c.args.place c.args.runs.now) state all

pub returns-then-all-clause-links : goal.returns-then-all-clause-links
returns-then-all-clause-links c =
    let stores = c.args.stores.now.list in
    let copies = c.args.copies.items in
    let store = c.in-Some.store.now in
    let slot = c.index_mut-slot.result.now in
    let there : slice_get stores c.args.layout ≡ Some store = sym c.in-Some.ensures.value in
    rows_links stores copies (writes_of_runs c.args.layout c.args.place c.args.runs.now) c.args.layout store slot c.land_runs_in.new.slot c.requires.asked there
    (slot_is stores copies c.args.layout store slot there c.requires.room c.index_mut-slot.ensures.value)
    (c.in_ok-all.ensures.lands c.if-all.true)
