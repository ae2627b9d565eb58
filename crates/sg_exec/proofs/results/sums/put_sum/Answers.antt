use Rattle.std.proofs.Common.{◌<◌, ◌^◌, ℕ, List, sym, subst}
use Rattle.std.specs.Prelude.{slice_index}
use Rattle.std.specs.List.{concat}
use Rattle.sg_flat.proofs.Uses.{RunLaws}
use Rattle.sg_store.specs.Rows.{SetsRow}
use Rattle.sg_store.proofs.Uses.{cell_is_reached}
use Rattle.sg_exec.specs.steps.Landing.{landed_layout}
use Rattle.sg_exec.specs.steps.Passes.{into_field}
use Rattle.sg_exec.specs.steps.Made.{words_of}
use Rattle.sg_exec.proofs.SumsPut.{sum_sets}
use Rattle.sg_exec.proofs.results.sums.put_sum.Goals as goal

pub returns-clause-lands : goal.returns-clause-lands
returns-clause-lands c = λ stores base writes is at tree fresh flat stands active.
    let copy = c.args.store.now in
    let sum = c.args.sum.now in
    let shape = copy.shape in
    let coords = c.numbering.ensures in
    let well = c.layout.ensures.well_formed in
    let laws : RunLaws shape = record {
      inside_test = coords.inside_test;
      point_inside = coords.point_inside;
      point_of_row = coords.point_of_row;
      extends = c.closure_closes.ensures.extends shape;
      closed = c.closure_closes.ensures.closed shape;
    } in
    let low = subst (λ (parts : List (List ℕ)). (k : ℕ) → slice_index (concat parts) k < 2 ^ 32) c.as_slice-parts.ensures.value c.are_low.ensures in
    let now = landed_layout sum.layout shape flat (into_field sum.layout sum.field writes) in
    c.set_field_front.ensures.stands flat now stands
    (subst (λ (parts : List (List ℕ)). SetsRow copy flat now sum.field (concat parts)) (sym c.as_slice-parts.ensures.value) (sum_sets stores sum.layout sum.field (words_of sum) writes is base copy at tree fresh low laws coords.row_below (c.closure_members.ensures.of_members shape) (c.closure_members.ensures.inside shape)
    (c.cells_are_active.ensures.active copy) (c.cells_are_active.ensures.differ copy) well flat stands active
    (λ x cell e. cell_is_reached copy (c.paths_tell.ensures.is_slot shape) (c.paths_tell.ensures.whole shape) well x cell e)))
