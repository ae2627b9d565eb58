-- The cells of a field.
use Rattle.std.proofs.Common.{◌≡◌, ℕ, suc, ◌+◌, ◌*◌, ◌<◌, List, length, refl, ap, ◌∙◌, sym}
use Rattle.std.specs.Prelude.{slice_index}
use Rattle.sg_coord.specs.Laws.{InsideTest}
use Rattle.sg_layout.specs.PathLaws.{SlotIsPath}
use Rattle.sg_layout.specs.Slots.{coordinate_of}
use Rattle.sg_store.specs.declared.spot.Spot.{Spot}
use Rattle.sg_store.specs.declared.frame.NodeWidths.{NodeWidths}
use Rattle.sg_store.specs.StoreWords.{StoreWords, word_in}
use Rattle.sg_store.specs.WellFormed.{IsWellFormed}
use Rattle.sg_store.specs.Spots.{width_after}
use Rattle.sg_store.specs.FieldCells.{IsLastSpot, AreCellsOf}
use Rattle.sg_store.specs.steps.Widths.{IsWidths}
use Rattle.sg_store.proofs.SpotCells.{IsLast, last_cell, last_small}

-- a spot after the last node, by the widths of that node
last_of : (store : StoreWords) (index : ℕ) (widths : NodeWidths) (spot : Spot) (path : List ℕ) → IsWellFormed store → IsWidths store.shape.nodes index widths → suc index ≡ length store.shape.nodes → IsLastSpot store spot path
    → IsLast store spot path widths.after (spot.part * widths.after + spot.slot)
last_of store index widths spot path well is end last = record {
  well = well;
  leads = last.leads;
  whole = last.last;
  wide = is.after_is ∙ ap (width_after store.shape.nodes) (end ∙ sym last.last);
  placed = refl;
}

pub are_cells : (store : StoreWords) (place index : ℕ) (widths : NodeWidths) (words : List ℕ) → IsWellFormed store → SlotIsPath store.shape → InsideTest → IsWidths store.shape.nodes index widths → suc index ≡ length store.shape.nodes
    → place < length store.shape.fields → ((cell : ℕ) → slice_index words cell ≡ word_in store place cell) → AreCellsOf store place widths.after words
are_cells store place index widths words well paths inside is end field same = record {
  width_is = is.after_is ∙ ap (width_after store.shape.nodes) end;
  words_are = same;
  few = λ spot path last. last_small store spot path widths.after _ (last_of store index widths spot path well is end last);
  values = λ flat stands spot path last.
      same (spot.part * widths.after + spot.slot)
      ∙ stands.values (coordinate_of store.shape path) (spot.part * widths.after + spot.slot) (last_cell store spot path widths.after _ paths inside (last_of store index widths spot path well is end last)) place field;
}
