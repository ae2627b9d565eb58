use Rattle.sg_layout.specs.declared.shape.Shape.{Shape}
use Rattle.sg_store.proofs.ActiveCells.{CellLaws}
use Rattle.sg_store.proofs.OneFlat as lemmas
use Rattle.sg_store.proofs.laws.stands_for_one.Goals as goal

cells_of : goal.After-last_sparse_decides → (shape : Shape) → CellLaws shape
cells_of c shape = record {
  inside = c.numbering.ensures.inside_test;
  tested = c.closure_members.ensures.tested shape;
  is_slot = c.paths_tell.ensures.is_slot shape;
  whole = c.paths_tell.ensures.whole shape;
  tells = c.paths_tell.ensures.tells shape;
  last = c.last_sparse_decides.ensures.last shape;
}

laws_of : goal.After-last_sparse_decides → (shape : Shape) → lemmas.FlatLaws shape
laws_of c shape = record {
  cells = cells_of c shape;
  of_members = c.closure_members.ensures.of_members shape;
  point_inside = c.numbering.ensures.point_inside;
  row_of_point = c.numbering.ensures.row_of_point;
}

pub returns : goal.returns
returns c = λ store well. lemmas.stands_for_one store (laws_of c store.shape) well
