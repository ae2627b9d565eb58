use Rattle.sg_layout.specs.declared.shape.Shape.{Shape}
use Rattle.sg_store.proofs.ActiveCells as lemmas
use Rattle.sg_store.proofs.laws.cells_are_active.Goals as goal

laws_of : goal.After-last_sparse_decides → (shape : Shape) → lemmas.CellLaws shape
laws_of c shape = record {
  inside = c.numbering.ensures.inside_test;
  tested = c.closure_members.ensures.tested shape;
  is_slot = c.paths_tell.ensures.is_slot shape;
  whole = c.paths_tell.ensures.whole shape;
  tells = c.paths_tell.ensures.tells shape;
  last = c.last_sparse_decides.ensures.last shape;
}

pub returns-clause-active : goal.returns-clause-active
returns-clause-active c = λ store well flat stands. lemmas.cells_are_active store flat (laws_of c store.shape) well stands

pub returns-clause-differ : goal.returns-clause-differ
returns-clause-differ c = λ store well. lemmas.cells_apart store (laws_of c store.shape) well
