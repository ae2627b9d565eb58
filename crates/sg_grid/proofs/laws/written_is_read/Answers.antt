use Rattle.sg_grid.specs.GridText.{grid_text}
use Rattle.std.proofs.Common.{refl, inl}
use Rattle.sg_grid.proofs.laws.written_is_read.Goals as goal

pub returns : goal.returns
returns c bounds type small rows are few short =
    (c.grid_texts_are_read.ensures bounds type small rows (grid_text bounds.n type rows)).1 (inl (record { are_rows = are; few_rows = few; text = refl; few_bytes = short }))
