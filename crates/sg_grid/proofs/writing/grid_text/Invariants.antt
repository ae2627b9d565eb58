use Rattle.std.proofs.Common.{◌≡◌, ◌∷◌, ◌++◌, length, take, decimal}
use Rattle.std.specs.Prelude.{string_bytes}
use Rattle.sg_grid.specs.GridText.{grid_head, rows_text}
use Rattle.sg_grid.proofs.writing.grid_text.Given as goal

abbrev pub invariant-loop-row : goal.invariant-loop-row
invariant-loop-row l =
    string_bytes l.text ≡ grid_head l.fn.axes ++ decimal (length l.rows) ++ 10 ∷ rows_text l.ty (take l.row-index l.rows)
