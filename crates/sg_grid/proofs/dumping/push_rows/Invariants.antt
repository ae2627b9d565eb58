use Rattle.std.proofs.Common.{◌≡◌, ◌++◌, map, take}
use Rattle.std.specs.Prelude.{string_bytes}
use Rattle.sg_grid.specs.GridText.{rows_text}
use Rattle.sg_grid.specs.steps.Keeping.{kept_row}
use Rattle.sg_grid.proofs.dumping.push_rows.Given as goal

abbrev pub invariant-loop-at : goal.invariant-loop-at
invariant-loop-at l =
    string_bytes l.text ≡ string_bytes l.initial.text ++ rows_text l.ty (map (kept_row l.store l.place) (take l.at-index l.coords))
