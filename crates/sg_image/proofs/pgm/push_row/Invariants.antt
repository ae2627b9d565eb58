use Rattle.std.proofs.Common.{◌≡◌, [], ◌∷◌, ◌++◌, decimal}
use Rattle.std.specs.Prelude.{string_bytes}
use Rattle.sg_image.specs.Pgm.{texts_below, behind}
use Rattle.sg_image.specs.steps.Keeping.{kept_grey}
use Rattle.sg_image.proofs.pgm.push_row.Given as goal

abbrev pub invariant-loop-column : goal.invariant-loop-column
invariant-loop-column l =
    string_bytes l.text ≡ string_bytes l.initial.text
    ++ texts_below l.column (λ column. decimal (kept_grey l.store l.place l.shades.ty l.shades.lo l.shades.hi l.row column) ++ behind l.width column ∷ [])
