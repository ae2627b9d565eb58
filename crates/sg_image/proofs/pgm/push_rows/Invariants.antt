use Rattle.std.proofs.Common.{◌≡◌, ◌++◌}
use Rattle.std.specs.Prelude.{string_bytes}
use Rattle.sg_image.specs.Pgm.{image_rows_text}
use Rattle.sg_image.specs.steps.Keeping.{kept_grey}
use Rattle.sg_image.proofs.pgm.push_rows.Given as goal

abbrev pub invariant-loop-row : goal.invariant-loop-row
invariant-loop-row l =
    string_bytes l.text ≡ string_bytes l.initial.text
    ++ image_rows_text l.width l.row (kept_grey l.store l.place l.shades.ty l.shades.lo l.shades.hi)
