use Rattle.std.proofs.Common.{◌≡◌, vec_len}
use Rattle.std.specs.List.{All}
use Rattle.sg_store.specs.steps.Fresh.{IsZeroRow}
use Rattle.sg_store.proofs.fresh.zero_rows.Given as goal

abbrev pub invariant-loop-field : goal.invariant-loop-field
invariant-loop-field l = (vec_len l.rows ≡ l._field) × All (IsZeroRow l.cells) l.rows.items
