use Rattle.std.proofs.Common.{◌≡◌}
use Rattle.sg_store.specs.steps.KeptWords.{in_row, last_kept, keeps_cell}
use Rattle.sg_store.proofs.kept_lengths.keep_length.Given as goal

abbrev pub invariant-loop-index : goal.invariant-loop-index
invariant-loop-index l = l.long ≡ last_kept (keeps_cell l.chains l.chunk (in_row l.row) l.parent) l.index
