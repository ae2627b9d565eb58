use Rattle.std.proofs.Common.{take}
use Rattle.sg_store.specs.steps.KeptWords.{HasWords}
use Rattle.sg_store.proofs.valued.cell_row.Given as goal

abbrev pub invariant-loop-field : goal.invariant-loop-field
invariant-loop-field l = HasWords (take l.field-index l.fields) l.row
