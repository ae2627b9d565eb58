use Rattle.std.proofs.Common.{◌≡◌}
use Rattle.std.specs.Prelude.{drop}
use Rattle.sg_snapshot.specs.Parts.{frames_of, parts_read}
use Rattle.sg_snapshot.proofs.Fronts.{parts_left}
use Rattle.sg_snapshot.proofs.reading.parts_read.Given as goal

abbrev pub invariant-loop-layout : goal.invariant-loop-layout
invariant-loop-layout l = parts_left l.read (parts_read (frames_of (drop l.layout-index l.layouts)) l.rest) ≡ parts_read (frames_of l.layouts) l.numbers
