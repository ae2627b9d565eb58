use Rattle.std.proofs.Common.{◌≡◌, take, true, false}
use Rattle.std.specs.List.{list_all}
use Rattle.sg_ir.specs.WellTyped.{reads}
use Rattle.sg_ir.specs.steps.Frames.{frame_in, scope_in}
use Rattle.sg_ir.proofs.typing.Typing.all_read.Given as goal

abbrev pub invariant-loop-r : goal.invariant-loop-r
invariant-loop-r l = list_all (reads (frame_in l.self) (scope_in l.self l.before) false) (take l.r-index l.index) ≡ true
