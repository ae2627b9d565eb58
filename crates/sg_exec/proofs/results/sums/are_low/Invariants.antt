use Rattle.std.proofs.Common.{◌<◌, ◌^◌, ℕ, take}
use Rattle.std.specs.Prelude.{slice_index}
use Rattle.std.specs.List.{concat}
use Rattle.sg_exec.proofs.results.sums.are_low.Given as goal

abbrev pub invariant-loop-part : goal.invariant-loop-part
invariant-loop-part l = (k : ℕ) → slice_index (concat (take l.part-index l.parts)) k < 2 ^ 32
