use Rattle.std.proofs.Common.{drop}
use Rattle.std.specs.Prelude.{Contains}
use Rattle.std.specs.List.{flat_map}
use Rattle.sg_ir.specs.Touches.{touched_by}
use Rattle.sg_batch.proofs.touching.+touching.Given as goal

abbrev pub invariant-touches_in-loop-inst : goal.invariant-touches_in-loop-inst
invariant-touches_in-loop-inst l = Contains (flat_map touched_by l.block) l.layout → Contains (flat_map touched_by (drop l.inst-index l.block)) l.layout
