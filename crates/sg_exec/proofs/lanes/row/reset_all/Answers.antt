use Rattle.std.proofs.Common.{◌∙◌, arith}
use Rattle.std.proofs.lemmas.List.{length-set}
use Rattle.sg_exec.proofs.Rows.{reset_next, reset_done}
use Rattle.sg_exec.proofs.lanes.row.reset_all.Goals as goal

pub loop-place-preserved : goal.loop-place-preserved
loop-place-preserved g c = record {
  size = length-set c.loop-place.items c.loop-place.place c.args.none ∙ c.loop-place.invariant.size;
  done = reset_next c.loop-place.items c.args.none c.loop-place.place (omega arith) c.loop-place.invariant.done;
}

pub returns-clause-none : goal.returns-clause-none
returns-clause-none g c = reset_done c.loop-place.items c.args.none c.loop-place.place (omega arith) c.loop-place.invariant.done
