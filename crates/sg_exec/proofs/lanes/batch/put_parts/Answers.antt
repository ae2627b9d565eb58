use Rattle.std.proofs.Common.{◌+◌, ◌*◌, refl, ◌∙◌, arith}
use Rattle.std.proofs.lemmas.Option.{slice_get-get_or, slice_get_within}
use Rattle.sg_exec.proofs.Starting.{parting_more}
use Rattle.sg_exec.proofs.lanes.batch.put_parts.Goals as goal

pub loop-k-init : goal.loop-k-init
loop-k-init c = record {
  long = refl;
  parts = record {
    done = λ k point below is number. absurd (omega (arith, below));
    rest = λ k number small past. c.requires.none (number * 32 + k);
  };
}

pub put_part-requires-clause-none : goal.put_part-requires-clause-none
put_part-requires-clause-none c = λ number. c.loop-k.invariant.parts.rest c.loop-k.k number (omega (arith, c.requires.few)) (omega arith)

pub loop-k-preserved : goal.loop-k-preserved
loop-k-preserved c = record {
  long = c.put_part.ensures.long ∙ c.loop-k.invariant.long;
  parts = parting_more c.args.points.now c.loop-k.k c.loop-k.vars c.put_part.new.vars _ c.requires.few (slice_get-get_or c.args.points.now c.loop-k.k _ (omega arith)) c.loop-k.invariant.parts c.put_part.ensures.parts c.put_part.ensures.others;
}

pub returns-clause-parts : goal.returns-clause-parts
returns-clause-parts c = λ k at is. c.loop-k.invariant.parts.done k at (omega (arith, slice_get_within c.args.points.now k at is)) is
