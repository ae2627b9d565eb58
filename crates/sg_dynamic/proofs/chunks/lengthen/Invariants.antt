use Rattle.sg_dynamic.specs.Chunks.{IsExact}
use Rattle.sg_dynamic.specs.steps.Growing.{Grew}
use Rattle.sg_dynamic.proofs.chunks.lengthen.Given as goal

abbrev pub invariant-loop-long : goal.invariant-loop-long
invariant-loop-long l = record { grew : Grew l.fn.chains l.chains l.head l._long; exact : IsExact l.chains l.pool }
