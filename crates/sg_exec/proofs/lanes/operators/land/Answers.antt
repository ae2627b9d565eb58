use Rattle.std.proofs.Common.{ℕ, List, ap₂, ◌∙◌}
use Rattle.std.specs.Prelude.{bit_and}
use lib.Lanes.{zip2}
use Rattle.sg_exec.proofs.EachLane.{land_is}
use Rattle.sg_exec.proofs.lanes.operators.land.Goals as goal

pub returns : goal.returns
returns c = ap₂ (λ (xs ys : List ℕ). zip2 bit_and xs ys) c.truths.ensures c.truths-2.ensures ∙ land_is c.args.ty c.args.a c.args.b
