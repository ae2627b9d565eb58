use Rattle.std.proofs.Common.{◌≡◌, length, Some}
use Rattle.sg_explain.specs.Places.{head_end, head_place}
use Rattle.sg_explain.proofs.parts.head_place.Given as goal

abbrev pub invariant-loop-rest : goal.invariant-loop-rest
invariant-loop-rest l = Some (record { from = l.first.start; to = head_end l.to l.rest }) ≡ head_place l.part

abbrev pub decreases-loop-rest : goal.decreases-loop-rest
decreases-loop-rest l = length l.rest
