use Rattle.std.proofs.Common.{◌≡◌, length, slice_get}
use Rattle.sg_explain.specs.Parts.{parts_by, item_parts}
use Rattle.sg_explain.proofs.parts.part.Given as goal

abbrev pub invariant-loop-rest : goal.invariant-loop-rest
invariant-loop-rest l = slice_get (parts_by (λ spanned. spanned.token) l.fresh l.rest) l.left ≡ slice_get (item_parts l.tokens) l.number

abbrev pub decreases-loop-rest : goal.decreases-loop-rest
decreases-loop-rest l = length l.rest
