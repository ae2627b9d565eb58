use Rattle.std.proofs.Common.{◌≡◌, ◌+◌, ◌≤◌, length}
use Rattle.sg_explain.specs.steps.ItemLengths.{item_length}
use Rattle.sg_explain.proofs.items.item_len.Given as goal

abbrev pub invariant-loop-rest : goal.invariant-loop-rest
invariant-loop-rest l =
    (l.len + item_length (λ spanned. spanned.token) l.braces l.rest ≡ item_length (λ spanned. spanned.token) 0 l.tokens)
    × (l.len + length l.rest ≡ length l.tokens) × (l.braces ≤ l.len)

abbrev pub decreases-loop-rest : goal.decreases-loop-rest
decreases-loop-rest l = length l.rest
