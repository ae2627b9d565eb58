use Rattle.std.proofs.Common.{arith, sym, ◌∙◌}
use Rattle.std.proofs.lemmas.List.{get_or_past}
use Rattle.sg_store.proofs.LengthsKept.{kept_through}
use Rattle.sg_store.proofs.kept_lengths.kept_lengths.Goals as goal

pub returns : goal.returns
returns c =
    kept_through c.args.kept.now c.args.chunk c.args.row.now c.loop-parent.lengths c.loop-parent.parent c.loop-parent.invariant
    (omega (arith, c.loop-parent-test.false, c.standing-parent-end.ensures.few))
    (λ parent past. sym (c.standing-parent-end.ensures.words parent) ∙ get_or_past c.standing-parent-end.result.now parent 0 (omega (arith, past, c.loop-parent-test.false)))
