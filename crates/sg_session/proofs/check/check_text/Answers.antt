use Rattle.std.proofs.Common.{length, ap, ◌∙◌}
use Rattle.sg_session.proofs.Kept.{neutral_many}
use Rattle.sg_session.proofs.check.check_text.Goals as goal

pub push_lines-requires : goal.push_lines-requires
push_lines-requires c = ap length c.as_slice.ensures ∙ neutral_many _ c.compiled.invariant
