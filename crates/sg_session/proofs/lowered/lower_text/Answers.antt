use Rattle.std.proofs.Common.{length, ap, ◌∙◌}
use Rattle.sg_session.proofs.Kept.{kernels_many}
use Rattle.sg_session.proofs.lowered.lower_text.Goals as goal

pub push_codes-requires : goal.push_codes-requires
push_codes-requires c = ap length c.as_slice.ensures ∙ kernels_many _ c.compiled.invariant
