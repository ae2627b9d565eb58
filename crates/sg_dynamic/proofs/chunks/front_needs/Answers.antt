use Rattle.std.proofs.Common.{length, ◌∙◌}
use Rattle.sg_dynamic.proofs.Growth.{front_need}
use Rattle.sg_dynamic.proofs.chunks.front_needs.Goals as goal

pub returns-clause-need : goal.returns-clause-need
returns-clause-need c = c.chunks_needed.ensures ∙ front_need c.args.front.now (length c.args.chains.now.lists) c.args.chunk c.requires.some
