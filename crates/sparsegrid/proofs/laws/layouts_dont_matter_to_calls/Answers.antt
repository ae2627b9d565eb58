use Rattle.sparsegrid.proofs.TwoCalls.{layouts_dont_matter_to_calls}
use Rattle.sparsegrid.proofs.laws.layouts_dont_matter_to_calls.Goals as goal

pub returns : goal.returns
returns c = layouts_dont_matter_to_calls c.layouts_dont_matter_to_runs.ensures
