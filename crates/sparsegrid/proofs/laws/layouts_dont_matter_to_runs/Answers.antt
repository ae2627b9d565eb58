use Rattle.sparsegrid.proofs.TwoRuns.{layouts_dont_matter_to_runs}
use Rattle.sparsegrid.proofs.laws.layouts_dont_matter_to_runs.Goals as goal

pub returns : goal.returns
returns c = layouts_dont_matter_to_runs c.parsed_is_spelled.ensures c.meaning_is_of_commands.ensures c.layouts_dont_matter.ensures
