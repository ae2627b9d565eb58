use Rattle.sparsegrid.proofs.Lefts.{meaning_is_of_commands}
use Rattle.sparsegrid.proofs.laws.meaning_is_of_commands.Goals as goal

pub returns : goal.returns
returns c = meaning_is_of_commands
