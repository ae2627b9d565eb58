use Rattle.std.proofs.Common.{arith}
use Rattle.std.proofs.lemmas.Int.{to_z-of_z}
use Rattle.std.proofs.lemmas.Grind.{common_steps}
use Rattle.sg_coord.proofs.rows.inside.Goals as goal

pub returns-then-on_axis-2-clause-inside : goal.returns-then-on_axis-2-clause-inside
returns-then-on_axis-2-clause-inside c = grind (arith, common_steps, to_z-of_z)

pub returns-else-on_axis-2-clause-value : goal.returns-else-on_axis-2-clause-value
returns-else-on_axis-2-clause-value c = grind (arith, common_steps, to_z-of_z)
