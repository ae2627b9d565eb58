use Rattle.std.proofs.Common.{refl}
use Rattle.std.specs.Prelude.{get_or}
use Rattle.sg_words.specs.declared.operators.Ty.TheVariants as ty
use Rattle.sg_words.specs.Words.{number}
use Rattle.sg_coord.specs.Coord.{is_on_axis}
use Rattle.sg_exec.proofs.HeldWords.{kind_if}
use Rattle.sg_exec.proofs.lanes.held_row.checked.Goals as goal

pub returns : goal.returns
returns c = λ k small. kind_if (is_on_axis c.args.extent (number ty.I32 (get_or c.args.words k 0))) c.args.row.now _ k (c.kinds_on_axis.ensures k small) refl refl
