use Rattle.std.proofs.Common.{◌≡◌, ◌++◌}
use Rattle.std.specs.Prelude.{All}
use Rattle.sg_journal.specs.Lines.{lines_text, IsInRange}
use Rattle.sg_journal.specs.Changes.{takes_upto}
use Rattle.sg_journal.proofs.between.push_takes.Given as goal

abbrev pub invariant-loop-index : goal.invariant-loop-index
invariant-loop-index l = record {
  text : l.lines.items ≡ l.fn.lines.items ++ lines_text (takes_upto l.layout l.old l.new l.index);
  range : All IsInRange (takes_upto l.layout l.old l.new l.index);
}
