use Rattle.std.proofs.Common.{◌≡◌, ◌++◌, drop}
use Rattle.sg_journal.specs.Lines.{lines_text}
use Rattle.sg_journal.specs.Changes.{changes, changes_from}
use Rattle.sg_journal.proofs.InRange.{AreChangesInRange}
use Rattle.sg_journal.proofs.between.change_lines.Given as goal

abbrev pub invariant-loop-layout : goal.invariant-loop-layout
invariant-loop-layout l = record {
  text : l.lines.items ++ lines_text (changes_from l.layout (drop l.layout l.olds) (drop l.layout l.news)) ≡ lines_text (changes l.olds l.news);
  range : AreChangesInRange l.olds l.news l.layout;
}
