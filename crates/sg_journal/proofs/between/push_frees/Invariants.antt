use Rattle.std.proofs.Common.{◌≡◌, ℕ, ◌<◌, ◌≤◌, ◌++◌, ◌-◌}
use Rattle.sg_journal.specs.Lines.{lines_text}
use Rattle.sg_journal.specs.Changes.{frees_upto}
use Rattle.sg_journal.proofs.InRange.{AreFreesInRange}
use Rattle.sg_journal.proofs.between.push_frees.Given as goal

abbrev pub invariant-loop-done : goal.invariant-loop-done
invariant-loop-done l = record {
  text : l.lines.items ++ lines_text (frees_upto l.layout l.old l.new (l.count - l.done)) ≡ l.fn.lines.items ++ lines_text (frees_upto l.layout l.old l.new l.count);
  range : (k : ℕ) → l.count - l.done ≤ k → k < l.count → AreFreesInRange l.layout l.old l.new k;
}
