use Rattle.std.proofs.Common.{◌≡◌, ◌++◌, map, take, drop}
use Rattle.std.specs.Prelude.{All}
use Rattle.sg_journal.specs.Lines.{IsInRange}
use Rattle.sg_journal.specs.Placing.{AreRising}
use Rattle.sg_journal.specs.steps.Lacking.{line_for}
use Rattle.sg_journal.proofs.Lacks.{lacking_text}
use Rattle.sg_journal.proofs.between.push_lacking.Given as goal

abbrev pub invariant-loop-link : goal.invariant-loop-link
invariant-loop-link l = record {
  left : AreRising l.left;
  text : l.lines.items ++ lacking_text (line_for l.taken l.layout l.node) l.left (drop l.link-index l.links)
      ≡ l.fn.lines.items ++ lacking_text (line_for l.taken l.layout l.node) l.others l.links;
  range : All IsInRange (map (line_for l.taken l.layout l.node) (take l.link-index l.links));
}
