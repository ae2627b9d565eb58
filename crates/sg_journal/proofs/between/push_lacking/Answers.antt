use Rattle.std.proofs.Common.{refl, arith}
use Rattle.std.proofs.lemmas.List.Elements.{All-nil}
use Rattle.sg_journal.specs.Lines.{IsInRange}
use Rattle.sg_journal.proofs.InRange.{one_more_line, all_lines}
use Rattle.sg_journal.specs.steps.Lacking.{line_for}
use Rattle.sg_journal.proofs.Lacks.{lacking_next, lacking_end}
use Rattle.sg_journal.proofs.between.push_lacking.Goals as goal

pub loop-link-preserved : goal.loop-link-preserved
loop-link-preserved c =
    let step = lacking_next (line_for c.args.taken c.args.layout c.args.node) c.loop-link.left.now c.past-left.result.now c.args.links.now c.loop-link.link-index _ c.begins_with.result c.line_for.result
    c.loop-link.lines.items c.push_unless.new.lines.items _ c.loop-link.invariant.left c.requires.links c.loop-link-test.true c.past-left.ensures
    c.in_ok-push_unless.ensures c.begins_with.ensures c.line_for.ensures.line c.loop-link.invariant.text in
    record {
      left = step.0;
      text = step.1;
      range = one_more_line (line_for c.args.taken c.args.layout c.args.node) c.args.links.now c.loop-link.link-index _ c.line_for.result c.loop-link-test.true c.line_for.ensures.line c.line_for.ensures.range c.loop-link.invariant.range;
    }

pub loop-link-init : goal.loop-link-init
loop-link-init c = record { left = c.requires.others; text = refl; range = All-nil IsInRange }

pub returns-clause-text : goal.returns-clause-text
returns-clause-text c = lacking_end _ _ _ _ _ _ c.loop-link-test.false c.loop-link.invariant.text

pub returns-clause-range : goal.returns-clause-range
returns-clause-range c = all_lines (line_for c.args.taken c.args.layout c.args.node) c.args.others.now c.args.links.now c.loop-link.link-index (omega (arith, c.loop-link-test.false)) c.loop-link.invariant.range
