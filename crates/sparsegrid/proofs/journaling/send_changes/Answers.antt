use Rattle.std.proofs.Common.{ℕ, List, ◌++◌, ap, ◌∙◌}
use Rattle.sg_journal.specs.Changes.{changes}
use Rattle.sg_journal.specs.Lines.{lines_text}
use Rattle.sparsegrid.proofs.PartsWritten.{puts_changes}
use Rattle.sparsegrid.proofs.journaling.send_changes.Goals as goal

pub returns-in-Ok-clause-sends : goal.returns-in-Ok-clause-sends
returns-in-Ok-clause-sends g c =
    puts_changes c.send.result (changes c.args.from.now.layouts c.args.to.now.layouts) c.as_slice.result.now _ _
    (c.as_slice.ensures.value ∙ (c.in-Ok.ensures.lines ∙ ap (λ (text : List ℕ). text ++ lines_text (changes c.args.from.now.layouts c.args.to.now.layouts)) c.new-lines.ensures.items))
    c.in-Ok.ensures.range c.send.ensures.sends
