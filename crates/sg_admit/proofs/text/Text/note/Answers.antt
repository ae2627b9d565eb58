use Rattle.std.proofs.Common.{◌∙◌, sym}
use Rattle.sg_admit.proofs.TextWords.{alike_noted}
use Rattle.sg_admit.proofs.text.Text.note.Goals as goal

pub returns-else-not-has_noted-clause-writes : goal.returns-else-not-has_noted-clause-writes
returns-else-not-has_noted-clause-writes c = alike_noted c.args.self.now.writes c.args.it (sym c.has_noted.ensures ∙ c.if-not-has_noted.false)
