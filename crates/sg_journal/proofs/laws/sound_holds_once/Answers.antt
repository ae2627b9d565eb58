use Rattle.sg_journal.proofs.Once.{each_line_holds_once}
use Rattle.sg_journal.proofs.laws.sound_holds_once.Goals as goal

pub returns : goal.returns
returns c = each_line_holds_once
