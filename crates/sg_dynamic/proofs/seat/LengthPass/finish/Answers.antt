use Rattle.std.proofs.Common.{sym, ◌∙◌}
use Rattle.sg_dynamic.proofs.Raises.{are_raised}
use Rattle.sg_dynamic.proofs.seat.LengthPass.finish.Goals as goal

pub returns : goal.returns
returns c =
    let last = c.close_with-closed.ensures.values.2 in
    are_raised c.args.self.table.shared.key c.args.self.lengths last.0.words last.0.views c.args.seat.seat.id c.args.seat.seat.me.0 c.copy_words.new.words c.args.self.told last.1.0 last.1.1 c.requires.all
    (c.copy_words.ensures ∙ sym last.2)
