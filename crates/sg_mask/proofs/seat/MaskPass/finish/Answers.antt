use Rattle.std.proofs.Common.{sym, ◌∙◌}
use Rattle.sg_mask.proofs.Moves.{are_marked}
use Rattle.sg_mask.proofs.seat.MaskPass.finish.Goals as goal

pub returns : goal.returns
returns c =
    let last = c.close_with-closed.ensures.values.2 in
    are_marked c.args.self.table.shared.key c.args.self.masks last.0.words last.0.views c.args.seat.seat.id c.args.seat.seat.me.0 c.copy_words.new.words c.args.self.told last.1.0 last.1.1 c.requires.all
    (c.copy_words.ensures ∙ sym last.2)
