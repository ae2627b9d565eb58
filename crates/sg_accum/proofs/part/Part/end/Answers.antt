use Rattle.std.proofs.Common.{sym, ap, ◌∙◌, map}
use Rattle.sg_accum.specs.AccRace.{cell_of}
use Rattle.sg_accum.proofs.Moves.{are_folded}
use Rattle.sg_accum.proofs.part.Part.end.Goals as goal

pub returns : goal.returns
returns c =
    let last = c.close_with-closed.ensures.values.2 in
    let start = c.args.self.start in
    are_folded c.args.self.table.shared.key start last.0.words last.0.views c.args.seat.seat.id c.args.seat.seat.me.0 c.copy_cells.new.values c.args.self.told last.1.0 last.1.1 c.requires.all
    (c.copy_cells.ensures ∙ ap (map (cell_of start.op start.ty)) (sym last.2))
