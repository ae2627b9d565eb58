use Rattle.std.proofs.Common.{◌+◌, ◌*◌, ap, sym, ◌∙◌}
use Rattle.std.proofs.lemmas.List.{get_or-drop}
use Rattle.sg_layout.specs.Path.{offsets}
use Rattle.sg_activate.specs.declared.descent.level.Level.{Level}
use Rattle.sg_activate.specs.steps.DescentWalk.{level_at}
use Rattle.sg_activate.proofs.descent.seat.DescentPass.slot_at.Goals as goal

pub returns-clause-value : goal.returns-clause-value
returns-clause-value c =
    let p = c.args.self.now in
    let size = ap (λ (l : Level). l.size) c.level-size.ensures in
    ap (λ s. c.args.place * s + c.offset-offset.result) size
    ∙ ap (λ o. c.args.place * (level_at p.levels c.args.index).size + o) (c.offset-offset.ensures.value ∙ sym (get_or-drop p.base (offsets p.start.layout.nodes c.args.at) c.args.index 0))
