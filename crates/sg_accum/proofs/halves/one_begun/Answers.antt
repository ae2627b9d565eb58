use Rattle.std.proofs.Common.{◌++◌, ◌∷◌, [], List, ap, ◌∙◌, sym, subst₂}
use Rattle.sg_accum.specs.declared.part.Part.{Part}
use Rattle.sg_accum.specs.declared.part.PartSeat.{PartSeat}
use Rattle.sg_accum.specs.steps.Teams.{AreBegun}
use Rattle.sg_accum.proofs.Halving.{begun-one}
use Rattle.sg_accum.proofs.halves.one_begun.Goals as goal

pub returns : goal.returns
returns c =
    let part = c.in_ok-part.part in
    let seat = c.in_ok-part.seat in
    subst₂ (AreBegun c.args.op c.args.ty c.args.values.now)
    (sym (c.push_reserved.ensures.items ∙ ap (λ (l : List Part). l ++ part ∷ []) c.in_ok-parts.ensures.items))
    (sym (c.push_reserved-2.ensures.items ∙ ap (λ (l : List PartSeat). l ++ seat ∷ []) c.in_ok-seats.ensures.items))
    (begun-one c.args.op c.args.ty c.args.values.now part seat c.in_ok-part.ensures.values c.in_ok-part.ensures.operator c.in_ok-part.ensures.order c.in_ok-part.ensures.own
    c.in_ok-part.ensures.worker c.requires.few)
