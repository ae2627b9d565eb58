use Rattle.std.proofs.Common.{◌∙◌, ap, take, length, [], arith}
use Rattle.std.proofs.lemmas.List.{length-take}
use Rattle.sg_types.specs.Scopes.{local_named}
use Rattle.sg_types.specs.Statements.{Reached}
use Rattle.sg_types.proofs.Beginnings.{fresh_begun, length_begun}
use Rattle.sg_types.proofs.known.Known.first_reached.Goals as goal

pub declare-requires-clause-fresh : goal.declare-requires-clause-fresh
declare-requires-clause-fresh c =
    ap (λ (at : Reached). local_named at.scope c.name-item.result) c.loop-name.invariant
    ∙ fresh_begun c.args.vars.now c.loop-name.name-index c.name-item.result c.loop-name-test.true c.name-item.is c.requires.once

pub declare-requires-clause-room : goal.declare-requires-clause-room
declare-requires-clause-room c =
    let types = ap (λ (at : Reached). length at.types) c.loop-name.invariant in
    omega (arith, types, length_begun (record { number = 1; types = []; scope = [] }) (take c.loop-name.name-index c.args.vars.now), length-take c.loop-name.name-index c.args.vars.now)
