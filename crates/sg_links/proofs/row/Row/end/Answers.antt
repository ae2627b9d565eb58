use Rattle.std.proofs.Common.{length, ap, arith}
use Rattle.sg_links.proofs.Padded.{ends_within, rest_past}
use Rattle.sg_links.proofs.row.Row.end.Goals as goal

pub returns-clause-few : goal.returns-clause-few
returns-clause-few g c =
    let within = ends_within c.self.inside.items.items c.args.self.now c.self.inside.rest c.self.inside.places c.self.view_is c.self.invariant.0 in
    omega (arith, within, ap length c.as_slice-items.ensures.value)

pub returns-clause-rest : goal.returns-clause-rest
returns-clause-rest g c = λ place other past below.
    rest_past c.self.inside.items.items c.args.self.now c.self.inside.rest other c.self.inside.places place c.self.view_is c.self.invariant.0
    (omega (arith, past, ap length c.as_slice-items.ensures.value)) below
