use Rattle.std.proofs.Common.{ap, ◌∙◌}
use Rattle.sg_words.specs.Stocks.{listed}
use Rattle.sg_words.proofs.Uses.{spare-stands}
use Rattle.sg_hash.proofs.seat.HashPass.provide.Goals as goal

pub returns-in-Some-clause-spare : goal.returns-in-Some-clause-spare
returns-in-Some-clause-spare c =
    let spare = c.args.seat.now.spares ∙ ap listed c.in-Some.is in
    (spare, c.requires.own.spare c.in-Some.ticket (spare-stands c.in-Some.ticket c.args.seat.now.seat.me.0.spare spare))
