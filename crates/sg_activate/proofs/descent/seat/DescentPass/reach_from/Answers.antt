use Rattle.std.proofs.Common.{subst}
use Rattle.sg_activate.specs.steps.DescentReaching.{offsets_below, place_from, IsWalked}
use Rattle.sg_activate.proofs.DescentAnswered.{answered_open, answered_dry, grew_to, inside_after}
use Rattle.sg_activate.proofs.descent.seat.DescentPass.reach_from.Goals as goal

pub returns-in-Some-clause-own : goal.returns-in-Some-clause-own
returns-in-Some-clause-own c =
    let p = c.args.self.now in
    let v = c.args.seat.now.seat.me.0 in
    let w = c.walk.new.seat.seat.me.0 in
    record { at = c.walk.ensures.own; inside = inside_after p v w c.args.at c.requires.own.inside c.requires.inside c.walk.ensures.more (grew_to p c.args.at c.requires.begins v w c.walk.ensures.grew) }

pub returns-in-Some-clause-answer : goal.returns-in-Some-clause-answer
returns-in-Some-clause-answer c =
    let p = c.args.self.now in
    let w = c.walk.new.seat.seat.me.0 in
    let walked = subst (λ r. IsWalked w p.levels (place_from p.start p.base c.args.at) (offsets_below p.start p.base c.args.at) r) c.in-Some.is c.walk.ensures.walked in
    answered_dry p c.args.at c.requires.begins w c.in-Some.index c.number-node.result c.number-node.ensures walked

pub returns-in-Some-clause-grew : goal.returns-in-Some-clause-grew
returns-in-Some-clause-grew c =
    grew_to c.args.self.now c.args.at c.requires.begins c.args.seat.now.seat.me.0 c.walk.new.seat.seat.me.0 c.walk.ensures.grew

pub returns-in-None-clause-own : goal.returns-in-None-clause-own
returns-in-None-clause-own c =
    let p = c.args.self.now in
    let v = c.args.seat.now.seat.me.0 in
    let w = c.walk.new.seat.seat.me.0 in
    record { at = c.walk.ensures.own; inside = inside_after p v w c.args.at c.requires.own.inside c.requires.inside c.walk.ensures.more (grew_to p c.args.at c.requires.begins v w c.walk.ensures.grew) }

pub returns-in-None-clause-answer : goal.returns-in-None-clause-answer
returns-in-None-clause-answer c =
    let p = c.args.self.now in
    let w = c.walk.new.seat.seat.me.0 in
    let walked = subst (λ r. IsWalked w p.levels (place_from p.start p.base c.args.at) (offsets_below p.start p.base c.args.at) r) c.in-None.is c.walk.ensures.walked in
    answered_open p c.args.at c.requires.begins w walked

pub returns-in-None-clause-grew : goal.returns-in-None-clause-grew
returns-in-None-clause-grew c =
    grew_to c.args.self.now c.args.at c.requires.begins c.args.seat.now.seat.me.0 c.walk.new.seat.seat.me.0 c.walk.ensures.grew
