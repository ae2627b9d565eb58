use Rattle.std.proofs.Common.{List, subst, arith}
use Rattle.sg_exec.specs.declared.results.sums.Sum.{Sum}
use Rattle.sg_exec.specs.steps.Made.{AddsSums}
use Rattle.sg_exec.proofs.Going.{on_ok}
use Rattle.sg_exec.proofs.SumsEnd.{seats_front, own_last, whole_front, whole_last, adds_last, adds_nothing}
use Rattle.sg_exec.proofs.results.sums.+finish_all.Goals as goal

pub returns-in_default : goal.returns-in_default
returns-in_default g t c =
    let cases = c.in_default.ensures.cases in
    adds_nothing c.args.accumulated.items c.args.seats.items c.args.sums.now.items (omega (arith, cases.0))

pub finish-requires-clause-own : goal.finish-requires-clause-own
finish-requires-clause-own g t c κs within =
    own_last c.args.accumulated.items c.pop.new.self.items c.in-Some.last c.in-Some.ensures.items c.args.seats.items c.pop-2.new.self.items c.in-Some-pop.seat c.in-Some-pop.ensures.items c.requires.seats

pub finish-requires-clause-whole : goal.finish-requires-clause-whole
finish-requires-clause-whole g t c κs within =
    whole_last c.args.accumulated.items c.pop.new.self.items c.in-Some.last c.in-Some.ensures.items c.args.seats.items c.pop-2.new.self.items c.in-Some-pop.seat c.in-Some-pop.ensures.items c.requires.seats c.requires.whole

pub finish_all-requires-clause-seats : goal.finish_all-requires-clause-seats
finish_all-requires-clause-seats g t c κs within =
    seats_front c.args.accumulated.items c.pop.new.self.items c.in-Some.last c.in-Some.ensures.items c.args.seats.items c.pop-2.new.self.items c.in-Some-pop.seat c.in-Some-pop.ensures.items c.requires.seats

pub finish_all-requires-clause-whole : goal.finish_all-requires-clause-whole
finish_all-requires-clause-whole g t c κs within =
    whole_front c.args.accumulated.items c.pop.new.self.items c.in-Some.last c.in-Some.ensures.items c.args.seats.items c.pop-2.new.self.items c.in-Some-pop.seat c.in-Some-pop.ensures.items c.requires.whole

pub returns : goal.returns
returns g t c =
    on_ok _ _ c.finish_all.result
    (λ later. adds_last c.args.accumulated.items c.pop.new.self.items c.in-Some.last c.in-Some.ensures.items c.args.seats.items c.pop-2.new.self.items c.in-Some-pop.seat c.in-Some-pop.ensures.items c.requires.seats
    c.in_ok-sum.sum c.in_ok-sum.ensures.layout c.in_ok-sum.ensures.field c.in_ok-sum.ensures.folds c.args.sums.now.items c.finish_all.new.sums.items
    (subst (λ (sums : List Sum). AddsSums c.pop.new.self.items c.pop-2.new.self.items sums c.finish_all.new.sums.items) c.in_ok-push.ensures.items later))
    c.finish_all.ensures
