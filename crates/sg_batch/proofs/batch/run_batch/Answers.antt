use Rattle.std.proofs.Common.{◌≡◌, ◌<◌, length, arith, Option, subst}
use Rattle.sg_batch.specs.declared.fault.BatchFault.{BatchFault}
use Rattle.sg_batch.specs.Batches.{EndsAs, group_end, members}
use Rattle.sg_batch.proofs.batch.run_batch.Goals as goal

pub land_all-requires-clause-fits : goal.land_all-requires-clause-fits
land_all-requires-clause-fits g c = c.in-Ok.ensures.fits

pub returns-in-None-clause-answer : goal.returns-in-None-clause-answer
returns-in-None-clause-answer g c = λ state stand.
    let shapes = c.args.layouts.now.list in
    subst (λ (refused : Option BatchFault). EndsAs c.args.layouts.now.list c.land_all.new.stores.list refused (group_end c.args.layouts.now.list 0 state (members c.args.kernels.now c.args.group.now))) c.in-None.is
    (c.land_all.ensures.ends shapes 0 c.in-Ok.ready.refused state stand (c.in-Ok.ensures.ready state stand))

pub returns-in-None-clause-flat : goal.returns-in-None-clause-flat
returns-in-None-clause-flat g c = λ state stand. c.land_all.ensures.flat c.args.layouts.now.list 0 c.in-Ok.ready.refused state stand (c.in-Ok.ensures.ready state stand)

pub returns-in-None-clause-place : goal.returns-in-None-clause-place
returns-in-None-clause-place g c = λ fault is. absurd (cc (is))

pub returns-in-Some-clause-answer : goal.returns-in-Some-clause-answer
returns-in-Some-clause-answer g c = λ state stand.
    let shapes = c.args.layouts.now.list in
    subst (λ (refused : Option BatchFault). EndsAs c.args.layouts.now.list c.land_all.new.stores.list refused (group_end c.args.layouts.now.list 0 state (members c.args.kernels.now c.args.group.now))) c.in-Some.is
    (c.land_all.ensures.ends shapes 0 c.in-Ok.ready.refused state stand (c.in-Ok.ensures.ready state stand))

pub returns-in-Some-clause-flat : goal.returns-in-Some-clause-flat
returns-in-Some-clause-flat g c = λ state stand. c.land_all.ensures.flat c.args.layouts.now.list 0 c.in-Ok.ready.refused state stand (c.in-Ok.ensures.ready state stand)

pub returns-in-Some-clause-place : goal.returns-in-Some-clause-place
returns-in-Some-clause-place g c = λ fault is.
    let below = c.in-Ok.ensures.place c.in-Some.fault c.in-Some.is in
    let low : c.in-Some.fault.at < length c.args.group.now = omega (arith, below) in
    let same : c.in-Some.fault ≡ fault = cc (is) in
    subst (λ (f : BatchFault). f.at < length c.args.group.now) same low

pub returns-in-Err-clause-place : goal.returns-in-Err-clause-place
returns-in-Err-clause-place g c = λ fault is. absurd (cc (is))
