use Rattle.std.proofs.Common.{Bool, ◌∙◌, subst}
use Rattle.std.specs.Prelude.{Err}
use Rattle.sg_activate.specs.Descending.{open_before}
use Rattle.sg_activate.specs.steps.Finding.{found_in}
use Rattle.sg_activate.specs.steps.Levels.{open_after, IfActRefused, IsFirstFull}
use Rattle.sg_activate.proofs.Active.{opens_before, opens_two, opens_three, full_before, refused_then, refused_as}
use Rattle.sg_activate.proofs.Looking.{ok_so}
use Rattle.sg_activate.proofs.activation.open_all.Goals as goal

pub returns-clause-opened : goal.returns-clause-opened
returns-clause-opened g c =
    let wanted = found_in c.args.work.now.axes c.args.work.now.found.now in
    let first = c.in-Ok.ensures in
    let second = c.in-Ok-open_middle.ensures in
    let two = opens_two c.args.store.now c.open_head.new.store c.open_middle.new.store wanted first.keeps.same_shape second.keeps.same_shape first.opened second.opened in
    ok_so c.open_tail.result c.open_tail.ensures.opened (opens_three c.args.store.now c.open_middle.new.store c.open_tail.new.store wanted (second.keeps.same_shape ∙ first.keeps.same_shape) two)

pub returns-in-Err-open_middle-clause-full : goal.returns-in-Err-open_middle-clause-full
returns-in-Err-open_middle-clause-full g c =
    let wanted = found_in c.args.work.now.axes c.args.work.now.found.now in
    let first = c.in-Ok.ensures in
    let mid = c.open_head.new.store in
    let Says = IsFirstFull mid (open_before mid.shape) wanted in
    let full = refused_as Bool (Unit {0}) c.in-Err-open_middle.stop Says (subst (λ r. IfActRefused r Says) c.in-Err-open_middle.is c.open_middle.ensures.full) in
    refused_then {A = Unit {0}} (Err c.in-Err-open_middle.stop) Says (IsFirstFull c.args.store.now 0 wanted) full
    (λ fault says. full_before c.args.store.now mid 0 (open_before mid.shape) wanted fault first.keeps.same_shape (opens_before c.args.store.now mid wanted first.keeps.same_shape first.opened) says)

pub returns-clause-full : goal.returns-clause-full
returns-clause-full g c =
    let wanted = found_in c.args.work.now.axes c.args.work.now.found.now in
    let first = c.in-Ok.ensures in
    let second = c.in-Ok-open_middle.ensures in
    let mid = c.open_middle.new.store in
    let two = opens_two c.args.store.now c.open_head.new.store mid wanted first.keeps.same_shape second.keeps.same_shape first.opened second.opened in
    refused_then c.open_tail.result (IsFirstFull mid (open_after mid.shape) wanted) (IsFirstFull c.args.store.now 0 wanted) c.open_tail.ensures.full
    (λ fault says. full_before c.args.store.now mid 0 (open_after mid.shape) wanted fault (second.keeps.same_shape ∙ first.keeps.same_shape) two says)
