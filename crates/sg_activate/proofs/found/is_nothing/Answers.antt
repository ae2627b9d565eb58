use Rattle.std.proofs.Common.{◌≡◌, ◌<◌, length, refl, sym, ap, ◌∙◌, subst, arith}
use Rattle.sg_activate.specs.declared.found.Finds.{Finds}
use Rattle.sg_activate.proofs.FoundLists.{none_more, none_all, one_there}
use Rattle.sg_activate.proofs.found.is_nothing.Goals as goal

pub loop-finds-init : goal.loop-finds-init
loop-finds-init c = λ axes. refl

pub loop-finds-preserved : goal.loop-finds-preserved
loop-finds-preserved c = λ axes.
    let finds : Finds = c.finds-item.result in
    let empty : length finds.list ≡ 0 = omega (arith, c.len.ensures, c.if-len-gt0.false) in
    none_more axes c.args.found.now c.loop-finds.finds-index finds c.loop-finds-test.true (sym (ap (λ (f : Finds). length f.list) c.finds-item.is) ∙ empty) (c.loop-finds.invariant axes)

pub returns-clause-none : goal.returns-clause-none
returns-clause-none c = λ e axes. none_all axes c.args.found.now c.loop-finds.finds-index c.loop-finds-test.false (c.loop-finds.invariant axes)

pub returns-then-len-gt0-clause-some : goal.returns-then-len-gt0-clause-some
returns-then-len-gt0-clause-some c = λ e axes.
    let some : 0 < length c.finds-item.result.list = omega (arith, c.len.ensures, c.if-len-gt0.true) in
    one_there axes c.args.found.now c.loop-finds.finds-index c.finds-item.result c.loop-finds-test.true (subst (λ (f : Finds). 0 < length f.list) c.finds-item.is some)
