use Rattle.std.proofs.Common.{List, drop, length, ap, sym, subst, arith}
use Rattle.std.specs.List.{AllByRecursion}
use Rattle.sg_session.specs.declared.tasks.Task.{Task}
use Rattle.sg_session.specs.Compiled.{CompiledProgram, IsTask}
use Rattle.sg_session.specs.Performed.{SessionParts}
use Rattle.sparsegrid.specs.steps.Grouping.{IsGroup}
use Rattle.sparsegrid.proofs.Advancing.{drop_by}
use Rattle.sparsegrid.proofs.GroupFront.{group_few, group_enough}
use Rattle.sparsegrid.proofs.drive.group_here.Goals as goal

pub group_at-requires-clause-there : goal.group_at-requires-clause-there
group_at-requires-clause-there g c =
    subst (λ (list : List Task). AllByRecursion (IsTask c.session.inside.compiled) list) (sym c.tasks_from-rest.ensures)
    (subst (λ (p : CompiledProgram). AllByRecursion (IsTask p) (drop c.args.at c.args.tasks.now)) (sym (ap (λ (s : SessionParts). s.compiled) c.session.view_is))
    (drop_by (IsTask c.args.session.now.compiled) c.args.tasks.now c.args.at c.requires.there))

pub is_beside-requires-clause-few_members : goal.is_beside-requires-clause-few_members
is_beside-requires-clause-few_members g c = let few = group_few _ _ c.args.workers c.in_ok-group.group.items c.in_ok-group.ensures in let long = ap length c.as_slice.ensures.value in omega (arith, few, long)

pub is_beside-requires-clause-enough : goal.is_beside-requires-clause-enough
is_beside-requires-clause-enough g c = let few = group_enough _ _ c.args.workers c.in_ok-group.group.items c.in_ok-group.ensures in let long = ap length c.as_slice.ensures.value in omega (arith, few, long)

pub returns-then-not-may_group : goal.returns-then-not-may_group
returns-then-not-may_group g c = λ some. absurd (let none = ap length c.new.ensures.items in omega (arith, none, some))

pub returns-then-not-is_beside : goal.returns-then-not-is_beside
returns-then-not-is_beside g c = λ some. absurd (let none = ap length c.new-then-not-is_beside.ensures.items in omega (arith, none, some))

pub returns : goal.returns
returns g c = λ some.
    subst (λ (p : CompiledProgram). IsGroup p (drop c.args.at c.args.tasks.now) c.args.workers c.in_ok-group.group.items) (ap (λ (s : SessionParts). s.compiled) c.session.view_is)
    (subst (λ (list : List Task). IsGroup c.session.inside.compiled list c.args.workers c.in_ok-group.group.items) c.tasks_from-rest.ensures c.in_ok-group.ensures)
