use Rattle.std.proofs.Common.{ℕ, ◌≤◌, List, drop, length, ap, sym, subst, arith}
use Rattle.sparsegrid.specs.Telling.{telling_of}
use Rattle.sparsegrid.specs.steps.Grouping.{IsGroup}
use Rattle.sparsegrid.proofs.Advancing.{advanced_memory}
use Rattle.sparsegrid.proofs.drive.perform_next.Goals as goal

pub perform_group-requires-clause-group : goal.perform_group-requires-clause-group
perform_group-requires-clause-group g c = λ lifetimes outlive.
    let some : 1 ≤ length c.in-Ok.group.items = omega arith in
    subst (λ (numbers : List ℕ). IsGroup c.args.session.now.compiled (drop c.args.at c.args.tasks.now) c.args.asked.now.workers numbers) (sym c.as_slice.ensures.value) (c.in-Ok.ensures some)

pub perform_group-requires-clause-member : goal.perform_group-requires-clause-member
perform_group-requires-clause-member g c = λ lifetimes outlive. let long = ap length c.as_slice.ensures.value in omega (arith, long)

pub returns-clause-advanced : goal.returns-clause-advanced
returns-clause-advanced g c = λ program compiles earlier start before came.
    advanced_memory program c.args.asked.now.binds.list (telling_of program.names program.layouts c.args.what) earlier start c.args.tasks.now c.args.at c.args.session.now.stores before _ came
