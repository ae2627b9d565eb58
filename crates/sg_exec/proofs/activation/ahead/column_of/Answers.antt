use Rattle.std.proofs.Common.{◌≡◌, ◌-◌, ◌+◌, ◌≤◌, ◌<◌, ◌∙◌, length, arith}
use Rattle.sg_exec.proofs.RunAhead.{columns_of, column_at}
use Rattle.sg_exec.proofs.activation.ahead.column_of.Goals as goal

pub returns-then-number-ahead-clause-column : goal.returns-then-number-ahead-clause-column
returns-then-number-ahead-clause-column c =
    let first = c.args.ahead.now.first in
    let same : first + (c.args.number - first) ≡ c.args.number = omega (arith, c.if-ahead-number.true) in
    column_at c.args.stores.now.list c.args.points.now c.args.block.now c.args.ahead.now.batch first (c.args.number - first) c.args.number same
    (c.requires.ran.each (c.args.number - first) c.if-number-ahead.true)

pub returns-clause-ran : goal.returns-clause-ran
returns-clause-ran c =
    let few : c.min-count.result ≤ 32 = omega (arith, c.min-count.ensures) in
    let within : c.args.number + c.min-count.result ≤ length c.args.points.now = omega (arith, c.min-count.ensures, c.requires.below) in
    record {
      over = c.iterate_all.ensures.over;
      each = columns_of c.args.stores.now.list c.args.points.now _ c.args.block.now c.iterate_all.new.batch c.args.number c.min-count.result (c.as_slice.ensures.value ∙ c.in_ok-fill.ensures) few within c.in_ok-iterate_all.ensures.ran;
    }

pub returns-clause-column : goal.returns-clause-column
returns-clause-column c =
    let few : c.min-count.result ≤ 32 = omega (arith, c.min-count.ensures) in
    let within : c.args.number + c.min-count.result ≤ length c.args.points.now = omega (arith, c.min-count.ensures, c.requires.below) in
    let some : 0 < c.min-count.result = omega (arith, c.min-count.ensures, c.requires.below) in
    column_at c.args.stores.now.list c.args.points.now c.args.block.now c.iterate_all.new.batch c.args.number 0 c.args.number (omega arith)
    (columns_of c.args.stores.now.list c.args.points.now _ c.args.block.now c.iterate_all.new.batch c.args.number c.min-count.result (c.as_slice.ensures.value ∙ c.in_ok-fill.ensures) few within c.in_ok-iterate_all.ensures.ran 0 some)
