use Rattle.std.proofs.Common.{◌∙◌, arith, ◌+◌, ◌/◌, ◌-◌, ◌≤◌, ℕ}
use Rattle.sg_store.proofs.RowsMade.{rows_joined}
use Rattle.sg_store.proofs.by_workers.+fn-rows_among-join+arg2+fn-rows_among-join+arg3+rows_among.Goals as goal

pub returns : goal.returns
returns g t c =
    let middle : ℕ = c.args.from + (c.args.to - c.args.from) / 2 in
    let low : c.args.from ≤ middle = omega arith in
    let high : middle ≤ c.args.to = omega (arith, c.requires.order) in
    c.in_ok-append.ensures.items
    ∙ rows_joined c.args.rows.now c.args.cells c.args.from middle c.args.to c.in_ok-made.made.items c.in_ok-others.others.items low high
    (rw c.in_ok-made.was at c.join-left.ensures.first) (rw c.in_ok-others.was at c.join-left.ensures.second)
