use Rattle.std.proofs.Common.{◌≡◌, ◌++◌, ℕ, List, sym, subst}
use Rattle.sg_elements.specs.steps.Levels.{AreRowsBetween}
use Rattle.sg_elements.proofs.Halves.{joined_between}
use Rattle.sg_elements.proofs.reached.+fn-rows_among-join+arg2+fn-rows_among-join+arg3+rows_among.Goals as goal

pub returns : goal.returns
returns g t c =
    let rows = c.in_ok-rows.rows.items in
    let others = c.in_ok-others.others.items in
    let all : c.append.new.self.items ≡ rows ++ others = c.in_ok-append.ensures.items in
    subst (λ (list : List ℕ). AreRowsBetween c.args.store.now c.args.node c.args.from c.args.to list) (sym all)
    (joined_between c.args.store.now c.args.node c.args.from _ c.args.to rows others (rw c.in_ok-rows.was at c.join-left.ensures.first) (rw c.in_ok-others.was at c.join-left.ensures.second))
