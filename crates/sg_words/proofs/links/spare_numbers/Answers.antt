use Rattle.std.proofs.Common.{◌≡◌, false, length, take, min, subst}
use Rattle.std.specs.Prelude.{IfOk, slice_index_or}
use Rattle.sg_words.specs.Stocks.{stands_in}
use Rattle.sg_words.proofs.LinkLoops.{outside-same}
use Rattle.sg_words.proofs.links.spare_numbers.Goals as goal

pub returns : goal.returns
returns c =
    let numbers = take (min c.args.count (length c.args.stock.now)) c.args.stock.now in
    subst (λ l. IfOk c.numbers_outside.result (λ spares. spares ≡ l))
    (outside-same (λ x. slice_index_or c.in_ok-set.set x false) (stands_in c.args.taken.now) numbers c.in_ok-set.ensures) c.numbers_outside.ensures
