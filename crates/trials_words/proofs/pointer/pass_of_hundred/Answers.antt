use Rattle.trials_words.proofs.Stocks.{empty-links, fresh-range}
use Rattle.trials_words.proofs.pointer.pass_of_hundred.Goals as goal

pub start-requires-clause-links : goal.start-requires-clause-links
start-requires-clause-links c = empty-links c.in_ok-links.links 100 c.in_ok-links.ensures

pub start-requires-clause-fresh : goal.start-requires-clause-fresh
start-requires-clause-fresh c = fresh-range c.in_ok-links.links c.in_ok-stock.stock 100 1000 c.args.count c.in_ok-links.ensures c.in_ok-stock.ensures
