use Rattle.std.proofs.Common.{◌-◌, arith}
use Rattle.sg_store.proofs.Filled.{stock_fresh, enough_of}
use Rattle.sg_store.proofs.pointer.plan_links.Goals as goal

pub fill-taken-requires-clause-fresh : goal.fill-taken-requires-clause-fresh
fill-taken-requires-clause-fresh c =
    stock_fresh c.args.kept.now c.in_ok-stock.stock _ _ c.in_ok-stock.ensures.can c.requires.linked c.in_ok-links.ensures c.as_slice.ensures

pub fill-taken-requires-clause-enough : goal.fill-taken-requires-clause-enough
fill-taken-requires-clause-enough c =
    enough_of c.args.kept.now c.in_ok-stock.stock c.args.slots.now _ c.args.cap (c.args.cap - c.live.result) c.in_ok-stock.ensures.enough c.requires.places (omega (arith, c.live.ensures, c.requires.within_cap)) c.as_slice.ensures
