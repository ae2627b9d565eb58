use Rattle.std.proofs.Common.{◌≡◌, take, drop}
use Rattle.sg_links.specs.Lists.{list_of, with_list}
use Rattle.sg_pool.proofs.free_list.pop_taken.Given as goal

abbrev pub invariant-loop-number : goal.invariant-loop-number
invariant-loop-number l = record {
  counted : l.gone ≡ l.number-index;
  same : take l.gone l.taken ≡ take l.gone (list_of l.fn.free 0);
  left : l.free ≡ with_list l.fn.free 0 (drop l.gone (list_of l.fn.free 0));
}
