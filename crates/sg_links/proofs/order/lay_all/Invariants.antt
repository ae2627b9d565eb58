use Rattle.std.proofs.Common.{◌≡◌, length, take}
use Rattle.std.specs.Prelude.{sum_by}
use Rattle.sg_links.specs.Heads.{lists_of}
use Rattle.sg_links.specs.steps.Rows.{AreLaid}
use Rattle.sg_links.proofs.order.lay_all.Given as goal

abbrev pub invariant-loop-head : goal.invariant-loop-head
invariant-loop-head l = record {
  laid : AreLaid l.head (lists_of l.next l.heads) l.starts l.order l.end;
  sum : l.end ≡ sum_by length (take l.head (lists_of l.next l.heads));
  starts : length l.starts ≡ length l.heads;
  order : length l.order ≡ length l.next;
}
