use Rattle.std.proofs.lemmas.List.Sorted.{IsPermutation-refl}
use Rattle.sg_elements.proofs.Halves.{sorted_between}
use Rattle.sg_elements.proofs.reached.part_rows.Goals as goal

pub returns-then-are_many : goal.returns-then-are_many
returns-then-are_many c = sorted_between c.args.store.now c.args.node c.args.from c.args.to c.in_ok-rows.rows.items c.in_ok-rows.rows.items c.in_ok-rows.ensures (IsPermutation-refl c.in_ok-rows.rows.items)

pub returns : goal.returns
returns c = sorted_between c.args.store.now c.args.node c.args.from c.args.to c.in_ok-rows.rows.items c.sort.new.self.items c.in_ok-rows.ensures c.in_ok-sort.ensures.permutation
