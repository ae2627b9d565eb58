use Rattle.std.proofs.Common.{suc, ◌-◌}
use Rattle.sg_store.specs.steps.KeptWords.{in_row}
use Rattle.sg_store.specs.steps.StorePlans.{IsRowAt, ArePlansFrom}
use Rattle.sg_store.proofs.store.Store.plans.Given as goal

abbrev pub invariant-loop-done : goal.invariant-loop-done
invariant-loop-done l = record {
  row : IsRowAt l.self.shape.nodes l.self.nodes (in_row l.fn.cells) (suc l.nodes - l.done) l.row;
  plans : ArePlansFrom l.self.shape.nodes l.self.nodes (in_row l.fn.cells) (suc l.nodes - l.done) l.plans.items;
}
