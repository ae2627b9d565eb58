use Rattle.std.proofs.Common.{◌≡◌, ◌+◌, ◌≤◌, cond, ltb, drop}
use Rattle.sg_layout.specs.Closure.{last_sparse}
use Rattle.sg_flat.proofs.closure.last_sparse.Given as goal

abbrev pub invariant-loop-index : goal.invariant-loop-index
invariant-loop-index l = record {
  value : cond (ltb 0 (last_sparse (drop l.index l.nodes))) (l.index + last_sparse (drop l.index l.nodes)) l.last ≡ last_sparse l.nodes;
  most : l.last ≤ l.index;
}
