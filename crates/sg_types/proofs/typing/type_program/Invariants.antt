use Rattle.std.proofs.Common.{◌≡◌, ◌≤◌, length, drop, []}
use Rattle.sg_types.specs.steps.Taking.{typed_after}
use Rattle.sg_types.proofs.typing.type_program.Given as goal

-- the kernels so far, and those of the items that are left, are those of all
abbrev pub invariant-loop-item : goal.invariant-loop-item
invariant-loop-item l = record {
  value : typed_after l.names l.kernels l.constants (drop l.item-index l.item-items) ≡ typed_after l.names [] 0 l.item-items;
  few_kernels : length l.kernels ≤ l.item-index;
  few_constants : l.constants ≤ l.item-index;
}
