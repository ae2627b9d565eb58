use Rattle.std.proofs.Common.{◌≡◌, ℕ, List, take}
use Rattle.std.specs.Prelude.{All, slice_get}
use Rattle.sg_flat.specs.declared.effects.Write.{Write}
use Rattle.sg_exec.specs.declared.results.sums.Sum.{Sum}
use Rattle.sg_exec.specs.steps.Landing.{Lands}
use Rattle.sg_exec.specs.steps.Made.{AreSums, HaveTrees, KeepsField, NoSumOf, summed}
use Rattle.sg_exec.proofs.results.commit.land_sums.Given as goal

abbrev pub invariant-loop-sum : goal.invariant-loop-sum
invariant-loop-sum l = record {
  trees : HaveTrees l.fn.stores.items l.stores.items;
  fresh : (layout field : ℕ) → All (λ (sum : Sum). layout ≡ sum.layout → field ≡ sum.field → ⊥) (take l.sum-index l.sums) → KeepsField l.fn.stores.items l.stores.items layout field;
  lands : (writes : List Write) → AreSums l.fn.stores.items l.sums writes → Lands l.fn.stores.items l.stores.items (summed (take l.sum-index l.sums) writes);
  kept : (layout : ℕ) → NoSumOf l.sums layout → slice_get l.stores.items layout ≡ slice_get l.fn.stores.items layout;
}
