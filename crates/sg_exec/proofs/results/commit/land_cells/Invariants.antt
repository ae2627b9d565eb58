use Rattle.std.proofs.Common.{◌≡◌, ℕ, List, map, take}
use Rattle.std.specs.Prelude.{slice_get}
use Rattle.sg_flat.specs.declared.effects.Write.{Write}
use Rattle.sg_store.specs.StoreWords.{StoreWords}
use Rattle.sg_exec.specs.steps.Landing.{landing, Lands}
use Rattle.sg_exec.specs.steps.Made.{HaveTrees, NoWriteInto}
use Rattle.sg_exec.proofs.results.commit.land_cells.Given as goal

abbrev pub invariant-loop-write : goal.invariant-loop-write
invariant-loop-write l = record {
  trees : HaveTrees l.fn.stores.items l.stores.items;
  lands : (base : List StoreWords) (made : List Write) → HaveTrees base l.fn.stores.items → l.writes ≡ map (landing base) made → Lands l.fn.stores.items l.stores.items (take l.write-index made);
  kept : (layout : ℕ) → NoWriteInto l.writes layout → slice_get l.stores.items layout ≡ slice_get l.fn.stores.items layout;
}
