use Rattle.std.proofs.Common.{◌≡◌, ℕ, List, Option, Some, length}
use Rattle.std.specs.Prelude.{slice_get, unwrap_or}
use Rattle.sg_coord.specs.declared.coord.Coord.{Coord}
use Rattle.sg_store.specs.StoreWords.{StoreWords}
use Rattle.sg_store.specs.Links.{GrowsLinks}
use Rattle.sg_exec.specs.steps.Landing.{CopiesInto}
use Rattle.sg_exec.specs.steps.Turning.{AreMeant, MayWant}
use Rattle.sg_exec.specs.steps.Wants.{AreReached}
use Rattle.sg_exec.proofs.activation.activate.activated_copies.Given as goal

abbrev pub invariant-loop-number : goal.invariant-loop-number
invariant-loop-number g l = record {
  count : length l.copies.items ≡ l.number;
  reached : (wants : List (List Coord)) → AreMeant l.stores.list l.turns wants → AreReached l.stores.list wants l.copies.items;
  shapes : (j : ℕ) (store : StoreWords) (copy : Option StoreWords) → slice_get l.stores.list j ≡ Some store → slice_get l.copies.items j ≡ Some copy → (unwrap_or copy store).shape ≡ store.shape;
  links : (j : ℕ) (store : StoreWords) (copy : Option StoreWords) → slice_get l.stores.list j ≡ Some store → slice_get l.copies.items j ≡ Some copy → GrowsLinks store (unwrap_or copy store);
  into : CopiesInto (MayWant l.turns) l.copies.items;
}
