-- Setting bits of masks.
use Rattle.std.specs.Prelude.{◌≡◌, ℕ, ◌||◌, ◌==◌, List, length}
use Rattle.std.specs.List.{list_any}
use Rattle.sg_store.specs.declared.node.NodeWords.{NodeWords}
use Rattle.sg_store.specs.Slots.{mask_bit}
use Rattle.sg_store.specs.Changes.{IsRemasked}

-- the masks with the bits of these numbers set besides
pub record IsMarked (before after numbers : List ℕ) : Type 0 where
  pub bits : (bit : ℕ) → mask_bit after bit ≡ (mask_bit before bit || list_any (λ number. number == bit) numbers)
  pub as_many : length after ≡ length before

-- a node's words with the bits of these numbers set besides, and all else as before
pub record HasMarked (numbers : List ℕ) (kept after : NodeWords) : Type 0 where
  pub marked : IsMarked kept.masks after.masks numbers
  pub same : IsRemasked after.masks kept after
