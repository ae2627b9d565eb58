-- A list that is built item by item, after another.
use Rattle.std.specs.Prelude.{◌≡◌, ℕ, List, length, Some, slice_get}

-- of each of the first items of the one list there is an item of the other
pub record IsBuilt {X Y : Type 0} (R : X → Y → Type 0) (xs : List X) (so_far : ℕ) (ys : List Y) : Type 0 where
  pub many : length ys ≡ so_far
  pub each : (i : ℕ) (y : Y) → slice_get ys i ≡ Some y → (x : X) × (slice_get xs i ≡ Some x) × R x y
