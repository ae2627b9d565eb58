-- What ties images and snapshots.
use Rattle.std.specs.Prelude.{◌≡◌, ℕ, ◌^◌, ◌<◌, List, [], ◌∷◌, length, All, Ok, None}
use Rattle.std.specs.List.{AllByRecursion}
use Rattle.sg_layout.specs.declared.shape.Shape.{Shape}
use Rattle.sg_layout.specs.Accepted.{IsAccepted}
use Rattle.sg_layout.specs.Need.{first_full}
use Rattle.sg_flat.specs.declared.state.FlatLayout.{FlatLayout}
use Rattle.sg_flat.specs.declared.state.FlatState.{FlatState}
use Rattle.sg_flat.specs.State.{IsFlat}
use Rattle.sg_snapshot.specs.Image.{image_of}
use Rattle.sg_snapshot.specs.Restoring.{restored}

-- no node of these layouts needs more than its cap
abbrev pub Fits : List Shape → List FlatLayout → Type 0
Fits [] flats = Unit {0}
Fits (shape ∷ shapes) [] = Unit {0}
Fits (shape ∷ shapes) (flat ∷ flats) = (first_full shape flat.active ≡ None) × Fits shapes flats

-- the image of a flat state that fits is restored to it
abbrev pub ImageIsRestored : Type 0
ImageIsRestored = (shapes : List Shape) (state : FlatState) → length shapes < 2 ^ 32 → AllByRecursion IsAccepted shapes → IsFlat shapes state → Fits shapes state.layouts
    → restored shapes (image_of shapes state) ≡ Ok state

-- a state is flat and fits, and bytes are its image
pub record IsImageOf (shapes : List Shape) (state : FlatState) (bytes : List ℕ) : Type 0 where
  pub flat : IsFlat shapes state
  pub fits : Fits shapes state.layouts
  pub image : image_of shapes state ≡ bytes

-- what is restored is flat and fits, and the bytes are its image
abbrev pub RestoredIsImage : Type 0
RestoredIsImage = (shapes : List Shape) (state : FlatState) (bytes : List ℕ) → AllByRecursion IsAccepted shapes → All (λ byte. byte < 256) bytes
    → restored shapes bytes ≡ Ok state → IsImageOf shapes state bytes
