-- What a look knows of wanted coordinates, and what it notes.
use Rattle.std.specs.Prelude.{◌≡◌, ℕ, ◌<◌, ◌≤◌, ◌⊎◌, List, ◌++◌, All, Contains, IsSome, Some, None}
use Rattle.sg_coord.specs.declared.coord.Coord.{Coord}
use Rattle.sg_coord.specs.Coord.{Inside}
use Rattle.sg_layout.specs.Axes.{bounds_of_shape}
use Rattle.sg_store.specs.StoreWords.{StoreWords}
use Rattle.sg_store.specs.Walks.{cell_in}
use Rattle.sg_activate.specs.declared.notes.Notes.{Notes}
use Rattle.sg_activate.specs.Activating.{wanted_below}
use Rattle.sg_activate.specs.steps.Finding.{coords_found, found_in}

-- a coordinate is inside, wanted by one of so many pieces, whichever lists are meant, and isn't active in the store
abbrev pub IsNew : StoreWords → ((ℕ → List Coord) → Type 0) → ℕ → Coord → Type 0
IsNew store Means count at =
    Inside (bounds_of_shape store.shape) at × ((list : ℕ → List Coord) → Means list → Contains (wanted_below list count) at) × (cell_in store at ≡ None)

-- a coordinate is active in the store, or stands in a list
abbrev pub IsKnown : StoreWords → List Coord → Coord → Type 0
IsKnown store found at = IsSome (cell_in store at) ⊎ Contains found at

-- all that pieces want, from one number on to below another, is known so, whichever lists are meant
abbrev pub AreKnown : StoreWords → ((ℕ → List Coord) → Type 0) → ℕ → ℕ → List Coord → Type 0
AreKnown store Means from to found =
    (list : ℕ → List Coord) → Means list → (piece : ℕ) → from ≤ piece → piece < to → (at : Coord) →
    Contains (list piece) at → IsKnown store found at

-- what a worker has noted so far
abbrev pub noted : Notes → List Coord
noted notes = coords_found notes.axes notes.fresh ++ found_in notes.axes notes.found

-- what it looked at last is known
abbrev pub LastIsKnown : StoreWords → Notes → Type 0
LastIsKnown store notes = (at : Coord) → notes.last ≡ Some at → IsKnown store (noted notes) at

-- what is noted since isn't active in the store
abbrev pub NotesNew : StoreWords → Notes → Notes → Type 0
NotesNew store old now = (at : Coord) → Contains (noted now) at → Contains (noted old) at ⊎ (cell_in store at ≡ None)

-- later notes, which have some of these coordinates too
pub record NotesGrew (coords : List Coord) (old now : Notes) : Type 0 where
  pub same_axes : now.axes ≡ old.axes
  pub same_worker : now.worker ≡ old.worker
  pub only : (at : Coord) → Contains (noted now) at → Contains (noted old) at ⊎ Contains coords at
  pub stays : (at : Coord) → Contains (noted old) at → Contains (noted now) at
  pub of_workers : (count : ℕ) → old.worker < count → All (λ finds. finds.worker < count) old.found → All (λ finds. finds.worker < count) now.found
