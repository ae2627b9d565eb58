-- Dense nodes, as a walk from outside goes through them.
use Rattle.std.specs.Prelude.{◌≡◌, refl, ℕ, suc, ◌+◌, ◌*◌, ◌^◌, ◌<◌, ◌≤◌, List, [], ◌∷◌, ◌++◌, length, slice_index}
use Rattle.sg_layout.specs.declared.shape.Kind.TheVariants.{Dense}
use Rattle.sg_layout.specs.Axes.{sizes_of}
use Rattle.sg_layout.specs.Live.{kind_at}
use Rattle.sg_store.specs.declared.spot.Spot.{Spot}
use Rattle.sg_store.specs.StoreWords.{StoreWords}
use Rattle.sg_store.specs.Spots.{LeadsAlong, IsSpot}

-- the spot after the node, in the same copy of its segment, over an offset
abbrev pub spot_over : Spot → ℕ → ℕ → Spot
spot_over spot size offset = record { node = spot.node + 1; part = spot.part; slot = spot.slot * size + offset }

over_offset_two_of_four : spot_over (record { node = 1; part = 3; slot = 5 }) 4 2 ≡ record { node = 2; part = 3; slot = 22 }
over_offset_two_of_four = refl

-- The node with this index, from 0, is dense and has this size, and from each spot before it and over each offset below the size the walk goes on in
-- the same copy of the segment.
pub record IsDenseNode (store : StoreWords) (index size : ℕ) : Type 0 where
  pub within : index < length store.shape.nodes
  pub dense : kind_at store.shape.nodes (suc index) ≡ Dense
  pub size_is : size ≡ slice_index (sizes_of store.shape.nodes) index
  pub room : (spot : Spot) → spot.node ≡ index → IsSpot store spot → spot.slot * size + size ≤ 2 ^ 30
  pub leads : (spot : Spot) (path : List ℕ) (offset : ℕ) → spot.node ≡ index → LeadsAlong store spot path → offset < size → LeadsAlong store (spot_over spot size offset) (path ++ offset ∷ [])
