-- The image of a flat state: what a snapshot has of it.
use Rattle.std.specs.Prelude.{ℕ, List, [], ◌∷◌, map}
use Rattle.sg_layout.specs.declared.shape.Shape.{Shape}
use Rattle.sg_layout.specs.Axes.{bounds_of_shape}
use Rattle.sg_coord.specs.Coord.{row_of}
use Rattle.sg_flat.specs.declared.state.FlatLayout.{FlatLayout}
use Rattle.sg_flat.specs.declared.state.FlatState.{FlatState}
use Rattle.sg_flat.specs.State.{value_in}
use Rattle.sg_snapshot.specs.declared.part.Part.{Part}
use Rattle.sg_snapshot.specs.Parts.{parts_bytes}

-- the part of a flat layout: the row numbers of its active coordinates, in order, and for each field their words in that order
abbrev pub part_of : Shape → FlatLayout → Part
part_of shape flat = record {
  rows = map (row_of (bounds_of_shape shape)) flat.active;
  words = map (λ words. map (value_in (bounds_of_shape shape) words) flat.active) flat.fields;
}

-- the parts of flat layouts of these shapes
abbrev pub parts_of : List Shape → List FlatLayout → List Part
parts_of [] flats = []
parts_of (shape ∷ shapes) [] = []
parts_of (shape ∷ shapes) (flat ∷ flats) = part_of shape flat ∷ parts_of shapes flats

-- the image of a state of layouts of these shapes
abbrev pub image_of : List Shape → FlatState → List ℕ
image_of shapes state = parts_bytes (parts_of shapes state.layouts)
