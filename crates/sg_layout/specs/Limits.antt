-- How much a layout may have. The limits of its axes and extents are those of coordinates.
use Rattle.std.specs.Prelude.{ℕ, ◌^◌}

-- the most nodes of a layout
abbrev pub most_nodes : ℕ
most_nodes = 6

-- the most fields of a layout
abbrev pub most_fields : ℕ
most_fields = 16

-- the greatest cap of a node: its child containers, or its chunks
abbrev pub most_cap : ℕ
most_cap = 2 ^ 16

-- the spare child containers of a node: one for each of 16 workers, and one more
abbrev pub spare_places : ℕ
spare_places = 17

-- the most storage words of all layouts together
abbrev pub most_words : ℕ
most_words = 2 ^ 22
