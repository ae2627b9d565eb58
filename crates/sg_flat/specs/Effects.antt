use Rattle.std.specs.Prelude.{ℕ, Bool, ◌&&◌, List, map, filter, ◌==◌}
use Rattle.std.specs.List.{flat_map, fold}
use Rattle.sg_coord.specs.declared.coord.Coord.{Coord}
use Rattle.sg_coord.specs.Bounds.{Bounds}
use Rattle.sg_coord.specs.Coord.{row_of}
use Rattle.sg_words.specs.declared.operators.Ty.{Ty}
use Rattle.sg_words.specs.Words.{folded}
use Rattle.sg_flat.specs.declared.effects.Way.{Way}
use Rattle.sg_flat.specs.declared.effects.Way.TheVariants.{Own, Acc}
use Rattle.sg_flat.specs.declared.effects.Write.{Write}
use Rattle.sg_flat.specs.declared.effects.Turn.{Turn}

-- all writes, iteration by iteration, in order of execution
abbrev pub writes_of : List Turn → List Write
writes_of turns = flat_map (λ turn. turn.writes) turns

-- the coordinates that the writes into a layout have
abbrev pub written_in : ℕ → List Turn → List Coord
written_in layout turns = map (λ write. write.at) (filter (λ write. write.layout == layout) (writes_of turns))

-- the write is one to this cell of a field; for coordinates inside the bounds the row tells the cell
abbrev pub is_to : Bounds → ℕ → ℕ → ℕ → Write → Bool
is_to bounds layout place row write = (write.layout == layout) && ((write.place == place) && (row_of bounds write.at == row))

-- those of a list of writes that are to one cell of a field, in order
abbrev pub writes_to : Bounds → ℕ → ℕ → ℕ → List Write → List Write
writes_to bounds layout place row writes = filter (is_to bounds layout place row) writes

-- what one write makes of its cell's word
abbrev pub land : Ty → ℕ → Way → ℕ → ℕ
land ty old Own value = value
land ty old (Acc op) value = folded op ty old value

-- what writes to one cell make of its word: the last own value, or the fold of the contributions over the old word
abbrev pub landed : Ty → ℕ → List Write → ℕ
landed ty old writes = fold (λ word write. land ty word write.way write.value) old writes
