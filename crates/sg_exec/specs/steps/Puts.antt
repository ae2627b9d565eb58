-- The own writes that workers keep, as one list.
use Rattle.std.specs.Prelude.{List, ◌++◌, Vec}
use Rattle.std.specs.List.{flat_map}
use Rattle.std.specs.declared.alloc.Global.{Global}
use Rattle.sg_exec.specs.declared.lanes.cell_write.CellWrite.{CellWrite}
use Rattle.sg_exec.specs.declared.results.own_writes.Puts.{Puts}

-- the writes of lists, one list after the other
abbrev pub in_lists : List (Vec CellWrite Global) → List CellWrite
in_lists lists = flat_map (λ (list : Vec CellWrite Global). list.items) lists

-- the writes that are kept
abbrev pub kept_writes : Puts → List CellWrite
kept_writes puts = in_lists puts.before.items ++ puts.last.items
