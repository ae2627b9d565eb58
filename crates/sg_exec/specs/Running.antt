-- What a run over stores answers.
use Rattle.std.specs.Prelude.{◌≡◌, Bool, List, [], ◌∷◌, map, true, false, Result, Ok, Err}
use Rattle.std.specs.Result.{IsOkAnd}
use Rattle.sg_words.specs.declared.memory.Stop.{Stop}
use Rattle.sg_words.specs.declared.memory.Stop.TheVariants as stop
use Rattle.sg_coord.specs.declared.coord.Coord.{Coord}
use Rattle.sg_layout.specs.declared.shape.Shape.{Shape}
use Rattle.sg_flat.specs.declared.effects.Write.{Write}
use Rattle.sg_flat.specs.declared.effects.Turn.{Turn}
use Rattle.sg_flat.specs.declared.effects.Effects.{Effects}
use Rattle.sg_flat.specs.declared.effects.Domain.{Domain}
use Rattle.sg_flat.specs.declared.effects.RunFault.{RunFault}
use Rattle.sg_flat.specs.declared.state.FlatState.{FlatState}
use Rattle.sg_flat.specs.Domain.{domain_points}
use Rattle.sg_flat.specs.Kernel.{kernel_meaning}
use Rattle.sg_store.specs.StoreWords.{StoreWords}
use Rattle.sg_ir.specs.declared.code.KernelCode.{KernelCode}
use Rattle.sg_ir.specs.Runs.{Seen, CodeWrite, CodeWant, iteration}
use Rattle.sg_ir.specs.WellTyped.{is_well_typed}
use Rattle.sg_ir.specs.Apt.{IsApt, may_activate}
use Rattle.sg_exec.specs.Standing.{StandForState}

-- kernel code that can be run over layouts of these shapes
pub record IsRunnable (shapes : List Shape) (kernel : KernelCode) : Type 0 where
  pub slice_typed : is_well_typed shapes kernel.slice ≡ true
  pub code_typed : is_well_typed shapes kernel.code ≡ true
  pub apt : IsApt shapes kernel

-- where a write is, by whether it may activate: at the coordinate of the first want that is left, else at the loop's
abbrev pub coord_of_write : Bool → List CodeWant → Coord → Coord
coord_of_write true (want ∷ wants) at = want.at
coord_of_write true [] at = at
coord_of_write false wants at = at

-- the wants that are left after a write, by whether it may activate
abbrev pub wants_left : Bool → List CodeWant → List CodeWant
wants_left true (want ∷ wants) = wants
wants_left true [] = []
wants_left false wants = wants

-- a code's write, at a coordinate
abbrev pub write_at : CodeWrite → Coord → Write
write_at write at = record {
  layout = write.layout;
  place = write.field;
  stmt = write.stmt;
  at = at;
  way = write.way;
  value = write.value;
}

-- The writes that code makes at a coordinate of its loop, in order: each that may activate is at the coordinate of its want. The others
-- are own writes into the layout that the loop walks, at the loop's coordinate.
abbrev pub located : Domain → Coord → List CodeWant → List CodeWrite → List Write
located domain at wants [] = []
located domain at wants (write ∷ writes) =
    write_at write (coord_of_write (may_activate domain write) wants at)
    ∷ located domain at (wants_left (may_activate domain write) wants) writes

-- what an iteration sees
abbrev pub seen_at : List Shape → FlatState → Coord → Seen
seen_at shapes state at = record { shapes = shapes; state = state; at = at }

-- the turn of an iteration: what the code writes, where the slice wants it
abbrev pub code_turn : List Shape → FlatState → KernelCode → Coord → Turn
code_turn shapes state kernel at = record {
  at = at;
  writes = located kernel.domain at (iteration (seen_at shapes state at) kernel.slice.body).wants
      (iteration (seen_at shapes state at) kernel.code.body).writes;
}

-- the effects of kernel code: the turn of each coordinate of its domain, in row order, each at the state at the start
abbrev pub code_effects : List Shape → FlatState → KernelCode → Effects
code_effects shapes state kernel =
    record { turns = map (code_turn shapes state kernel) (domain_points state kernel.domain) }

-- the meaning of a run of kernel code
abbrev pub run_meaning : List Shape → FlatState → KernelCode → Result FlatState RunFault
run_meaning shapes state kernel = kernel_meaning shapes state (code_effects shapes state kernel)

-- the turn of one listed write, at its own coordinate
abbrev pub turn_of : Write → Turn
turn_of write = record { at = write.at; writes = write ∷ [] }

-- the meaning of a load: the run of a turn for each listed write
abbrev pub load_meaning : List Shape → FlatState → List Write → Result FlatState RunFault
load_meaning shapes state rows = kernel_meaning shapes state (record { turns = map turn_of rows })

-- What a run answered is what its meaning says: with Ok the stores stand for the meaning's state, and a refusal is that of the meaning. Want
-- of memory is free.
abbrev pub Ran : List Shape → List StoreWords → Result Unit (Stop RunFault) → Result FlatState RunFault → Type 0
Ran shapes after (Ok done) meaning = IsOkAnd meaning (StandForState shapes after)
Ran shapes after (Err stop.Memory) meaning = Unit {0}
Ran shapes after (Err (stop.Refused fault)) meaning = meaning ≡ Err fault
