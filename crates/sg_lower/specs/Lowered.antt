-- What lowered code tells: the writes and the wants that stand for the writes of an iteration.
use Rattle.std.specs.Prelude.{◌≡◌, Bool, if◌then◌else◌, List, map, length, slice_get, Option, Some, None}
use Rattle.std.specs.List.{filter, Contains}
use Rattle.sg_coord.specs.declared.coord.Coord.{Coord}
use Rattle.sg_layout.specs.declared.shape.Shape.{Shape}
use Rattle.sg_flat.specs.declared.effects.Write.{Write}
use Rattle.sg_flat.specs.declared.state.FlatState.{FlatState}
use Rattle.sg_flat.specs.State.{IsFlat}
use Rattle.sg_flat.specs.Domain.{domain_points}
use Rattle.sg_flat.specs.Kernel.{is_inside_of}
use Rattle.sg_types.specs.declared.typed.TypedKernel.{TypedKernel}
use Rattle.sg_types.specs.Values.{is_own, coord_of}
use Rattle.sg_types.specs.Iterations.{part_words, writes_at}
use Rattle.sg_admit.specs.declared.admitted.Admitted.{Admitted}
use Rattle.sg_admit.specs.Slices.{walked_by, may_activate}
use Rattle.sg_ir.specs.declared.code.Inst.{Inst}
use Rattle.sg_ir.specs.Runs.{CodeWrite, CodeWant, Moved, iteration}
use Rattle.sg_ir.specs.Named.{AreNamed}

-- if code writes: an own write at its coordinate, a contribution at none if its coordinate is outside
abbrev pub code_at : Bool → Bool → Coord → Option Coord
code_at own inside at = if own then Some at else if inside then Some at else None

-- what code writes for a write of an iteration: the same write, but that a contribution outside goes to none
abbrev pub code_write : List Shape → Write → CodeWrite
code_write shapes write = record {
  layout = write.layout;
  field = write.place;
  stmt = write.stmt;
  at = code_at (is_own write.way) (is_inside_of (slice_get shapes write.layout) write.at) write.at;
  way = write.way;
  value = write.value;
}

-- what the code of a slice wants for a write of the slice
abbrev pub want_of : Write → CodeWant
want_of write = record { layout = write.layout; stmt = write.stmt; at = write.at }

-- Something holds of every run of code: over every flat state, in the iteration at every coordinate that has as many parts as the
-- kernel's loop has variables, all of them numbers of words.
abbrev pub InEveryRun : List Shape → TypedKernel → List Inst → (FlatState → Coord → Moved → Type 0) → Type 0
InEveryRun shapes kernel block holds = (state : FlatState) → IsFlat shapes state → (at : Coord) → length (part_words at) ≡ kernel.vars → coord_of (part_words at) ≡ at
    → holds state at (iteration (record { shapes = shapes; state = state; at = at }) block)

-- code writes what the kernel's iteration does, writes outside included
abbrev pub WritesAsKernel : List Shape → TypedKernel → List Inst → Type 0
WritesAsKernel shapes kernel block =
    InEveryRun shapes kernel block (λ state at moved. moved.writes ≡ map (code_write shapes) (writes_at (record { shapes = shapes; state = state }) kernel at))

-- code wants the coordinates of the writes of the kernel's iteration that may activate, in their order
abbrev pub WantsAsKernel : List Shape → TypedKernel → List Inst → Type 0
WantsAsKernel shapes kernel block = InEveryRun shapes kernel block (λ state at moved. moved.wants
    ≡ map want_of (filter (λ write. may_activate (walked_by kernel.domain) write.layout write.way) (writes_at (record { shapes = shapes; state = state }) kernel at)))

-- every access of code goes where its index registers say
abbrev pub NamesItsAccesses : List Shape → TypedKernel → List Inst → Type 0
NamesItsAccesses shapes kernel block = InEveryRun shapes kernel block (λ state at moved. AreNamed shapes moved.accesses)

-- each point of a kernel's domain has as many parts as its loop has variables, all of them numbers of words
abbrev pub PointsAreWhole : List Shape → Admitted → Type 0
PointsAreWhole shapes kept = (state : FlatState) → IsFlat shapes state → (at : Coord) → Contains (domain_points state kept.domain) at
    → (length (part_words at) ≡ kept.kernel.vars) × (coord_of (part_words at) ≡ at)
