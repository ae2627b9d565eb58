-- What admission keeps.
use Rattle.std.specs.Prelude.{◌≡◌, ℕ, ◌+◌, ◌<◌, ◌≤◌, Bool, true, false, List, ◌∷◌, ◌++◌, map, length, AllPairs, Some, Result, Ok, Err}
use Rattle.std.specs.List.{AllByRecursion, filter, list_all, range_with_len}
use Rattle.sg_coord.specs.declared.coord.Coord.{Coord}
use Rattle.sg_coord.specs.Coord.{ComesBefore}
use Rattle.sg_layout.specs.declared.shape.Shape.{Shape}
use Rattle.sg_flat.specs.declared.effects.Write.{Write}
use Rattle.sg_flat.specs.declared.effects.Domain.TheVariants.{Range}
use Rattle.sg_flat.specs.Domain.{box_points}
use Rattle.sg_flat.specs.State.{IsFlat}
use Rattle.sg_types.specs.declared.typed.TypedStmt.{TypedStmt}
use Rattle.sg_types.specs.declared.typed.TypedKernel.{TypedKernel}
use Rattle.sg_types.specs.Values.{World, is_own, coord_of}
use Rattle.sg_types.specs.Iterations.{run_all, action_of, part_words, first_moment, writes_at, domain_of, kernel_effects}
use Rattle.sg_types.specs.WellTyped.{is_well_typed_kernel}
use Rattle.sg_types.specs.Numbers.{kernel_vars}
use Rattle.sg_admit.specs.declared.admitted.Admitted.{Admitted}
use Rattle.sg_admit.specs.declared.admitted.AdmitFault.{AdmitFault}
use Rattle.sg_admit.specs.declared.admitted.AdmitFault.TheVariants.{Rule, BoxTooLarge}
use Rattle.sg_admit.specs.Limits.{most_box_points}
use Rattle.sg_admit.specs.Lines.{Line, kernel_lines}
use Rattle.sg_admit.specs.Clean.{Giving, is_clean_giving, unclean_with, dirty_among}
use Rattle.sg_admit.specs.Slices.{walked_by, may_activate}
use Rattle.sg_admit.specs.Bounds.{constant_domain, box_size}
use Rattle.sg_admit.specs.Rules.{Facts, facts_of, kept_by, ways_in, first_way}
use Rattle.sg_admit.specs.Admission.{kept_of, admission}

-- a set of variables that has each one which gets a word from what isn't clean beside it
abbrev pub IsClosed : (ℕ → ℕ → Bool) → List Giving → (ℕ → Bool) → Type 0
IsClosed fields all vars = AllByRecursion (λ giving. is_clean_giving (record { fields = fields; vars = vars }) giving ≡ false → vars giving.var ≡ true) all

-- the dirty variables are such a set,
abbrev pub DirtyIsClosed : Type 0
DirtyIsClosed = (fields : ℕ → ℕ → Bool) (all : List Giving) → IsClosed fields all (unclean_with fields (dirty_among fields all)).vars

-- and every such set has all of them
abbrev pub DirtyIsLeast : Type 0
DirtyIsLeast = (fields : ℕ → ℕ → Bool) (all : List Giving) (vars : ℕ → Bool) → IsClosed fields all vars
    → (var : ℕ) → (unclean_with fields (dirty_among fields all)).vars var ≡ true → vars var ≡ true

-- a write with 0 in the place of its value
abbrev pub without_value : Write → Write
without_value write = record { layout = write.layout; place = write.place; stmt = write.stmt; at = write.at; way = write.way; value = 0 }

-- the writes of a slice in the iteration at a coordinate, in order of execution
abbrev pub slice_writes : World → List TypedStmt → Coord → List Write
slice_writes world slice at = (run_all (map (action_of world) slice) (first_moment at)).writes

-- In each iteration the address slice of an admitted kernel makes exactly those writes of the body that may activate, in their order,
-- each with its layout, place, statement, coordinate and way, and no value. So it wants exactly their coordinates.
abbrev pub SliceWantsWhatIsWritten : Type 0
SliceWantsWhatIsWritten = (world : World) (kernel : TypedKernel) (kept : Admitted) (at : Coord) → admission kernel ≡ Ok kept
    → slice_writes world kept.slice at ≡ map without_value (filter (λ write. may_activate (walked_by kernel.domain) write.layout write.way) (writes_at world kernel at))

-- a line that keeps all six rules
abbrev pub KeepsAll : Facts → Line → Type 0
KeepsAll facts line = list_all (λ kept. kept) (kept_by facts line) ≡ true

-- all rules before the given one are kept, and that one isn't; the rules are numbered from 1
pub record IsSmallestBroken (kept : List Bool) (rule : ℕ) : Type 0 where
  pub front : List Bool
  pub back : List Bool
  pub split : kept ≡ front ++ false ∷ back
  pub keep : list_all (λ kept. kept) front ≡ true
  pub number : rule ≡ length front + 1

-- the first line that breaks a rule, with its statement and the smallest rule that it breaks
pub record IsFirstBroken (facts : Facts) (lines : List Line) (stmt rule : ℕ) : Type 0 where
  pub front : List Line
  pub line : Line
  pub back : List Line
  pub split : lines ≡ front ++ line ∷ back
  pub keep : AllByRecursion (KeepsAll facts) front
  pub number : stmt ≡ line.number
  pub broken : IsSmallestBroken (kept_by facts line) rule

-- What an answer of admission says: if it admits, that all lines keep all rules and the box isn't too large, and what it tells of
-- the kernel; where it refuses for the box, that all lines keep all rules; where it refuses for a rule, that this is the first broken.
abbrev pub Says : TypedKernel → Result Admitted AdmitFault → Type 0
Says kernel (Ok kept) = (kept ≡ kept_of kernel) × (AllByRecursion (KeepsAll (facts_of kernel)) (kernel_lines kernel) × (box_size (constant_domain kernel) ≤ most_box_points))
Says kernel (Err BoxTooLarge) = AllByRecursion (KeepsAll (facts_of kernel)) (kernel_lines kernel) × (most_box_points < box_size (constant_domain kernel))
Says kernel (Err (Rule stmt rule)) = IsFirstBroken (facts_of kernel) (kernel_lines kernel) stmt rule

-- every answer of admission is true; a rule that it names is the smallest that the first line to break any breaks
abbrev pub FaultsAreFirst : Type 0
FaultsAreFirst = (kernel : TypedKernel) → Says kernel (admission kernel)

-- the domain of an admitted kernel is what its loop goes over in every state
abbrev pub DomainIsConstant : Type 0
DomainIsConstant = (world : World) (kernel : TypedKernel) (kept : Admitted) → admission kernel ≡ Ok kept → domain_of world kernel.domain ≡ kept.domain

-- a box has as many points as its size says
abbrev pub BoxHasItsSize : Type 0
BoxHasItsSize = (lo hi : Coord) → length (box_points lo hi) ≡ box_size (Range lo hi)

-- The own writes of an admitted kernel, well typed and with its variables numbered as typing numbers them, stand at their iteration's
-- coordinate. The coordinate has as many parts as the loop has variables, and they are the numbers of words.
abbrev pub OwnWritesStand : Type 0
OwnWritesStand = (world : World) (shapes : List Shape) (kernel : TypedKernel) (kept : Admitted) (at : Coord) → admission kernel ≡ Ok kept
    → is_well_typed_kernel shapes kernel ≡ true → kernel_vars kernel ≡ range_with_len 0 (length kernel.types)
    → length (part_words at) ≡ kernel.vars → coord_of (part_words at) ≡ at
    → AllByRecursion (λ write. is_own write.way ≡ true → write.at ≡ at) (writes_at world kernel at)

-- Each write of an admitted kernel, in whatever iteration, is made in the way in which the kernel's text writes its field first. So all
-- writes of a field are own, or all are contributions by one operator.
abbrev pub FieldsAreWrittenInOneWay : Type 0
FieldsAreWrittenInOneWay = (world : World) (kernel : TypedKernel) (kept : Admitted) (at : Coord) → admission kernel ≡ Ok kept
    → AllByRecursion (λ write. first_way (ways_in (kernel_lines kernel)) write.layout write.place ≡ Some write.way) (writes_at world kernel at)

-- in a state of its layouts the iterations of a kernel rise in row order, so no two have one coordinate
abbrev pub TurnsRise : Type 0
TurnsRise = (world : World) (kernel : TypedKernel) → IsFlat world.shapes world.state → AllPairs ComesBefore (map (λ turn. turn.at) (kernel_effects world kernel).turns)
