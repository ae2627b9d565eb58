-- Which layouts kernel code writes, reads, asks and walks, by the text of its slice and its code.
use Rattle.std.specs.Prelude.{◌≡◌, ℕ, Bool, List, [], ◌∷◌, ◌++◌, ◌==◌, slice_get, Contains}
use Rattle.std.specs.List.{flat_map, list_any}
use Rattle.sg_coord.specs.declared.coord.Coord.{Coord}
use Rattle.sg_layout.specs.declared.shape.Shape.{Shape}
use Rattle.sg_flat.specs.declared.effects.Domain.{Domain}
use Rattle.sg_flat.specs.declared.effects.Domain.TheVariants.{Walk, Range}
use Rattle.sg_flat.specs.declared.state.FlatState.{FlatState}
use Rattle.sg_ir.specs.declared.code.Inst.{Inst, fold-Inst}
use Rattle.sg_ir.specs.declared.code.Inst.TheOpen as i
use Rattle.sg_ir.specs.declared.code.Inst.TheOpen.{Inst-F}
use Rattle.sg_ir.specs.declared.code.KernelCode.{KernelCode}
use Rattle.sg_ir.specs.Runs.{iteration}
use Rattle.sg_ir.specs.Apt.{Use, Writes, Reads, ReadsOwn, uses_in, uses_step}

-- the layout into which a use writes
abbrev pub layout_written : Use → List ℕ
layout_written (Writes layout field way) = layout ∷ []
layout_written (Reads layout field) = []
layout_written (ReadsOwn layout field) = []

-- the layout that a use writes or reads
abbrev pub layout_touched : Use → List ℕ
layout_touched (Writes layout field way) = layout ∷ []
layout_touched (Reads layout field) = layout ∷ []
layout_touched (ReadsOwn layout field) = layout ∷ []

-- One layer: the layouts in which an instruction wants a coordinate, where those of the instructions in it are given
abbrev pub wanted_step : Inst-F (List ℕ) → List ℕ
wanted_step (i.Want layout index stmt) = layout ∷ []
wanted_step (i.If cond block otherwise) = flat_map (λ layouts. layouts) block ++ flat_map (λ layouts. layouts) otherwise
wanted_step (i.For var lo hi body) = flat_map (λ layouts. layouts) body
wanted_step _ = []

-- the layouts in which an instruction wants a coordinate
abbrev pub wanted_by : Inst → List ℕ
wanted_by = fold-Inst (List ℕ) wanted_step

-- the layouts in which a block wants coordinates, in order of the text
abbrev pub layouts_wanted : List Inst → List ℕ
layouts_wanted block = flat_map wanted_by block

-- the uses in an instruction
abbrev pub uses_by : Inst → List Use
uses_by = fold-Inst (List Use) uses_step

-- One layer: the layouts in which an instruction takes a place from the root, where those of the instructions in it are given
abbrev pub rooted_step : Inst-F (List ℕ) → List ℕ
rooted_step (i.Root to layout) = layout ∷ []
rooted_step (i.If cond block otherwise) = flat_map (λ layouts. layouts) block ++ flat_map (λ layouts. layouts) otherwise
rooted_step (i.For var lo hi body) = flat_map (λ layouts. layouts) body
rooted_step _ = []

-- The layouts in which an instruction takes a place. What is asked is asked at a place, and each place serves a question, a read or a contribution.
abbrev pub rooted_by : Inst → List ℕ
rooted_by = fold-Inst (List ℕ) rooted_step

-- the layouts that an instruction writes: what a slice wants is what its code writes where that may activate, so a want counts as a write
abbrev pub written_by : Inst → List ℕ
written_by inst = wanted_by inst ++ flat_map layout_written (uses_by inst)

-- those that it writes, reads or asks
abbrev pub touched_by : Inst → List ℕ
touched_by inst = rooted_by inst ++ (wanted_by inst ++ flat_map layout_touched (uses_by inst))

-- the layouts that a kernel writes, by the text of its slice and of its code
abbrev pub layouts_written : KernelCode → List ℕ
layouts_written kernel = flat_map written_by kernel.slice.body ++ flat_map written_by kernel.code.body

-- the layout that a loop walks
abbrev pub layouts_walked : Domain → List ℕ
layouts_walked (Walk layout) = layout ∷ []
layouts_walked (Range lo hi) = []

-- the layouts that a kernel writes, reads, asks or walks
abbrev pub layouts_touched : KernelCode → List ℕ
layouts_touched kernel = flat_map touched_by kernel.slice.body ++ (flat_map touched_by kernel.code.body ++ layouts_walked kernel.domain)

-- the number is in the list
abbrev pub is_among : List ℕ → ℕ → Bool
is_among list number = list_any (λ other. other == number) list

-- two states have the same layout where a use reads
abbrev pub AreSameFor : FlatState → FlatState → Use → Type 0
AreSameFor one other (Writes layout field way) = Unit {0}
AreSameFor one other (Reads layout field) = slice_get one.layouts layout ≡ slice_get other.layouts layout
AreSameFor one other (ReadsOwn layout field) = slice_get one.layouts layout ≡ slice_get other.layouts layout

-- at two states that have the same layouts wherever a block reads or takes a place, an iteration writes and wants the same
abbrev pub ReadsDecide : Type 0
ReadsDecide =
    (shapes : List Shape) (block : List Inst) (one other : FlatState) →
    ((it : Use) → Contains (uses_in block) it → AreSameFor one other it) →
    ((layout : ℕ) → Contains (flat_map rooted_by block) layout → slice_get one.layouts layout ≡ slice_get other.layouts layout) → (at : Coord) →
    ((iteration (record { shapes = shapes; state = one; at = at }) block).writes
    ≡ (iteration (record { shapes = shapes; state = other; at = at }) block).writes)
    × ((iteration (record { shapes = shapes; state = one; at = at }) block).wants
    ≡ (iteration (record { shapes = shapes; state = other; at = at }) block).wants)
