-- Apt kernel code: its slice wants exactly when the writes of its code that may activate go, and fields are used in one way.
use Rattle.std.specs.Prelude.{◌≡◌, ℕ, ◌≤◌, ◌<◌, ◌^◌, Bool, not, ◌&&◌, ◌⊎◌, ◌==◌, false, List, [], ◌∷◌, ◌++◌, length, filter, slice_get, Option, Some, None, option_map, Contains}
use Rattle.std.specs.List.{flat_map, AllZip}
use Rattle.sg_words.specs.declared.operators.AccOp.{AccOp}
use Rattle.sg_coord.specs.declared.coord.Coord.{Coord}
use Rattle.sg_layout.specs.declared.shape.Shape.{Shape}
use Rattle.sg_flat.specs.declared.effects.Way.{Way}
use Rattle.sg_flat.specs.declared.effects.Way.TheVariants.{Own, Acc}
use Rattle.sg_flat.specs.declared.effects.Domain.{Domain}
use Rattle.sg_flat.specs.declared.effects.Domain.TheVariants.{Walk, Range}
use Rattle.sg_flat.specs.declared.state.FlatState.{FlatState}
use Rattle.sg_flat.specs.State.{IsFlat}
use Rattle.sg_flat.specs.Domain.{box_points, domain_points}
use Rattle.sg_flat.specs.Kernel.{is_inside_of}
use Rattle.sg_ir.specs.declared.code.Inst.{Inst, fold-Inst}
use Rattle.sg_ir.specs.declared.code.Inst.TheOpen as i
use Rattle.sg_ir.specs.declared.code.Inst.TheOpen.{Inst-F}
use Rattle.sg_ir.specs.declared.code.KernelCode.{KernelCode}
use Rattle.sg_ir.specs.Runs.{Seen, CodeWrite, CodeWant, is_own, iteration}
use Rattle.sg_ir.specs.Named.{IsNamed}
use Rattle.sg_ir.specs.Trimmed.{asked_in}

-- the most iterations of a box: 2^20
abbrev pub most_iterations : ℕ
most_iterations = 2 ^ 20

-- the domain walks a layout that is there, or is a box of no more points than there may be
abbrev pub IsDomain : List Shape → Domain → Type 0
IsDomain shapes (Walk layout) = layout < length shapes
IsDomain shapes (Range lo hi) = length (box_points lo hi) ≤ most_iterations

-- how a kernel's loop is numbered: by the axes of the layout that it walks, or of its box
abbrev pub loop_vars : List Shape → Domain → Option ℕ
loop_vars shapes (Walk layout) = option_map (λ (shape : Shape). shape.axes) (slice_get shapes layout)
loop_vars shapes (Range lo hi) = Some lo.n

-- the loop walks this layout
abbrev pub walks : Domain → ℕ → Bool
walks (Walk walked) layout = walked == layout
walks (Range lo hi) layout = false

-- a write may activate unless it is an own write into the layout that the loop walks
abbrev pub may_activate : Domain → CodeWrite → Bool
may_activate domain write = not (is_own write.way && walks domain write.layout)

-- a want stands for a write: the same layout, statement and coordinate; a write at none has a want outside
pub record IsWantOf (shapes : List Shape) (want : CodeWant) (write : CodeWrite) : Type 0 where
  pub layout : want.layout ≡ write.layout
  pub stmt : want.stmt ≡ write.stmt
  pub at : (write.at ≡ Some want.at) ⊎ ((is_inside_of (slice_get shapes want.layout) want.at ≡ false) × (write.at ≡ None))

-- in every iteration, taken in order, the slice's wants stand for the code's writes that may activate, one for one
abbrev pub WantsItsWrites : List Shape → Domain → List Inst → List Inst → Type 0
WantsItsWrites shapes domain slice block =
    (state : FlatState) → IsFlat shapes state → (at : Coord) → Contains (domain_points state domain) at →
    let seen : Seen = record { shapes = shapes; state = state; at = at } in
    AllZip (IsWantOf shapes) (iteration seen slice).wants (filter (may_activate domain) (iteration seen block).writes)

-- how an instruction uses a field
pub data Use : Type 0 where
  Writes : (layout field : ℕ) → Way → Use
  Reads : (layout field : ℕ) → Use
  ReadsOwn : (layout field : ℕ) → Use

-- One layer: the uses in an instruction, where those of the instructions in it are given
abbrev pub uses_step : Inst-F (List Use) → List Use
uses_step (i.ReadCell to place layout field index) = Reads layout field ∷ []
uses_step (i.OwnRead to layout field) = ReadsOwn layout field ∷ []
uses_step (i.OwnWrite layout field from stmt) = Writes layout field Own ∷ []
uses_step (i.Acc op layout field place from index stmt) = Writes layout field (Acc op) ∷ []
uses_step (i.If cond block otherwise) = flat_map (λ uses. uses) block ++ flat_map (λ uses. uses) otherwise
uses_step (i.For var lo hi body) = flat_map (λ uses. uses) body
uses_step _ = []

-- the uses of fields in a block, in order of the text
abbrev pub uses_in : List Inst → List Use
uses_in block = flat_map (fold-Inst (List Use) uses_step) block

-- each field that is written is written in one way, own or by one operator, and not read at other coordinates; one that is
-- accumulated has no own read; and each own-written layout has as many axes as the loop has variables
pub record KeepsItsWays (shapes : List Shape) (domain : Domain) (uses : List Use) : Type 0 where
  pub one_way : (layout field : ℕ) (way other : Way) → Contains uses (Writes layout field way) → Contains uses (Writes layout field other) → way ≡ other
  pub unread : (layout field : ℕ) (way : Way) → Contains uses (Writes layout field way) → Contains uses (Reads layout field) → ⊥
  pub no_own_read : (layout field : ℕ) (op : AccOp) → Contains uses (Writes layout field (Acc op)) → Contains uses (ReadsOwn layout field) → ⊥
  pub own_axes : (layout field : ℕ) → Contains uses (Writes layout field Own) → option_map (λ (shape : Shape). shape.axes) (slice_get shapes layout) ≡ loop_vars shapes domain

-- no layout that is written is asked by `active`
abbrev pub AsksUnwritten : List Use → List ℕ → Type 0
AsksUnwritten uses asked = (layout field : ℕ) (way : Way) → Contains uses (Writes layout field way) → Contains asked layout → ⊥

-- apt kernel code for layouts of these shapes
pub record IsApt (shapes : List Shape) (kernel : KernelCode) : Type 0 where
  pub domain : IsDomain shapes kernel.domain
  pub slice_named : IsNamed shapes kernel.domain kernel.slice.body
  pub code_named : IsNamed shapes kernel.domain kernel.code.body
  pub wants : WantsItsWrites shapes kernel.domain kernel.slice.body kernel.code.body
  pub ways : KeepsItsWays shapes kernel.domain (uses_in kernel.code.body)
  pub asks : AsksUnwritten (uses_in kernel.code.body) (asked_in kernel.code.body)
