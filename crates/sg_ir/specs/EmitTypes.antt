-- What emitting does to judgements: what was good stays good, and the numbers that are set are the next ones.
use Rattle.std.specs.Prelude.{◌≡◌, ℕ, ◌+◌, ◌<◌, ◌≤◌, true, false, ◌++◌, List, length, slice_get, All, Some}
use Rattle.std.specs.List.{range_with_len}
use Rattle.sg_words.specs.declared.operators.Ty.{Ty}
use Rattle.sg_coord.specs.Bounds.{Bounds}
use Rattle.sg_layout.specs.declared.shape.NodeShape.{NodeShape}
use Rattle.sg_layout.specs.declared.shape.Shape.{Shape}
use Rattle.sg_layout.specs.Axes.{bounds_of_shape}
use Rattle.sg_ir.specs.declared.code.Inst.{Inst}
use Rattle.sg_ir.specs.declared.names.Names.{Names}
use Rattle.sg_ir.specs.WellTyped.{Scope, Frame, reads, judged, set_regs, set_places, set_vars}
use Rattle.sg_ir.specs.Apt.{uses_in}
use Rattle.sg_ir.specs.Trimmed.{Ways}
use Rattle.sg_ir.specs.Trails.{asked_by}

-- the list goes on by the numbers from one up to below another
pub record GoesOn (from to : ℕ) (before after : List ℕ) : Type 0 where
  pub count : ℕ
  pub to_is : to ≡ from + count
  pub list : after ≡ before ++ range_with_len from count

-- the types so far stay, and more follow
pub record Begins (old new : Names) : Type 0 where
  pub types : List Ty
  pub regs : new.regs ≡ old.regs ++ types

-- the types of the whole code begin with those so far, and it has no fewer places
pub record IsFinal (names : Names) (at : Frame) : Type 0 where
  pub regs : (r : ℕ) → r < length names.regs → slice_get at.regs r ≡ slice_get names.regs r
  pub places : names.places ≤ at.places

-- what has a name is set after it as before it, and the same variables may be read
pub record KeepsScope (old : Names) (before after : Scope) : Type 0 where
  pub regs : (r : ℕ) → r < length old.regs → after.regs r ≡ before.regs r
  pub places : (p : ℕ) → p < old.places → after.places p ≡ before.places p
  pub vars : after.vars ≡ before.vars

-- the block after sets the next registers and places, is good wherever the block before is and `needs` holds after it, and then
-- `gains` holds after it
pub record Adds (shapes : List Shape) (needs gains : Frame → Scope → Type 0) (old new : Names) (before after : List Inst) : Type 0 where
  pub begins : Begins old new
  pub set_regs : GoesOn (length old.regs) (length new.regs) (set_regs before) (set_regs after)
  pub set_places : GoesOn old.places new.places (set_places before) (set_places after)
  pub keeps : (at : Frame) → at.shapes ≡ shapes → (scope : Scope) → KeepsScope old (judged at before scope).1 (judged at after scope).1
  pub good : (at : Frame) → at.shapes ≡ shapes → IsFinal new at → (scope : Scope) → (judged at before scope).0 ≡ true → needs at (judged at before scope).1 →
      ((judged at after scope).0 ≡ true) × gains at (judged at after scope).1

-- the block after sets no variable, uses no field and asks no layout that the block before doesn't
pub record KeepsVarsAndUses (before after : List Inst) : Type 0 where
  pub vars : set_vars after ≡ set_vars before
  pub uses : uses_in after ≡ uses_in before
  pub asks : (ways : Ways) → asked_by after ways ≡ asked_by before ways

-- index registers that may be read, and hold no truth values
abbrev pub CanRead : List ℕ → Frame → Scope → Type 0
CanRead index at scope = All (λ r. reads at scope false r ≡ true) index

-- a place in a layout that has passed so many nodes
abbrev pub HasPassed : ℕ → ℕ → ℕ → Frame → Scope → Type 0
HasPassed place layout passed at scope = scope.places place ≡ Some (record { layout = layout; passed = passed })

-- the block after adds so much, and is plain
pub record AddsSteps (shapes : List Shape) (needs gains : Frame → Scope → Type 0) (old new : Names) (before after : List Inst) : Type 0 where
  pub adds : Adds shapes needs gains old new before after
  pub plain : KeepsVarsAndUses before after

-- a new register that may be read, and holds no truth value, where these may
abbrev pub AddsWord : List Shape → List ℕ → ℕ → Names → Names → List Inst → List Inst → Type 0
AddsWord shapes index to old new before after =
    AddsSteps shapes (CanRead index) (λ at scope. reads at scope false to ≡ true) old new before after

-- the checks of index registers against the extents of a layout, from an axis on
abbrev pub AddsChecks : List Shape → Bounds → ℕ → List ℕ → ℕ → ℕ → Names → Names → List Inst → List Inst → Type 0
AddsChecks shapes bounds axis index place to old new before after =
    (layout : ℕ) (shape : Shape) → slice_get shapes layout ≡ Some shape → bounds ≡ bounds_of_shape shape → axis + length index ≤ shape.axes →
    AddsSteps shapes (λ at scope. HasPassed place layout 0 at scope × CanRead index at scope) (HasPassed to layout 0) old new before after

-- the steps down the nodes of a layout, from a node on
abbrev pub AddsDescent : List Shape → ℕ → List NodeShape → List ℕ → ℕ → ℕ → Names → Names → List Inst → List Inst → Type 0
AddsDescent shapes number nodes index place to old new before after =
    (layout : ℕ) (shape : Shape) (done : List NodeShape) → slice_get shapes layout ≡ Some shape → shape.nodes ≡ done ++ nodes → number ≡ length done + 1 →
    AddsSteps shapes (λ at scope. HasPassed place layout (length done) at scope × CanRead index at scope) (HasPassed to layout (length shape.nodes)) old new before after
