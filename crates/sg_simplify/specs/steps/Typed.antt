-- What the pass keeps so that what it puts out is well typed.
use Rattle.std.specs.Prelude.{◌≡◌, ℕ, suc, ◌≤◌, Bool, true, false, nat_lt, List, [], ◌∷◌, length, slice_get, Option, Some, None}
use Rattle.sg_words.specs.declared.operators.Ty.{Ty}
use Rattle.sg_layout.specs.declared.shape.NodeShape.{NodeShape}
use Rattle.sg_layout.specs.declared.shape.Shape.{Shape}
use Rattle.sg_layout.specs.Axes.{extent_in, extent_over}
use Rattle.sg_ir.specs.declared.op.Op.{Op}
use Rattle.sg_ir.specs.declared.op.Step.{Step}
use Rattle.sg_ir.specs.Blocks.{Block}
use Rattle.sg_ir.specs.WellTyped.{KnownPlace, Scope, Frame, is_truth_as, reads, checkable}
use Rattle.sg_simplify.specs.steps.Pass.{Pass, Next, Making, made_name}
use Rattle.sg_simplify.specs.steps.Serves.{EachByRecursion}
use Rattle.sg_simplify.specs.steps.Judged.{gives_type, truth_of, step_known, fits_scope}

-- the types of variables and how often each is set: the same in the given code and in what is put out
pub record Fixed : Type 0 where
  pub shapes : List Shape
  pub vars : List Ty
  pub setters : ℕ → ℕ

-- the frame where this much was put out
abbrev pub frame_by : Fixed → Next → Frame
frame_by fixed next = record { shapes = fixed.shapes; regs = next.types; places = next.places; vars = fixed.vars; setters = fixed.setters }

-- what was put out so far stays
pub record Starts (next final : Next) : Type 0 where
  pub regs : (r : ℕ) (type : Ty) → slice_get next.types r ≡ Some type → slice_get final.types r ≡ Some type
  pub places : next.places ≤ final.places

-- a wider scope
pub record Widens (scope wide : Scope) : Type 0 where
  pub regs : (r : ℕ) → scope.regs r ≡ true → wide.regs r ≡ true
  pub places : (p : ℕ) (known : KnownPlace) → scope.places p ≡ Some known → wide.places p ≡ Some known
  pub vars : (v : ℕ) → scope.vars v ≡ true → wide.vars v ≡ true

-- a known operation has a register of a type that fits, and a known step a place that is known
pub record OpTyped (fixed : Fixed) (scope : Scope) (next : Next) (entry : Op × ℕ) : Type 0 where
  pub set : scope.regs entry.1 ≡ true
  pub type : gives_type (truth_of fixed.shapes fixed.vars entry.0) (slice_get next.types entry.1) ≡ true

-- what is known of the place of a known step is what the step gives: its layout, and how many nodes it has passed
pub record StepTyped (scope : Scope) (entry : Step × ℕ) : Type 0 where
  pub known : KnownPlace
  pub comes : step_known scope entry.0 ≡ Some known
  pub here : scope.places entry.1 ≡ Some known

-- what is known fits, and numbers that weren't given aren't set
pub record Types (fixed : Fixed) (scope : Scope) (pass : Pass) (next : Next) : Type 0 where
  pub even : length next.types ≡ length next.spans
  pub ops : EachByRecursion (OpTyped fixed scope next) pass.ops
  pub steps : EachByRecursion (StepTyped scope) pass.steps
  pub free_regs : (r : ℕ) → length next.spans ≤ r → scope.regs r ≡ false
  pub free_places : (p : ℕ) → next.places ≤ p → scope.places p ≡ None

-- what is put out is good in whatever goes on from it
pub record Typed (fixed : Fixed) (scope : Scope) (next : Next) (made : Block × Next) : Type 0 where
  pub grows : (final : Next) → Starts made.1 final → Starts next final
  pub even : length made.1.types ≡ length made.1.spans
  pub longer : length next.spans ≤ length made.1.spans
  pub good : (final : Next) → Starts made.1 final → fits_scope (frame_by fixed final) scope made.0 ≡ true

-- what follows is good, given a register, or a place
abbrev pub GoesTyped : Fixed → Scope → Next → Option Bool → (ℕ → Making) → Type 0
GoesTyped fixed scope next truth go = (t : ℕ) (known : Pass) (further : Next) (wide : Scope) → Widens scope wide → further.names ≡ next.names → Starts next further → Types fixed wide known further →
    wide.regs t ≡ true → gives_type truth (slice_get further.types t) ≡ true → Typed fixed wide further (go t known further)

-- what follows is good, given a place in scope of which this is known
abbrev pub GoesDown : Fixed → Scope → Next → KnownPlace → (ℕ → Making) → Type 0
GoesDown fixed scope next place go = (t : ℕ) (known : Pass) (further : Next) (wide : Scope) → Widens scope wide → further.names ≡ next.names → Starts next further → Types fixed wide known further →
    wide.places t ≡ Some place → Typed fixed wide further (go t known further)

-- all of these registers may be read as words
abbrev pub AllRead : Fixed → Scope → Next → List ℕ → Type 0
AllRead fixed scope next index = EachByRecursion (λ r. reads (frame_by fixed next) scope false r ≡ true) index

-- a place of a layout that has passed no node may be checked on these axes, from one on, so far as there are index registers
abbrev pub ChecksFit : Frame → ℕ → ℕ → List ℕ → List ℕ → Type 0
ChecksFit at layout axis [] index = Unit {0}
ChecksFit at layout axis (extent ∷ extents) [] = Unit {0}
ChecksFit at layout axis (extent ∷ extents) (r ∷ index) =
    (nat_lt 0 extent ≡ true) × (checkable at axis extent (record { layout = layout; passed = 0 }) ≡ true) × ChecksFit at layout (suc axis) extents index

-- extents of nodes are 1 at least
abbrev pub NodesFit : List NodeShape → Type 0
NodesFit [] = Unit {0}
NodesFit (node ∷ later) = ((axis : ℕ) → (nat_lt 0 (extent_over later axis) ≡ true) × (nat_lt 0 (extent_in node.sizes axis) ≡ true)) × NodesFit later

-- the new name of a given register in scope has a type that fits as well
pub record IsNamedTyped (types : List Ty) (scope : Scope) (next : Next) (r : ℕ) : Type 0 where
  pub set : scope.regs (made_name next r) ≡ true
  pub same : (truth : Bool) → is_truth_as truth (slice_get types r) ≡ true → is_truth_as truth (slice_get next.types (made_name next r)) ≡ true

-- each given register in scope has a new name in scope with a type that fits as well
abbrev pub NamesTyped : List Ty → Scope → Scope → Next → Type 0
NamesTyped types given scope next = (r : ℕ) → given.regs r ≡ true → IsNamedTyped types scope next r

-- a layout whose axes can be checked, and whose nodes can be gone down
pub record IsWalked (shape : Shape) : Type 0 where
  pub some : 1 ≤ shape.axes
  pub a : nat_lt 0 (extent_over shape.nodes 1) ≡ true
  pub b : nat_lt 0 (extent_over shape.nodes 2) ≡ true
  pub c : nat_lt 0 (extent_over shape.nodes 3) ≡ true
  pub nodes : NodesFit shape.nodes

-- each of these layouts has axes that can be checked and nodes that can be gone down
abbrev pub AreWalked : List Shape → Type 0
AreWalked shapes = (layout : ℕ) (shape : Shape) → slice_get shapes layout ≡ Some shape → IsWalked shape
