-- What lowered code is judged by.
use Rattle.std.specs.Prelude.{◌≡◌, ℕ, ◌<◌, Bool, true, ◌&&◌, List, [], ◌∷◌, ◌++◌, map, length}
use Rattle.std.specs.List.{list_all, flat_map, AllByRecursion}
use Rattle.sg_words.specs.declared.operators.Ty.{Ty}
use Rattle.sg_layout.specs.declared.shape.Shape.{Shape}
use Rattle.sg_types.specs.declared.typed.TypedExpr.{TypedExpr}
use Rattle.sg_types.specs.TypeTable.{is_signed}
use Rattle.sg_types.specs.declared.typed.TypedStmt.{TypedStmt}
use Rattle.sg_types.specs.WellTyped.{Visible, Surroundings, setting, is_visible, is_well_typed_expr, all_fit, fitting}
use Rattle.sg_admit.specs.Lines.{Deed, Sets, Writes, Tests, Turns, Opens, Around, Line, stmt_lines, block_lines}
use Rattle.sg_ir.specs.declared.code.Inst.{Inst}
use Rattle.sg_ir.specs.declared.names.Names.{Names}
use Rattle.sg_ir.specs.WellTyped.{Frame, Scope, holds_of, is_cell, is_truth, reads, judged, set_regs, set_places, set_vars}
use Rattle.sg_ir.specs.EmitTypes.{GoesOn, Begins, IsFinal, Adds, CanRead}

-- a place at a cell of a layout
abbrev pub IsCell : ℕ → ℕ → Frame → Scope → Type 0
IsCell place layout at scope = holds_of (is_cell at layout) (scope.places place) ≡ true

-- the variables of the code have the types of the setting, and those in scope there may be read
abbrev pub Ready : Surroundings → Frame → Scope → Type 0
Ready setting at scope = (at.vars ≡ setting.types) × ((var : ℕ) → is_visible setting.scope var ≡ true → scope.vars var ≡ true)

-- a register that may be read, and holds a truth value exactly when the type is that of one
abbrev pub HoldsWordOf : ℕ → Ty → Frame → Scope → Type 0
HoldsWordOf to given at scope = reads at scope (is_truth given) to ≡ true

-- the code of an expression is well typed wherever the expression is
abbrev pub AddsExpr : List Shape → TypedExpr → ℕ → Names → Names → List Inst → List Inst → Type 0
AddsExpr shapes expr to old new before after = (setting : Surroundings) → setting.shapes ≡ shapes → is_well_typed_expr setting expr ≡ true
    → Adds shapes (Ready setting) (HoldsWordOf to expr.ty) old new before after

-- an expression that may be an index
abbrev pub is_part : Surroundings → TypedExpr → Bool
is_part setting expr = is_signed expr.ty && is_well_typed_expr setting expr

-- the code of index expressions is well typed wherever each of them may be an index
abbrev pub AddsIndex : List Shape → List TypedExpr → List ℕ → Names → Names → List Inst → List Inst → Type 0
AddsIndex shapes exprs regs old new before after = (setting : Surroundings) → setting.shapes ≡ shapes → list_all (is_part setting) exprs ≡ true
    → Adds shapes (Ready setting) (CanRead regs) old new before after

-- what has a name is set after it as before it, and what may be read may be read on
pub record KeepsNames (old : Names) (before after : Scope) : Type 0 where
  pub regs : (r : ℕ) → r < length old.regs → after.regs r ≡ before.regs r
  pub places : (p : ℕ) → p < old.places → after.places p ≡ before.places p
  pub vars : (var : ℕ) → before.vars var ≡ true → after.vars var ≡ true

-- as `Adds`, where variables may be set
pub record AddsSet (shapes : List Shape) (needs gains : Frame → Scope → Type 0) (old new : Names) (before after : List Inst) : Type 0 where
  pub begins : Begins old new
  pub set_regs : GoesOn (length old.regs) (length new.regs) (set_regs before) (set_regs after)
  pub set_places : GoesOn old.places new.places (set_places before) (set_places after)
  pub keeps : (at : Frame) → at.shapes ≡ shapes → (scope : Scope) → KeepsNames old (judged at before scope).1 (judged at after scope).1
  pub good : (at : Frame) → at.shapes ≡ shapes → IsFinal new at → (scope : Scope) → (judged at before scope).0 ≡ true → needs at (judged at before scope).1 →
      ((judged at after scope).0 ≡ true) × gains at (judged at after scope).1

-- the variable of an inner loop is set once in the code
abbrev pub OnceDeed : Frame → Deed → Type 0
OnceDeed at (Sets var value) = Unit {0}
OnceDeed at (Writes layout place index way value) = Unit {0}
OnceDeed at (Tests condition) = Unit {0}
OnceDeed at (Turns var range) = at.setters var ≡ 1
OnceDeed at (Opens ranges) = Unit {0}

-- the variable of each inner loop among lines is set once in the code
abbrev pub Once : Frame → List Line → Type 0
Once at lines = AllByRecursion (λ line. OnceDeed at line.deed) lines

-- the code of a statement is well typed wherever the statement is
abbrev pub AddsStmt : List Shape → TypedStmt → Names → Names → List Inst → List Inst → Type 0
AddsStmt shapes stmt old new before after = (types : List Ty) (visible : List Visible) (around : Around) → (fitting shapes types stmt visible).0 ≡ true
    → AddsSet shapes (λ at scope. Ready (setting shapes types visible) at scope × Once at (stmt_lines stmt around)) (Ready (setting shapes types (fitting shapes types stmt visible).1)) old new before after

-- the code of the statements of a block is well typed wherever the block is
abbrev pub AddsBlock : List Shape → List TypedStmt → Names → Names → List Inst → List Inst → Type 0
AddsBlock shapes stmts old new before after = (types : List Ty) (visible : List Visible) (around : Around) → (all_fit (map (fitting shapes types) stmts) visible).0 ≡ true
    → AddsSet shapes (λ at scope. Ready (setting shapes types visible) at scope × Once at (block_lines stmts around)) (Ready (setting shapes types (all_fit (map (fitting shapes types) stmts) visible).1)) old new before after

-- the variables that statements set, in order
abbrev pub deed_sets : Deed → List ℕ
deed_sets (Sets var value) = var ∷ []
deed_sets (Writes layout place index way value) = []
deed_sets (Tests condition) = []
deed_sets (Turns var range) = var ∷ []
deed_sets (Opens ranges) = []

-- the variables that lines set, those of inner loops included, in order; one that is set twice stands there twice
abbrev pub line_sets : List Line → List ℕ
line_sets lines = flat_map (λ line. deed_sets line.deed) lines

-- the variables that the loops among lines turn, in order
abbrev pub deed_turns : Deed → List ℕ
deed_turns (Sets var value) = []
deed_turns (Writes layout place index way value) = []
deed_turns (Tests condition) = []
deed_turns (Turns var range) = var ∷ []
deed_turns (Opens ranges) = []

-- the variables of the inner loops among lines, in order
abbrev pub line_turns : List Line → List ℕ
line_turns lines = flat_map (λ line. deed_turns line.deed) lines

-- after what was set before, the code sets the variables that a statement and those in it set, in order
abbrev pub SetsStmt : TypedStmt → List Inst → List Inst → Type 0
SetsStmt stmt before after = (around : Around) → set_vars after ≡ set_vars before ++ line_sets (stmt_lines stmt around)

-- after what was set before, the code sets the variables that the statements of a block and those in them set, in order
abbrev pub SetsBlock : List TypedStmt → List Inst → List Inst → Type 0
SetsBlock stmts before after = (around : Around) → set_vars after ≡ set_vars before ++ line_sets (block_lines stmts around)
