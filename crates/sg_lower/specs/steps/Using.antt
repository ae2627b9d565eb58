-- How lowered expressions and statements use fields.
use Rattle.std.specs.Prelude.{◌≡◌, ℕ, Bool, if◌then◌else◌, List, [], ◌∷◌, ◌++◌}
use Rattle.std.specs.List.{flat_map}
use Rattle.sg_flat.specs.declared.effects.Way.{Way}
use Rattle.sg_flat.specs.declared.effects.Way.TheVariants.{Own, Acc}
use Rattle.sg_types.specs.declared.typed.TypedExpr.{TypedExpr, fold-TypedExpr}
use Rattle.sg_types.specs.declared.typed.Form.TheOpen as f
use Rattle.sg_types.specs.declared.typed.Form.TheOpen.{Form-F}
use Rattle.sg_types.specs.declared.typed.TypedStmt.{TypedStmt}
use Rattle.sg_admit.specs.Lines as lines
use Rattle.sg_admit.specs.Lines.{Deed, Around, Line, stmt_lines, block_lines}
use Rattle.sg_ir.specs.declared.code.Inst.{Inst}
use Rattle.sg_ir.specs.Apt.{Use, Writes, Reads, ReadsOwn, uses_in}
use Rattle.sg_lower.specs.declared.lowering.Field.{Field}
use Rattle.sg_lower.specs.steps.Basis.{Basis, is_owned}

-- a read: in the own cell where the field is owned, else after its indices
abbrev pub read_uses : Bool → ℕ → ℕ → List Use → List Use
read_uses owned layout place index = if owned then ReadsOwn layout place ∷ [] else index ++ Reads layout place ∷ []

-- one layer of an expression: the uses in its parts, in order
abbrev pub use_step : List Field → Form-F (List Use) (List Use) → List Use
use_step owned (f.Literal word) = []
use_step owned (f.Constant word) = []
use_step owned (f.Var var) = []
use_step owned (f.Read layout place index) = read_uses (is_owned owned layout place) layout place (flat_map (λ uses. uses) index)
use_step owned (f.Paren inner) = inner
use_step owned (f.Un op operand) = operand
use_step owned (f.Bin op left right) = left ++ right
use_step owned (f.Mulq a b s) = a ++ (b ++ s)
use_step owned (f.Convert inner) = inner
use_step owned (f.Active layout index) = flat_map (λ uses. uses) index

-- the uses of an expression, and of expressions one after the other
abbrev pub expr_uses : List Field → TypedExpr → List Use
expr_uses owned = fold-TypedExpr (List Use) (List Use) (use_step owned) (λ expr. expr.form)

-- the uses of expressions, one after the other
abbrev pub all_uses : List Field → List TypedExpr → List Use
all_uses owned exprs = flat_map (expr_uses owned) exprs

-- a write: own by its value alone, a contribution by its indices too
abbrev pub way_uses : Way → ℕ → ℕ → List Use → List Use → List Use
way_uses Own layout place value index = value ++ Writes layout place Own ∷ []
way_uses (Acc op) layout place value index = value ++ (index ++ Writes layout place (Acc op) ∷ [])

-- the uses of a line; in a slice a write uses what its indices do
abbrev pub deed_uses : Basis → Deed → List Use
deed_uses basis (lines.Sets var value) = expr_uses basis.owned value
deed_uses basis (lines.Writes layout place index way value) =
    if basis.slicing then all_uses basis.owned index else way_uses way layout place (expr_uses basis.owned value) (all_uses basis.owned index)
deed_uses basis (lines.Tests condition) = expr_uses basis.owned condition
deed_uses basis (lines.Turns var range) = []
deed_uses basis (lines.Opens ranges) = []

-- the uses of lines, one after the other
abbrev pub line_uses : Basis → List Line → List Use
line_uses basis all = flat_map (λ line. deed_uses basis line.deed) all

-- a block with more uses after its own
abbrev pub Uses : List Use → List Inst → List Inst → Type 0
Uses more before after = uses_in after ≡ uses_in before ++ more

-- the uses of a statement, and of statements, wherever they stand
abbrev pub UsesStmt : Basis → TypedStmt → List Inst → List Inst → Type 0
UsesStmt basis stmt before after = (around : Around) → Uses (line_uses basis (stmt_lines stmt around)) before after

-- the code of a block has the uses of its statements after those before, wherever the block stands
abbrev pub UsesBlock : Basis → List TypedStmt → List Inst → List Inst → Type 0
UsesBlock basis stmts before after = (around : Around) → Uses (line_uses basis (block_lines stmts around)) before after
