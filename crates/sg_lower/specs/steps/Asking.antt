-- Which layouts lowered code asks.
use Rattle.std.specs.Prelude.{◌≡◌, ℕ, Bool, true, List}
use Rattle.std.specs.List.{list_all}
use Rattle.sg_types.specs.declared.typed.TypedExpr.{TypedExpr}
use Rattle.sg_types.specs.declared.typed.TypedStmt.{TypedStmt}
use Rattle.sg_admit.specs.Lines.{Around, Line, stmt_lines, block_lines}
use Rattle.sg_admit.specs.Rules.{deed_exprs, has_good_asks}
use Rattle.sg_ir.specs.declared.code.Inst.{Inst}
use Rattle.sg_ir.specs.Trimmed.{Ways}
use Rattle.sg_ir.specs.Trails.{asked_by}

-- the block after asks good layouts alone if the block before does
abbrev pub KeepsGood : (ℕ → Bool) → List Inst → List Inst → Type 0
KeepsGood good before after = (ways : Ways) → list_all good (asked_by before ways) ≡ true → list_all good (asked_by after ways) ≡ true

-- the code of an expression asks good layouts alone wherever the expression does, and that of expressions one after the other
abbrev pub AsksExpr : TypedExpr → List Inst → List Inst → Type 0
AsksExpr expr before after = (good : ℕ → Bool) → has_good_asks good expr ≡ true → KeepsGood good before after

abbrev pub AsksExprs : List TypedExpr → List Inst → List Inst → Type 0
AsksExprs exprs before after = (good : ℕ → Bool) → list_all (has_good_asks good) exprs ≡ true → KeepsGood good before after

-- the expressions of a line ask good layouts alone
abbrev pub line_asks : (ℕ → Bool) → Line → Bool
line_asks good line = list_all (has_good_asks good) (deed_exprs line.deed)

-- the code of a statement asks good layouts alone wherever its lines do, and that of statements one after the other
abbrev pub AsksStmt : TypedStmt → List Inst → List Inst → Type 0
AsksStmt stmt before after = (good : ℕ → Bool) (around : Around) → list_all (line_asks good) (stmt_lines stmt around) ≡ true → KeepsGood good before after

abbrev pub AsksBlock : List TypedStmt → List Inst → List Inst → Type 0
AsksBlock stmts before after = (good : ℕ → Bool) (around : Around) → list_all (line_asks good) (block_lines stmts around) ≡ true → KeepsGood good before after
