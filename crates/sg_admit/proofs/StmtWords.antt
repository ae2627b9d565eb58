-- The lines of statements and what is kept of them in the slice, at each kind.
use Rattle.std.proofs.Common.{◌≡◌, ℕ, Bool, not, List, [], ◌∷◌, ◌++◌, Option, ap}
use Rattle.sg_flat.specs.declared.effects.Way.{Way}
use Rattle.sg_types.specs.declared.typed.TypedExpr.{TypedExpr}
use Rattle.sg_types.specs.declared.typed.TypedRange.{TypedRange}
use Rattle.sg_types.specs.declared.typed.TypedKind.TheVariants as kind
use Rattle.sg_types.specs.declared.typed.TypedKind.TheOpen.{TypedStmt-F}
use Rattle.sg_types.specs.declared.typed.TypedStmt.{TypedStmt}
use Rattle.sg_admit.specs.Lines.{Sets, Writes, Tests, Turns, Around, Line, line_of, within_if, within_loop, line_step, stmt_lines, block_lines}
use Rattle.sg_admit.specs.Clean.{Unclean, is_clean}
use Rattle.sg_admit.specs.Slices.{may_activate, no_value, stmt_of, stmt_if, slice_step, stmt_slice, block_slice}
use Rattle.sg_types.proofs.Uses as folds

abbrev its_lines : TypedStmt-F (ℕ → Around → List Line) (Around → List Line) → Around → List Line
its_lines stmt = stmt.kind stmt.number

abbrev at_around : Around → (Around → List Line) → List Line
at_around around lines = lines around

abbrev its_slice : TypedStmt-F (ℕ → List TypedStmt) (List TypedStmt) → List TypedStmt
its_slice stmt = stmt.kind stmt.number

module _ (number : ℕ) where
  pub lines-Let : (var : ℕ) (value : TypedExpr) (around : Around) → stmt_lines (stmt_of number (kind.Let var value)) around ≡ line_of number around (Sets var value) ∷ []
  lines-Let var value around = ap (at_around around) (folds.fold-Let line_step its_lines number var value)

  pub lines-Assign : (var : ℕ) (value : TypedExpr) (around : Around) → stmt_lines (stmt_of number (kind.Assign var value)) around ≡ line_of number around (Sets var value) ∷ []
  lines-Assign var value around = ap (at_around around) (folds.fold-Assign line_step its_lines number var value)

  pub lines-Write : (layout place : ℕ) (index : List TypedExpr) (way : Way) (value : TypedExpr) (around : Around)
      → stmt_lines (stmt_of number (kind.Write layout place index way value)) around ≡ line_of number around (Writes layout place index way value) ∷ []
  lines-Write layout place index way value around = ap (at_around around) (folds.fold-Write line_step its_lines number layout place index way value)

  pub lines-If : (condition : TypedExpr) (block otherwise : List TypedStmt) (has_else : Bool) (around : Around)
      → stmt_lines (stmt_of number (kind.If condition block otherwise has_else)) around
      ≡ line_of number around (Tests condition) ∷ (block_lines block (within_if condition around) ++ block_lines otherwise (within_if condition around))
  lines-If condition block otherwise has_else around = ap (at_around around) (folds.fold-If line_step its_lines number condition block otherwise has_else)

  pub lines-For : (var : ℕ) (range : TypedRange) (body : List TypedStmt) (around : Around)
      → stmt_lines (stmt_of number (kind.For var range body)) around ≡ line_of number around (Turns var range) ∷ block_lines body (within_loop range around)
  lines-For var range body around = ap (at_around around) (folds.fold-For line_step its_lines number var range body)

  module _ (walked : Option ℕ) (unclean : Unclean) where
    pub slice-Let : (var : ℕ) (value : TypedExpr) → stmt_slice walked unclean (stmt_of number (kind.Let var value)) ≡ stmt_if (not (unclean.vars var)) (stmt_of number (kind.Let var value))
    slice-Let var value = folds.fold-Let (slice_step walked unclean) its_slice number var value

    pub slice-Assign : (var : ℕ) (value : TypedExpr) → stmt_slice walked unclean (stmt_of number (kind.Assign var value)) ≡ stmt_if (not (unclean.vars var)) (stmt_of number (kind.Assign var value))
    slice-Assign var value = folds.fold-Assign (slice_step walked unclean) its_slice number var value

    pub slice-Write : (layout place : ℕ) (index : List TypedExpr) (way : Way) (value : TypedExpr)
        → stmt_slice walked unclean (stmt_of number (kind.Write layout place index way value))
        ≡ stmt_if (may_activate walked layout way) (stmt_of number (kind.Write layout place index way (no_value value)))
    slice-Write layout place index way value = folds.fold-Write (slice_step walked unclean) its_slice number layout place index way value

    pub slice-If : (condition : TypedExpr) (block otherwise : List TypedStmt) (has_else : Bool)
        → stmt_slice walked unclean (stmt_of number (kind.If condition block otherwise has_else))
        ≡ stmt_if (is_clean unclean condition) (stmt_of number (kind.If condition (block_slice walked unclean block) (block_slice walked unclean otherwise) has_else))
    slice-If condition block otherwise has_else = folds.fold-If (slice_step walked unclean) its_slice number condition block otherwise has_else

    pub slice-For : (var : ℕ) (range : TypedRange) (body : List TypedStmt)
        → stmt_slice walked unclean (stmt_of number (kind.For var range body)) ≡ stmt_of number (kind.For var range (block_slice walked unclean body)) ∷ []
    slice-For var range body = folds.fold-For (slice_step walked unclean) its_slice number var range body

-- all of them, to compute with
pub ruleset line_equations = (lines-Let, lines-Assign, lines-Write, lines-If, lines-For)

pub ruleset slice_equations = (slice-Let, slice-Assign, slice-Write, slice-If, slice-For)
