-- A kernel as a list of lines, one for each statement, with what stands round it.
use Rattle.std.specs.Prelude.{ℕ, List, [], ◌∷◌, ◌++◌, map}
use Rattle.sg_flat.specs.declared.effects.Way.{Way}
use Rattle.sg_types.specs.declared.typed.TypedExpr.{TypedExpr}
use Rattle.sg_types.specs.declared.typed.TypedRange.{TypedRange}
use Rattle.sg_types.specs.declared.typed.TypedKind.TheOpen as k
use Rattle.sg_types.specs.declared.typed.TypedKind.TheOpen.{TypedKind-F}
use Rattle.sg_types.specs.declared.typed.TypedStmt.{TypedStmt, fold-TypedStmt}
use Rattle.sg_types.specs.declared.typed.TypedDomain.{TypedDomain}
use Rattle.sg_types.specs.declared.typed.TypedDomain.TheVariants as domain
use Rattle.sg_types.specs.declared.typed.TypedKernel.{TypedKernel}

-- What a statement does by itself, without the statements in its blocks: a variable gets a word, a field is written, an `if` tests its
-- condition, an inner loop goes over its range, or the kernel's loop over its ranges.
pub data Deed : Type 0 where
  Sets : (var : ℕ) (value : TypedExpr) → Deed
  Writes : (layout place : ℕ) (index : List TypedExpr) (way : Way) (value : TypedExpr) → Deed
  Tests : (condition : TypedExpr) → Deed
  Turns : (var : ℕ) (range : TypedRange) → Deed
  Opens : (ranges : List TypedRange) → Deed

-- the conditions of the `if`s and the ranges of the inner loops that a statement stands in, the innermost first
pub record Around : Type 0 where
  pub conditions : List TypedExpr
  pub ranges : List TypedRange

-- a statement with its number and what stands round it
pub record Line : Type 0 where
  pub number : ℕ
  pub around : Around
  pub deed : Deed

-- what stands round the kernel's loop and the statements right in its body: no `if` and no inner loop
abbrev pub nothing_round : Around
nothing_round = record { conditions = []; ranges = [] }

-- what stands round the statements in either block of an `if`, by its condition and what stands round it
abbrev pub within_if : TypedExpr → Around → Around
within_if condition around = record { conditions = condition ∷ around.conditions; ranges = around.ranges }

-- what stands round the statements in an inner loop, by its range and what stands round it
abbrev pub within_loop : TypedRange → Around → Around
within_loop range around = record { conditions = around.conditions; ranges = range ∷ around.ranges }

-- the line of a statement that has this number, stands in these and does this
abbrev pub line_of : ℕ → Around → Deed → Line
line_of number around deed = record { number = number; around = around; deed = deed }

-- the lines of statements at one place, one after the other
abbrev pub lines_round : List (Around → List Line) → Around → List Line
lines_round [] around = []
lines_round (lines ∷ more) around = lines around ++ lines_round more around

-- one layer of a statement: its own line, and then those of the statements in it
abbrev pub line_step : TypedKind-F (ℕ → Around → List Line) (Around → List Line) → ℕ → Around → List Line
line_step (k.Let var value) number around = line_of number around (Sets var value) ∷ []
line_step (k.Assign var value) number around = line_of number around (Sets var value) ∷ []
line_step (k.Write layout place index way value) number around = line_of number around (Writes layout place index way value) ∷ []
line_step (k.If condition block otherwise has_else) number around =
    line_of number around (Tests condition) ∷ (lines_round block (within_if condition around) ++ lines_round otherwise (within_if condition around))
line_step (k.For var range body) number around = line_of number around (Turns var range) ∷ lines_round body (within_loop range around)

-- the line of a statement, and then those of the statements in it
abbrev pub stmt_lines : TypedStmt → Around → List Line
stmt_lines = fold-TypedStmt (ℕ → Around → List Line) (Around → List Line) line_step (λ stmt. stmt.kind stmt.number)

-- the lines of the statements of a block, each with those of the statements in it right after
abbrev pub block_lines : List TypedStmt → Around → List Line
block_lines block = lines_round (map stmt_lines block)

-- the ranges of the kernel's loop; none if it walks a layout
abbrev pub domain_ranges : TypedDomain → List TypedRange
domain_ranges (domain.Walk layout) = []
domain_ranges (domain.Ranges ranges) = ranges

-- the lines of a kernel: that of its loop, which is statement 0, and then those of its body
abbrev pub kernel_lines : TypedKernel → List Line
kernel_lines kernel = line_of 0 nothing_round (Opens (domain_ranges kernel.domain)) ∷ block_lines kernel.body nothing_round
