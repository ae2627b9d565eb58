-- The address slice of a kernel: the statements that say where an iteration may activate.
use Rattle.std.specs.Prelude.{ℕ, Bool, false, not, ◌&&◌, ◌==◌, if◌then◌else◌, List, [], ◌∷◌, map, Option, Some, None}
use Rattle.std.specs.List.{flat_map}
use Rattle.sg_flat.specs.declared.effects.Way.{Way}
use Rattle.sg_types.specs.declared.typed.TypedExpr.{TypedExpr}
use Rattle.sg_types.specs.declared.typed.Form.TheVariants as form
use Rattle.sg_types.specs.declared.typed.TypedKind.TheVariants as kind
use Rattle.sg_types.specs.declared.typed.TypedKind.{TypedKind}
use Rattle.sg_types.specs.declared.typed.TypedKind.TheOpen as k
use Rattle.sg_types.specs.declared.typed.TypedKind.TheOpen.{TypedKind-F}
use Rattle.sg_types.specs.declared.typed.TypedStmt.{TypedStmt, fold-TypedStmt}
use Rattle.sg_types.specs.declared.typed.TypedDomain.{TypedDomain}
use Rattle.sg_types.specs.declared.typed.TypedDomain.TheVariants as domain
use Rattle.sg_types.specs.declared.typed.TypedKernel.{TypedKernel}
use Rattle.sg_types.specs.Values.{is_own}
use Rattle.sg_admit.specs.Lines.{kernel_lines}
use Rattle.sg_admit.specs.Clean.{Unclean, is_clean, unclean_in}

-- the layout that a kernel's loop walks, where it walks one
abbrev pub walked_by : TypedDomain → Option ℕ
walked_by (domain.Walk layout) = Some layout
walked_by (domain.Ranges ranges) = None

-- the kernel's loop walks this layout; false if it goes over a box
abbrev pub is_walked : Option ℕ → ℕ → Bool
is_walked None layout = false
is_walked (Some walked) layout = walked == layout

-- a write may activate unless it is an own write into the layout that the loop walks
abbrev pub may_activate : Option ℕ → ℕ → Way → Bool
may_activate walked layout way = not (is_own way && is_walked walked layout)

-- what stands for the value of a write in the slice
abbrev pub no_value : TypedExpr → TypedExpr
no_value value = record { ty = value.ty; form = form.Literal 0 }

-- the statement of this number and kind; one in a slice has the number of the kernel's statement that it stands for
abbrev pub stmt_of : ℕ → TypedKind → TypedStmt
stmt_of number kind = record { number = number; kind = kind }

-- a statement if it is kept, else none
abbrev pub stmt_if : Bool → TypedStmt → List TypedStmt
stmt_if kept stmt = if kept then stmt ∷ [] else []

-- what is kept of statements one after the other, as one block
abbrev pub in_line : List (List TypedStmt) → List TypedStmt
in_line = flat_map (λ stmts. stmts)

-- One layer of a statement, where it is given what is kept of the statements in it. Kept are what gives clean variables their words,
-- the inner loops, the `if`s whose conditions are clean, and without its value each write that may activate.
abbrev pub slice_step : Option ℕ → Unclean → TypedKind-F (ℕ → List TypedStmt) (List TypedStmt) → ℕ → List TypedStmt
slice_step walked unclean (k.Let var value) number = stmt_if (not (unclean.vars var)) (stmt_of number (kind.Let var value))
slice_step walked unclean (k.Assign var value) number = stmt_if (not (unclean.vars var)) (stmt_of number (kind.Assign var value))
slice_step walked unclean (k.Write layout place index way value) number =
    stmt_if (may_activate walked layout way) (stmt_of number (kind.Write layout place index way (no_value value)))
slice_step walked unclean (k.If condition block otherwise has_else) number =
    stmt_if (is_clean unclean condition) (stmt_of number (kind.If condition (in_line block) (in_line otherwise) has_else))
slice_step walked unclean (k.For var range body) number = stmt_of number (kind.For var range (in_line body)) ∷ []

-- what is kept of a statement: none or one
abbrev pub stmt_slice : Option ℕ → Unclean → TypedStmt → List TypedStmt
stmt_slice walked unclean = fold-TypedStmt (ℕ → List TypedStmt) (List TypedStmt) (slice_step walked unclean) (λ stmt. stmt.kind stmt.number)

-- what is kept of a block, in its order
abbrev pub block_slice : Option ℕ → Unclean → List TypedStmt → List TypedStmt
block_slice walked unclean block = in_line (map (stmt_slice walked unclean) block)

-- the address slice of a kernel
abbrev pub slice_of : TypedKernel → List TypedStmt
slice_of kernel = block_slice (walked_by kernel.domain) (unclean_in (kernel_lines kernel)) kernel.body
