-- The numbers of a typed kernel's statements and variables, in the order of their first tokens.
use Rattle.std.specs.Prelude.{ℕ, List, [], ◌∷◌, ◌++◌, map}
use Rattle.std.specs.List.{concat, range_with_len}
use Rattle.sg_types.specs.declared.typed.TypedKind.TheOpen as k
use Rattle.sg_types.specs.declared.typed.TypedKind.TheOpen.{TypedKind-F}
use Rattle.sg_types.specs.declared.typed.TypedStmt.{TypedStmt, fold-TypedStmt}
use Rattle.sg_types.specs.declared.typed.TypedKernel.{TypedKernel}

-- one layer of a statement, where the numbers in each statement in it are given: those in an `else` come after those in the block of
-- its `if`
abbrev pub inner_numbers : TypedKind-F (List ℕ) (List ℕ) → List ℕ
inner_numbers (k.Let var value) = []
inner_numbers (k.Assign var value) = []
inner_numbers (k.Write layout place index way value) = []
inner_numbers (k.If condition block otherwise has_else) = concat block ++ concat otherwise
inner_numbers (k.For var range body) = concat body

-- the number of a statement, and then those of the statements in it: an `if` or `for` begins before what is in its blocks
abbrev pub stmt_numbers : TypedStmt → List ℕ
stmt_numbers = fold-TypedStmt (List ℕ) (List ℕ) inner_numbers (λ stmt. stmt.number ∷ stmt.kind)

-- the numbers of the statements of a kernel
abbrev pub kernel_numbers : TypedKernel → List ℕ
kernel_numbers kernel = concat (map stmt_numbers kernel.body)

-- one layer of a statement, where the variables that each statement in it declares are given
abbrev pub var_step : TypedKind-F (List ℕ) (List ℕ) → List ℕ
var_step (k.Let var value) = var ∷ []
var_step (k.Assign var value) = []
var_step (k.Write layout place index way value) = []
var_step (k.If condition block otherwise has_else) = concat block ++ concat otherwise
var_step (k.For var range body) = var ∷ concat body

-- the variables that a statement and those in it declare: locals, and variables of inner loops
abbrev pub stmt_vars : TypedStmt → List ℕ
stmt_vars = fold-TypedStmt (List ℕ) (List ℕ) var_step (λ stmt. stmt.kind)

-- the variables that the statements of a block declare
abbrev pub block_vars : List TypedStmt → List ℕ
block_vars block = concat (map stmt_vars block)

-- the variables of a kernel: those of its loop have the first numbers, and then come those that its body declares
abbrev pub kernel_vars : TypedKernel → List ℕ
kernel_vars kernel = range_with_len 0 kernel.vars ++ block_vars kernel.body
