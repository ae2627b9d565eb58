-- The statements of a kernel in the order of their first tokens, in which they are numbered from 1.
use Rattle.std.specs.Prelude.{List, [], ◌∷◌, ◌++◌, Option, Some, None}
use Rattle.std.specs.List.{flat_map}
use Rattle.sg_ast.specs.declared.stmt.Stmt.{Stmt, para-Stmt}
use Rattle.sg_ast.specs.declared.stmt.Stmt.TheOpen as f
use Rattle.sg_ast.specs.declared.stmt.Stmt.TheOpen.{Stmt-F}

-- a statement, and then the statements in it
abbrev pub with_inner : (Stmt × List Stmt) → List Stmt
with_inner part = part.0 ∷ part.1

-- those of an `else`, where there is one
abbrev pub else_inner : Option (List (Stmt × List Stmt)) → List Stmt
else_inner None = []
else_inner (Some parts) = flat_map with_inner parts

-- one layer of a statement, where for each statement in it those in that one are given
abbrev pub inner_step : Stmt-F (Stmt × List Stmt) → List Stmt
inner_step (f.Let name value) = []
inner_step (f.Assign name value) = []
inner_step (f.Write field index how value) = []
inner_step (f.If condition block otherwise) = flat_map with_inner block ++ else_inner otherwise
inner_step (f.For name range body) = flat_map with_inner body

-- the statements in a statement
abbrev pub inner_statements : Stmt → List Stmt
inner_statements = para-Stmt (List Stmt) inner_step

-- the statements of a block, those in blocks of it counted
abbrev pub statements_of : List Stmt → List Stmt
statements_of block = flat_map (λ statement. statement ∷ inner_statements statement) block
