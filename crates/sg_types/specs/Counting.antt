-- How many statements there are, themselves and those in their blocks counted.
use Rattle.std.specs.Prelude.{ℕ, ◌+◌, List, [], ◌∷◌, map, Option, Some, None}
use Rattle.sg_ast.specs.declared.stmt.Stmt.{Stmt, fold-Stmt}
use Rattle.sg_ast.specs.declared.stmt.Stmt.TheOpen as s
use Rattle.sg_ast.specs.declared.stmt.Stmt.TheOpen.{Stmt-F}

-- the sum of some numbers
abbrev pub total_of : List ℕ → ℕ
total_of [] = 0
total_of (n ∷ ns) = n + total_of ns

-- the sum of the numbers of an `else`, if there is one
abbrev pub else_sum : Option (List ℕ) → ℕ
else_sum None = 0
else_sum (Some counts) = total_of counts

-- one layer of a statement, where the numbers of statements in those in it are given
abbrev pub count_step : Stmt-F ℕ → ℕ
count_step (s.Let name value) = 1
count_step (s.Assign name value) = 1
count_step (s.Write field index how value) = 1
count_step (s.If condition block otherwise) = 1 + (total_of block + else_sum otherwise)
count_step (s.For name range body) = 1 + total_of body

-- how many statements a statement is
abbrev pub stmt_count : Stmt → ℕ
stmt_count = fold-Stmt ℕ count_step

-- how many a block has
abbrev pub block_count : List Stmt → ℕ
block_count block = total_of (map stmt_count block)

-- how many statements an `else` has, if there is one
abbrev pub else_count : Option (List Stmt) → ℕ
else_count None = 0
else_count (Some block) = block_count block
