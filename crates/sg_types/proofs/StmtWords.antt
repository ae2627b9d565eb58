-- What the words on statements are at each variant.
use Rattle.std.proofs.Common.{◌≡◌, ◌+◌, List, map, Option, Some, None, option_map}
use Rattle.sg_ast.specs.declared.token.Name.{Name}
use Rattle.sg_ast.specs.declared.expr.Expr.{Expr}
use Rattle.sg_ast.specs.declared.stmt.WayDecl.{WayDecl}
use Rattle.sg_ast.specs.declared.stmt.RangeDecl.{RangeDecl}
use Rattle.sg_ast.specs.declared.stmt.Stmt.{Stmt}
use Rattle.sg_ast.specs.declared.stmt.Stmt.TheVariants as stmt
use Rattle.sg_ast.proofs.Uses.{fold-Let_stmt, fold-Assign_stmt, fold-Write_stmt, fold-If_stmt, fold-If_else_stmt, fold-For_stmt}
use Rattle.sg_types.specs.Scopes.{Known}
use Rattle.sg_types.specs.Statements.{typed_stmt_step, typed_stmt, let_step, simple_step, if_step, for_step, assign_part, write_part}
use Rattle.sg_types.specs.Counting.{stmt_count, count_step, block_count, else_count}

module _ (known : Known) where
  pub typed-Let : (name : Name) (value : Expr) → typed_stmt known (stmt.Let name value) ≡ let_step known name value
  typed-Let name value = fold-Let_stmt (typed_stmt_step known) name value

  pub typed-Assign : (name : Name) (value : Expr) → typed_stmt known (stmt.Assign name value) ≡ (λ at. simple_step known (assign_part known at.scope name value) at)
  typed-Assign name value = fold-Assign_stmt (typed_stmt_step known) name value

  pub typed-Write : (field : Name) (index : List Expr) (how : WayDecl) (value : Expr) → typed_stmt known (stmt.Write field index how value) ≡ (λ at. simple_step known (write_part known at.scope field index how value) at)
  typed-Write field index how value = fold-Write_stmt (typed_stmt_step known) field index how value

  pub typed-If : (condition : Expr) (block : List Stmt) (otherwise : Option (List Stmt)) → typed_stmt known (stmt.If condition block otherwise) ≡ if_step known condition (map (typed_stmt known) block) (option_map (map (typed_stmt known)) otherwise)
  typed-If condition block None = fold-If_stmt (typed_stmt_step known) condition block
  typed-If condition block (Some otherwise) = fold-If_else_stmt (typed_stmt_step known) condition block otherwise

  pub typed-For : (name : Name) (range : RangeDecl) (body : List Stmt) → typed_stmt known (stmt.For name range body) ≡ for_step known name range (map (typed_stmt known) body)
  typed-For name range body = fold-For_stmt (typed_stmt_step known) name range body

pub count-Let : (name : Name) (value : Expr) → stmt_count (stmt.Let name value) ≡ 1
count-Let name value = fold-Let_stmt count_step name value

pub count-Assign : (name : Name) (value : Expr) → stmt_count (stmt.Assign name value) ≡ 1
count-Assign name value = fold-Assign_stmt count_step name value

pub count-Write : (field : Name) (index : List Expr) (how : WayDecl) (value : Expr) → stmt_count (stmt.Write field index how value) ≡ 1
count-Write field index how value = fold-Write_stmt count_step field index how value

pub count-If : (condition : Expr) (block : List Stmt) (otherwise : Option (List Stmt)) → stmt_count (stmt.If condition block otherwise) ≡ 1 + (block_count block + else_count otherwise)
count-If condition block None = fold-If_stmt count_step condition block
count-If condition block (Some otherwise) = fold-If_else_stmt count_step condition block otherwise

pub count-For : (name : Name) (range : RangeDecl) (body : List Stmt) → stmt_count (stmt.For name range body) ≡ 1 + block_count body
count-For name range body = fold-For_stmt count_step name range body
