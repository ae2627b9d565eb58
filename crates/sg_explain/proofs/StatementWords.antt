-- The statements in a statement, at each kind of statement.
use Rattle.std.specs.Prelude.{◌≡◌, refl, List, [], ◌++◌, map, Option, Some, None}
use Rattle.std.specs.List.{flat_map}
use Rattle.std.proofs.Common.{◌∙◌, ap, sym}
use Rattle.std.proofs.lemmas.List.Folds.{flat_map-map}
use Rattle.sg_ast.specs.declared.token.Name.{Name}
use Rattle.sg_ast.specs.declared.expr.Expr.{Expr}
use Rattle.sg_ast.specs.declared.stmt.WayDecl.{WayDecl}
use Rattle.sg_ast.specs.declared.stmt.RangeDecl.{RangeDecl}
use Rattle.sg_ast.specs.declared.stmt.Stmt.{Stmt, para-roll-Stmt}
use Rattle.sg_ast.specs.declared.stmt.Stmt.TheVariants as stmt
use Rattle.sg_ast.specs.declared.stmt.Stmt.TheVariants.{rolls-Let, rolls-Assign, rolls-Write, rolls-If, rolls-For}
use Rattle.sg_ast.specs.declared.stmt.Stmt.TheOpen as f
use Rattle.sg_explain.specs.Statements.{with_inner, inner_step, inner_statements, statements_of}

pub inner-Let : (name : Name) (value : Expr) → inner_statements (stmt.Let name value) ≡ []
inner-Let name value = ap inner_statements (sym (rolls-Let name value)) ∙ para-roll-Stmt (List Stmt) inner_step (f.Let name value)

pub inner-Assign : (name : Name) (value : Expr) → inner_statements (stmt.Assign name value) ≡ []
inner-Assign name value = ap inner_statements (sym (rolls-Assign name value)) ∙ para-roll-Stmt (List Stmt) inner_step (f.Assign name value)

pub inner-Write : (field : Name) (index : List Expr) (how : WayDecl) (value : Expr) → inner_statements (stmt.Write field index how value) ≡ []
inner-Write field index how value = ap inner_statements (sym (rolls-Write field index how value)) ∙ para-roll-Stmt (List Stmt) inner_step (f.Write field index how value)

pub paired : (block : List Stmt) → flat_map with_inner (map (λ part. (part, inner_statements part)) block) ≡ statements_of block
paired block = flat_map-map with_inner (λ part. (part, inner_statements part)) block

-- the statements of an `else`, where there is one
abbrev pub else_statements : Option (List Stmt) → List Stmt
else_statements None = []
else_statements (Some block) = statements_of block

pub inner-If : (condition : Expr) (block : List Stmt) (otherwise : Option (List Stmt)) → inner_statements (stmt.If condition block otherwise) ≡ statements_of block ++ else_statements otherwise
inner-If condition block None = ap inner_statements (sym (rolls-If condition block None)) ∙ para-roll-Stmt (List Stmt) inner_step (f.If condition block None) ∙ ap (λ xs. xs ++ []) (paired block)
inner-If condition block (Some other) = ap inner_statements (sym (rolls-If condition block (Some other))) ∙ para-roll-Stmt (List Stmt) inner_step (f.If condition block (Some other))
    ∙ rw (paired block, paired other) refl

pub inner-For : (name : Name) (range : RangeDecl) (body : List Stmt) → inner_statements (stmt.For name range body) ≡ statements_of body
inner-For name range body = ap inner_statements (sym (rolls-For name range body)) ∙ para-roll-Stmt (List Stmt) inner_step (f.For name range body) ∙ paired body
