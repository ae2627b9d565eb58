-- That the parts of a kernel are its loop and its statements.
use Rattle.std.specs.Prelude.{◌≡◌, refl, true, false, List, [], ◌∷◌, ◌++◌, map, Option, Some, None, option_map}
use Rattle.std.specs.List.{AllByRecursion}
use Rattle.std.proofs.Common.{◌∙◌, ap, sym}
use Rattle.std.proofs.lemmas.List.{append_assoc, append-nil}
use Rattle.sg_ast.specs.declared.token.Name.{Name}
use Rattle.sg_ast.specs.declared.token.Word.TheVariants as w
use Rattle.sg_ast.specs.declared.token.Sign.TheVariants as s
use Rattle.sg_ast.specs.declared.token.Token.{Token}
use Rattle.sg_ast.specs.declared.token.Token.TheVariants as t
use Rattle.sg_ast.specs.declared.expr.Expr.{Expr}
use Rattle.sg_ast.specs.declared.stmt.WayDecl.{WayDecl}
use Rattle.sg_ast.specs.declared.stmt.RangeDecl.{RangeDecl}
use Rattle.sg_ast.specs.declared.stmt.Stmt.{Stmt}
use Rattle.sg_ast.specs.declared.stmt.Stmt.TheVariants as stmt
use Rattle.sg_ast.specs.declared.kernel.KernelDecl.{KernelDecl}
use Rattle.sg_ast.specs.Expr.{tokens_of, with_commas}
use Rattle.sg_ast.specs.Stmt.{joined_lists, stmt_tokens, block_tokens, way_tokens, range_tokens, else_tokens}
use Rattle.sg_ast.specs.Kernel.{domain_tokens}
use Rattle.sg_ast.proofs.Uses.{AllInElse, by_statements, stmt_tokens-Let, stmt_tokens-Assign, stmt_tokens-Write, stmt_tokens-If, stmt_tokens-For}
use Rattle.sg_explain.specs.Parts.{ends_part, begins_part, parts_from}
use Rattle.sg_explain.specs.Statements.{inner_statements, statements_of}
use Rattle.sg_explain.specs.KernelParts.{Begin, loop_tokens, PartsAreStatements}
use Rattle.sg_explain.proofs.Inert.{inert_expr, inert_range, inert_indices, inert_way, inert_names, inert_domain, inert_ended, inert_before}
use Rattle.sg_explain.proofs.StatementWords.{else_statements, inner-Let, inner-Assign, inner-Write, inner-If, inner-For}

-- ---- the walk

-- a statement in front gives its part, and those of the statements in it, before what follows
abbrev IsParted : Stmt → Type 0
IsParted statement = (more : List Stmt) (rest : List Token) → Begin more (parts_from true rest)
    → Begin ((statement ∷ inner_statements statement) ++ more) (parts_from true (stmt_tokens statement ++ rest))

parted_list : (block : List Stmt) → AllByRecursion IsParted block → (more : List Stmt) (rest : List Token) → Begin more (parts_from true rest)
    → Begin (statements_of block ++ more) (parts_from true (joined_lists (map stmt_tokens block) ++ rest))
parted_list [] h more rest b = b
parted_list (statement ∷ block) h more rest b =
    rw (append_assoc (statement ∷ inner_statements statement) (statements_of block) more, append_assoc (stmt_tokens statement) (joined_lists (map stmt_tokens block)) rest)
    (h.0 (statements_of block ++ more) (joined_lists (map stmt_tokens block) ++ rest) (parted_list block h.1 more rest b))

-- a block with its braces
parted_block : (block : List Stmt) → AllByRecursion IsParted block → (more : List Stmt) (rest : List Token) → Begin more (parts_from true rest)
    → Begin (statements_of block ++ more) (parts_from false (block_tokens block ++ rest))
parted_block block h more rest b =
    rw (append_assoc (joined_lists (map stmt_tokens block)) (t.Sign s.CloseBrace ∷ []) rest)
    (parted_list block h more (t.Sign s.CloseBrace ∷ rest) b)

parted_else : (otherwise : Option (List Stmt)) → AllInElse IsParted otherwise → (more : List Stmt) (rest : List Token) → Begin more (parts_from true rest)
    → Begin (else_statements otherwise ++ more) (parts_from true (else_tokens (option_map (map stmt_tokens) otherwise) ++ rest))
parted_else None h more rest b = b
parted_else (Some block) h more rest b = parted_block block h more rest b

-- a statement whose part is in front: its tokens are these, those in it these
first_part : (statement : Stmt) (inner more : List Stmt) (x : Token) (xs rest : List Token) → stmt_tokens statement ≡ x ∷ xs → inner_statements statement ≡ inner
    → begins_part x ≡ true → Begin (inner ++ more) (parts_from (ends_part x) (xs ++ rest))
    → Begin ((statement ∷ inner_statements statement) ++ more) (parts_from true (stmt_tokens statement ++ rest))
first_part statement inner more x xs rest spelled within begins b = rw (spelled, within, begins) ((rest, ap (λ tokens. tokens ++ rest) (sym spelled)), b)

parted_write : (field : Name) (index : List Expr) (how : WayDecl) (value : Expr) → IsParted (stmt.Write field index how value)
parted_write field index how value more rest b =
    let after : List Token = tokens_of value ++ t.Sign s.Semicolon ∷ [] in
    let access : List Token = t.Sign s.OpenBracket ∷ (with_commas (map tokens_of index) ++ t.Sign s.CloseBracket ∷ []) in
    first_part (stmt.Write field index how value) [] more (t.Name field) (access ++ (way_tokens how ++ after)) rest
    (stmt_tokens-Write field index how value) (inner-Write field index how value) refl
    (rw (
      inert_before access (way_tokens how ++ after) rest (inert_indices index),
      inert_before (way_tokens how) after rest (inert_way how),
      inert_ended (tokens_of value) rest (inert_expr value),
    ) b)

parted_if : (condition : Expr) (block : List Stmt) (otherwise : Option (List Stmt)) → AllByRecursion IsParted block → AllInElse IsParted otherwise → IsParted (stmt.If condition block otherwise)
parted_if condition block otherwise h else_h more rest b =
    let tail : List Token = else_tokens (option_map (map stmt_tokens) otherwise) in
    let behind_condition : parts_from false ((tokens_of condition ++ (block_tokens block ++ tail)) ++ rest) ≡ parts_from false (block_tokens block ++ (tail ++ rest)) =
    inert_before (tokens_of condition) (block_tokens block ++ tail) rest (inert_expr condition) ∙ ap (λ tokens. parts_from false tokens) (append_assoc (block_tokens block) tail rest) in
    first_part (stmt.If condition block otherwise) (statements_of block ++ else_statements otherwise) more (t.Word w.If) (tokens_of condition ++ (block_tokens block ++ tail)) rest
    (stmt_tokens-If condition block otherwise) (inner-If condition block otherwise) refl
    (rw (behind_condition, append_assoc (statements_of block) (else_statements otherwise) more)
    (parted_block block h (else_statements otherwise ++ more) (tail ++ rest) (parted_else otherwise else_h more rest b)))

parted_for : (name : Name) (range : RangeDecl) (body : List Stmt) → AllByRecursion IsParted body → IsParted (stmt.For name range body)
parted_for name range body h more rest b =
    first_part (stmt.For name range body) (statements_of body) more (t.Word w.For) (t.Name name ∷ t.Word w.In ∷ (range_tokens range ++ block_tokens body)) rest
    (stmt_tokens-For name range body) (inner-For name range body) refl
    (rw (inert_before (range_tokens range) (block_tokens body) rest (inert_range range)) (parted_block body h more rest b))

pub parted : (statement : Stmt) → IsParted statement
parted = by_statements IsParted
    (λ name value more rest b. first_part (stmt.Let name value) [] more (t.Word w.Let) (t.Name name ∷ t.Sign s.Equal ∷ (tokens_of value ++ t.Sign s.Semicolon ∷ [])) rest
    (stmt_tokens-Let name value) (inner-Let name value) refl (rw (inert_ended (tokens_of value) rest (inert_expr value)) b))
    (λ name value more rest b. first_part (stmt.Assign name value) [] more (t.Name name) (t.Sign s.Equal ∷ (tokens_of value ++ t.Sign s.Semicolon ∷ [])) rest
    (stmt_tokens-Assign name value) (inner-Assign name value) refl (rw (inert_ended (tokens_of value) rest (inert_expr value)) b))
    parted_write parted_if parted_for

all_parted : (block : List Stmt) → AllByRecursion IsParted block
all_parted [] = tt
all_parted (statement ∷ block) = (parted statement, all_parted block)

-- ---- a kernel

kernel_parts : (kernel : KernelDecl) → Begin (statements_of kernel.body) (parts_from false (block_tokens kernel.body ++ t.Sign s.CloseBrace ∷ []))
kernel_parts kernel = rw (append-nil (statements_of kernel.body)) at (parted_block kernel.body (all_parted kernel.body) [] (t.Sign s.CloseBrace ∷ []) tt)

pub parts-are_statements : PartsAreStatements
parts-are_statements kernel =
    let block : List Token = block_tokens kernel.body ++ t.Sign s.CloseBrace ∷ [] in (
      parts_from false block,
      ap (λ parts. loop_tokens kernel ∷ parts) (inert_names kernel.vars (t.Word w.In ∷ (domain_tokens kernel.domain ++ block))
          ∙ inert_domain kernel.domain block),
      kernel_parts kernel,
    )
