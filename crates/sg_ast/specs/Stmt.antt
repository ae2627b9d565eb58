-- Statements: the one token list of each, and how deep their blocks nest.
use Rattle.std.specs.Prelude.{ℕ, ◌+◌, max, List, [], ◌∷◌, ◌++◌, map, Option, Some, None}
use Rattle.std.specs.List.{flat_map}
use Rattle.sg_words.specs.declared.operators.AccOp.TheVariants as acc
use Rattle.sg_ast.specs.declared.token.Word.TheVariants as w
use Rattle.sg_ast.specs.declared.token.Sign.TheVariants as s
use Rattle.sg_ast.specs.declared.token.Token.{Token}
use Rattle.sg_ast.specs.declared.token.Token.TheVariants as t
use Rattle.sg_ast.specs.declared.stmt.WayDecl.{WayDecl}
use Rattle.sg_ast.specs.declared.stmt.WayDecl.TheVariants as way
use Rattle.sg_ast.specs.declared.stmt.RangeDecl.{RangeDecl}
use Rattle.sg_ast.specs.declared.stmt.Stmt.{Stmt, fold-Stmt}
use Rattle.sg_ast.specs.declared.stmt.Stmt.TheOpen as f
use Rattle.sg_ast.specs.declared.stmt.Stmt.TheOpen.{Stmt-F}
use Rattle.sg_ast.specs.Expr.{tokens_of, access_tokens, largest}

-- lists, one after the other
abbrev pub joined_lists : {A : Type 0} → List (List A) → List A
joined_lists lists = flat_map (λ list. list) lists

-- a block, where the tokens of each statement are given
abbrev pub in_braces : List (List Token) → List Token
in_braces parts = t.Sign s.OpenBrace ∷ (joined_lists parts ++ t.Sign s.CloseBrace ∷ [])

-- `LO..HI`
abbrev pub range_tokens : RangeDecl → List Token
range_tokens range = tokens_of range.lo ++ t.Sign s.DotDot ∷ tokens_of range.hi

-- `=`, `+=`, `|=`, `&=`, `^=`, `min=` or `max=`, of which the last two have two tokens
abbrev pub way_tokens : WayDecl → List Token
way_tokens way.Own = t.Sign s.Equal ∷ []
way_tokens (way.Acc acc.Add) = t.Sign s.PlusEqual ∷ []
way_tokens (way.Acc acc.Min) = t.Word w.Min ∷ t.Sign s.Equal ∷ []
way_tokens (way.Acc acc.Max) = t.Word w.Max ∷ t.Sign s.Equal ∷ []
way_tokens (way.Acc acc.Or) = t.Sign s.OrEqual ∷ []
way_tokens (way.Acc acc.And) = t.Sign s.AndEqual ∷ []
way_tokens (way.Acc acc.Xor) = t.Sign s.CaretEqual ∷ []

-- `else` with its block, or nothing
abbrev pub else_tokens : Option (List (List Token)) → List Token
else_tokens None = []
else_tokens (Some parts) = t.Word w.Else ∷ in_braces parts

-- one layer of a statement, where the tokens of the statements in it are given
abbrev pub stmt_step : Stmt-F (List Token) → List Token
stmt_step (f.Let name value) = t.Word w.Let ∷ t.Name name ∷ t.Sign s.Equal ∷ (tokens_of value ++ t.Sign s.Semicolon ∷ [])
stmt_step (f.Assign name value) = t.Name name ∷ t.Sign s.Equal ∷ (tokens_of value ++ t.Sign s.Semicolon ∷ [])
stmt_step (f.Write field index how value) =
    access_tokens field (map tokens_of index) ++ (way_tokens how ++ (tokens_of value ++ t.Sign s.Semicolon ∷ []))
stmt_step (f.If condition then otherwise) = t.Word w.If ∷ (tokens_of condition ++ (in_braces then ++ else_tokens otherwise))
stmt_step (f.For name range body) = t.Word w.For ∷ t.Name name ∷ t.Word w.In ∷ (range_tokens range ++ in_braces body)

-- the tokens of a statement
abbrev pub stmt_tokens : Stmt → List Token
stmt_tokens = fold-Stmt (List Token) stmt_step

-- the tokens of a block, its braces among them
abbrev pub block_tokens : List Stmt → List Token
block_tokens block = in_braces (map stmt_tokens block)

-- the depth of an `else`, where the depths of the statements in it are given
abbrev pub else_nesting : Option (List ℕ) → ℕ
else_nesting None = 0
else_nesting (Some parts) = largest parts + 1

-- one layer of a statement, where it is given how deep blocks nest in the statements in it
abbrev pub nesting_step : Stmt-F ℕ → ℕ
nesting_step (f.Let name value) = 0
nesting_step (f.Assign name value) = 0
nesting_step (f.Write field index how value) = 0
nesting_step (f.If condition then otherwise) = max (largest then + 1) (else_nesting otherwise)
nesting_step (f.For name range body) = largest body + 1

-- how many blocks lie in one another in a statement, at most
abbrev pub stmt_nesting : Stmt → ℕ
stmt_nesting = fold-Stmt ℕ nesting_step

-- how many blocks lie in one another in a block, itself counted
abbrev pub nesting : List Stmt → ℕ
nesting block = largest (map stmt_nesting block) + 1
