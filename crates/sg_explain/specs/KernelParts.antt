-- That the parts of a kernel are its loop and its statements.
use Rattle.std.specs.Prelude.{◌≡◌, List, [], ◌∷◌, ◌++◌, map}
use Rattle.sg_ast.specs.declared.token.Word.TheVariants as w
use Rattle.sg_ast.specs.declared.token.Sign.TheVariants as s
use Rattle.sg_ast.specs.declared.token.Token.{Token}
use Rattle.sg_ast.specs.declared.token.Token.TheVariants as t
use Rattle.sg_ast.specs.declared.stmt.Stmt.{Stmt}
use Rattle.sg_ast.specs.declared.kernel.KernelDecl.{KernelDecl}
use Rattle.sg_ast.specs.Stmt.{stmt_tokens, block_tokens}
use Rattle.sg_ast.specs.Layout.{names_tokens}
use Rattle.sg_ast.specs.Kernel.{domain_tokens, kernel_tokens}
use Rattle.sg_explain.specs.Parts.{parts_of}
use Rattle.sg_explain.specs.Statements.{statements_of}

-- each statement has a part, in order, and its tokens stand there
abbrev pub Begin : List Stmt → List (List Token) → Type 0
Begin [] [] = Unit {0}
Begin (statement ∷ more) (part ∷ parts) = ((rest : List Token) × (part ≡ stmt_tokens statement ++ rest)) × Begin more parts
Begin _ _ = ⊥

-- the tokens of a kernel from its loop on
abbrev pub loop_tokens : KernelDecl → List Token
loop_tokens kernel =
    t.Word w.For ∷ (names_tokens kernel.vars ++
    (t.Word w.In ∷ (domain_tokens kernel.domain ++ (block_tokens kernel.body ++ t.Sign s.CloseBrace ∷ []))))

-- the tokens with which each part of a kernel begins, in the order in which the parts are numbered: its loop is number 0, and then come its
-- statements
abbrev pub part_tokens : KernelDecl → List (List Token)
part_tokens kernel = loop_tokens kernel ∷ map stmt_tokens (statements_of kernel.body)

-- The parts of a kernel's tokens are its loop, and then its statements in the order in which they are numbered.
abbrev pub PartsAreStatements : Type 0
PartsAreStatements = (kernel : KernelDecl) → (parts : List (List Token))
    × (parts_of (kernel_tokens kernel) ≡ loop_tokens kernel ∷ parts) × Begin (statements_of kernel.body) parts
