-- Kernels: the one token list of each.
use Rattle.std.specs.Prelude.{List, [], ◌∷◌, ◌++◌, map}
use Rattle.sg_ast.specs.declared.token.Word.TheVariants as w
use Rattle.sg_ast.specs.declared.token.Sign.TheVariants as s
use Rattle.sg_ast.specs.declared.token.Token.{Token}
use Rattle.sg_ast.specs.declared.token.Token.TheVariants as t
use Rattle.sg_ast.specs.declared.kernel.DomainDecl.{DomainDecl}
use Rattle.sg_ast.specs.declared.kernel.DomainDecl.TheVariants as domain
use Rattle.sg_ast.specs.declared.kernel.KernelDecl.{KernelDecl}
use Rattle.sg_ast.specs.Expr.{with_commas}
use Rattle.sg_ast.specs.Stmt.{range_tokens, block_tokens}
use Rattle.sg_ast.specs.Layout.{names_tokens}

-- the name of a layout, or ranges with a comma between each two
abbrev pub domain_tokens : DomainDecl → List Token
domain_tokens (domain.Layout name) = t.Name name ∷ []
domain_tokens (domain.Ranges ranges) = with_commas (map range_tokens ranges)

-- `kernel NAME { for VARIABLES in DOMAIN BLOCK }`
abbrev pub kernel_tokens : KernelDecl → List Token
kernel_tokens kernel =
    t.Word w.Kernel ∷ t.Name kernel.name ∷ t.Sign s.OpenBrace ∷ t.Word w.For ∷ (names_tokens kernel.vars ++
    (t.Word w.In ∷ (domain_tokens kernel.domain ++ (block_tokens kernel.body ++ t.Sign s.CloseBrace ∷ []))))
