-- With how many tokens of a file some file of the grammar begins.
use Rattle.std.specs.Prelude.{◌≡◌, ℕ, List, take, Ok}
use Rattle.sg_ast.specs.declared.token.Tokens.{Tokens}
use Rattle.sg_ast.specs.Items.{kinds}
use Rattle.sg_lexer.specs.Lexing.{tokens}
use Rattle.sg_explain.specs.Fronts.{IsFront}

-- with so many of the tokens of these bytes some file begins
abbrev pub IsCertified : List ℕ → ℕ → Type 0
IsCertified bytes taken = (found : Tokens) → tokens bytes ≡ Ok found → IsFront (kinds (take taken found.list))

-- where some file begins with the first number of them, one begins with the second
abbrev pub KeepsFronts : List ℕ → ℕ → ℕ → Type 0
KeepsFronts bytes least last = (found : Tokens) → tokens bytes ≡ Ok found → IsFront (kinds (take least found.list)) → IsFront (kinds (take last found.list))
