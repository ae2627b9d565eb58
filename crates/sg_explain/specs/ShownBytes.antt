-- That the bytes of a file which are shown for the loop or for a statement of a kernel spell it.
use Rattle.std.specs.Prelude.{◌≡◌, ℕ, List, ◌++◌, length, Some, Ok, slice_get}
use Rattle.sg_ast.specs.declared.token.Token.{Token}
use Rattle.sg_ast.specs.declared.token.Spanned.{Spanned}
use Rattle.sg_ast.specs.declared.token.Tokens.{Tokens}
use Rattle.sg_ast.specs.declared.kernel.KernelDecl.{KernelDecl}
use Rattle.sg_ast.specs.declared.program.Program.{Program}
use Rattle.sg_ast.specs.Items.{kinds}
use Rattle.sg_lexer.specs.Lexing.{tokens}
use Rattle.sg_lexer.specs.Laws.{AreTokens}
use Rattle.sg_parser.specs.Parsed.{program_of}
use Rattle.sg_explain.specs.declared.place.Place.{Place}
use Rattle.sg_explain.specs.KernelParts.{part_tokens}
use Rattle.sg_explain.specs.KernelItems.{kernel_decls}
use Rattle.sg_explain.specs.Places.{statement_place}

-- A place in bytes at which these tokens stand: they are the first tokens of the bytes from there on.
pub record StandAt (bytes : List ℕ) (from : ℕ) (given : List Token) : Type 0 where
  pub here : List Spanned
  pub more : List Token
  pub read : AreTokens bytes from here (length bytes)
  pub begins : kinds here ≡ given ++ more

-- of a kernel of a number the part of a number, which begins with these tokens, is shown at a place at which they stand
pub record IsShownAt (bytes : List ℕ) (found : Tokens) (kernel number : ℕ) (given : List Token) : Type 0 where
  pub place : Place
  pub is : statement_place found.list kernel number ≡ Some place
  pub stand : StandAt bytes place.from given

-- The loop and each statement of each kernel of the program that bytes spell are shown where they are spelled.
abbrev pub ShownIsSpelled : Type 0
ShownIsSpelled = (bytes : List ℕ) (found : Tokens) (program : Program) → tokens bytes ≡ Ok found → program_of found.list ≡ Ok program
    → (kernel number : ℕ) (decl : KernelDecl) (given : List Token) → slice_get (kernel_decls program.items) kernel ≡ Some decl
    → slice_get (part_tokens decl) number ≡ Some given → IsShownAt bytes found kernel number given
