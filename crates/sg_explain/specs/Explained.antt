-- What is told of a file: nothing where all its rules are kept; else its one refusal, and where in the file it is.
use Rattle.std.specs.Prelude.{◌≡◌, ℕ, List, Option, Some, None, Ok, Err, slice_get, IsSomeAnd}
use Rattle.std.specs.Result.{IsOkAnd}
use Rattle.sg_ast.specs.declared.token.Token.{Token}
use Rattle.sg_ast.specs.declared.token.Tokens.{Tokens}
use Rattle.sg_ast.specs.declared.kernel.KernelDecl.{KernelDecl}
use Rattle.sg_ast.specs.declared.program.Program.{Program}
use Rattle.sg_lexer.specs.Lexing.{tokens}
use Rattle.sg_parser.specs.declared.program.ParseFault.TheVariants.{Syntax}
use Rattle.sg_parser.specs.Parsed.{program_of}
use Rattle.sg_admit.specs.declared.admitted.AdmitFault.TheVariants.{Rule, BoxTooLarge}
use Rattle.sg_session.specs.declared.refusal.Refusal.{Refusal}
use Rattle.sg_session.specs.declared.refusal.Refusal.TheVariants as refusal
use Rattle.sg_session.specs.Compiling.{compiled_program}
use Rattle.sg_explain.specs.declared.place.Place.{Place}
use Rattle.sg_explain.specs.declared.refused.Explained.{Explained}
use Rattle.sg_explain.specs.KernelItems.{kernel_decls}
use Rattle.sg_explain.specs.KernelParts.{part_tokens}
use Rattle.sg_explain.specs.Fronts.{IsReadUpTo}
use Rattle.sg_explain.specs.Places.{statement_place}
use Rattle.sg_explain.specs.ShownBytes.{StandAt}

-- A place of a statement: of the program that the bytes spell the kernel of this number has a statement of this number, its loop being statement
-- 0; the place is the bytes of its head, and from its first byte on the bytes are read as the tokens of the statement.
pub record IsAtStatement (bytes : List ℕ) (kernel number : ℕ) (place : Place) : Type 0 where
  pub found : Tokens
  pub program : Program
  pub decl : KernelDecl
  pub given : List Token
  pub read : tokens bytes ≡ Ok found
  pub spelled : program_of found.list ≡ Ok program
  pub of_kernel : slice_get (kernel_decls program.items) kernel ≡ Some decl
  pub of_part : slice_get (part_tokens decl) number ≡ Some given
  pub head : statement_place found.list kernel number ≡ Some place
  pub stand : StandAt bytes place.from given

-- A place up to which a file is read: it is in the item of this number, and some file of the grammar begins with the tokens before it.
pub record IsAtStop (bytes : List ℕ) (number : ℕ) (place : Place) : Type 0 where
  pub found : Tokens
  pub read : tokens bytes ≡ Ok found
  pub up_to : IsReadUpTo found.list number place

-- The place of a refusal. One of types or of admission has that of the statement that its numbers name; one of syntax has one in the item that
-- spells nothing. Of any other refusal nothing is said.
abbrev pub Shows : List ℕ → Refusal → Option Place → Type 0
Shows bytes (refusal.Types fault) place = IsSomeAnd place (IsAtStatement bytes fault.kernel fault.stmt)
Shows bytes (refusal.Admit kernel (Rule stmt rule)) place = IsSomeAnd place (IsAtStatement bytes kernel stmt)
Shows bytes (refusal.Admit kernel BoxTooLarge) place = IsSomeAnd place (IsAtStatement bytes kernel 0)
Shows bytes (refusal.Parse (Syntax number line)) place = IsSomeAnd place (IsAtStop bytes number)
Shows bytes why place = Unit {0}

-- a refusal of a file is the one for which compiling refuses it, and it is shown where it is
pub record IsExplained (bytes : List ℕ) (told : Explained) : Type 0 where
  pub refused : compiled_program bytes ≡ Err told.refusal
  pub shown : Shows bytes told.refusal told.place

-- nothing is told exactly where the file keeps all rules
abbrev pub Explains : List ℕ → Option Explained → Type 0
Explains bytes None = IsOkAnd (compiled_program bytes) (λ program. Unit {0})
Explains bytes (Some told) = IsExplained bytes told
