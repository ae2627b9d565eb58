-- Where in the tokens of a file a refusal of it is.
use Rattle.std.specs.Prelude.{◌≡◌, ℕ, List, Option, Ok, Err, IsSomeAnd}
use Rattle.sg_ast.specs.declared.token.Spanned.{Spanned}
use Rattle.sg_ast.specs.declared.token.Tokens.{Tokens}
use Rattle.sg_lexer.specs.Lexing.{tokens}
use Rattle.sg_parser.specs.declared.program.ParseFault.TheVariants.{Syntax}
use Rattle.sg_parser.specs.Parsed.{program_of}
use Rattle.sg_admit.specs.declared.admitted.AdmitFault.TheVariants.{Rule, BoxTooLarge}
use Rattle.sg_session.specs.declared.refusal.Refusal.{Refusal}
use Rattle.sg_session.specs.declared.refusal.Refusal.TheVariants as refusal
use Rattle.sg_session.specs.Compiling.{compiled_program}
use Rattle.sg_explain.specs.declared.place.Place.{Place}
use Rattle.sg_explain.specs.Fronts.{IsReadUpTo}
use Rattle.sg_explain.specs.Places.{statement_place}
use Rattle.sg_explain.specs.Explained.{Shows}

-- a place in tokens is that of a refusal
abbrev pub IsIn : List Spanned → Refusal → Option Place → Type 0
IsIn tokens (refusal.Types fault) place = place ≡ statement_place tokens fault.kernel fault.stmt
IsIn tokens (refusal.Admit kernel (Rule stmt rule)) place = place ≡ statement_place tokens kernel stmt
IsIn tokens (refusal.Admit kernel BoxTooLarge) place = place ≡ statement_place tokens kernel 0
IsIn tokens (refusal.Parse (Syntax number line)) place = program_of tokens ≡ Err (Syntax number line) → IsSomeAnd place (IsReadUpTo tokens number)
IsIn tokens why place = Unit {0}

-- A place that is in the tokens of a file that of its refusal is its place in the bytes.
abbrev pub RefusalsAreShown : Type 0
RefusalsAreShown = (bytes : List ℕ) (why : Refusal) (place : Option Place) → compiled_program bytes ≡ Err why
    → ((found : Tokens) → tokens bytes ≡ Ok found → IsIn found.list why place) → Shows bytes why place
