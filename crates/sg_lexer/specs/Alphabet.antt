-- The bytes, the reserved words and the signs that tokens are made of, and the text of each token.
use Rattle.std.specs.Prelude.{ℕ, Bool, ◌||◌, ◌==◌, nat_eq, if◌then◌else◌, List, [], ◌∷◌, ◌++◌, Option, Some, None, codes, decimal, find, bytes_eq}
use Rattle.std.specs.Char.{is_ascii_alphanumeric}
use Rattle.std.specs.List.{starts_with}
use Rattle.sg_ast.specs.declared.token.Word.{Word}
use Rattle.sg_ast.specs.declared.token.Sign.{Sign}
use Rattle.sg_ast.specs.declared.token.Sign.TheVariants as sign
use Rattle.sg_ast.specs.declared.token.Token.{Token}
use Rattle.sg_ast.specs.declared.token.Token.TheVariants as token
pub use Rattle.sg_ast.specs.Token.{word_text, reserved_words}

-- white space: the space, the tab, the carriage return and the newline
abbrev pub is_space : ℕ → Bool
is_space b = b == 32 || b == 9 || b == 13 || b == 10

-- what names and numbers are made of: an ASCII letter, a digit or `_`
abbrev pub is_inner : ℕ → Bool
is_inner b = is_ascii_alphanumeric b || b == 95

-- the reserved word of this spelling, if there is one
unfoldable pub reserved_word : List ℕ → Option Word
reserved_word text = find (λ w. bytes_eq (word_text w) text) reserved_words

-- the word beside the first text that equals the given one
abbrev pub lookup : List (List ℕ × Word) → List ℕ → Option Word
lookup [] text = None
lookup (entry ∷ entries) text = if bytes_eq entry.0 text then Some entry.1 else lookup entries text

-- the spelling of a sign
abbrev pub sign_text : Sign → List ℕ
sign_text sign.DotDot = codes ".."
sign_text sign.EqualEqual = codes "=="
sign_text sign.NotEqual = codes "!="
sign_text sign.LessEqual = codes "<="
sign_text sign.GreaterEqual = codes ">="
sign_text sign.AndAnd = codes "&&"
sign_text sign.OrOr = codes "||"
sign_text sign.ShiftLeft = codes "<<"
sign_text sign.ShiftRight = codes ">>"
sign_text sign.PlusEqual = codes "+="
sign_text sign.OrEqual = codes "|="
sign_text sign.AndEqual = codes "&="
sign_text sign.CaretEqual = codes "^="
sign_text sign.OpenBrace = codes "{"
sign_text sign.CloseBrace = codes "}"
sign_text sign.OpenParen = codes "("
sign_text sign.CloseParen = codes ")"
sign_text sign.OpenBracket = codes "["
sign_text sign.CloseBracket = codes "]"
sign_text sign.Semicolon = codes ";"
sign_text sign.Comma = codes ","
sign_text sign.Colon = codes ":"
sign_text sign.Equal = codes "="
sign_text sign.Less = codes "<"
sign_text sign.Greater = codes ">"
sign_text sign.Plus = codes "+"
sign_text sign.Minus = codes "-"
sign_text sign.Star = codes "*"
sign_text sign.Slash = codes "/"
sign_text sign.Percent = codes "%"
sign_text sign.And = codes "&"
sign_text sign.Or = codes "|"
sign_text sign.Caret = codes "^"
sign_text sign.Tilde = codes "~"
sign_text sign.Not = codes "!"

-- all signs, the longer ones first
abbrev pub signs : List Sign
signs =
    sign.DotDot ∷ sign.EqualEqual ∷ sign.NotEqual ∷ sign.LessEqual ∷ sign.GreaterEqual ∷ sign.AndAnd ∷ sign.OrOr ∷ sign.ShiftLeft ∷ sign.ShiftRight ∷
    sign.PlusEqual ∷ sign.OrEqual ∷ sign.AndEqual ∷ sign.CaretEqual ∷ sign.OpenBrace ∷ sign.CloseBrace ∷ sign.OpenParen ∷ sign.CloseParen ∷
    sign.OpenBracket ∷ sign.CloseBracket ∷ sign.Semicolon ∷ sign.Comma ∷ sign.Colon ∷ sign.Equal ∷ sign.Less ∷ sign.Greater ∷ sign.Plus ∷ sign.Minus ∷
    sign.Star ∷ sign.Slash ∷ sign.Percent ∷ sign.And ∷ sign.Or ∷ sign.Caret ∷ sign.Tilde ∷ sign.Not ∷ []

-- the longest sign that these bytes begin with, if they begin with one
unfoldable pub sign_at : List ℕ → Option Sign
sign_at bytes = find (λ s. starts_with nat_eq bytes (sign_text s)) signs

-- what stands after the digits of a number
abbrev pub suffix : Bool → List ℕ
suffix unsigned = if unsigned then codes "u" else []

-- the spelling of a token
abbrev pub text_of : Token → List ℕ
text_of (token.Name name) = name.text
text_of (token.Word w) = word_text w
text_of (token.Number value unsigned) = decimal value ++ suffix unsigned
text_of (token.Sign s) = sign_text s
