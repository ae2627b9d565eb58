-- What the tokens of a list of bytes are, apart from the way they are found, and the laws that say so of `tokens`.
use Rattle.std.specs.Prelude.{◌≡◌, ◌≢◌, ◌⊎◌, ◌↔◌, ◌<◌, ◌≤◌, ℕ, true, false, IsTrue, nat_eq, List, [], ◌∷◌, map, length, take, drop, slice_index, slice_range, Ok, Err, codes, take_while}
use Rattle.std.specs.Char.{is_ascii_digit}
use Rattle.std.specs.List.{starts_with, list_all, prefix_len, join_with_byte}
use Rattle.sg_ast.specs.declared.token.Sign.{Sign}
use Rattle.sg_ast.specs.declared.token.Token.{Token}
use Rattle.sg_ast.specs.declared.token.Spanned.{Spanned}
use Rattle.sg_ast.specs.declared.token.Tokens.{Tokens}
use Rattle.sg_ast.specs.Token.{is_token}
use Rattle.sg_lexer.specs.declared.fault.LexFault.{LexFault}
use Rattle.sg_lexer.specs.declared.fault.LexFault.TheVariants as fault
use Rattle.sg_lexer.specs.Alphabet.{is_space, is_inner, sign_text, text_of}
use Rattle.sg_lexer.specs.Lexing.{is_in_line, line_after, tokens}
use Rattle.sg_ast.specs.Limits.{most_name_bytes, most_tokens}
use Rattle.sg_ast.specs.Items.{kinds}

-- only white space and comments stand before `after`
pub data Blank : List ℕ → List ℕ → Type 0 where
  none : (after : List ℕ) → Blank after after
  space : (b : ℕ) (bytes after : List ℕ) → is_space b ≡ true → Blank bytes after → Blank (b ∷ bytes) after
  comment : (bytes after : List ℕ) → starts_with nat_eq bytes (codes "//") ≡ true → Blank (drop (prefix_len is_in_line bytes) bytes) after → Blank bytes after

-- a run of letters, digits and `_`, good or not, or a sign
abbrev pub IsLexeme : List ℕ → Type 0
IsLexeme text = (list_all is_inner text ≡ true) ⊎ ((s : Sign) × (text ≡ sign_text s))

-- A token of the bytes, with its span and line. No longer run or sign, and no comment, begins at its place.
pub record IsTokenOf (bytes : List ℕ) (t : Spanned) : Type 0 where
  pub some : t.start < t.end
  pub within : t.end ≤ length bytes
  pub text : slice_range bytes t.start t.end ≡ text_of t.token
  pub valid : IsTrue (is_token t.token)
  pub no_comment : starts_with nat_eq (drop t.start bytes) (codes "//") ≡ false
  pub line : t.line ≡ line_after (take t.start bytes)
  pub longest : (end : ℕ) → t.end < end → end ≤ length bytes → IsLexeme (slice_range bytes t.start end) → ⊥

-- The tokens of the bytes from one place to another: in order, with only white space and comments before, between and after them.
abbrev pub AreTokens : List ℕ → ℕ → List Spanned → ℕ → Type 0
AreTokens bytes from [] to = Blank (drop from bytes) (drop to bytes)
AreTokens bytes from (t ∷ ts) to = (from ≤ t.start) × Blank (drop from bytes) (drop t.start bytes) × IsTokenOf bytes t × AreTokens bytes t.end ts to

-- the run of letters, digits and `_` at the front
abbrev pub run_at : List ℕ → List ℕ
run_at bytes = take_while is_inner bytes

-- neither white space nor a comment begins here
pub record IsNoBlank (bytes : List ℕ) : Type 0 where
  pub no_space : is_space (slice_index bytes 0) ≡ false
  pub no_comment : starts_with nat_eq bytes (codes "//") ≡ false

-- The fault of the bytes that stand in this line, after `count` tokens, with no white space or comment at their front.
pub data IsFault (count line : ℕ) (bytes : List ℕ) : LexFault → Type 0 where
  bad_byte : is_inner (slice_index bytes 0) ≡ false → ((s : Sign) → starts_with nat_eq bytes (sign_text s) ≡ false) → IsFault count line bytes (fault.BadByte line)
  bad_number : count < most_tokens → is_ascii_digit (slice_index bytes 0) ≡ true → ((t : Token) → IsTrue (is_token t) → text_of t ≢ run_at bytes) → IsFault count line bytes (fault.BadNumber line)
  long_name : count < most_tokens → is_inner (slice_index bytes 0) ≡ true → is_ascii_digit (slice_index bytes 0) ≡ false → most_name_bytes < length (run_at bytes) → IsFault count line bytes (fault.LongName line)
  too_many_runs : most_tokens ≤ count → is_inner (slice_index bytes 0) ≡ true → IsFault count line bytes fault.TooManyTokens
  too_many_signs : most_tokens ≤ count → (s : Sign) → starts_with nat_eq bytes (sign_text s) ≡ true → IsFault count line bytes fault.TooManyTokens

-- a fault at a place, up to which all is well, with no more tokens than the limit
pub record IsFirstLexFault (bytes : List ℕ) (f : LexFault) : Type 0 where
  pub before : List Spanned
  pub at : ℕ
  pub within : at < length bytes
  pub well : AreTokens bytes 0 before at
  pub few : length before ≤ most_tokens
  pub no_blank : IsNoBlank (drop at bytes)
  pub fault : IsFault (length before) (line_after (take at bytes)) (drop at bytes) f

-- ---- the laws

-- what is answered are the tokens of the bytes
abbrev pub AnsweredAreTokens : Type 0
AnsweredAreTokens = (bytes : List ℕ) (found : Tokens) → tokens bytes ≡ Ok found → AreTokens bytes 0 found.list (length bytes)

-- the tokens of the bytes are answered, so no other list is
abbrev pub TokensAreAnswered : Type 0
TokensAreAnswered =
    (bytes : List ℕ) (given : Tokens) → AreTokens bytes 0 given.list (length bytes) → length given.list ≤ most_tokens
    → tokens bytes ≡ Ok given

-- a fault that is answered is the first, and the first fault is answered
abbrev pub FirstFaultIsAnswered : Type 0
FirstFaultIsAnswered = (bytes : List ℕ) (f : LexFault) → (tokens bytes ≡ Err f) ↔ IsFirstLexFault bytes f

-- no more tokens are answered than the limit
abbrev pub AnsweredAreFew : Type 0
AnsweredAreFew = (bytes : List ℕ) (found : Tokens) → tokens bytes ≡ Ok found → length found.list ≤ most_tokens

-- tokens, each by its text
abbrev pub texts_of : List Token → List (List ℕ)
texts_of ts = map (λ t. text_of t) ts

-- tokens that are spelled with a space between each two are read again
abbrev pub SpelledAreReadAgain : Type 0
SpelledAreReadAgain =
    (ts : List Token) → IsTrue (list_all is_token ts) → length ts ≤ most_tokens
    → (read : Tokens) × (tokens (join_with_byte 32 (texts_of ts)) ≡ Ok read) × (kinds read.list ≡ ts)
