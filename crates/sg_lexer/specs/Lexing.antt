-- The tokens of a list of bytes, or the first fault in it.
use Rattle.std.specs.Prelude.{◌≡◌, refl, ℕ, zero, suc, ◌+◌, ◌-◌, ◌*◌, Bool, true, false, not, ◌&&◌, ◌||◌, ◌==◌, nat_eq, nat_lt, if◌then◌else◌, List, [], ◌∷◌, ◌++◌, length, take, slice_index, Option, Some, None, Result, Ok, Err, codes, fold, count_by}
use Rattle.std.specs.Char.{is_ascii_digit}
use Rattle.std.specs.List.{starts_with, ends_with, list_all, prefix_len}
use Rattle.sg_words.specs.Results.{◌>>=◌}
use Rattle.sg_ast.specs.declared.token.Word.{Word}
use Rattle.sg_ast.specs.declared.token.Word.TheVariants as word
use Rattle.sg_ast.specs.declared.token.Sign.{Sign}
use Rattle.sg_ast.specs.declared.token.Sign.TheVariants as sign
use Rattle.sg_ast.specs.declared.token.Token.{Token}
use Rattle.sg_ast.specs.declared.token.Token.TheVariants as token
use Rattle.sg_ast.specs.declared.token.Spanned.{Spanned}
use Rattle.sg_ast.specs.declared.token.Tokens.{Tokens}
use Rattle.sg_ast.specs.Token.{is_number}
use Rattle.sg_lexer.specs.declared.fault.LexFault.{LexFault}
use Rattle.sg_lexer.specs.declared.fault.LexFault.TheVariants as fault
use Rattle.sg_lexer.specs.Alphabet.{is_space, is_inner, reserved_word, sign_text, sign_at}
use Rattle.sg_ast.specs.Limits.{most_name_bytes, most_tokens}

-- ---- runs of letters, digits and `_`

-- a reserved word, or else a name
abbrev pub word_or_name : List ℕ → Option Word → Token
word_or_name run None = token.Name (record { text = run })
word_or_name run (Some w) = token.Word w

-- what a run is that begins with no digit
unfoldable pub name_token : ℕ → List ℕ → Result Token LexFault
name_token line run = if nat_lt most_name_bytes (length run) then Err (fault.LongName line) else Ok (word_or_name run (reserved_word run))

-- the number that digits spell
abbrev pub decimal_value : List ℕ → ℕ
decimal_value digits = fold (λ v d. 10 * v + (d - 48)) 0 digits

-- `0`, or digits without a leading zero
abbrev pub is_decimal : List ℕ → Bool
is_decimal digits = nat_lt 0 (length digits) && list_all is_ascii_digit digits && (length digits == 1 || not (slice_index digits 0 == 48))

-- the number of these digits
unfoldable pub number_as : ℕ → Bool → List ℕ → Result Token LexFault
number_as line unsigned digits =
    if is_decimal digits && is_number (decimal_value digits) unsigned then Ok (token.Number (decimal_value digits) unsigned) else Err (fault.BadNumber line)

-- what a run is that begins with a digit: a number, where a `u` may stand after the digits
unfoldable pub number_token : ℕ → List ℕ → Result Token LexFault
number_token line run = if ends_with nat_eq run (codes "u") then number_as line true (take (length run - 1) run) else number_as line false run

-- what a run is
unfoldable pub run_token : ℕ → List ℕ → Result Token LexFault
run_token line run = if is_ascii_digit (slice_index run 0) then number_token line run else name_token line run

-- ---- pieces: white space, comments and tokens

-- how many bytes a piece takes, and the token, if it is one
abbrev pub Piece : Type 0
Piece = ℕ × Option Token

-- a token's answer, if there is room for one more token
abbrev pub if_room : ℕ → Result Piece LexFault → Result Piece LexFault
if_room count answer = if nat_lt count most_tokens then answer else Err fault.TooManyTokens

-- the piece of a run
abbrev pub run_piece : ℕ → ℕ → List ℕ → Result Piece LexFault
run_piece line count run = if_room count (run_token line run >>= (λ t. Ok (length run, Some t)))

-- the piece of the sign that stands there; no sign is a bad byte, however many tokens came before
abbrev pub sign_piece : ℕ → ℕ → Option Sign → Result Piece LexFault
sign_piece line count None = Err (fault.BadByte line)
sign_piece line count (Some s) = if_room count (Ok (length (sign_text s), Some (token.Sign s)))

-- a byte that doesn't end its line
abbrev pub is_in_line : ℕ → Bool
is_in_line b = not (b == 10)

-- The piece at the front of the bytes, in a line and after a count of tokens. A comment goes up to its newline; a run is as long as can be.
unfoldable pub piece : ℕ → ℕ → List ℕ → Result Piece LexFault
piece line count bytes =
    let first = slice_index bytes 0 in
    if is_space first then Ok (1, None)
    else (if starts_with nat_eq bytes (codes "//") then Ok (prefix_len is_in_line bytes, None)
    else (if is_inner first then run_piece line count (take (prefix_len is_inner bytes) bytes)
    else sign_piece line count (sign_at bytes)))

-- ---- the whole

-- the line of the byte that follows these: one more than their newlines
abbrev pub line_after : List ℕ → ℕ
line_after before = 1 + count_by (λ b. b == 10) before

-- the tokens with those of a piece that begins after `before`
abbrev pub with_piece : List ℕ → List Spanned → Piece → List Spanned
with_piece before done (n, None) = done
with_piece before done (n, Some t) =
    done ++ record { token = t; start = length before; end = length before + n; line = line_after before } ∷ []

-- The tokens of `before` and of the bytes after it, where `done` are those of `before`, and its last piece goes on for `left` more bytes.
-- The code counts an offset and a line instead of `before`.
abbrev pub tokens_from : ℕ → List ℕ → List Spanned → List ℕ → Result (List Spanned) LexFault
tokens_from left before done [] = Ok done
tokens_from (suc left) before done (b ∷ bytes) = tokens_from left (before ++ b ∷ []) done bytes
tokens_from zero before done (b ∷ bytes) =
    piece (line_after before) (length done) (b ∷ bytes) >>= (λ p. tokens_from (p.0 - 1) (before ++ b ∷ []) (with_piece before done p) bytes)

-- the tokens of the bytes, or the first fault
unfoldable pub token_list : List ℕ → Result (List Spanned) LexFault
token_list bytes = tokens_from 0 [] [] bytes

-- the tokens of the bytes as `lex` answers them
abbrev pub tokens : List ℕ → Result Tokens LexFault
tokens bytes = token_list bytes >>= (λ list. Ok (record { list = list }))

-- ---- worked equations

abbrev spanned : Token → ℕ → ℕ → ℕ → Spanned
spanned t start end line = record { token = t; start = start; end = end; line = line }

a_let : token_list (codes "let x=0u;//y\n<<a") ≡ Ok (spanned (token.Word word.Let) 0 3 1 ∷ spanned (token.Name (record { text = codes "x" })) 4 5 1 ∷ spanned (token.Sign sign.Equal) 5 6 1
    ∷ spanned (token.Number 0 true) 6 8 1 ∷ spanned (token.Sign sign.Semicolon) 8 9 1 ∷ spanned (token.Sign sign.ShiftLeft) 13 15 2 ∷ spanned (token.Name (record { text = codes "a" })) 15 16 2 ∷ [])
unfolding token_list piece run_token name_token number_token number_as reserved_word sign_at
a_let = refl

a_range : token_list (codes "0..2147483648") ≡ Ok (spanned (token.Number 0 false) 0 1 1 ∷ spanned (token.Sign sign.DotDot) 1 3 1 ∷ spanned (token.Number 2147483648 false) 3 13 1 ∷ [])
unfolding token_list piece run_token name_token number_token number_as reserved_word sign_at
a_range = refl

a_dot : token_list (codes "a\n .") ≡ Err (fault.BadByte 2)
unfolding token_list piece run_token name_token number_token number_as reserved_word sign_at
a_dot = refl

a_zero : token_list (codes "07") ≡ Err (fault.BadNumber 1)
unfolding token_list piece run_token name_token number_token number_as reserved_word sign_at
a_zero = refl

past_signed : token_list (codes "2147483649") ≡ Err (fault.BadNumber 1)
unfolding token_list piece run_token name_token number_token number_as reserved_word sign_at
past_signed = refl

past_unsigned : token_list (codes "4294967296u") ≡ Err (fault.BadNumber 1)
unfolding token_list piece run_token name_token number_token number_as reserved_word sign_at
past_unsigned = refl

-- a run that begins with a digit is no name, however long it is
many_digits : token_list (codes "123456789012345678901234567890123") ≡ Err (fault.BadNumber 1)
unfolding token_list piece run_token name_token number_token number_as reserved_word sign_at
many_digits = refl

a_long_name : token_list (codes "//\nabcdefghijklmnopqrstuvwxyz_234567") ≡ Err (fault.LongName 2)
unfolding token_list piece run_token name_token number_token number_as reserved_word sign_at
a_long_name = refl

-- after the last token that there is room for, a run is one too many even if it is bad
bad_number_behind : piece 3 16384 (codes "07") ≡ Err fault.TooManyTokens
unfolding piece run_token number_token number_as
bad_number_behind = refl

-- but a byte that begins nothing is bad there as everywhere
bad_byte_behind : piece 3 16384 (codes ".;") ≡ Err (fault.BadByte 3)
unfolding piece sign_at
bad_byte_behind = refl

comment_behind : piece 3 16384 (codes "//@\n") ≡ Ok (3, None)
unfolding piece
comment_behind = refl

last_in_room : piece 3 16383 (codes "..7") ≡ Ok (2, Some (token.Sign sign.DotDot))
unfolding piece sign_at
last_in_room = refl
