-- What a token may be: the reserved words, names and numbers.
use Rattle.std.specs.Prelude.{◌≡◌, refl, ℕ, Bool, true, false, not, ◌&&◌, ◌||◌, ◌==◌, nat_le, List, [], ◌∷◌, length, codes, bytes_eq}
use Rattle.std.specs.List.{list_all, list_any}
use Rattle.std.specs.Char.{is_ascii_alphabetic, is_ascii_digit}
use Rattle.sg_ast.specs.declared.token.Name.{Name}
use Rattle.sg_ast.specs.declared.token.Word.{Word}
use Rattle.sg_ast.specs.declared.token.Word.TheVariants as w
use Rattle.sg_ast.specs.declared.token.Token.{Token}
use Rattle.sg_ast.specs.declared.token.Token.TheVariants as t
use Rattle.sg_ast.specs.Limits.{most_name_bytes, max_number}

-- the bytes of a reserved word
abbrev pub word_text : Word → List ℕ
word_text w.Const = codes "const"
word_text w.Layout = codes "layout"
word_text w.Field = codes "field"
word_text w.Kernel = codes "kernel"
word_text w.For = codes "for"
word_text w.In = codes "in"
word_text w.If = codes "if"
word_text w.Else = codes "else"
word_text w.Let = codes "let"
word_text w.True = codes "true"
word_text w.False = codes "false"
word_text w.I32 = codes "i32"
word_text w.U32 = codes "u32"
word_text w.Bool = codes "bool"
word_text w.Min = codes "min"
word_text w.Max = codes "max"
word_text w.Mulq = codes "mulq"
word_text w.Active = codes "active"
word_text w.Dense = codes "dense"
word_text w.Hash = codes "hash"
word_text w.Pointer = codes "pointer"
word_text w.Bitmasked = codes "bitmasked"
word_text w.Dynamic = codes "dynamic"
word_text w.Cap = codes "cap"
word_text w.Chunk = codes "chunk"
word_text w.Load = codes "load"
word_text w.Run = codes "run"
word_text w.Times = codes "times"
word_text w.Dump = codes "dump"
word_text w.Image = codes "image"
word_text w.Stats = codes "stats"
word_text w.Prune = codes "prune"
word_text w.Clear = codes "clear"

-- every reserved word
abbrev pub reserved_words : List Word
reserved_words =
    w.Const ∷ w.Layout ∷ w.Field ∷ w.Kernel ∷ w.For ∷ w.In ∷ w.If ∷ w.Else ∷ w.Let ∷ w.True ∷ w.False
    ∷ w.I32 ∷ w.U32 ∷ w.Bool ∷ w.Min ∷ w.Max ∷ w.Mulq ∷ w.Active ∷ w.Dense ∷ w.Hash ∷ w.Pointer ∷ w.Bitmasked
    ∷ w.Dynamic ∷ w.Cap ∷ w.Chunk ∷ w.Load ∷ w.Run ∷ w.Times ∷ w.Dump ∷ w.Image ∷ w.Stats ∷ w.Prune ∷ w.Clear
    ∷ []

-- a letter or `_`, which is 95
abbrev pub begins_name : ℕ → Bool
begins_name c = is_ascii_alphabetic c || c == 95

-- a letter or `_`, and then letters, digits and `_`
abbrev pub is_name_form : List ℕ → Bool
is_name_form [] = false
is_name_form (c ∷ cs) = begins_name c && list_all (λ d. begins_name d || is_ascii_digit d) cs

-- the bytes are a reserved word's
unfoldable pub is_reserved : List ℕ → Bool
is_reserved text = list_any (λ word. bytes_eq (word_text word) text) reserved_words

-- a name: of the form of names, with no more bytes than the limit, and no reserved word
unfoldable pub is_name : Name → Bool
is_name name = is_name_form name.text && (nat_le (length name.text) most_name_bytes && not (is_reserved name.text))

-- whether two names are the same bytes
abbrev pub same_name : Name → Name → Bool
same_name x y = bytes_eq x.text y.text

-- whether a number may have this value, by whether a `u` stands after it
abbrev pub is_number : ℕ → Bool → Bool
is_number value unsigned = nat_le value (max_number unsigned)

-- a token that text can spell
abbrev pub is_token : Token → Bool
is_token (t.Name name) = is_name name
is_token (t.Word word) = true
is_token (t.Number value unsigned) = is_number value unsigned
is_token (t.Sign sign) = true

-- worked equations
underscore-name : is_name (record { text = codes "_a1" }) ≡ true
unfolding is_name is_reserved
underscore-name = refl

digit-no_name : is_name (record { text = codes "1a" }) ≡ false
unfolding is_name is_reserved
digit-no_name = refl

reserved-no_name : is_name (record { text = codes "image" }) ≡ false
unfolding is_name is_reserved
reserved-no_name = refl

longer-than-reserved : is_name (record { text = codes "images" }) ≡ true
unfolding is_name is_reserved
longer-than-reserved = refl

longest_name : is_name (record { text = codes "abcdefghijklmnopqrstuvwxyz_12345" }) ≡ true
unfolding is_name is_reserved
longest_name = refl

too_long_name : is_name (record { text = codes "abcdefghijklmnopqrstuvwxyz_123456" }) ≡ false
unfolding is_name is_reserved
too_long_name = refl

signed_limit : is_number 2147483648 false && not (is_number 2147483649 false) ≡ true
signed_limit = refl

unsigned_limit : is_number 4294967295 true && not (is_number 4294967296 true) ≡ true
unsigned_limit = refl
