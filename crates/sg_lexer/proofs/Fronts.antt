-- The piece at the front of some bytes: what it is, and that it is found.
use Rattle.std.proofs.Common.{◌≡◌, ℕ, ◌<◌, ◌≤◌, true, false, nat_eq, nat_lt, List, [], ◌∷◌, length, slice_index, get_or, take, drop, Option, Some, None, Result, Ok, Err, codes, refl, sym, ap, ◌∙◌, subst, inl, inr, arith, length-take}
use Rattle.std.specs.List.{starts_with, list_all, prefix_len}
use Rattle.std.proofs.lemmas.Bool.{leb-true, not-true, both_ways, ltb-true, lt-ltb, cond-true, cond-false, cases_Bool}
use Rattle.std.proofs.lemmas.Slice.Eq.{bytes_eq-Decides}
use Rattle.std.proofs.lemmas.List.{get_or-take, length-take-le}
use Rattle.std.proofs.lemmas.List.Folds.{length-prefix_len}
use Rattle.std.proofs.lemmas.List.Sums.{list_all-from_AllPass, prefix_len-le-length, prefix_len_passes, prefix_len_stops}
use Rattle.sg_ast.specs.declared.token.Sign.{Sign}
use Rattle.sg_ast.specs.declared.token.Token.{Token}
use Rattle.sg_ast.specs.declared.token.Token.TheVariants as token
use Rattle.sg_ast.specs.Token.{is_token}
use Rattle.sg_lexer.specs.declared.fault.LexFault.{LexFault}
use Rattle.sg_lexer.specs.declared.fault.LexFault.TheVariants as fault
use Rattle.sg_lexer.specs.Alphabet.{is_space, is_inner, sign_text, sign_at, text_of}
use Rattle.sg_lexer.specs.Lexing.{Piece, run_token, if_room, run_piece, sign_piece, is_in_line, piece}
use Rattle.sg_words.specs.Results.{◌>>=◌}
use Rattle.sg_lexer.specs.Laws.{Blank, none, space, comment, IsLexeme}
use Rattle.sg_lexer.proofs.Prefixes.{prefix_some}
use Rattle.sg_lexer.proofs.Tables.{chosen, sign_outer, sign_some, sign_found, sign_longest}
use Rattle.sg_lexer.proofs.Texts.{all_at, run_found}
use Rattle.sg_ast.specs.Limits.{most_tokens}

-- a token at the front of some bytes
pub record Takes (bytes : List ℕ) (n : ℕ) (t : Token) : Type 0 where
  pub some : 0 < n
  pub within : n ≤ length bytes
  pub text : take n bytes ≡ text_of t
  pub valid : is_token t ≡ true
  pub no_comment : starts_with nat_eq bytes (codes "//") ≡ false
  pub longest : (m : ℕ) → n < m → m ≤ length bytes → IsLexeme (take m bytes) → ⊥

-- a piece is white space or a comment, or a token
pub data Front (count : ℕ) (bytes : List ℕ) (n : ℕ) (o : Option Token) : Type 0 where
  blank : None ≡ o → 0 < n → n ≤ length bytes → Blank bytes (drop n bytes) → Front count bytes n o
  taken : (t : Token) → Some t ≡ o → count < most_tokens → Takes bytes n t → Front count bytes n o

-- ---- lists

pub starts_take : (bytes text : List ℕ) → starts_with nat_eq bytes text ≡ true → take (length text) bytes ≡ text
starts_take bytes text e = sym ((bytes_eq-Decides text (take (length text) bytes)).0 e)

pub take_starts : (bytes text : List ℕ) → take (length text) bytes ≡ text → starts_with nat_eq bytes text ≡ true
take_starts bytes text e = (bytes_eq-Decides text (take (length text) bytes)).1 (sym e)

starts_within : (bytes text : List ℕ) → starts_with nat_eq bytes text ≡ true → length text ≤ length bytes
starts_within bytes text e = omega (arith, ap length (starts_take bytes text e), length-take (length text) bytes)

pub first_of_take : (bytes : List ℕ) (n : ℕ) → 0 < n → slice_index (take n bytes) 0 ≡ slice_index bytes 0
first_of_take bytes n some = get_or-take n bytes 0 0 some

-- the bytes of a longest run pass
pub run_inner : (bytes : List ℕ) → list_all is_inner (take (prefix_len is_inner bytes) bytes) ≡ true
run_inner bytes =
    let k : ℕ = prefix_len is_inner bytes in
    list_all-from_AllPass is_inner (take k bytes) (λ j d h.
    let below : j < k = omega (arith, length-prefix_len is_inner bytes) in
    ap is_inner (get_or-take k bytes j d below) ∙ prefix_len_passes is_inner bytes j d below)

ok_pair : (a c : ℕ) (b d : Option Token) → (let x : Result Piece LexFault = Ok (a, b) in let y : Result Piece LexFault = Ok (c, d) in x ≡ y) → (a ≡ c) × (b ≡ d)
ok_pair a c b d e =
    let x : Piece = (a, b) in
    let y : Piece = (c, d) in
    let same : x ≡ y = cc in
    (ap (λ (p : Piece). p.0) same, ap (λ (p : Piece). p.1) same)

-- ---- the four kinds of piece

pub piece_space : (line count : ℕ) (bytes : List ℕ) → is_space (slice_index bytes 0) ≡ true → piece line count bytes ≡ Ok (1, None)
unfolding piece
piece_space line count bytes e = cond-true _ _ _ e

pub piece_comment : (line count : ℕ) (bytes : List ℕ) → is_space (slice_index bytes 0) ≡ false → starts_with nat_eq bytes (codes "//") ≡ true → piece line count bytes ≡ Ok (prefix_len is_in_line bytes, None)
unfolding piece
piece_comment line count bytes no_space e = cond-false _ _ _ no_space ∙ cond-true _ _ _ e

pub piece_run : (line count : ℕ) (bytes : List ℕ) → is_space (slice_index bytes 0) ≡ false → starts_with nat_eq bytes (codes "//") ≡ false → is_inner (slice_index bytes 0) ≡ true → piece line count bytes ≡ run_piece line count (take (prefix_len is_inner bytes) bytes)
unfolding piece
piece_run line count bytes no_space no_comment inner = cond-false _ _ _ no_space ∙ cond-false _ _ _ no_comment ∙ cond-true _ _ _ inner

pub piece_sign : (line count : ℕ) (bytes : List ℕ) → is_space (slice_index bytes 0) ≡ false → starts_with nat_eq bytes (codes "//") ≡ false → is_inner (slice_index bytes 0) ≡ false → piece line count bytes ≡ sign_piece line count (sign_at bytes)
unfolding piece
piece_sign line count bytes no_space no_comment outer = cond-false _ _ _ no_space ∙ cond-false _ _ _ no_comment ∙ cond-false _ _ _ outer

-- ---- blanks

space_blank : (bytes : List ℕ) → 0 < length bytes → is_space (slice_index bytes 0) ≡ true → Blank bytes (drop 1 bytes)
space_blank [] some e = absurd (omega arith)
space_blank (b ∷ bytes) some e = space b bytes bytes e (none bytes)

-- a comment begins with a slash
pub comment_slash : (bytes : List ℕ) → starts_with nat_eq bytes (codes "//") ≡ true → slice_index bytes 0 ≡ 47
comment_slash bytes e = sym (first_of_take bytes 2 (omega arith)) ∙ ap (λ (text : List ℕ). slice_index text 0) (starts_take bytes (codes "//") e)

pub comment_some : (bytes : List ℕ) → starts_with nat_eq bytes (codes "//") ≡ true → 0 < prefix_len is_in_line bytes
comment_some bytes e = let two = starts_within bytes (codes "//") e in prefix_some is_in_line bytes (omega arith) (ap is_in_line (comment_slash bytes e))

comment_blank : (bytes : List ℕ) → starts_with nat_eq bytes (codes "//") ≡ true → Blank bytes (drop (prefix_len is_in_line bytes) bytes)
comment_blank bytes e = comment bytes (drop (prefix_len is_in_line bytes) bytes) e (none (drop (prefix_len is_in_line bytes) bytes))

-- ---- a token that is found

pub first_inner : (bytes : List ℕ) (m : ℕ) → 0 < m → m ≤ length bytes → list_all is_inner (take m bytes) ≡ true → is_inner (slice_index bytes 0) ≡ true
first_inner bytes m some within e =
    let long : 0 < length (take m bytes) = omega (arith, length-take-le m bytes within) in
    ap is_inner (sym (first_of_take bytes m some)) ∙ all_at is_inner (take m bytes) 0 e long

pub first_outer : (bytes : List ℕ) (m : ℕ) (s : Sign) → 0 < m → take m bytes ≡ sign_text s → is_inner (slice_index bytes 0) ≡ false
first_outer bytes m s some e =
    ap is_inner (sym (first_of_take bytes m some) ∙ ap (λ (text : List ℕ). slice_index text 0) e) ∙ not-true (is_inner (slice_index (sign_text s) 0)) (sign_outer s)

takes_run : (line : ℕ) (bytes : List ℕ) (t : Token) → 0 < length bytes → starts_with nat_eq bytes (codes "//") ≡ false → is_inner (slice_index bytes 0) ≡ true → run_token line (take (prefix_len is_inner bytes) bytes) ≡ Ok t → Takes bytes (prefix_len is_inner bytes) t
takes_run line bytes t some no_comment inner e =
    let k : ℕ = prefix_len is_inner bytes in
    let more : 0 < k = prefix_some is_inner bytes some inner in
    let long : length (take k bytes) ≡ k = length-prefix_len is_inner bytes in
    let found = run_found line (take k bytes) t e (run_inner bytes) (omega arith) in
    record {
      some = more;
      within = prefix_len-le-length is_inner bytes;
      text = found.0;
      valid = found.1;
      no_comment = no_comment;
      longest = λ m past within lexeme. elim lexeme [
        | inl all ↦ (
            let below : k < length bytes = omega arith in
            let size : length (take m bytes) ≡ m = length-take-le m bytes within in
            both_ways (is_inner (get_or bytes k 0)) (prefix_len_stops is_inner bytes 0 below) (ap is_inner (sym (get_or-take m bytes k 0 past)) ∙ all_at is_inner (take m bytes) k all (omega arith)))
        | inr s ↦ both_ways (is_inner (slice_index bytes 0)) (first_outer bytes m s.0 (omega arith) s.1) inner
      ];
    }

takes_sign : (bytes : List ℕ) (s : Sign) → starts_with nat_eq bytes (codes "//") ≡ false → is_inner (slice_index bytes 0) ≡ false → sign_at bytes ≡ Some s → Takes bytes (length (sign_text s)) (token.Sign s)
takes_sign bytes s no_comment outer e =
    let there = sign_found bytes s e in
    record {
      some = leb-true 1 (length (sign_text s)) (sign_some s);
      within = starts_within bytes (sign_text s) there;
      text = starts_take bytes (sign_text s) there;
      valid = refl;
      no_comment = no_comment;
      longest = λ m past within lexeme. elim lexeme [
        | inl all ↦ both_ways (is_inner (slice_index bytes 0)) outer (first_inner bytes m (omega arith) within all)
        | inr v ↦ (
            let size : length (take m bytes) ≡ m = length-take-le m bytes within in
            let same : length (sign_text v.0) ≡ m = ap length (sym v.1) ∙ size in
            let at : take (length (sign_text v.0)) bytes ≡ sign_text v.0 = ap (λ (k : ℕ). take k bytes) same ∙ v.1 in
            let below : length (sign_text v.0) ≤ length (sign_text s) = sign_longest bytes s v.0 e (take_starts bytes (sign_text v.0) at) in
            absurd (omega arith))
      ];
    }

-- a choice of room, both ways
pub roomy : (count : ℕ) (answer : Result Piece LexFault) → count < most_tokens → if_room count answer ≡ answer
roomy count answer h = cond-true _ _ _ (lt-ltb count most_tokens h)

run_answer : (line count n : ℕ) (o : Option Token) (bytes : List ℕ) → 0 < length bytes → starts_with nat_eq bytes (codes "//") ≡ false → is_inner (slice_index bytes 0) ≡ true → count < most_tokens → (r : Result Token LexFault) → run_token line (take (prefix_len is_inner bytes) bytes) ≡ r → (r >>= (λ t. let out : Result Piece LexFault = Ok (length (take (prefix_len is_inner bytes) bytes), Some t) in out)) ≡ Ok (n, o) → Front count bytes n o
run_answer line count n o bytes some no_comment inner room (Ok t) e answer =
    let parts = ok_pair (length (take (prefix_len is_inner bytes) bytes)) n (Some t) o answer in
    let size : prefix_len is_inner bytes ≡ n = sym (length-prefix_len is_inner bytes) ∙ parts.0 in
    let P : ℕ → Type 0 = λ m. Takes bytes m t in
    taken t parts.1 room (subst P size (takes_run line bytes t some no_comment inner e))
run_answer line count n o bytes some no_comment inner room (Err f) e answer = cc

sign_answer : (line count n : ℕ) (o : Option Token) (bytes : List ℕ) → starts_with nat_eq bytes (codes "//") ≡ false → is_inner (slice_index bytes 0) ≡ false → (r : Option Sign) → sign_at bytes ≡ r → sign_piece line count r ≡ Ok (n, o) → Front count bytes n o
sign_answer line count n o bytes no_comment outer None e answer = cc
sign_answer line count n o bytes no_comment outer (Some s) e answer =
    elim (chosen {A = Result Piece LexFault} (nat_lt count most_tokens) (Ok (length (sign_text s), Some (token.Sign s))) (Err fault.TooManyTokens) (Ok (n, o)) answer) [
      | inl h ↦ (
          let parts = ok_pair (length (sign_text s)) n (Some (token.Sign s)) o h.1 in
          let P : ℕ → Type 0 = λ m. Takes bytes m (token.Sign s) in
          taken (token.Sign s) parts.1 (ltb-true count most_tokens h.0) (subst P parts.0 (takes_sign bytes s no_comment outer e)))
      | inr h ↦ cc
    ]

-- what a piece is
pub front : (line count n : ℕ) (o : Option Token) (bytes : List ℕ) → 0 < length bytes → piece line count bytes ≡ Ok (n, o) → Front count bytes n o
front line count n o bytes some e =
    elim (cases_Bool (is_space (slice_index bytes 0))) [
      | inl is ↦ (
          let parts = ok_pair 1 n None o (sym (piece_space line count bytes is) ∙ e) in
          let one : 1 ≡ n = parts.0 in
          let P : ℕ → Type 0 = λ m. Blank bytes (drop m bytes) in
          blank parts.1 (omega arith) (omega arith) (subst P one (space_blank bytes some is)))
      | inr no_space ↦ elim (cases_Bool (starts_with nat_eq bytes (codes "//"))) [
        | inl is ↦ (
            let parts = ok_pair (prefix_len is_in_line bytes) n None o (sym (piece_comment line count bytes no_space is) ∙ e) in
            let size : prefix_len is_in_line bytes ≡ n = parts.0 in
            let P : ℕ → Type 0 = λ m. Blank bytes (drop m bytes) in
            blank parts.1 (omega (arith, comment_some bytes is)) (omega (arith, prefix_len-le-length is_in_line bytes)) (subst P size (comment_blank bytes is)))
        | inr no_comment ↦ elim (cases_Bool (is_inner (slice_index bytes 0))) [
          | inl inner ↦ elim (chosen {A = Result Piece LexFault} (nat_lt count most_tokens) (run_token line (take (prefix_len is_inner bytes) bytes) >>= (λ t. let out : Result Piece LexFault = Ok (length (take (prefix_len is_inner bytes) bytes), Some t) in out)) (Err fault.TooManyTokens) (Ok (n, o)) (sym (piece_run line count bytes no_space no_comment inner) ∙ e)) [
            | inl h ↦ run_answer line count n o bytes some no_comment inner (ltb-true count most_tokens h.0) (run_token line (take (prefix_len is_inner bytes) bytes)) refl h.1
            | inr h ↦ cc
          ]
          | inr outer ↦ sign_answer line count n o bytes no_comment outer (sign_at bytes) refl (sym (piece_sign line count bytes no_space no_comment outer) ∙ e)
        ]
      ]
    ]
