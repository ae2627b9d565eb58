-- The faults of a piece, and the piece of a token that stands at the front.
use Rattle.std.proofs.Common.{◌≡◌, ℕ, ◌+◌, ◌<◌, ◌≤◌, true, false, nat_eq, nat_lt, List, length, slice_index, get_or, take, Option, Some, None, Result, Ok, Err, codes, refl, sym, ap, ◌∙◌, subst, inl, inr, arith, length-take}
use Rattle.std.specs.Char.{is_ascii_digit}
use Rattle.std.specs.List.{starts_with, list_all, prefix_len}
use Rattle.std.proofs.lemmas.Bool.{and_from, not-true, both_ways, false_from_ne_true, ltb-true, ltb-false, leb-true, le-ltb, cond-false, cases_Bool, cases_lt}
use Rattle.std.proofs.lemmas.Bool.Decides.{nat_tests}
use Rattle.std.proofs.lemmas.List.{get_or-take, length-take-le}
use Rattle.std.proofs.lemmas.List.Folds.{list_all_more, length-prefix_len}
use Rattle.std.proofs.lemmas.List.Sums.{prefix_len_is}
use Rattle.sg_ast.specs.declared.token.Sign.{Sign}
use Rattle.sg_ast.specs.declared.token.Token.{Token}
use Rattle.sg_ast.specs.declared.token.Token.TheVariants as token
use Rattle.sg_lexer.specs.declared.fault.LexFault.{LexFault}
use Rattle.sg_lexer.specs.declared.fault.LexFault.TheVariants as fault
use Rattle.sg_lexer.specs.Alphabet.{is_space, is_inner, sign_text, sign_at, text_of}
use Rattle.sg_lexer.specs.Lexing.{Piece, run_token, if_room, run_piece, sign_piece, piece}
use Rattle.sg_words.specs.Results.{◌>>=◌}
use Rattle.sg_lexer.specs.Laws.{run_at, IsNoBlank, IsFault, bad_byte, bad_number, long_name, too_many_runs, too_many_signs}
use Rattle.sg_lexer.proofs.Prefixes.{prefix_some}
use Rattle.sg_lexer.proofs.Tables.{chosen, sign_some, sign_no_space, sign_found, sign_longest, no_sign_found, same_sign}
use Rattle.sg_lexer.proofs.Texts.{all_at, digit_inner, run_fault, run_long, run_bad, IsRun, run_or_sign}
use Rattle.sg_lexer.proofs.Fronts.{Takes, starts_take, take_starts, first_of_take, run_inner, first_inner, first_outer, roomy, piece_space, piece_comment, piece_run, piece_sign}
use Rattle.sg_ast.specs.Limits.{most_tokens}

-- ---- faults

-- what is known at a fault
abbrev Faulty : ℕ → ℕ → List ℕ → LexFault → Type 0
Faulty count line bytes f = IsNoBlank bytes × IsFault count line bytes f

run_refused : (line count : ℕ) (f : LexFault) (bytes : List ℕ) → 0 < length bytes → is_inner (slice_index bytes 0) ≡ true → count < most_tokens → (r : Result Token LexFault) → run_token line (take (prefix_len is_inner bytes) bytes) ≡ r → (r >>= (λ t. let out : Result Piece LexFault = Ok (length (take (prefix_len is_inner bytes) bytes), Some t) in out)) ≡ Err f → IsFault count line bytes f
run_refused line count f bytes some inner room (Ok t) e answer = cc
run_refused line count f bytes some inner room (Err g) e answer =
    let same : g ≡ f = cc in
    let P : LexFault → Type 0 = IsFault count line bytes in
    let first : slice_index (take (prefix_len is_inner bytes) bytes) 0 ≡ slice_index bytes 0 = first_of_take bytes (prefix_len is_inner bytes) (prefix_some is_inner bytes some inner) in
    elim (run_fault line (take (prefix_len is_inner bytes) bytes) g e (ap is_inner first ∙ inner)) [
      | inl h ↦ subst P (h.1 ∙ same) (bad_number room (ap is_ascii_digit (sym first) ∙ h.0) h.2)
      | inr h ↦ subst P (h.1 ∙ same) (long_name room inner (ap is_ascii_digit (sym first) ∙ h.0) h.2)
    ]

sign_refused : (line count : ℕ) (f : LexFault) (bytes : List ℕ) → is_inner (slice_index bytes 0) ≡ false → (r : Option Sign) → sign_at bytes ≡ r → sign_piece line count r ≡ Err f → IsFault count line bytes f
sign_refused line count f bytes outer None e answer =
    let same : fault.BadByte line ≡ f = cc in
    let P : LexFault → Type 0 = IsFault count line bytes in
    subst P same (bad_byte outer (no_sign_found bytes e))
sign_refused line count f bytes outer (Some s) e answer =
    elim (chosen {A = Result Piece LexFault} (nat_lt count most_tokens) (Ok (length (sign_text s), Some (token.Sign s))) (Err fault.TooManyTokens) (Err f) answer) [
      | inl h ↦ cc
      | inr h ↦ (
          let same : fault.TooManyTokens ≡ f = cc in
          let P : LexFault → Type 0 = IsFault count line bytes in
          subst P same (too_many_signs (ltb-false count most_tokens h.0) s (sign_found bytes s e)))
    ]

-- what a fault is
pub refused : (line count : ℕ) (f : LexFault) (bytes : List ℕ) → 0 < length bytes → piece line count bytes ≡ Err f → IsNoBlank bytes × IsFault count line bytes f
refused line count f bytes some e =
    elim (cases_Bool (is_space (slice_index bytes 0))) [
      | inl is ↦ (let no : (let out : Result Piece LexFault = Ok (1, None) in out) ≡ Err f = sym (piece_space line count bytes is) ∙ e in cc)
      | inr no_space ↦ elim (cases_Bool (starts_with nat_eq bytes (codes "//"))) [
        | inl is ↦ (let bad = sym (piece_comment line count bytes no_space is) ∙ e in cc)
        | inr no_comment ↦ (
          record { no_space = no_space; no_comment = no_comment },
          elim (cases_Bool (is_inner (slice_index bytes 0))) [
            | inl inner ↦ elim (chosen {A = Result Piece LexFault} (nat_lt count most_tokens) (run_token line (take (prefix_len is_inner bytes) bytes) >>= (λ t. let out : Result Piece LexFault = Ok (length (take (prefix_len is_inner bytes) bytes), Some t) in out)) (Err fault.TooManyTokens) (Err f) (sym (piece_run line count bytes no_space no_comment inner) ∙ e)) [
              | inl h ↦ run_refused line count f bytes some inner (ltb-true count most_tokens h.0) (run_token line (take (prefix_len is_inner bytes) bytes)) refl h.1
              | inr h ↦ (
                  let same : fault.TooManyTokens ≡ f = cc in
                  let P : LexFault → Type 0 = IsFault count line bytes in
                  subst P same (too_many_runs (ltb-false count most_tokens h.0) inner))
            ]
            | inr outer ↦ sign_refused line count f bytes outer (sign_at bytes) refl (sym (piece_sign line count bytes no_space no_comment outer) ∙ e)
          ],
        )
      ]
    ]

-- a fault that stands at the front is answered
full : (count : ℕ) (answer : Result Piece LexFault) → most_tokens ≤ count → if_room count answer ≡ Err fault.TooManyTokens
full count answer h = cond-false _ _ _ (le-ltb count most_tokens h)

no_sign : (bytes : List ℕ) → ((s : Sign) → starts_with nat_eq bytes (sign_text s) ≡ false) → sign_at bytes ≡ None
no_sign bytes other = (elim (sign_at bytes) as (λ o. sign_at bytes ≡ o → o ≡ None) [ None ↦ λ e. refl | Some s ↦ λ e. absurd (both_ways (starts_with nat_eq bytes (sign_text s)) (other s) (sign_found bytes s e)) ]) refl

some_sign : (line count : ℕ) (bytes : List ℕ) (s : Sign) → most_tokens ≤ count → starts_with nat_eq bytes (sign_text s) ≡ true → (o : Option Sign) → sign_at bytes ≡ o → sign_piece line count o ≡ Err fault.TooManyTokens
some_sign line count bytes s h there None e = absurd (both_ways (starts_with nat_eq bytes (sign_text s)) (no_sign_found bytes e s) there)
some_sign line count bytes s h there (Some v) e = full count (Ok (length (sign_text v), Some (token.Sign v))) h

run_stops : (line count : ℕ) (bytes : List ℕ) (f : LexFault) → count < most_tokens → run_token line (run_at bytes) ≡ Err f → run_piece line count (run_at bytes) ≡ Err f
run_stops line count bytes f room e =
    roomy count (run_token line (run_at bytes) >>= (λ t. let out : Result Piece LexFault = Ok (length (run_at bytes), Some t) in out)) room
    ∙ ap (λ (r : Result Token LexFault). r >>= (λ t. let out : Result Piece LexFault = Ok (length (run_at bytes), Some t) in out)) e

pub stops : {f : LexFault} (line count : ℕ) (bytes : List ℕ) → 0 < length bytes → IsNoBlank bytes → IsFault count line bytes f → piece line count bytes ≡ Err f
stops line count bytes some n (bad_byte outer other) = piece_sign line count bytes n.no_space n.no_comment outer ∙ ap (sign_piece line count) (no_sign bytes other)
stops line count bytes some n (bad_number room first other) =
    let inner : is_inner (slice_index bytes 0) ≡ true = digit_inner (slice_index bytes 0) first in
    let more : 0 < prefix_len is_inner bytes = prefix_some is_inner bytes some inner in
    let long : 0 < length (run_at bytes) = omega (arith, length-prefix_len is_inner bytes) in
    let digit : is_ascii_digit (slice_index (run_at bytes) 0) ≡ true = ap is_ascii_digit (first_of_take bytes (prefix_len is_inner bytes) more) ∙ first in
    piece_run line count bytes n.no_space n.no_comment inner ∙ run_stops line count bytes (fault.BadNumber line) room (run_bad line (run_at bytes) (run_inner bytes) long digit other)
stops line count bytes some n (long_name room inner first long) =
    let more : 0 < prefix_len is_inner bytes = prefix_some is_inner bytes some inner in
    let digit : is_ascii_digit (slice_index (run_at bytes) 0) ≡ false = ap is_ascii_digit (first_of_take bytes (prefix_len is_inner bytes) more) ∙ first in
    piece_run line count bytes n.no_space n.no_comment inner ∙ run_stops line count bytes (fault.LongName line) room (run_long line (run_at bytes) digit long)
stops line count bytes some n (too_many_runs h inner) =
    piece_run line count bytes n.no_space n.no_comment inner ∙ full count (run_token line (run_at bytes) >>= (λ t. let out : Result Piece LexFault = Ok (length (run_at bytes), Some t) in out)) h
stops line count bytes some n (too_many_signs h s there) =
    let size : 1 ≤ length (sign_text s) = leb-true 1 (length (sign_text s)) (sign_some s) in
    piece_sign line count bytes n.no_space n.no_comment (first_outer bytes (length (sign_text s)) s (omega arith) (starts_take bytes (sign_text s) there)) ∙ some_sign line count bytes s h there (sign_at bytes) refl

-- ---- a token at the front is found

inner_no_space : (b : ℕ) → is_inner b ≡ true → is_space b ≡ false
inner_no_space b e = grind (arith, nat_tests)

-- the run of a token is as long as the token
run_ends : (bytes : List ℕ) (n : ℕ) (t : Token) → Takes bytes n t → list_all is_inner (take n bytes) ≡ true → prefix_len is_inner bytes ≡ n
run_ends bytes n t at all =
    let size : length (take n bytes) ≡ n = length-take-le n bytes at.within in
    prefix_len_is is_inner bytes n 0 at.within
    (λ k below. ap is_inner (sym (get_or-take n bytes k 0 below)) ∙ all_at is_inner (take n bytes) k all (omega arith))
    (λ below. false_from_ne_true (is_inner (get_or bytes n 0)) (λ inner.
    at.longest (n + 1) (omega arith) (omega arith) (inl (list_all_more is_inner bytes n 0 below ∙ and_from (list_all is_inner (take n bytes)) (is_inner (get_or bytes n 0)) all inner))))

run_returns : (line count : ℕ) (bytes : List ℕ) (n : ℕ) (t : Token) → Takes bytes n t → count < most_tokens → IsRun t → piece line count bytes ≡ Ok (n, Some t)
run_returns line count bytes n t at room run =
    let all : list_all is_inner (take n bytes) ≡ true = ap (list_all is_inner) at.text ∙ run.inner in
    let inner : is_inner (slice_index bytes 0) ≡ true = first_inner bytes n at.some at.within all in
    let text : take (prefix_len is_inner bytes) bytes ≡ text_of t = ap (λ (k : ℕ). take k bytes) (run_ends bytes n t at all) ∙ at.text in
    let size : length (text_of t) ≡ n = ap length (sym at.text) ∙ length-take-le n bytes at.within in
    piece_run line count bytes (inner_no_space (slice_index bytes 0) inner) at.no_comment inner
    ∙ ap (run_piece line count) text
    ∙ roomy count (run_token line (text_of t) >>= (λ u. let out : Result Piece LexFault = Ok (length (text_of t), Some u) in out)) room
    ∙ ap (λ (r : Result Token LexFault). r >>= (λ u. let out : Result Piece LexFault = Ok (length (text_of t), Some u) in out)) (run.again line)
    ∙ ap (λ (k : ℕ). let out : Result Piece LexFault = Ok (k, Some t) in out) size

-- the sign that is found is the one that stands there with no longer one
sign_ends : (bytes : List ℕ) (n : ℕ) (s : Sign) (r : Option Sign) → Takes bytes n (token.Sign s) → sign_at bytes ≡ r → Some s ≡ r
sign_ends bytes n s r at e =
    let size : length (sign_text s) ≡ n = ap length (sym at.text) ∙ length-take-le n bytes at.within in
    let there : starts_with nat_eq bytes (sign_text s) ≡ true = take_starts bytes (sign_text s) (ap (λ (k : ℕ). take k bytes) size ∙ at.text) in
    go size there r e
  where
    go : length (sign_text s) ≡ n → starts_with nat_eq bytes (sign_text s) ≡ true → (o : Option Sign) → sign_at bytes ≡ o → Some s ≡ o
    go size there None none = absurd (both_ways (starts_with nat_eq bytes (sign_text s)) (no_sign_found bytes none s) there)
    go size there (Some v) found =
        let text : take (length (sign_text v)) bytes ≡ sign_text v = starts_take bytes (sign_text v) (sign_found bytes v found) in
        let long : length (sign_text s) ≤ length (sign_text v) = sign_longest bytes v s found there in
        let within : length (sign_text v) ≤ length bytes = omega (arith, ap length text, length-take (length (sign_text v)) bytes) in
        elim (cases_lt n (length (sign_text v))) [
          | inl past ↦ absurd (at.longest (length (sign_text v)) past within (inr (v, text)))
          | inr short ↦ (
              let same : n ≡ length (sign_text v) = omega arith in
              let one : s ≡ v = same_sign s v (sym at.text ∙ ap (λ (k : ℕ). take k bytes) same ∙ text) in
              ap (λ (w : Sign). let out : Option Sign = Some w in out) one)
        ]

sign_returns : (line count : ℕ) (bytes : List ℕ) (n : ℕ) (s : Sign) → Takes bytes n (token.Sign s) → count < most_tokens → piece line count bytes ≡ Ok (n, Some (token.Sign s))
sign_returns line count bytes n s at room =
    let outer : is_inner (slice_index bytes 0) ≡ false = first_outer bytes n s at.some at.text in
    let no_space : is_space (slice_index bytes 0) ≡ false = ap is_space (sym (first_of_take bytes n at.some) ∙ ap (λ (text : List ℕ). slice_index text 0) at.text) ∙ not-true (is_space (slice_index (sign_text s) 0)) (sign_no_space s) in
    let size : length (sign_text s) ≡ n = ap length (sym at.text) ∙ length-take-le n bytes at.within in
    piece_sign line count bytes no_space at.no_comment outer
    ∙ ap (sign_piece line count) (sym (sign_ends bytes n s (sign_at bytes) at refl))
    ∙ roomy count (Ok (length (sign_text s), Some (token.Sign s))) room
    ∙ ap (λ (k : ℕ). let out : Result Piece LexFault = Ok (k, Some (token.Sign s)) in out) size

pub returned : (line count : ℕ) (bytes : List ℕ) (n : ℕ) (t : Token) → Takes bytes n t → count < most_tokens → piece line count bytes ≡ Ok (n, Some t)
returned line count bytes n t at room =
    elim (run_or_sign t at.valid) [
      | inl run ↦ run_returns line count bytes n t at room run
      | inr s ↦ (
          let P : Token → Type 0 = λ u. Takes bytes n u in
          sign_returns line count bytes n s.0 (subst P (sym s.1) at) room ∙ ap (λ (u : Token). let out : Result Piece LexFault = Ok (n, Some u) in out) s.1)
    ]
