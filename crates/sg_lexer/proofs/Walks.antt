-- A walk over the bytes: what is found are the tokens up to each place.
use Rattle.std.proofs.Common.{◌≡◌, ℕ, zero, suc, ◌+◌, ◌-◌, ◌<◌, ◌≤◌, nat_eq, List, [], ◌∷◌, ◌++◌, length, slice_range, take, drop, Option, Result, Ok, Err, codes, refl, sym, ap, ◌∙◌, subst, subst₂, arith, append_assoc, length-append, length-drop}
use Rattle.std.specs.List.{starts_with}
use Rattle.std.proofs.lemmas.List.{length_push}
use Rattle.std.proofs.Math.Seq.{take-append_seam, drop-append_seam, drop-append-add}
use Rattle.sg_ast.specs.declared.token.Token.{Token}
use Rattle.sg_ast.specs.declared.token.Spanned.{Spanned}
use Rattle.sg_ast.specs.declared.token.Tokens.{Tokens}
use Rattle.sg_lexer.specs.declared.fault.LexFault.{LexFault}
use Rattle.sg_lexer.specs.Lexing.{Piece, piece, line_after, with_piece, tokens_from, token_list, tokens}
use Rattle.sg_words.specs.Results.{◌>>=◌}
use Rattle.sg_lexer.specs.Laws.{Blank, none, space, comment, IsLexeme, IsTokenOf, AreTokens, IsNoBlank, IsFault, IsFirstLexFault}
use Rattle.sg_lexer.proofs.Fronts.{Takes, Front, blank, taken, front}
use Rattle.sg_lexer.proofs.Returning.{refused}
use Rattle.sg_ast.specs.Limits.{most_tokens}

-- ---- lists of tokens

blank_trans : {a b c : List ℕ} → Blank a b → Blank b c → Blank a c
blank_trans (none after) g = g
blank_trans {c = c} (space b bytes after e f) g = space b bytes c e (blank_trans f g)
blank_trans {c = c} (comment bytes after e f) g = comment bytes c e (blank_trans f g)

pub blank_shorter : {a b : List ℕ} → Blank a b → length b ≤ length a
blank_shorter (none after) = omega arith
blank_shorter (space b bytes after e f) = let h = blank_shorter f in omega arith
blank_shorter (comment bytes after e f) = let h = blank_shorter f in omega (arith, length-drop {A = ℕ})

more_blank : (whole : List ℕ) (from at to : ℕ) (ts : List Spanned) → AreTokens whole from ts at → Blank (drop at whole) (drop to whole) → AreTokens whole from ts to
more_blank whole from at to [] h g = blank_trans h g
more_blank whole from at to (t ∷ ts) h g = (h.0, h.1, h.2, more_blank whole t.end at to ts h.3 g)

more_token : (whole : List ℕ) (from : ℕ) (ts : List Spanned) (t : Spanned) → from ≤ length whole → AreTokens whole from ts t.start → IsTokenOf whole t → AreTokens whole from (ts ++ t ∷ []) t.end
more_token whole from [] t within h is =
    let start : t.start < t.end = is.some in
    let end : t.end ≤ length whole = is.within in
    let order : from ≤ t.start = omega (arith, blank_shorter h, length-drop from whole, length-drop t.start whole) in
    (order, h, is, none (drop t.end whole))
more_token whole from (u ∷ ts) t within h is = (h.0, h.1, h.2, more_token whole u.end ts t h.2.within h.3 is)

-- ---- one piece

-- what is known up to a place: the tokens so far are those of the bytes up to it
pub record Held (whole : List ℕ) (done : List Spanned) (at : ℕ) : Type 0 where
  pub tokens : AreTokens whole 0 done at
  pub few : length done ≤ most_tokens
  pub within : at ≤ length whole

-- a token at the front of what stands after `before`
token_of : (whole before bytes : List ℕ) (n : ℕ) (t : Token) → before ++ bytes ≡ whole → Takes bytes n t → IsTokenOf whole (record { token = t; start = length before; end = length before + n; line = line_after before })
token_of whole before bytes n t e at =
    let rest : drop (length before) whole ≡ bytes = ap (drop (length before)) (sym e) ∙ drop-append_seam before bytes in
    let size : length before + length bytes ≡ length whole = sym (length-append before bytes) ∙ ap length e in
    let some : 0 < n = at.some in
    let within : n ≤ length bytes = at.within in
    let count : length before + n - length before ≡ n = omega arith in
    record {
      some = omega arith;
      within = omega arith;
      text = ap (λ (k : ℕ). take k (drop (length before) whole)) count ∙ ap (take n) rest ∙ at.text;
      valid = at.valid;
      no_comment = ap (λ (xs : List ℕ). starts_with nat_eq xs (codes "//")) rest ∙ at.no_comment;
      line = ap line_after (sym (ap (take (length before)) (sym e) ∙ take-append_seam before bytes));
      longest = λ end past inside lexeme.
          let text : slice_range whole (length before) end ≡ take (end - length before) bytes = ap (take (end - length before)) rest in
          let P : List ℕ → Type 0 = IsLexeme in
          at.longest (end - length before) (omega arith) (omega arith) (subst P text lexeme);
    }

stepped : (whole before : List ℕ) (done : List Spanned) (bytes : List ℕ) (n : ℕ) (o : Option Token) → before ++ bytes ≡ whole → Held whole done (length before) → 0 < length bytes → Front (length done) bytes n o → Held whole (with_piece before done (n, o)) (length before + n) × (0 < n) × (n ≤ length bytes)
stepped whole before done bytes n o e held some (blank is more within b) =
    let rest : drop (length before) whole ≡ bytes = ap (drop (length before)) (sym e) ∙ drop-append_seam before bytes in
    let next : drop (length before + n) whole ≡ drop n bytes = ap (drop (length before + n)) (sym e) ∙ drop-append-add before bytes n in
    let size : length before + length bytes ≡ length whole = sym (length-append before bytes) ∙ ap length e in
    let B : List ℕ → List ℕ → Type 0 = Blank in
    let P : Option Token → Type 0 = λ x. Held whole (with_piece before done (n, x)) (length before + n) in
    (subst P is (record { tokens = more_blank whole 0 (length before) (length before + n) done held.tokens (subst₂ B (sym rest) (sym next) b); few = held.few; within = omega arith }), more, within)
stepped whole before done bytes n o e held some (taken t is room at) =
    let size : length before + length bytes ≡ length whole = sym (length-append before bytes) ∙ ap length e in
    let within : n ≤ length bytes = at.within in
    let new : Spanned = record { token = t; start = length before; end = length before + n; line = line_after before } in
    let P : Option Token → Type 0 = λ x. Held whole (with_piece before done (n, x)) (length before + n) in
    (subst P is (record { tokens = more_token whole 0 done new (omega arith) held.tokens (token_of whole before bytes n t e at); few = omega (arith, length_push done new); within = omega arith }), at.some, within)

-- ---- the walk

pub Outcome : List ℕ → Result (List Spanned) LexFault → Type 0
Outcome whole (Ok ts) = Held whole ts (length whole)
Outcome whole (Err f) = IsFirstLexFault whole f

first_fault : (whole before : List ℕ) (done : List Spanned) (bytes : List ℕ) (f : LexFault) → before ++ bytes ≡ whole → Held whole done (length before) → 0 < length bytes → piece (line_after before) (length done) bytes ≡ Err f → IsFirstLexFault whole f
first_fault whole before done bytes f e held some is =
    let rest : bytes ≡ drop (length before) whole = sym (ap (drop (length before)) (sym e) ∙ drop-append_seam before bytes) in
    let front : before ≡ take (length before) whole = sym (ap (take (length before)) (sym e) ∙ take-append_seam before bytes) in
    let size : length before + length bytes ≡ length whole = sym (length-append before bytes) ∙ ap length e in
    let known = refused (line_after before) (length done) f bytes some is in
    let N : List ℕ → Type 0 = IsNoBlank in
    let F : List ℕ → List ℕ → Type 0 = λ x y. IsFault (length done) (line_after x) y f in
    record { before = done; at = length before; within = omega arith; well = held.tokens; few = held.few; no_blank = subst N rest known.0; fault = subst₂ F front rest known.1 }

walk : (whole : List ℕ) (left : ℕ) (before : List ℕ) (done : List Spanned) (bytes : List ℕ) → before ++ bytes ≡ whole → left ≤ length bytes → Held whole done (length before + left) → Outcome whole (tokens_from left before done bytes)
unfolding Outcome
walk whole left before done [] e within held =
    let end : length before + left ≡ length whole = omega (arith, length-append before [], ap length e) in
    let P : ℕ → Type 0 = Held whole done in
    subst P end held
walk whole (suc left) before done (b ∷ bytes) e within held =
    let place : length before + suc left ≡ length (before ++ b ∷ []) + left = omega (arith, length_push before b) in
    let P : ℕ → Type 0 = Held whole done in
    walk whole left (before ++ b ∷ []) done bytes (append_assoc before (b ∷ []) bytes ∙ e) (omega arith) (subst P place held)
walk whole zero before done (b ∷ bytes) e within held =
    let place : length before + 0 ≡ length before = omega arith in
    let H : ℕ → Type 0 = Held whole done in
    let here : Held whole done (length before) = subst H place held in
    let some : 0 < length (b ∷ bytes) = omega arith in
    let next : Piece → Result (List Spanned) LexFault = λ p. tokens_from (p.0 - 1) (before ++ b ∷ []) (with_piece before done p) bytes in
    (elim (piece (line_after before) (length done) (b ∷ bytes)) as (λ r. piece (line_after before) (length done) (b ∷ bytes) ≡ r → Outcome whole (r >>= next)) [
      | Ok p ↦ λ is.
          let step = stepped whole before done (b ∷ bytes) p.0 p.1 e here some (front (line_after before) (length done) p.0 p.1 (b ∷ bytes) some is) in
          let more : 0 < p.0 = step.1 in
          let room : p.0 ≤ length (b ∷ bytes) = step.2 in
          let new : length before + p.0 ≡ length (before ++ b ∷ []) + (p.0 - 1) = omega (arith, length_push before b) in
          let P : ℕ → Type 0 = Held whole (with_piece before done p) in
          walk whole (p.0 - 1) (before ++ b ∷ []) (with_piece before done p) bytes (append_assoc before (b ∷ []) bytes ∙ e) (omega arith) (subst P new step.0)
      | Err f ↦ λ is. first_fault whole before done (b ∷ bytes) f e here some is
    ]) refl

outcome : (bytes : List ℕ) → Outcome bytes (token_list bytes)
unfolding token_list
outcome bytes = walk bytes 0 [] [] bytes refl (omega arith) (record { tokens = none bytes; few = omega arith; within = omega arith })

-- ---- the answers of `tokens`

pub lexed_ok : (bytes : List ℕ) (found : Tokens) → tokens bytes ≡ Ok found → token_list bytes ≡ Ok found.list
lexed_ok bytes found e =
    (elim (token_list bytes) as (λ r. (r >>= (λ list. let out : Result Tokens LexFault = Ok (record { list = list }) in out)) ≡ Ok found → r ≡ Ok found.list) [
      | Ok list ↦ λ is. (let t : Tokens = record { list = list } in let same : t ≡ found = cc in ap (λ (x : Tokens). let out : Result (List Spanned) LexFault = Ok x.list in out) same)
      | Err f ↦ λ is. cc
    ]) e

pub lexed_err : (bytes : List ℕ) (f : LexFault) → tokens bytes ≡ Err f → token_list bytes ≡ Err f
lexed_err bytes f e =
    (elim (token_list bytes) as (λ r. (r >>= (λ list. let out : Result Tokens LexFault = Ok (record { list = list }) in out)) ≡ Err f → r ≡ Err f) [
      | Ok list ↦ λ is. cc
      | Err g ↦ λ is. (let same : g ≡ f = cc in ap (λ (x : LexFault). let out : Result (List Spanned) LexFault = Err x in out) same)
    ]) e

pub found_held : (bytes : List ℕ) (found : Tokens) → tokens bytes ≡ Ok found → Held bytes found.list (length bytes)
unfolding Outcome
found_held bytes found e = let P : Result (List Spanned) LexFault → Type 0 = Outcome bytes in subst P (lexed_ok bytes found e) (outcome bytes)

pub fault_first : (bytes : List ℕ) (f : LexFault) → tokens bytes ≡ Err f → IsFirstLexFault bytes f
unfolding Outcome
fault_first bytes f e = let P : Result (List Spanned) LexFault → Type 0 = Outcome bytes in subst P (lexed_err bytes f e) (outcome bytes)
