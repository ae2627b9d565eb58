-- No other list of tokens is right: a list that is, is found.
use Rattle.std.proofs.Common.{◌≡◌, ℕ, ◌+◌, ◌-◌, ◌<◌, ◌≤◌, List, [], ◌∷◌, ◌++◌, length, take, drop, Some, None, Result, Ok, Err, refl, sym, ap, ◌∙◌, subst, arith, append_assoc, append-nil, length-drop, take-append-drop}
use Rattle.std.specs.List.{prefix_len}
use Rattle.std.proofs.lemmas.List.{length_push, length-take-le, append_cancel_right}
use Rattle.std.proofs.lemmas.List.Sums.{prefix_len-le-length}
use Rattle.std.proofs.Math.Seq.{drop-length}
use Rattle.sg_ast.specs.declared.token.Spanned.{Spanned}
use Rattle.sg_ast.specs.declared.token.Tokens.{Tokens}
use Rattle.sg_lexer.specs.declared.fault.LexFault.{LexFault}
use Rattle.sg_lexer.specs.Alphabet.{is_space}
use Rattle.sg_lexer.specs.Lexing.{Piece, is_in_line, piece, line_after, with_piece, tokens_from, token_list, tokens}
use Rattle.sg_words.specs.Results.{◌>>=◌}
use Rattle.sg_lexer.specs.Laws.{Blank, none, space, comment, IsLexeme, IsTokenOf, AreTokens, IsFirstLexFault}
use Rattle.sg_lexer.proofs.Passing.{goes, turn}
use Rattle.sg_lexer.proofs.Fronts.{Takes, comment_slash, comment_some, piece_space, piece_comment}
use Rattle.sg_lexer.proofs.Returning.{returned, stops}
use Rattle.sg_ast.specs.Limits.{most_tokens}

-- white space and comments are passed, and add nothing
blank_goes : {bytes after : List ℕ} → Blank bytes after → (before : List ℕ) → (mid : List ℕ) × (mid ++ after ≡ bytes) × ((done : List Spanned) → tokens_from 0 before done bytes ≡ tokens_from 0 (before ++ mid) done after)
blank_goes (none after) before = ([], refl, λ done. ap (λ (b : List ℕ). tokens_from 0 b done after) (sym (append-nil before)))
blank_goes (space b bytes after e f) before =
    let r = blank_goes f (before ++ b ∷ []) in (
      b ∷ r.0,
      ap (λ (xs : List ℕ). b ∷ xs) r.1,
      λ done.
          goes before done (b ∷ bytes) 1 None (piece_space (line_after before) (length done) (b ∷ bytes) e) (omega arith) (omega arith)
          ∙ r.2 done ∙ ap (λ (x : List ℕ). tokens_from 0 x done after) (append_assoc before (b ∷ []) r.0),
    )
blank_goes (comment bytes after e f) before =
    let k : ℕ = prefix_len is_in_line bytes in
    let r = blank_goes f (before ++ take k bytes) in (
      take k bytes ++ r.0,
      append_assoc (take k bytes) r.0 after ∙ ap (λ (xs : List ℕ). take k bytes ++ xs) r.1 ∙ take-append-drop k bytes,
      λ done.
          goes before done bytes k None (piece_comment (line_after before) (length done) bytes (ap is_space (comment_slash bytes e)) e) (comment_some bytes e) (prefix_len-le-length is_in_line bytes)
          ∙ r.2 done ∙ ap (λ (x : List ℕ). tokens_from 0 x done after) (append_assoc before (take k bytes) r.0),
    )

blank_passed : (whole : List ℕ) (from to : ℕ) (done : List Spanned) → Blank (drop from whole) (drop to whole) → tokens_from 0 (take from whole) done (drop from whole) ≡ tokens_from 0 (take to whole) done (drop to whole)
blank_passed whole from to done h =
    let r = blank_goes h (take from whole) in
    let same : take from whole ++ r.0 ≡ take to whole =
    append_cancel_right (take from whole ++ r.0) (take to whole) (drop to whole) (append_assoc (take from whole) r.0 (drop to whole) ∙ ap (λ (xs : List ℕ). take from whole ++ xs) r.1 ∙ take-append-drop from whole ∙ sym (take-append-drop to whole)) in
    r.2 done ∙ ap (λ (x : List ℕ). tokens_from 0 x done (drop to whole)) same

-- a token of the bytes is passed, and is added
token_passed : (whole : List ℕ) (done : List Spanned) (t : Spanned) → IsTokenOf whole t → length done < most_tokens → tokens_from 0 (take t.start whole) done (drop t.start whole) ≡ tokens_from 0 (take t.end whole) (done ++ t ∷ []) (drop t.end whole)
token_passed whole done t is room =
    let n : ℕ = t.end - t.start in
    let rest : List ℕ = drop t.start whole in
    let some : t.start < t.end = is.some in
    let within : t.end ≤ length whole = is.within in
    let size : length rest ≡ length whole - t.start = length-drop t.start whole in
    let at : Takes rest n t.token = record {
      some = omega arith;
      within = omega arith;
      text = is.text;
      valid = is.valid;
      no_comment = is.no_comment;
      longest = λ m past inside lexeme.
          let count : m ≡ t.start + m - t.start = omega arith in
          let P : ℕ → Type 0 = λ k. IsLexeme (take k rest) in
          is.longest (t.start + m) (omega arith) (omega arith) (subst P count lexeme);
    } in
    let found : piece (line_after (take t.start whole)) (length done) rest ≡ Ok (n, Some t.token) = returned (line_after (take t.start whole)) (length done) rest n t.token at room in
    let step = turn whole t.start n (line_after (take t.start whole)) done (Some t.token) refl (omega arith) found (omega arith) (omega arith) in
    let end : t.start + n ≡ t.end = omega arith in
    let start : length (take t.start whole) ≡ t.start = length-take-le t.start whole (omega arith) in
    let stop : length (take t.start whole) + n ≡ t.end = omega arith in
    let new : with_piece (take t.start whole) done (n, Some t.token) ≡ done ++ t ∷ [] = λ i. done ++ record { token = t.token; start = start i; end = stop i; line = sym is.line i } ∷ [] in
    step ∙ ap (λ (ts : List Spanned). tokens_from 0 (take (t.start + n) whole) ts (drop (t.start + n) whole)) new ∙ ap (λ (k : ℕ). tokens_from 0 (take k whole) (done ++ t ∷ []) (drop k whole)) end

-- what stands up to a place is passed
all_passed : (whole : List ℕ) (from to : ℕ) (done ts : List Spanned) → AreTokens whole from ts to → length done + length ts ≤ most_tokens → tokens_from 0 (take from whole) done (drop from whole) ≡ tokens_from 0 (take to whole) (done ++ ts) (drop to whole)
all_passed whole from to done [] h few = blank_passed whole from to done h ∙ ap (λ (ts : List Spanned). tokens_from 0 (take to whole) ts (drop to whole)) (sym (append-nil done))
all_passed whole from to done (t ∷ ts) h few =
    blank_passed whole from t.start done h.1
    ∙ token_passed whole done t h.2 (omega arith)
    ∙ all_passed whole t.end to (done ++ t ∷ []) ts h.3 (omega (arith, length_push done t))
    ∙ ap (λ (xs : List Spanned). tokens_from 0 (take to whole) xs (drop to whole)) (append_assoc done (t ∷ []) ts)

pub tokens_ok : (bytes : List ℕ) (list : List Spanned) → token_list bytes ≡ Ok list → tokens bytes ≡ Ok (record { list = list })
tokens_ok bytes list e = ap (λ (r : Result (List Spanned) LexFault). r >>= (λ ts. let out : Result Tokens LexFault = Ok (record { list = ts }) in out)) e

pub only : (bytes : List ℕ) (given : Tokens) → AreTokens bytes 0 given.list (length bytes) → length given.list ≤ most_tokens → tokens bytes ≡ Ok given
unfolding token_list
only bytes given h few = tokens_ok bytes given.list (all_passed bytes 0 (length bytes) [] given.list h (omega arith) ∙ ap (tokens_from 0 (take (length bytes) bytes) given.list) (drop-length bytes))

-- a fault at the front is the answer
fault_ends : (before : List ℕ) (done : List Spanned) (bytes : List ℕ) (f : LexFault) → 0 < length bytes → piece (line_after before) (length done) bytes ≡ Err f → tokens_from 0 before done bytes ≡ Err f
fault_ends before done [] f some e = absurd (omega arith)
fault_ends before done (b ∷ bytes) f some e =
    let next : Piece → Result (List Spanned) LexFault = λ p. tokens_from (p.0 - 1) (before ++ b ∷ []) (with_piece before done p) bytes in
    ap (λ (r : Result Piece LexFault). r >>= next) e

pub first_is_answered : (bytes : List ℕ) (f : LexFault) → IsFirstLexFault bytes f → tokens bytes ≡ Err f
unfolding token_list
first_is_answered bytes f h =
    let within : h.at < length bytes = h.within in
    let some : 0 < length (drop h.at bytes) = omega (arith, length-drop h.at bytes) in
    let end = fault_ends (take h.at bytes) h.before (drop h.at bytes) f some (stops (line_after (take h.at bytes)) (length h.before) (drop h.at bytes) some h.no_blank h.fault) in
    ap (λ (r : Result (List Spanned) LexFault). r >>= (λ ts. let out : Result Tokens LexFault = Ok (record { list = ts }) in out)) (all_passed bytes 0 h.at [] h.before h.well (omega (arith, h.few)) ∙ end)
