-- Tokens that are spelled with spaces between them are found again.
use Rattle.std.proofs.Common.{◌≡◌, ℕ, ◌+◌, ◌<◌, ◌≤◌, ◌==◌, true, false, not, nat_eq, List, [], ◌∷◌, ◌++◌, map, length, slice_index, get_or, take, Some, None, Result, Ok, codes, refl, sym, ap, ◌∙◌, inl, inr, arith, append_assoc, append-nil, length-append}
use Rattle.std.specs.List.{starts_with, list_all, join_with_byte}
use Rattle.std.proofs.lemmas.Bool.{and_parts, not-true, both_ways, false_from_ne_true, leb-true}
use Rattle.std.proofs.lemmas.List.{length_push, length-take-le, get_or-take, get_or_append_left}
use Rattle.std.proofs.Math.Seq.{take-append_seam, drop-append_seam, drop-length, get_or-append_seam}
use Rattle.sg_ast.specs.declared.token.Token.{Token}
use Rattle.sg_ast.specs.declared.token.Spanned.{Spanned}
use Rattle.sg_ast.specs.Token.{is_token}
use Rattle.sg_lexer.specs.declared.fault.LexFault.{LexFault}
use Rattle.sg_lexer.specs.Alphabet.{is_inner, sign_text, text_of}
use Rattle.sg_lexer.specs.Lexing.{line_after, tokens_from, token_list}
use Rattle.sg_lexer.specs.Laws.{SpelledAreReadAgain}
use Rattle.sg_lexer.proofs.Tables.{sign_some, sign_without_spaces, sign_alone_no_comment, sign_no_comment}
use Rattle.sg_lexer.proofs.Texts.{all_at, run_or_sign}
use Rattle.sg_lexer.proofs.Passing.{goes}
use Rattle.sg_lexer.proofs.Fronts.{Takes, comment_slash, piece_space}
use Rattle.sg_lexer.proofs.Returning.{returned}
use Rattle.sg_lexer.proofs.Uniqueness.{tokens_ok}
use Rattle.sg_ast.specs.Limits.{most_tokens}

text_some : (t : Token) → is_token t ≡ true → 0 < length (text_of t)
text_some t good =
    elim (run_or_sign t good) [
      | inl run ↦ run.some
      | inr s ↦ (
          let size : length (sign_text s.0) ≡ length (text_of t) = ap (λ (u : Token). length (text_of u)) s.1 in
          let some : 1 ≤ length (sign_text s.0) = leb-true 1 (length (sign_text s.0)) (sign_some s.0) in
          omega arith)
    ]

-- a run begins no comment, whatever stands after it
run_no_comment : (bytes : List ℕ) → is_inner (slice_index bytes 0) ≡ true → starts_with nat_eq bytes (codes "//") ≡ false
run_no_comment bytes inner = false_from_ne_true (starts_with nat_eq bytes (codes "//")) (λ starts. both_ways (is_inner (slice_index bytes 0)) (ap is_inner (comment_slash bytes starts)) inner)

run_first : (text tail : List ℕ) → 0 < length text → list_all is_inner text ≡ true → is_inner (slice_index (text ++ tail) 0) ≡ true
run_first text tail some inner = ap is_inner (get_or_append_left text tail 0 0 some) ∙ all_at is_inner text 0 inner some

alone_no_comment : (t : Token) → is_token t ≡ true → starts_with nat_eq (text_of t) (codes "//") ≡ false
alone_no_comment t good =
    elim (run_or_sign t good) [
      | inl run ↦ run_no_comment (text_of t) (all_at is_inner (text_of t) 0 run.inner run.some)
      | inr s ↦ ap (λ (u : Token). starts_with nat_eq (text_of u) (codes "//")) (sym s.1) ∙ not-true (starts_with nat_eq (sign_text s.0) (codes "//")) (sign_alone_no_comment s.0)
    ]

spaced_no_comment : (t : Token) (rest : List ℕ) → is_token t ≡ true → starts_with nat_eq (text_of t ++ 32 ∷ rest) (codes "//") ≡ false
spaced_no_comment t rest good =
    elim (run_or_sign t good) [
      | inl run ↦ run_no_comment (text_of t ++ 32 ∷ rest) (run_first (text_of t) (32 ∷ rest) run.some run.inner)
      | inr s ↦ ap (λ (u : Token). starts_with nat_eq (text_of u ++ 32 ∷ rest) (codes "//")) (sym s.1) ∙ not-true (starts_with nat_eq (sign_text s.0 ++ 32 ∷ rest) (codes "//")) (sign_no_comment rest s.0)
    ]

-- a token stands in its own text
takes_alone : (t : Token) → is_token t ≡ true → Takes (text_of t) (length (text_of t)) t
takes_alone t good = record {
  some = text_some t good;
  within = omega arith;
  text = ap (take (length (text_of t))) (sym (append-nil (text_of t))) ∙ take-append_seam (text_of t) [];
  valid = good;
  no_comment = alone_no_comment t good;
  longest = λ m past within lexeme. absurd (omega arith);
}

-- and in its text before a space
takes_spaced : (t : Token) (rest : List ℕ) → is_token t ≡ true → Takes (text_of t ++ 32 ∷ rest) (length (text_of t)) t
takes_spaced t rest good =
    let n : ℕ = length (text_of t) in
    let bytes : List ℕ = text_of t ++ 32 ∷ rest in
    let seam : get_or bytes n 0 ≡ 32 = get_or-append_seam (text_of t) 32 rest 0 in
    record {
      some = text_some t good;
      within = omega (arith, length-append (text_of t) (32 ∷ rest));
      text = take-append_seam (text_of t) (32 ∷ rest);
      valid = good;
      no_comment = spaced_no_comment t rest good;
      longest = λ m past within lexeme.
          let size : length (take m bytes) ≡ m = length-take-le m bytes within in
          let at : get_or (take m bytes) n 0 ≡ 32 = get_or-take m bytes n 0 past ∙ seam in
          elim lexeme [
            | inl all ↦ both_ways (is_inner (get_or (take m bytes) n 0)) (ap is_inner at) (all_at is_inner (take m bytes) n all (omega arith))
            | inr s ↦ (
                let none : list_all (λ b. not (b == 32)) (take m bytes) ≡ true = ap (list_all (λ b. not (b == 32))) s.1 ∙ sign_without_spaces s.0 in
                both_ways (not (get_or (take m bytes) n 0 == 32)) (ap (λ (b : ℕ). not (b == 32)) at) (all_at (λ b. not (b == 32)) (take m bytes) n none (omega arith)))
          ];
    }

-- the token at a place, with its span and line
abbrev placed : List ℕ → Token → Spanned
placed before t = record { token = t; start = length before; end = length before + length (text_of t); line = line_after before }

again : (ts : List Token) → list_all is_token ts ≡ true → (before : List ℕ) (done : List Spanned) → length done + length ts ≤ most_tokens → (read : List Spanned) × (tokens_from 0 before done (join_with_byte 32 (map (λ t. text_of t) ts)) ≡ Ok (done ++ read)) × (map (λ t. t.token) read ≡ ts)
again [] good before done few = ([], ap (λ (ts : List Spanned). let out : Result (List Spanned) LexFault = Ok ts in out) (sym (append-nil done)), refl)
again (t ∷ []) good before done few =
    let n : ℕ = length (text_of t) in
    let at = takes_alone t (and_parts (is_token t) true good).0 in
    let step = goes before done (text_of t) n (Some t) (returned (line_after before) (length done) (text_of t) n t at (omega arith)) at.some at.within in
    (placed before t ∷ [], step ∙ ap (tokens_from 0 (before ++ take n (text_of t)) (done ++ placed before t ∷ [])) (drop-length (text_of t)), refl)
again (t ∷ u ∷ ts) good before done few =
    let n : ℕ = length (text_of t) in
    let rest : List ℕ = join_with_byte 32 (map (λ v. text_of v) (u ∷ ts)) in
    let bytes : List ℕ = text_of t ++ 32 ∷ rest in
    let parts = and_parts (is_token t) (list_all is_token (u ∷ ts)) good in
    let at = takes_spaced t rest parts.0 in
    let behind : List ℕ = before ++ take n bytes in
    let more : List Spanned = done ++ placed before t ∷ [] in
    let step = goes before done bytes n (Some t) (returned (line_after before) (length done) bytes n t at (omega arith)) at.some at.within in
    let gap = goes behind more (32 ∷ rest) 1 None (piece_space (line_after behind) (length more) (32 ∷ rest) refl) (omega arith) (omega arith) in
    let r = again (u ∷ ts) parts.1 (behind ++ 32 ∷ []) more (omega (arith, length_push done (placed before t))) in (
      placed before t ∷ r.0,
      step ∙ ap (tokens_from 0 behind more) (drop-append_seam (text_of t) (32 ∷ rest)) ∙ gap ∙ r.1 ∙ ap (λ (xs : List Spanned). let out : Result (List Spanned) LexFault = Ok xs in out) (append_assoc done (placed before t ∷ []) r.0),
      ap (λ (xs : List Token). t ∷ xs) r.2,
    )

pub reads_again : SpelledAreReadAgain
unfolding token_list
reads_again ts good few =
    let r = again ts good [] [] (omega arith) in
    (record { list = r.0 }, tokens_ok (join_with_byte 32 (map (λ t. text_of t) ts)) r.0 r.1, r.2)
