-- One piece passed: what `tokens_from` is before and after it.
use Rattle.std.proofs.Common.{◌≡◌, ℕ, zero, suc, ◌+◌, ◌-◌, ◌<◌, ◌≤◌, ◌==◌, cond, ap₂, List, [], ◌∷◌, ◌++◌, length, take, drop, Option, Some, None, Result, Ok, count_by, refl, sym, ap, ◌∙◌, arith, append_assoc, append-nil}
use Rattle.std.proofs.lemmas.List.{drop-drop, length-drop}
use Rattle.std.proofs.lemmas.List.Sums.{sum_by-append}
use Rattle.std.proofs.Math.Seq.{take-add}
use Rattle.sg_ast.specs.declared.token.Token.{Token}
use Rattle.sg_ast.specs.declared.token.Spanned.{Spanned}
use Rattle.sg_lexer.specs.declared.fault.LexFault.{LexFault}
use Rattle.sg_lexer.specs.Lexing.{Piece, piece, line_after, with_piece, tokens_from}
use Rattle.sg_words.specs.Results.{◌>>=◌}

-- the rest of a piece adds no token
pub pass : (n : ℕ) (before : List ℕ) (done : List Spanned) (bytes : List ℕ) → tokens_from n before done bytes ≡ tokens_from 0 (before ++ take n bytes) done (drop n bytes)
pass zero before done bytes = ap (λ (b : List ℕ). tokens_from 0 b done bytes) (sym (append-nil before))
pass (suc n) before done [] = refl
pass (suc n) before done (b ∷ bytes) =
    pass n (before ++ b ∷ []) done bytes ∙ ap (λ (x : List ℕ). tokens_from 0 x done (drop n bytes)) (append_assoc before (b ∷ []) (take n bytes))

-- a piece that is found is passed
pub goes : (before : List ℕ) (done : List Spanned) (bytes : List ℕ) (n : ℕ) (t : Option Token) → piece (line_after before) (length done) bytes ≡ Ok (n, t) → 0 < n → n ≤ length bytes → tokens_from 0 before done bytes ≡ tokens_from 0 (before ++ take n bytes) (with_piece before done (n, t)) (drop n bytes)
goes before done [] n t e some within = absurd (omega arith)
goes before done (b ∷ bytes) zero t e some within = absurd (omega arith)
goes before done (b ∷ bytes) (suc n) t e some within =
    let next : Piece → Result (List Spanned) LexFault = λ p. tokens_from (p.0 - 1) (before ++ b ∷ []) (with_piece before done p) bytes in
    let one : suc n - 1 ≡ n = omega arith in
    ap (λ (r : Result Piece LexFault). r >>= next) e
    ∙ ap (λ (k : ℕ). tokens_from k (before ++ b ∷ []) (with_piece before done (suc n, t)) bytes) one
    ∙ pass n (before ++ b ∷ []) (with_piece before done (suc n, t)) bytes
    ∙ ap (λ (x : List ℕ). tokens_from 0 x (with_piece before done (suc n, t)) (drop n bytes)) (append_assoc before (b ∷ []) (take n bytes))

-- the line after a piece
pub line_more : (bytes : List ℕ) (at n : ℕ) → line_after (take at bytes) + count_by (λ b. b == 10) (take n (drop at bytes)) ≡ line_after (take (at + n) bytes)
line_more bytes at n =
    let both : count_by (λ b. b == 10) (take at bytes ++ take n (drop at bytes)) ≡ count_by (λ b. b == 10) (take at bytes) + count_by (λ b. b == 10) (take n (drop at bytes)) = sum_by-append (λ (b : ℕ). cond (b == 10) 1 0) (take at bytes) (take n (drop at bytes)) in
    rw take-add (omega (arith, both))

-- a turn of the loop over a file, from one place to the end of the piece there
pub turn : (bytes : List ℕ) (at n line : ℕ) (done : List Spanned) (t : Option Token) → line ≡ line_after (take at bytes) → at ≤ length bytes → piece line (length done) (drop at bytes) ≡ Ok (n, t) → 0 < n → n ≤ length bytes - at → tokens_from 0 (take at bytes) done (drop at bytes) ≡ tokens_from 0 (take (at + n) bytes) (with_piece (take at bytes) done (n, t)) (drop (at + n) bytes)
turn bytes at n line done t is_line within e some room =
    let here : piece (line_after (take at bytes)) (length done) (drop at bytes) ≡ Ok (n, t) = ap (λ (l : ℕ). piece l (length done) (drop at bytes)) (sym is_line) ∙ e in
    goes (take at bytes) done (drop at bytes) n t here some (omega (arith, length-drop at bytes))
    ∙ ap₂ (λ (x y : List ℕ). tokens_from 0 x (with_piece (take at bytes) done (n, t)) y) (sym (take-add at n bytes)) (drop-drop n at bytes)

-- what a piece adds: a token, with its span and line, or nothing
pub added : (before : List ℕ) (done : List Spanned) (n at line : ℕ) (t : Option Token) (x : Token) → t ≡ Some x → length before ≡ at → line ≡ line_after before → done ++ record { token = x; start = at; end = at + n; line = line } ∷ [] ≡ with_piece before done (n, t)
added before done n at line t x e start is_line =
    let here : with_piece before done (n, Some x) ≡ with_piece before done (n, t) = ap (λ (o : Option Token). with_piece before done (n, o)) (sym e) in
    (λ i. done ++ record { token = x; start = sym start i; end = sym start i + n; line = is_line i } ∷ []) ∙ here

pub kept : (before : List ℕ) (done : List Spanned) (n : ℕ) (t : Option Token) → t ≡ None → done ≡ with_piece before done (n, t)
kept before done n t e = ap (λ (o : Option Token). with_piece before done (n, o)) (sym e)
