use Rattle.std.proofs.Common.{◌≡◌, ℕ, ◌+◌, ◌-◌, ◌<◌, ◌≤◌, ◌==◌, count_by, List, length, take, drop, Ok, sym, ap, ◌∙◌, rules, arith}
use Rattle.std.proofs.lemmas.Grind.{common_steps}
use Rattle.std.proofs.lemmas.List.{take_rest, length-take-le, length-drop}
use Rattle.sg_ast.specs.declared.token.Spanned.{Spanned}
use Rattle.sg_lexer.specs.Lexing.{piece, token_list, tokens_from, with_piece}
use Rattle.sg_lexer.proofs.Passing.{turn, line_more, added, kept}
use Rattle.sg_lexer.proofs.lexer.lex.Goals as goal
use Rattle.sg_lexer.proofs.lexer.lex.Goals.{in-Some+in_ok-push, in_default}

pub loop-at-init : goal.loop-at-init
unfolding token_list
loop-at-init c = first_of (search rules, grind (arith, common_steps))

pub loop-at-preserved : goal.loop-at-preserved
loop-at-preserved c =
    let bytes = c.args.bytes.now in
    let at = c.loop-at.at in
    let n = c.in_ok-len.len in
    let t = c.in_ok-len.token in
    let within : at ≤ length bytes = omega arith in
    let start : length (take at bytes) ≡ at = length-take-le at bytes within in
    let found : piece c.loop-at.line (length c.loop-at.list) (drop at bytes) ≡ Ok (n, t) =
    let answer : piece c.loop-at.line (length c.loop-at.list) (take (length bytes - at) (drop at bytes)) ≡ Ok (n, t) = ap (λ (k : ℕ). piece c.loop-at.line k (take (length bytes - at) (drop at bytes))) (sym c.len.ensures) ∙ c.in_ok-len.ensures.answer in
    ap (piece c.loop-at.line (length c.loop-at.list)) (sym (take_rest bytes at)) ∙ answer in
    let held : n ≤ length (take (length bytes - at) (drop at bytes)) = c.in_ok-len.ensures.within.1 in
    let some : 0 < n = c.in_ok-len.ensures.within.0 in
    let rest : length (take (length bytes - at) (drop at bytes)) ≡ length bytes - at = ap length (take_rest bytes at) ∙ length-drop at bytes in
    let room : n ≤ length bytes - at = omega arith in
    let list : c.match-token.list ≡ with_piece (take at bytes) c.loop-at.list (n, t) =
    elim c.match-token.branch [ in-Some+in_ok-push w ↦ w.list-is ∙ w.in_ok-push.ensures.ok ∙ added (take at bytes) c.loop-at.list n at c.loop-at.line t w.in-Some.token w.in-Some.is start c.loop-at.invariant.1 | in_default w ↦ w.list-is ∙ kept (take at bytes) c.loop-at.list n t w.in_default.is ] in
    let gone = turn bytes at n c.loop-at.line c.loop-at.list t c.loop-at.invariant.1 within found some room in
    let lines = line_more bytes at n in
    let counted : count_by (λ b. b == 10) (take (at + n - at) (drop at bytes)) ≡ count_by (λ b. b == 10) (take n (drop at bytes)) = let e : at + n - at ≡ n = omega arith in ap (λ (k : ℕ). count_by (λ b. b == 10) (take k (drop at bytes))) e in
    (ap (λ (done : List Spanned). tokens_from 0 (take (at + n) bytes) done (drop (at + n) bytes)) list ∙ sym gone ∙ c.loop-at.invariant.0, omega (arith, lines, counted, c.newlines.ensures.value), omega arith, omega arith)
