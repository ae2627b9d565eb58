-- Digits and the number that they spell.
use Rattle.std.proofs.Common.{◌≡◌, ℕ, ◌+◌, ◌-◌, ◌*◌, ◌<◌, ◌≤◌, Bool, false, nat_le, List, [], ◌∷◌, length, get_or, drop, fold, Err, sym, ◌∙◌, arith}
use Rattle.std.proofs.lemmas.Bool.{lt-leb, and_right, cond-false}
use Rattle.std.proofs.lemmas.List.{at_drop_more}
use Rattle.sg_lexer.specs.declared.fault.LexFault.TheVariants as fault
use Rattle.sg_lexer.specs.Lexing.{decimal_value, number_as}
use Rattle.sg_ast.specs.Limits.{max_number}

-- further digits only raise a number
pub grows : (digits : List ℕ) (v : ℕ) → v ≤ fold (λ v d. 10 * v + (d - 48)) v digits
grows [] v = omega arith
grows (d ∷ digits) v =
    let rest : 10 * v + (d - 48) ≤ fold (λ v d. 10 * v + (d - 48)) (10 * v + (d - 48)) digits = grows digits (10 * v + (d - 48)) in
    omega arith

-- digits whose first ones alone are past the limit
pub past_limit : (line : ℕ) (unsigned : Bool) (digits : List ℕ) (i v : ℕ) → fold (λ v d. 10 * v + (d - 48)) v (drop i digits) ≡ decimal_value digits → i < length digits → max_number unsigned < 10 * v + (get_or digits i 0 - 48) → number_as line unsigned digits ≡ Err (fault.BadNumber line)
unfolding number_as
past_limit line unsigned digits i v e within over =
    let next : fold (λ v d. 10 * v + (d - 48)) v (drop i digits) ≡ fold (λ v d. 10 * v + (d - 48)) (10 * v + (get_or digits i 0 - 48)) (drop (i + 1) digits) = at_drop_more (fold (λ v d. 10 * v + (d - 48)) v) digits i 0 within in
    let more : 10 * v + (get_or digits i 0 - 48) ≤ fold (λ v d. 10 * v + (d - 48)) (10 * v + (get_or digits i 0 - 48)) (drop (i + 1) digits) = grows (drop (i + 1) digits) (10 * v + (get_or digits i 0 - 48)) in
    let past : max_number unsigned < decimal_value digits = omega (arith, sym next ∙ e) in
    let dark : nat_le (decimal_value digits) (max_number unsigned) ≡ false = lt-leb (decimal_value digits) (max_number unsigned) past in
    cond-false _ _ _ (and_right _ _ dark)
