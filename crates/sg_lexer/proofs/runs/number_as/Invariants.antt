use Rattle.std.proofs.Common.{◌≡◌, ◌+◌, ◌-◌, ◌*◌, ◌≤◌, true, not, ◌||◌, ◌==◌, nat_lt, length, drop, slice_index, fold}
use Rattle.std.specs.Char.{is_ascii_digit}
use Rattle.std.specs.List.{list_all}
use Rattle.sg_lexer.specs.Lexing.{decimal_value}
use Rattle.sg_lexer.proofs.runs.number_as.Given as goal
use Rattle.sg_ast.specs.Limits.{max_number}

abbrev pub invariant-loop-digit : goal.invariant-loop-digit
invariant-loop-digit l = record {
  value : fold (λ v d. 10 * v + (d - 48)) l.value (drop l.digit-index l.digits) ≡ decimal_value l.digits;
  digits : list_all is_ascii_digit (drop l.digit-index l.digits) ≡ list_all is_ascii_digit l.digits;
  within : l.value ≤ l.limit;
  is_limit : l.limit ≡ max_number l.unsigned;
  some : nat_lt 0 (length l.digits) ≡ true;
  no_zero : (length l.digits == 1 || not (slice_index l.digits 0 == 48)) ≡ true;
}
