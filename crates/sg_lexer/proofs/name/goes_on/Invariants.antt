use Rattle.std.specs.Prelude.{◌≡◌, ◌||◌, true, take}
use Rattle.std.specs.Char.{is_ascii_digit}
use Rattle.std.specs.List.{list_all}
use Rattle.sg_ast.specs.Token.{begins_name}
use Rattle.sg_lexer.proofs.name.goes_on.Given as goal

abbrev pub invariant-loop-byte : goal.invariant-loop-byte
invariant-loop-byte l = list_all (λ byte. begins_name byte || is_ascii_digit byte) (take l.byte-index l.bytes) ≡ true
