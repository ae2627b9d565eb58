use Rattle.std.proofs.Common.{◌≡◌, ◌-◌, ◌≤◌, length, take, drop}
use Rattle.sg_lexer.specs.Lexing.{tokens_from, token_list, line_after}
use Rattle.sg_lexer.proofs.lexer.lex.Given as goal
use Rattle.sg_lexer.specs.Limits.{most_file_bytes}

abbrev pub invariant-loop-at : goal.invariant-loop-at
invariant-loop-at l =
    (tokens_from 0 (take l.at l.bytes) l.list (drop l.at l.bytes) ≡ token_list l.bytes)
    × (l.line ≡ line_after (take l.at l.bytes)) × (l.at ≤ length l.bytes) × (length l.bytes ≤ most_file_bytes)

abbrev pub decreases-loop-at : goal.decreases-loop-at
decreases-loop-at l = length l.bytes - l.at
