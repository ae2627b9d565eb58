use Rattle.std.proofs.Common.{◌≡◌, ◌+◌, ◌≤◌, length}
use Rattle.sg_ast.specs.Items.{items_of}
use Rattle.sg_parser.specs.Parsed.{program_from, program_of}
use Rattle.sg_parser.proofs.program.parse.Given as goal

-- what is left to parse, from what was found, is what the whole gives; each item took a token at least
abbrev pub invariant-loop-rest : goal.invariant-loop-rest
invariant-loop-rest l = record {
  value : program_from l.number l.items l.lines (items_of l.rest) ≡ program_of l.fn.tokens.list;
  count : l.number + length l.rest ≤ 16385;
}

abbrev pub decreases-loop-rest : goal.decreases-loop-rest
decreases-loop-rest l = length l.rest
