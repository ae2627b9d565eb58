use Rattle.std.proofs.Common.{◌≡◌, ◌-◌, length, []}
use Rattle.sg_ast.specs.Items.{kinds}
use Rattle.sg_parser.specs.Front.{list_to_end_from}
use Rattle.sg_parser.proofs.lists.list_to_end.Given as goal

-- what is left to read, from what was found, is what the whole reads
abbrev pub invariant-loop-turn : goal.invariant-loop-turn
invariant-loop-turn g l =
    list_to_end_from g.T.Listed.end g.T.Front.reader (l._turn-end - l._turn) l.found (kinds l.rest)
    ≡ list_to_end_from g.T.Listed.end g.T.Front.reader (length (kinds l.tokens)) [] (kinds l.tokens)
