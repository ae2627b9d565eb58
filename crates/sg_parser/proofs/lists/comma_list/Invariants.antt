use Rattle.std.proofs.Common.{◌≡◌, ◌-◌, length, []}
use Rattle.sg_ast.specs.Items.{kinds}
use Rattle.sg_parser.specs.Front.{comma_list_from}
use Rattle.sg_parser.proofs.lists.comma_list.Given as goal

-- what is left to read, from what was found, is what the whole reads
abbrev pub invariant-loop-turn : goal.invariant-loop-turn
invariant-loop-turn g l = comma_list_from g.T.Front.reader (l._turn-end - l._turn) l.found (kinds l.rest) ≡ comma_list_from g.T.Front.reader (length (kinds l.tokens)) [] (kinds l.tokens)
