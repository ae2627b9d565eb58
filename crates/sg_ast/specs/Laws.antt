-- What the definitions keep between them.
use Rattle.std.specs.Prelude.{◌≡◌, false, IsTrue, List, map}
use Rattle.sg_ast.specs.declared.token.Token.{Token}
use Rattle.sg_ast.specs.declared.program.Program.{Program}
use Rattle.sg_ast.specs.Stmt.{joined_lists}
use Rattle.sg_ast.specs.Program.{item_tokens, program_tokens}
use Rattle.sg_ast.specs.Grammar.{is_program}
use Rattle.sg_ast.specs.Items.{item_cuts, are_left}

-- cutting loses no token and moves none
abbrev pub CutKeepsTokens : Type 0
CutKeepsTokens = (tokens : List Token) → joined_lists (item_cuts tokens) ≡ tokens

-- the tokens of a program of the grammar are cut into those of its items, and none are left
abbrev pub CutGivesItems : Type 0
CutGivesItems = (program : Program) → IsTrue (is_program program)
    → (item_cuts (program_tokens program) ≡ map item_tokens program.items) × (are_left (program_tokens program) ≡ false)
