-- What every program that bytes spell is.
use Rattle.std.specs.Prelude.{◌≤◌, length, IsTrue}
use Rattle.sg_ast.specs.declared.program.Program.{Program}
use Rattle.sg_ast.specs.Limits.{most_tokens}
use Rattle.sg_ast.specs.Grammar.{is_program}
use Rattle.sg_ast.specs.Program.{program_tokens}

-- one of the grammar, with no more tokens than a file may have, and so no more items
pub record IsSpelled (program : Program) : Type 0 where
  pub grammar : IsTrue (is_program program)
  pub few : length (program_tokens program) ≤ most_tokens
  pub few_items : length program.items ≤ most_tokens
