-- An item at the front of tokens, by the count of its tokens.
use Rattle.std.specs.Prelude.{ℕ, ◌-◌, length, List, Option, Some}
use Rattle.sg_words.specs.Options.{◌>>=◌}
use Rattle.sg_ast.specs.declared.token.Token.{Token}
use Rattle.sg_ast.specs.declared.program.Item.{Item}
use Rattle.sg_parser.specs.ReadItem.{read_item}

-- the item at the front, and how many tokens it has
abbrev pub counted_item : List Token → Option (Item × ℕ)
counted_item tokens = do
  item ← read_item tokens
  Some (item.0, length tokens - length item.1)
