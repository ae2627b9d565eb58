-- The program that the tokens of a file spell, or the first item that spells none.
use Rattle.std.specs.Prelude.{ℕ, ◌+◌, List, [], ◌∷◌, ◌++◌, Option, Some, None, Result, Ok, Err}
use Rattle.sg_ast.specs.declared.token.Token.{Token}
use Rattle.sg_ast.specs.declared.token.Spanned.{Spanned}
use Rattle.sg_ast.specs.declared.program.Item.{Item}
use Rattle.sg_ast.specs.declared.program.Program.{Program}
use Rattle.sg_ast.specs.Items.{kinds, items_of, first_line}
use Rattle.sg_parser.specs.declared.program.ParseFault.{ParseFault}
use Rattle.sg_parser.specs.declared.program.ParseFault.TheVariants as fault
use Rattle.sg_parser.specs.ReadItem.{read_item}

-- an item, if no token is left after it
abbrev pub if_whole : Option (Item × List Token) → Option Item
if_whole None = None
if_whole (Some (item, [])) = Some item
if_whole (Some (item, token ∷ rest)) = None

-- the item that tokens spell
abbrev pub item_of : List Spanned → Option Item
item_of tokens = if_whole (read_item (kinds tokens))

-- the fault of a cut that spells no item, with its number and line, or what comes of its item
abbrev pub item_or_fault : ℕ → ℕ → (Item → Result Program ParseFault) → Option Item → Result Program ParseFault
item_or_fault number line more None = Err (fault.Syntax number line)
item_or_fault number line more (Some item) = more item

-- the items of the cuts after those found so far, where the next one has this number
unfoldable pub program_from : ℕ → List Item → List ℕ → List (List Spanned) → Result Program ParseFault
program_from number items lines [] = Ok (record { items = items; lines = lines })
program_from number items lines (tokens ∷ cuts) =
    item_or_fault number (first_line tokens)
    (λ item. program_from (number + 1) (items ++ item ∷ []) (lines ++ first_line tokens ∷ []) cuts) (item_of tokens)

-- the program of a file: each of its items in turn, with its line; or the number, from 1, and the line of the first that spells none
abbrev pub program_of : List Spanned → Result Program ParseFault
program_of tokens = program_from 1 [] [] (items_of tokens)
