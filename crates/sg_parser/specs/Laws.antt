-- Which tokens spell which program, in words of the grammar alone, and that `program_of` is just that.
use Rattle.std.specs.Prelude.{◌≡◌, ℕ, ◌+◌, IsTrue, List, ◌∷◌, ◌++◌, length, Ok, Err}
use Rattle.std.specs.List.{AllByRecursion}
use Rattle.sg_ast.specs.declared.token.Spanned.{Spanned}
use Rattle.sg_ast.specs.declared.program.Item.{Item}
use Rattle.sg_ast.specs.declared.program.Program.{Program}
use Rattle.sg_ast.specs.Program.{item_tokens, program_tokens}
use Rattle.sg_ast.specs.Grammar.{is_item, is_program}
use Rattle.sg_ast.specs.Items.{kinds, items_of, first_line, item_lines}
use Rattle.sg_parser.specs.declared.program.ParseFault.TheVariants as fault
use Rattle.sg_parser.specs.Parsed.{program_of}

-- these tokens spell this program, with these lines: it is one of the grammar, they are its tokens, and each of its items has
-- the line of its first token
pub record Spells (tokens : List Spanned) (program : Program) : Type 0 where
  pub of_grammar : IsTrue (is_program program)
  pub tokens_are : program_tokens program ≡ kinds tokens
  pub lines_are : program.lines ≡ item_lines tokens

-- these tokens spell an item of the grammar
abbrev pub SpellsItem : List Spanned → Type 0
SpellsItem tokens = (item : Item) × IsTrue (is_item item) × (kinds tokens ≡ item_tokens item)

-- an item of a file that spells none, where each item in front of it spells one
pub record IsFirstUnspelled (tokens : List Spanned) (number line : ℕ) : Type 0 where
  pub before : List (List Spanned)
  pub here : List Spanned
  pub behind : List (List Spanned)
  pub parts : items_of tokens ≡ before ++ here ∷ behind
  pub count : length before + 1 ≡ number
  pub at : first_line here ≡ line
  pub spelled : AllByRecursion SpellsItem before
  pub none : SpellsItem here → ⊥

-- A program is accepted exactly when the tokens spell it: what is accepted is spelled
abbrev pub ParsedIsSpelled : Type 0
ParsedIsSpelled = (tokens : List Spanned) (program : Program) → program_of tokens ≡ Ok program → Spells tokens program

-- and what is spelled is accepted, so that no other program is the answer
abbrev pub SpelledIsParsed : Type 0
SpelledIsParsed = (tokens : List Spanned) (program : Program) → Spells tokens program → program_of tokens ≡ Ok program

-- a refusal names the first item that spells none, and the line of its first token
abbrev pub FirstFaultIsNamed : Type 0
FirstFaultIsNamed =
    (tokens : List Spanned) (number line : ℕ) → program_of tokens ≡ Err (fault.Syntax number line)
    → IsFirstUnspelled tokens number line

-- no two programs of the grammar have the same tokens, except for their lines
abbrev pub TreeIsOne : Type 0
TreeIsOne =
    (a b : Program) → IsTrue (is_program a) → IsTrue (is_program b) → program_tokens a ≡ program_tokens b
    → a.items ≡ b.items
