-- Programs: the one token list of each, and of their items.
use Rattle.std.specs.Prelude.{◌≡◌, refl, Bool, true, false, List, [], ◌∷◌, ◌++◌, map, codes}
use Rattle.sg_ast.specs.declared.token.Word.TheVariants as w
use Rattle.sg_ast.specs.declared.token.Sign.TheVariants as s
use Rattle.sg_ast.specs.declared.token.Token.{Token}
use Rattle.sg_ast.specs.declared.token.Token.TheVariants as t
use Rattle.sg_ast.specs.declared.program.ConstDecl.{ConstDecl}
use Rattle.sg_ast.specs.declared.program.Item.{Item}
use Rattle.sg_ast.specs.declared.program.Item.TheVariants as item
use Rattle.sg_ast.specs.declared.program.Program.{Program}
use Rattle.sg_ast.specs.Stmt.{joined_lists}
use Rattle.sg_ast.specs.Layout.{layout_tokens}
use Rattle.sg_ast.specs.Kernel.{kernel_tokens}
use Rattle.sg_ast.specs.Command.{command_tokens}

-- a number, after a `-` or not
abbrev pub signed_tokens : Bool → Token → List Token
signed_tokens true number = t.Sign s.Minus ∷ number ∷ []
signed_tokens false number = number ∷ []

-- `const NAME = -NUMBER;`, with the `-` or without
abbrev pub const_tokens : ConstDecl → List Token
const_tokens decl =
    t.Word w.Const ∷ t.Name decl.name ∷ t.Sign s.Equal ∷ (signed_tokens decl.minus (t.Number decl.value decl.unsigned) ++ t.Sign s.Semicolon ∷ [])

-- the tokens of an item
abbrev pub item_tokens : Item → List Token
item_tokens (item.Const decl) = const_tokens decl
item_tokens (item.Layout layout) = layout_tokens layout
item_tokens (item.Kernel kernel) = kernel_tokens kernel
item_tokens (item.Command command) = command_tokens command

-- the tokens of a program: those of its items, one after the other
abbrev pub program_tokens : Program → List Token
program_tokens program = joined_lists (map item_tokens program.items)

-- worked equations: `const S = -7;` and `const S = 7u;`
minus_seven-tokens : const_tokens (record { name = record { text = codes "S" }; minus = true; value = 7; unsigned = false })
    ≡ t.Word w.Const ∷ t.Name (record { text = codes "S" }) ∷ t.Sign s.Equal ∷ t.Sign s.Minus ∷ t.Number 7 false ∷ t.Sign s.Semicolon ∷ []
minus_seven-tokens = refl

unsigned_seven-tokens : const_tokens (record { name = record { text = codes "S" }; minus = false; value = 7; unsigned = true })
    ≡ t.Word w.Const ∷ t.Name (record { text = codes "S" }) ∷ t.Sign s.Equal ∷ t.Number 7 true ∷ t.Sign s.Semicolon ∷ []
unsigned_seven-tokens = refl
