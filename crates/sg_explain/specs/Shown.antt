-- That the part which is shown for a number of a kernel has the tokens of its loop or of the statement of that number.
use Rattle.std.specs.Prelude.{◌≡◌, IsTrue, ℕ, List, ◌++◌, Some, slice_get}
use Rattle.sg_ast.specs.declared.token.Token.{Token}
use Rattle.sg_ast.specs.declared.token.Spanned.{Spanned}
use Rattle.sg_ast.specs.declared.kernel.KernelDecl.{KernelDecl}
use Rattle.sg_ast.specs.declared.program.Program.{Program}
use Rattle.sg_ast.specs.Program.{program_tokens}
use Rattle.sg_ast.specs.Grammar.{is_program}
use Rattle.sg_ast.specs.Items.{kinds, items_of}
use Rattle.sg_explain.specs.Parts.{parts_of}
use Rattle.sg_explain.specs.KernelParts.{part_tokens}
use Rattle.sg_explain.specs.KernelItems.{kernel_items, kernel_decls}

-- In a file that spells a program, the part of a number of the k-th item that begins with `kernel` begins with the tokens of the part of that
-- number of the k-th kernel, all counted from 0.
abbrev pub ShownIsStatement : Type 0
ShownIsStatement = (tokens : List Spanned) (program : Program) → IsTrue (is_program program) → program_tokens program ≡ kinds tokens
    → (k n : ℕ) (decl : KernelDecl) (given : List Token) → slice_get (kernel_decls program.items) k ≡ Some decl → slice_get (part_tokens decl) n ≡ Some given
    → (item : List Spanned) × (slice_get (kernel_items (items_of tokens)) k ≡ Some item)
    × (rest : List Token) × (slice_get (parts_of (kinds item)) n ≡ Some (given ++ rest))
