-- Which items of a file are its kernels.
use Rattle.std.specs.Prelude.{◌≡◌, Bool, true, false, IsTrue, List, [], ◌∷◌, map}
use Rattle.sg_ast.specs.declared.token.Word.TheVariants as w
use Rattle.sg_ast.specs.declared.token.Token.{Token}
use Rattle.sg_ast.specs.declared.token.Token.TheVariants as t
use Rattle.sg_ast.specs.declared.token.Spanned.{Spanned}
use Rattle.sg_ast.specs.declared.kernel.KernelDecl.{KernelDecl}
use Rattle.sg_ast.specs.declared.program.Item.{Item}
use Rattle.sg_ast.specs.declared.program.Item.TheVariants as item
use Rattle.sg_ast.specs.declared.program.Program.{Program}
use Rattle.sg_ast.specs.Kernel.{kernel_tokens}
use Rattle.sg_ast.specs.Program.{program_tokens}
use Rattle.sg_ast.specs.Grammar.{is_program}
use Rattle.sg_ast.specs.Items.{kinds, items_of}
use Rattle.sg_explain.specs.Parts.{added_if}

-- whether tokens begin with the word `kernel`
abbrev pub begins_kernel : List Token → Bool
begins_kernel (t.Word w.Kernel ∷ tokens) = true
begins_kernel _ = false

-- the items that begin with it, in order
abbrev pub kernel_items : List (List Spanned) → List (List Spanned)
kernel_items [] = []
kernel_items (tokens ∷ items) = added_if (begins_kernel (kinds tokens)) tokens (kernel_items items)

-- the kernels that items declare, in order
abbrev pub kernel_decls : List Item → List KernelDecl
kernel_decls [] = []
kernel_decls (item.Kernel decl ∷ items) = decl ∷ kernel_decls items
kernel_decls (item.Const decl ∷ items) = kernel_decls items
kernel_decls (item.Layout decl ∷ items) = kernel_decls items
kernel_decls (item.Command command ∷ items) = kernel_decls items

-- The items that begin with `kernel` have the tokens of the kernels of the program that the tokens spell, in order.
abbrev pub KernelItemsAreKernels : Type 0
KernelItemsAreKernels = (tokens : List Spanned) (program : Program) → IsTrue (is_program program) → program_tokens program ≡ kinds tokens
    → map kinds (kernel_items (items_of tokens)) ≡ map kernel_tokens (kernel_decls program.items)
