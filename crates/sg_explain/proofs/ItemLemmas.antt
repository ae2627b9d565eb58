-- The items that begin with `kernel` are the kernels.
use Rattle.std.specs.Prelude.{◌≡◌, refl, ℕ, Bool, true, false, List, [], ◌∷◌, map}
use Rattle.std.proofs.Common.{◌∙◌, ap, sym}
use Rattle.sg_ast.specs.declared.token.Token.{Token}
use Rattle.sg_ast.specs.declared.token.Spanned.{Spanned}
use Rattle.sg_ast.specs.declared.command.Command.{Command}
use Rattle.sg_ast.specs.declared.program.Item.{Item}
use Rattle.sg_ast.specs.declared.program.Item.TheVariants as item
use Rattle.sg_ast.specs.Kernel.{kernel_tokens}
use Rattle.sg_ast.specs.Command.{command_tokens}
use Rattle.sg_ast.specs.Program.{item_tokens}
use Rattle.sg_ast.specs.Items.{kinds, items_of, item_cuts, cut_by, in_front, ends_item, open_after}
use Rattle.sg_ast.proofs.Uses.{by_command_variant, command_tokens-Load, command_tokens-Run, command_tokens-Times, command_tokens-Dump, command_tokens-Image, command_tokens-Stats, command_tokens-Prune, command_tokens-Clear}
use Rattle.sg_ast.specs.Laws.{CutGivesItems}
use Rattle.sg_explain.specs.Parts.{added_if}
use Rattle.sg_explain.specs.KernelItems.{begins_kernel, kernel_items, kernel_decls, KernelItemsAreKernels}

abbrev token_of : Spanned → Token
token_of spanned = spanned.token

-- cutting and leaving places away, in either order
kinds_in_front : (ends : Bool) (x : Spanned) (items : List (List Spanned)) → map kinds (in_front ends x items) ≡ in_front ends x.token (map kinds items)
kinds_in_front true x items = refl
kinds_in_front false x [] = refl
kinds_in_front false x (given ∷ items) = refl

kinds_cut : (braces : ℕ) (xs : List Spanned) → map kinds (cut_by token_of braces xs) ≡ cut_by (λ token. token) braces (kinds xs)
kinds_cut braces [] = refl
kinds_cut braces (x ∷ xs) =
    kinds_in_front (ends_item braces x.token) x (cut_by token_of (open_after braces x.token) xs)
    ∙ ap (in_front (ends_item braces x.token) x.token) (kinds_cut (open_after braces x.token) xs)

-- the token lists that begin with `kernel`
abbrev chosen : List (List Token) → List (List Token)
chosen [] = []
chosen (tokens ∷ items) = added_if (begins_kernel tokens) tokens (chosen items)

pub kinds_added : (test : Bool) (tokens : List Spanned) (items : List (List Spanned)) → map kinds (added_if test tokens items) ≡ added_if test (kinds tokens) (map kinds items)
kinds_added true tokens items = refl
kinds_added false tokens items = refl

kinds_chosen : (items : List (List Spanned)) → map kinds (kernel_items items) ≡ chosen (map kinds items)
kinds_chosen [] = refl
kinds_chosen (tokens ∷ items) = kinds_added (begins_kernel (kinds tokens)) tokens (kernel_items items)
    ∙ ap (added_if (begins_kernel (kinds tokens)) (kinds tokens)) (kinds_chosen items)

no_kernel : (given : Command) → begins_kernel (command_tokens given) ≡ false
no_kernel = by_command_variant (λ given. begins_kernel (command_tokens given) ≡ false)
    (λ field. rw (command_tokens-Load field) refl)
    (λ kernel. rw (command_tokens-Run kernel) refl)
    (λ number body. rw (command_tokens-Times number body) refl)
    (λ field. rw (command_tokens-Dump field) refl)
    (λ field lo hi. rw (command_tokens-Image field lo hi) refl)
    (λ layout. rw (command_tokens-Stats layout) refl)
    (λ layout. rw (command_tokens-Prune layout) refl)
    (λ layout. rw (command_tokens-Clear layout) refl)

chosen_items : (items : List Item) → chosen (map item_tokens items) ≡ map kernel_tokens (kernel_decls items)
chosen_items [] = refl
chosen_items (item.Const decl ∷ items) = chosen_items items
chosen_items (item.Layout layout ∷ items) = chosen_items items
chosen_items (item.Kernel decl ∷ items) = ap (λ more. kernel_tokens decl ∷ more) (chosen_items items)
chosen_items (item.Command given ∷ items) = rw (no_kernel given) (chosen_items items)

pub kernel_items-are : CutGivesItems → KernelItemsAreKernels
kernel_items-are cuts tokens program good spelled =
    kinds_chosen (items_of tokens)
    ∙ ap chosen (kinds_cut 0 tokens ∙ ap item_cuts (sym spelled) ∙ (cuts program good).0)
    ∙ chosen_items program.items
