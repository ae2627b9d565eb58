-- The part that is shown for a number has the tokens of the loop or of the statement of that number.
use Rattle.std.specs.Prelude.{◌≡◌, refl, ℕ, zero, suc, List, [], ◌∷◌, ◌++◌, Option, Some, None, option_map, slice_get}
use Rattle.std.proofs.Common.{◌∙◌, ap, sym}
use Rattle.std.proofs.lemmas.List.{append-nil}
use Rattle.std.proofs.lemmas.Option.{slice_get-map, same_Some}
use Rattle.sg_ast.specs.declared.token.Token.{Token}
use Rattle.sg_ast.specs.declared.stmt.Stmt.{Stmt}
use Rattle.sg_ast.specs.declared.kernel.KernelDecl.{KernelDecl}
use Rattle.sg_ast.specs.Stmt.{stmt_tokens}
use Rattle.sg_ast.specs.Kernel.{kernel_tokens}
use Rattle.sg_ast.specs.Items.{kinds, items_of}
use Rattle.sg_explain.specs.Parts.{parts_of}
use Rattle.sg_explain.specs.Statements.{statements_of}
use Rattle.sg_explain.specs.KernelParts.{Begin, loop_tokens, part_tokens, PartsAreStatements}
use Rattle.sg_explain.specs.KernelItems.{kernel_items, kernel_decls, KernelItemsAreKernels}
use Rattle.sg_explain.specs.Shown.{ShownIsStatement}

pub mapped_some : {A B : Type 0} (f : A → B) (given : Option A) (y : B) → option_map f given ≡ Some y → (x : A) × (given ≡ Some x) × (f x ≡ y)
mapped_some f None y h = let no_such : None ≡ Some y = h in absurd (cc)
mapped_some f (Some x) y h = (x, refl, same_Some (f x) y h)

part_of : (statements : List Stmt) (parts : List (List Token)) → Begin statements parts → (n : ℕ) (statement : Stmt) → slice_get statements n ≡ Some statement
    → (rest : List Token) × (slice_get parts n ≡ Some (stmt_tokens statement ++ rest))
part_of [] [] b n statement h = let no_such : ◌≡◌ {A = Option Stmt} None (Some statement) = h in absurd (cc)
part_of [] (part ∷ parts) b n statement h = absurd b
part_of (first ∷ more) [] b n statement h = absurd b
part_of (first ∷ more) (part ∷ parts) b zero statement h =
    (b.0.0, ap Some (b.0.1 ∙ ap (λ given. stmt_tokens given ++ b.0.0) (same_Some first statement h)))
part_of (first ∷ more) (part ∷ parts) b (suc n) statement h = part_of more parts b.1 n statement h

parts_with : (decl : KernelDecl) (parts : List (List Token)) → Begin (statements_of decl.body) parts → (n : ℕ) (given : List Token) → slice_get (part_tokens decl) n ≡ Some given
    → (rest : List Token) × (slice_get (loop_tokens decl ∷ parts) n ≡ Some (given ++ rest))
parts_with decl parts b zero given h = ([], ap Some (same_Some (loop_tokens decl) given h ∙ sym (append-nil given)))
parts_with decl parts b (suc n) given h =
    let statement = mapped_some stmt_tokens (slice_get (statements_of decl.body) n) given (sym (slice_get-map stmt_tokens (statements_of decl.body) n) ∙ h) in
    let part = part_of (statements_of decl.body) parts b n statement.0 statement.1 in
    (part.0, part.1 ∙ ap (λ tokens. Some (tokens ++ part.0)) statement.2)

pub shown-is_statement : PartsAreStatements → KernelItemsAreKernels → ShownIsStatement
shown-is_statement parts_are items_are tokens program good spelled k n decl given is_decl is_given =
    let same = sym (slice_get-map kinds (kernel_items (items_of tokens)) k)
    ∙ ap (λ lists. slice_get lists k) (items_are tokens program good spelled)
    ∙ slice_get-map kernel_tokens (kernel_decls program.items) k
    ∙ ap (option_map kernel_tokens) is_decl in
    let found = mapped_some kinds (slice_get (kernel_items (items_of tokens)) k) (kernel_tokens decl) same in
    let parts = parts_are decl in
    let part = parts_with decl parts.0 parts.2 n given is_given in (
      found.0,
      found.1,
      part.0,
      ap (λ tokens. slice_get (parts_of tokens) n) found.2 ∙ ap (λ lists. slice_get lists n) parts.1 ∙ part.1,
    )
