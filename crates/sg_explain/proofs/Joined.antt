-- The items of a file, one after the other, are its tokens.
use Rattle.std.specs.Prelude.{◌≡◌, refl, ℕ, Bool, true, false, List, [], ◌∷◌, ◌++◌}
use Rattle.std.proofs.Common.{◌∙◌, ap, sym}
use Rattle.std.proofs.lemmas.List.{append_assoc}
use Rattle.sg_ast.specs.declared.token.Token.{Token}
use Rattle.sg_ast.specs.declared.token.Spanned.{Spanned}
use Rattle.sg_ast.specs.Stmt.{joined_lists}
use Rattle.sg_ast.specs.Items.{items_of, cut_by, in_front, ends_item, open_after}

abbrev token_of : Spanned → Token
token_of spanned = spanned.token

joined_in_front : (ends : Bool) (x : Spanned) (items : List (List Spanned)) → joined_lists (in_front ends x items) ≡ x ∷ joined_lists items
joined_in_front true x items = refl
joined_in_front false x [] = refl
joined_in_front false x (item ∷ items) = refl

joined_cut_by : (braces : ℕ) (xs : List Spanned) → joined_lists (cut_by token_of braces xs) ≡ xs
joined_cut_by braces [] = refl
joined_cut_by braces (x ∷ xs) =
    joined_in_front (ends_item braces x.token) x (cut_by token_of (open_after braces x.token) xs)
    ∙ ap (λ more. x ∷ more) (joined_cut_by (open_after braces x.token) xs)

pub joined_items : (xs : List Spanned) → joined_lists (items_of xs) ≡ xs
joined_items xs = joined_cut_by 0 xs

pub joined_append : (before after : List (List Spanned)) → joined_lists (before ++ after) ≡ joined_lists before ++ joined_lists after
joined_append [] after = refl
joined_append (x ∷ before) after = ap (λ more. x ++ more) (joined_append before after) ∙ sym (append_assoc x (joined_lists before) (joined_lists after))
