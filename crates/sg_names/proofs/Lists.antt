-- Tests over lists: over lists of lists, and while a list is gone through.
use Rattle.std.specs.Prelude.{◌≡◌, refl, Bool, true, false, ◌||◌, List, [], ◌∷◌, map}
use Rattle.std.proofs.Common.{sym, ap, ◌∙◌}
use Rattle.std.specs.List.{list_any, flat_map}
use Rattle.std.proofs.lemmas.List.Folds.{list_any-append}
use Rattle.sg_ast.specs.declared.token.Name.{Name}
use Rattle.sg_ast.specs.Stmt.{joined_lists}

-- an element of a list of lists passes where one of a list in it does
pub list_any-joined : {X : Type 0} (test : Name → Bool) (f : X → List Name) (xs : List X) → list_any test (joined_lists (map f xs)) ≡ list_any (λ x. list_any test (f x)) xs
list_any-joined test f [] = refl
list_any-joined test f (x ∷ xs) = list_any-append test (f x) (joined_lists (map f xs)) ∙ ap (λ more. list_any test (f x) || more) (list_any-joined test f xs)

pub list_any-flat_map : {X : Type 0} (test : Name → Bool) (f : X → List Name) (xs : List X) → list_any test (flat_map f xs) ≡ list_any (λ x. list_any test (f x)) xs
list_any-flat_map test f [] = refl
list_any-flat_map test f (x ∷ xs) = list_any-append test (f x) (flat_map f xs) ∙ ap (λ more. list_any test (f x) || more) (list_any-flat_map test f xs)

-- a test that `||` makes of two, where the first one settles it, and where the second does
pub or_first : (a b whole r : Bool) → whole ≡ (a || b) → r ≡ a → r ≡ true → r ≡ whole
or_first a b whole r is first passes = passes ∙ (ap (λ t. t || b) (sym passes ∙ first) ∙ sym is)

pub or_second : (a b whole r q : Bool) → whole ≡ (a || b) → q ≡ a → q ≡ false → r ≡ b → r ≡ whole
or_second a b whole r q is first not_first second = second ∙ (ap (λ t. t || b) (sym not_first ∙ first) ∙ sym is)
