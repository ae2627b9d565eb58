-- The parts of an item, by its tokens alone. A part begins behind a `{`, a `;` or a `}`, and neither with a `}` nor with `else`.
-- In a kernel part 0 is its loop and part n its n-th statement; in a layout the nodes come first, and then the fields.
use Rattle.std.specs.Prelude.{◌≡◌, refl, ℕ, Bool, true, false, ◌&&◌, List, [], ◌∷◌, ◌++◌, map, length, codes}
use Rattle.sg_ast.specs.declared.token.Word.TheVariants as w
use Rattle.sg_ast.specs.declared.token.Sign.TheVariants as s
use Rattle.sg_ast.specs.declared.token.Token.{Token}
use Rattle.sg_ast.specs.declared.token.Token.TheVariants as t
use Rattle.sg_ast.specs.declared.token.Spanned.{Spanned}

-- whether a part may begin behind a token
abbrev pub ends_part : Token → Bool
ends_part (t.Sign s.OpenBrace) = true
ends_part (t.Sign s.CloseBrace) = true
ends_part (t.Sign s.Semicolon) = true
ends_part _ = false

-- whether a part begins with a token, where one may begin
abbrev pub begins_part : Token → Bool
begins_part (t.Sign s.CloseBrace) = false
begins_part (t.Word w.Else) = false
begins_part _ = true

-- a list with one more in front where the test holds
abbrev pub added_if : {A : Type 0} → Bool → A → List A → List A
added_if true x xs = x ∷ xs
added_if false x xs = xs

-- A list of what has a token each, from the begin of each part on, in order; the test says whether a part may begin at the front.
abbrev pub parts_by : {A : Type 0} → (A → Token) → Bool → List A → List (List A)
parts_by token fresh [] = []
parts_by token fresh (x ∷ xs) = added_if (fresh && begins_part (token x)) (x ∷ xs) (parts_by token (ends_part (token x)) xs)

-- the parts of tokens without places
abbrev pub parts_from : Bool → List Token → List (List Token)
parts_from = parts_by (λ token. token)

-- those of an item: its first token begins none
abbrev pub parts_of : List Token → List (List Token)
parts_of = parts_from false

-- the parts of an item with its places
abbrev pub item_parts : List Spanned → List (List Spanned)
item_parts = parts_by (λ spanned. spanned.token) false

-- ---- worked equation: the begins of the parts of `kernel k { for i in A { if i { a = 1; } else { a = 2; } a = 3; } }`, by what is left
abbrev named : List ℕ → Token
named text = t.Name (record { text = text })

abbrev assigned : ℕ → List Token
assigned value = named (codes "a") ∷ t.Sign s.Equal ∷ t.Number value false ∷ t.Sign s.Semicolon ∷ []

abbrev braced : List Token → List Token
braced tokens = t.Sign s.OpenBrace ∷ tokens ++ t.Sign s.CloseBrace ∷ []

abbrev example : List Token
example = t.Word w.Kernel ∷ named (codes "k") ∷ braced (t.Word w.For ∷ named (codes "i") ∷ t.Word w.In ∷ named (codes "A") ∷ braced
    (t.Word w.If ∷ named (codes "i") ∷ braced (assigned 1) ++ t.Word w.Else ∷ braced (assigned 2) ++ assigned 3))

parts-example : map length (parts_of example) ≡ 26 ∷ 21 ∷ 18 ∷ 11 ∷ 6 ∷ []
parts-example = refl
