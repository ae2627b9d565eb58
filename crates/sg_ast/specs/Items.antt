-- How a token list is cut into items, by its braces and semicolons alone, whatever the items spell.
use Rattle.std.specs.Prelude.{◌≡◌, refl, ℕ, ◌+◌, ◌-◌, Bool, true, false, not, ◌==◌, nat_le, List, [], ◌∷◌, map}
use Rattle.sg_ast.specs.declared.token.Word.TheVariants as w
use Rattle.sg_ast.specs.declared.token.Sign.TheVariants as s
use Rattle.sg_ast.specs.declared.token.Token.{Token}
use Rattle.sg_ast.specs.declared.token.Token.TheVariants as t
use Rattle.sg_ast.specs.declared.token.Spanned.{Spanned}

-- whether a token ends an item, where so many braces are open: a `;` outside all braces,
-- a `}` that closes the last open brace, or a `}` if no brace is open
abbrev pub ends_item : ℕ → Token → Bool
ends_item braces (t.Sign s.Semicolon) = braces == 0
ends_item braces (t.Sign s.CloseBrace) = nat_le braces 1
ends_item braces _ = false

-- how many braces are open after a token
abbrev pub open_after : ℕ → Token → ℕ
open_after braces (t.Sign s.OpenBrace) = braces + 1
open_after braces (t.Sign s.CloseBrace) = braces - 1
open_after braces _ = braces

-- one more at the front of some items: an item of its own where an item ends with it, else the first of the item that follows
abbrev pub in_front : {A : Type 0} → Bool → A → List (List A) → List (List A)
in_front true x items = (x ∷ []) ∷ items
in_front false x [] = (x ∷ []) ∷ []
in_front false x (item ∷ items) = (x ∷ item) ∷ items

-- a list of what has a token each, cut after each end of an item, where so many braces are open at the front
abbrev pub cut_by : {A : Type 0} → (A → Token) → ℕ → List A → List (List A)
cut_by token braces [] = []
cut_by token braces (x ∷ xs) = in_front (ends_item braces (token x)) x (cut_by token (open_after braces (token x)) xs)

-- The items of a token list, in order. Tokens left at the end are one more.
abbrev pub item_cuts : List Token → List (List Token)
item_cuts = cut_by (λ token. token) 0

-- tokens without their places
abbrev pub kinds : List Spanned → List Token
kinds tokens = map (λ spanned. spanned.token) tokens

-- the items of the tokens of a file
abbrev pub items_of : List Spanned → List (List Spanned)
items_of = cut_by (λ spanned. spanned.token) 0

-- the line of the first token of an item
abbrev pub first_line : List Spanned → ℕ
first_line [] = 0
first_line (spanned ∷ more) = spanned.line

-- the lines of the items of a file
abbrev pub item_lines : List Spanned → List ℕ
item_lines tokens = map first_line (items_of tokens)

-- whether tokens are left after the last end of an item, where so many braces are open at the front;
-- the first argument says whether some of the item went before
abbrev pub are_left_from : Bool → ℕ → List Token → Bool
are_left_from left braces [] = left
are_left_from left braces (token ∷ tokens) = are_left_from (not (ends_item braces token)) (open_after braces token) tokens

-- whether the last item has no end
abbrev pub are_left : List Token → Bool
are_left = are_left_from false 0

-- worked equations
abbrev semicolon : Token
semicolon = t.Sign s.Semicolon

abbrev opening : Token
opening = t.Sign s.OpenBrace

abbrev closing : Token
closing = t.Sign s.CloseBrace

abbrev word : Token
word = t.Word w.Run

none-cut : item_cuts [] ≡ []
none-cut = refl

two_commands-cut : item_cuts (word ∷ semicolon ∷ word ∷ semicolon ∷ []) ≡ (word ∷ semicolon ∷ []) ∷ (word ∷ semicolon ∷ []) ∷ []
two_commands-cut = refl

braces-cut : item_cuts (word ∷ opening ∷ semicolon ∷ opening ∷ closing ∷ closing ∷ word ∷ semicolon ∷ [])
    ≡ (word ∷ opening ∷ semicolon ∷ opening ∷ closing ∷ closing ∷ []) ∷ (word ∷ semicolon ∷ []) ∷ []
braces-cut = refl

stray_brace-cut : item_cuts (word ∷ closing ∷ closing ∷ word ∷ []) ≡ (word ∷ closing ∷ []) ∷ (closing ∷ []) ∷ (word ∷ []) ∷ []
stray_brace-cut = refl

left_at_end : are_left (word ∷ semicolon ∷ word ∷ opening ∷ semicolon ∷ []) ≡ true
left_at_end = refl

none_left : are_left (word ∷ semicolon ∷ word ∷ opening ∷ closing ∷ []) ≡ false
none_left = refl

two-lines : item_lines (
    record { token = word; start = 0; end = 3; line = 1 } ∷ record { token = semicolon; start = 4; end = 5; line = 2 }
    ∷ record { token = word; start = 6; end = 9; line = 2 } ∷ record { token = semicolon; start = 9; end = 10; line = 3 } ∷ [])
    ≡ 1 ∷ 2 ∷ []
two-lines = refl
