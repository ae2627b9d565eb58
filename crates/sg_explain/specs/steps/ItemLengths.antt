-- How long the first item of a list is.
use Rattle.std.specs.Prelude.{ℕ, suc, if◌then◌else◌, List, [], ◌∷◌}
use Rattle.sg_ast.specs.declared.token.Token.{Token}
use Rattle.sg_ast.specs.Items.{ends_item, open_after}

-- how many come up to the first end of an item, it counted, where so many braces are open at the front
abbrev pub item_length : {A : Type 0} → (A → Token) → ℕ → List A → ℕ
item_length token braces [] = 0
item_length token braces (x ∷ xs) = if ends_item braces (token x) then 1 else suc (item_length token (open_after braces (token x)) xs)
