-- Where in a file a statement of a kernel is.
use Rattle.std.specs.Prelude.{ℕ, if◌then◌else◌, List, [], ◌∷◌, Option, Some, None, option_and_then, slice_get}
use Rattle.sg_ast.specs.declared.token.Spanned.{Spanned}
use Rattle.sg_ast.specs.Items.{items_of}
use Rattle.sg_explain.specs.declared.place.Place.{Place}
use Rattle.sg_explain.specs.Parts.{ends_part, item_parts}
use Rattle.sg_explain.specs.KernelItems.{kernel_items}

-- where the head of a part ends: behind the last token before its first `{`, `;` or `}`; the number is where the token before these ends
abbrev pub head_end : ℕ → List Spanned → ℕ
head_end end [] = end
head_end end (spanned ∷ more) = if ends_part spanned.token then end else head_end spanned.end more

-- the bytes of the head of a part
abbrev pub head_place : List Spanned → Option Place
head_place [] = None
head_place (spanned ∷ more) = Some (record { from = spanned.start; to = head_end spanned.end more })

-- the part of a number, from its first token on, of the item
abbrev pub part_at : ℕ → List Spanned → Option (List Spanned)
part_at number item = slice_get (item_parts item) number

-- the part of a number of the kernel of a number, both from 0: its loop is part 0, and its n-th statement is part n
abbrev pub kernel_part : List Spanned → ℕ → ℕ → Option (List Spanned)
kernel_part tokens kernel number = option_and_then (part_at number) (slice_get (kernel_items (items_of tokens)) kernel)

-- the bytes of its head
abbrev pub statement_place : List Spanned → ℕ → ℕ → Option Place
statement_place tokens kernel number = option_and_then head_place (kernel_part tokens kernel number)
