-- What others lack of links, in one pass over both.
use Rattle.std.specs.Prelude.{ℕ, Bool, true, false, nat_lt, cond, if◌then◌else◌, List, [], ◌∷◌}
use Rattle.sg_store.specs.declared.links.LinkAt.{LinkAt}
use Rattle.sg_journal.specs.declared.lines.Line.{Line}
use Rattle.sg_journal.specs.Changes.{same_link, take_line, free_line}

-- the line of a link that was taken or freed
abbrev pub line_for : Bool → (layout node : ℕ) → LinkAt → Line
line_for true layout node = take_line layout node
line_for false layout node = free_line layout node

-- the links from the first on whose number is at least this one
abbrev pub drop_below : ℕ → List LinkAt → List LinkAt
drop_below number [] = []
drop_below number (link ∷ links) = if nat_lt link.number number then drop_below number links else link ∷ links

-- the first is that link
abbrev pub begins_with : List LinkAt → LinkAt → Bool
begins_with [] link = false
begins_with (first ∷ links) link = same_link link first

-- a text, unless a test holds
abbrev pub text_if : Bool → List ℕ → List ℕ
text_if b text = cond b [] text
