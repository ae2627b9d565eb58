-- The text of a journal: its lines, and `end`.
use Rattle.std.specs.Prelude.{◌≡◌, ℕ, ◌<◌, ◌^◌, List, [], ◌∷◌, ◌++◌, codes, refl}
use Rattle.std.specs.List.{flat_map}
use Rattle.std.specs.Fmt.{decimal, digits}
use Rattle.sg_journal.specs.declared.lines.Link.{Link}
use Rattle.sg_journal.specs.declared.lines.Line.{Line}
use Rattle.sg_journal.specs.declared.lines.Line.TheVariants.{Take, Free}

-- a number of a line, with a space before it
abbrev pub behind_space : ℕ → List ℕ
behind_space number = 32 ∷ decimal number

-- a line: a number has come to stand in a slot, or stands in none any more
abbrev pub line_text : Line → List ℕ
line_text (Take link) =
    codes "take" ++ behind_space link.layout ++ behind_space link.node ++ behind_space link.number ++ behind_space link.parent ++ behind_space link.slot ++ 10 ∷ []
line_text (Free layout node number) = codes "free" ++ behind_space layout ++ behind_space node ++ behind_space number ++ 10 ∷ []

abbrev pub lines_text : List Line → List ℕ
lines_text lines = flat_map line_text lines

-- the last line of a journal
abbrev pub end_line : List ℕ
end_line = codes "end" ++ 10 ∷ []

-- a whole journal
abbrev pub journal_text : List Line → List ℕ
journal_text lines = lines_text lines ++ end_line

-- the numbers of a line are below 2 ^ 32
abbrev pub IsInRange : Line → Type 0
IsInRange (Take link) = (link.layout < 2 ^ 32) × (link.node < 2 ^ 32) × (link.number < 2 ^ 32) × (link.parent < 2 ^ 32) × (link.slot < 2 ^ 32)
IsInRange (Free layout node number) = (layout < 2 ^ 32) × (node < 2 ^ 32) × (number < 2 ^ 32)

-- ---- examples
abbrev pub link : ℕ → ℕ → ℕ → ℕ → ℕ → Link
link layout node number parent slot = record { layout = layout; node = node; number = number; parent = parent; slot = slot }

taken_line : line_text (Take (link 0 1 13 0 2)) ≡ codes "take 0 1 13 0 2\n"
unfolding digits
taken_line = refl

freed_line : line_text (Free 10 2 0) ≡ codes "free 10 2 0\n"
unfolding digits
freed_line = refl

two_lines : journal_text (Take (link 0 1 3 0 0) ∷ (Free 0 1 3 ∷ [])) ≡ codes "take 0 1 3 0 0\nfree 0 1 3\nend\n"
unfolding digits
two_lines = refl
