-- The audit of a journal: its file, and the line of a verdict.
use Rattle.std.specs.Prelude.{◌≡◌, refl, ℕ, ◌^◌, List, [], ◌∷◌, ◌++◌, codes}
use Rattle.std.specs.Fmt.{decimal, digits}
use Rattle.sg_audit.specs.declared.verdict.Verdict.{Verdict}
use Rattle.sg_audit.specs.declared.verdict.Verdict.TheVariants.{Yes, No}
use Rattle.sg_session.specs.Bindings.{Binding}

-- the most bytes that a journal may have
abbrev pub most_journal_bytes : ℕ
most_journal_bytes = 2 ^ 24

-- the file that the first name is bound to
abbrev pub journal_file : List Binding → List ℕ
journal_file [] = []
journal_file (binding ∷ bindings) = binding.file

-- the line that says a verdict
abbrev pub verdict_text : Verdict → List ℕ
verdict_text Yes = codes "yes" ++ 10 ∷ []
verdict_text (No line) = codes "no line " ++ (decimal line ++ 10 ∷ [])

-- ---- examples

a_yes : verdict_text Yes ≡ codes "yes\n"
a_yes = refl

a_no : verdict_text (No 12) ≡ codes "no line 12\n"
unfolding digits
a_no = refl
