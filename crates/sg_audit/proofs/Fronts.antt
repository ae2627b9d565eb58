-- The whole lines at the front of the text of lines are the first of them.
use Rattle.std.proofs.Common.{◌≡◌, ◌⊎◌, inl, inr, ℕ, suc, ◌==◌, Bool, true, false, not, cond, List, [], ◌∷◌, ◌++◌, take, refl, sym, ap, ◌∙◌, append_assoc}
use Rattle.std.specs.Prelude.{All}
use Rattle.std.specs.List.{list_all}
use Rattle.std.proofs.lemmas.Bool.{and_parts, and_from, cond-false, not-true}
use Rattle.std.proofs.lemmas.List.Elements.{All-head, All-tail, All-take}
use Rattle.sg_journal.specs.declared.lines.Line.{Line}
use Rattle.sg_journal.specs.Lines.{line_text, lines_text, end_line, journal_text, IsInRange}
use Rattle.sg_journal.specs.LineLaws.{SoundHoldsOnce}
use Rattle.sg_audit.specs.Auditing.{audited_in}
use Rattle.sg_audit.specs.WholeLines.{before_whole, whole_lines, FrontsAreSound}
use Rattle.sg_audit.specs.steps.Finding.{is_in_line}
use Rattle.sg_audit.proofs.Texts.{line_body}
use Rattle.sg_audit.proofs.Verdicts.{yes_is_sound}

-- ---- whole lines

-- without a newline there is none
no_line : (bytes : List ℕ) → list_all is_in_line bytes ≡ true → whole_lines bytes ≡ []
no_line [] all = refl
no_line (b ∷ bytes) all =
    let parts = and_parts (is_in_line b) (list_all is_in_line bytes) all in
    ap (before_whole b) (no_line bytes parts.1) ∙ cond-false (b == 10) (b ∷ []) [] (not-true (b == 10) parts.0)

newline_kept : (whole : List ℕ) → before_whole 10 whole ≡ 10 ∷ whole
newline_kept [] = refl
newline_kept (next ∷ later) = refl

byte_kept : (b : ℕ) (body whole : List ℕ) → before_whole b (body ++ 10 ∷ whole) ≡ b ∷ (body ++ 10 ∷ whole)
byte_kept b [] whole = refl
byte_kept b (next ∷ later) whole = refl

-- a line goes before the others
line_before : (body more : List ℕ) → whole_lines (body ++ 10 ∷ more) ≡ body ++ 10 ∷ whole_lines more
line_before [] more = newline_kept (whole_lines more)
line_before (b ∷ body) more = ap (before_whole b) (line_before body more) ∙ byte_kept b body (whole_lines more)

-- ---- a front ends in the first line, or behind it

record IsPast (body rest front back : List ℕ) : Type 0 where
  left : List ℕ
  front_is : front ≡ body ++ 10 ∷ left
  rest_is : rest ≡ left ++ back

cut_body : (body rest front back : List ℕ) → list_all is_in_line body ≡ true → body ++ 10 ∷ rest ≡ front ++ back → (list_all is_in_line front ≡ true) ⊎ IsPast body rest front back
cut_body body rest [] back all e = inl refl
cut_body [] rest (f ∷ front) back all e =
    let first : 10 ≡ f = cc in
    let later : rest ≡ front ++ back = cc in
    inr (record { left = front; front_is = ap (λ (b : ℕ). b ∷ front) (sym first); rest_is = later })
cut_body (b ∷ body) rest (f ∷ front) back all e =
    let first : b ≡ f = cc in
    let later : body ++ 10 ∷ rest ≡ front ++ back = cc in
    let parts = and_parts (is_in_line b) (list_all is_in_line body) all in
    elim (cut_body body rest front back parts.1 later) [
      | inl within ↦ inl (and_from (is_in_line f) (list_all is_in_line front) (ap is_in_line (sym first) ∙ parts.0) within)
      | inr past ↦ inr (record {
        left = past.left;
        front_is = ap (λ (c : ℕ). c ∷ front) (sym first) ∙ ap (λ (list : List ℕ). b ∷ list) past.front_is;
        rest_is = past.rest_is;
      })
    ]

-- ---- the front of lines

front_lines : (lines : List Line) (front back : List ℕ) → All IsInRange lines → lines_text lines ≡ front ++ back → (k : ℕ) × (whole_lines front ≡ lines_text (take k lines))
front_lines [] [] back all e = (0, refl)
front_lines [] (f ∷ front) back all e = absurd (cc)
front_lines (line ∷ lines) front back all e =
    let own = line_body line (All-head IsInRange line lines all) in
    let whole : own.body ++ 10 ∷ lines_text lines ≡ front ++ back =
    sym (append_assoc own.body (10 ∷ []) (lines_text lines)) ∙ ap (λ (text : List ℕ). text ++ lines_text lines) (sym own.text) ∙ e in
    elim (cut_body own.body (lines_text lines) front back own.in_line whole) [
      | inl within ↦ (0, no_line front within)
      | inr past ↦
          let rest = front_lines lines past.left back (All-tail IsInRange line lines all) past.rest_is in (
            suc rest.0,
            ap whole_lines past.front_is ∙ line_before own.body past.left ∙ ap (λ (text : List ℕ). own.body ++ 10 ∷ text) rest.1
                ∙ sym (append_assoc own.body (10 ∷ []) (lines_text (take rest.0 lines))) ∙ ap (λ (text : List ℕ). text ++ lines_text (take rest.0 lines)) (sym own.text),
          )
    ]

pub fronts_are_sound : SoundHoldsOnce → FrontsAreSound
fronts_are_sound once rooms lines held front back sound e =
    let cut = front_lines lines front back sound.in_range e in
    let at = once rooms lines held sound.sound cut.0 in
    ap (λ (text : List ℕ). audited_in rooms (text ++ end_line)) cut.1
    ∙ (yes_is_sound rooms (journal_text (take cut.0 lines))).1
    (record { lines = take cut.0 lines; held = at.0; sound = record { in_range = All-take IsInRange cut.0 lines sound.in_range; sound = at.1 }; text = refl })
