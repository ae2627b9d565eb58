-- What a verdict means: Yes is a journal of sound lines, and the line of a No is the first that isn't.
use Rattle.std.proofs.Common.{◌≡◌, ◌≢◌, ◌⊎◌, inl, inr, ℕ, suc, ◌+◌, List, [], ◌∷◌, ◌++◌, length, map, Option, Some, None, refl, sym, ap, ◌∙◌, arith, append_assoc, append-nil}
use Rattle.std.specs.Prelude.{All, option_and_then}
use Rattle.std.proofs.lemmas.Option.{option_and_then_some}
use Rattle.std.proofs.lemmas.List.Elements.{All-nil, All-cons, All-head, All-tail}
use Rattle.sg_journal.specs.declared.lines.Link.{Link}
use Rattle.sg_journal.specs.declared.lines.Line.{Line}
use Rattle.sg_journal.specs.Journal.{Rooms, follow, held_after}
use Rattle.sg_journal.specs.Lines.{line_text, lines_text, end_line, journal_text, IsInRange}
use Rattle.sg_journal.specs.LineLaws.{SoundHoldsOnce}
use Rattle.sg_audit.specs.declared.reading.Entry.{Entry}
use Rattle.sg_audit.specs.declared.reading.Entry.TheVariants.{Written, End, Bad}
use Rattle.sg_audit.specs.declared.verdict.Verdict.{Verdict}
use Rattle.sg_audit.specs.declared.verdict.Verdict.TheVariants.{Yes, No}
use Rattle.sg_audit.specs.Reading.{texts_of, entry_of, entries_of}
use Rattle.sg_audit.specs.Auditing.{if_sound, verdict_from, audited_in}
use Rattle.sg_audit.specs.AuditLaws.{IsSoundJournal, YesIsSound, NoneFollows, NoIsFirst, YesHoldsOnce}
use Rattle.sg_audit.proofs.Lines.{entry_found, entry_written, end_found, end_written}
use Rattle.sg_audit.proofs.Texts.{IsCut, texts_none, texts_cut, line_first, end_first}

-- lines that are sound from what is held, with what is held behind them
record Sound (rooms : Rooms) (start : List Link) (lines : List Line) (last : List Link) : Type 0 where
  in_range : All IsInRange lines
  sound : held_after rooms start lines ≡ Some last

none_lines : (rooms : Rooms) (held : List Link) → Sound rooms held [] held
none_lines rooms held = record { in_range = All-nil IsInRange; sound = refl }

one_more : (rooms : Rooms) (start next last : List Link) (line : Line) (lines : List Line) → IsInRange line → follow rooms start line ≡ Some next → Sound rooms next lines last → Sound rooms start (line ∷ lines) last
one_more rooms start next last line lines small first rest = record {
  in_range = All-cons IsInRange line lines small rest.in_range;
  sound = ap (λ (o : Option (List Link)). option_and_then (λ (n : List Link). held_after rooms n lines) o) first ∙ rest.sound;
}

-- ---- a journal of sound lines has the verdict Yes

yes_lines : (rooms : Rooms) (number : ℕ) (start last : List Link) (lines : List Line) → Sound rooms start lines last → verdict_from rooms number start (entries_of (journal_text lines)) ≡ Yes
yes_lines rooms number start last [] sound = ap (λ (e : Entry). verdict_from rooms number start (e ∷ [])) end_written
yes_lines rooms number start last (line ∷ lines) sound =
    option_and_then_some (λ (n : List Link). held_after rooms n lines) (follow rooms start line) last sound.sound (λ next first rest.
    let small : IsInRange line = All-head IsInRange line lines sound.in_range in
    let more : All IsInRange lines = All-tail IsInRange line lines sound.in_range in
    let whole : journal_text (line ∷ lines) ≡ line_text line ++ journal_text lines = append_assoc (line_text line) (lines_text lines) end_line in
    ap (λ (b : List ℕ). verdict_from rooms number start (entries_of b)) whole
    ∙ ap (λ (t : List (List ℕ)). verdict_from rooms number start (map entry_of t)) (line_first line (journal_text lines) small)
    ∙ ap (λ (e : Entry). verdict_from rooms number start (e ∷ entries_of (journal_text lines))) (entry_written line small)
    ∙ ap (λ (o : Option (List Link)). if_sound o (λ (n : List Link). verdict_from rooms (suc number) n (entries_of (journal_text lines))) (No number)) first
    ∙ yes_lines rooms (suc number) next last lines (record { in_range = more; sound = rest }))

-- ---- the lines before a verdict

-- sound lines, and what stands behind them
record Behind (rooms : Rooms) (number : ℕ) (start : List Link) (bytes : List ℕ) (verdict : Verdict) : Type 0 where
  lines : List Line
  last : List Link
  rest : List ℕ
  sound : Sound rooms start lines last
  text : bytes ≡ lines_text lines ++ rest
  case :
      ((verdict ≡ Yes) × (rest ≡ end_line))
      ⊎ (((verdict ≡ No (number + length lines)) × NoneFollows rooms last rest)
      ⊎ ((more : List ℕ) × (verdict ≡ No (suc (number + length lines))) × (rest ≡ end_line ++ more) × (more ≢ [])))

-- the text with which bytes begin that are a line and more
first_is : (bytes text : List ℕ) (later : List (List ℕ)) (line : Line) (more : List ℕ) → texts_of bytes ≡ text ∷ later → IsInRange line → bytes ≡ line_text line ++ more → text ≡ line_text line
first_is bytes text later line more texts small is =
    let both : text ∷ later ≡ line_text line ∷ texts_of more = sym texts ∙ ap texts_of is ∙ line_first line more small in
    cc

end_is : (bytes text : List ℕ) (later : List (List ℕ)) (more : List ℕ) → texts_of bytes ≡ text ∷ later → bytes ≡ end_line ++ more → text ≡ end_line
end_is bytes text later more texts is =
    let both : text ∷ later ≡ end_line ∷ texts_of more = sym texts ∙ ap texts_of is ∙ end_first more in
    cc

-- behind lines where there are no bytes, a bad line, or one that isn't sound
none_at_end : (rooms : Rooms) (held : List Link) (bytes : List ℕ) → texts_of bytes ≡ [] → NoneFollows rooms held bytes
none_at_end rooms held bytes none = record {
  line = λ line more small is. let two : [] ≡ line_text line ∷ texts_of more = sym none ∙ ap texts_of is ∙ line_first line more small in absurd (cc);
  end = λ more is. let two : [] ≡ end_line ∷ texts_of more = sym none ∙ ap texts_of is ∙ end_first more in absurd (cc);
}

none_at_bad : (rooms : Rooms) (held : List Link) (bytes text : List ℕ) (later : List (List ℕ)) → texts_of bytes ≡ text ∷ later → entry_of text ≡ Bad → NoneFollows rooms held bytes
none_at_bad rooms held bytes text later texts bad = record {
  line = λ line more small is. let two : Bad ≡ Written line = sym bad ∙ ap entry_of (first_is bytes text later line more texts small is) ∙ entry_written line small in absurd (cc);
  end = λ more is. let two : Bad ≡ End = sym bad ∙ ap entry_of (end_is bytes text later more texts is) ∙ end_written in absurd (cc);
}

none_at_unsound : (rooms : Rooms) (held : List Link) (bytes text : List ℕ) (later : List (List ℕ)) (written : Line) → texts_of bytes ≡ text ∷ later → entry_of text ≡ Written written → follow rooms held written ≡ None → NoneFollows rooms held bytes
none_at_unsound rooms held bytes text later written texts is refused = record {
  line = λ line more small whole.
      let two : Written written ≡ Written line = sym is ∙ ap entry_of (first_is bytes text later line more texts small whole) ∙ entry_written line small in
      let same : written ≡ line = cc in
      ap (follow rooms held) (sym same) ∙ refused;
  end = λ more whole. let two : Written written ≡ End = sym is ∙ ap entry_of (end_is bytes text later more texts whole) ∙ end_written in absurd (cc);
}

stops : (rooms : Rooms) (number : ℕ) (start : List Link) (bytes : List ℕ) (verdict : Verdict) → No number ≡ verdict → NoneFollows rooms start bytes → Behind rooms number start bytes verdict
stops rooms number start bytes verdict is none = record {
  lines = [];
  last = start;
  rest = bytes;
  sound = none_lines rooms start;
  text = refl;
  case = inr (inl (let same : number ≡ number + 0 = omega arith in (sym is ∙ ap No same, none)));
}

goes_on : (rooms : Rooms) (number : ℕ) (start next : List Link) (bytes rest : List ℕ) (line : Line) (verdict : Verdict) → IsInRange line → follow rooms start line ≡ Some next → bytes ≡ line_text line ++ rest
    → Behind rooms (suc number) next rest verdict → Behind rooms number start bytes verdict
goes_on rooms number start next bytes rest line verdict small first is behind = record {
  lines = line ∷ behind.lines;
  last = behind.last;
  rest = behind.rest;
  sound = one_more rooms start next behind.last line behind.lines small first behind.sound;
  text = is ∙ ap (λ (b : List ℕ). line_text line ++ b) behind.text ∙ sym (append_assoc (line_text line) (lines_text behind.lines) behind.rest);
  case = elim behind.case [
    | inl last ↦ inl last
    | inr other ↦ inr (elim other [
      | inl none ↦ inl (let same : suc number + length behind.lines ≡ number + suc (length behind.lines) = omega arith in (none.0 ∙ ap No same, none.1))
      | inr past ↦ inr (let same : suc (suc number + length behind.lines) ≡ suc (number + suc (length behind.lines)) = omega arith in (past.0, past.1 ∙ ap No same, past.2, past.3))
    ])
  ];
}

-- at the end line
ends : (rooms : Rooms) (number : ℕ) (start : List Link) (bytes text rest : List ℕ) (later : List (List ℕ)) (verdict : Verdict) → text ≡ end_line → bytes ≡ text ++ rest → texts_of rest ≡ later
    → verdict_from rooms number start (End ∷ map entry_of later) ≡ verdict → Behind rooms number start bytes verdict
ends rooms number start bytes text rest [] verdict end whole none e = record {
  lines = [];
  last = start;
  rest = bytes;
  sound = none_lines rooms start;
  text = refl;
  case = inl (sym e, whole ∙ ap (λ (b : List ℕ). b ++ rest) end ∙ ap (λ (b : List ℕ). end_line ++ b) (texts_none rest none) ∙ append-nil end_line);
}
ends rooms number start bytes text rest (next ∷ later) verdict end whole some e = record {
  lines = [];
  last = start;
  rest = bytes;
  sound = none_lines rooms start;
  text = refl;
  case = inr (inr (
      let same : suc number ≡ suc (number + 0) = omega arith in
      (rest, sym e ∙ ap No same, whole ∙ ap (λ (b : List ℕ). b ++ rest) end, λ none. let two : [] ≡ next ∷ later = ap texts_of (sym none) ∙ some in absurd (cc))
      ));
}

behind : (rooms : Rooms) (texts : List (List ℕ)) (number : ℕ) (start : List Link) (bytes : List ℕ) (verdict : Verdict) → texts_of bytes ≡ texts → verdict_from rooms number start (map entry_of texts) ≡ verdict
    → Behind rooms number start bytes verdict
behind rooms [] number start bytes verdict none e = stops rooms number start bytes verdict e (none_at_end rooms start bytes none)
behind rooms (text ∷ later) number start bytes verdict are e =
    let cut = texts_cut bytes text later are in
    by_entry cut (entry_of text) refl (behind rooms later) e
  where
    at_line : IsCut bytes text later → (written : Line) → entry_of text ≡ Written written → ((n : ℕ) (s : List Link) (b : List ℕ) (v : Verdict) → texts_of b ≡ later → verdict_from rooms n s (map entry_of later) ≡ v → Behind rooms n s b v)
        → (o : Option (List Link)) → follow rooms start written ≡ o → if_sound o (λ (n : List Link). verdict_from rooms (suc number) n (map entry_of later)) (No number) ≡ verdict → Behind rooms number start bytes verdict
    at_line cut written is on None refused e = stops rooms number start bytes verdict e (none_at_unsound rooms start bytes text later written are is refused)
    at_line cut written is on (Some next) sound e =
        let found = entry_found text written is in
        goes_on rooms number start next bytes cut.rest written verdict found.1 sound (cut.whole ∙ ap (λ (b : List ℕ). b ++ cut.rest) found.0) (on (suc number) next cut.rest verdict cut.texts e)

    by_entry : IsCut bytes text later → (entry : Entry) → entry_of text ≡ entry → ((n : ℕ) (s : List Link) (b : List ℕ) (v : Verdict) → texts_of b ≡ later → verdict_from rooms n s (map entry_of later) ≡ v → Behind rooms n s b v)
        → verdict_from rooms number start (entry ∷ map entry_of later) ≡ verdict → Behind rooms number start bytes verdict
    by_entry cut Bad is on e = stops rooms number start bytes verdict e (none_at_bad rooms start bytes text later are is)
    by_entry cut End is on e = ends rooms number start bytes text cut.rest later verdict (end_found text is) cut.whole cut.texts e
    by_entry cut (Written written) is on e = at_line cut written is on (follow rooms start written) refl e

-- ---- the laws

pub yes_is_sound : YesIsSound
yes_is_sound rooms bytes = (
  λ good.
      let found = behind rooms (texts_of bytes) 1 [] bytes Yes refl good in
      elim found.case [
        | inl is ↦ record {
          lines = found.lines;
          held = found.last;
          sound = record { in_range = found.sound.in_range; sound = found.sound.sound };
          text = found.text ∙ ap (λ (b : List ℕ). lines_text found.lines ++ b) is.1;
        }
        | inr other ↦ absurd (elim other [ inl none ↦ yes_no (1 + length found.lines) none.0 | inr past ↦ yes_no (suc (1 + length found.lines)) past.1 ])
      ],
  λ journal. ap (audited_in rooms) journal.text ∙ yes_lines rooms 1 [] journal.held journal.lines (record { in_range = journal.sound.in_range; sound = journal.sound.sound }),
)
  where
    yes_no : (n : ℕ) → Yes ≡ No n → ⊥
    yes_no n e = absurd (cc)

pub no_is_first : NoIsFirst
no_is_first rooms bytes line bad =
    let found = behind rooms (texts_of bytes) 1 [] bytes (No line) refl bad in
    elim found.case [
      | inl is ↦ absurd (no_yes is.0)
      | inr other ↦ elim other [
        | inl none ↦ record {
          lines = found.lines;
          held = found.last;
          rest = found.rest;
          sound = record { in_range = found.sound.in_range; sound = found.sound.sound };
          is = inl (same_no line (1 + length found.lines) none.0 ∙ one_more_is (length found.lines), found.text, none.1);
        }
        | inr past ↦ record {
          lines = found.lines;
          held = found.last;
          rest = past.0;
          sound = record { in_range = found.sound.in_range; sound = found.sound.sound };
          is = inr (same_no line (suc (1 + length found.lines)) past.1 ∙ ap suc (one_more_is (length found.lines)), found.text ∙ ap (λ (b : List ℕ). lines_text found.lines ++ b) past.2 ∙ sym (append_assoc (lines_text found.lines) end_line past.0), past.3);
        }
      ]
    ]
  where
    no_yes : No line ≡ Yes → ⊥
    no_yes e = absurd (cc)

    same_no : (m n : ℕ) → No m ≡ No n → m ≡ n
    same_no m n e = cc

    one_more_is : (n : ℕ) → 1 + n ≡ suc n
    one_more_is n = omega arith

pub yes_holds_once : SoundHoldsOnce → YesHoldsOnce
yes_holds_once once rooms bytes good =
    let journal : IsSoundJournal rooms bytes = (yes_is_sound rooms bytes).0 good in
    record { lines = journal.lines; text = journal.text; each = once rooms journal.lines journal.held journal.sound.sound }
