-- A line of an audit, and the loop over them.
use Rattle.std.proofs.Common.{◌≡◌, ℕ, suc, ◌+◌, ◌≤◌, true, false, List, [], ◌∷◌, ◌++◌, length, map, Option, Some, None, refl, sym, ap, ◌∙◌, arith}
use Rattle.std.proofs.lemmas.List.{length-append}
use Rattle.sg_layout.specs.declared.shape.Shape.{Shape}
use Rattle.sg_journal.specs.Rooms.{rooms_of}
use Rattle.sg_journal.specs.declared.lines.Link.{Link}
use Rattle.sg_journal.specs.declared.lines.Line.{Line}
use Rattle.sg_journal.specs.Journal.{follow}
use Rattle.sg_audit.specs.declared.reading.Entry.{Entry}
use Rattle.sg_audit.specs.declared.reading.Entry.TheVariants.{Written, End, Bad}
use Rattle.sg_audit.specs.declared.table.NodeTable.{NodeTable}
use Rattle.sg_audit.specs.declared.verdict.Verdict.{Verdict}
use Rattle.sg_audit.specs.declared.verdict.Verdict.TheVariants.{Yes, No}
use Rattle.sg_audit.specs.Reading.{texts_of, entry_of, entries_of}
use Rattle.sg_audit.specs.Auditing.{if_sound, verdict_from, audited}
use Rattle.sg_audit.specs.steps.Tables.{Stand, FollowedAs, Follows}
use Rattle.sg_audit.specs.steps.Stepping.{Steps, StepsFrom}
use Rattle.sg_audit.proofs.Texts.{texts_none}

pub steps_bad : (old now : List (List NodeTable)) (line : ℕ) (later : List Entry) → StepsFrom old now line Bad later (Some (No line))
steps_bad old now line later rooms held stand = refl

pub steps_end : (old now : List (List NodeTable)) (line : ℕ) → StepsFrom old now line End [] (Some Yes)
steps_end old now line rooms held stand = refl

pub steps_past : (old now : List (List NodeTable)) (line : ℕ) (next : Entry) (later : List Entry) → StepsFrom old now line End (next ∷ later) (Some (No (suc line)))
steps_past old now line next later rooms held stand = refl

pub steps_sound : (old now : List (List NodeTable)) (line : ℕ) (written : Line) (later : List Entry) → Follows old now written true → StepsFrom old now line (Written written) later None
steps_sound old now line written later follows rooms held stand = by_next (follow rooms held written) refl (follows rooms held stand) where
  by_next : (o : Option (List Link)) → follow rooms held written ≡ o → FollowedAs rooms now o true → Steps rooms held now line (Written written) later None
  by_next None is followed = absurd (cc)
  by_next (Some next) is followed =
      (next, followed.1, ap (λ (o : Option (List Link)). if_sound o (λ (n : List Link). verdict_from rooms (suc line) n later) (No line)) is)

pub steps_unsound : (old now : List (List NodeTable)) (line : ℕ) (written : Line) (later : List Entry) → Follows old now written false → StepsFrom old now line (Written written) later (Some (No line))
steps_unsound old now line written later follows rooms held stand = by_next (follow rooms held written) refl (follows rooms held stand) where
  by_next : (o : Option (List Link)) → follow rooms held written ≡ o → FollowedAs rooms now o false → Steps rooms held now line (Written written) later (Some (No line))
  by_next None is followed = ap (λ (o : Option (List Link)). if_sound o (λ (n : List Link). verdict_from rooms (suc line) n later) (No line)) is
  by_next (Some next) is followed = absurd (cc)

pub steps_behind : (old now : List (List NodeTable)) (line : ℕ) (bytes : List ℕ) → (bytes ≡ [] → ⊥) → StepsFrom old now line End (entries_of bytes) (Some (No (suc line)))
steps_behind old now line bytes some = by_texts (texts_of bytes) refl where
  by_texts : (texts : List (List ℕ)) → texts_of bytes ≡ texts → StepsFrom old now line End (map entry_of texts) (Some (No (suc line)))
  by_texts [] none = absurd (some (texts_none bytes none))
  by_texts (text ∷ later) is = steps_past old now line (entry_of text) (map entry_of later)

-- ---- the loop

-- the verdict on all bytes is that on the rest of them, from what is held before it
pub record IsGoing (shapes : List Shape) (bytes : List ℕ) (tables : List (List NodeTable)) (line : ℕ) (rest : List ℕ) : Type 0 where
  pub held : List Link
  pub stand : Stand (rooms_of shapes) held tables
  pub verdict : verdict_from (rooms_of shapes) line held (entries_of rest) ≡ audited shapes bytes
  pub left : length rest + line ≤ length bytes + 1

pub going_first : (shapes : List Shape) (bytes : List ℕ) (tables : List (List NodeTable)) → Stand (rooms_of shapes) [] tables → IsGoing shapes bytes tables 1 bytes
going_first shapes bytes tables stand = record { held = []; stand = stand; verdict = refl; left = omega arith }

-- there are no bytes any more
pub going_none : (shapes : List Shape) (bytes : List ℕ) (tables : List (List NodeTable)) (line : ℕ) (rest : List ℕ) → IsGoing shapes bytes tables line rest → rest ≡ [] → No line ≡ audited shapes bytes
going_none shapes bytes tables line rest going none = ap (λ (r : List ℕ). verdict_from (rooms_of shapes) line going.held (entries_of r)) (sym none) ∙ going.verdict

cut_entries : (rest text later : List ℕ) → texts_of rest ≡ text ∷ texts_of later → entries_of rest ≡ entry_of text ∷ entries_of later
cut_entries rest text later cut = ap (map entry_of) cut

pub going_verdict : (shapes : List Shape) (bytes : List ℕ) (tables now : List (List NodeTable)) (line : ℕ) (rest text later : List ℕ) (verdict : Verdict) → IsGoing shapes bytes tables line rest → texts_of rest ≡ text ∷ texts_of later
    → StepsFrom tables now line (entry_of text) (entries_of later) (Some verdict) → verdict ≡ audited shapes bytes
going_verdict shapes bytes tables now line rest text later verdict going cut steps =
    sym (steps (rooms_of shapes) going.held going.stand)
    ∙ ap (λ (e : List Entry). verdict_from (rooms_of shapes) line going.held e) (sym (cut_entries rest text later cut)) ∙ going.verdict

pub going_on : (shapes : List Shape) (bytes : List ℕ) (tables now : List (List NodeTable)) (line : ℕ) (rest text later : List ℕ) → IsGoing shapes bytes tables line rest → texts_of rest ≡ text ∷ texts_of later → rest ≡ text ++ later → 1 ≤ length text
    → StepsFrom tables now line (entry_of text) (entries_of later) None → IsGoing shapes bytes now (line + 1) later
going_on shapes bytes tables now line rest text later going cut whole some steps =
    let on = steps (rooms_of shapes) going.held going.stand in
    let next : line + 1 ≡ suc line = omega arith in
    record {
      held = on.0;
      stand = on.1;
      verdict = ap (λ n. verdict_from (rooms_of shapes) n on.0 (entries_of later)) next ∙ sym on.2
          ∙ ap (λ (e : List Entry). verdict_from (rooms_of shapes) line going.held e) (sym (cut_entries rest text later cut)) ∙ going.verdict;
      left = omega (arith, going.left, ap length whole, length-append text later, some);
    }

no_bytes : (rest : List ℕ) → length rest ≤ 0 → rest ≡ []
no_bytes [] few = refl
no_bytes (b ∷ rest) few = absurd (omega (arith, few))

-- as many lines as 32 bits can count
pub going_end : (shapes : List Shape) (bytes : List ℕ) (tables : List (List NodeTable)) (line : ℕ) (rest : List ℕ) → IsGoing shapes bytes tables line rest → length bytes + 1 ≤ line → No line ≡ audited shapes bytes
going_end shapes bytes tables line rest going many = going_none shapes bytes tables line rest going (no_bytes rest (omega (arith, going.left, many)))
