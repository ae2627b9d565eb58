-- Journals part by part.
use Rattle.std.proofs.Common.{◌≡◌, ℕ, zero, suc, List, [], ◌∷◌, ◌++◌, Option, Some, None, refl, sym, ap, ◌∙◌, subst, append-nil, arith}
use Rattle.std.specs.Prelude.{All, option_and_then}
use Rattle.std.proofs.lemmas.Option.{none-some, same_Some}
use Rattle.std.proofs.lemmas.List.Concat.{flat_map-append}
use Rattle.std.proofs.lemmas.List.Elements.{All-append}
use Rattle.sg_layout.specs.declared.shape.Shape.{Shape}
use Rattle.sg_journal.specs.declared.lines.Link.{Link}
use Rattle.sg_journal.specs.declared.lines.Line.{Line}
use Rattle.sg_journal.specs.Lines.{journal_text, IsInRange}
use Rattle.sg_journal.specs.Journal.{Rooms, follow, held_after}
use Rattle.sg_journal.specs.Rooms.{rooms_of}
use Rattle.sg_journal.specs.Placing.{Placing, links_at, ArePlaced, AreRising}
use Rattle.sg_journal.specs.PlacingLaws.{HoldsPlaced}
use Rattle.sg_journal.specs.Needs.{HoldsNeed}
use Rattle.sg_store.specs.StoreWords.{StoreWords}
use Rattle.sg_audit.specs.declared.verdict.Verdict.TheVariants.{Yes}
use Rattle.sg_audit.specs.Auditing.{audited}
use Rattle.sg_audit.specs.AuditLaws.{AreSoundLines, YesIsSound}
use Rattle.sparsegrid.specs.Moves.{Reached}
use Rattle.sparsegrid.specs.Parts.{Parts, lines_in, IsWhereHeld, AreChanges, AreSoundParts, AreOver, IsAudited}
use Rattle.sparsegrid.specs.steps.Leading.{AreSoundOver, LeadPartsTo, PartsGoOn}

-- the numbers of each node of stores rise where they are placed
rising_at : (stores : List StoreWords) (placing : Placing) → ArePlaced stores placing → (layout node : ℕ) → AreRising (links_at placing layout node)
rising_at stores placing are layout zero = λ i j d before below. absurd (omega (arith, below))
rising_at [] [] are layout (suc index) = λ i j d before below. absurd (omega (arith, below))
rising_at [] (nodes ∷ placing) are layout (suc index) = absurd are
rising_at (store ∷ stores) [] are layout (suc index) = absurd are
rising_at (store ∷ stores) (nodes ∷ placing) are zero (suc index) = (are.0.links index).rising
rising_at (store ∷ stores) (nodes ∷ placing) are (suc layout) (suc index) = rising_at stores placing are.1 layout (suc index)

-- where what is held is what stands in stores
pub where_placed : (stores : List StoreWords) (placing : Placing) (held : List Link) → ArePlaced stores placing → HoldsPlaced held placing → IsWhereHeld held placing
where_placed stores placing held are holds = record { holds = holds; rising = rising_at stores placing are }

-- what is held after lines and then others
pub held_twice : (rooms : Rooms) (held next : List Link) (lines more : List Line) → held_after rooms held lines ≡ Some next → held_after rooms held (lines ++ more) ≡ held_after rooms next more
held_twice rooms held next [] more is = ap (λ (h : List Link). held_after rooms h more) (same_Some held next is)
held_twice rooms held next (line ∷ lines) more is = by_line (follow rooms held line) is (λ mid. held_twice rooms mid next lines more) where
  by_line : (o : Option (List Link)) → option_and_then (λ (h : List Link). held_after rooms h lines) o ≡ Some next
      → ((mid : List Link) → held_after rooms mid lines ≡ Some next → held_after rooms mid (lines ++ more) ≡ held_after rooms next more)
      → option_and_then (λ (h : List Link). held_after rooms h (lines ++ more)) o ≡ held_after rooms next more
  by_line None e rest = absurd (none-some next e)
  by_line (Some mid) e rest = rest mid e

pub lines_more : (parts : Parts) (part : List Line) → lines_in (parts ++ part ∷ []) ≡ lines_in parts ++ part
lines_more parts part = flat_map-append (λ (p : List Line). p) parts (part ∷ []) ∙ ap (λ (lines : List Line). lines_in parts ++ lines) (append-nil part)

-- states over layouts of these shapes, and one more
over_more : (shapes : List Shape) (states : List Reached) (at : Reached) → AreOver shapes states → at.shapes ≡ shapes → AreOver shapes (states ++ at ∷ [])
over_more shapes [] at over same = (same, tt)
over_more shapes (s ∷ states) at over same = (over.0, over_more shapes states at over.1 same)

-- one more part behind sound ones
sound_more : (shapes : List Shape) (parts : Parts) (states : List Reached) (start held next : List Link) (part : List Line) (at : Reached) → AreOver shapes states → at.shapes ≡ shapes
    → AreSoundParts start parts states → held_after (rooms_of shapes) start (lines_in parts) ≡ Some held → held_after (rooms_of shapes) held part ≡ Some next → HoldsNeed shapes at.state next → AreChanges held next part
    → AreSoundParts start (parts ++ part ∷ []) (states ++ at ∷ [])
sound_more shapes [] [] start held next part at over same sound after own need changed = (
  next,
  ap (λ (ss : List Shape). held_after (rooms_of ss) start part) same ∙ ap (λ (h : List Link). held_after (rooms_of shapes) h part) (same_Some start held after) ∙ own,
  subst (λ (ss : List Shape). HoldsNeed ss at.state next) (sym same) need,
  subst (λ (h : List Link). AreChanges h next part) (sym (same_Some start held after)) changed,
  tt,
)
sound_more shapes [] (s ∷ states) start held next part at over same sound after own need changed = absurd sound
sound_more shapes (p ∷ parts) [] start held next part at over same sound after own need changed = absurd sound
sound_more shapes (p ∷ parts) (s ∷ states) start held next part at over same sound after own need changed =
    let first : held_after (rooms_of shapes) start p ≡ Some sound.0 = sym (ap (λ (ss : List Shape). held_after (rooms_of ss) start p) over.0) ∙ sound.1 in
    let rest : held_after (rooms_of shapes) sound.0 (lines_in parts) ≡ Some held = sym (held_twice (rooms_of shapes) start sound.0 p (lines_in parts) first) ∙ after in
    (sound.0, sound.1, sound.2, sound.3, sound_more shapes parts states sound.0 held next part at over.1 same sound.4 rest own need changed)

pub parts_go_on : PartsGoOn
parts_go_on shapes parts states held next part at led same own need changed fits =
    record {
      over = over_more shapes states at led.over same;
      sound = sound_more shapes parts states [] held next part at led.over same led.sound led.after own need changed;
      after = ap (held_after (rooms_of shapes) []) (lines_more parts part) ∙ held_twice (rooms_of shapes) [] held (lines_in parts) part led.after ∙ own;
      in_range = subst (All IsInRange) (sym (lines_more parts part)) (All-append IsInRange (lines_in parts) part led.in_range fits);
    }

-- the audit of parts that lead somewhere is Yes
pub led_audit : YesIsSound → (shapes : List Shape) (parts : Parts) (states : List Reached) (held : List Link) → LeadPartsTo shapes parts states held → audited shapes (journal_text (lines_in parts)) ≡ Yes
led_audit sound shapes parts states held led =
    (sound (rooms_of shapes) (journal_text (lines_in parts))).1
    (record { lines = lines_in parts; held = held; sound = record { in_range = led.in_range; sound = led.after }; text = refl })

-- so it is over the layouts of their states, of which there is one at least
module _ (shapes : List Shape) (parts : Parts) (first : Reached) (more : List Reached) (held : List Link) (reached : List Reached) (led : LeadPartsTo shapes parts (first ∷ more) held)
    (rest : List Reached) (is : reached ≡ first ∷ rest) where
  one_over : (other : List Shape) → AreOver other reached → shapes ≡ other
  one_over other over = sym led.over.0 ∙ (subst (AreOver other) is over).0

  pub led_audited : YesIsSound → IsAudited parts reached
  led_audited sound other over = subst (λ (ss : List Shape). audited ss (journal_text (lines_in parts)) ≡ Yes) (one_over other over) (led_audit sound shapes parts (first ∷ more) held led)

  pub led_over : AreSoundOver parts reached
  led_over other over =
      (held, subst (λ (ss : List Shape). AreSoundLines (rooms_of ss) (lines_in parts) held) (one_over other over) (record { in_range = led.in_range; sound = led.after }))
