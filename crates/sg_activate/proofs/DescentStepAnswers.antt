-- What a step at a level asks and answers, by the level and the slot as the code has them.
use Rattle.std.proofs.Common.{◌≡◌, ℕ, suc, ◌+◌, ◌*◌, ◌/◌, ◌<◌, ◌≤◌, ◌⊎◌, inl, inr, List, length, sym, ap, ◌∙◌, subst, arith}
use Rattle.std.specs.Prelude.{slice_index}
use Rattle.sg_words.specs.declared.race.Worker.{Worker}
use Rattle.sg_words.specs.Counts.{pairs, firsts, times_in}
use Rattle.sg_words.specs.RaceMachine.{KnowsContainer, after_mark}
use Rattle.sg_activate.specs.declared.descent.rule.Start.{Start}
use Rattle.sg_activate.specs.declared.descent.level.Level.{Level}
use Rattle.sg_layout.specs.declared.shape.Kind.TheVariants.{Dense, Bitmasked, Pointer}
use Rattle.sg_activate.specs.TableParts.{part_of}
use Rattle.sg_activate.specs.DescentRace.{slots_each, places_each, mask_part, over_slot_at, over_bit_at, setting_of}
use Rattle.sg_activate.specs.steps.DescentParts.{IsLaidOut}
use Rattle.sg_activate.specs.Descending.{KnowsMore}
use Rattle.sg_activate.specs.steps.DescentWalk.{level_at, places_at, IsSlotLevel, IsMaskLevel}
use Rattle.sg_activate.specs.steps.DescentReaching.{IsOpenAt, IsMissedAt, StandsAt, GrewBy}
use Rattle.sg_activate.proofs.DescentMores.{one_marked}
use Rattle.sg_activate.proofs.DescentWalks.{slot-within, known-slot, known-bit}
use Rattle.sg_activate.proofs.DescentSteps.{stands_more, knows_slot, stands_dense, stands_masked, stands_linked, slot_within, open_dense, open_masked, open_linked, slot_inside, bit_inside, grew_not}

-- what holds where a step begins
pub record IsStep (start : Start) (levels : List Level) (from : ℕ) (offsets : List ℕ) (v : Worker) (k place : ℕ) (level : Level) (slot : ℕ) : Type 0 where
  pub level_is : level ≡ level_at levels k
  pub slot_is : slot ≡ place * (level_at levels k).size + slice_index offsets k
  pub there : k < length levels
  pub long : length levels ≤ length offsets
  pub below : slice_index offsets k < (level_at levels k).size
  pub stands : StandsAt start v levels from offsets k place
  pub laid : IsLaidOut start

module _ (start : Start) (levels : List Level) (from : ℕ) (offsets : List ℕ) (v : Worker) (k place : ℕ) (level : Level) (slot : ℕ) (s : IsStep start levels from offsets v k place level slot) where
  pub at_is : level.first + slot ≡ (level_at levels k).first + (place * (level_at levels k).size + slice_index offsets k)
  at_is = ap (λ (l : Level). l.first + slot) s.level_is ∙ ap (λ n. (level_at levels k).first + n) s.slot_is

  inside : k < length offsets
  inside = let e = s.long in let t = s.there in omega arith

  -- ---- at a pointer level
  pub ask_inside : IsSlotLevel start levels k → level.first + slot < length start.links
  ask_inside is = subst (λ n. n < length start.links) (sym at_is)
      (slot_inside start levels from offsets k (place * (level_at levels k).size + slice_index offsets k) s.laid is (slot_within start levels from offsets v k place is s.below s.stands)).0

  pub ask_here : IsSlotLevel start levels k → part_of (slots_each start) (level.first + slot) ≡ level.part
  ask_here is = ap (part_of (slots_each start)) at_is
      ∙ (slot_inside start levels from offsets k (place * (level_at levels k).size + slice_index offsets k) s.laid is (slot_within start levels from offsets v k place is s.below s.stands)).1
      ∙ sym (ap (λ (l : Level). l.part) s.level_is)

  pub ask_known : IsSlotLevel start levels k → KnowsContainer (setting_of start) v (over_slot_at start (level.first + slot))
  ask_known is = subst (λ n. KnowsContainer (setting_of start) v (over_slot_at start n)) (sym at_is)
      (known-slot start levels k place (slice_index offsets k) v is s.below (slot_within start levels from offsets v k place is s.below s.stands) s.stands.known)

  pub ask_answer : (w : Worker) (n : ℕ) → level.kind ≡ Pointer → IsSlotLevel start levels k → KnowsMore v w → 0 < pairs (level.first + slot) n w.seen → n < slice_index (places_each start) level.part
      → StandsAt start w levels from offsets (suc k) n × IsOpenAt w levels from offsets k
  ask_answer w n pointer is more seen bound =
      let kind = sym (ap (λ (l : Level). l.kind) s.level_is) ∙ pointer in
      let seen' = subst (λ i. 0 < pairs i n w.seen) at_is seen in
      let bound' = subst (λ (l : Level). n < slice_index (places_each start) l.part) s.level_is bound in
      let here = stands_more start levels from offsets v w k place more s.stands in
      (stands_linked start levels from offsets w k place n s.there inside s.below kind is seen' bound' here, open_linked start levels from offsets w k place n kind seen' here)

  pub ask_missed : (w : Worker) → level.kind ≡ Pointer → KnowsMore v w → 0 < times_in (level.first + slot) w.missed → 0 < firsts level.part w.past → IsMissedAt w levels from offsets k
  ask_missed w pointer more missed past = record {
    there = s.there;
    pointer = sym (ap (λ (l : Level). l.kind) s.level_is) ∙ pointer;
    slot = place * (level_at levels k).size + slice_index offsets k;
    knows = knows_slot start levels from offsets w k place (stands_more start levels from offsets v w k place more s.stands);
    missed = subst (λ i. 0 < times_in i w.missed) at_is missed;
    past = subst (λ (l : Level). 0 < firsts l.part w.past) s.level_is past;
  }

  -- where whatever was made since is in this slot
  pub ask_grew : (w : Worker) → level.kind ≡ Pointer → KnowsMore v w → ((i t : ℕ) → 0 < pairs i t w.made → (0 < pairs i t v.made) ⊎ (i ≡ level.first + slot)) → w.marked ≡ v.marked
      → GrewBy levels from offsets v w
  ask_grew w pointer more made marked =
      let kind = sym (ap (λ (l : Level). l.kind) s.level_is) ∙ pointer in
      let here = stands_more start levels from offsets v w k place more s.stands in
      record {
        made = λ i t has. elim (made i t has) [
          | inl had ↦ inl had
          | inr is ↦ inr (record {
            k = k;
            there = s.there;
            pointer = kind;
            slot = place * (level_at levels k).size + slice_index offsets k;
            knows = knows_slot start levels from offsets w k place here;
            is = is ∙ at_is;
          })
        ];
        marked = λ b has. inl (subst (λ l. 0 < times_in b l) marked has);
      }

  -- ---- at a bitmasked level
  bit_within : IsMaskLevel start levels k → place * (level_at levels k).size + slice_index offsets k < (mask_part start (level_at levels k).part).words * 64
  bit_within is =
      let b = slot-within place (level_at levels k).size (slice_index offsets k) (places_at start start.head_places levels k) s.stands.within s.below in
      let f = is.fits in omega arith

  pub mark_inside : IsMaskLevel start levels k → (level.first + slot) / 64 < length start.masks
  mark_inside is = subst (λ n. n / 64 < length start.masks) (sym at_is)
      (bit_inside start levels from offsets k (place * (level_at levels k).size + slice_index offsets k) s.laid is (bit_within is)).0

  pub mark_known : IsMaskLevel start levels k → KnowsContainer (setting_of start) v (over_bit_at start (level.first + slot))
  mark_known is = subst (λ n. KnowsContainer (setting_of start) v (over_bit_at start n)) (sym at_is)
      (known-bit start levels k place (slice_index offsets k) v is s.below
      (bit_inside start levels from offsets k (place * (level_at levels k).size + slice_index offsets k) s.laid is (bit_within is)).1 s.stands.known)

  pub mark_answer : (w : Worker) → level.kind ≡ Bitmasked → KnowsMore v w → 0 < times_in (level.first + slot) w.marked → StandsAt start w levels from offsets (suc k) slot × IsOpenAt w levels from offsets k
  mark_answer w masked more marked =
      let kind = sym (ap (λ (l : Level). l.kind) s.level_is) ∙ masked in
      let here = stands_more start levels from offsets v w k place more s.stands in (
        subst (λ n. StandsAt start w levels from offsets (suc k) n) (sym s.slot_is) (stands_masked start levels from offsets w k place s.there inside s.below kind here),
        open_masked start levels from offsets w k place kind (subst (λ i. 0 < times_in i w.marked) at_is marked) here,
      )

  pub mark_grew : (w : Worker) → level.kind ≡ Bitmasked → KnowsMore v w → (w ≡ v) ⊎ (w ≡ after_mark (level.first + slot) v) → GrewBy levels from offsets v w
  mark_grew w masked more (inl same) = subst (GrewBy levels from offsets v) (sym same) (grew_not start levels from offsets v)
  mark_grew w masked more (inr is) =
      let kind = sym (ap (λ (l : Level). l.kind) s.level_is) ∙ masked in
      let here = stands_more start levels from offsets v w k place more s.stands in
      record {
        made = λ i t has. inl (subst (λ (w : Worker). 0 < pairs i t w.made) is has);
        marked = λ b has. elim (one_marked (level.first + slot) v b (subst (λ (w : Worker). 0 < times_in b w.marked) is has)) [
          | inl had ↦ inl had
          | inr is ↦ inr (record {
            k = k;
            there = s.there;
            masked = kind;
            slot = place * (level_at levels k).size + slice_index offsets k;
            knows = knows_slot start levels from offsets w k place here;
            is = is ∙ at_is;
          })
        ];
      }

  -- ---- at a dense level
  pub dense_answer : level.kind ≡ Dense → StandsAt start v levels from offsets (suc k) slot × IsOpenAt v levels from offsets k
  dense_answer dense =
      let kind = sym (ap (λ (l : Level). l.kind) s.level_is) ∙ dense in (
        subst (λ n. StandsAt start v levels from offsets (suc k) n) (sym s.slot_is) (stands_dense start levels from offsets v k place s.there inside s.below kind s.stands),
        open_dense start levels from offsets v k place kind s.stands,
      )
