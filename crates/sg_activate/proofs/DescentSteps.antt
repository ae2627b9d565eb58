-- A seat that stands at a place before a level stands one level further after its step there.
use Rattle.std.proofs.Common.{◌≡◌, ℕ, suc, ◌+◌, ◌*◌, ◌/◌, ◌<◌, ◌≤◌, ◌⊎◌, inl, inr, true, List, length, refl, sym, ap, ◌∙◌, subst, arith}
use Rattle.std.specs.Prelude.{Some, None, slice_index}
use Rattle.std.proofs.lemmas.List.{length-map, get_or-map}
use mathlib.Core.Logic.{dite}
use native.Mathlib.Decide.{ℕ_discrete}
use Rattle.sg_words.specs.declared.race.Worker.{Worker}
use Rattle.sg_words.specs.Counts.{pairs, times_in}
use Rattle.sg_words.specs.RaceMachine.{KnowsContainer}
use Rattle.sg_activate.specs.declared.descent.rule.Start.{Start}
use Rattle.sg_activate.specs.declared.descent.rule.SlotPart.{SlotPart}
use Rattle.sg_activate.specs.declared.descent.level.Level.{Level}
use Rattle.sg_layout.specs.declared.shape.Kind.{Kind}
use Rattle.sg_layout.specs.declared.shape.Kind.TheVariants.{Dense, Bitmasked, Pointer, Hash, Dynamic}
use Rattle.sg_activate.specs.DescentRace.{slot_part, mask_part, slots_each, words_each, places_each, was_live, setting_of}
use Rattle.sg_activate.specs.declared.descent.rule.MaskPart.{MaskPart}
use Rattle.sg_activate.specs.TableParts.{first_of, part_of}
use Rattle.sg_activate.specs.steps.DescentParts.{IsLaidOut}
use Rattle.sg_activate.proofs.DescentParts.{part-is, part-within}
use Rattle.sg_activate.specs.Descending.{KnowsMore}
use Rattle.sg_activate.specs.steps.DescentWalk.{level_at, over_past, over_at, width_past, width_at, places_past, places_at, StepsDown, KnowsLevelSlot, IsSlotLevel, IsMaskLevel}
use Rattle.sg_activate.specs.steps.DescentReaching.{HasOpenedLevel, IsOpenAt, IsOpenAbove, IsMissedAt, IsWalked, StandsAt, IsLevelSlot, IsLevelBit, GrewBy}
use Rattle.sg_activate.proofs.DescentWalks.{over-next, width-next, places-next, slot-within, leads-next, leads-more, known-through, known-below}

module _ (start : Start) (levels : List Level) (from : ℕ) (offsets : List ℕ) where
  slot_of : ℕ → ℕ → ℕ
  slot_of k place = place * (level_at levels k).size + slice_index offsets k

  known_more : (v w : Worker) (c : ℕ × ℕ) → KnowsMore v w → KnowsContainer (setting_of start) v c → KnowsContainer (setting_of start) w c
  known_more v w c more (inl live) = inl live
  known_more v w c more (inr (slot, is, seen)) = inr (slot, is, more.seen slot c.1 seen)

  -- a seat that knows more stands where it stood
  pub stands_more : (v w : Worker) (k place : ℕ) → KnowsMore v w → StandsAt start v levels from offsets k place → StandsAt start w levels from offsets k place
  stands_more v w k place more s = record {
    leads = leads-more v w levels from offsets k place more.seen s.leads;
    within = s.within;
    known = known_more v w (over_at (length start.slot_parts) levels k, place / width_at 1 levels k) more s.known;
  }

  -- the slot of the level's offset under the place
  pub knows_slot : (v : Worker) (k place : ℕ) → StandsAt start v levels from offsets k place → KnowsLevelSlot v levels from offsets k (place * (level_at levels k).size + slice_index offsets k)
  knows_slot v k place s = record { place = place; leads = s.leads; is_slot = refl }

  pub open_more : (v w : Worker) (k : ℕ) → KnowsMore v w → IsOpenAt v levels from offsets k → IsOpenAt w levels from offsets k
  open_more v w k more o = record {
    slot = o.slot;
    knows = record { place = o.knows.place; leads = leads-more v w levels from offsets k o.knows.place more.seen o.knows.leads; is_slot = o.knows.is_slot };
    opened = opened (level_at levels k).kind o.opened;
  }
    where
      opened : (kind : Kind) → HasOpenedLevel v kind ((level_at levels k).first + o.slot) → HasOpenedLevel w kind ((level_at levels k).first + o.slot)
      opened Dense h = h
      opened Bitmasked h = more.marked ((level_at levels k).first + o.slot) h
      opened Pointer h = (h.0, more.seen ((level_at levels k).first + o.slot) h.0 h.1)
      opened Hash h = h
      opened Dynamic h = h

  -- ---- through a dense or a bitmasked level
  through : (v : Worker) (k place : ℕ) → k < length levels → k < length offsets → slice_index offsets k < (level_at levels k).size
      → ((slot : ℕ) → StepsDown v (level_at levels k).kind (level_at levels k).first slot slot)
      → over_past (level_at levels k).kind (level_at levels k).part (over_at (length start.slot_parts) levels k) ≡ over_at (length start.slot_parts) levels k
      → width_past (level_at levels k).kind (level_at levels k).size (width_at 1 levels k) ≡ width_at 1 levels k * (level_at levels k).size
      → places_past start (level_at levels k).kind (level_at levels k).part (level_at levels k).size (places_at start start.head_places levels k) ≡ places_at start start.head_places levels k * (level_at levels k).size
      → StandsAt start v levels from offsets k place → StandsAt start v levels from offsets (suc k) (place * (level_at levels k).size + slice_index offsets k)
  through v k place below inside offset steps over width places s =
      let level = level_at levels k in
      let slot = place * level.size + slice_index offsets k in
      let o = over-next (length start.slot_parts) levels k below ∙ over in
      let w = width-next 1 levels k below ∙ width in
      let n = places-next start start.head_places levels k below ∙ places in
      record {
        leads = leads-next v levels from offsets k place slot below inside s.leads (steps slot);
        within = subst (λ m. slot < m) (sym n) (slot-within place level.size (slice_index offsets k) (places_at start start.head_places levels k) s.within offset);
        known = subst (λ o. KnowsContainer (setting_of start) v (o, slot / width_at 1 levels (suc k))) (sym o)
            (subst (λ w. KnowsContainer (setting_of start) v (over_at (length start.slot_parts) levels k, slot / w)) (sym w)
            (known-through start levels k place (slice_index offsets k) (over_at (length start.slot_parts) levels k) (width_at 1 levels k) v offset s.known));
      }

  pub stands_dense : (v : Worker) (k place : ℕ) → k < length levels → k < length offsets → slice_index offsets k < (level_at levels k).size → (level_at levels k).kind ≡ Dense
      → StandsAt start v levels from offsets k place → StandsAt start v levels from offsets (suc k) (place * (level_at levels k).size + slice_index offsets k)
  stands_dense v k place below inside offset kind s =
      let level = level_at levels k in
      through v k place below inside offset (λ slot. subst (λ kd. StepsDown v kd level.first slot slot) (sym kind) refl)
      (ap (λ kd. over_past kd level.part (over_at (length start.slot_parts) levels k)) kind)
      (ap (λ kd. width_past kd level.size (width_at 1 levels k)) kind)
      (ap (λ kd. places_past start kd level.part level.size (places_at start start.head_places levels k)) kind) s

  pub stands_masked : (v : Worker) (k place : ℕ) → k < length levels → k < length offsets → slice_index offsets k < (level_at levels k).size → (level_at levels k).kind ≡ Bitmasked
      → StandsAt start v levels from offsets k place → StandsAt start v levels from offsets (suc k) (place * (level_at levels k).size + slice_index offsets k)
  stands_masked v k place below inside offset kind s =
      let level = level_at levels k in
      through v k place below inside offset (λ slot. subst (λ kd. StepsDown v kd level.first slot slot) (sym kind) refl)
      (ap (λ kd. over_past kd level.part (over_at (length start.slot_parts) levels k)) kind)
      (ap (λ kd. width_past kd level.size (width_at 1 levels k)) kind)
      (ap (λ kd. places_past start kd level.part level.size (places_at start start.head_places levels k)) kind) s

  -- ---- past a pointer level, by the number that was seen in its slot
  pub slot_within : (v : Worker) (k place : ℕ) → IsSlotLevel start levels k → slice_index offsets k < (level_at levels k).size → StandsAt start v levels from offsets k place
      → place * (level_at levels k).size + slice_index offsets k < (slot_part start (level_at levels k).part).slots
  slot_within v k place is offset s =
      let below = slot-within place (level_at levels k).size (slice_index offsets k) (places_at start start.head_places levels k) s.within offset in
      let fits = is.fits in omega arith

  pub stands_linked : (v : Worker) (k place n : ℕ) → k < length levels → k < length offsets → slice_index offsets k < (level_at levels k).size → (level_at levels k).kind ≡ Pointer → IsSlotLevel start levels k
      → 0 < pairs ((level_at levels k).first + (place * (level_at levels k).size + slice_index offsets k)) n v.seen → n < slice_index (places_each start) (level_at levels k).part
      → StandsAt start v levels from offsets k place → StandsAt start v levels from offsets (suc k) n
  stands_linked v k place n below inside offset kind is seen bound s =
      let level = level_at levels k in
      let slot = place * level.size + slice_index offsets k in
      let o = over-next (length start.slot_parts) levels k below ∙ ap (λ kd. over_past kd level.part (over_at (length start.slot_parts) levels k)) kind in
      let w = width-next 1 levels k below ∙ ap (λ kd. width_past kd level.size (width_at 1 levels k)) kind in
      let p = places-next start start.head_places levels k below ∙ ap (λ kd. places_past start kd level.part level.size (places_at start start.head_places levels k)) kind in
      let has : slice_index (places_each start) level.part ≡ (slot_part start level.part).places = get_or-map (λ (p : SlotPart). p.places) start.slot_parts level.part (record { slots = 0; places = 0; limit = 0; stock = 0; over = 0; width = 1 }) 0 is.part in
      record {
        leads = leads-next v levels from offsets k place n below inside s.leads (subst (λ kd. StepsDown v kd level.first slot n) (sym kind) seen);
        within = subst (λ m. n < m) (sym p) (omega arith);
        known = subst (λ o. KnowsContainer (setting_of start) v (o, n / width_at 1 levels (suc k))) (sym o)
            (subst (λ w. KnowsContainer (setting_of start) v (level.part, n / w)) (sym w)
            (known-below start levels k slot n v is (slot_within v k place is offset s) seen));
      }

  -- ---- what an answer at a level says
  pub open_dense : (v : Worker) (k place : ℕ) → (level_at levels k).kind ≡ Dense → StandsAt start v levels from offsets k place → IsOpenAt v levels from offsets k
  open_dense v k place kind s = record {
    slot = place * (level_at levels k).size + slice_index offsets k;
    knows = knows_slot v k place s;
    opened = subst (λ kd. HasOpenedLevel v kd ((level_at levels k).first + (place * (level_at levels k).size + slice_index offsets k))) (sym kind) tt;
  }

  pub open_masked : (v : Worker) (k place : ℕ) → (level_at levels k).kind ≡ Bitmasked → 0 < times_in ((level_at levels k).first + (place * (level_at levels k).size + slice_index offsets k)) v.marked
      → StandsAt start v levels from offsets k place → IsOpenAt v levels from offsets k
  open_masked v k place kind marked s = record {
    slot = place * (level_at levels k).size + slice_index offsets k;
    knows = knows_slot v k place s;
    opened = subst (λ kd. HasOpenedLevel v kd ((level_at levels k).first + (place * (level_at levels k).size + slice_index offsets k))) (sym kind) marked;
  }

  pub open_linked : (v : Worker) (k place n : ℕ) → (level_at levels k).kind ≡ Pointer → 0 < pairs ((level_at levels k).first + (place * (level_at levels k).size + slice_index offsets k)) n v.seen
      → StandsAt start v levels from offsets k place → IsOpenAt v levels from offsets k
  open_linked v k place n kind seen s = record {
    slot = place * (level_at levels k).size + slice_index offsets k;
    knows = knows_slot v k place s;
    opened = subst (λ kd. HasOpenedLevel v kd ((level_at levels k).first + (place * (level_at levels k).size + slice_index offsets k))) (sym kind) (n, seen);
  }

  -- ---- the loop of a walk
  -- one level more is open
  pub open_next : (v w : Worker) (k : ℕ) → KnowsMore v w → IsOpenAbove v levels from offsets k → IsOpenAt w levels from offsets k → IsOpenAbove w levels from offsets (suc k)
  open_next v w k more above here j below = dite (ℕ_discrete j k) (λ e. subst (IsOpenAt w levels from offsets) (sym e) here) (λ ne. open_more v w j more (above j (omega arith)))

  -- a walk that came to its end, and one that stopped
  pub walk_opens : (v : Worker) (k : ℕ) → length levels ≤ k → IsOpenAbove v levels from offsets k → IsWalked v levels from offsets None
  walk_opens v k all above j below = above j (omega arith)

  pub walk_stops : (v w : Worker) (k : ℕ) → KnowsMore v w → IsOpenAbove v levels from offsets k → IsMissedAt w levels from offsets k → IsWalked w levels from offsets (Some k)
  walk_stops v w k more above missed = ((λ j below. open_more v w j more (above j below)), missed)

  -- where a walk begins
  pub walk_begins : (v : Worker) → from < start.head_places → was_live start (length start.slot_parts, from) ≡ true → StandsAt start v levels from offsets 0 from
  walk_begins v within live = record {
    leads = refl;
    within = within;
    known = (let z : from ≡ from / 1 = omega arith in subst (λ n. KnowsContainer (setting_of start) v (length start.slot_parts, n)) z (inl live));
  }

  -- ---- what was made and marked
  level_slot_more : (v w : Worker) (i : ℕ) → KnowsMore v w → IsLevelSlot v levels from offsets i → IsLevelSlot w levels from offsets i
  level_slot_more v w i more is = record {
    k = is.k;
    there = is.there;
    pointer = is.pointer;
    slot = is.slot;
    knows = record { place = is.knows.place; leads = leads-more v w levels from offsets is.k is.knows.place more.seen is.knows.leads; is_slot = is.knows.is_slot };
    is = is.is;
  }

  level_bit_more : (v w : Worker) (b : ℕ) → KnowsMore v w → IsLevelBit v levels from offsets b → IsLevelBit w levels from offsets b
  level_bit_more v w b more is = record {
    k = is.k;
    there = is.there;
    masked = is.masked;
    slot = is.slot;
    knows = record { place = is.knows.place; leads = leads-more v w levels from offsets is.k is.knows.place more.seen is.knows.leads; is_slot = is.knows.is_slot };
    is = is.is;
  }

  pub grew_not : (v : Worker) → GrewBy levels from offsets v v
  grew_not v = record { made = λ i t has. inl has; marked = λ b has. inl has }

  pub grew_then : (v w u : Worker) → KnowsMore w u → GrewBy levels from offsets v w → GrewBy levels from offsets w u → GrewBy levels from offsets v u
  grew_then v w u more a b = record {
    made = λ i t has. then_made i t (b.made i t has);
    marked = λ c has. then_marked c (b.marked c has);
  }
    where
      then_made : (i t : ℕ) → (0 < pairs i t w.made) ⊎ IsLevelSlot u levels from offsets i → (0 < pairs i t v.made) ⊎ IsLevelSlot u levels from offsets i
      then_made i t (inr is) = inr is
      then_made i t (inl had) = elim (a.made i t had) [
        | inl first ↦ inl first
        | inr is ↦ inr (level_slot_more w u i more is)
      ]

      then_marked : (c : ℕ) → (0 < times_in c w.marked) ⊎ IsLevelBit u levels from offsets c → (0 < times_in c v.marked) ⊎ IsLevelBit u levels from offsets c
      then_marked c (inr is) = inr is
      then_marked c (inl had) = elim (a.marked c had) [
        | inl first ↦ inl first
        | inr is ↦ inr (level_bit_more w u c more is)
      ]

  -- ---- what a step asks
  pub slot_inside : (k slot : ℕ) → IsLaidOut start → IsSlotLevel start levels k → slot < (slot_part start (level_at levels k).part).slots
      → ((level_at levels k).first + slot < length start.links) × (part_of (slots_each start) ((level_at levels k).first + slot) ≡ (level_at levels k).part)
  slot_inside k slot laid is below =
      let level = level_at levels k in
      let sizes = slots_each start in
      let many : length sizes ≡ length start.slot_parts = length-map start.slot_parts (λ (p : SlotPart). p.slots) in
      let has : slice_index sizes level.part ≡ (slot_part start level.part).slots = get_or-map (λ (p : SlotPart). p.slots) start.slot_parts level.part (record { slots = 0; places = 0; limit = 0; stock = 0; over = 0; width = 1 }) 0 is.part in
      let part = is.part in
      let first = is.first in
      let all = laid.slots in
      let within = part-within sizes level.part slot (omega arith) (omega arith) in
      (omega arith, ap (λ f. part_of sizes (f + slot)) is.first ∙ (part-is sizes level.part slot (omega arith) (omega arith)).0)

  pub bit_inside : (k slot : ℕ) → IsLaidOut start → IsMaskLevel start levels k → slot < (mask_part start (level_at levels k).part).words * 64
      → (((level_at levels k).first + slot) / 64 < length start.masks) × (slot / 64 < (mask_part start (level_at levels k).part).words)
  bit_inside k slot laid is below =
      let level = level_at levels k in
      let sizes = words_each start in
      let many : length sizes ≡ length start.mask_parts = length-map start.mask_parts (λ (p : MaskPart). p.words) in
      let has : slice_index sizes level.part ≡ (mask_part start level.part).words = get_or-map (λ (p : MaskPart). p.words) start.mask_parts level.part (record { words = 0; over = 0; width = 1 }) 0 is.part in
      let part = is.part in
      let first = is.first in
      let all = laid.masks in
      let word : slot / 64 < (mask_part start level.part).words = omega arith in
      let within = part-within sizes level.part (slot / 64) (omega arith) (omega arith) in
      let at : (level.first + slot) / 64 ≡ first_of sizes level.part + slot / 64 = omega arith in
      (omega arith, word)
