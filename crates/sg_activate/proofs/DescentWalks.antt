-- The container of a slot to which a walk leads is one that the seat knows.
use Rattle.std.proofs.Common.{◌≡◌, ℕ, zero, suc, ◌+◌, ◌*◌, ◌/◌, ◌%◌, ◌<◌, inr, List, [], ◌∷◌, length, refl, sym, ap, ◌∙◌, subst, arith}
use Rattle.std.specs.Prelude.{slice_index}
use Rattle.std.proofs.lemmas.List.{length-map, get_or-map}
use Rattle.std.proofs.lemmas.Nat.{div-mul-add, mul-add-lt}
use native.Mathlib.Nat.{div-div-eq-div-mul, mul_comm}
use Rattle.sg_words.specs.declared.race.Worker.{Worker}
use Rattle.sg_words.specs.Counts.{pairs}
use Rattle.sg_words.specs.RaceMachine.{KnowsContainer}
use Rattle.sg_activate.specs.declared.descent.rule.Start.{Start}
use Rattle.sg_activate.specs.declared.descent.rule.SlotPart.{SlotPart}
use Rattle.sg_activate.specs.declared.descent.rule.MaskPart.{MaskPart}
use Rattle.sg_activate.specs.declared.descent.level.Level.{Level}
use Rattle.sg_layout.specs.declared.shape.Kind.{Kind}
use Rattle.sg_layout.specs.declared.shape.Kind.TheVariants.{Dense, Bitmasked, Pointer, Hash, Dynamic}
use Rattle.sg_activate.specs.TableParts.{first_of, part_of, place_in_part}
use Rattle.sg_activate.specs.DescentRace.{slots_each, words_each, slot_part, mask_part, over_slot_at, over_bit_at, setting_of}
use Rattle.sg_activate.specs.steps.DescentWalk.{level_at, over_past, over_at, width_past, width_at, StepsDown, Leads, places_past, places_at, IsSlotLevel, IsMaskLevel}
use Rattle.sg_activate.proofs.DescentParts.{part-is}

-- ---- one level more
pub over-next : (over : ℕ) (levels : List Level) (k : ℕ) → k < length levels → over_at over levels (suc k) ≡ over_past (level_at levels k).kind (level_at levels k).part (over_at over levels k)
over-next over [] k below = absurd (omega arith)
over-next over (level ∷ later) zero below = refl
over-next over (level ∷ later) (suc k) below = over-next (over_past level.kind level.part over) later k (omega arith)

pub width-next : (width : ℕ) (levels : List Level) (k : ℕ) → k < length levels → width_at width levels (suc k) ≡ width_past (level_at levels k).kind (level_at levels k).size (width_at width levels k)
width-next width [] k below = absurd (omega arith)
width-next width (level ∷ later) zero below = refl
width-next width (level ∷ later) (suc k) below = width-next (width_past level.kind level.size width) later k (omega arith)

pub places-next : (start : Start) (places : ℕ) (levels : List Level) (k : ℕ) → k < length levels
    → places_at start places levels (suc k) ≡ places_past start (level_at levels k).kind (level_at levels k).part (level_at levels k).size (places_at start places levels k)
places-next start places [] k below = absurd (omega arith)
places-next start places (level ∷ later) zero below = refl
places-next start places (level ∷ later) (suc k) below = places-next start (places_past start level.kind level.part level.size places) later k (omega arith)

-- a slot of a level is one of its part
pub slot-within : (place size offset places : ℕ) → place < places → offset < size → place * size + offset < places * size
slot-within place size offset places below inside = subst (λ n. place * size + offset < n) (mul_comm size places) (mul-add-lt place size offset places below inside)

-- a step more
pub leads-next : (v : Worker) (levels : List Level) (from : ℕ) (offsets : List ℕ) (k end next : ℕ) → k < length levels → k < length offsets → Leads v levels from offsets k end
    → StepsDown v (level_at levels k).kind (level_at levels k).first (end * (level_at levels k).size + slice_index offsets k) next → Leads v levels from offsets (suc k) next
leads-next v [] from offsets k end next below inside leads steps = absurd (omega arith)
leads-next v (level ∷ later) from [] k end next below inside leads steps = absurd (omega arith)
leads-next v (level ∷ later) from (offset ∷ offsets) zero end next below inside leads steps =
    (next, subst (λ p. StepsDown v level.kind level.first (p * level.size + offset) next) (sym leads) steps, refl)
leads-next v (level ∷ later) from (offset ∷ offsets) (suc k) end next below inside leads steps =
    (leads.0, leads.1, leads-next v later leads.0 offsets k end next (omega arith) (omega arith) leads.2 steps)

steps-more : (v w : Worker) (kind : Kind) (first slot next : ℕ) → ((i n : ℕ) → 0 < pairs i n v.seen → 0 < pairs i n w.seen) → StepsDown v kind first slot next → StepsDown w kind first slot next
steps-more v w Dense first slot next more steps = steps
steps-more v w Bitmasked first slot next more steps = steps
steps-more v w Pointer first slot next more steps = more (first + slot) next steps
steps-more v w Hash first slot next more steps = steps
steps-more v w Dynamic first slot next more steps = steps

-- a seat that has seen more knows as much
pub leads-more : (v w : Worker) (levels : List Level) (from : ℕ) (offsets : List ℕ) (k end : ℕ) → ((i n : ℕ) → 0 < pairs i n v.seen → 0 < pairs i n w.seen)
    → Leads v levels from offsets k end → Leads w levels from offsets k end
leads-more v w levels from offsets zero end more leads = leads
leads-more v w [] from offsets (suc k) end more leads = leads
leads-more v w (level ∷ later) from [] (suc k) end more leads = leads
leads-more v w (level ∷ later) from (offset ∷ offsets) (suc k) end more leads =
    (leads.0, steps-more v w level.kind level.first (from * level.size + offset) leads.0 more leads.1, leads-more v w later leads.0 offsets k end more leads.2)

-- ---- containers
-- the slot of an offset under a place stands in the container of the place
pub div-down : (place size offset width : ℕ) → offset < size → (place * size + offset) / (width * size) ≡ place / width
div-down place size offset width below =
    let turn : width * size ≡ size * width = mul_comm width size in
    ap (λ n. (place * size + offset) / n) turn ∙ sym (div-div-eq-div-mul (place * size + offset) size width) ∙ ap (λ n. n / width) (div-mul-add place size offset below)

part-of_slot : (start : Start) (levels : List Level) (k slot : ℕ) → IsSlotLevel start levels k → slot < (slot_part start (level_at levels k).part).slots
    → over_slot_at start ((level_at levels k).first + slot) ≡ (over_at (length start.slot_parts) levels k, slot / (width_at 1 levels k * (level_at levels k).size))
part-of_slot start levels k slot is below =
    let level = level_at levels k in
    let sizes = slots_each start in
    let many : length sizes ≡ length start.slot_parts = length-map start.slot_parts (λ (p : SlotPart). p.slots) in
    let has : slice_index sizes level.part ≡ (slot_part start level.part).slots = get_or-map (λ (p : SlotPart). p.slots) start.slot_parts level.part (record { slots = 0; places = 0; limit = 0; stock = 0; over = 0; width = 1 }) 0 is.part in
    let part = is.part in
    let at = part-is sizes level.part slot (omega arith) (omega arith) in
    let where' : level.first + slot ≡ first_of sizes level.part + slot = ap (λ n. n + slot) is.first in
    let a : part_of sizes (level.first + slot) ≡ level.part = ap (part_of sizes) where' ∙ at.0 in
    let b : place_in_part sizes (level.first + slot) ≡ slot = ap (place_in_part sizes) where' ∙ at.1 in
    ap (λ l. ((slot_part start l).over, place_in_part sizes (level.first + slot) / (slot_part start l).width)) a
    ∙ ap (λ n. ((slot_part start level.part).over, n / (slot_part start level.part).width)) b
    ∙ ap (λ o. (o, slot / (slot_part start level.part).width)) is.over
    ∙ ap (λ w. (over_at (length start.slot_parts) levels k, slot / w)) is.width

-- where a place is known, the container of a slot under it is
pub known-slot : (start : Start) (levels : List Level) (k place offset : ℕ) (v : Worker) → IsSlotLevel start levels k → offset < (level_at levels k).size
    → place * (level_at levels k).size + offset < (slot_part start (level_at levels k).part).slots
    → KnowsContainer (setting_of start) v (over_at (length start.slot_parts) levels k, place / width_at 1 levels k)
    → KnowsContainer (setting_of start) v (over_slot_at start ((level_at levels k).first + (place * (level_at levels k).size + offset)))
known-slot start levels k place offset v is inside below known =
    let level = level_at levels k in
    let slot = place * level.size + offset in
    let same = part-of_slot start levels k slot is below ∙ ap (λ c. (over_at (length start.slot_parts) levels k, c)) (div-down place level.size offset (width_at 1 levels k) inside) in
    subst (λ c. KnowsContainer (setting_of start) v c) (sym same) known

-- the same of a bit
part-of_bit : (start : Start) (levels : List Level) (k slot : ℕ) → IsMaskLevel start levels k → slot / 64 < (mask_part start (level_at levels k).part).words
    → over_bit_at start ((level_at levels k).first + slot) ≡ (over_at (length start.slot_parts) levels k, slot / (width_at 1 levels k * (level_at levels k).size))
part-of_bit start levels k slot is below =
    let level = level_at levels k in
    let sizes = words_each start in
    let first = first_of sizes level.part in
    let many : length sizes ≡ length start.mask_parts = length-map start.mask_parts (λ (p : MaskPart). p.words) in
    let has : slice_index sizes level.part ≡ (mask_part start level.part).words = get_or-map (λ (p : MaskPart). p.words) start.mask_parts level.part (record { words = 0; over = 0; width = 1 }) 0 is.part in
    let part = is.part in
    let at = part-is sizes level.part (slot / 64) (omega arith) (omega arith) in
    let from = is.first in
    let word : (level.first + slot) / 64 ≡ first + slot / 64 = omega arith in
    let rest : (level.first + slot) % 64 ≡ slot % 64 = omega arith in
    let a : part_of sizes ((level.first + slot) / 64) ≡ level.part = ap (part_of sizes) word ∙ at.0 in
    let b : place_in_part sizes ((level.first + slot) / 64) ≡ slot / 64 = ap (place_in_part sizes) word ∙ at.1 in
    let whole : slot / 64 * 64 + slot % 64 ≡ slot = omega arith in
    ap (λ l. ((mask_part start l).over, (place_in_part sizes ((level.first + slot) / 64) * 64 + (level.first + slot) % 64) / (mask_part start l).width)) a
    ∙ ap (λ n. ((mask_part start level.part).over, (n * 64 + (level.first + slot) % 64) / (mask_part start level.part).width)) b
    ∙ ap (λ n. ((mask_part start level.part).over, (slot / 64 * 64 + n) / (mask_part start level.part).width)) rest
    ∙ ap (λ n. ((mask_part start level.part).over, n / (mask_part start level.part).width)) whole
    ∙ ap (λ o. (o, slot / (mask_part start level.part).width)) is.over
    ∙ ap (λ w. (over_at (length start.slot_parts) levels k, slot / w)) is.width

pub known-bit : (start : Start) (levels : List Level) (k place offset : ℕ) (v : Worker) → IsMaskLevel start levels k → offset < (level_at levels k).size
    → (place * (level_at levels k).size + offset) / 64 < (mask_part start (level_at levels k).part).words
    → KnowsContainer (setting_of start) v (over_at (length start.slot_parts) levels k, place / width_at 1 levels k)
    → KnowsContainer (setting_of start) v (over_bit_at start ((level_at levels k).first + (place * (level_at levels k).size + offset)))
known-bit start levels k place offset v is inside below known =
    let level = level_at levels k in
    let slot = place * level.size + offset in
    let same = part-of_bit start levels k slot is below ∙ ap (λ c. (over_at (length start.slot_parts) levels k, c)) (div-down place level.size offset (width_at 1 levels k) inside) in
    subst (λ c. KnowsContainer (setting_of start) v c) (sym same) known

-- ---- what is known one level down
-- through a dense or a bitmasked node the container stays
pub known-through : (start : Start) (levels : List Level) (k place offset over width : ℕ) (v : Worker) → offset < (level_at levels k).size
    → KnowsContainer (setting_of start) v (over, place / width)
    → KnowsContainer (setting_of start) v (over, (place * (level_at levels k).size + offset) / (width * (level_at levels k).size))
known-through start levels k place offset over width v inside known =
    subst (λ c. KnowsContainer (setting_of start) v (over, c)) (sym (div-down place (level_at levels k).size offset width inside)) known

-- a slot in which a number was seen leads to its container
pub known-below : (start : Start) (levels : List Level) (k slot n : ℕ) (v : Worker) → IsSlotLevel start levels k → slot < (slot_part start (level_at levels k).part).slots
    → 0 < pairs ((level_at levels k).first + slot) n v.seen → KnowsContainer (setting_of start) v ((level_at levels k).part, n / 1)
known-below start levels k slot n v is below seen =
    let level = level_at levels k in
    let sizes = slots_each start in
    let many : length sizes ≡ length start.slot_parts = length-map start.slot_parts (λ (p : SlotPart). p.slots) in
    let has : slice_index sizes level.part ≡ (slot_part start level.part).slots = get_or-map (λ (p : SlotPart). p.slots) start.slot_parts level.part (record { slots = 0; places = 0; limit = 0; stock = 0; over = 0; width = 1 }) 0 is.part in
    let part = is.part in
    let at = part-is sizes level.part slot (omega arith) (omega arith) in
    let whole : n ≡ n / 1 = omega arith in
    inr (level.first + slot, ap (λ f. part_of sizes (f + slot)) is.first ∙ at.0, subst (λ m. 0 < pairs (level.first + slot) m v.seen) whole seen)
