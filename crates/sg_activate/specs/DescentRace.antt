-- The slots and masks of several nodes as one race: the words are the slots of the pointer nodes, node after node, then the masks of the
-- bitmasked nodes, then a count of drawn tickets for each pointer node.
use Rattle.std.specs.Prelude.{◌≡◌, ℕ, ◌+◌, ◌-◌, ◌*◌, ◌/◌, ◌%◌, ◌^◌, ◌<◌, ◌≤◌, Bool, nat_lt, ◌==◌, if◌then◌else◌, List, [], ◌∷◌, ◌++◌, length, map, take, drop, slice_index, slice_index_or}
use Rattle.atomic_table.specs.Table.{Step, Me}
use Rattle.sg_words.specs.declared.race.Worker.{Worker}
use Rattle.sg_words.specs.Counts.{pairs, times_in}
use Rattle.sg_words.specs.RaceMachine.{Setting, Race, newcomer, after_draw, after_mark}
use Rattle.sg_words.specs.RaceInvariant.{MeetsRaceInvariant}
use Rattle.sg_words.specs.steps.RaceSteps.{after_look, after_try}
use Rattle.sg_activate.specs.declared.descent.rule.Start.{Start}
use Rattle.sg_activate.specs.declared.descent.rule.SlotPart.{SlotPart}
use Rattle.sg_activate.specs.declared.descent.rule.MaskPart.{MaskPart}
use Rattle.sg_words.specs.Ranges.{range_at}
use Rattle.sg_activate.specs.TableParts.{first_of, part_of, place_in_part}

-- ---- the parts of the table
-- the slots of each pointer node, the numbers in its stock, and the mask words of each bitmasked node
abbrev pub slots_each : Start → List ℕ
slots_each start = map (λ part. part.slots) start.slot_parts

abbrev pub limits_of : Start → List ℕ
limits_of start = map (λ part. part.limit) start.slot_parts

abbrev pub places_each : Start → List ℕ
places_each start = map (λ part. part.places) start.slot_parts

abbrev pub words_each : Start → List ℕ
words_each start = map (λ part. part.words) start.mask_parts

-- a part by its number
abbrev pub slot_part : Start → ℕ → SlotPart
slot_part start l = slice_index_or start.slot_parts l (record { slots = 0; places = 0; limit = 0; stock = 0; over = 0; width = 1 })

abbrev pub mask_part : Start → ℕ → MaskPart
mask_part start l = slice_index_or start.mask_parts l (record { words = 0; over = 0; width = 1 })

-- the stock of a pointer node, by its number among these
abbrev pub stock_at : Start → ℕ → List ℕ
stock_at start l = range_at (first_of (limits_of start) l) (slice_index (limits_of start) l) start.stock

-- the links that stood above the fused nodes, or those of a pointer node, at the start: node number `length slot_parts` is what stands above them all
abbrev pub links_at : Start → ℕ → List ℕ
links_at start l = if l == length start.slot_parts then start.heads else range_at (first_of (slots_each start) l) (slice_index (slots_each start) l) start.links

-- a container was live at the start: a link led to it
abbrev pub was_live : Start → ℕ × ℕ → Bool
was_live start c = nat_lt 0 (times_in (c.1 + 1) (links_at start c.0))

-- the container in which a slot stands: its place in its node's range, divided by the slots that one container has there
abbrev pub over_slot_at : Start → ℕ → ℕ × ℕ
over_slot_at start i =
    let part = slot_part start (part_of (slots_each start) i) in
    (part.over, place_in_part (slots_each start) i / part.width)

-- and a bit
abbrev pub over_bit_at : Start → ℕ → ℕ × ℕ
over_bit_at start b =
    let part = mask_part start (part_of (words_each start) (b / 64)) in
    (part.over, (place_in_part (words_each start) (b / 64) * 64 + b % 64) / part.width)

-- what each worker is told: how many slots and masks there are, how many pointer nodes, their stocks' lengths, their slots and their places
abbrev pub told_at : Start → List ℕ
told_at start = length start.links ∷ length start.masks ∷ length start.slot_parts ∷ (limits_of start ++ (slots_each start ++ places_each start))

abbrev pub told_limit : List ℕ → ℕ → ℕ
told_limit told l = slice_index (drop 3 told) l

abbrev pub told_slots : List ℕ → List ℕ
told_slots told = take (slice_index told 2) (drop (slice_index told 2) (drop 3 told))

abbrev pub told_places : List ℕ → List ℕ
told_places told = drop (slice_index told 2) (drop (slice_index told 2) (drop 3 told))

-- the greatest word that a slot may have: one more than the last number of its node's containers
abbrev pub told_bound : List ℕ → ℕ → ℕ
told_bound told i = slice_index (told_places told) (part_of (told_slots told) i)

-- ---- the race
abbrev pub setting_of : Start → Setting
setting_of start = record {
  slots = start.links;
  keys = [];
  masks = start.masks;
  lengths = [];
  cells = [];
  nodes = length start.slot_parts;
  stock = stock_at start;
  node = part_of (slots_each start);
  over_slot = over_slot_at start;
  over_bit = over_bit_at start;
  over_length = λ _. (0, 0);
  live = was_live start;
  into = λ a x. a;
  told = told_at start;
}

abbrev pub race_of : Start → List ℕ → List Worker → Race
race_of start words views = record {
  slots = range_at 0 (length start.links) words;
  keys = [];
  masks = range_at (length start.links) (length start.masks) words;
  lengths = [];
  cells = [];
  counts = drop (length start.links + length start.masks) words;
  workers = views;
}

-- between any two atomic steps the words and the views are a state of the race machine that meets its invariant
pub record Racing (start : Start) (words : List ℕ) (views : List Worker) : Type 0 where
  pub wide : length words ≡ length start.links + length start.masks + length start.slot_parts
  pub kept : MeetsRaceInvariant (setting_of start) (race_of start words views)

abbrev pub first_worker : Start → Worker
first_worker start = newcomer (told_at start) 16

-- ---- what each kind of step tells its seat
abbrev pub looks : Step (Unit {0}) → Me (Unit {0}) Worker → ℕ → Me (Unit {0}) Worker → Type 0
looks st m word n = (n ≡ (after_look st.word word m.0, m.1)) × (word ≤ told_bound m.0.told st.word) × ((c : ℕ) → 0 < pairs st.word c m.0.seen → word ≡ c + 1)

abbrev pub draws : Step (Unit {0}) → Me (Unit {0}) Worker → ℕ → Me (Unit {0}) Worker → Type 0
draws st m count n = (l : ℕ) → st.word ≡ slice_index m.0.told 0 + slice_index m.0.told 1 + l → n ≡ (after_draw l (told_limit m.0.told l) count m.0, m.1)

abbrev pub tries : Step (Unit {0}) → Me (Unit {0}) Worker → ℕ → Me (Unit {0}) Worker → Type 0
tries st m word n = ((t : ℕ) → 0 < pairs (part_of (told_slots m.0.told) st.word) t m.0.spare
    → n ≡ (after_try (part_of (told_slots m.0.told) st.word) st.word t (st.second - 1) word m.0, m.1)) × (word ≤ told_bound m.0.told st.word)

abbrev pub marks : Step (Unit {0}) → Me (Unit {0}) Worker → ℕ → Me (Unit {0}) Worker → Type 0
marks st m word n = (b : ℕ) → st.word ≡ slice_index m.0.told 0 + b / 64 → st.first ≡ 2 ^ (b % 64) → n ≡ (after_mark b m.0, m.1)
