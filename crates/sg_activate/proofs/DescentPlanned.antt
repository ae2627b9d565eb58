-- What a plan that goes through the last fused node says of its start: it is laid out, each link and set bit stands in a container to which a
-- link led, and it has the words of the store.
use Rattle.std.proofs.Common.{◌≡◌, ℕ, suc, ◌+◌, ◌-◌, ◌*◌, ◌/◌, ◌%◌, ◌<◌, ◌≤◌, inl, true, false, cond, List, [], ◌∷◌, ◌++◌, length, replicate, refl, sym, ap, ◌∙◌, subst, arith}
use Rattle.std.specs.Prelude.{◌^◌, nat_lt, slice_index}
use Rattle.std.proofs.lemmas.Bool.Decides.{nat_tests}
use Rattle.std.specs.Int.{bit_at}
use Rattle.std.proofs.lemmas.Nat.{div-mul-add, mod-mul-add}
use Rattle.std.proofs.lemmas.Nat.Bits.{bit_at-zero}
use Rattle.std.proofs.lemmas.List.{length-append, length-replicate, length-map, get_or-map, get_or_past}
use mathlib.Core.Logic.{dite}
use native.Mathlib.Decide.{dec_le, ℕ_discrete}
use native.Mathlib.Nat.{mul-suc}
use Rattle.sg_words.specs.Counts.{times_in, bit_in}
use Rattle.sg_words.specs.RaceInvariant.{Sound, MeetsRaceInvariant}
use Rattle.sg_words.proofs.Uses.{starts_kept, kept-first, range-get}
use Rattle.sg_layout.specs.declared.shape.Kind.{Kind}
use Rattle.sg_layout.specs.declared.shape.Kind.TheVariants.{Hash}
use Rattle.sg_layout.specs.declared.shape.Shape.{Shape}
use Rattle.sg_layout.specs.Live.{kind_at}
use Rattle.sg_layout.proofs.Uses.{few_nodes}
use Rattle.sg_pool.specs.Numbers.{IsStock}
use Rattle.sg_store.specs.StoreWords.{StoreWords}
use Rattle.sg_store.specs.WellFormed.{IsWellFormed}
use Rattle.sg_store.specs.Opening.{pool_of}
use Rattle.sg_activate.specs.declared.descent.rule.Start.{Start}
use Rattle.sg_activate.specs.declared.descent.rule.SlotPart.{SlotPart}
use Rattle.sg_activate.specs.declared.descent.rule.MaskPart.{MaskPart}
use Rattle.sg_activate.specs.declared.descent.plan.Plan.{Plan}
use Rattle.sg_words.specs.Ranges.{range_at}
use Rattle.sg_activate.specs.TableParts.{places_in, first_of, part_of, place_in_part}
use Rattle.sg_activate.specs.DescentRace.{slots_each, places_each, limits_of, words_each, slot_part, mask_part, stock_at, was_live, over_slot_at, over_bit_at, setting_of, race_of, Racing, first_worker}
use Rattle.sg_activate.specs.DescentLaws.{first_words}
use Rattle.sg_activate.specs.Descending.{is_fused, is_pointer, is_mask, last_fused, open_before, number_among, part_at, IsStartOf}
use Rattle.sg_activate.specs.steps.DescentParts.{IsLaidOut}
use Rattle.sg_activate.specs.steps.DescentPlans.{pointers_of, links_in, IsLinkedIn, IsRow, IsPlanOf}
use Rattle.sg_activate.specs.steps.DescentWalk.{level_at, over_at, width_at, places_at}
use Rattle.sg_activate.proofs.DescentBridge.{hash_first, few_before, fused-below}
use Rattle.sg_activate.proofs.DescentEvents.{start_is_event}
use Rattle.sg_activate.proofs.DescentNodeSteps.{number-few, last-fused}

-- ---- a place within all is a place of its part
IsPlaceIn : List ℕ → ℕ → ℕ → ℕ → Type 0
IsPlaceIn sizes i l q = (l < length sizes) × (q < slice_index sizes l) × (i ≡ first_of sizes l + q)

find-place : (sizes : List ℕ) (i : ℕ) → i < places_in sizes → IsPlaceIn sizes i (part_of sizes i) (place_in_part sizes i)
unfolding IsPlaceIn
find-place [] i below = absurd (omega arith)
find-place (n ∷ ns) i below = dite (dec_le n i)
    (λ past.
    let h : nat_lt i n ≡ false = grind (arith, nat_tests) in
    let r = find-place ns (i - n) (omega arith) in
    let a = r.0 in
    let b = r.1 in
    let c = r.2 in
    let all : IsPlaceIn (n ∷ ns) i (suc (part_of ns (i - n))) (place_in_part ns (i - n)) = (omega arith, b, omega arith) in
    subst (λ t. IsPlaceIn (n ∷ ns) i (cond t 0 (suc (part_of ns (i - n)))) (cond t i (place_in_part ns (i - n)))) (sym h) all)
    (λ before.
    let h : nat_lt i n ≡ true = grind (arith, nat_tests) in
    let all : IsPlaceIn (n ∷ ns) i 0 i = (omega arith, omega arith, omega arith) in
    subst (λ t. IsPlaceIn (n ∷ ns) i (cond t 0 (suc (part_of ns (i - n)))) (cond t i (place_in_part ns (i - n)))) (sym h) all)

-- its word is that of the part
find-word : (sizes words : List ℕ) (i : ℕ) → i < places_in sizes → slice_index words i ≡ slice_index (part_at sizes words (part_of sizes i)) (place_in_part sizes i)
unfolding IsPlaceIn
find-word sizes words i below =
    let r = find-place sizes i below in
    ap (slice_index words) r.2 ∙ sym (range-get (first_of sizes (part_of sizes i)) (slice_index sizes (part_of sizes i)) words (place_in_part sizes i) r.1)

find-part : (sizes : List ℕ) (i : ℕ) → i < places_in sizes → part_of sizes i < length sizes
unfolding IsPlaceIn
find-part sizes i below = (find-place sizes i below).0

-- places of few parts are few
pub places-few : (sizes : List ℕ) (b : ℕ) → ((l : ℕ) → l < length sizes → slice_index sizes l ≤ b) → places_in sizes ≤ b * length sizes
places-few [] b each = omega arith
places-few (n ∷ ns) b each =
    let r = places-few ns b (λ l below. each (suc l) (omega arith)) in
    let h = each 0 (omega arith) in
    let m = mul-suc b (length ns) in omega arith

within-words : (words : List ℕ) (i : ℕ) → 0 < slice_index words i → i < length words
within-words words i some = dite (dec_le (length words) i) (λ past. absurd (let none = get_or_past words i 0 past in omega arith)) (λ below. omega arith)

module _ (store : StoreWords) (well : IsWellFormed store) (plan : Plan) (is : IsPlanOf store plan) (through : open_before store.shape + length plan.levels ≡ last_fused store.shape) where
  abbrev start : Start
  start = plan.start

  pub total-is : pointers_of store.shape ≡ length start.slot_parts
  total-is = ap (λ n. number_among is_pointer store.shape.nodes (suc n)) (sym through) ∙ sym is.slot_count

  many-slots : length (slots_each start) ≡ length start.slot_parts
  many-slots = length-map start.slot_parts (λ (part : SlotPart). part.slots)

  many-limits : length (limits_of start) ≡ length start.slot_parts
  many-limits = length-map start.slot_parts (λ (part : SlotPart). part.limit)

  many-words : length (words_each start) ≡ length start.mask_parts
  many-words = length-map start.mask_parts (λ (part : MaskPart). part.words)

  slots-are : (l : ℕ) → l < length start.slot_parts → slice_index (slots_each start) l ≡ (slot_part start l).slots
  slots-are l there = get_or-map (λ (part : SlotPart). part.slots) start.slot_parts l _ 0 there

  limits-are : (l : ℕ) → l < length start.slot_parts → slice_index (limits_of start) l ≡ (slot_part start l).limit
  limits-are l there = get_or-map (λ (part : SlotPart). part.limit) start.slot_parts l _ 0 there

  words-are : (m : ℕ) → m < length start.mask_parts → slice_index (words_each start) m ≡ (mask_part start m).words
  words-are m there = get_or-map (λ (part : MaskPart). part.words) start.mask_parts m _ 0 there

  places-are : (l : ℕ) → l < length start.slot_parts → slice_index (places_each start) l ≡ (slot_part start l).places
  places-are l there = get_or-map (λ (part : SlotPart). part.places) start.slot_parts l _ 0 there

  no-limit : (l : ℕ) → length start.slot_parts ≤ l → slice_index (limits_of start) l ≡ 0
  no-limit l past = get_or_past (limits_of start) l 0 (let m = many-limits in omega arith)

  -- ---- it is laid out
  pub few-parts : length start.slot_parts ≤ 6
  few-parts =
      let f = number-few is_pointer store.shape.nodes (open_before store.shape + length plan.levels) in
      let n = few_nodes store.shape well.accepted in let c = is.slot_count in omega arith

  few-mask-parts : length start.mask_parts ≤ 6
  few-mask-parts =
      let f = number-few is_mask store.shape.nodes (open_before store.shape + length plan.levels) in
      let n = few_nodes store.shape well.accepted in let c = is.mask_count in omega arith

  pub room : length start.links + length start.masks + length start.slot_parts < 2 ^ 56
  room =
      let a = places-few (slots_each start) (2 ^ 47) (λ l there. let e = slots-are l (let m = many-slots in omega arith) in let f = (is.parts.slot_parts l (let m = many-slots in omega arith)).few in omega arith) in
      let b = places-few (words_each start) (2 ^ 47) (λ m there. let e = words-are m (let w = many-words in omega arith) in let f = (is.parts.mask_parts m (let w = many-words in omega arith)).few in omega arith) in
      let c = is.parts.slots in let d = is.parts.masks in let e = few-parts in let f = few-mask-parts in let g = many-slots in let h = many-words in
      omega arith

  small-stock : length start.stock < 2 ^ 63
  small-stock =
      let a = places-few (limits_of start) (2 ^ 32) (λ l there. let e = limits-are l (let m = many-limits in omega arith) in let f = (is.parts.slot_parts l (let m = many-limits in omega arith)).limit in omega arith) in
      let c = is.parts.stocks in let e = few-parts in let g = many-limits in
      omega arith

  bound : (i : ℕ) → slice_index start.links i ≤ slice_index (places_each start) (part_of (slots_each start) i)
  bound i = dite (dec_le (length start.links) i)
      (λ past. let none = get_or_past start.links i 0 past in omega arith)
      (λ before.
      let covers = is.parts.slots in
      let below : i < places_in (slots_each start) = omega arith in
      let there : part_of (slots_each start) i < length start.slot_parts = (let f = find-part (slots_each start) i below in let m = many-slots in omega arith) in
      let word = find-word (slots_each start) start.links i below in
      let part = (is.parts.slot_parts (part_of (slots_each start) i) there).small (place_in_part (slots_each start) i) in
      let places = places-are (part_of (slots_each start) i) there in omega arith)

  stock-there : (l t : ℕ) → t < length (stock_at start l) → l < length start.slot_parts
  stock-there l t below = dite (dec_le (length start.slot_parts) l)
      (λ past. absurd (let none = no-limit l past in let e : length (stock_at start l) ≡ length (range_at (first_of (limits_of start) l) 0 start.stock) = ap (λ n. length (range_at (first_of (limits_of start) l) n start.stock)) none in omega arith))
      (λ before. omega arith)

  pub laid : IsLaidOut start
  laid = record {
    slots = is.parts.slots;
    masks = is.parts.masks;
    stocks = is.parts.stocks;
    links = bound;
    numbers = λ l t below.
        (let there = stock-there l t below in
        let n = (is.parts.slot_parts l there).numbers t below in
        let p = places-are l there in omega arith);
    places = λ l. dite (dec_le (length start.slot_parts) l)
        (λ past. let none = get_or_past (places_each start) l 0 (let m : length (places_each start) ≡ length start.slot_parts = length-map start.slot_parts (λ (part : SlotPart). part.places) in omega arith) in omega arith)
        (λ before. let p = places-are l (omega arith) in let f = (is.parts.slot_parts l (omega arith)).places in omega arith);
    from = is.parts.from;
    room = small-stock;
  }

  -- ---- what hangs where
  pub live-at-start : (over n : ℕ) → IsLinkedIn (pointers_of store.shape) start over n → was_live start (over, n) ≡ true
  live-at-start over n linked =
      let some : 0 < times_in (n + 1) (links_in (length start.slot_parts) start over) = subst (λ t. 0 < times_in (n + 1) (links_in t start over)) total-is linked in
      grind (arith, nat_tests)

  slot-hangs : (i : ℕ) → 0 < slice_index start.links i → was_live start (over_slot_at start i) ≡ true
  slot-hangs i some =
      let covers = is.parts.slots in
      let below : i < places_in (slots_each start) = (let w = within-words start.links i some in omega arith) in
      let l = part_of (slots_each start) i in
      let q = place_in_part (slots_each start) i in
      let there : l < length start.slot_parts = (let f = find-part (slots_each start) i below in let m = many-slots in omega arith) in
      let word = find-word (slots_each start) start.links i below in
      live-at-start (slot_part start l).over (q / (slot_part start l).width) ((is.parts.slot_parts l there).hang q (omega arith))

  bit-hangs : (b : ℕ) → 0 < bit_in start.masks b → was_live start (over_bit_at start b) ≡ true
  bit-hangs b some =
      let covers = is.parts.masks in
      let i = b / 64 in
      let there : i < length start.masks = dite (dec_le (length start.masks) (b / 64))
      (λ past. absurd (let none = ap (λ w. bit_at w (b % 64)) (get_or_past start.masks (b / 64) 0 past) in let none' = bit_at-zero (b % 64) in omega arith))
      (λ before. omega arith) in
      let below : i < places_in (words_each start) = omega arith in
      let m = part_of (words_each start) i in
      let q = place_in_part (words_each start) i in
      let part-there : m < length start.mask_parts = (let f = find-part (words_each start) i below in let w = many-words in omega arith) in
      let word = find-word (words_each start) start.masks i below in
      let masks = part_at (words_each start) start.masks m in
      let place = q * 64 + b % 64 in
      let in-word : b % 64 < 64 = omega arith in
      let at : place / 64 ≡ q = div-mul-add q 64 (b % 64) in-word in
      let rest : place % 64 ≡ b % 64 = mod-mul-add q 64 (b % 64) in-word in
      let bit : bit_in masks place ≡ bit_in start.masks b =
      ap (λ k. bit_at (slice_index masks k) (place % 64)) at ∙ ap (bit_at (slice_index masks q)) rest ∙ ap (λ w. bit_at w (b % 64)) (sym word) in
      live-at-start (mask_part start m).over (place / (mask_part start m).width) ((is.parts.mask_parts m part-there).hang place (omega arith))

  sound : Sound (setting_of start)
  sound = record {
    probed = λ k j i under at before. absurd (omega arith);
    hanging = record { by_slot = λ i some. inl (slot-hangs i some); by_bit = λ b some. inl (bit-hangs b some); by_length = λ q some. absurd (omega arith) };
    exchanged = λ a x y. refl;
  }

  -- the words of the table are a state of the race, with its first worker
  pub opened : (words : List ℕ) → words ≡ first_words start → Racing start words (first_worker start ∷ [])
  opened words e = subst (λ w. Racing start w (first_worker start ∷ [])) (sym e) (record {
    wide =
        (let zeros : List ℕ = replicate (length start.slot_parts) 0 in
        let a = length-append start.links (start.masks ++ zeros) in
        let b = length-append start.masks zeros in
        let c : length zeros ≡ length start.slot_parts = length-replicate (length start.slot_parts) 0 in
        let d : length (first_words start) ≡ length (start.links ++ (start.masks ++ zeros)) = refl in omega arith);
    kept = kept-first (setting_of start) (race_of start (first_words start) []) refl
        (subst (λ s. MeetsRaceInvariant (setting_of start) s) (sym (start_is_event start).0) (starts_kept (setting_of start) sound));
  })

  -- ---- the levels
  pub row : (k : ℕ) → k < length plan.levels → IsRow store (suc (open_before store.shape + k)) start (level_at plan.levels k) (over_at (length start.slot_parts) plan.levels k) (width_at 1 plan.levels k) (places_at start start.head_places plan.levels k)
  row k below = subst (λ t. IsRow store (suc (open_before store.shape + k)) start (level_at plan.levels k) (over_at t plan.levels k) (width_at 1 plan.levels k) (places_at start start.head_places plan.levels k)) total-is (is.rows k below)

  -- a fused node is that of a level
  level-of : (number : ℕ) → 1 ≤ number → is_fused (kind_at store.shape.nodes number) ≡ true → (k : ℕ) × (number ≡ suc (open_before store.shape + k)) × (k < length plan.levels)
  level-of number first fused =
      let back : suc (number - 1) ≡ number = omega arith in
      let far = fused-below store.shape.nodes 1 0 (number - 1) (omega arith) fused in
      let few = few_before (kind_at store.shape.nodes 1) in
      let past : open_before store.shape < number = dite (ℕ_discrete number 1)
      (λ one'. dite (ℕ_discrete (open_before store.shape) 1)
      (λ keyed. absurd (not-hash (kind_at store.shape.nodes 1) (hash_first (kind_at store.shape.nodes 1) keyed) (subst (λ n. is_fused (kind_at store.shape.nodes n) ≡ true) one' fused)))
      (λ root. omega arith))
      (λ more. omega arith) in
      (number - suc (open_before store.shape), omega arith, omega arith)
    where
      not-hash : (kind : Kind) → kind ≡ Hash → is_fused kind ≡ true → ⊥
      not-hash kind hash fused = let h : false ≡ true = ap is_fused (sym hash) ∙ fused in cc

  row-of : (number : ℕ) → 1 ≤ number → is_fused (kind_at store.shape.nodes number) ≡ true
      → (k : ℕ) × (kind_at store.shape.nodes number ≡ (level_at plan.levels k).kind) × IsRow store number start (level_at plan.levels k) (over_at (length start.slot_parts) plan.levels k) (width_at 1 plan.levels k) (places_at start start.head_places plan.levels k)
  row-of number first fused =
      let k = level-of number first fused in
      let r = subst (λ n. IsRow store n start (level_at plan.levels k.0) (over_at (length start.slot_parts) plan.levels k.0) (width_at 1 plan.levels k.0) (places_at start start.head_places plan.levels k.0)) (sym k.1) (row k.0 k.2) in
      (k.0, sym r.kind, r)

  -- it has the words of the store
  pub given : IsStartOf start store
  given = record {
    same_shape = is.shape;
    links = λ number first pointer.
        (let r = row-of number first (ap is_fused pointer) in
        let s = r.2.slots (sym r.1 ∙ pointer) in
        ap (λ (shape : Shape). part_at (slots_each start) start.links (number_among is_pointer shape.nodes number)) is.shape ∙ ap (part_at (slots_each start) start.links) (sym s.part) ∙ s.links);
    stocks = λ number first pointer.
        (let r = row-of number first (ap is_fused pointer) in
        let s = r.2.slots (sym r.1 ∙ pointer) in
        subst (λ (shape : Shape). IsStock (pool_of store number) (stock_at start (number_among is_pointer shape.nodes number))) (sym is.shape)
        (subst (λ l. IsStock (pool_of store number) (stock_at start l)) s.part s.stock));
    masks = λ number first masked.
        (let r = row-of number first (ap is_fused masked) in
        let m = r.2.masks (sym r.1 ∙ masked) in
        ap (λ (shape : Shape). part_at (words_each start) start.masks (number_among is_mask shape.nodes number)) is.shape ∙ ap (part_at (words_each start) start.masks) (sym m.part) ∙ m.masks);
    keys = is.keyed;
  }

  -- there is a word, where there is a fused node
  pub some-word : 1 ≤ last_fused store.shape → 0 < length start.links + length start.masks
  some-word some =
      let r = row-of (last_fused store.shape) some (last-fused store.shape.nodes some) in
      r.2.some (ap is_fused (sym r.1) ∙ last-fused store.shape.nodes some)
