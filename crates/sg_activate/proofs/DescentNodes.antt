-- The words that a descent leaves at one node, numbered from 1.
use Rattle.std.proofs.Common.{◌≡◌, ◌≢◌, ℕ, suc, ◌+◌, ◌-◌, ◌<◌, ◌≤◌, inl, inr, List, length, sym, ap, ◌∙◌, subst, arith}
use Rattle.std.specs.Prelude.{slice_index}
use Rattle.std.proofs.lemmas.Bool.{cases_lt, cases_eq}
use Rattle.std.proofs.lemmas.List.{length-map}
use Rattle.std.proofs.lemmas.List.Elements.{Contains-get_or}
use Rattle.sg_words.specs.declared.race.Worker.{Worker}
use Rattle.sg_words.specs.Counts.{pairs, firsts}
use Rattle.sg_words.specs.RaceLaws.{IsFreshSetting}
use Rattle.sg_words.proofs.Uses.{firsts-pair, range-get, range-long}
use Rattle.sg_layout.specs.declared.shape.Kind.TheVariants.{Dense, Bitmasked, Pointer}
use Rattle.sg_layout.specs.declared.shape.NodeShape.{NodeShape}
use Rattle.sg_layout.specs.declared.shape.Shape.{Shape}
use Rattle.sg_layout.specs.Axes.{count_of}
use Rattle.sg_layout.specs.Live.{kind_at}
use Rattle.sg_layout.specs.NeedLaws.{IsNumberedNode}
use Rattle.sg_pool.specs.Numbers.{live_count, IsStock}
use Rattle.sg_words.specs.Stocks.{full_words}
use Rattle.sg_pointer.specs.RangeSettled.{IsRangeOf, IsLast, IsSettledNode}
use Rattle.sg_pointer.proofs.Uses.{ends_settled}
use Rattle.sg_store.specs.StoreWords.{StoreWords}
use Rattle.sg_store.specs.Opening.{link_words_of, pool_of}
use Rattle.sg_store.proofs.Uses.{IsNodeStock, is_node_stock}
use Rattle.sg_activate.specs.declared.descent.rule.Start.{Start}
use Rattle.sg_activate.specs.declared.descent.level.Level.{Level}
use Rattle.sg_activate.specs.TableParts.{first_of, part_of}
use Rattle.sg_activate.specs.DescentRace.{slots_each, words_each, limits_of, stock_at, setting_of}
use Rattle.sg_activate.specs.Descending.{pointer_number, mask_number}
use Rattle.sg_activate.specs.steps.DescentEnds.{race_at_end, slots_of_node, masks_of_node, FitsNode, IsEnding}
use Rattle.sg_activate.proofs.DescentNumbers.{node_there}
use Rattle.sg_activate.proofs.DescentParts.{part-is, part-fits}
use Rattle.sg_activate.proofs.DescentRanges.{part-alone, IsMarkedNode, marked_node}
use Rattle.sg_activate.proofs.TakenNumbers.{index_within, contains_word, taken_count}

-- the links of a pointer node at the end, of slots past the end too
pub record IsLinkedNode (old stock : List ℕ) (first : ℕ) (v : Worker) (new : List ℕ) : Type 0 where
  pub long : length new ≡ length old
  pub stay : (i : ℕ) → 0 < slice_index old i → slice_index new i ≡ slice_index old i
  pub seen : (i n : ℕ) → i < length old → 0 < pairs (first + i) n v.seen → slice_index new i ≡ n + 1
  pub made : (i : ℕ) → slice_index old i ≡ 0 → slice_index new i ≢ 0 → (t : ℕ) × (i < length old) × (0 < pairs (first + i) t v.made)
  pub of_stock : (i : ℕ) → slice_index old i ≡ 0 → 0 < slice_index new i → (t : ℕ) × (t < length stock) × (slice_index new i ≡ slice_index stock t + 1)
  pub once : (i j : ℕ) → slice_index old i ≡ 0 → 0 < slice_index new i → slice_index new i ≡ slice_index new j → i ≡ j

pub linked_node : (old stock : List ℕ) (l first : ℕ) (v : Worker) (new : List ℕ) → IsSettledNode old stock l first v new → IsLinkedNode old stock first v new
linked_node old stock l first v new is =
    let long : length new ≡ length old = is.long in
    record {
      long = long;
      stay = λ i some. is.stay i (index_within old i some) some;
      seen = is.seen;
      made = λ i empty full.
          let below : i < length old = (let b = index_within new i (omega arith) in omega arith) in
          elim (cases_eq (firsts (first + i) v.made) 0) [
            | inl none ↦ absurd (full (is.bare i below empty none))
            | inr some ↦ let pair = firsts-pair (first + i) v.made (omega arith) in (pair.0, below, pair.1)
          ];
      of_stock = λ i empty some. is.of_stock i (let b = index_within new i some in omega arith) empty some;
      once = λ i j empty some same.
          let b = index_within new i some in
          let b' = index_within new j (omega arith) in
          is.once i j (omega arith) (omega arith) empty some same;
    }

module _ (start : Start) (base : ℕ) (levels : List Level) (v : Worker) (links masks : List ℕ) (store : StoreWords) (e : IsEnding start base levels v links masks store) where
  pub layout_kind : (number : ℕ) → kind_at start.layout.nodes number ≡ kind_at store.shape.nodes number
  layout_kind number = ap (λ (s : Shape). kind_at s.nodes number) e.given.same_shape

  -- the node is a level, and its part of the table is there
  pub pointer_part : (number : ℕ) → base < number → number ≤ base + length levels → kind_at store.shape.nodes number ≡ Pointer → pointer_number start number < length start.slot_parts
  pointer_part number above within pointer =
      let k = number - suc base in
      let here : suc (base + k) ≡ number = omega arith in
      let below : k < length levels = omega arith in
      let is = e.levels_are.each k below in
      let kind = is.kind ∙ ap (kind_at start.layout.nodes) here ∙ layout_kind number ∙ pointer in
      subst (λ n. pointer_number start n < length start.slot_parts) here (subst (λ p. p < length start.slot_parts) (is.pointer kind).0 (e.levels_are.slot_parts k below kind))

  pub mask_part : (number : ℕ) → base < number → number ≤ base + length levels → kind_at store.shape.nodes number ≡ Bitmasked → mask_number start number < length start.mask_parts
  mask_part number above within masked =
      let k = number - suc base in
      let here : suc (base + k) ≡ number = omega arith in
      let below : k < length levels = omega arith in
      let is = e.levels_are.each k below in
      let kind = is.kind ∙ ap (kind_at start.layout.nodes) here ∙ layout_kind number ∙ masked in
      subst (λ n. mask_number start n < length start.mask_parts) here (subst (λ p. p < length start.mask_parts) (is.masked kind).0 (e.levels_are.mask_parts k below kind))

  -- its stock
  stock_of : (number : ℕ) → 1 ≤ number → kind_at store.shape.nodes number ≡ Pointer → IsStock (pool_of store number) (stock_at start (pointer_number start number))
  stock_of number first pointer = e.given.stocks number first pointer

  pub node_stock : (number : ℕ) → 1 ≤ number → kind_at store.shape.nodes number ≡ Pointer → IsNodeStock store number (stock_at start (pointer_number start number))
  node_stock number first pointer = is_node_stock store number (stock_at start (pointer_number start number)) e.well_formed first pointer (stock_of number first pointer)

  pub stock_long : (l : ℕ) → l < length start.slot_parts → length (stock_at start l) ≡ slice_index (limits_of start) l
  stock_long l there =
      let many = length-map start.slot_parts (λ part. part.limit) in
      let fits = part-fits (limits_of start) l (omega arith) in
      let all = e.levels_are.laid.stocks in
      range-long (first_of (limits_of start) l) (slice_index (limits_of start) l) start.stock (omega arith)

  -- its range of the table
  slots_fit : (l : ℕ) → l < length start.slot_parts → first_of (slots_each start) l + slice_index (slots_each start) l ≤ length start.links
  slots_fit l there =
      let many = length-map start.slot_parts (λ part. part.slots) in
      let fits = part-fits (slots_each start) l (omega arith) in
      let all = e.levels_are.laid.slots in omega arith

  alone_at : (l i : ℕ) → i < length start.links → part_of (slots_each start) i ≡ l → (first_of (slots_each start) l ≤ i) × (i < first_of (slots_each start) l + slice_index (slots_each start) l)
  alone_at l i below node =
      let all = e.levels_are.laid.slots in
      subst (λ n. (first_of (slots_each start) n ≤ i) × (i < first_of (slots_each start) n + slice_index (slots_each start) n)) node (part-alone (slots_each start) i (omega arith))

  range_of : (l : ℕ) → l < length start.slot_parts → IsRangeOf (setting_of start) l (first_of (slots_each start) l) (slice_index (slots_each start) l)
  range_of l there = record {
    inside = λ i below. let many = length-map start.slot_parts (λ part. part.slots) in (part-is (slots_each start) l i (omega arith) below).0;
    alone = λ i below node. alone_at l i below node;
  }

  fresh_node : (number : ℕ) → 1 ≤ number → kind_at store.shape.nodes number ≡ Pointer → IsFreshSetting (setting_of start) (pointer_number start number)
  fresh_node number first pointer =
      let l = pointer_number start number in
      let stock = stock_at start l in
      let is = stock_of number first pointer in
      let facts = node_stock number first pointer in
      record {
        distinct = λ t u below below' same. elim (cases_lt t u) [
          | inl before ↦ absurd (is.once t u 0 before below' same)
          | inr after ↦ elim (cases_eq t u) [
            | inl here ↦ here
            | inr other ↦ absurd (is.once u t 0 (omega arith) below (sym same))
          ]
        ];
        unlinked = λ t i below node same.
            let inside = index_within start.links i (omega arith) in
            let at = alone_at l i inside node in
            let first' = first_of (slots_each start) l in
            let at0 = at.0 in
            let at1 = at.1 in
            let there : first' + (i - first') ≡ i = omega arith in
            let word : slice_index (link_words_of store number) (i - first') ≡ suc (slice_index stock t) =
            ap (λ ws. slice_index ws (i - first')) (sym (e.given.links number first pointer))
            ∙ range-get first' (slice_index (slots_each start) l) start.links (i - first') (omega arith)
            ∙ ap (slice_index start.links) there ∙ (let h : slice_index start.links i ≡ suc (slice_index stock t) = omega arith in h) in
            facts.unlinked (slice_index stock t) (Contains-get_or stock t 0 below) (contains_word (link_words_of store number) (i - first') (slice_index stock t) word);
      }

  settled_node : (number : ℕ) → base < number → number ≤ base + length levels → kind_at store.shape.nodes number ≡ Pointer
      → IsSettledNode (slots_of_node start number start.links) (stock_at start (pointer_number start number)) (pointer_number start number) (first_of (slots_each start) (pointer_number start number)) v (slots_of_node start number links)
  settled_node number above within pointer =
      let l = pointer_number start number in
      let there = pointer_part number above within pointer in
      let last : IsLast (setting_of start) (race_at_end links masks e.ended.counts e.ended.views) v = record { kept = e.ended.kept; id = e.ended.id; stands = e.ended.stands; all = e.ended.all } in
      ends_settled (setting_of start) (race_at_end links masks e.ended.counts e.ended.views) v l (first_of (slots_each start) l) (slice_index (slots_each start) l) last (range_of l there)
      (fresh_node number (omega arith) pointer) (slots_fit l there)

  pub node_linked : (number : ℕ) → base < number → number ≤ base + length levels → kind_at store.shape.nodes number ≡ Pointer
      → IsLinkedNode (slots_of_node start number start.links) (stock_at start (pointer_number start number)) (first_of (slots_each start) (pointer_number start number)) v (slots_of_node start number links)
  node_linked number above within pointer =
      let l = pointer_number start number in
      linked_node (slots_of_node start number start.links) (stock_at start l) l (first_of (slots_each start) l) v (slots_of_node start number links) (settled_node number above within pointer)

  pub node_marked : (number : ℕ) → base < number → number ≤ base + length levels → kind_at store.shape.nodes number ≡ Bitmasked
      → IsMarkedNode (masks_of_node start number start.masks) (first_of (words_each start) (mask_number start number)) v (masks_of_node start number masks)
  node_marked number above within masked =
      let l = mask_number start number in
      let there = mask_part number above within masked in
      let many = length-map start.mask_parts (λ part. part.words) in
      let fits = part-fits (words_each start) l (omega arith) in
      let all = e.levels_are.laid.masks in
      marked_node start v links masks (first_of (words_each start) l) (slice_index (words_each start) l) e.ended (omega arith)

  -- ---- how many numbers are taken
  -- more containers are live than the cap exactly where this many numbers are taken
  pub fits_cap : (number : ℕ) → base < number → number ≤ base + length levels → kind_at store.shape.nodes number ≡ Pointer → (node : NodeShape) → IsNumberedNode store.shape number node
      → slice_index (limits_of start) (pointer_number start number) + live_count (pool_of store number) ≡ count_of node.cap + 17
  fits_cap number above within pointer node here =
      let rest = (node_stock number (omega arith) pointer).rest node here in
      let long = stock_long (pointer_number start number) (pointer_part number above within pointer) in omega arith

  -- where the numbers fit nobody has a ticket past the stock
  pub not_dry : (number : ℕ) → base < number → number ≤ base + length levels → kind_at store.shape.nodes number ≡ Pointer → FitsNode start links number → firsts (pointer_number start number) v.past ≡ 0
  not_dry number above within pointer fits = elim (cases_eq (firsts (pointer_number start number) v.past) 0) [
    | inl none ↦ none
    | inr some ↦
        let l = pointer_number start number in
        let old = slots_of_node start number start.links in
        let new = slots_of_node start number links in
        let node = node_there store.shape.nodes number Pointer pointer (λ (e : Pointer ≡ Dense). (cc)) in
        let here : IsNumberedNode store.shape number node.0 = record { first = omega arith; there = node.1 } in
        let facts = node_stock number (omega arith) pointer in
        let rest = facts.rest node.0 here in
        let long = stock_long l (pointer_part number above within pointer) in
        let filled : full_words old ≡ live_count (pool_of store number) = ap full_words (e.given.links number (omega arith) pointer) ∙ facts.filled in
        let settled = settled_node number above within pointer in
        let past = settled.filled (count_of node.0.cap) (omega arith) (omega arith) in
        let linked = node_linked number above within pointer in
        let count = taken_count old new linked.long linked.stay in
        let few = fits (layout_kind number ∙ pointer) in
        absurd (omega arith)
  ]
