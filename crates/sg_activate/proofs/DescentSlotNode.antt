-- A plan with a pointer node more.
use Rattle.std.proofs.Common.{◌≡◌, ◌≢◌, ℕ, zero, suc, ◌+◌, ◌-◌, ◌*◌, ◌/◌, ◌<◌, ◌≤◌, inl, inr, Bool, true, false, cond, ◌==◌, List, [], ◌∷◌, ◌++◌, length, map, drop, refl, sym, ap, ◌∙◌, subst, arith}
use Rattle.std.specs.Prelude.{◌^◌, slice_index, slice_index_or, slice_get, Contains}
use Rattle.std.proofs.lemmas.Bool.Decides.{nat_tests}
use Rattle.std.proofs.lemmas.List.{length-append, length-map, length_push, map-append, append-nil, get_or_past}
use Rattle.std.proofs.lemmas.List.Elements.{Contains-get_or}
use native.Mathlib.Nat.{div-div-eq-div-mul, div-one, mul_comm}
use mathlib.Core.Logic.{dite}
use native.Mathlib.Decide.{dec_le}
use Rattle.sg_words.specs.Counts.{times_in}
use Rattle.sg_words.proofs.Uses.{contains_cases, contains_none, first_cases}
use Rattle.sg_layout.specs.declared.shape.Kind.TheVariants.{Bitmasked, Pointer, Hash, Dynamic}
use Rattle.sg_layout.specs.Axes.{count_of, size_of, sizes_of}
use Rattle.sg_layout.specs.Live.{kind_or}
use Rattle.sg_layout.specs.NeedLaws.{IsNumberedNode}
use Rattle.sg_pool.specs.Numbers.{place_count, IsStock}
use Rattle.sg_store.specs.StoreWords.{StoreWords}
use Rattle.sg_store.specs.WellFormed.{IsPointerNode, IsNode, AreNodes, places_below, live_below, live_slot}
use Rattle.sg_store.specs.Opening.{links_or_none, pool_or_none, pool_of}
use Rattle.sg_activate.specs.declared.descent.rule.SlotPart.{SlotPart}
use Rattle.sg_activate.specs.declared.descent.rule.MaskPart.{MaskPart}
use Rattle.sg_activate.specs.declared.descent.level.Level.{Level}
use Rattle.sg_activate.specs.declared.descent.plan.Plan.{Plan}
use Rattle.sg_activate.specs.TableParts.{places_in, first_of}
use Rattle.sg_activate.specs.DescentRace.{slots_each, limits_of, slot_part, stock_at}
use Rattle.sg_activate.specs.Descending.{is_pointer, is_mask, last_fused, open_before, number_among, part_at}
use Rattle.sg_activate.specs.steps.DescentWalk.{places_at, places_past}
use Rattle.sg_activate.specs.steps.DescentPlans.{pointers_of, links_in, IsLinkedIn, IsSlotPart, ArePartsOf, IsRow, StandsNext, IsPlanOf, AddsSlots}
use Rattle.sg_activate.proofs.TakenNumbers.{contains_word}
use Rattle.sg_activate.proofs.DescentBridge.{size_at}
use Rattle.sg_activate.proofs.DescentAppends.{item-push, places-append, first-all, part-new}
use Rattle.sg_activate.proofs.DescentExtends.{Extends, first-slots-same, first-limits-same, over-stays, linked-stays, old-slot-part, old-mask-part, old-from}
use Rattle.sg_activate.proofs.DescentNodeSteps.{AtNode, number-one, number-none, number-le}
use Rattle.sg_activate.proofs.DescentPlans.{plan-more}

-- what a list contains is in it some times
pub times_some : (xs : List ℕ) (x : ℕ) → Contains xs x → 0 < times_in x xs
times_some [] x has = absurd (contains_none x has)
times_some (y ∷ ys) x has = elim (contains_cases x y ys has) [
  | inl here ↦ first_cases (λ n. 0 < n + times_in x ys) y x (λ _. omega arith) (λ other. absurd (other here))
  | inr later ↦ let r = times_some ys x later in omega arith
]

-- a live number is one of the pool
pub live_within : (live : List Bool) (n : ℕ) → slice_index_or live n false ≡ true → n < length live
live_within live n is = dite (dec_le (length live) n) (λ past. absurd (let none = get_or_past live n false past in cc)) (λ below. omega arith)

module _ (store : StoreWords) (old new : Plan) (plan : IsPlanOf store old) (size : ℕ)
    (at : AtNode store.shape.nodes store.nodes (places_at old.start old.start.head_places old.levels (length old.levels)) plan.next.live (open_before store.shape + length old.levels))
    (pointer : at.node.kind ≡ Pointer) (fused : open_before store.shape + length old.levels < last_fused store.shape) (there : open_before store.shape + length old.levels < length store.shape.nodes)
    (is-size : size ≡ slice_index (sizes_of store.shape.nodes) (open_before store.shape + length old.levels)) (adds : AddsSlots store (suc (open_before store.shape + length old.levels)) size old new) where
  abbrev total : ℕ
  total = pointers_of store.shape

  abbrev index : ℕ
  index = open_before store.shape + length old.levels

  abbrev above : ℕ
  above = places_at old.start old.start.head_places old.levels (length old.levels)

  abbrev part : SlotPart
  part = record { slots = length adds.links; places = adds.places; limit = length adds.stock; stock = length old.start.stock; over = old.over; width = old.width * size }

  abbrev level : Level
  level = record { kind = Pointer; size = size; part = length old.start.slot_parts; first = length old.start.links }

  abbrev here : ℕ
  here = length old.start.slot_parts

  more : Extends old.start new.start
  more = record {
    shape = adds.keeps.layout;
    keys = adds.keeps.keys;
    heads = adds.keeps.heads;
    head_places = adds.keeps.head_places;
    more_links = adds.links;
    links = adds.new_links;
    more_masks = [];
    masks = adds.masks ∙ sym (append-nil old.start.masks);
    more_stock = adds.stock;
    stock = adds.new_stock;
    more_slot_parts = part ∷ [];
    slot_parts = adds.slot_parts;
    more_mask_parts = [];
    mask_parts = adds.mask_parts ∙ sym (append-nil old.start.mask_parts);
  }

  -- ---- the node
  index-back : suc index - 1 ≡ index
  index-back = omega arith

  numbered : IsNumberedNode store.shape (suc index) at.node
  numbered = record { first = omega arith; there = ap (slice_get store.shape.nodes) index-back ∙ at.has_node }

  kept-links : adds.links ≡ at.kept.links
  kept-links = adds.is_links ∙ ap (λ i. links_or_none (slice_get store.nodes i)) index-back ∙ ap links_or_none at.has_kept

  kept-pool : pool_of store (suc index) ≡ at.kept.pool
  kept-pool = ap (λ i. pool_or_none (slice_get store.nodes i)) index-back ∙ ap pool_or_none at.has_kept

  node-size : size ≡ size_of at.node.sizes
  node-size = is-size ∙ size_at store.shape.nodes index at.node at.has_node

  is-node : IsPointerNode at.node at.kept (above * size_of at.node.sizes) (live_slot at.node plan.next.live)
  is-node = subst (λ k. IsNode k at.node at.kept (above * size_of at.node.sizes) (live_slot at.node plan.next.live)) pointer at.is_node

  cap-places : adds.places ≡ count_of at.node.cap + 17
  cap-places = adds.is_places at.node numbered

  linked-number : (i n : ℕ) → slice_index adds.links i ≡ suc n → n < adds.places
  linked-number i n e =
      let here : slice_index at.kept.links i ≡ suc n = ap (λ l. slice_index l i) (sym kept-links) ∙ e in
      let live = (is-node.live_linked n).1 (contains_word at.kept.links i n here) in
      let below = live_within at.kept.pool.live n live in
      let all = is-node.places in
      let cap = cap-places in omega arith

  small : (i n : ℕ) → slice_index adds.links i ≡ n → n ≤ adds.places
  small i zero e = omega arith
  small i (suc n) e = let r = linked-number i n e in omega arith

  in-stock : (t : ℕ) → t < length adds.stock → slice_index adds.stock t < adds.places
  in-stock t below =
      let free = (adds.is_stock.members (slice_index adds.stock t)).0 (Contains-get_or adds.stock t 0 below) in
      let b = free.below in
      let same : place_count (pool_of store (suc index)) ≡ place_count at.kept.pool = ap place_count kept-pool in
      let all = is-node.places in
      let cap = cap-places in omega arith

  -- ---- the new part
  many-slots : length (slots_each old.start) ≡ here
  many-slots = length-map old.start.slot_parts (λ (part : SlotPart). part.slots)

  many-limits : length (limits_of old.start) ≡ here
  many-limits = length-map old.start.slot_parts (λ (part : SlotPart). part.limit)

  slots-now : slots_each new.start ≡ slots_each old.start ++ length adds.links ∷ []
  slots-now = ap (map (λ (part : SlotPart). part.slots)) adds.slot_parts ∙ map-append (λ (part : SlotPart). part.slots) old.start.slot_parts (part ∷ [])

  limits-now : limits_of new.start ≡ limits_of old.start ++ length adds.stock ∷ []
  limits-now = ap (map (λ (part : SlotPart). part.limit)) adds.slot_parts ∙ map-append (λ (part : SlotPart). part.limit) old.start.slot_parts (part ∷ [])

  new-links : part_at (slots_each new.start) new.start.links here ≡ adds.links
  new-links =
      ap (λ s. part_at s new.start.links here) slots-now
      ∙ ap (λ w. part_at (slots_each old.start ++ length adds.links ∷ []) w here) adds.new_links
      ∙ ap (part_at (slots_each old.start ++ length adds.links ∷ []) (old.start.links ++ adds.links)) (sym many-slots)
      ∙ part-new (slots_each old.start) old.start.links adds.links plan.parts.slots

  new-stock : stock_at new.start here ≡ adds.stock
  new-stock =
      ap (λ s. part_at s new.start.stock here) limits-now
      ∙ ap (λ w. part_at (limits_of old.start ++ length adds.stock ∷ []) w here) adds.new_stock
      ∙ ap (part_at (limits_of old.start ++ length adds.stock ∷ []) (old.start.stock ++ adds.stock)) (sym many-limits)
      ∙ part-new (limits_of old.start) old.start.stock adds.stock plan.parts.stocks

  new-part : slot_part new.start here ≡ part
  new-part = item-push new.start.slot_parts old.start.slot_parts part _ here adds.slot_parts refl

  one-more : length new.start.slot_parts ≡ suc here
  one-more = ap length adds.slot_parts ∙ (let l = length_push old.start.slot_parts part in omega arith)

  step : number_among is_pointer store.shape.nodes (suc (suc index)) ≡ suc here
  step =
      let s = number-one is_pointer store.shape.nodes index at.node at.has_node (ap is_pointer pointer) in
      let c = plan.slot_count in omega arith

  few : suc here ≤ total
  few = let s = step in let l = number-le is_pointer store.shape.nodes (suc index) (last_fused store.shape) fused in omega arith

  hangs : (slot : ℕ) → 0 < slice_index adds.links slot → IsLinkedIn total new.start old.over (slot / (old.width * size))
  hangs slot some =
      let full : slice_index at.kept.links slot ≢ 0 = (λ e. let same = ap (λ l. slice_index l slot) kept-links in omega arith) in
      let live = is-node.in_live slot full in
      let linked = linked-stays total old.start new.start plan.parts more old.over (slot / size_of at.node.sizes / old.width) plan.stands (plan.next.linked (slot / size_of at.node.sizes) live) in
      let same : slot / size_of at.node.sizes / old.width ≡ slot / (old.width * size) =
      div-div-eq-div-mul slot (size_of at.node.sizes) old.width ∙ ap (λ n. slot / n) (mul_comm (size_of at.node.sizes) old.width ∙ ap (λ n. old.width * n) (sym node-size)) in
      subst (λ n. IsLinkedIn total new.start old.over n) same linked

  new-slot-part : IsSlotPart total new.start part adds.links adds.stock
  new-slot-part = record {
    few = (let c = is-node.link_count in let s = at.small in let e : length adds.links ≡ length at.kept.links = ap length kept-links in omega arith);
    places = adds.few;
    limit = (let r = adds.rest at.node numbered in let c = cap-places in let f = adds.few in omega arith);
    small = λ i. small i (slice_index adds.links i) refl;
    numbers = in-stock;
    over = over-stays total old.start new.start plan.parts more old.over plan.stands;
    hang = hangs;
  }

  new-parts : ArePartsOf total new.start
  new-parts = record {
    slots =
        (let a : length new.start.links ≡ length (old.start.links ++ adds.links) = ap length adds.new_links in
        let b = length-append old.start.links adds.links in
        let c = plan.parts.slots in
        let d : places_in (slots_each new.start) ≡ places_in (slots_each old.start ++ length adds.links ∷ []) = ap places_in slots-now in
        let e = places-append (slots_each old.start) (length adds.links ∷ []) in omega arith);
    masks = ap length adds.masks ∙ plan.parts.masks ∙ sym (ap (λ (ps : List MaskPart). places_in (map (λ (part : MaskPart). part.words) ps)) adds.mask_parts);
    stocks =
        (let a : length new.start.stock ≡ length (old.start.stock ++ adds.stock) = ap length adds.new_stock in
        let b = length-append old.start.stock adds.stock in
        let c = plan.parts.stocks in
        let d : places_in (limits_of new.start) ≡ places_in (limits_of old.start ++ length adds.stock ∷ []) = ap places_in limits-now in
        let e = places-append (limits_of old.start) (length adds.stock ∷ []) in omega arith);
    few = (let f = few in let o = one-more in omega arith);
    from = λ l below. dite (dec_le here l)
        (λ past.
        let e : here ≡ l = (let o = one-more in omega arith) in
        subst (λ l. (slot_part new.start l).stock ≡ first_of (limits_of new.start) l) e
        (ap (λ (p : SlotPart). p.stock) new-part ∙ plan.parts.stocks ∙ sym (first-all (limits_of old.start)) ∙ ap (first_of (limits_of old.start)) many-limits ∙ sym (first-limits-same total old.start new.start plan.parts more here (omega arith))))
        (λ before. old-from total old.start new.start plan.parts more l (omega arith));
    slot_parts = λ l below. dite (dec_le here l)
        (λ past.
        let e : here ≡ l = (let o = one-more in omega arith) in
        subst (λ l. IsSlotPart total new.start (slot_part new.start l) (part_at (slots_each new.start) new.start.links l) (stock_at new.start l)) e
        (subst (λ p. IsSlotPart total new.start p (part_at (slots_each new.start) new.start.links here) (stock_at new.start here)) (sym new-part)
        (subst (λ w. IsSlotPart total new.start part w (stock_at new.start here)) (sym new-links) (subst (λ s. IsSlotPart total new.start part adds.links s) (sym new-stock) new-slot-part))))
        (λ before. old-slot-part total old.start new.start plan.parts more l (omega arith));
    mask_parts = λ m below. old-mask-part total old.start new.start plan.parts more m (let e : length new.start.mask_parts ≡ length old.start.mask_parts = ap length adds.mask_parts in omega arith);
  }

  -- ---- the new level
  new-row : IsRow store (suc index) new.start level old.over old.width above
  new-row = record {
    there = omega arith;
    kind = sym (ap (λ i. kind_or (slice_get store.shape.nodes i)) index-back ∙ ap kind_or at.has_node ∙ pointer);
    size = is-size ∙ ap (slice_index (sizes_of store.shape.nodes)) (sym index-back);
    not_hash = λ (e : Pointer ≡ Hash). (cc);
    not_dynamic = λ (e : Pointer ≡ Dynamic). (cc);
    small = subst (λ n. above * n ≤ 2 ^ 47) (sym node-size) at.small;
    slots = λ _. record {
      part = plan.slot_count;
      there = (let o = one-more in omega arith);
      first = plan.parts.slots ∙ sym (first-all (slots_each old.start)) ∙ ap (first_of (slots_each old.start)) many-slots ∙ sym (first-slots-same total old.start new.start plan.parts more here (omega arith));
      part_over = ap (λ (p : SlotPart). p.over) new-part;
      part_width = ap (λ (p : SlotPart). p.width) new-part;
      fits = subst (λ (p : SlotPart). above * size ≤ p.slots) (sym new-part)
          (let c = is-node.link_count in let e : length adds.links ≡ length at.kept.links = ap length kept-links in let s : above * size ≡ above * size_of at.node.sizes = ap (λ n. above * n) node-size in omega arith);
      links = new-links ∙ adds.is_links;
      stock = subst (λ s. IsStock (pool_of store (suc index)) s) (sym new-stock) adds.is_stock;
    };
    masks = λ (e : Pointer ≡ Bitmasked). absurd (cc);
    some = λ _. (let a : length new.start.links ≡ length (old.start.links ++ adds.links) = ap length adds.new_links in let b = length-append old.start.links adds.links in let s = adds.some in omega arith);
  }

  -- ---- what the next node stands under
  links-there : links_in total new.start new.over ≡ at.kept.links
  links-there =
      let f = few in
      let other : (here == total) ≡ false = grind (arith, nat_tests) in
      ap (links_in total new.start) adds.over ∙ ap (λ b. cond b new.start.heads (part_at (slots_each new.start) new.start.links here)) other ∙ new-links ∙ kept-links

  new-places : places_past new.start Pointer here size above ≡ count_of at.node.cap + 17
  new-places = ap (λ (p : SlotPart). p.places) new-part ∙ cap-places

  next : StandsNext store (suc index) total new.start new.over new.width (places_past new.start Pointer here size above)
  next = record {
    live = live_below Pointer at.kept (live_slot at.node plan.next.live);
    nodes = subst (λ p. AreNodes (drop (suc index) store.shape.nodes) (drop (suc index) store.nodes) p (live_below Pointer at.kept (live_slot at.node plan.next.live))) (sym new-places)
        (subst (λ k. AreNodes (drop (suc index) store.shape.nodes) (drop (suc index) store.nodes) (places_below k at.node (above * size_of at.node.sizes)) (live_below k at.kept (live_slot at.node plan.next.live))) pointer at.below);
    linked = λ n live.
        (let some = times_some at.kept.links (suc n) ((is-node.live_linked n).0 live) in
        let same : n / new.width ≡ n = ap (λ w. n / w) adds.width ∙ div-one n in
        let next : suc n ≡ n / new.width + 1 = omega arith in
        subst (λ ls. 0 < times_in (n / new.width + 1) ls) (sym links-there) (subst (λ x. 0 < times_in x at.kept.links) next some));
  }

  pub slots_added : IsPlanOf store new
  slots_added = plan-more store old.start new.start old.levels new.levels level old.over old.width new.over new.width plan more adds.levels new-parts
      (one-more ∙ sym step)
      (ap length adds.mask_parts ∙ plan.mask_count ∙ sym (number-none is_mask store.shape.nodes index at.node at.has_node (ap is_mask pointer)))
      new-row adds.over adds.width
      (inr (let o = one-more in let v = adds.over in omega arith))
      (let w = adds.width in let p = new-places in omega arith)
      next
