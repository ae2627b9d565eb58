-- A plan with a bitmasked node more.
use Rattle.std.proofs.Common.{◌≡◌, ℕ, suc, ◌+◌, ◌-◌, ◌*◌, ◌/◌, ◌%◌, ◌<◌, ◌≤◌, true, min, ◌==◌, List, [], ◌∷◌, ◌++◌, length, map, drop, refl, sym, ap, ◌∙◌, subst, arith}
use Rattle.std.specs.Prelude.{slice_index, slice_get}
use Rattle.std.proofs.lemmas.Bool.Decides.{nat_tests}
use Rattle.std.proofs.lemmas.List.{length-append, length-map, length_push, map-append, append-nil}
use Rattle.std.proofs.lemmas.Grind.{div_ceil_times}
use mathlib.Core.Logic.{dite}
use native.Mathlib.Decide.{dec_le}
use Rattle.sg_words.specs.Counts.{bit_in}
use Rattle.sg_layout.specs.declared.shape.Kind.TheVariants.{Bitmasked, Pointer, Hash, Dynamic}
use Rattle.sg_layout.specs.Axes.{size_of, sizes_of}
use Rattle.sg_store.specs.StoreWords.{StoreWords}
use Rattle.sg_store.specs.WellFormed.{IsMaskNode, IsNode, AreNodes, places_below, live_below, live_slot}
use Rattle.sg_store.specs.Slots.{mask_bit}
use Rattle.sg_store.specs.Opening.{masks_or_none}
use Rattle.sg_activate.specs.declared.descent.rule.SlotPart.{SlotPart}
use Rattle.sg_activate.specs.declared.descent.rule.MaskPart.{MaskPart}
use Rattle.sg_activate.specs.declared.descent.level.Level.{Level}
use Rattle.sg_activate.specs.declared.descent.plan.Plan.{Plan}
use Rattle.sg_activate.specs.TableParts.{places_in, first_of}
use Rattle.sg_activate.specs.DescentRace.{words_each, mask_part}
use Rattle.sg_activate.specs.Descending.{is_pointer, is_mask, open_before, number_among, part_at}
use Rattle.sg_activate.specs.steps.DescentWalk.{places_at}
use Rattle.sg_activate.specs.steps.DescentPlans.{pointers_of, IsLinkedIn, IsOver, IsMaskPart, ArePartsOf, IsRow, StandsNext, IsPlanOf, AddsMasks}
use Rattle.sg_activate.proofs.DescentAppends.{item-push, places-append, first-all, part-new}
use Rattle.sg_activate.proofs.DescentExtends.{Extends, first-words-same, over-stays, linked-stays, old-slot-part, old-mask-part, old-from}
use Rattle.sg_activate.proofs.DescentNodeSteps.{AtNode, number-one}
use Rattle.sg_activate.proofs.DescentPlans.{plan-more}
use Rattle.sg_activate.proofs.DescentNextNode.{node-size, node-kind, size-there, slot-linked, small-now, wide-now, same-count}

module _ (store : StoreWords) (old new : Plan) (plan : IsPlanOf store old) (size : ℕ)
    (at : AtNode store.shape.nodes store.nodes (places_at old.start old.start.head_places old.levels (length old.levels)) plan.next.live (open_before store.shape + length old.levels))
    (masked : at.node.kind ≡ Bitmasked) (there : open_before store.shape + length old.levels < length store.shape.nodes)
    (is-size : size ≡ slice_index (sizes_of store.shape.nodes) (open_before store.shape + length old.levels)) (adds : AddsMasks store (suc (open_before store.shape + length old.levels)) size old new) where
  abbrev total : ℕ
  total = pointers_of store.shape

  abbrev index : ℕ
  index = open_before store.shape + length old.levels

  abbrev above : ℕ
  above = places_at old.start old.start.head_places old.levels (length old.levels)

  abbrev part : MaskPart
  part = record { words = length adds.masks; over = old.over; width = old.width * size }

  abbrev level : Level
  level = record { kind = Bitmasked; size = size; part = length old.start.mask_parts; first = length old.start.masks * 64 }

  abbrev here : ℕ
  here = length old.start.mask_parts

  more : Extends old.start new.start
  more = record {
    shape = adds.keeps.layout;
    keys = adds.keeps.keys;
    heads = adds.keeps.heads;
    head_places = adds.keeps.head_places;
    more_links = [];
    links = adds.links ∙ sym (append-nil old.start.links);
    more_masks = adds.masks;
    masks = adds.new_masks;
    more_stock = [];
    stock = adds.stock ∙ sym (append-nil old.start.stock);
    more_slot_parts = [];
    slot_parts = adds.slot_parts ∙ sym (append-nil old.start.slot_parts);
    more_mask_parts = part ∷ [];
    mask_parts = adds.mask_parts;
  }

  index-back : suc index - 1 ≡ index
  index-back = omega arith

  kept-masks : adds.masks ≡ at.kept.masks
  kept-masks = adds.is_masks ∙ ap (λ i. masks_or_none (slice_get store.nodes i)) index-back ∙ ap masks_or_none at.has_kept

  is-node : IsMaskNode at.kept (above * size_of at.node.sizes) (live_slot at.node plan.next.live)
  is-node = subst (λ k. IsNode k at.node at.kept (above * size_of at.node.sizes) (live_slot at.node plan.next.live)) masked at.is_node

  many-words : length (words_each old.start) ≡ here
  many-words = length-map old.start.mask_parts (λ (part : MaskPart). part.words)

  words-now : words_each new.start ≡ words_each old.start ++ length adds.masks ∷ []
  words-now = ap (map (λ (part : MaskPart). part.words)) adds.mask_parts ∙ map-append (λ (part : MaskPart). part.words) old.start.mask_parts (part ∷ [])

  new-masks : part_at (words_each new.start) new.start.masks here ≡ adds.masks
  new-masks =
      ap (λ s. part_at s new.start.masks here) words-now
      ∙ ap (λ w. part_at (words_each old.start ++ length adds.masks ∷ []) w here) adds.new_masks
      ∙ ap (part_at (words_each old.start ++ length adds.masks ∷ []) (old.start.masks ++ adds.masks)) (sym many-words)
      ∙ part-new (words_each old.start) old.start.masks adds.masks plan.parts.masks

  new-part : mask_part new.start here ≡ part
  new-part = item-push new.start.mask_parts old.start.mask_parts part _ here adds.mask_parts refl

  one-more : length new.start.mask_parts ≡ suc here
  one-more = ap length adds.mask_parts ∙ (let l = length_push old.start.mask_parts part in omega arith)

  step : number_among is_mask store.shape.nodes (suc (suc index)) ≡ suc here
  step =
      let s = number-one is_mask store.shape.nodes index at.node at.has_node (ap is_mask masked) in
      let c = plan.mask_count in omega arith

  -- the bits
  covers : (above * size ≤ length adds.masks * 64) × (length adds.masks * 64 < above * size + 64)
  covers =
      let c = div_ceil_times (above * size_of at.node.sizes) 64 (omega arith) in
      let n : length adds.masks ≡ (above * size_of at.node.sizes) / 64 + min 1 ((above * size_of at.node.sizes) % 64) = ap length kept-masks ∙ is-node.word_count in
      let s : above * size ≡ above * size_of at.node.sizes = ap (λ n. above * n) (node-size store old plan size at is-size) in
      let a = c.0 in
      let b = c.1 in (omega arith, omega arith)

  hangs : (bit : ℕ) → 0 < bit_in adds.masks bit → IsLinkedIn total new.start old.over (bit / (old.width * size))
  hangs bit some =
      let below : bit_in adds.masks bit < 2 = omega arith in
      let one' : (bit_in adds.masks bit == 1) ≡ true = grind (arith, nat_tests) in
      let set : mask_bit at.kept.masks bit ≡ true = ap (λ m. mask_bit m bit) (sym kept-masks) ∙ one' in
      linked-stays total old.start new.start plan.parts more old.over (bit / (old.width * size)) plan.stands (slot-linked store old plan size at is-size bit (is-node.in_live bit set))

  new-mask-part : IsMaskPart total new.start part adds.masks
  new-mask-part = record {
    few = (let c = covers in let a = c.1 in let s = small-now store old plan size at is-size in omega arith);
    over = over-stays total old.start new.start plan.parts more old.over plan.stands;
    hang = hangs;
  }

  new-parts : ArePartsOf total new.start
  new-parts = record {
    slots = ap length adds.links ∙ plan.parts.slots ∙ sym (ap (λ (ps : List SlotPart). places_in (map (λ (part : SlotPart). part.slots) ps)) adds.slot_parts);
    masks =
        (let a : length new.start.masks ≡ length (old.start.masks ++ adds.masks) = ap length adds.new_masks in
        let b = length-append old.start.masks adds.masks in
        let c = plan.parts.masks in
        let d : places_in (words_each new.start) ≡ places_in (words_each old.start ++ length adds.masks ∷ []) = ap places_in words-now in
        let e = places-append (words_each old.start) (length adds.masks ∷ []) in omega arith);
    stocks = ap length adds.stock ∙ plan.parts.stocks ∙ sym (ap (λ (ps : List SlotPart). places_in (map (λ (part : SlotPart). part.limit) ps)) adds.slot_parts);
    few = (let e : length new.start.slot_parts ≡ length old.start.slot_parts = ap length adds.slot_parts in let f = plan.parts.few in omega arith);
    from = λ l below. old-from total old.start new.start plan.parts more l (let e : length new.start.slot_parts ≡ length old.start.slot_parts = ap length adds.slot_parts in omega arith);
    slot_parts = λ l below. old-slot-part total old.start new.start plan.parts more l (let e : length new.start.slot_parts ≡ length old.start.slot_parts = ap length adds.slot_parts in omega arith);
    mask_parts = λ m below. dite (dec_le here m)
        (λ past.
        let e : here ≡ m = (let o = one-more in omega arith) in
        subst (λ m. IsMaskPart total new.start (mask_part new.start m) (part_at (words_each new.start) new.start.masks m)) e
        (subst (λ p. IsMaskPart total new.start p (part_at (words_each new.start) new.start.masks here)) (sym new-part)
        (subst (λ w. IsMaskPart total new.start part w) (sym new-masks) new-mask-part)))
        (λ before. old-mask-part total old.start new.start plan.parts more m (omega arith));
  }

  new-row : IsRow store (suc index) new.start level old.over old.width above
  new-row = record {
    there = omega arith;
    kind = sym masked ∙ node-kind store old plan size at is-size;
    size = size-there store old plan size at is-size;
    not_hash = λ (e : Bitmasked ≡ Hash). (cc);
    not_dynamic = λ (e : Bitmasked ≡ Dynamic). (cc);
    small = small-now store old plan size at is-size;
    slots = λ (e : Bitmasked ≡ Pointer). absurd (cc);
    masks = λ _. record {
      part = plan.mask_count;
      there = (let o = one-more in omega arith);
      first = ap (λ n. n * 64) (plan.parts.masks ∙ sym (first-all (words_each old.start)) ∙ ap (first_of (words_each old.start)) many-words ∙ sym (first-words-same total old.start new.start plan.parts more here (omega arith)));
      part_over = ap (λ (p : MaskPart). p.over) new-part;
      part_width = ap (λ (p : MaskPart). p.width) new-part;
      fits = subst (λ (p : MaskPart). above * size ≤ p.words * 64) (sym new-part) (covers).0;
      masks = new-masks ∙ adds.is_masks;
    };
    some = λ _. (let a : length new.start.masks ≡ length (old.start.masks ++ adds.masks) = ap length adds.new_masks in let b = length-append old.start.masks adds.masks in let s = adds.some in omega arith);
  }

  next : StandsNext store (suc index) total new.start new.over new.width (above * size)
  next = record {
    live = live_below Bitmasked at.kept (live_slot at.node plan.next.live);
    nodes = subst (λ n. AreNodes (drop (suc index) store.shape.nodes) (drop (suc index) store.nodes) (above * n) (live_below Bitmasked at.kept (live_slot at.node plan.next.live))) (sym (node-size store old plan size at is-size))
        (subst (λ k. AreNodes (drop (suc index) store.shape.nodes) (drop (suc index) store.nodes) (places_below k at.node (above * size_of at.node.sizes)) (live_below k at.kept (live_slot at.node plan.next.live))) masked at.below);
    linked = λ slot live.
        subst (λ w. IsLinkedIn total new.start new.over (slot / w)) (sym adds.width) (subst (λ o. IsLinkedIn total new.start o (slot / (old.width * size))) (sym adds.over)
        (linked-stays total old.start new.start plan.parts more old.over (slot / (old.width * size)) plan.stands (slot-linked store old plan size at is-size slot live)));
  }

  pub masks_added : IsPlanOf store new
  masks_added = plan-more store old.start new.start old.levels new.levels level old.over old.width new.over new.width plan more adds.levels new-parts
      (ap length adds.slot_parts ∙ plan.slot_count ∙ same-count store old plan size at is-size is_pointer (ap is_pointer masked))
      (one-more ∙ sym step)
      new-row adds.over adds.width
      (subst (λ o. IsOver total new.start o) (sym adds.over) (over-stays total old.start new.start plan.parts more old.over plan.stands))
      (subst (λ w. w ≤ above * size) (sym adds.width) (wide-now store old plan size at is-size))
      next
