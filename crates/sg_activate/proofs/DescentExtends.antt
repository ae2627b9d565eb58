-- What is planned stays as the words of more nodes follow.
use Rattle.std.proofs.Common.{◌≡◌, ℕ, ◌+◌, ◌*◌, ◌/◌, ◌<◌, ◌≤◌, inl, inr, true, cond, ◌==◌, List, ◌++◌, length, map, sym, ap, ◌∙◌, subst, arith}
use Rattle.std.specs.Prelude.{slice_index}
use Rattle.std.proofs.lemmas.Bool.Decides.{nat_tests}
use Rattle.std.proofs.lemmas.List.{length-append, length-map, map-append}
use Rattle.sg_words.specs.Counts.{times_in}
use Rattle.sg_hash.specs.Tables.{IsTable, AreBeside}
use Rattle.sg_pool.specs.Numbers.{IsStock}
use Rattle.sg_store.specs.StoreWords.{StoreWords}
use Rattle.sg_store.specs.Opening.{pool_of}
use Rattle.sg_activate.specs.declared.descent.rule.Start.{Start}
use Rattle.sg_activate.specs.declared.descent.rule.SlotPart.{SlotPart}
use Rattle.sg_activate.specs.declared.descent.rule.MaskPart.{MaskPart}
use Rattle.sg_activate.specs.declared.descent.level.Level.{Level}
use Rattle.sg_activate.specs.TableParts.{first_of}
use Rattle.sg_activate.specs.DescentRace.{slots_each, limits_of, words_each, slot_part, mask_part, stock_at}
use Rattle.sg_activate.specs.Descending.{part_at}
use Rattle.sg_activate.specs.steps.DescentParts.{AreHeads}
use Rattle.sg_activate.specs.steps.DescentPlans.{links_in, IsLinkedIn, IsOver, IsSlotPart, IsMaskPart, ArePartsOf, IsSlotRow, IsMaskRow, IsRow}
use Rattle.sg_activate.proofs.DescentAppends.{item-append, first-append, part-append}

-- a start with more words behind
pub record Extends (start now : Start) : Type 0 where
  pub shape : now.layout ≡ start.layout
  pub keys : now.keys ≡ start.keys
  pub heads : now.heads ≡ start.heads
  pub head_places : now.head_places ≡ start.head_places
  pub more_links : List ℕ
  pub links : now.links ≡ start.links ++ more_links
  pub more_masks : List ℕ
  pub masks : now.masks ≡ start.masks ++ more_masks
  pub more_stock : List ℕ
  pub stock : now.stock ≡ start.stock ++ more_stock
  pub more_slot_parts : List SlotPart
  pub slot_parts : now.slot_parts ≡ start.slot_parts ++ more_slot_parts
  pub more_mask_parts : List MaskPart
  pub mask_parts : now.mask_parts ≡ start.mask_parts ++ more_mask_parts

pub heads-stay : (start now : Start) (base : ℕ) → Extends start now → AreHeads start base → AreHeads now base
heads-stay start now base more are = record {
  root = λ e. (more.heads ∙ (are.root e).0, more.head_places ∙ (are.root e).1);
  some = λ e. subst (λ k. 0 < length k) (sym more.keys) (are.some e);
  table = λ e. subst (λ k. IsTable k) (sym more.keys) (are.table e);
  links = λ e. subst (λ k. AreBeside k now.heads) (sym more.keys) (subst (λ h. AreBeside start.keys h) (sym more.heads) (are.links e));
  small = λ i. subst (λ h. slice_index h i ≤ now.head_places) (sym more.heads) (subst (λ p. slice_index start.heads i ≤ p) (sym more.head_places) (are.small i));
}

module _ (total : ℕ) (start now : Start) (parts : ArePartsOf total start) (more : Extends start now) where
  slots-more : slots_each now ≡ slots_each start ++ map (λ (part : SlotPart). part.slots) more.more_slot_parts
  slots-more = ap (map (λ (part : SlotPart). part.slots)) more.slot_parts ∙ map-append (λ (part : SlotPart). part.slots) start.slot_parts more.more_slot_parts

  limits-more : limits_of now ≡ limits_of start ++ map (λ (part : SlotPart). part.limit) more.more_slot_parts
  limits-more = ap (map (λ (part : SlotPart). part.limit)) more.slot_parts ∙ map-append (λ (part : SlotPart). part.limit) start.slot_parts more.more_slot_parts

  words-more : words_each now ≡ words_each start ++ map (λ (part : MaskPart). part.words) more.more_mask_parts
  words-more = ap (map (λ (part : MaskPart). part.words)) more.mask_parts ∙ map-append (λ (part : MaskPart). part.words) start.mask_parts more.more_mask_parts

  many-slots : length (slots_each start) ≡ length start.slot_parts
  many-slots = length-map start.slot_parts (λ (part : SlotPart). part.slots)

  many-limits : length (limits_of start) ≡ length start.slot_parts
  many-limits = length-map start.slot_parts (λ (part : SlotPart). part.limit)

  many-words : length (words_each start) ≡ length start.mask_parts
  many-words = length-map start.mask_parts (λ (part : MaskPart). part.words)

  pub slot-part-same : (l : ℕ) → l < length start.slot_parts → slot_part now l ≡ slot_part start l
  slot-part-same l there = item-append now.slot_parts start.slot_parts more.more_slot_parts l _ more.slot_parts there

  pub mask-part-same : (m : ℕ) → m < length start.mask_parts → mask_part now m ≡ mask_part start m
  mask-part-same m there = item-append now.mask_parts start.mask_parts more.more_mask_parts m _ more.mask_parts there

  pub first-slots-same : (l : ℕ) → l ≤ length start.slot_parts → first_of (slots_each now) l ≡ first_of (slots_each start) l
  first-slots-same l there = ap (λ s. first_of s l) slots-more ∙ first-append (slots_each start) (map (λ (part : SlotPart). part.slots) more.more_slot_parts) l (let m = many-slots in omega arith)

  pub first-limits-same : (l : ℕ) → l ≤ length start.slot_parts → first_of (limits_of now) l ≡ first_of (limits_of start) l
  first-limits-same l there = ap (λ s. first_of s l) limits-more ∙ first-append (limits_of start) (map (λ (part : SlotPart). part.limit) more.more_slot_parts) l (let m = many-limits in omega arith)

  pub first-words-same : (m : ℕ) → m ≤ length start.mask_parts → first_of (words_each now) m ≡ first_of (words_each start) m
  first-words-same m there = ap (λ s. first_of s m) words-more ∙ first-append (words_each start) (map (λ (part : MaskPart). part.words) more.more_mask_parts) m (let e = many-words in omega arith)

  pub links-same : (l : ℕ) → l < length start.slot_parts → part_at (slots_each now) now.links l ≡ part_at (slots_each start) start.links l
  links-same l there =
      ap (λ s. part_at s now.links l) slots-more
      ∙ ap (λ w. part_at (slots_each start ++ map (λ (part : SlotPart). part.slots) more.more_slot_parts) w l) more.links
      ∙ part-append (slots_each start) (map (λ (part : SlotPart). part.slots) more.more_slot_parts) start.links more.more_links l parts.slots (let m = many-slots in omega arith)

  pub stock-same : (l : ℕ) → l < length start.slot_parts → stock_at now l ≡ stock_at start l
  stock-same l there =
      ap (λ s. part_at s now.stock l) limits-more
      ∙ ap (λ w. part_at (limits_of start ++ map (λ (part : SlotPart). part.limit) more.more_slot_parts) w l) more.stock
      ∙ part-append (limits_of start) (map (λ (part : SlotPart). part.limit) more.more_slot_parts) start.stock more.more_stock l parts.stocks (let m = many-limits in omega arith)

  pub masks-same : (m : ℕ) → m < length start.mask_parts → part_at (words_each now) now.masks m ≡ part_at (words_each start) start.masks m
  masks-same m there =
      ap (λ s. part_at s now.masks m) words-more
      ∙ ap (λ w. part_at (words_each start ++ map (λ (part : MaskPart). part.words) more.more_mask_parts) w m) more.masks
      ∙ part-append (words_each start) (map (λ (part : MaskPart). part.words) more.more_mask_parts) start.masks more.more_masks m parts.masks (let e = many-words in omega arith)

  -- ---- what stands above
  pub longer : length start.slot_parts ≤ length now.slot_parts
  longer = let e : length now.slot_parts ≡ length (start.slot_parts ++ more.more_slot_parts) = ap length more.slot_parts in let f = length-append start.slot_parts more.more_slot_parts in omega arith

  longer-masks : length start.mask_parts ≤ length now.mask_parts
  longer-masks = let e : length now.mask_parts ≡ length (start.mask_parts ++ more.more_mask_parts) = ap length more.mask_parts in let f = length-append start.mask_parts more.more_mask_parts in omega arith

  words-longer : length start.links + length start.masks ≤ length now.links + length now.masks
  words-longer =
      let e : length now.links ≡ length (start.links ++ more.more_links) = ap length more.links in
      let f = length-append start.links more.more_links in
      let g : length now.masks ≡ length (start.masks ++ more.more_masks) = ap length more.masks in
      let h = length-append start.masks more.more_masks in omega arith

  over-same : (over : ℕ) → IsOver total start over → links_in total now over ≡ links_in total start over
  over-same over (inl same) =
      let here : (over == total) ≡ true = grind (arith, nat_tests) in
      ap (λ b. cond b now.heads (part_at (slots_each now) now.links over)) here ∙ more.heads ∙ sym (ap (λ b. cond b start.heads (part_at (slots_each start) start.links over)) here)
  over-same over (inr there) =
      ap (λ h. cond (over == total) h (part_at (slots_each now) now.links over)) more.heads ∙ ap (λ w. cond (over == total) start.heads w) (links-same over there)

  pub over-stays : (over : ℕ) → IsOver total start over → IsOver total now over
  over-stays over (inl same) = inl same
  over-stays over (inr there) = let l = longer in inr (omega arith)

  pub linked-stays : (over n : ℕ) → IsOver total start over → IsLinkedIn total start over n → IsLinkedIn total now over n
  linked-stays over n is linked = subst (λ ls. 0 < times_in (n + 1) ls) (sym (over-same over is)) linked

  -- ---- parts
  slot-part-stays : (part : SlotPart) (links stock : List ℕ) → IsSlotPart total start part links stock → IsSlotPart total now part links stock
  slot-part-stays part links stock is = record {
    few = is.few;
    places = is.places;
    limit = is.limit;
    small = is.small;
    numbers = is.numbers;
    over = over-stays part.over is.over;
    hang = λ slot some. linked-stays part.over (slot / part.width) is.over (is.hang slot some);
  }

  mask-part-stays : (part : MaskPart) (masks : List ℕ) → IsMaskPart total start part masks → IsMaskPart total now part masks
  mask-part-stays part masks is = record { few = is.few; over = over-stays part.over is.over; hang = λ bit some. linked-stays part.over (bit / part.width) is.over (is.hang bit some) }

  pub old-slot-part : (l : ℕ) → l < length start.slot_parts → IsSlotPart total now (slot_part now l) (part_at (slots_each now) now.links l) (stock_at now l)
  old-slot-part l there =
      subst (λ p. IsSlotPart total now p (part_at (slots_each now) now.links l) (stock_at now l)) (sym (slot-part-same l there))
      (subst (λ w. IsSlotPart total now (slot_part start l) w (stock_at now l)) (sym (links-same l there))
      (subst (λ s. IsSlotPart total now (slot_part start l) (part_at (slots_each start) start.links l) s) (sym (stock-same l there))
      (slot-part-stays (slot_part start l) (part_at (slots_each start) start.links l) (stock_at start l) (parts.slot_parts l there))))

  pub old-mask-part : (m : ℕ) → m < length start.mask_parts → IsMaskPart total now (mask_part now m) (part_at (words_each now) now.masks m)
  old-mask-part m there =
      subst (λ p. IsMaskPart total now p (part_at (words_each now) now.masks m)) (sym (mask-part-same m there))
      (subst (λ w. IsMaskPart total now (mask_part start m) w) (sym (masks-same m there))
      (mask-part-stays (mask_part start m) (part_at (words_each start) start.masks m) (parts.mask_parts m there)))

  pub old-from : (l : ℕ) → l < length start.slot_parts → (slot_part now l).stock ≡ first_of (limits_of now) l
  old-from l there = ap (λ (p : SlotPart). p.stock) (slot-part-same l there) ∙ parts.from l there ∙ sym (first-limits-same l (omega arith))

  -- ---- levels
  slot-row-stays : (store : StoreWords) (number : ℕ) (level : Level) (over width places : ℕ) → IsSlotRow store number start level over width places → IsSlotRow store number now level over width places
  slot-row-stays store number level over width places is = record {
    part = is.part;
    there = (let l = longer in let t = is.there in omega arith);
    first = is.first ∙ sym (first-slots-same level.part (let t = is.there in omega arith));
    part_over = ap (λ (p : SlotPart). p.over) (slot-part-same level.part is.there) ∙ is.part_over;
    part_width = ap (λ (p : SlotPart). p.width) (slot-part-same level.part is.there) ∙ is.part_width;
    fits = subst (λ (p : SlotPart). places * level.size ≤ p.slots) (sym (slot-part-same level.part is.there)) is.fits;
    links = links-same level.part is.there ∙ is.links;
    stock = subst (λ s. IsStock (pool_of store number) s) (sym (stock-same level.part is.there)) is.stock;
  }

  mask-row-stays : (store : StoreWords) (number : ℕ) (level : Level) (over width places : ℕ) → IsMaskRow store number start level over width places → IsMaskRow store number now level over width places
  mask-row-stays store number level over width places is = record {
    part = is.part;
    there = (let l = longer-masks in let t = is.there in omega arith);
    first = is.first ∙ ap (λ n. n * 64) (sym (first-words-same level.part (let t = is.there in omega arith)));
    part_over = ap (λ (p : MaskPart). p.over) (mask-part-same level.part is.there) ∙ is.part_over;
    part_width = ap (λ (p : MaskPart). p.width) (mask-part-same level.part is.there) ∙ is.part_width;
    fits = subst (λ (p : MaskPart). places * level.size ≤ p.words * 64) (sym (mask-part-same level.part is.there)) is.fits;
    masks = masks-same level.part is.there ∙ is.masks;
  }

  pub row-stays : (store : StoreWords) (number : ℕ) (level : Level) (over width places : ℕ) → IsRow store number start level over width places → IsRow store number now level over width places
  row-stays store number level over width places is = record {
    there = is.there;
    kind = is.kind;
    size = is.size;
    not_hash = is.not_hash;
    not_dynamic = is.not_dynamic;
    small = is.small;
    slots = λ e. slot-row-stays store number level over width places (is.slots e);
    masks = λ e. mask-row-stays store number level over width places (is.masks e);
    some = λ e. (let s = is.some e in let l = words-longer in omega arith);
  }
