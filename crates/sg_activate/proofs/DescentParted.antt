-- The part of the table that a level is, as the end of a descent reads it.
use Rattle.std.proofs.Common.{◌≡◌, ℕ, suc, ◌+◌, ◌*◌, ◌/◌, ◌<◌, ◌≤◌, List, length, sym, ap, ◌∙◌, subst, arith}
use Rattle.std.specs.Prelude.{slice_index, slice_index_or}
use Rattle.std.proofs.lemmas.List.{length-map, get_or-map}
use Rattle.sg_layout.specs.declared.shape.Kind.TheVariants.{Bitmasked, Pointer}
use Rattle.sg_words.specs.Ranges.{range_at}
use Rattle.sg_activate.specs.declared.descent.rule.Start.{Start}
use Rattle.sg_activate.specs.declared.descent.rule.SlotPart.{SlotPart}
use Rattle.sg_activate.specs.declared.descent.rule.MaskPart.{MaskPart}
use Rattle.sg_activate.specs.declared.descent.level.Level.{Level}
use Rattle.sg_activate.specs.TableParts.{first_of}
use Rattle.sg_activate.specs.DescentRace.{slots_each, words_each, limits_of}
use Rattle.sg_activate.specs.Descending.{pointer_number, mask_number}
use Rattle.sg_activate.specs.steps.DescentWalk.{level_at}
use Rattle.sg_activate.specs.steps.DescentEnds.{AreLevels, slots_of_node, masks_of_node}
use Rattle.sg_activate.proofs.DescentParts.{part-fits}

module _ (start : Start) (base : ℕ) (levels : List Level) (are : AreLevels start base levels) (k : ℕ) (below : k < length levels) where
  pub pointer_level : (level : Level) → level ≡ level_at levels k → (level_at levels k).kind ≡ Pointer
      → (level.part < length start.slot_parts) × (level.part ≡ pointer_number start (suc (base + k))) × (level.first ≡ first_of (slots_each start) (pointer_number start (suc (base + k))))
  pointer_level level is kind =
      let row = are.each k below in
      let e = row.pointer kind in (
        subst (λ (l : Level). l.part < length start.slot_parts) (sym is) (are.slot_parts k below kind),
        ap (λ (l : Level). l.part) is ∙ e.0,
        ap (λ (l : Level). l.first) is ∙ e.1,
      )

  pub masked_level : (level : Level) → level ≡ level_at levels k → (level_at levels k).kind ≡ Bitmasked
      → (level.part < length start.mask_parts) × (level.part ≡ mask_number start (suc (base + k))) × (level.first ≡ first_of (words_each start) (mask_number start (suc (base + k))) * 64)
  masked_level level is kind =
      let row = are.each k below in
      let e = row.masked kind in (
        subst (λ (l : Level). l.part < length start.mask_parts) (sym is) (are.mask_parts k below kind),
        ap (λ (l : Level). l.part) is ∙ e.0,
        ap (λ (l : Level). l.first) is ∙ e.1,
      )

  -- what is read of a part
  pub slots_read : (xs : List SlotPart) (d : SlotPart) (l : ℕ) → xs ≡ start.slot_parts → l < length start.slot_parts → (slice_index_or xs l d).slots ≡ slice_index (slots_each start) l
  slots_read xs d l is there = ap (λ xs. (slice_index_or xs l d).slots) is ∙ sym (get_or-map (λ (part : SlotPart). part.slots) start.slot_parts l d 0 there)

  pub limit_read : (xs : List SlotPart) (d : SlotPart) (l : ℕ) → xs ≡ start.slot_parts → l < length start.slot_parts → (slice_index_or xs l d).limit ≡ slice_index (limits_of start) l
  limit_read xs d l is there = ap (λ xs. (slice_index_or xs l d).limit) is ∙ sym (get_or-map (λ (part : SlotPart). part.limit) start.slot_parts l d 0 there)

  pub words_read : (xs : List MaskPart) (d : MaskPart) (l : ℕ) → xs ≡ start.mask_parts → l < length start.mask_parts → (slice_index_or xs l d).words ≡ slice_index (words_each start) l
  words_read xs d l is there = ap (λ xs. (slice_index_or xs l d).words) is ∙ sym (get_or-map (λ (part : MaskPart). part.words) start.mask_parts l d 0 there)

  -- the range is within the table
  pub slots_fit : (level : Level) (many : ℕ) → level ≡ level_at levels k → (level_at levels k).kind ≡ Pointer → many ≡ slice_index (slots_each start) level.part → level.first + many ≤ length start.links
  slots_fit level many is kind e =
      let l = pointer_level level is kind in
      let there = l.0 in
      let long = length-map start.slot_parts (λ (part : SlotPart). part.slots) in
      let fits = part-fits (slots_each start) level.part (omega arith) in
      let first : level.first ≡ first_of (slots_each start) level.part = l.2 ∙ ap (first_of (slots_each start)) (sym l.1) in
      let all = are.laid.slots in omega arith

  pub slots_are : (level : Level) (many : ℕ) (words : List ℕ) → level ≡ level_at levels k → (level_at levels k).kind ≡ Pointer → many ≡ slice_index (slots_each start) level.part
      → range_at level.first many words ≡ slots_of_node start (suc (base + k)) words
  slots_are level many words is kind e =
      let l = pointer_level level is kind in
      ap (λ n. range_at n many words) l.2 ∙ ap (λ n. range_at (first_of (slots_each start) (pointer_number start (suc (base + k)))) n words) (e ∙ ap (slice_index (slots_each start)) l.1)

  pub bits_fit : (level : Level) (many : ℕ) → level ≡ level_at levels k → (level_at levels k).kind ≡ Bitmasked → many ≡ slice_index (words_each start) level.part → level.first / 64 + many ≤ length start.masks
  bits_fit level many is kind e =
      let l = masked_level level is kind in
      let there = l.0 in
      let long = length-map start.mask_parts (λ (part : MaskPart). part.words) in
      let fits = part-fits (words_each start) level.part (omega arith) in
      let first : level.first ≡ first_of (words_each start) level.part * 64 = l.2 ∙ ap (λ n. first_of (words_each start) n * 64) (sym l.1) in
      let all = are.laid.masks in omega arith

  pub bits_are : (level : Level) (many : ℕ) (words : List ℕ) → level ≡ level_at levels k → (level_at levels k).kind ≡ Bitmasked → many ≡ slice_index (words_each start) level.part
      → range_at (level.first / 64) many words ≡ masks_of_node start (suc (base + k)) words
  bits_are level many words is kind e =
      let l = masked_level level is kind in
      let at = l.2 in
      let first : level.first / 64 ≡ first_of (words_each start) (mask_number start (suc (base + k))) = omega arith in
      ap (λ n. range_at n many words) first ∙ ap (λ n. range_at (first_of (words_each start) (mask_number start (suc (base + k)))) n words) (e ∙ ap (slice_index (words_each start)) l.1)
