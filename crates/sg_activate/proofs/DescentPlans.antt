-- A plan with one node more.
use Rattle.std.proofs.Common.{◌≡◌, ℕ, suc, ◌+◌, ◌<◌, ◌≤◌, List, [], ◌∷◌, ◌++◌, length, refl, sym, ap, ◌∙◌, subst, arith}
use Rattle.std.proofs.lemmas.List.{length_push, get_or_push}
use mathlib.Core.Logic.{dite}
use native.Mathlib.Decide.{dec_le}
use Rattle.sg_store.specs.StoreWords.{StoreWords}
use Rattle.sg_activate.specs.declared.descent.rule.Start.{Start}
use Rattle.sg_activate.specs.declared.descent.rule.SlotPart.{SlotPart}
use Rattle.sg_activate.specs.declared.descent.level.Level.{Level}
use Rattle.sg_activate.specs.Descending.{is_pointer, is_mask, open_before, number_among}
use Rattle.sg_activate.specs.steps.DescentWalk.{level_at, over_past, over_at, width_past, width_at, places_past, places_at}
use Rattle.sg_activate.specs.steps.DescentPlans.{pointers_of, IsOver, ArePartsOf, IsRow, StandsNext, IsPlan}
use Rattle.sg_activate.proofs.DescentWalks.{over-next, width-next, places-next}
use Rattle.sg_activate.proofs.DescentAppends.{level-append, over-append, width-append, places-levels-append, places-same}
use Rattle.sg_activate.proofs.DescentExtends.{Extends, heads-stay, slot-part-same, row-stays}

-- a row of a level that is the same, under the same
row-is : (store : StoreWords) (number : ℕ) (start : Start) (level level' : Level) (over over' width width' places places' : ℕ) → level ≡ level' → over ≡ over' → width ≡ width' → places ≡ places'
    → IsRow store number start level over width places → IsRow store number start level' over' width' places'
row-is store number start level level' over over' width width' places places' a b c d row =
    subst (λ p. IsRow store number start level' over' width' p) d (subst (λ w. IsRow store number start level' over' w places) c
    (subst (λ o. IsRow store number start level' o width places) b (subst (λ l. IsRow store number start l over width places) a row)))

module _ (store : StoreWords) (start now : Start) (levels levels' : List Level) (level : Level) (over width over' width' : ℕ)
    (plan : IsPlan store start levels over width) (more : Extends start now) (is : levels' ≡ levels ++ level ∷ []) where
  total : ℕ
  total = pointers_of store.shape

  base : ℕ
  base = open_before store.shape

  many : ℕ
  many = length levels

  pub places : ℕ
  places = places_at start start.head_places levels (length levels)

  many-now : length levels' ≡ suc (length levels)
  many-now = ap length is ∙ (let l = length_push levels level in omega arith)

  last-level : level_at levels' (length levels) ≡ level
  last-level = ap (λ l. level_at l (length levels)) is ∙ get_or_push levels level _ (length levels) refl

  over-then : (k : ℕ) → k ≤ length levels → over_at (pointers_of store.shape) levels' k ≡ over_at (pointers_of store.shape) levels k
  over-then k there = ap (λ l. over_at (pointers_of store.shape) l k) is ∙ over-append (pointers_of store.shape) levels (level ∷ []) k there

  width-then : (k : ℕ) → k ≤ length levels → width_at 1 levels' k ≡ width_at 1 levels k
  width-then k there = ap (λ l. width_at 1 l k) is ∙ width-append 1 levels (level ∷ []) k there

  places-then : (k : ℕ) → k ≤ length levels → places_at now now.head_places levels' k ≡ places_at start start.head_places levels k
  places-then k there =
      ap (λ l. places_at now now.head_places l k) is
      ∙ ap (λ p. places_at now p (levels ++ level ∷ []) k) more.head_places
      ∙ places-levels-append now start.head_places levels (level ∷ []) k there
      ∙ places-same start now start.head_places levels k there (λ j below pointer.
      (let row = plan.rows j below in
      ap (λ (p : SlotPart). p.places) (slot-part-same (pointers_of store.shape) start now plan.parts more (level_at levels j).part (row.slots pointer).there)))

  -- the rows, with that of the new level
  rows-more : IsRow store (suc (open_before store.shape + length levels)) now level over width (places_at start start.head_places levels (length levels)) → (k : ℕ) → k < length levels'
      → IsRow store (suc (open_before store.shape + k)) now (level_at levels' k) (over_at (pointers_of store.shape) levels' k) (width_at 1 levels' k) (places_at now now.head_places levels' k)
  rows-more row k below = dite (dec_le (length levels) k)
      (λ past.
      let e : length levels ≡ k = (let m = many-now in omega arith) in
      subst (λ k. IsRow store (suc (open_before store.shape + k)) now (level_at levels' k) (over_at (pointers_of store.shape) levels' k) (width_at 1 levels' k) (places_at now now.head_places levels' k)) e
      (row-is store (suc (open_before store.shape + length levels)) now level (level_at levels' (length levels)) over (over_at (pointers_of store.shape) levels' (length levels)) width (width_at 1 levels' (length levels))
      (places_at start start.head_places levels (length levels)) (places_at now now.head_places levels' (length levels)) (sym last-level)
      (plan.over_is ∙ sym (over-then (length levels) (omega arith))) (plan.width_is ∙ sym (width-then (length levels) (omega arith))) (sym (places-then (length levels) (omega arith))) row))
      (λ before.
      let there : k < length levels = omega arith in
      row-is store (suc (open_before store.shape + k)) now (level_at levels k) (level_at levels' k) (over_at (pointers_of store.shape) levels k) (over_at (pointers_of store.shape) levels' k) (width_at 1 levels k) (width_at 1 levels' k)
      (places_at start start.head_places levels k) (places_at now now.head_places levels' k)
      (sym (ap (λ l. level_at l k) is ∙ level-append levels (level ∷ []) k there)) (sym (over-then k (omega arith))) (sym (width-then k (omega arith))) (sym (places-then k (omega arith)))
      (row-stays (pointers_of store.shape) start now plan.parts more store (suc (open_before store.shape + k)) (level_at levels k) (over_at (pointers_of store.shape) levels k) (width_at 1 levels k) (places_at start start.head_places levels k) (plan.rows k there)))

  next-over : over_at (pointers_of store.shape) levels' (length levels') ≡ over_past level.kind level.part over
  next-over =
      ap (over_at (pointers_of store.shape) levels') many-now ∙ over-next (pointers_of store.shape) levels' (length levels) (let m = many-now in omega arith)
      ∙ ap (λ (l : Level). over_past l.kind l.part (over_at (pointers_of store.shape) levels' (length levels))) last-level
      ∙ ap (over_past level.kind level.part) (over-then (length levels) (omega arith) ∙ sym plan.over_is)

  next-width : width_at 1 levels' (length levels') ≡ width_past level.kind level.size width
  next-width =
      ap (width_at 1 levels') many-now ∙ width-next 1 levels' (length levels) (let m = many-now in omega arith)
      ∙ ap (λ (l : Level). width_past l.kind l.size (width_at 1 levels' (length levels))) last-level
      ∙ ap (width_past level.kind level.size) (width-then (length levels) (omega arith) ∙ sym plan.width_is)

  next-places : places_at now now.head_places levels' (length levels') ≡ places_past now level.kind level.part level.size (places_at start start.head_places levels (length levels))
  next-places =
      ap (places_at now now.head_places levels') many-now ∙ places-next now now.head_places levels' (length levels) (let m = many-now in omega arith)
      ∙ ap (λ (l : Level). places_past now l.kind l.part l.size (places_at now now.head_places levels' (length levels))) last-level
      ∙ ap (places_past now level.kind level.part level.size) (places-then (length levels) (omega arith))

  next-index : open_before store.shape + length levels' ≡ suc (open_before store.shape + length levels)
  next-index = let m = many-now in omega arith

  pub plan-more : ArePartsOf (pointers_of store.shape) now → length now.slot_parts ≡ number_among is_pointer store.shape.nodes (suc (suc (open_before store.shape + length levels)))
      → length now.mask_parts ≡ number_among is_mask store.shape.nodes (suc (suc (open_before store.shape + length levels)))
      → IsRow store (suc (open_before store.shape + length levels)) now level over width (places_at start start.head_places levels (length levels))
      → over' ≡ over_past level.kind level.part over → width' ≡ width_past level.kind level.size width → IsOver (pointers_of store.shape) now over'
      → width' ≤ places_past now level.kind level.part level.size (places_at start start.head_places levels (length levels))
      → StandsNext store (suc (open_before store.shape + length levels)) (pointers_of store.shape) now over' width' (places_past now level.kind level.part level.size (places_at start start.head_places levels (length levels)))
      → IsPlan store now levels' over' width'
  plan-more parts slots masks row is-over is-width stands wide next = record {
    shape = more.shape ∙ plan.shape;
    heads = heads-stay start now (open_before store.shape) more plan.heads;
    keyed = λ hash. (more.keys ∙ (plan.keyed hash).0, more.heads ∙ (plan.keyed hash).1);
    parts = parts;
    slot_count = slots ∙ ap (λ n. number_among is_pointer store.shape.nodes (suc n)) (sym next-index);
    mask_count = masks ∙ ap (λ n. number_among is_mask store.shape.nodes (suc n)) (sym next-index);
    rows = rows-more row;
    over_is = is-over ∙ sym next-over;
    width_is = is-width ∙ sym next-width;
    stands = stands;
    wide = subst (λ p. width' ≤ p) (sym next-places) wide;
    next = subst (λ i. StandsNext store i (pointers_of store.shape) now over' width' (places_at now now.head_places levels' (length levels'))) (sym next-index)
        (subst (λ p. StandsNext store (suc (open_before store.shape + length levels)) (pointers_of store.shape) now over' width' p) (sym next-places) next);
  }
