-- A store is given the words of one level more.
use Rattle.std.proofs.Common.{◌≡◌, ℕ, suc, ◌+◌, ◌-◌, ◌<◌, List, length, sym, ap, ◌∙◌, subst, arith}
use Rattle.sg_coord.specs.declared.coord.Coord.{Coord}
use Rattle.sg_layout.specs.declared.shape.Kind.{Kind}
use Rattle.sg_layout.specs.declared.shape.Kind.TheVariants.{Dense, Bitmasked, Pointer}
use Rattle.sg_layout.specs.declared.shape.Shape.{Shape}
use Rattle.sg_layout.specs.Live.{kind_at}
use Rattle.sg_store.specs.StoreWords.{StoreWords}
use Rattle.sg_store.specs.WellFormed.{IsWellFormed}
use Rattle.sg_store.specs.Reaching.{KeepsCells}
use Rattle.sg_store.specs.Changes.{IsRelinked, IsRemasked, ChangesNode}
use Rattle.sg_store.specs.Opening.{CanSettleSlots, FitsCap, WantedHaveLinks, NewLinksAreWanted, CanSettleBits, WantedHaveBits, NewBitsAreWanted, OpensNode}
use Rattle.sg_activate.specs.declared.descent.rule.Start.{Start}
use Rattle.sg_activate.specs.declared.descent.level.Level.{Level}
use Rattle.sg_activate.specs.steps.DescentWalk.{level_at}
use Rattle.sg_activate.specs.steps.DescentEnds.{slots_of_node, masks_of_node, taken_at_node, AllFit, CanGoOn, GoesOn, IsTaken}
use Rattle.sg_activate.proofs.DescentEnding.{level_kind, next_pointer, next_masked, next_dense}
use Rattle.sg_activate.proofs.DescentNext.{can_settle_slots, fits_cap_now, can_settle_bits}

module _ (start : Start) (base : ℕ) (levels : List Level) (links masks : List ℕ) (now : StoreWords) (k : ℕ) (go : CanGoOn start base levels links masks now k) (below : k < length levels) (number : ℕ) (here : number ≡ suc (base + k)) where
  kind_here : (kind : Kind) → (level_at levels k).kind ≡ kind → kind_at go.store.shape.nodes number ≡ kind
  kind_here kind is = ap (kind_at go.store.shape.nodes) here ∙ sym (level_kind start base levels go.v links masks go.store go.ending k below) ∙ is

  pub kind_now : (kind : Kind) → (level_at levels k).kind ≡ kind → kind_at now.shape.nodes number ≡ kind
  kind_now kind is = ap (λ (s : Shape). kind_at s.nodes number) go.got.keeps.same_shape ∙ kind_here kind is

  all_next : AllFit start base links (suc k)
  all_next n past upto = go.fit n past (omega arith)

  links_are : (new : List ℕ) → new ≡ slots_of_node start (suc (base + k)) links → new ≡ slots_of_node start number links
  links_are new is = is ∙ ap (λ n. slots_of_node start n links) (sym here)

  taken_are : (taken : List ℕ) → (level_at levels k).kind ≡ Pointer → IsTaken start base levels links k taken → taken ≡ taken_at_node start links number
  taken_are taken kind is = is.numbers kind ∙ ap (taken_at_node start links) (sym here)

  pub can_slots : (new taken : List ℕ) → (level_at levels k).kind ≡ Pointer → new ≡ slots_of_node start (suc (base + k)) links → IsTaken start base levels links k taken → CanSettleSlots now number new taken
  can_slots new taken kind is numbers =
      subst (λ l. CanSettleSlots now number l taken) (sym (links_are new is)) (subst (λ t. CanSettleSlots now number (slots_of_node start number links) t) (sym (taken_are taken kind numbers))
      (can_settle_slots start base levels go.v links masks go.store go.ending now k go.got below number here (kind_here Pointer kind)))

  pub fits_slots : (taken : List ℕ) → (level_at levels k).kind ≡ Pointer → IsTaken start base levels links k taken → FitsCap now number taken
  fits_slots taken kind numbers =
      subst (λ t. FitsCap now number t) (sym (taken_are taken kind numbers))
      (fits_cap_now start base levels go.v links masks go.store go.ending now k go.got below number here (kind_here Pointer kind) (all_next number (omega arith) (omega arith)))

  pub goes_slots : (after : StoreWords) (new taken : List ℕ) → (level_at levels k).kind ≡ Pointer → new ≡ slots_of_node start (suc (base + k)) links → IsTaken start base levels links k taken
      → ChangesNode (IsRelinked new taken) now after (number - 1) → IsWellFormed after → KeepsCells now after
      → ((wanted : List Coord) → WantedHaveLinks now number new wanted → NewLinksAreWanted now number new wanted → OpensNode now after number wanted) → GoesOn start base levels links masks now k after (suc k)
  goes_slots after new taken kind is numbers changed well keeps opened v store ending got =
      let e = links_are new is in
      let t = taken_are taken kind numbers in
      let own : kind_at store.shape.nodes number ≡ Pointer = ap (kind_at store.shape.nodes) here ∙ sym (level_kind start base levels v links masks store ending k below) ∙ kind in
      next_pointer start base levels v links masks store ending now after k number here got below all_next own
      (subst (λ l. ChangesNode (IsRelinked l (taken_at_node start links number)) now after (number - 1)) e (subst (λ t. ChangesNode (IsRelinked new t) now after (number - 1)) t changed)) well keeps
      (subst (λ l. (wanted : List Coord) → WantedHaveLinks now number l wanted → NewLinksAreWanted now number l wanted → OpensNode now after number wanted) e opened)

  bits_are : (new : List ℕ) → new ≡ masks_of_node start (suc (base + k)) masks → new ≡ masks_of_node start number masks
  bits_are new is = is ∙ ap (λ n. masks_of_node start n masks) (sym here)

  pub can_bits : (new : List ℕ) → (level_at levels k).kind ≡ Bitmasked → new ≡ masks_of_node start (suc (base + k)) masks → CanSettleBits now number new
  can_bits new kind is = subst (λ l. CanSettleBits now number l) (sym (bits_are new is)) (can_settle_bits start base levels go.v links masks go.store go.ending now k go.got below number here (kind_here Bitmasked kind))

  pub goes_bits : (after : StoreWords) (new : List ℕ) → (level_at levels k).kind ≡ Bitmasked → new ≡ masks_of_node start (suc (base + k)) masks
      → ChangesNode (IsRemasked new) now after (number - 1) → IsWellFormed after → KeepsCells now after
      → ((wanted : List Coord) → WantedHaveBits now number new wanted → NewBitsAreWanted now number new wanted → OpensNode now after number wanted) → GoesOn start base levels links masks now k after (suc k)
  goes_bits after new kind is changed well keeps opened v store ending got =
      let e = bits_are new is in
      let own : kind_at store.shape.nodes number ≡ Bitmasked = ap (kind_at store.shape.nodes) here ∙ sym (level_kind start base levels v links masks store ending k below) ∙ kind in
      next_masked start base levels v links masks store ending now after k number here got below all_next own
      (subst (λ l. ChangesNode (IsRemasked l) now after (number - 1)) e changed) well keeps
      (subst (λ l. (wanted : List Coord) → WantedHaveBits now number l wanted → NewBitsAreWanted now number l wanted → OpensNode now after number wanted) e opened)

  pub goes_dense : (level_at levels k).kind ≡ Dense → GoesOn start base levels links masks now k now (suc k)
  goes_dense kind v store ending got =
      let own : kind_at store.shape.nodes number ≡ Dense = ap (kind_at store.shape.nodes) here ∙ sym (level_kind start base levels v links masks store ending k below) ∙ kind in
      next_dense start base levels v links masks store ending now k number here got own
