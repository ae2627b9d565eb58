-- The end of a descent, node after node: where all numbers fit, a store can get all words; and the first node at which they don't is the first that is too full.
use Rattle.std.proofs.Common.{◌≡◌, ℕ, zero, suc, ◌+◌, ◌-◌, ◌<◌, ◌≤◌, List, ◌++◌, length, refl, sym, ap, ◌∙◌, subst, arith}
use Rattle.std.specs.Prelude.{Some, slice_index}
use Rattle.sg_words.specs.declared.race.Worker.{Worker}
use Rattle.sg_coord.specs.declared.coord.Coord.{Coord}
use Rattle.sg_layout.specs.declared.shape.Kind.{Kind}
use Rattle.sg_layout.specs.declared.shape.Kind.TheVariants.{Dense, Bitmasked, Pointer, Hash, Dynamic}
use Rattle.sg_layout.specs.declared.shape.NodeShape.{NodeShape}
use Rattle.sg_layout.specs.declared.shape.Shape.{Shape}
use Rattle.sg_layout.specs.Axes.{count_of}
use Rattle.sg_layout.specs.Live.{kind_or, kind_at}
use Rattle.sg_layout.specs.Need.{first_full}
use Rattle.sg_layout.specs.NeedLaws.{IsNumberedNode}
use Rattle.sg_layout.specs.PathLaws.{PathIsSlot}
use Rattle.sg_pool.specs.Numbers.{live_count}
use Rattle.sg_store.specs.StoreWords.{StoreWords}
use Rattle.sg_store.specs.WellFormed.{IsWellFormed}
use Rattle.sg_store.specs.Reaching.{KeepsCells, IsOpenThrough}
use Rattle.sg_store.specs.Changes.{IsRelinked, IsRemasked, ChangesNode}
use Rattle.sg_store.specs.Opening.{pool_or_none, pool_of, WantedHaveLinks, NewLinksAreWanted, WantedHaveBits, NewBitsAreWanted, OpensNode}
use Rattle.sg_store.specs.OpeningLaws.{FullIsFirst}
use Rattle.sg_store.proofs.Uses.{slots_can_be_settled, bits_can_be_settled}
use Rattle.sg_activate.specs.declared.descent.rule.Start.{Start}
use Rattle.sg_activate.specs.declared.descent.level.Level.{Level}
use Rattle.sg_activate.specs.DescentRace.{limits_of}
use Rattle.sg_activate.specs.Descending.{open_before, pointer_number, FitsSeat}
use Rattle.sg_activate.specs.steps.DescentWalk.{level_at}
use Rattle.sg_activate.specs.steps.DescentEnds.{slots_of_node, masks_of_node, taken_at_node, AllFit, HasGot, IsEnding}
use Rattle.sg_activate.proofs.DescentGot.{turned_not, turned_links, links_now, turned_masks, masks_now, keeps_same, got_first, got_next}
use Rattle.sg_activate.proofs.DescentNext.{can_settle_slots, fits_cap_now, new_links_are_wanted, wanted_have_links, can_settle_bits, new_bits_are_wanted, wanted_have_bits}
use Rattle.sg_activate.proofs.DescentNodes.{layout_kind, fits_cap}

module _ (start : Start) (base : ℕ) (levels : List Level) (v : Worker) (links masks : List ℕ) (store : StoreWords) (e : IsEnding start base levels v links masks store) where
  -- the store has got the words of a pointer node too
  pub next_pointer : (old now : StoreWords) (k number : ℕ) (here : number ≡ suc (base + k)) → HasGot start base v links masks store old k → k < length levels → AllFit start base links (suc k)
      → kind_at store.shape.nodes number ≡ Pointer → ChangesNode (IsRelinked (slots_of_node start number links) (taken_at_node start links number)) old now (number - 1) → IsWellFormed now → KeepsCells old now
      → ((wanted : List Coord) → WantedHaveLinks old number (slots_of_node start number links) wanted → NewLinksAreWanted old number (slots_of_node start number links) wanted → OpensNode old now number wanted)
      → HasGot start base v links masks store now (suc k)
  next_pointer old now k number here g below all pointer changed well keeps opened =
      let can = can_settle_slots start base levels v links masks store e old k g below number here pointer in
      got_next start base v links masks store old now k number here g
      (turned_links old now number (slots_of_node start number links) (taken_at_node start links number) changed (λ i some. can.stays i (λ none. absurd (omega arith)))) well keeps
      (λ _. links_now old now number (slots_of_node start number links) (taken_at_node start links number) changed)
      (λ masked. absurd (no_mask (sym pointer ∙ masked)))
      (λ before wanted fits was_open. opened wanted (wanted_have_links start base levels v links masks store e old k g below number here wanted pointer fits all)
      (new_links_are_wanted start base levels v links masks store e old k g below number here pointer wanted fits) before was_open)
    where
      no_mask : Pointer ≡ Bitmasked → ⊥
      no_mask e = (cc)

  -- and of a bitmasked one
  pub next_masked : (old now : StoreWords) (k number : ℕ) (here : number ≡ suc (base + k)) → HasGot start base v links masks store old k → k < length levels → AllFit start base links (suc k)
      → kind_at store.shape.nodes number ≡ Bitmasked → ChangesNode (IsRemasked (masks_of_node start number masks)) old now (number - 1) → IsWellFormed now → KeepsCells old now
      → ((wanted : List Coord) → WantedHaveBits old number (masks_of_node start number masks) wanted → NewBitsAreWanted old number (masks_of_node start number masks) wanted → OpensNode old now number wanted)
      → HasGot start base v links masks store now (suc k)
  next_masked old now k number here g below all masked changed well keeps opened =
      got_next start base v links masks store old now k number here g (turned_masks old now number (masks_of_node start number masks) changed) well keeps
      (λ pointer. absurd (no_link (sym masked ∙ pointer)))
      (λ _. masks_now old now number (masks_of_node start number masks) changed)
      (λ before wanted fits was_open. opened wanted (wanted_have_bits start base levels v links masks store e old k g below number here masked wanted fits all)
      (new_bits_are_wanted start base levels v links masks store e old k g below number here masked wanted fits) before was_open)
    where
      no_link : Bitmasked ≡ Pointer → ⊥
      no_link e = (cc)

  -- a dense node has none
  pub next_dense : (now : StoreWords) (k number : ℕ) (here : number ≡ suc (base + k)) → HasGot start base v links masks store now k → kind_at store.shape.nodes number ≡ Dense → HasGot start base v links masks store now (suc k)
  next_dense now k number here g dense =
      got_next start base v links masks store now now k number here g (turned_not now number) g.well_formed (keeps_same now)
      (λ pointer. absurd (no_link (sym dense ∙ pointer))) (λ masked. absurd (no_mask (sym dense ∙ masked)))
      (λ before wanted fits was_open. e.dense now before (before ++ wanted) number (omega arith) (ap (λ (s : Shape). kind_at s.nodes number) g.keeps.same_shape ∙ dense) was_open)
    where
      no_link : Dense ≡ Pointer → ⊥
      no_link e = (cc)

      no_mask : Dense ≡ Bitmasked → ⊥
      no_mask e = (cc)

  -- a level is dense, or has links or bits
  pub level_kind : (k : ℕ) → k < length levels → (level_at levels k).kind ≡ kind_at store.shape.nodes (suc (base + k))
  level_kind k below = (e.levels_are.each k below).kind ∙ layout_kind start base levels v links masks store e (suc (base + k))

  -- so where all numbers fit there is a store with the words of any levels
  pub some_store : (k : ℕ) → k ≤ length levels → AllFit start base links k → (now : StoreWords) × HasGot start base v links masks store now k
  some_store zero within all =
      let based : base ≡ open_before store.shape = e.levels_are.based ∙ ap open_before e.given.same_shape in
      (store, got_first start base v links masks store based e.well_formed)
  some_store (suc k) within all =
      let was = some_store k (omega arith) (λ n past upto. all n past (omega arith)) in
      let others = e.levels_are.kinds k (omega arith) in
      go was.0 was.1 (kind_at store.shape.nodes (suc (base + k))) refl (λ hash. others.0 (level_kind k (omega arith) ∙ hash)) (λ dynamic. others.1 (level_kind k (omega arith) ∙ dynamic))
    where
      go : (old : StoreWords) → HasGot start base v links masks store old k → (kind : Kind) → kind_at store.shape.nodes (suc (base + k)) ≡ kind → (kind ≡ Hash → ⊥) → (kind ≡ Dynamic → ⊥) → (now : StoreWords) × HasGot start base v links masks store now (suc k)
      go old g Dense is hash dynamic = (old, next_dense old k (suc (base + k)) refl g is)
      go old g Hash is hash dynamic = absurd (hash refl)
      go old g Dynamic is hash dynamic = absurd (dynamic refl)
      go old g Pointer is hash dynamic =
          let kind = ap (λ (s : Shape). kind_at s.nodes (suc (base + k))) g.keeps.same_shape ∙ is in
          let paths : PathIsSlot old.shape = subst (λ (s : Shape). PathIsSlot s) (sym g.keeps.same_shape) e.paths in
          let can = can_settle_slots start base levels v links masks store e old k g (omega arith) (suc (base + k)) refl is in
          let fit = fits_cap_now start base levels v links masks store e old k g (omega arith) (suc (base + k)) refl is (all (suc (base + k)) (omega arith) (omega arith)) in
          let settled = slots_can_be_settled old (suc (base + k)) (slots_of_node start (suc (base + k)) links) (taken_at_node start links (suc (base + k))) g.well_formed paths (omega arith) kind can fit in
          (settled.now, next_pointer old settled.now k (suc (base + k)) refl g (omega arith) all is settled.changed settled.well_formed settled.keeps (λ wanted have new. settled.opened wanted (have, new)))
      go old g Bitmasked is hash dynamic =
          let kind = ap (λ (s : Shape). kind_at s.nodes (suc (base + k))) g.keeps.same_shape ∙ is in
          let paths : PathIsSlot old.shape = subst (λ (s : Shape). PathIsSlot s) (sym g.keeps.same_shape) e.paths in
          let can = can_settle_bits start base levels v links masks store e old k g (omega arith) (suc (base + k)) refl is in
          let settled = bits_can_be_settled old (suc (base + k)) (masks_of_node start (suc (base + k)) masks) g.well_formed paths (omega arith) kind can in
          (settled.now, next_masked old settled.now k (suc (base + k)) refl g (omega arith) all is settled.changed settled.well_formed settled.keeps (λ wanted have new. settled.opened wanted (have, new)))

  -- and the first level at which they don't fit is the first node that is too full
  pub over_is_full : ((any : StoreWords) → FullIsFirst any) → (k : ℕ) → k < length levels → AllFit start base links k → kind_at store.shape.nodes (suc (base + k)) ≡ Pointer
      → slice_index (limits_of start) (pointer_number start (suc (base + k))) < length (taken_at_node start links (suc (base + k))) + 17
      → (node : NodeShape) → IsNumberedNode store.shape (suc (base + k)) node → (before wanted : List Coord) → FitsSeat start v wanted → IsOpenThrough store before (before ++ wanted) (open_before store.shape)
      → first_full store.shape (before ++ wanted) ≡ Some (record { node = suc (base + k); cap = count_of node.cap })
  over_is_full full k below all pointer past node here before wanted fits was_open =
      let some = some_store k (omega arith) all in
      let now = some.0 in
      let g = some.1 in
      let number = suc (base + k) in
      let back : base + k ≡ suc (base + k) - 1 = omega arith in
      let here' : IsNumberedNode now.shape number node = subst (λ (s : Shape). IsNumberedNode s number node) (sym g.keeps.same_shape) here in
      let kind : node.kind ≡ Pointer = sym (ap kind_or here.there) ∙ pointer in
      let pool = ap pool_or_none (g.below number (omega arith)) in
      let live : live_count (pool_of now number) ≡ live_count (pool_of store number) = ap live_count pool in
      let rest = fits_cap start base levels v links masks store e number (omega arith) (omega arith) pointer node here in
      let is_open = subst (IsOpenThrough now before (before ++ wanted)) back (g.opened before wanted fits was_open) in
      ap (λ (s : Shape). first_full s (before ++ wanted)) (sym g.keeps.same_shape)
      ∙ full now g.well_formed before wanted number node here' kind is_open (slots_of_node start number links) (taken_at_node start links number)
      (can_settle_slots start base levels v links masks store e now k g below number refl pointer)
      (new_links_are_wanted start base levels v links masks store e now k g below number refl pointer wanted fits) (omega arith)
