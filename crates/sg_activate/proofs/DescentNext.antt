-- The next node of a descent's end: its words may be given to the store, and open it for what is wanted.
use Rattle.std.proofs.Common.{◌≡◌, ℕ, suc, ◌+◌, ◌-◌, ◌*◌, ◌<◌, ◌≤◌, inl, inr, List, length, take, filter, sym, ap, ◌∙◌, subst, arith}
use Rattle.std.specs.Prelude.{slice_index, slice_get, IsTrue}
use Rattle.std.specs.List.{Contains}
use Rattle.std.proofs.lemmas.Bool.{cases_lt}
use Rattle.std.proofs.lemmas.List.Elements.{Contains-get_or}
use Rattle.std.proofs.lemmas.Option.{same_Some}
use Rattle.sg_words.specs.declared.race.Worker.{Worker}
use Rattle.sg_words.specs.Counts.{firsts}
use Rattle.sg_coord.specs.declared.coord.Coord.{Coord}
use Rattle.sg_layout.specs.declared.shape.Kind.TheVariants.{Bitmasked, Pointer, Hash}
use Rattle.sg_layout.specs.declared.shape.NodeShape.{NodeShape}
use Rattle.sg_layout.specs.declared.shape.Shape.{Shape}
use Rattle.sg_layout.specs.Live.{kind_or, kind_at}
use Rattle.sg_layout.specs.NeedLaws.{IsNumberedNode}
use Rattle.sg_layout.specs.PathLaws.{PathIsSlot}
use Rattle.sg_pool.specs.Numbers.{live_count, IsFree}
use Rattle.sg_store.specs.StoreWords.{StoreWords}
use Rattle.sg_store.specs.Slots.{mask_bit}
use Rattle.sg_store.specs.Opening.{links_or_none, link_words_of, masks_or_none, masks_of, pool_or_none, pool_of, CanSettleSlots, FitsCap, WantedHaveLinks, NewLinksAreWanted, CanSettleBits, WantedHaveBits, NewBitsAreWanted}
use Rattle.sg_store.proofs.Uses.{slot_place, bit_place}
use Rattle.sg_activate.specs.declared.descent.rule.Start.{Start}
use Rattle.sg_activate.specs.declared.descent.level.Level.{Level}
use Rattle.sg_activate.specs.declared.descent.walk.Reach.{Reach}
use Rattle.sg_activate.specs.declared.descent.walk.Reach.TheVariants as reach
use Rattle.sg_activate.specs.TableParts.{first_of}
use Rattle.sg_activate.specs.DescentRace.{slots_each, words_each, stock_at}
use Rattle.sg_activate.specs.Descending.{is_pointer, pointer_number, mask_number, HasSeenSlot, HasMarkedBit, HasOpened, HasMissedSlot, IsAnswered, FitsSeat}
use Rattle.sg_activate.specs.steps.DescentEnds.{slots_of_node, masks_of_node, taken_at_node, FitsNode, AllFit, HasGot, IsEnding}
use Rattle.sg_activate.proofs.DescentNodes.{node_linked, node_marked, fits_cap, not_dry, layout_kind}
use Rattle.sg_activate.proofs.DescentPlaces.{is_level, now_kind, place_known, slot_here, bit_here}
use Rattle.sg_activate.proofs.TakenNumbers.{contains_word, taken_has, taken_from, taken_once, taken_all}

module _ (start : Start) (base : ℕ) (levels : List Level) (v : Worker) (links masks : List ℕ) (store : StoreWords) (e : IsEnding start base levels v links masks store) (now : StoreWords) (k : ℕ) (g : HasGot start base v links masks store now k) (below : k < length levels) (number : ℕ) (here : number ≡ suc (base + k)) where
  paths_now : PathIsSlot now.shape
  paths_now = subst (λ (s : Shape). PathIsSlot s) (sym g.keeps.same_shape) e.paths

  links_here : kind_at store.shape.nodes number ≡ Pointer → link_words_of now number ≡ slots_of_node start number start.links
  links_here pointer = ap links_or_none (g.below number (omega arith)) ∙ sym (e.given.links number (omega arith) pointer)

  masks_here : kind_at store.shape.nodes number ≡ Bitmasked → masks_of now number ≡ masks_of_node start number start.masks
  masks_here masked = ap masks_or_none (g.below number (omega arith)) ∙ sym (e.given.masks number (omega arith) masked)

  -- ---- a pointer node
  module _ (pointer : kind_at store.shape.nodes number ≡ Pointer) where
    abbrev old : List ℕ
    old = slots_of_node start number start.links

    abbrev new : List ℕ
    new = slots_of_node start number links

    word : (q : ℕ) → slice_index (link_words_of now number) q ≡ slice_index old q
    word q = ap (λ ws. slice_index ws q) (links_here pointer)

    -- each link that the seat made is in the slot of a coordinate inside
    pub can_settle_slots : CanSettleSlots now number new (taken_at_node start links number)
    can_settle_slots =
        let linked = node_linked start base levels v links masks store e number (omega arith) (omega arith) pointer in
        let stock = stock_at start (pointer_number start number) in
        let is = e.given.stocks number (omega arith) pointer in
        let pool = ap pool_or_none (g.below number (omega arith)) in
        record {
          as_many = linked.long ∙ sym (ap length (links_here pointer));
          stays = λ slot full. let w = word slot in linked.stay slot (omega arith) ∙ sym w;
          in_live = λ slot empty full.
              let made = linked.made slot (sym (word slot) ∙ empty) full in
              let inside = e.inside.made (first_of (slots_each start) (pointer_number start number) + slot) made.0 made.2 in
              let place = slot_here start base levels v links masks store e now k g (omega arith) number inside.0 slot (omega arith) (omega arith) pointer made.1 inside.2 in
              (slot_place now number inside.0 slot g.well_formed paths_now (omega arith) (now_kind start base levels v links masks store e now k g (omega arith) number ∙ pointer) place).0;
          of_taken = λ slot taking empty is. taken_has old new slot taking linked.long (sym (word slot) ∙ empty) is;
          all_taken = λ taking is. let r = taken_from old new taking is in contains_word new r.0 taking r.2;
          once = λ x y taking is first second.
              let r = taken_from old new taking is in
              let a : r.0 ≡ x = linked.once r.0 x r.1 (let h : slice_index new r.0 ≡ suc taking = r.2 in omega arith) (r.2 ∙ sym first) in
              let b : r.0 ≡ y = linked.once r.0 y r.1 (let h : slice_index new r.0 ≡ suc taking = r.2 in omega arith) (r.2 ∙ sym second) in
              sym a ∙ b;
          free = record {
            free = taken_all (IsFree (pool_of now number)) old new (λ slot n empty is'.
                (let found = linked.of_stock slot empty (omega arith) in
                let same : slice_index stock found.0 ≡ n = (let h : slice_index new slot ≡ slice_index stock found.0 + 1 = found.2 in omega arith) in
                subst (λ p. IsFree p n) (sym pool) ((is.members n).0 (subst (λ x. Contains stock x) same (Contains-get_or stock found.0 0 found.1)))));
            once = taken_once old new linked.long linked.once;
          };
        }

    pub fits_cap_now : FitsNode start links number → FitsCap now number (taken_at_node start links number)
    fits_cap_now fits node there =
        let pool = ap pool_or_none (g.below number (omega arith)) in
        let live : live_count (pool_of now number) ≡ live_count (pool_of store number) = ap live_count pool in
        let there' : IsNumberedNode store.shape number node = subst (λ (s : Shape). IsNumberedNode s number node) g.keeps.same_shape there in
        let rest = fits_cap start base levels v links masks store e number (omega arith) (omega arith) pointer node there' in
        let few = fits (layout_kind start base levels v links masks store e number ∙ pointer) in
        omega arith

    -- a new link is in the slot of a wanted coordinate
    pub new_links_are_wanted : (wanted : List Coord) → FitsSeat start v wanted → NewLinksAreWanted now number new wanted
    new_links_are_wanted wanted fits slot empty full =
        let linked = node_linked start base levels v links masks store e number (omega arith) (omega arith) pointer in
        let made = linked.made slot (sym (word slot) ∙ empty) full in
        let mine = fits.made (first_of (slots_each start) (pointer_number start number) + slot) made.0 made.2 in
        record {
          at = mine.0;
          is_of = mine.1;
          has_place = slot_here start base levels v links masks store e now k g (omega arith) number mine.0 slot (omega arith) (omega arith) pointer made.1 mine.2;
        }

  -- ---- what a wanted coordinate was answered
  -- where all numbers fit so far nobody was dry, so the node is open
  opened_here : (wanted : List Coord) (at : Coord) → FitsSeat start v wanted → AllFit start base links (suc k) → Contains wanted at → HasOpened start v (kind_at start.layout.nodes number) number at
  opened_here wanted at fits all has = let answered = fits.answered at has in go answered.0 answered.1
    where
      not_here : (m : ℕ) → 1 ≤ m → m ≤ number → kind_at start.layout.nodes m ≡ Pointer → 0 < firsts (pointer_number start m) v.past → ⊥
      not_here m first upto pointer past =
          let kind : kind_at store.shape.nodes m ≡ Pointer = sym (layout_kind start base levels v links masks store e m) ∙ pointer in
          let level = is_level start base levels v links masks store e m first (λ hash. let no : Pointer ≡ Hash = sym kind ∙ hash in cc) in
          let none = not_dry start base levels v links masks store e m level (omega arith) kind (all m level (omega arith)) in
          omega arith

      missed : (node : ℕ) → node ≤ number → HasMissedSlot start v node at → ⊥
      missed node upto is =
          let same : suc (node - 1) - 1 ≡ node - 1 = omega arith in
          not_here (suc (node - 1)) (omega arith) (omega arith) (ap (λ i. kind_or (slice_get start.layout.nodes i)) same ∙ is.pointer)
          (subst (λ i. 0 < firsts (length (filter (λ (n : NodeShape). is_pointer n.kind) (take i start.layout.nodes))) v.past) (sym same) is.past)

      go : (answer : Reach) → IsAnswered start v at answer → HasOpened start v (kind_at start.layout.nodes number) number at
      go reach.Open above = let w = e.levels_are.within in above number (omega arith) (omega arith)
      go (reach.Dry node) both = elim (cases_lt number node) [
        | inl before ↦ both.0 number (omega arith) before
        | inr past ↦ absurd (missed node past both.1)
      ]

  pub wanted_have_links : (wanted : List Coord) → kind_at store.shape.nodes number ≡ Pointer → FitsSeat start v wanted → AllFit start base links (suc k) → WantedHaveLinks now number (slots_of_node start number links) wanted
  wanted_have_links wanted pointer fits all at has slot place none =
      let seen : HasSeenSlot start v number at =
      subst (λ kind. HasOpened start v kind number at) (layout_kind start base levels v links masks store e number ∙ pointer) (opened_here wanted at fits all has) in
      let known = place_known start base levels v links masks store e now k g (omega arith) number at seen.slot (omega arith) (omega arith) (inl pointer) seen.knows in
      let same : seen.slot ≡ slot = same_Some seen.slot slot (sym known ∙ place) in
      let low = (slot_place now number at slot g.well_formed paths_now (omega arith) (now_kind start base levels v links masks store e now k g (omega arith) number ∙ pointer) place).1 in
      let long : length (link_words_of now number) ≡ length (slots_of_node start number start.links) = ap length (links_here pointer) in
      let linked = node_linked start base levels v links masks store e number (omega arith) (omega arith) pointer in
      let word = linked.seen seen.slot seen.next (omega arith) seen.seen in
      let word' : slice_index (slots_of_node start number links) slot ≡ seen.next + 1 = ap (slice_index (slots_of_node start number links)) (sym same) ∙ word in
      omega arith

  -- ---- a bitmasked node
  module _ (masked : kind_at store.shape.nodes number ≡ Bitmasked) where
    bit_word : (q : ℕ) → mask_bit (masks_of now number) q ≡ mask_bit (masks_of_node start number start.masks) q
    bit_word q = ap (λ ws. mask_bit ws q) (masks_here masked)

    pub can_settle_bits : CanSettleBits now number (masks_of_node start number masks)
    can_settle_bits =
        let marked = node_marked start base levels v links masks store e number (omega arith) (omega arith) masked in
        record {
          as_many = marked.long ∙ sym (ap length (masks_here masked));
          stays = λ slot on. marked.stays slot (sym (bit_word slot) ∙ on);
          in_live = λ slot off on.
              let made = marked.marked slot (sym (bit_word slot) ∙ off) on in
              let inside = e.inside.marked (first_of (words_each start) (mask_number start number) * 64 + slot) made.1 in
              let place = bit_here start base levels v links masks store e now k g (omega arith) number inside.0 slot (omega arith) (omega arith) masked made.0 inside.2 in
              (bit_place now number inside.0 slot g.well_formed paths_now (omega arith) (now_kind start base levels v links masks store e now k g (omega arith) number ∙ masked) place).0;
        }

    pub new_bits_are_wanted : (wanted : List Coord) → FitsSeat start v wanted → NewBitsAreWanted now number (masks_of_node start number masks) wanted
    new_bits_are_wanted wanted fits slot off on =
        let marked = node_marked start base levels v links masks store e number (omega arith) (omega arith) masked in
        let made = marked.marked slot (sym (bit_word slot) ∙ off) on in
        let mine = fits.marked (first_of (words_each start) (mask_number start number) * 64 + slot) made.1 in
        record {
          at = mine.0;
          is_of = mine.1;
          has_place = bit_here start base levels v links masks store e now k g (omega arith) number mine.0 slot (omega arith) (omega arith) masked made.0 mine.2;
        }

    pub wanted_have_bits : (wanted : List Coord) → FitsSeat start v wanted → AllFit start base links (suc k) → WantedHaveBits now number (masks_of_node start number masks) wanted
    wanted_have_bits wanted fits all at has slot place =
        let set : HasMarkedBit start v number at =
        subst (λ kind. HasOpened start v kind number at) (layout_kind start base levels v links masks store e number ∙ masked) (opened_here wanted at fits all has) in
        let known = place_known start base levels v links masks store e now k g (omega arith) number at set.slot (omega arith) (omega arith) (inr masked) set.knows in
        let same : set.slot ≡ slot = same_Some set.slot slot (sym known ∙ place) in
        let low = (bit_place now number at slot g.well_formed paths_now (omega arith) (now_kind start base levels v links masks store e now k g (omega arith) number ∙ masked) place).1 in
        let long : length (masks_of now number) ≡ length (masks_of_node start number start.masks) = ap length (masks_here masked) in
        let marked = node_marked start base levels v links masks store e number (omega arith) (omega arith) masked in
        subst (λ q. IsTrue (mask_bit (masks_of_node start number masks) q)) same (marked.set set.slot (omega arith) set.marked)
