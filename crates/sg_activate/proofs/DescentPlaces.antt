-- Where the slots and bits that a seat knows stand, in a store that has got the words of the first levels.
use Rattle.std.proofs.Common.{◌≡◌, ℕ, suc, ◌+◌, ◌-◌, ◌*◌, ◌<◌, ◌≤◌, ◌⊎◌, inl, inr, List, length, refl, sym, ap, ◌∙◌, subst, arith}
use Rattle.std.specs.Prelude.{Some, slice_index, slice_get}
use Rattle.std.proofs.lemmas.Bool.{cases_lt, cases_eq}
use Rattle.std.proofs.lemmas.Option.{slice_get_within}
use Rattle.sg_words.specs.declared.race.Worker.{Worker}
use Rattle.sg_coord.specs.declared.coord.Coord.{Coord}
use Rattle.sg_layout.specs.declared.shape.Kind.{Kind}
use Rattle.sg_layout.specs.declared.shape.Kind.TheVariants.{Dense, Bitmasked, Pointer, Hash, Dynamic}
use Rattle.sg_layout.specs.declared.shape.NodeShape.{NodeShape}
use Rattle.sg_layout.specs.declared.shape.Shape.{Shape}
use Rattle.sg_layout.specs.Live.{kind_or, kind_at}
use Rattle.sg_layout.specs.PathLaws.{PathIsSlot}
use Rattle.sg_store.specs.StoreWords.{StoreWords}
use Rattle.sg_store.specs.Walks.{place_in}
use Rattle.sg_store.specs.Opening.{links_or_none, link_words_of, keys_or_none, masks_of}
use Rattle.sg_store.proofs.Uses.{slot_place, bit_place}
use Rattle.sg_activate.specs.declared.descent.rule.Start.{Start}
use Rattle.sg_activate.specs.declared.descent.level.Level.{Level}
use Rattle.sg_activate.specs.TableParts.{first_of}
use Rattle.sg_activate.specs.DescentRace.{slots_each, words_each}
use Rattle.sg_activate.specs.Descending.{is_pointer, is_mask, nodes_before, pointer_number, mask_number, KnowsSlot, IsSlotFor, IsBitFor}
use Rattle.sg_activate.specs.steps.DescentEnds.{slots_of_node, masks_of_node, HasGot, IsEnding}
use Rattle.sg_activate.proofs.DescentBridge.{hash_first, few_before}
use Rattle.sg_activate.proofs.DescentKnown.{IsHeld, AreHeld, known_place}
use Rattle.sg_activate.proofs.DescentNodes.{node_linked}
use Rattle.sg_activate.proofs.DescentNumbers.{node_there, inside_nodes}
use Rattle.sg_activate.proofs.DescentRanges.{first-more, part-short, number-more}

module _ (start : Start) (base : ℕ) (levels : List Level) (v : Worker) (links masks : List ℕ) (store : StoreWords) (e : IsEnding start base levels v links masks store) where
  base_is : base ≡ nodes_before (kind_at store.shape.nodes 1)
  base_is = e.levels_are.based ∙ ap (λ (s : Shape). nodes_before (kind_at s.nodes 1)) e.given.same_shape

  few : base ≤ 1
  few = subst (λ n. n ≤ 1) (sym base_is) (few_before (kind_at store.shape.nodes 1))

  -- a node above the levels is a hash node
  above_hash : (number : ℕ) → 1 ≤ number → number ≤ base → kind_at store.shape.nodes number ≡ Hash
  above_hash number first above =
      let small = few in
      let one : 1 ≡ number = omega arith in
      subst (λ n. kind_at store.shape.nodes n ≡ Hash) one (hash_first (kind_at store.shape.nodes 1) (sym base_is ∙ (let h : base ≡ 1 = omega arith in h)))

  -- so one of links or bits isn't
  pub is_level : (number : ℕ) → 1 ≤ number → (kind_at store.shape.nodes number ≡ Hash → ⊥) → base < number
  is_level number first other = elim (cases_lt base number) [
    | inl below ↦ below
    | inr above ↦ absurd (other (above_hash number first above))
  ]

  module _ (now : StoreWords) (k : ℕ) (g : HasGot start base v links masks store now k) (within : k ≤ length levels) where
    same_shape : now.shape ≡ store.shape
    same_shape = g.keeps.same_shape

    pub now_kind : (number : ℕ) → kind_at now.shape.nodes number ≡ kind_at store.shape.nodes number
    now_kind number = ap (λ (s : Shape). kind_at s.nodes number) same_shape

    -- the nodes have the words that the seat has seen
    pub held : (i : ℕ) → i ≤ base + k → AreHeld start v now.shape.nodes now.nodes 1 i
    held i upto j node kept below at has =
        let one : suc j ≡ 1 + j = omega arith in
        subst (λ n. IsHeld start v n node.kind kept) one (go node.kind refl)
      where
        back : suc j - 1 ≡ j
        back = omega arith

        kind_here : (kind : Kind) → node.kind ≡ kind → kind_at store.shape.nodes (suc j) ≡ kind
        kind_here kind is = sym (now_kind (suc j)) ∙ ap (λ n. kind_or (slice_get now.shape.nodes n)) back ∙ ap kind_or at ∙ is

        words_here : link_words_of now (suc j) ≡ kept.links
        words_here = ap (λ n. links_or_none (slice_get now.nodes n)) back ∙ ap links_or_none has

        go : (kind : Kind) → node.kind ≡ kind → IsHeld start v (suc j) kind kept
        go Dense is = tt
        go Bitmasked is = tt
        go Dynamic is = tt
        go Pointer is =
            let pointer = kind_here Pointer is in
            let level = is_level (suc j) (omega arith) (λ hash. let no : Pointer ≡ Hash = sym pointer ∙ hash in cc) in
            let upto' : suc j ≤ base + k = omega arith in
            let linked = node_linked start base levels v links masks store e (suc j) level (omega arith) pointer in
            let is_now : kept.links ≡ slots_of_node start (suc j) links = sym words_here ∙ g.got (suc j) level upto' pointer in
            λ slot next inside seen.
            let many : length kept.links ≡ length (slots_of_node start (suc j) links) = ap length is_now in
            let long = linked.long in
            let word = linked.seen slot next (omega arith) seen in
            ap (λ ws. slice_index ws slot) is_now ∙ word ∙ (let h : next + 1 ≡ suc next = omega arith in h)
        go Hash is =
            let hash = kind_here Hash is in
            let first : suc j ≡ 1 = e.hash_first e.well_formed (suc j) (omega arith) hash in
            let hash' : kind_at store.shape.nodes 1 ≡ Hash = subst (λ n. kind_at store.shape.nodes n ≡ Hash) first hash in
            let one : base ≡ 1 = base_is ∙ ap nodes_before hash' in
            let there : j ≡ 1 - 1 = omega arith in
            let same : slice_get store.nodes (1 - 1) ≡ Some kept = sym (g.above 1 (omega arith) (omega arith)) ∙ ap (slice_get now.nodes) (sym there) ∙ has in
            let given = e.given.keys hash' in
            (ap keys_or_none (sym same) ∙ sym given.0, ap links_or_none (sym same) ∙ sym given.1)

    -- so the slot that the seat knows is the place of the coordinate's word
    pub place_known : (number : ℕ) (at : Coord) (slot : ℕ) → 1 ≤ number → number ≤ suc (base + k) → (kind_at store.shape.nodes number ≡ Pointer) ⊎ (kind_at store.shape.nodes number ≡ Bitmasked)
        → KnowsSlot start v number at slot → place_in now number at ≡ Some slot
    place_known number at slot first upto kind knows =
        let i = number - 1 in
        let here : suc i ≡ number = omega arith in
        let paths : PathIsSlot now.shape = subst (λ (s : Shape). PathIsSlot s) (sym same_shape) e.paths in
        let node = there kind in
        let knows' : KnowsSlot start v (suc i) at slot = subst (λ n. KnowsSlot start v n at slot) (sym here) knows in
        subst (λ n. place_in now n at ≡ Some slot) here
        (known_place start v now i node.0 at slot g.well_formed paths (e.given.same_shape ∙ sym same_shape) node.1 (slice_get_within now.shape.nodes i node.0 node.1) node.2 (held i (omega arith)) knows')
      where
        there : (kind_at store.shape.nodes number ≡ Pointer) ⊎ (kind_at store.shape.nodes number ≡ Bitmasked) → (node : NodeShape) × (slice_get now.shape.nodes (number - 1) ≡ Some node) × ((node.kind ≡ Pointer) ⊎ (node.kind ≡ Bitmasked))
        there (inl kind) = let n = node_there now.shape.nodes number Pointer (now_kind number ∙ kind) (λ (e : Pointer ≡ Dense). (cc)) in (n.0, n.1, inl n.2)
        there (inr kind) = let n = node_there now.shape.nodes number Bitmasked (now_kind number ∙ kind) (λ (e : Bitmasked ≡ Dense). (cc)) in (n.0, n.1, inr n.2)

    -- ---- a slot, a bit of the table is that of one node alone
    here_or_not : (number other : ℕ) → (other ≡ number) ⊎ ((other < number) ⊎ (number < other))
    here_or_not number other = elim (cases_eq other number) [
      | inl same ↦ inl same
      | inr apart ↦ elim (cases_lt other number) [
        | inl before ↦ inr (inl before)
        | inr after ↦ inr (inr (omega arith))
      ]
    ]

    -- the words of a node above, as many as its part has places at most
    links_short : (number : ℕ) → base < number → number ≤ base + k → kind_at store.shape.nodes number ≡ Pointer → length (link_words_of now number) ≤ slice_index (slots_each start) (pointer_number start number)
    links_short number level upto pointer =
        subst (λ (ws : List ℕ). length ws ≤ slice_index (slots_each start) (pointer_number start number)) (sym (g.got number level upto pointer))
        (part-short (first_of (slots_each start) (pointer_number start number)) (slice_index (slots_each start) (pointer_number start number)) links)

    pub slot_here : (number : ℕ) (at : Coord) (slot : ℕ) → base < number → number ≤ suc (base + k) → kind_at store.shape.nodes number ≡ Pointer → slot < length (slots_of_node start number start.links)
        → IsSlotFor start v at (first_of (slots_each start) (pointer_number start number) + slot) → place_in now number at ≡ Some slot
    slot_here number at slot level upto pointer inside is =
        let l = pointer_number start number in
        let sizes = slots_each start in
        let short = part-short (first_of sizes l) (slice_index sizes l) start.links in
        let kind' : kind_at store.shape.nodes is.number ≡ Pointer = sym (ap (λ (s : Shape). kind_at s.nodes is.number) e.given.same_shape) ∙ is.pointer in
        let place = is.is in
        let at_first = is.first in
        elim (here_or_not number is.number) [
          | inl same ↦
              let same_part : pointer_number start is.number ≡ l = ap (pointer_number start) same in
              let same_first : first_of sizes (pointer_number start is.number) ≡ first_of sizes l = ap (first_of sizes) same_part in
              let same_slot : is.slot ≡ slot = omega arith in
              subst (λ q. place_in now number at ≡ Some q) same_slot (place_known number at is.slot (omega arith) upto (inl pointer) (subst (λ n. KnowsSlot start v n at is.slot) same is.knows))
          | inr (inl before) ↦
              let level' = is_level is.number is.first (λ hash. let no : Pointer ≡ Hash = sym kind' ∙ hash in cc) in
              let known = place_known is.number at is.slot is.first (omega arith) (inl kind') is.knows in
              let paths : PathIsSlot now.shape = subst (λ (s : Shape). PathIsSlot s) (sym same_shape) e.paths in
              let low = (slot_place now is.number at is.slot g.well_formed paths is.first (now_kind is.number ∙ kind') known).1 in
              let few' = links_short is.number level' (omega arith) kind' in
              let less : pointer_number start is.number < l = number-more is_pointer start.layout.nodes (is.number - 1) (number - 1) (omega arith) (inside_nodes start.layout.nodes is.number Pointer is.pointer (λ (e : Pointer ≡ Dense). (cc))) (ap is_pointer is.pointer) in
              let more = first-more sizes (pointer_number start is.number) l less in
              absurd (omega arith)
          | inr (inr after) ↦
              let own : kind_at start.layout.nodes number ≡ Pointer = ap (λ (s : Shape). kind_at s.nodes number) e.given.same_shape ∙ pointer in
              let less : l < pointer_number start is.number = number-more is_pointer start.layout.nodes (number - 1) (is.number - 1) (omega arith) (inside_nodes start.layout.nodes number Pointer own (λ (e : Pointer ≡ Dense). (cc))) (ap is_pointer own) in
              let more = first-more sizes l (pointer_number start is.number) less in
              absurd (omega arith)
        ]

    masks_short : (number : ℕ) → base < number → number ≤ base + k → kind_at store.shape.nodes number ≡ Bitmasked → length (masks_of now number) ≤ slice_index (words_each start) (mask_number start number)
    masks_short number level upto masked =
        subst (λ (ws : List ℕ). length ws ≤ slice_index (words_each start) (mask_number start number)) (sym (g.marked number level upto masked))
        (part-short (first_of (words_each start) (mask_number start number)) (slice_index (words_each start) (mask_number start number)) masks)

    pub bit_here : (number : ℕ) (at : Coord) (slot : ℕ) → base < number → number ≤ suc (base + k) → kind_at store.shape.nodes number ≡ Bitmasked → slot < length (masks_of_node start number start.masks) * 64
        → IsBitFor start v at (first_of (words_each start) (mask_number start number) * 64 + slot) → place_in now number at ≡ Some slot
    bit_here number at slot level upto masked inside is =
        let l = mask_number start number in
        let sizes = words_each start in
        let short = part-short (first_of sizes l) (slice_index sizes l) start.masks in
        let kind' : kind_at store.shape.nodes is.number ≡ Bitmasked = sym (ap (λ (s : Shape). kind_at s.nodes is.number) e.given.same_shape) ∙ is.masked in
        let place = is.is in
        let at_first = is.first in
        elim (here_or_not number is.number) [
          | inl same ↦
              let same_part : mask_number start is.number ≡ l = ap (mask_number start) same in
              let same_first : first_of sizes (mask_number start is.number) ≡ first_of sizes l = ap (first_of sizes) same_part in
              let same_slot : is.slot ≡ slot = omega arith in
              subst (λ q. place_in now number at ≡ Some q) same_slot (place_known number at is.slot (omega arith) upto (inr masked) (subst (λ n. KnowsSlot start v n at is.slot) same is.knows))
          | inr (inl before) ↦
              let level' = is_level is.number is.first (λ hash. let no : Bitmasked ≡ Hash = sym kind' ∙ hash in cc) in
              let known = place_known is.number at is.slot is.first (omega arith) (inr kind') is.knows in
              let paths : PathIsSlot now.shape = subst (λ (s : Shape). PathIsSlot s) (sym same_shape) e.paths in
              let low = (bit_place now is.number at is.slot g.well_formed paths is.first (now_kind is.number ∙ kind') known).1 in
              let few' = masks_short is.number level' (omega arith) kind' in
              let less : mask_number start is.number < l = number-more is_mask start.layout.nodes (is.number - 1) (number - 1) (omega arith) (inside_nodes start.layout.nodes is.number Bitmasked is.masked (λ (e : Bitmasked ≡ Dense). (cc))) (ap is_mask is.masked) in
              let more = first-more sizes (mask_number start is.number) l less in
              absurd (omega arith)
          | inr (inr after) ↦
              let own : kind_at start.layout.nodes number ≡ Bitmasked = ap (λ (s : Shape). kind_at s.nodes number) e.given.same_shape ∙ masked in
              let less : l < mask_number start is.number = number-more is_mask start.layout.nodes (number - 1) (is.number - 1) (omega arith) (inside_nodes start.layout.nodes number Bitmasked own (λ (e : Bitmasked ≡ Dense). (cc))) (ap is_mask own) in
              let more = first-more sizes l (mask_number start is.number) less in
              absurd (omega arith)
        ]
