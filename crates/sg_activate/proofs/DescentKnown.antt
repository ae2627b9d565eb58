-- What a seat knows of a coordinate's slots, in a store whose nodes above have the words that the seat has seen.
use Rattle.std.proofs.Common.{◌≡◌, ℕ, zero, suc, ◌+◌, ◌-◌, ◌*◌, ◌<◌, ◌⊎◌, inl, inr, Bool, List, [], ◌∷◌, ◌++◌, length, take, refl, sym, ap, ◌∙◌, subst, arith}
use Rattle.std.specs.Prelude.{Option, Some, None, slice_index, slice_get, option_and_then}
use Rattle.std.specs.Option.{option_map}
use Rattle.std.specs.List.{Contains}
use Rattle.std.proofs.lemmas.List.{take_more, length-take}
use Rattle.std.proofs.lemmas.List.FromFn.{get_or-map-range_with_len}
use Rattle.std.proofs.lemmas.Option.{same_Some}
use Rattle.sg_words.specs.declared.race.Worker.{Worker}
use Rattle.sg_words.specs.Counts.{pairs}
use Rattle.sg_coord.specs.declared.coord.Coord.{Coord}
use Rattle.sg_layout.specs.declared.shape.Kind.{Kind}
use Rattle.sg_layout.specs.declared.shape.Kind.TheVariants.{Dense, Bitmasked, Pointer, Hash, Dynamic}
use Rattle.sg_layout.specs.declared.shape.NodeShape.{NodeShape}
use Rattle.sg_layout.specs.declared.shape.Shape.{Shape}
use Rattle.sg_layout.specs.Axes.{count_of, size_of, sizes_of}
use Rattle.sg_layout.specs.Path.{offsets, path}
use Rattle.sg_layout.specs.PathLaws.{PathIsSlot}
use Rattle.sg_layout.specs.Slots.{IsSlot}
use Rattle.sg_hash.specs.Tables.{beside}
use Rattle.sg_pool.proofs.Uses.{live_is_number}
use Rattle.sg_store.specs.declared.node.NodeWords.{NodeWords}
use Rattle.sg_store.specs.StoreWords.{StoreWords}
use Rattle.sg_store.specs.Slots.{slot_under, word_number, place_below, linked, link_word, links_by_slot}
use Rattle.sg_store.specs.WellFormed.{IsPointerNode, IsNode, AreNodes, IsWellFormed, is_root, places_below}
use Rattle.sg_store.specs.Walks.{place_after, slot_number_in, word_or, place_in}
use Rattle.sg_store.proofs.Uses.{as_many_nodes}
use Rattle.sg_activate.specs.declared.descent.rule.Start.{Start}
use Rattle.sg_activate.specs.Descending.{table_slot, StepsTo, LeadsTo, KnowsSlot}
use Rattle.sg_activate.proofs.DescentBridge.{size_at, many-offsets}
use Rattle.sg_activate.proofs.DescentWalks.{slot-within}
use Rattle.sg_activate.proofs.TakenNumbers.{contains_word}

module _ (start : Start) (v : Worker) where
  -- the words of a node are those that the seat has seen, and of a hash node those of the start
  abbrev pub IsHeld : ℕ → Kind → NodeWords → Type 0
  IsHeld number Dense kept = Unit {0}
  IsHeld number Bitmasked kept = Unit {0}
  IsHeld number Pointer kept = (slot next : ℕ) → slot < length kept.links → 0 < pairs (table_slot start number slot) next v.seen → slice_index kept.links slot ≡ suc next
  IsHeld number Hash kept = (kept.keys ≡ start.keys) × (kept.links ≡ start.heads)
  IsHeld number Dynamic kept = Unit {0}

  -- so of so many nodes, from this number on
  abbrev pub AreHeld : List NodeShape → List NodeWords → ℕ → ℕ → Type 0
  AreHeld nodes words number many =
      (j : ℕ) (node : NodeShape) (kept : NodeWords) → j < many → slice_get nodes j ≡ Some node → slice_get words j ≡ Some kept → IsHeld (number + j) node.kind kept

  -- a link's number is below that of the places
  linked_below : (node : NodeShape) (kept : NodeWords) (slots : ℕ) (live : ℕ → Bool) (next : ℕ) → IsPointerNode node kept slots live → Contains kept.links (suc next) → next < count_of node.cap + 17
  linked_below node kept slots live next is has =
      let number = live_is_number kept.pool next ((is.live_linked next).1 has) in
      let places = is.places in omega arith

  step_below : (number : ℕ) (kind : Kind) (node : NodeShape) (kept : NodeWords) (slots : ℕ) (live : ℕ → Bool) (slot next : ℕ) → IsNode kind node kept slots live → slot < slots → IsHeld number kind kept
      → StepsTo start v number kind slot next → (place_below kind node kept slot ≡ Some next) × (next < places_below kind node slots)
  step_below number Dense node kept slots live slot next is below held steps = (ap Some (sym steps), subst (λ n. n < slots) (sym steps) below)
  step_below number Bitmasked node kept slots live slot next is below held steps = (ap Some (sym steps), subst (λ n. n < slots) (sym steps) below)
  step_below number Pointer node kept slots live slot next is below held steps =
      let many = is.link_count in
      let word = held slot next (omega arith) steps in
      (ap linked word, linked_below node kept slots live next is (contains_word kept.links slot next word))
  step_below number Hash node kept slots live slot next is below held steps =
      let here : beside kept.keys kept.links slot ≡ Some next = ap (λ keys. beside keys kept.links slot) held.0 ∙ ap (λ links. beside start.keys links slot) held.1 ∙ steps in
      let zero_on : 0 + slot ≡ slot = omega arith in
      let word : slice_index (links_by_slot kept.keys kept.links slots) slot ≡ suc next =
      get_or-map-range_with_len (λ (s : ℕ). link_word (beside kept.keys kept.links s)) 0 slots slot slot 0 below zero_on ∙ ap link_word here in
      let number = live_is_number kept.pool next ((is.as_pointer.live_linked next).1 (contains_word (links_by_slot kept.keys kept.links slots) slot next word)) in
      let places = is.as_pointer.places in
      (here, omega arith)
  step_below number Dynamic node kept slots live slot next is below held steps = absurd steps

  -- where the seat knows the way, links lead along it
  pub leads_after : (nodes : List NodeShape) (words : List NodeWords) (places : ℕ) (live : ℕ → Bool) (number place many : ℕ) (slot : List ℕ) (end : ℕ) → AreNodes nodes words places live → place < places
      → IsSlot (take many nodes) slot → AreHeld nodes words number many → LeadsTo start v nodes number place slot end → place_after place_below nodes words place slot ≡ Some end
  leads_after nodes words places live number place many [] end are within is held leads = ap Some leads
  leads_after [] words places live number place many (offset ∷ slot) end are within is held leads = absurd leads
  leads_after (node ∷ later) [] places live number place many (offset ∷ slot) end are within is held leads = absurd are
  leads_after (node ∷ later) (kept ∷ words) places live number place zero (offset ∷ slot) end are within is held leads = absurd is
  leads_after (node ∷ later) (kept ∷ words) places live number place (suc many) (offset ∷ slot) end are within is held leads =
      let here : number + 0 ≡ number = omega arith in
      let own = subst (λ n. IsHeld n node.kind kept) here (held 0 node kept (omega arith) refl refl) in
      let first = step_below number node.kind node kept (places * size_of node.sizes) _ (slot_under node place offset) leads.0 are.1 (slot-within place (size_of node.sizes) offset places within is.0) own leads.1 in
      ap (option_and_then (λ next. place_after place_below later words next slot)) first.0
      ∙ leads_after later words _ _ (suc number) leads.0 many slot end are.2 first.1 is.1
      (λ j node' kept' below at has. let e : number + suc j ≡ suc number + j = omega arith in subst (λ n. IsHeld n node'.kind kept') e (held (suc j) node' kept' (omega arith) at has)) leads.2

-- one node further a slot has its number
after_case : (o : Option ℕ) (f h : ℕ → Option ℕ) (end m : ℕ) → option_and_then f o ≡ Some end → ((under : ℕ) → f under ≡ Some end → h under ≡ Some m) → option_and_then h o ≡ Some m
after_case None f h end m e k = absurd (cc)
after_case (Some under) f h end m e k = k under e

own_after : (nodes : List NodeShape) (words : List NodeWords) (place : ℕ) (slot : List ℕ) (offset end : ℕ) (node : NodeShape) → slice_get nodes (length slot) ≡ Some node → length words ≡ length nodes
    → place_after place_below nodes words place slot ≡ Some end → slot_number_in nodes words place (slot ++ offset ∷ []) ≡ Some (slot_under node end offset)
own_after [] words place [] offset end node at long e = absurd (cc)
own_after [] words place (x ∷ slot) offset end node at long e = absurd (cc)
own_after (shape ∷ later) [] place [] offset end node at long e = absurd (omega arith)
own_after (shape ∷ later) [] place (x ∷ slot) offset end node at long e = absurd (omega arith)
own_after (shape ∷ later) (kept ∷ words) place [] offset end node at long e =
    let same : shape ≡ node = same_Some shape node at in
    let here : place ≡ end = same_Some place end e in
    ap (λ n. Some (slot_under n place offset)) same ∙ ap (λ p. Some (slot_under node p offset)) here
own_after (shape ∷ later) (kept ∷ words) place (x ∷ []) offset end node at long e =
    after_case (place_below shape.kind shape kept (slot_under shape place x)) (λ next. place_after place_below later words next []) (λ under. slot_number_in later words under (offset ∷ [])) end (slot_under node end offset) e
    (λ under e'. own_after later words under [] offset end node at (omega arith) e')
own_after (shape ∷ later) (kept ∷ words) place (x ∷ (y ∷ slot)) offset end node at long e =
    after_case (place_below shape.kind shape kept (slot_under shape place x)) (λ next. place_after place_below later words next (y ∷ slot)) (λ under. slot_number_in later words under ((y ∷ slot) ++ offset ∷ [])) end (slot_under node end offset) e
    (λ under e'. own_after later words under (y ∷ slot) offset end node at (omega arith) e')

-- so the slot that a seat knows is the place of the coordinate's word at a node of links or bits
pub known_place : (start : Start) (v : Worker) (store : StoreWords) (i : ℕ) (node : NodeShape) (at : Coord) (slot : ℕ) → IsWellFormed store → PathIsSlot store.shape → start.layout ≡ store.shape
    → slice_get store.shape.nodes i ≡ Some node → i < length store.shape.nodes → (node.kind ≡ Pointer) ⊎ (node.kind ≡ Bitmasked)
    → AreHeld start v store.shape.nodes store.nodes 1 i → KnowsSlot start v (suc i) at slot → place_in store (suc i) at ≡ Some slot
known_place start v store i node at slot well paths same there below kind held knows =
    let back : suc i - 1 ≡ i = omega arith in
    let nodes = store.shape.nodes in
    let leads : LeadsTo start v nodes 1 0 (path store.shape at i) knows.place =
    subst (λ (s : Shape). LeadsTo start v s.nodes 1 0 (path s at i) knows.place) same (subst (λ n. LeadsTo start v start.layout.nodes 1 0 (path start.layout at n) knows.place) back knows.leads) in
    let walked = leads_after start v nodes store.nodes 1 is_root 1 0 i (path store.shape at i) knows.place well.nodes_fit (omega arith) (paths well.accepted at i) held leads in
    let m = many-offsets nodes at in
    let cut = length-take i (offsets nodes at) in
    let many : length (path store.shape at i) ≡ i = omega arith in
    let o = slice_index (offsets nodes at) i in
    let own = own_after nodes store.nodes 0 (path store.shape at i) o knows.place node (ap (slice_get nodes) many ∙ there) (as_many_nodes store well) walked in
    let next : i + 1 ≡ suc i = omega arith in
    let longer : path store.shape at (suc i) ≡ path store.shape at i ++ o ∷ [] = subst (λ k. take k (offsets nodes at) ≡ path store.shape at i ++ o ∷ []) next (take_more (offsets nodes at) i 0 (omega arith)) in
    let size : slice_index (sizes_of nodes) i ≡ size_of node.sizes = size_at nodes i node there in
    let is_slot : slot ≡ slot_under node knows.place o =
    subst (λ (s : Shape). slot ≡ knows.place * slice_index (sizes_of s.nodes) i + slice_index (offsets s.nodes at) i) same (subst (λ n. slot ≡ knows.place * slice_index (sizes_of start.layout.nodes) n + slice_index (offsets start.layout.nodes at) n) back knows.is_slot)
    ∙ ap (λ n. knows.place * n + o) size in
    ap (λ k. option_map (word_or (slice_get nodes k)) (slot_number_in nodes store.nodes 0 (path store.shape at (suc i)))) back
    ∙ ap (λ n. option_map (word_or n) (slot_number_in nodes store.nodes 0 (path store.shape at (suc i)))) there
    ∙ ap (λ p. option_map (word_number node.kind node) (slot_number_in nodes store.nodes 0 p)) longer
    ∙ ap (option_map (word_number node.kind node)) own
    ∙ ap Some (word_same kind (slot_under node knows.place o)) ∙ ap Some (sym is_slot)
  where
    word_same : (node.kind ≡ Pointer) ⊎ (node.kind ≡ Bitmasked) → (q : ℕ) → word_number node.kind node q ≡ q
    word_same (inl k) q = ap (λ k. word_number k node q) k
    word_same (inr k) q = ap (λ k. word_number k node q) k
