-- What lengths that tell the live slots of a dynamic node need together: what the node needs for the coordinates.
use Rattle.std.proofs.Common.{◌≡◌, ◌≢◌, ℕ, zero, suc, ◌+◌, ◌-◌, ◌*◌, ◌/◌, ◌%◌, ◌<◌, ◌≤◌, Bool, true, false, List, [], ◌∷◌, ◌++◌, length, map, take, get_or, refl, sym, ap, ◌∙◌, subst, arith, inl, inr}
use Rattle.std.specs.Prelude.{Option, Some, None, unwrap_or, nat_lt, slice_get, slice_index}
use Rattle.std.specs.Option.{option_map}
use Rattle.std.specs.List.{Contains}
use Rattle.std.proofs.lemmas.Bool.{false≢true, cases_lt, ltb-true, lt-ltb}
use Rattle.std.proofs.Math.Nat.{pos_of_ne-zero}
use Rattle.std.proofs.lemmas.Nat.{div-mul-add, mod-mul-add}
use Rattle.std.proofs.lemmas.List.{get_or_default}
use Rattle.std.proofs.lemmas.List.Elements.{Contains-get_or}
use Rattle.std.proofs.lemmas.Option.{none-some, same_Some}
use Rattle.sg_words.proofs.Uses.{from_map}
use Rattle.sg_coord.specs.declared.coord.Coord.{Coord}
use Rattle.sg_layout.specs.declared.shape.Kind.TheVariants.{Dynamic}
use Rattle.sg_layout.specs.declared.shape.NodeShape.{NodeShape}
use Rattle.sg_layout.specs.Axes.{count_of, size_of}
use Rattle.sg_layout.specs.Path.{path, offsets}
use Rattle.sg_layout.specs.Live.{is_live}
use Rattle.sg_layout.specs.Slots.{IsSlot}
use Rattle.sg_layout.specs.Need.{reached_slots, chunks_under, need_by}
use Rattle.sg_layout.specs.NeedLaws as needs
use Rattle.sg_layout.proofs.Uses.{from_distinct}
use Rattle.sg_dynamic.specs.Chunks as chunks
use Rattle.sg_store.specs.declared.node.NodeWords.{NodeWords}
use Rattle.sg_store.specs.StoreWords.{StoreWords}
use Rattle.sg_store.specs.Slots.{slot_under, below_length, place_below}
use Rattle.sg_store.specs.Walks.{place_after, slot_number_in}
use Rattle.sg_store.specs.WellFormed.{is_root}
use Rattle.sg_store.specs.steps.AtNode.{AtNodeOf}
use Rattle.sg_store.specs.steps.Walking.{AreOffsets}
use Rattle.sg_store.proofs.Walking.{links_are_one, walks_apart}
use Rattle.sg_store.proofs.Leading.{InLive, leads_from}
use Rattle.sg_store.proofs.Lengths.{AreMatched, matched_sum}
use Rattle.sg_store.proofs.Chains.{length_there}
use Rattle.sg_store.proofs.Opening.{no_chunks}
use Rattle.sg_store.proofs.SlotPaths.{slot_offsets}
use Rattle.sg_store.proofs.PathWalks.{path_long, path_more}
use Rattle.sg_store.proofs.Wanted.{own_path_live, kind_there}
use Rattle.sg_store.proofs.Under.{under_of, DynamicAt, number_under, place_of_number, before_from_live}

-- lengths that tell which slots of a dynamic node are live for coordinates
pub record TellLengths (store : StoreWords) (i : ℕ) (node : NodeShape) (kept : NodeWords) (lengths : List ℕ) (coords : List Coord) : Type 0 where
  pub dynamic : DynamicAt store i node kept
  pub some_chunk : 1 ≤ count_of node.chunk
  pub short : (p : ℕ) → slice_index lengths p ≤ size_of node.sizes
  pub in_live : (q : ℕ) → below_length lengths (size_of node.sizes) q ≡ true → AtNodeOf (InLive q) store i
  pub tells : (slot : List ℕ) → IsSlot (take (suc i) store.shape.nodes) slot → unwrap_or (option_map (below_length lengths (size_of node.sizes)) (slot_number_in store.shape.nodes store.nodes 0 slot)) false ≡ is_live store.shape coords (suc i) slot
  pub parents : needs.ParentsHaveLive store.shape
  pub up_to : needs.LiveUpToGreatest store.shape
  pub once : needs.ReachedOnce store.shape

-- the reached slots of the nodes above
abbrev pub parents_of : StoreWords → ℕ → List Coord → List (List ℕ)
parents_of store i coords = reached_slots store.shape coords (suc i - 1)

is_dynamic : (store : StoreWords) (i : ℕ) (node : NodeShape) (kept : NodeWords) → DynamicAt store i node kept → needs.IsNumberedDynamicNode store.shape (suc i)
is_dynamic store i node kept d = record { first = omega arith; within = d.within; dynamic = kind_there store.shape.nodes i node d.at ∙ d.dynamic }

some_number : (f : ℕ → Bool) (o : Option ℕ) → unwrap_or (option_map f o) false ≡ true → (q : ℕ) × (o ≡ Some q) × (f q ≡ true)
some_number f None e = absurd (false≢true e)
some_number f (Some q) e = (q, refl, e)

-- a slot under a parent whose offsets are those of the nodes above
slot_from : (nodes : List NodeShape) (i : ℕ) (parent : List ℕ) (index : ℕ) (node : NodeShape) → slice_get nodes i ≡ Some node → AreOffsets nodes parent → length parent ≡ i → index < size_of node.sizes → IsSlot (take (suc i) nodes) (parent ++ index ∷ [])
slot_from [] i parent index node at are long low = absurd (none-some node at)
slot_from (first ∷ later) zero [] index node at are long low = (subst (λ (n : NodeShape). index < size_of n.sizes) (sym (same_Some first node at)) low, tt)
slot_from (first ∷ later) (suc i) [] index node at are long low = absurd (omega (arith, long))
slot_from (first ∷ later) zero (o ∷ parent) index node at are long low = absurd (omega (arith, long))
slot_from (first ∷ later) (suc i) (o ∷ parent) index node at are long low = (are.0, slot_from later i parent index node at are.1 (omega (arith, long)) low)

-- a reached parent: its place, and its length, which is one more than the greatest index
pub record IsParent (store : StoreWords) (i : ℕ) (node : NodeShape) (lengths : List ℕ) (coords : List Coord) (parent : List ℕ) : Type 0 where
  pub long : length parent ≡ i
  pub offsets : AreOffsets store.shape.nodes parent
  pub place : ℕ
  pub leads : place_after place_below store.shape.nodes store.nodes 0 parent ≡ Some place
  pub length_is : slice_index lengths place ≡ suc (needs.greatest_under store.shape coords (suc i) parent)

-- the index of a slot is below the node's size
last_low : (nodes : List NodeShape) (i : ℕ) (parent : List ℕ) (index : ℕ) (node : NodeShape) → slice_get nodes i ≡ Some node → length parent ≡ i → IsSlot (take (suc i) nodes) (parent ++ index ∷ []) → index < size_of node.sizes
last_low [] i parent index node at long is = absurd (none-some node at)
last_low (first ∷ later) zero [] index node at long is = subst (λ (n : NodeShape). index < size_of n.sizes) (same_Some first node at) is.0
last_low (first ∷ later) (suc i) [] index node at long is = absurd (omega (arith, long))
last_low (first ∷ later) zero (o ∷ parent) index node at long is = absurd (omega (arith, long))
last_low (first ∷ later) (suc i) (o ∷ parent) index node at long is = last_low later i parent index node at (omega (arith, long)) is.1

-- under a parent with a place an index is below the length exactly when its slot is live
live_below_length : (store : StoreWords) (i : ℕ) (node : NodeShape) (kept : NodeWords) (lengths : List ℕ) (coords : List Coord) → TellLengths store i node kept lengths coords → (parent : List ℕ) (index place : ℕ) → length parent ≡ i → AreOffsets store.shape.nodes parent → index < size_of node.sizes → place_after place_below store.shape.nodes store.nodes 0 parent ≡ Some place → nat_lt index (slice_index lengths place) ≡ is_live store.shape coords (suc i) (parent ++ index ∷ [])
live_below_length store i node kept lengths coords tell parent index place long are low leads =
    let size : ℕ = size_of node.sizes in
    let q : ℕ = place * size + index in
    let quotient : q / size ≡ place = div-mul-add place size index low in
    let rest : q % size ≡ index = mod-mul-add place size index low in
    let number : slot_number_in store.shape.nodes store.nodes 0 (parent ++ index ∷ []) ≡ Some q =
    number_under store i node kept tell.dynamic parent index long ∙ ap (option_map (λ p. slot_under node p index)) leads in
    ap (λ n. nat_lt n (slice_index lengths place)) (sym rest) ∙ ap (λ p. nat_lt (q % size) (slice_index lengths p)) (sym quotient)
    ∙ sym (ap (λ o. unwrap_or (option_map (below_length lengths size) o) false) number)
    ∙ tell.tells (parent ++ index ∷ []) (slot_from store.shape.nodes i parent index node tell.dynamic.at are long low)

-- lengths with these tests are one more than the greatest index
length_from : (len size g : ℕ) → len ≤ size → g < size → nat_lt g len ≡ true → (suc g < size → nat_lt (suc g) len ≡ true → ⊥) → len ≡ suc g
length_from len size g short low here past = elim (cases_lt (suc g) len) [
  | inl more ↦ absurd (past (omega (arith, more, short)) (lt-ltb (suc g) len more))
  | inr few ↦ (let below : g < len = ltb-true g len here in omega arith)
]

parent_is : (store : StoreWords) (i : ℕ) (node : NodeShape) (kept : NodeWords) (lengths : List ℕ) (coords : List Coord) → TellLengths store i node kept lengths coords → (parent : List ℕ) → Contains (parents_of store i coords) parent → IsParent store i node lengths coords parent
parent_is store i node kept lengths coords tell parent has =
    let nodes : List NodeShape = store.shape.nodes in
    let size : ℕ = size_of node.sizes in
    let d = tell.dynamic in
    let dyn = is_dynamic store i node kept d in
    let back : suc i - 1 ≡ i = omega arith in
    let from = from_map (λ (c : Coord). path store.shape c (suc i - 1)) coords parent (from_distinct (map (λ (c : Coord). path store.shape c (suc i - 1)) coords) parent has) in
    let at : Coord = from.0 in
    let o : ℕ = slice_index (offsets nodes at) i in
    let mine : path store.shape at i ≡ parent = ap (path store.shape at) (sym back) ∙ from.2 in
    let whole : path store.shape at (suc i) ≡ parent ++ o ∷ [] = path_more store.shape at i (omega (arith, d.within)) ∙ ap (λ s. s ++ o ∷ []) mine in
    let long : length parent ≡ i = ap length (sym mine) ∙ path_long store.shape at i (omega (arith, d.within)) in
    let are : AreOffsets nodes parent = subst (AreOffsets nodes) mine (slot_offsets nodes i (path store.shape at i) (d.paths at i)) in
    let low : o < size = last_low nodes i parent o node d.at long (subst (IsSlot (take (suc i) nodes)) whole (d.paths at (suc i))) in
    let live : is_live store.shape coords (suc i) (path store.shape at (suc i)) ≡ true = own_path_live store.shape coords (suc i) at from.1 in
    let on = some_number (below_length lengths size) (slot_number_in nodes store.nodes 0 (path store.shape at (suc i))) (tell.tells (path store.shape at (suc i)) (d.paths at (suc i)) ∙ live) in
    let place = place_of_number store i node kept d parent o on.0 long low (ap (slot_number_in nodes store.nodes 0) (sym whole) ∙ on.1) in
    let g : ℕ = needs.greatest_under store.shape coords (suc i) parent in
    let up = tell.up_to coords (suc i) dyn parent has in
    let top : is_live store.shape coords (suc i) (parent ++ g ∷ []) ≡ true = (up g).1 (omega arith) in
    let before = before_from_live store i node kept d coords parent g long top in
    let small : g < size = omega (arith, before.before, before.low) in
    record {
      long = long;
      offsets = are;
      place = place.place;
      leads = place.leads;
      length_is = length_from (slice_index lengths place.place) size g (tell.short place.place) small
          (live_below_length store i node kept lengths coords tell parent g place.place long are small place.leads ∙ top)
          (λ next below.
          let past : suc g ≤ g = (up (suc g)).0 (sym (live_below_length store i node kept lengths coords tell parent (suc g) place.place long are next place.leads) ∙ below) in
          omega (arith, past));
    }

-- ── One parent a length ──

-- the place of a parent; 0 if links don't lead to it
abbrev parent_place : StoreWords → List ℕ → ℕ
parent_place store parent = unwrap_or (place_after place_below store.shape.nodes store.nodes 0 parent) 0

slot_of : (nodes : List NodeShape) (slot : List ℕ) → AreOffsets nodes slot → IsSlot (take (length slot) nodes) slot
slot_of nodes [] are = tt
slot_of [] (o ∷ slot) are = absurd are
slot_of (node ∷ later) (o ∷ slot) are = (are.0, slot_of later slot are.1)

chunks_same : (chunk g : ℕ) → 1 ≤ chunk → (g + chunk) / chunk ≡ chunks.chunks_of chunk (suc g)
chunks_same chunk g some = let same : g + chunk ≡ suc g + (chunk - 1) = omega arith in ap (λ n. n / chunk) same

matched : (store : StoreWords) (i : ℕ) (node : NodeShape) (kept : NodeWords) (lengths : List ℕ) (coords : List Coord) → TellLengths store i node kept lengths coords → AreMatched (parents_of store i coords) lengths (parent_place store) (chunks.chunks_of (count_of node.chunk)) (chunks_under store.shape coords (suc i) (count_of node.chunk))
matched store i node kept lengths coords tell =
    let nodes : List NodeShape = store.shape.nodes in
    let size : ℕ = size_of node.sizes in
    let chunk : ℕ = count_of node.chunk in
    let d = tell.dynamic in
    let items : List (List ℕ) = parents_of store i coords in
    let own : (k : ℕ) → k < length items → IsParent store i node lengths coords (get_or items k []) = λ k below.
    parent_is store i node kept lengths coords tell (get_or items k []) (Contains-get_or items k [] below) in
    let at : (k : ℕ) → (below : k < length items) → parent_place store (get_or items k []) ≡ (own k below).place = λ k below. ap (λ o. unwrap_or o 0) (own k below).leads in
    record {
      there = λ k below.
          let mine = own k below in
          subst (λ p. p < length lengths) (sym (at k below)) (length_there lengths mine.place 0 (omega (arith, mine.length_is)));
      same = λ k below.
          let mine = own k below in
          chunks_same chunk (needs.greatest_under store.shape coords (suc i) (get_or items k [])) tell.some_chunk
          ∙ ap (chunks.chunks_of chunk) (sym mine.length_is) ∙ ap (λ p. chunks.chunks_of chunk (slice_index lengths p)) (sym (at k below));
      once = λ j k before below same.
          let first = own j (omega (arith, before, below)) in
          let second = own k below in
          let together : first.place ≡ second.place = sym (at j (omega (arith, before, below))) ∙ same ∙ at k below in
          let apart = walks_apart place_below nodes store.nodes (links_are_one nodes store.nodes 1 is_root d.are_nodes) 0 0 (get_or items j []) (get_or items k []) second.place first.offsets second.offsets
          (first.long ∙ sym second.long) (first.leads ∙ ap Some together) second.leads in
          tell.once coords (suc i - 1) j k [] before below apart.1;
      all = λ p some. holder p some;
    }
  where
    holder : (p : ℕ) → slice_index lengths p ≢ 0 → (k : ℕ) × (k < length (parents_of store i coords)) × (parent_place store (get_or (parents_of store i coords) k []) ≡ p)
    holder p some =
        let nodes : List NodeShape = store.shape.nodes in
        let size : ℕ = size_of node.sizes in
        let d = tell.dynamic in
        let len : ℕ = slice_index lengths p in
        let positive : 0 < len = pos_of_ne-zero some in
        let wide : 0 < size = omega (arith, positive, tell.short p) in
        let q : ℕ = p * size + 0 in
        let quotient : q / size ≡ p = div-mul-add p size 0 wide in
        let rest : q % size ≡ 0 = mod-mul-add p size 0 wide in
        let below : below_length lengths size q ≡ true = ap (λ n. nat_lt n (slice_index lengths (q / size))) rest ∙ ap (λ m. nat_lt 0 (slice_index lengths m)) quotient ∙ lt-ltb 0 len positive in
        let leads = leads_from nodes store.nodes 1 is_root d.are_nodes i q (tell.in_live q below) in
        let root : leads.start ≡ 0 = omega (arith, leads.within) in
        let number : slot_number_in nodes store.nodes 0 leads.slot ≡ Some q = ap (λ s. slot_number_in nodes store.nodes s leads.slot) (sym root) ∙ leads.number in
        let is_slot : IsSlot (take (suc i) nodes) leads.slot = subst (λ n. IsSlot (take n nodes) leads.slot) leads.long (slot_of nodes leads.slot leads.are_offsets) in
        let own = under_of nodes i leads.slot (omega (arith, d.within)) is_slot in
        let place = place_of_number store i node kept d own.parent own.index q own.long (own.low node d.at) (ap (slot_number_in nodes store.nodes 0) (sym own.is) ∙ number) in
        let live : is_live store.shape coords (suc i) leads.slot ≡ true =
        sym (tell.tells leads.slot is_slot) ∙ ap (λ o. unwrap_or (option_map (below_length lengths size) o) false) number ∙ below in
        let has = (tell.parents coords (suc i) (is_dynamic store i node kept d) own.parent).1 (own.index, ap (is_live store.shape coords (suc i)) (sym own.is) ∙ live) in
        let read : get_or (parents_of store i coords) has.0 [] ≡ own.parent = get_or_default (parents_of store i coords) has.0 [] own.parent has.1 ∙ has.2 in
        (has.0, has.1, ap (parent_place store) read ∙ ap (λ o. unwrap_or o 0) place.leads ∙ sym place.quotient ∙ quotient)

-- so what they need is the need
pub chain_need : (store : StoreWords) (i : ℕ) (node : NodeShape) (kept : NodeWords) (lengths : List ℕ) (coords : List Coord) → TellLengths store i node kept lengths coords → chunks.chunk_need (count_of node.chunk) lengths ≡ need_by Dynamic store.shape coords (suc i) (count_of node.chunk)
chain_need store i node kept lengths coords tell =
    matched_sum (parents_of store i coords) lengths (parent_place store) (chunks.chunks_of (count_of node.chunk)) (chunks_under store.shape coords (suc i) (count_of node.chunk))
    (no_chunks (count_of node.chunk) tell.some_chunk) (matched store i node kept lengths coords tell)
