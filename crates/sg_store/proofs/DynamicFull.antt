-- Lengths that need more chunks than a dynamic node has.
use Rattle.std.proofs.Common.{◌≡◌, ℕ, suc, ◌/◌, ◌%◌, ◌<◌, ◌≤◌, Bool, true, false, ◌||◌, List, ◌++◌, length, take, refl, sym, ap, ◌∙◌, subst, arith, cond}
use Rattle.std.specs.Prelude.{Option, Some, None, Result, Ok, Err, unwrap_or, nat_le, nat_lt, slice_index}
use Rattle.std.specs.Option.{option_map}
use Rattle.std.specs.List.{Contains, list_any}
use Rattle.std.proofs.lemmas.Bool.{leb-true, ltb-true}
use Rattle.std.proofs.lemmas.List.Elements.{Contains-append_right}
use Rattle.std.proofs.lemmas.List.Folds.{list_any-append}
use Rattle.std.proofs.lemmas.Nat.{mul-add-lt, mod_below, div-add-mod'}
use Rattle.std.proofs.lemmas.Option.{same_Some}
use Rattle.sg_coord.specs.declared.coord.Coord.{Coord}
use Rattle.sg_layout.specs.declared.shape.Kind.TheVariants.{Dynamic}
use Rattle.sg_layout.specs.declared.shape.NodeShape.{NodeShape}
use Rattle.sg_layout.specs.declared.shape.Shape.{Shape}
use Rattle.sg_layout.specs.Axes.{count_of, size_of}
use Rattle.sg_layout.specs.Path.{path}
use Rattle.sg_layout.specs.Live.{kind_at, is_live}
use Rattle.sg_layout.specs.Slots.{IsSlot}
use Rattle.sg_layout.specs.Need.{need_by}
use Rattle.sg_layout.specs.NeedLaws as needs
use Rattle.sg_pool.specs.Numbers.{place_count}
use Rattle.sg_dynamic.specs.declared.chunks.ChunkFull.{ChunkFull}
use Rattle.sg_dynamic.specs.Chunks as chunks
use Rattle.sg_store.specs.declared.node.NodeWords.{NodeWords}
use Rattle.sg_store.specs.StoreWords.{StoreWords}
use Rattle.sg_store.specs.Slots.{below_length, is_set}
use Rattle.sg_store.specs.Walks.{slot_number_in, is_on}
use Rattle.sg_store.specs.WellFormed.{IsNode, IsDynamicNode, is_root}
use Rattle.sg_store.specs.Reaching.{IsOpenThrough}
use Rattle.sg_store.specs.steps.Raising.{keeps_too, RiseByMany, CanLengthen, AnswersFit}
use Rattle.sg_store.specs.steps.Levels.{IsFullNode}
use Rattle.sg_store.proofs.Leading.{InLive}
use Rattle.sg_store.proofs.Grown.{own_answer_at}
use Rattle.sg_store.specs.StandsFor.{IsSlotOf}
use Rattle.sg_store.proofs.SlotPaths.{slot_long, not_true}
use Rattle.sg_store.proofs.Wanted.{kind_there, number_there, open_for}
use Rattle.sg_store.proofs.Counting.{node_of, Both, OfWellFormed, nodes_at, at_node_from}
use Rattle.sg_store.proofs.Chains.{length_there}
use Rattle.sg_store.proofs.Under.{DynamicAt, goes_under}
use Rattle.sg_store.proofs.ChainNeed.{TellLengths, chain_need}
use Rattle.sg_store.proofs.DynamicLevel.{DynamicOpening, own_node, settling_at, can_settle_lengths}

-- a slot below a length of the node is one of its slots
below_within : (node : NodeShape) (kept : NodeWords) (slots : ℕ) (live : ℕ → Bool) (lengths : List ℕ) (q : ℕ) → IsDynamicNode node kept slots live → length lengths ≡ length kept.lengths → ((p : ℕ) → slice_index lengths p ≤ size_of node.sizes) → below_length lengths (size_of node.sizes) q ≡ true → q < slots
below_within node kept slots live lengths q is many short on =
    let size : ℕ = size_of node.sizes in
    let low : q % size < slice_index lengths (q / size) = ltb-true (q % size) (slice_index lengths (q / size)) on in
    let wide : 0 < size = omega (arith, low, short (q / size)) in
    let parent : q / size < length kept.lengths = omega (arith, length_there lengths (q / size) (q % size) low, many) in
    let whole = mul-add-lt (q / size) size (q % size) (length kept.lengths) parent (mod_below q size wide) in
    omega (arith, whole, div-add-mod' q size, is.length_count)

-- what is on at the node, by its lengths
on_by_lengths : (store : StoreWords) (i : ℕ) (node : NodeShape) (kept : NodeWords) → DynamicAt store i node kept → (slot : List ℕ) → IsSlot (take (suc i) store.shape.nodes) slot → is_on store.shape.nodes store.nodes 0 slot ≡ unwrap_or (option_map (below_length kept.lengths (size_of node.sizes)) (slot_number_in store.shape.nodes store.nodes 0 slot)) false
on_by_lengths store i node kept d slot is =
    ap (λ a. unwrap_or a false) (own_answer_at is_set store.shape.nodes store.nodes i node kept d.at d.has 0 slot (slot_long store.shape.nodes (suc i) slot d.within is))
    ∙ ap (λ k. unwrap_or (option_map (is_set k node kept) (slot_number_in store.shape.nodes store.nodes 0 slot)) false) d.dynamic

slot_here : (store : StoreWords) (i : ℕ) (node : NodeShape) (kept : NodeWords) → DynamicAt store i node kept → (slot : List ℕ) → IsSlot (take (suc i) store.shape.nodes) slot → IsSlotOf store.shape (suc i) slot
slot_here store i node kept d slot is = record {
  first = omega arith;
  within = d.within;
  has_activity = λ dense. let own : kind_at store.shape.nodes (suc i) ≡ Dynamic = kind_there store.shape.nodes i node d.at ∙ d.dynamic in cc;
  is_slot = is;
}

-- the laws of layouts that needs rest on
pub record ChainLaws (shape : Shape) : Type 0 where
  pub parents : needs.ParentsHaveLive shape
  pub up_to : needs.LiveUpToGreatest shape
  pub once : needs.ReachedOnce shape

-- if a store is open through a dynamic node, its own lengths tell what is live there
pub own_tell : (store : StoreWords) (i : ℕ) (node : NodeShape) (kept : NodeWords) (coords : List Coord) → DynamicAt store i node kept → ChainLaws store.shape → ((slot : List ℕ) → IsSlotOf store.shape (suc i) slot → is_on store.shape.nodes store.nodes 0 slot ≡ is_live store.shape coords (suc i) slot) → TellLengths store i node kept kept.lengths coords
own_tell store i node kept coords d laws on =
    let nodes : List NodeShape = store.shape.nodes in
    let found = node_of OfWellFormed nodes store.nodes 1 is_root i (nodes_at nodes store.nodes 1 is_root i d.are_nodes (omega (arith, d.within))) in
    let a : found.node ≡ node = same_Some found.node node (sym found.at ∙ d.at) in
    let b : found.kept ≡ kept = same_Some found.kept kept (sym found.has ∙ d.has) in
    let own : IsDynamicNode node kept found.slots found.live =
    subst (λ k. IsNode k node kept found.slots found.live) d.dynamic
    (subst (λ (n : NodeShape). IsNode n.kind n kept found.slots found.live) a (subst (λ (k : NodeWords). IsNode found.node.kind found.node k found.slots found.live) b found.says)) in
    record {
      dynamic = d;
      some_chunk = own.some_chunk;
      short = own.short;
      in_live = λ q below.
          at_node_from OfWellFormed (InLive q) nodes store.nodes 1 is_root i
          (λ other mine slots live at has says.
          let c : other ≡ node = same_Some other node (sym at ∙ d.at) in
          let e : mine ≡ kept = same_Some mine kept (sym has ∙ d.has) in
          let here : IsDynamicNode node kept slots live =
          subst (λ k. IsNode k node kept slots live) d.dynamic
          (subst (λ (n : NodeShape). IsNode n.kind n kept slots live) c (subst (λ (k : NodeWords). IsNode other.kind other k slots live) e says)) in
          record { within = below_within node kept slots live kept.lengths q here refl here.short below; is_live = here.in_live q below })
          (nodes_at nodes store.nodes 1 is_root i d.are_nodes (omega (arith, d.within)));
      tells = λ slot is. sym (on_by_lengths store i node kept d slot is) ∙ on slot (slot_here store i node kept d slot is);
      parents = laws.parents;
      up_to = laws.up_to;
      once = laws.once;
    }

-- the raised lengths tell what is live for the old and the wanted coordinates
raised_tell : (store : StoreWords) (i cap chunk : ℕ) (wanted : List Coord) (slots lengths : List ℕ) (size : ℕ) → (o : DynamicOpening store i cap chunk wanted slots) → size ≡ size_of o.node.sizes → RiseByMany o.kept.lengths lengths size slots → ChainLaws store.shape → (old : List Coord) → IsOpenThrough store old (old ++ wanted) i → TellLengths store i o.node o.kept lengths (old ++ wanted)
raised_tell store i cap chunk wanted slots lengths size o sized raised laws old was_open =
    let own = own_node store i cap chunk wanted slots o in
    let can = can_settle_lengths store i cap chunk wanted slots lengths size o sized raised in
    let found = node_of (CanLengthen lengths chunk) store.shape.nodes store.nodes 1 is_root i can in
    record {
      dynamic = o.is;
      some_chunk = own.2.some_chunk;
      short = λ p. omega (arith, sized, raised.short p (omega (arith, own.2.short p, sized)));
      in_live = λ q below.
          at_node_from (Both OfWellFormed (CanLengthen lengths chunk)) (InLive q) store.shape.nodes store.nodes 1 is_root i
          (λ node mine count live at has both.
          let c : node ≡ o.node = same_Some node o.node (sym at ∙ o.is.at) in
          let here : IsDynamicNode node mine count live = subst (λ k. IsNode k node mine count live) both.1.is_dynamic both.0 in
          let mine_below : below_length lengths (size_of node.sizes) q ≡ true = ap (λ (n : NodeShape). below_length lengths (size_of n.sizes) q) c ∙ below in
          record { within = below_within node mine count live lengths q here both.1.as_many both.1.short mine_below; is_live = both.1.in_live q mine_below })
          (settling_at store i lengths chunk o.well can);
      tells = λ slot is. tells slot is (slot_number_in store.shape.nodes store.nodes 0 slot) refl;
      parents = laws.parents;
      up_to = laws.up_to;
      once = laws.once;
    }
  where
    past : (n : ℕ) → nat_le (suc n) n ≡ false
    past n = not_true _ (λ h. let low : suc n ≤ n = leb-true (suc n) n h in absurd (omega arith))

    was_old : (slot : List ℕ) → IsSlot (take (suc i) store.shape.nodes) slot → unwrap_or (option_map (below_length o.kept.lengths (size_of o.node.sizes)) (slot_number_in store.shape.nodes store.nodes 0 slot)) false ≡ is_live store.shape old (suc i) slot
    was_old slot is =
        sym (on_by_lengths store i o.node o.kept o.is slot is) ∙ was_open (suc i) slot (slot_here store i o.node o.kept o.is slot is)
        ∙ ap (λ b. is_live store.shape (cond b (old ++ wanted) old) (suc i) slot) (past i)

    numbered : (at : Coord) → Contains wanted at → (q : ℕ) × (slot_number_in store.shape.nodes store.nodes 0 (path store.shape at (suc i)) ≡ Some q)
    numbered at has =
        number_there store i (old ++ wanted) (open_for store old wanted i o.is.paths o.is.are_nodes (omega (arith, o.is.within)) was_open) (omega (arith, o.is.within)) at (Contains-append_right old wanted at has)

    tells : (slot : List ℕ) → IsSlot (take (suc i) store.shape.nodes) slot → (n : Option ℕ) → slot_number_in store.shape.nodes store.nodes 0 slot ≡ n → unwrap_or (option_map (below_length lengths (size_of o.node.sizes)) n) false ≡ is_live store.shape (old ++ wanted) (suc i) slot
    tells slot is None none =
        let goes = goes_under store i wanted slots o.node o.kept o.is o.numbers in
        sym (list_any-append _ old wanted
        ∙ ap (λ b. b || is_live store.shape wanted (suc i) slot) (sym (was_old slot is) ∙ ap (λ n. unwrap_or (option_map (below_length o.kept.lengths (size_of o.node.sizes)) n) false) none)
        ∙ goes.none numbered slot is none)
    tells slot is (Some q) some =
        let goes = goes_under store i wanted slots o.node o.kept o.is o.numbers in
        let own : below_length lengths (size_of o.node.sizes) q ≡ (below_length o.kept.lengths (size_of o.node.sizes) q || list_any (λ x. keeps_too (size_of o.node.sizes) x q) slots) =
        subst (λ n. below_length lengths n q ≡ (below_length o.kept.lengths n q || list_any (λ x. keeps_too n x q) slots)) sized (raised.below q) in
        let before : below_length o.kept.lengths (size_of o.node.sizes) q ≡ is_live store.shape old (suc i) slot =
        sym (ap (λ n. unwrap_or (option_map (below_length o.kept.lengths (size_of o.node.sizes)) n) false) some) ∙ was_old slot is in
        own ∙ ap (λ b. b || list_any (λ x. keeps_too (size_of o.node.sizes) x q) slots) before
        ∙ ap (λ b. is_live store.shape old (suc i) slot || b) (goes.some slot is q some)
        ∙ sym (list_any-append _ old wanted)

-- chains that don't fit need more chunks than there are
refused_need : (chunk : ℕ) (lengths : List ℕ) (places : ℕ) (full : ChunkFull) → chunks.fit chunk lengths places ≡ Err full → places < chunks.chunk_need chunk lengths
refused_need chunk lengths places full refused = split (nat_lt places (chunks.chunk_need chunk lengths)) refl
  where
    err_of : ℕ → ℕ → Result Unit ChunkFull
    err_of need cap = Err (record { need = need; cap = cap })

    err_not : (full : ChunkFull) → (let r : Result Unit ChunkFull = Err full in r ≡ Ok tt) → ⊥
    err_not full e = cc

    split : (b : Bool) → nat_lt places (chunks.chunk_need chunk lengths) ≡ b → places < chunks.chunk_need chunk lengths
    split true past = ltb-true places (chunks.chunk_need chunk lengths) past
    split false fits =
        let ok : chunks.fit chunk lengths places ≡ Ok tt = ap (λ b. cond b (err_of (chunks.chunk_need chunk lengths) places) (Ok tt)) fits in
        absurd (err_not full (sym refused ∙ ok))

pub dynamic_full : (store : StoreWords) (i cap chunk : ℕ) (wanted : List Coord) (slots lengths : List ℕ) (size : ℕ) (full : ChunkFull) → (o : DynamicOpening store i cap chunk wanted slots) → size ≡ size_of o.node.sizes → RiseByMany o.kept.lengths lengths size slots → ChainLaws store.shape → AnswersFit lengths chunk store.nodes i (Err full) → (number : ℕ) → number ≡ suc i → IsFullNode store wanted i (record { node = number; cap = cap })
dynamic_full store i cap chunk wanted slots lengths size full o sized raised laws answer number is = record {
  number = is;
  node = o.node;
  there = o.is.at;
  cap_is = o.cap_is;
  past = λ old was_open.
      let own = own_node store i cap chunk wanted slots o in
      let past : place_count o.kept.pool < chunks.chunk_need chunk lengths = refused_need chunk lengths (place_count o.kept.pool) full (sym (answer o.kept o.is.has)) in
      let need : chunks.chunk_need (count_of o.node.chunk) lengths ≡ need_by Dynamic store.shape (old ++ wanted) (suc i) (count_of o.node.chunk) =
      chain_need store i o.node o.kept lengths (old ++ wanted) (raised_tell store i cap chunk wanted slots lengths size o sized raised laws old was_open) in
      let more : cap < need_by Dynamic store.shape (old ++ wanted) (suc i) (count_of o.node.chunk) =
      omega (arith, past, own.2.places, o.cap_is, sym (ap (λ n. chunks.chunk_need n lengths) o.chunk_is) ∙ need) in
      subst (λ k. cap < need_by k store.shape (old ++ wanted) (suc i) (count_of o.node.chunk)) (sym o.is.dynamic) more;
}
