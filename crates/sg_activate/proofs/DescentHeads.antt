-- A plan of no node yet.
use Rattle.std.proofs.Common.{◌≡◌, ℕ, zero, suc, ◌+◌, ◌*◌, ◌/◌, ◌<◌, ◌≤◌, inl, Bool, true, false, cond, ◌==◌, List, [], ◌∷◌, length, map, drop, refl, sym, ap, ◌∙◌, subst, arith}
use Rattle.std.specs.Prelude.{slice_index}
use Rattle.std.proofs.lemmas.Bool.Decides.{nat_tests}
use native.Mathlib.Nat.{div-one}
use mathlib.Core.Logic.{dite}
use native.Mathlib.Decide.{ℕ_discrete}
use Rattle.sg_words.specs.Counts.{times_in}
use Rattle.sg_layout.specs.declared.shape.Kind.{Kind}
use Rattle.sg_layout.specs.declared.shape.Kind.TheVariants.{Hash}
use Rattle.sg_layout.specs.Axes.{count_of, size_of}
use Rattle.sg_layout.specs.Live.{kind_or, kind_at}
use Rattle.sg_store.specs.StoreWords.{StoreWords}
use Rattle.sg_store.specs.WellFormed.{IsHashNode, IsNode, AreNodes, IsWellFormed, is_root, places_below, live_below, live_slot}
use Rattle.sg_store.specs.Opening.{links_or_none, keys_or_none, link_words_of, keys_of}
use Rattle.sg_store.proofs.Uses.{links_contain, slots_contain}
use Rattle.sg_activate.specs.declared.descent.rule.Start.{Start}
use Rattle.sg_activate.specs.declared.descent.rule.SlotPart.{SlotPart}
use Rattle.sg_activate.specs.declared.descent.rule.MaskPart.{MaskPart}
use Rattle.sg_activate.specs.declared.descent.level.Level.{Level}
use Rattle.sg_activate.specs.TableParts.{places_in}
use Rattle.sg_activate.specs.DescentRace.{slots_each}
use Rattle.sg_activate.specs.Descending.{is_pointer, is_mask, nodes_before, open_before, number_among, part_at}
use Rattle.sg_activate.specs.steps.DescentParts.{AreHeads}
use Rattle.sg_activate.specs.steps.DescentPlans.{pointers_of, links_in, ArePartsOf, StandsNext, IsPlan, IsHeads}
use Rattle.sg_activate.proofs.TakenNumbers.{contains_word}
use Rattle.sg_activate.proofs.DescentBridge.{hash_first, few_before}
use Rattle.sg_activate.proofs.DescentNodeSteps.{AtNode, at_node, number-none}
use Rattle.sg_activate.proofs.DescentSlotNode.{times_some, live_within}

module _ (store : StoreWords) (well : IsWellFormed store) (some-node : 0 < length store.shape.nodes) (start : Start) (shape : start.layout ≡ store.shape) (heads : IsHeads store start.keys start.heads start.head_places)
    (no-links : start.links ≡ []) (no-masks : start.masks ≡ []) (no-stock : start.stock ≡ []) (no-slot-parts : start.slot_parts ≡ []) (no-mask-parts : start.mask_parts ≡ []) where
  abbrev total : ℕ
  total = pointers_of store.shape

  abbrev base : ℕ
  base = open_before store.shape

  head-links : links_in total start total ≡ start.heads
  head-links =
      let same : (total == total) ≡ true = grind (arith, nat_tests) in
      ap (λ b. cond b start.heads (part_at (slots_each start) start.links total)) same

  -- ---- the first node
  first-node : AtNode store.shape.nodes store.nodes 1 is_root 0
  first-node = at_node store.shape.nodes store.nodes 1 is_root 0 well.nodes_fit some-node

  is-hash : base ≡ 1 → first-node.node.kind ≡ Hash
  is-hash one' = sym (ap kind_or first-node.has_node) ∙ hash_first (kind_at store.shape.nodes 1) one'

  kept-links : link_words_of store 1 ≡ first-node.kept.links
  kept-links = ap links_or_none first-node.has_kept

  kept-keys : keys_of store 1 ≡ first-node.kept.keys
  kept-keys = ap keys_or_none first-node.has_kept

  abbrev slots : ℕ
  slots = 1 * size_of first-node.node.sizes

  is-node : base ≡ 1 → IsHashNode first-node.node first-node.kept slots (live_slot first-node.node is_root)
  is-node one' = subst (λ k. IsNode k first-node.node first-node.kept slots (live_slot first-node.node is_root)) (is-hash one') first-node.is_node

  cap-places : base ≡ 1 → start.head_places ≡ count_of first-node.node.cap + 17
  cap-places one' = heads.many one' first-node.node (record { first = omega arith; there = first-node.has_node })

  heads-are : base ≡ 1 → start.heads ≡ first-node.kept.links
  heads-are one' = (heads.keyed one').1 ∙ kept-links

  -- ---- under the root
  root-next : base ≡ 0 → StandsNext store (base + 0) total start total 1 start.head_places
  root-next zero' =
      let none : 0 ≡ base + 0 = omega arith in
      let is = heads.root zero' in
      subst (λ i. StandsNext store i total start total 1 start.head_places) none (subst (λ p. StandsNext store 0 total start total 1 p) (sym is.1) (record {
        live = is_root;
        nodes = well.nodes_fit;
        linked = λ place live.
            (let first : place ≡ 0 = grind (arith, nat_tests) in
            let one' : 1 ≡ place / 1 + 1 = (let d = div-one place in omega arith) in
            subst (λ ls. 0 < times_in (place / 1 + 1) ls) (sym (head-links ∙ is.0)) (subst (λ x. 0 < times_in x (1 ∷ [])) one' (omega arith)));
      }))

  -- ---- under a hash node
  hash-next : base ≡ 1 → StandsNext store (base + 0) total start total 1 start.head_places
  hash-next one' =
      let next : 1 ≡ base + 0 = omega arith in
      let node = is-node one' in
      let beside = node.links_beside in
      subst (λ i. StandsNext store i total start total 1 start.head_places) next (record {
        live = live_below Hash first-node.kept (live_slot first-node.node is_root);
        nodes = subst (λ p. AreNodes (drop 1 store.shape.nodes) (drop 1 store.nodes) p (live_below Hash first-node.kept (live_slot first-node.node is_root))) (sym (cap-places one'))
            (subst (λ k. AreNodes (drop 1 store.shape.nodes) (drop 1 store.nodes) (places_below k first-node.node slots) (live_below k first-node.kept (live_slot first-node.node is_root))) (is-hash one') first-node.below);
        linked = λ n live.
            (let has = links_contain first-node.kept.keys first-node.kept.links slots n beside ((node.as_pointer.live_linked n).0 live) in
            let same : suc n ≡ n / 1 + 1 = (let d = div-one n in omega arith) in
            subst (λ ls. 0 < times_in (n / 1 + 1) ls) (sym (head-links ∙ heads-are one')) (subst (λ x. 0 < times_in x first-node.kept.links) same (times_some first-node.kept.links (suc n) has)));
      })

  hash-small : base ≡ 1 → (i n : ℕ) → slice_index start.heads i ≡ n → n ≤ start.head_places
  hash-small one' i zero e = omega arith
  hash-small one' i (suc n) e =
      let node = is-node one' in
      let word : slice_index first-node.kept.links i ≡ suc n = ap (λ l. slice_index l i) (sym (heads-are one')) ∙ e in
      let has = slots_contain first-node.kept.keys first-node.kept.links slots n node.table node.links_beside node.keys_are_slots (contains_word first-node.kept.links i n word) in
      let below = live_within first-node.kept.pool.live n ((node.as_pointer.live_linked n).1 has) in
      let all = node.as_pointer.places in
      let cap = cap-places one' in omega arith

  root-small : base ≡ 0 → (i : ℕ) → slice_index start.heads i ≤ start.head_places
  root-small zero' i =
      let is = heads.root zero' in
      subst (λ h. slice_index h i ≤ start.head_places) (sym is.0) (subst (λ p. slice_index (1 ∷ []) i ≤ p) (sym is.1) (one-small i))
    where
      one-small : (i : ℕ) → slice_index (1 ∷ []) i ≤ 1
      one-small zero = omega arith
      one-small (suc i) = omega arith

  either-base : (P : Type 0) → (base ≡ 0 → P) → (base ≡ 1 → P) → P
  either-base P root keyed = dite (ℕ_discrete base 0) root (λ other. keyed (let few = few_before (kind_at store.shape.nodes 1) in omega arith))

  are-heads : AreHeads start base
  are-heads = record {
    root = heads.root;
    some = λ one'. (heads.keyed one').2;
    table = λ one'. (heads.keyed one').3;
    links = λ one'. (heads.keyed one').4;
    small = λ i. either-base (slice_index start.heads i ≤ start.head_places) (λ root. root-small root i) (λ one'. hash-small one' i (slice_index start.heads i) refl);
  }

  no-parts : ArePartsOf total start
  no-parts = record {
    slots = ap length no-links ∙ sym (ap (λ (ps : List SlotPart). places_in (map (λ (part : SlotPart). part.slots) ps)) no-slot-parts);
    masks = ap length no-masks ∙ sym (ap (λ (ps : List MaskPart). places_in (map (λ (part : MaskPart). part.words) ps)) no-mask-parts);
    stocks = ap length no-stock ∙ sym (ap (λ (ps : List SlotPart). places_in (map (λ (part : SlotPart). part.limit) ps)) no-slot-parts);
    few = (let e : length start.slot_parts ≡ 0 = ap length no-slot-parts in omega arith);
    from = λ l below. absurd (let e : length start.slot_parts ≡ 0 = ap length no-slot-parts in omega arith);
    slot_parts = λ l below. absurd (let e : length start.slot_parts ≡ 0 = ap length no-slot-parts in omega arith);
    mask_parts = λ m below. absurd (let e : length start.mask_parts ≡ 0 = ap length no-mask-parts in omega arith);
  }

  -- no node of these kinds stands above
  none-above : (is_kind : Kind → Bool) → is_kind Hash ≡ false → 0 ≡ number_among is_kind store.shape.nodes (suc (base + 0))
  none-above is_kind other = either-base (0 ≡ number_among is_kind store.shape.nodes (suc (base + 0)))
      (λ root. let none : 0 ≡ base + 0 = omega arith in subst (λ b. 0 ≡ number_among is_kind store.shape.nodes (suc b)) none refl)
      (λ one'.
      let next : 1 ≡ base + 0 = omega arith in
      let s = number-none is_kind store.shape.nodes 0 first-node.node first-node.has_node (ap is_kind (is-hash one') ∙ other) in
      let zero' : number_among is_kind store.shape.nodes 1 ≡ 0 = refl in
      subst (λ b. 0 ≡ number_among is_kind store.shape.nodes (suc b)) next (omega arith))

  none-planned : IsPlan store start [] total 1
  none-planned = record {
    shape = shape;
    heads = are-heads;
    keyed = λ hash. (let k = heads.keyed (ap nodes_before hash) in (k.0, k.1));
    parts = no-parts;
    slot_count = ap length no-slot-parts ∙ none-above is_pointer refl;
    mask_count = ap length no-mask-parts ∙ none-above is_mask refl;
    rows = λ k below. absurd (omega arith);
    over_is = refl;
    width_is = refl;
    stands = inl refl;
    wide = either-base (1 ≤ start.head_places) (λ root. let is = (heads.root root).1 in omega arith) (λ one'. let is = cap-places one' in omega arith);
    next = either-base (StandsNext store (base + 0) total start total 1 start.head_places) root-next hash-next;
  }

  pub begins : (levels : List Level) (over width : ℕ) → levels ≡ [] → over ≡ pointers_of store.shape → width ≡ 1 → IsPlan store start levels over width
  begins levels over width none is is' =
      subst (λ l. IsPlan store start l over width) (sym none) (subst (λ o. IsPlan store start [] o width) (sym is) (subst (λ w. IsPlan store start [] total w) (sym is') none-planned))
