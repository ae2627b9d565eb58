-- More links at a pointer node than its cap: more slots are reached there, and it is the first such node.
use Rattle.std.proofs.Common.{◌≡◌, ◌≢◌, ℕ, suc, ◌+◌, ◌<◌, ◌≤◌, Bool, false, not, List, ◌++◌, ◌⊎◌, length, take, sym, ap, ◌∙◌, subst, arith, inl, inr, cond}
use Rattle.std.specs.Prelude.{Some, unwrap_or, slice_index, ◌==◌, nat_le}
use Rattle.std.specs.Option.{option_map}
use Rattle.std.specs.List.{Contains, AllPairs}
use Rattle.std.proofs.lemmas.Bool.{false≢true, cases_eq, leb-true}
use Rattle.std.proofs.lemmas.List.{get_or_default, length-append}
use Rattle.std.proofs.lemmas.List.Elements.{Contains-append_cases, All-contains}
use Rattle.std.proofs.lemmas.List.Folds.{list_any-append}
use Rattle.sg_coord.specs.declared.coord.Coord.{Coord}
use Rattle.sg_layout.specs.declared.shape.Kind.TheVariants.{Pointer, Dynamic}
use Rattle.sg_layout.specs.declared.shape.NodeShape.{NodeShape}
use Rattle.sg_layout.specs.Axes.{count_of}
use Rattle.sg_layout.specs.Live.{kind_at, is_live}
use Rattle.sg_layout.specs.Path.{path}
use Rattle.sg_layout.specs.Need.{FullNode, reached_slots, need_of, need_by, first_full}
use Rattle.sg_layout.specs.NeedLaws.{ReachedAreLive}
use Rattle.sg_layout.specs.PathLaws.{PathIsSlot}
use Rattle.sg_layout.specs.Slots.{IsSlot}
use Rattle.sg_pool.specs.Numbers.{live_count, IsFree, CanSettle}
use Rattle.sg_pool.proofs.Uses.{live_numbers, live_numbers_once, from_live_numbers, length-live_numbers}
use Rattle.sg_store.specs.declared.node.NodeWords.{NodeWords}
use Rattle.sg_store.specs.StoreWords.{StoreWords}
use Rattle.sg_store.specs.Slots.{is_set}
use Rattle.sg_store.specs.Walks.{slot_number_in, is_on}
use Rattle.sg_store.specs.WellFormed.{IsPointerNode, IsNode}
use Rattle.sg_store.specs.Reaching.{IsOpenThrough}
use Rattle.sg_store.specs.Opening.{link_words_of, CanSettleSlots, NewLinksAreWanted}
use Rattle.sg_store.proofs.Walking.{index_contains}
use Rattle.sg_store.proofs.Grown.{own_answer_at}
use Rattle.sg_store.proofs.Leading.{InLive}
use Rattle.sg_store.proofs.Counting.{Links, numbers_fit, index_within, word_set}
use Rattle.sg_store.proofs.Opened.{slot_long, not_true}
use Rattle.sg_store.proofs.Wanted.{Wants, wanted_some}
use Rattle.sg_store.proofs.PointerLevel.{apart_append}
use Rattle.sg_store.proofs.Reached.{ReachLaws, full_some, open_fits, kind_there}
use Rattle.sg_store.proofs.AtNumber.{IsAt, links_are, pool_is, within_nodes, says_at, in_live_at, slot_word}
use Rattle.sg_store.proofs.SlotWords.{pointer_fact}
use Rattle.sg_store.proofs.OpenedBy.{numbers_for, wants_at, number_found, or_left, or_right}

-- links beside a pointer node's words, those that are new for wanted coordinates
pub record IsBeside (store : StoreWords) (number i : ℕ) (node : NodeShape) (kept : NodeWords) (old wanted : List Coord) (links taken : List ℕ) : Type 0 where
  pub is : IsAt store number i node kept
  pub paths : PathIsSlot store.shape
  pub reached : ReachedAreLive store.shape
  pub pointer : node.kind ≡ Pointer
  pub can : CanSettleSlots store number links taken
  pub new : NewLinksAreWanted store number links wanted
  pub was_open : IsOpenThrough store old (old ++ wanted) i

word_cases : (n : ℕ) → (n ≡ 0) ⊎ (n ≢ 0)
word_cases n = cases_eq n 0

-- at the node what is on is what is live for the old coordinates
was_old : (store : StoreWords) (number i : ℕ) (node : NodeShape) (kept : NodeWords) (old wanted : List Coord) (links taken : List ℕ) → IsBeside store number i node kept old wanted links taken → (slot : List ℕ) → IsSlot (take (suc i) store.shape.nodes) slot → is_on store.shape.nodes store.nodes 0 slot ≡ is_live store.shape old (suc i) slot
was_old store number i node kept old wanted links taken b slot is_slot =
    b.was_open (suc i) slot (record {
      first = omega arith;
      within = omega (arith, within_nodes store number i node kept b.is);
      has_activity = λ dense. cc (sym (kind_there store.shape.nodes i node b.is.at ∙ b.pointer) ∙ dense);
      is_slot = is_slot;
    })
    ∙ ap (λ c. is_live store.shape (cond c (old ++ wanted) old) (suc i) slot) (past i)
  where
    past : (n : ℕ) → nat_le (suc n) n ≡ false
    past n = not_true _ (λ h. let low : suc n ≤ n = leb-true (suc n) n h in absurd (omega arith))

on_here : (store : StoreWords) (number i : ℕ) (node : NodeShape) (kept : NodeWords) (old wanted : List Coord) (links taken : List ℕ) → IsBeside store number i node kept old wanted links taken → (slot : List ℕ) (q : ℕ) → IsSlot (take (suc i) store.shape.nodes) slot → slot_number_in store.shape.nodes store.nodes 0 slot ≡ Some q → is_on store.shape.nodes store.nodes 0 slot ≡ not (slice_index kept.links q == 0)
on_here store number i node kept old wanted links taken b slot q is_slot at =
    let long : length slot ≡ suc i = slot_long store.shape.nodes (suc i) slot (omega (arith, within_nodes store number i node kept b.is)) is_slot in
    ap (λ o. unwrap_or o false) (own_answer_at is_set store.shape.nodes store.nodes i node kept b.is.at b.is.has 0 slot long)
    ∙ ap (λ n. unwrap_or (option_map (is_set node.kind node kept) n) false) at
    ∙ ap (λ k. is_set k node kept q) b.pointer

-- all links stand in slots that are live for all of them
all_links : (store : StoreWords) (number i : ℕ) (node : NodeShape) (kept : NodeWords) (old wanted : List Coord) (links taken : List ℕ) → IsBeside store number i node kept old wanted links taken → Links store i links (old ++ wanted)
all_links store number i node kept old wanted links taken b =
    let same : (q : ℕ) → slice_index (link_words_of store number) q ≡ slice_index kept.links q = λ q. ap (λ l. slice_index l q) (links_are store number i node kept b.is) in
    let other : node.kind ≢ Dynamic = λ dynamic. cc b.pointer in
    let wants : Wants store i wanted (numbers_for store i wanted).0 = wants_at store number i node kept wanted b.is b.paths other in
    let slots : List ℕ = (numbers_for store i wanted).0 in
    record {
      within = omega (arith, within_nodes store number i node kept b.is);
      are_nodes = b.is.well.nodes_fit;
      in_live = λ q some. elim (word_cases (slice_index kept.links q)) [
        | inl none ↦ in_live_at store number i node kept q b.is other (b.can.in_live q (same q ∙ none) some)
        | inr was ↦ says_at (InLive q) store number i node kept b.is (λ count live own. old_live q count live was own)
      ];
      live = λ slot q is_slot at some. list_any-append _ old wanted ∙ elim (word_cases (slice_index kept.links q)) [
        | inl none ↦
            let place = b.new q (same q ∙ none) some in
            let here = ap (λ n. slot_number_in store.shape.nodes store.nodes 0 (path store.shape place.at n)) (sym b.is.next)
            ∙ sym (slot_word store number i node kept (path store.shape place.at number) b.is other) ∙ place.has_place in
            or_right (is_live store.shape old (suc i) slot) _
            (sym (wanted_some store i wanted slots wants slot is_slot q at) ∙ number_found slots q (wants.numbers.all place.at place.is_of q here))
        | inr was ↦
            or_left _ (is_live store.shape wanted (suc i) slot)
            (sym (was_old store number i node kept old wanted links taken b slot is_slot)
            ∙ on_here store number i node kept old wanted links taken b slot q is_slot at ∙ word_set (slice_index kept.links q) was)
      ];
    }
  where
    old_live : (q count : ℕ) (live : ℕ → Bool) → slice_index kept.links q ≢ 0 → IsNode node.kind node kept count live → InLive q node kept count live
    old_live q count live was own =
        let pointer : IsPointerNode node kept count live = subst (λ k. IsNode k node kept count live) b.pointer own in
        record { within = omega (arith, index_within kept.links q was, pointer.link_count); is_live = pointer.in_live q was }

-- as many slots are reached as numbers are live and taken
pub taken_fit : (store : StoreWords) (number i : ℕ) (node : NodeShape) (kept : NodeWords) (old wanted : List Coord) (links taken : List ℕ) → IsBeside store number i node kept old wanted links taken → live_count kept.pool + length taken ≤ length (reached_slots store.shape (old ++ wanted) (suc i))
taken_fit store number i node kept old wanted links taken b =
    let free : CanSettle kept.pool taken = subst (λ p. CanSettle p taken) (pool_is store number i node kept b.is) b.can.free in
    let numbers : List ℕ = live_numbers kept.pool ++ taken in
    let once : AllPairs (λ x y. x ≢ y) numbers = apart_append (live_numbers kept.pool) taken (live_numbers_once kept.pool) free.once
    (λ n live took.
    let unused : IsFree kept.pool n = All-contains (IsFree kept.pool) taken n free.free took in
    false≢true (sym unused.not_live ∙ from_live_numbers kept.pool n live)) in
    let same : (q : ℕ) → slice_index (link_words_of store number) q ≡ slice_index kept.links q = λ q. ap (λ l. slice_index l q) (links_are store number i node kept b.is) in
    let other : kind_at store.shape.nodes (suc i) ≢ Dynamic = λ dynamic. cc (sym (kind_there store.shape.nodes i node b.is.at ∙ b.pointer) ∙ dynamic) in
    let fits : length numbers ≤ length (reached_slots store.shape (old ++ wanted) (suc i)) =
    numbers_fit store i links (old ++ wanted) numbers b.reached other (all_links store number i node kept old wanted links taken b) once
    (λ n has. elim (Contains-append_cases (live_numbers kept.pool) taken n has) [
      | inl live ↦ pointer_fact (Contains links (suc n)) store number i node kept b.is b.pointer (λ count at own.
          let found = (own.live_linked n).0 (from_live_numbers kept.pool n live) in
          let word : slice_index kept.links found.0 ≡ suc n = get_or_default kept.links found.0 0 (suc n) found.1 ∙ found.2 in
          index_contains links found.0 n (b.can.stays found.0 (λ none. cc (sym (same found.0 ∙ word) ∙ none)) ∙ same found.0 ∙ word))
      | inr took ↦ b.can.all_taken n took
    ]) in
    omega (arith, fits, length-append (live_numbers kept.pool) taken, length-live_numbers kept.pool)

-- so where they pass the cap, it is the first node that is too full
pub full_first : (store : StoreWords) (number i : ℕ) (node : NodeShape) (kept : NodeWords) (old wanted : List Coord) (links taken : List ℕ) → ReachLaws store.shape → IsBeside store number i node kept old wanted links taken → count_of node.cap < live_count kept.pool + length taken → first_full store.shape (old ++ wanted) ≡ Some (record { node = number; cap = count_of node.cap })
full_first store number i node kept old wanted links taken laws b past =
    let all : List Coord = old ++ wanted in
    let one : 1 + i ≡ suc i = omega arith in
    let more : count_of node.cap < length (reached_slots store.shape all (suc i)) = omega (arith, past, taken_fit store number i node kept old wanted links taken b) in
    let needs : count_of node.cap < need_of store.shape all (1 + i) node =
    subst (λ n. count_of node.cap < need_of store.shape all n node) (sym one)
    (subst (λ k. count_of node.cap < need_by k store.shape all (suc i) (count_of node.chunk)) (sym b.pointer) more) in
    full_some store.shape all 1 store.shape.nodes i node b.is.at
    (λ j before below at. open_fits store i old all laws b.is.well b.was_open j before below at) needs
    ∙ ap (λ n. Some (full_node n (count_of node.cap))) (one ∙ sym b.is.next)
  where
    full_node : ℕ → ℕ → FullNode
    full_node n m = record { node = n; cap = m }
