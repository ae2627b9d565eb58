-- Fresh words of nodes: no link, no bit, no live number. They fit their nodes, and none of their slots is on.
use Rattle.std.proofs.Common.{◌≡◌, ◌≢◌, ℕ, suc, ◌+◌, ◌-◌, ◌*◌, ◌/◌, ◌%◌, ◌<◌, ◌≤◌, ◌^◌, Bool, false, not, ◌==◌, List, [], ◌∷◌, ◌++◌, length, drop, get_or, replicate, inl, inr, append_assoc, refl, sym, ap, ◌∙◌, subst, arith}
use Rattle.std.specs.Prelude.{Option, Some, None, option_and_then, unwrap_or, nat_lt, slice_index, is_some}
use Rattle.std.specs.List.{All, Contains, AllZip}
use Rattle.std.proofs.lemmas.Bool.{false≢true, cases_lt}
use Rattle.std.proofs.lemmas.Bool.Decides.{nat_tests}
use Rattle.std.proofs.lemmas.Nat.{div_below}
use Rattle.std.proofs.lemmas.List.Elements.{All-head, All-cons}
use Rattle.std.proofs.lemmas.List.{get_or_default, get_or_past, length-replicate, get_or-replicate, get_or-map, append-nil, drop_more, drop_all}
use Rattle.sg_layout.specs.declared.shape.Kind.{Kind}
use Rattle.sg_layout.specs.declared.shape.Kind.TheVariants.{Dense, Bitmasked, Pointer, Hash, Dynamic}
use Rattle.sg_layout.specs.declared.shape.NodeShape.{NodeShape}
use Rattle.sg_layout.specs.Axes.{count_of, size_of, sizes_of}
use Rattle.sg_layout.specs.StorageWords.{power_for}
use Rattle.sg_hash.specs.Tables.{IsTable, AreBeside, beside}
use Rattle.sg_hash.proofs.Uses.{beside_none, empty_table, empty_beside}
use Rattle.sg_pool.specs.Numbers.{place_count, is_live_number, live_count, IsParted}
use Rattle.sg_store.specs.declared.node.NodeWords.{NodeWords}
use Rattle.sg_links.specs.Lists.{Lists, list_of}
use Rattle.sg_dynamic.specs.Chunks.{chunks_of}
use Rattle.sg_dynamic.proofs.Uses.{empty_exact}
use Rattle.sg_store.specs.Slots.{slot_under, link_word, links_by_slot, below_length, is_set, place_below}
use Rattle.sg_store.specs.Walks.{own_answer, is_on}
use Rattle.sg_store.specs.WellFormed.{IsPointerNode, IsHashNode, by_slots, IsDynamicNode, IsNode, places_below, live_slot, AreNodes, IsWithinCap, cells_below}
use Rattle.sg_store.specs.steps.Fresh.{IsFreshNode, AreFresh, IsCapped, chains_by, chains_below, IsRoomy, IsFreshSoFar}
use Rattle.sg_store.proofs.Walking.{own_kind}
use Rattle.sg_store.proofs.Zeros.{zeros_read}
use Rattle.sg_store.proofs.BySlots.{links_many, slot_link}
use Rattle.sg_store.proofs.Roomy.{roomy_here, roomy_next}

-- ── They fit ──

none_linked : (links : List ℕ) → ((slot : ℕ) → slice_index links slot ≡ 0) → (n : ℕ) → ¬ Contains links (suc n)
none_linked links none n (k, below, same) =
    let none_here : get_or links k (suc n) ≡ 0 = get_or_default links k (suc n) 0 below ∙ none k in
    let clash : suc n ≡ 0 = sym same ∙ none_here in
    omega arith

fresh_pointer : (node : NodeShape) (kept : NodeWords) (slots : ℕ) (live : ℕ → Bool) → length kept.links ≡ slots → place_count kept.pool ≡ count_of node.cap + 17 → ((slot : ℕ) → slice_index kept.links slot ≡ 0) → ((n : ℕ) → is_live_number kept.pool n ≡ false) → IsPointerNode node kept slots live
fresh_pointer node kept slots live long places none idle = record {
  link_count = long;
  places = places;
  live_linked = λ n. (λ on. absurd (false≢true (sym (idle n) ∙ on)), λ has. absurd (none_linked kept.links none n has));
  once = λ x y some same. absurd (some (none x));
  in_live = λ slot some. absurd (some (none slot));
}

none_beside : (node : NodeShape) (kept : NodeWords) (slots : ℕ) → IsFreshNode Hash node kept slots → (q : ℕ) → beside kept.keys kept.links q ≡ None
none_beside node kept slots fresh q =
    let n : ℕ = power_for (2 * count_of node.cap) in
    ap (λ keys. beside keys kept.links q) fresh.sized.1 ∙ ap (λ links. beside (replicate n 0) links q) fresh.sized.2 ∙ zeros n q
  where
    zeros : (n q : ℕ) → beside (replicate n 0) (replicate n 0) q ≡ None
    zeros n q = beside_none (replicate n 0) (replicate n 0) q (λ p below. λ same.
        let none : slice_index (replicate n 0) p ≡ 0 = zeros_read n p in absurd (omega arith))

fresh_hash : (node : NodeShape) (kept : NodeWords) (slots : ℕ) (live : ℕ → Bool) → IsFreshNode Hash node kept slots → IsHashNode node kept slots live
fresh_hash node kept slots live fresh =
    let n : ℕ = power_for (2 * count_of node.cap) in
    let none : (q : ℕ) → slice_index (links_by_slot kept.keys kept.links slots) q ≡ 0 = λ q. elim (cases_lt q slots) [
      | inl below ↦ slot_link kept.keys kept.links slots q below ∙ ap link_word (none_beside node kept slots fresh q)
      | inr past ↦ get_or_past (links_by_slot kept.keys kept.links slots) q 0 (omega (arith, links_many kept.keys kept.links slots, past))
    ] in
    record {
      key_count = ap length fresh.sized.1 ∙ length-replicate n 0;
      table = subst IsTable (sym fresh.sized.1) (empty_table n);
      links_beside = subst (λ keys. AreBeside keys kept.links) (sym fresh.sized.1) (subst (λ links. AreBeside (replicate n 0) links) (sym fresh.sized.2) (empty_beside n));
      few_slots = fresh.sized.0;
      keys_are_slots = λ key some. absurd (false≢true (sym (ap is_some (none_beside node kept slots fresh key)) ∙ some));
      as_pointer = fresh_pointer node (by_slots kept slots) slots live (links_many kept.keys kept.links slots) fresh.sized.3 none fresh.none_live;
    }

no_length : (lengths : List ℕ) → ((p : ℕ) → slice_index lengths p ≡ 0) → (size q : ℕ) → below_length lengths size q ≡ false
no_length lengths none size q = ap (nat_lt (q % size)) (none (q / size)) ∙ low (q % size)
  where
    low : (n : ℕ) → nat_lt n 0 ≡ false
    low n = grind (arith, nat_tests)

pub no_chunks : (chunk : ℕ) → 1 ≤ chunk → chunks_of chunk 0 ≡ 0
no_chunks chunk some = let none : (0 + (chunk - 1)) / chunk < 1 = div_below (0 + (chunk - 1)) chunk 1 (omega (arith, some)) (omega (arith, some)) in omega arith

fresh_dynamic : (node : NodeShape) (kept : NodeWords) (slots : ℕ) (live : ℕ → Bool) → IsFreshNode Dynamic node kept slots → IsDynamicNode node kept slots live
fresh_dynamic node kept slots live fresh =
    let many : ℕ = length kept.lengths in
    record {
      length_count = fresh.sized.1;
      short = λ p. omega (arith, fresh.no_length p);
      chain_count = ap (λ (l : Lists). length l.lists) fresh.sized.3 ∙ length-replicate {A = List ℕ} many [];
      chains_fit = λ p below.
          let none : list_of kept.chains p ≡ [] = ap (λ (l : Lists). list_of l p) fresh.sized.3 ∙ get_or-replicate {A = List ℕ} many p [] [] below in
          ap length none ∙ sym (no_chunks (count_of node.chunk) fresh.sized.0) ∙ ap (chunks_of (count_of node.chunk)) (sym (fresh.no_length p));
      places = fresh.sized.2;
      exact = empty_exact kept.chains kept.pool (count_of node.cap) many fresh.sized.3 fresh.sized.2 fresh.none_live;
      some_chunk = fresh.sized.0;
      in_live = λ q on. absurd (false≢true (sym (no_length kept.lengths fresh.no_length (size_of node.sizes) q) ∙ on));
    }

fresh_node : (kind : Kind) (node : NodeShape) (kept : NodeWords) (slots : ℕ) (live : ℕ → Bool) → IsFreshNode kind node kept slots → IsNode kind node kept slots live
fresh_node Dense node kept slots live fresh = tt
fresh_node Bitmasked node kept slots live fresh = record { word_count = fresh.sized; in_live = λ slot on. absurd (false≢true (sym (fresh.no_bit slot) ∙ on)) }
fresh_node Pointer node kept slots live fresh = fresh_pointer node kept slots live fresh.sized.0 fresh.sized.1 fresh.no_link fresh.none_live
fresh_node Hash node kept slots live fresh = fresh_hash node kept slots live fresh
fresh_node Dynamic node kept slots live fresh = fresh_dynamic node kept slots live fresh

pub fresh_fit : (nodes : List NodeShape) (words : List NodeWords) (places : ℕ) (live : ℕ → Bool) → AreFresh nodes words places → AreNodes nodes words places live
fresh_fit [] [] places live fresh = tt
fresh_fit [] (kept ∷ words) places live fresh = fresh
fresh_fit (node ∷ later) [] places live fresh = fresh
fresh_fit (node ∷ later) (kept ∷ words) places live fresh =
    (fresh.0, fresh_node node.kind node kept _ (live_slot node live) fresh.1, fresh_fit later words _ _ fresh.2, fresh.3)

within : (kind : Kind) (node : NodeShape) (kept : NodeWords) → live_count kept.pool ≡ 0 → IsWithinCap kind node kept
within Dense node kept none = tt
within Bitmasked node kept none = tt
within Pointer node kept none = omega arith
within Hash node kept none = omega arith
within Dynamic node kept none = omega arith

pub fresh_within : (nodes : List NodeShape) (words : List NodeWords) (places : ℕ) → AreFresh nodes words places → AllZip (λ node kept. IsWithinCap node.kind node kept) nodes words
fresh_within [] [] places fresh = tt
fresh_within [] (kept ∷ words) places fresh = fresh
fresh_within (node ∷ later) [] places fresh = fresh
fresh_within (node ∷ later) (kept ∷ words) places fresh = (within node.kind node kept fresh.1.none_counted, fresh_within later words _ fresh.2)

pub fresh_parted : (nodes : List NodeShape) (words : List NodeWords) (places : ℕ) → AreFresh nodes words places → All (λ (kept : NodeWords). IsParted kept.pool) words
fresh_parted [] [] places fresh = λ k d below. absurd (omega (arith, below))
fresh_parted [] (kept ∷ words) places fresh = absurd fresh
fresh_parted (node ∷ later) [] places fresh = absurd fresh
fresh_parted (node ∷ later) (kept ∷ words) places fresh = All-cons (λ (k : NodeWords). IsParted k.pool) kept words fresh.1.parted (fresh_parted later words _ fresh.2)

-- ── None is on ──

none_set : (kind : Kind) (node : NodeShape) (kept : NodeWords) (slots : ℕ) → IsFreshNode kind node kept slots → kind ≢ Dense → (q : ℕ) → is_set kind node kept q ≡ false
none_set Dense node kept slots fresh other q = absurd (other refl)
none_set Bitmasked node kept slots fresh other q = fresh.no_bit q
none_set Pointer node kept slots fresh other q = ap (λ n. not (n == 0)) (fresh.no_link q)
none_set Hash node kept slots fresh other q = ap is_some (none_beside node kept slots fresh q)
none_set Dynamic node kept slots fresh other q = no_length kept.lengths fresh.no_length (size_of node.sizes) q

pub fresh_off : (nodes : List NodeShape) (words : List NodeWords) (places : ℕ) → AreFresh nodes words places → (p : ℕ) (s : List ℕ) → own_kind nodes s ≢ Dense → is_on nodes words p s ≡ false
fresh_off nodes words places fresh p [] other = refl
fresh_off [] words places fresh p (o ∷ s) other = refl
fresh_off (node ∷ later) [] places fresh p (o ∷ s) other = refl
fresh_off (node ∷ later) (kept ∷ words) places fresh p (o ∷ []) other = none_set node.kind node kept _ fresh.1 other (slot_under node p o)
fresh_off (node ∷ later) (kept ∷ words) places fresh p (o ∷ (v ∷ s)) other =
    split (place_below node.kind node kept (slot_under node p o)) (λ n. fresh_off later words _ fresh.2 n (v ∷ s) other)
  where
    split : (below : Option ℕ) → ((n : ℕ) → is_on later words n (v ∷ s) ≡ false) → unwrap_or (option_and_then (λ under. own_answer is_set later words under (v ∷ s)) below) false ≡ false
    split None h = refl
    split (Some n) h = h n

-- ── Made one after the other ──

pub so_far_start : (nodes : List NodeShape) → IsRoomy nodes 1 → IsFreshSoFar nodes nodes [] 1
so_far_start nodes roomy = record { goes_on = λ more fresh. fresh; roomy = roomy; cells = refl }

pub so_far_next : (nodes left : List NodeShape) (words : List NodeWords) (places : ℕ) (node : NodeShape) (later : List NodeShape) (kept : NodeWords) (slots : ℕ) → left ≡ node ∷ later → slots ≡ places * size_of node.sizes → IsFreshNode node.kind node kept slots → IsFreshSoFar nodes left words places → IsFreshSoFar nodes later (words ++ kept ∷ []) (places_below node.kind node slots)
so_far_next nodes left words places node later kept slots is many fresh before =
    let far : IsFreshSoFar nodes (node ∷ later) words places = subst (λ l. IsFreshSoFar nodes l words places) is before in
    let own : IsFreshNode node.kind node kept (places * size_of node.sizes) = subst (λ n. IsFreshNode node.kind node kept n) many fresh in
    let here : IsFreshSoFar nodes later (words ++ kept ∷ []) (places_below node.kind node (places * size_of node.sizes)) = record {
      goes_on = λ more after.
          subst (λ all. AreFresh nodes all 1) (sym (append_assoc words (kept ∷ []) more))
          (far.goes_on (kept ∷ more) (roomy_here node later places far.roomy, own, after, far.roomy.last.0));
      roomy = roomy_next node later places far.roomy;
      cells = far.cells;
    } in
    subst (λ n. IsFreshSoFar nodes later (words ++ kept ∷ []) (places_below node.kind node n)) (sym many) here

pub so_far_end : (nodes left : List NodeShape) (words : List NodeWords) (places : ℕ) → left ≡ [] → IsFreshSoFar nodes left words places → AreFresh nodes words 1 × (places ≡ cells_below nodes 1)
so_far_end nodes left words places none before =
    let far : IsFreshSoFar nodes [] words places = subst (λ l. IsFreshSoFar nodes l words places) none before in
    (subst (λ all. AreFresh nodes all 1) (append-nil words) (far.goes_on [] tt), far.cells)

-- nothing is left at the end
pub none_left : (nodes : List NodeShape) (i : ℕ) → length nodes ≤ i → drop i nodes ≡ []
none_left nodes i past = drop_all i nodes past

-- the size of a node, by its index
pub size_here : (nodes : List NodeShape) (i : ℕ) (node : NodeShape) → i < length nodes → node ≡ get_or nodes i node → slice_index (sizes_of nodes) i ≡ size_of node.sizes
size_here nodes i node there is =
    get_or-map (λ (n : NodeShape). size_of n.sizes) nodes i node 0 there ∙ sym (ap (λ (n : NodeShape). size_of n.sizes) is)

pub so_far_from : (nodes items : List NodeShape) (words : List NodeWords) → items ≡ nodes → words ≡ [] → IsRoomy nodes 1 → IsFreshSoFar items items words 1
so_far_from nodes items words same none roomy =
    subst (λ ns. IsFreshSoFar ns ns words 1) (sym same) (subst (λ ws. IsFreshSoFar nodes nodes ws 1) (sym none) (so_far_start nodes roomy))

-- a node of those that are left, by its index, and its size
pub record IsNext (items nodes : List NodeShape) (i : ℕ) (node : NodeShape) (size : ℕ) : Type 0 where
  pub same : items ≡ nodes
  pub within : i < length items
  pub is : node ≡ get_or items i node
  pub sized : size ≡ slice_index (sizes_of nodes) i

next_left : (items nodes : List NodeShape) (i : ℕ) (node : NodeShape) (size : ℕ) → IsNext items nodes i node size → drop i items ≡ node ∷ drop (i + 1) items
next_left items nodes i node size next = drop_more items i node next.within ∙ sym (ap (λ n. n ∷ drop (i + 1) items) next.is)

next_size : (items nodes : List NodeShape) (i : ℕ) (node : NodeShape) (size : ℕ) → IsNext items nodes i node size → size ≡ size_of node.sizes
next_size items nodes i node size next =
    next.sized ∙ ap (λ ns. slice_index (sizes_of ns) i) (sym next.same) ∙ size_here items i node next.within next.is

next_roomy : (items nodes : List NodeShape) (i places : ℕ) (node : NodeShape) (size : ℕ) → IsNext items nodes i node size → IsRoomy (drop i items) places → IsRoomy (node ∷ drop (i + 1) items) places
next_roomy items nodes i places node size next roomy = subst (λ left. IsRoomy left places) (next_left items nodes i node size next) roomy

pub next_bound : (items nodes : List NodeShape) (i places : ℕ) (node : NodeShape) (size : ℕ) → IsNext items nodes i node size → IsRoomy (drop i items) places → places * size ≤ 2 ^ 47
next_bound items nodes i places node size next roomy =
    subst (λ n. places * n ≤ 2 ^ 47) (sym (next_size items nodes i node size next))
    (roomy_here node (drop (i + 1) items) places (next_roomy items nodes i places node size next roomy))

pub next_kind : (items nodes : List NodeShape) (i places : ℕ) (node : NodeShape) (size : ℕ) → IsNext items nodes i node size → IsRoomy (drop i items) places → IsCapped node.kind node × (node.kind ≡ Hash → places * size ≤ 2 ^ 32) × (node.kind ≡ Dynamic → places < 2 ^ 32)
next_kind items nodes i places node size next roomy =
    let left : List NodeShape = drop (i + 1) items in
    let here : IsRoomy (node ∷ left) places = next_roomy items nodes i places node size next roomy in (
      All-head (λ (n : NodeShape). IsCapped n.kind n) node left here.caps,
      λ hash. subst (λ n. places * n ≤ 2 ^ 32) (sym (next_size items nodes i node size next)) (here.keys_fit.0 hash),
      λ dynamic. subst (λ k. chains_by k places (chains_below left (places_below node.kind node (places * size_of node.sizes))) < 2 ^ 32) dynamic here.few_chains,
    )

pub so_far_on : (items nodes : List NodeShape) (i places : ℕ) (node : NodeShape) (size : ℕ) (words after : List NodeWords) (kept : NodeWords) (below : ℕ) → IsNext items nodes i node size → IsFreshNode node.kind node kept (places * size) → after ≡ words ++ kept ∷ [] → below ≡ places_below node.kind node (places * size) → IsFreshSoFar items (drop i items) words places → IsFreshSoFar items (drop (i + 1) items) after below
so_far_on items nodes i places node size words after kept below next fresh made is before =
    let many : places * size ≡ places * size_of node.sizes = ap (λ n. places * n) (next_size items nodes i node size next) in
    let on : IsFreshSoFar items (drop (i + 1) items) (words ++ kept ∷ []) (places_below node.kind node (places * size)) =
    so_far_next items (drop i items) words places node (drop (i + 1) items) kept (places * size) (next_left items nodes i node size next) many fresh before in
    subst (λ n. IsFreshSoFar items (drop (i + 1) items) after n) (sym is)
    (subst (λ ws. IsFreshSoFar items (drop (i + 1) items) ws (places_below node.kind node (places * size))) (sym made) on)
