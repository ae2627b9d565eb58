-- Masks that are settled at a bitmasked node: its words have grown, and the store is open one node further.
use Rattle.std.proofs.Common.{◌≡◌, ℕ, zero, suc, ◌-◌, ◌*◌, ◌<◌, ◌≤◌, Bool, false, ◌||◌, ◌==◌, List, [], ◌∷◌, length, get_or, refl, sym, ap, ◌∙◌, subst, arith, inl, inr}
use Rattle.std.specs.Prelude.{IsTrue, Some, None, slice_get, slice_set}
use Rattle.std.specs.Int.{div_ceil}
use Rattle.std.specs.List.{All, list_any}
use Rattle.std.proofs.lemmas.Bool.{cases_Bool}
use Rattle.std.proofs.lemmas.Bool.Decides.{Decides-eqb}
use Rattle.std.proofs.lemmas.List.{get_or_default, get_or-set_same, length-set}
use Rattle.std.proofs.lemmas.List.Elements.{Contains-get_or}
use Rattle.std.proofs.lemmas.List.Folds.{Any-from_list_any}
use Rattle.std.proofs.lemmas.Option.{none-some, same_Some, slice_get_within, slice_get-get_or, slice_get_read}
use Rattle.sg_coord.specs.declared.coord.Coord.{Coord}
use Rattle.sg_layout.specs.declared.shape.Kind.TheVariants.{Bitmasked}
use Rattle.sg_layout.specs.declared.shape.NodeShape.{NodeShape}
use Rattle.sg_layout.specs.Live.{kind_or, kind_at}
use Rattle.sg_layout.specs.PathLaws.{PathIsSlot}
use Rattle.sg_pool.specs.Numbers.{IsParted}
use Rattle.sg_store.specs.declared.node.NodeWords.{NodeWords}
use Rattle.sg_store.specs.StoreWords.{StoreWords}
use Rattle.sg_store.specs.Slots.{mask_bit, is_set, place_below}
use Rattle.sg_store.specs.WellFormed.{IsNode, IsMaskNode, IsWithinCap, IsWellFormed, is_root, live_below}
use Rattle.sg_store.specs.Reaching.{KeepsCells}
use Rattle.sg_store.specs.steps.AtNode.{OfNode, AtNode, AtNodeOf, AreNumbers}
use Rattle.sg_store.specs.steps.Levels.{IsOfKind, OpensNext}
use Rattle.sg_store.specs.steps.Marking.{IsMarked}
use Rattle.sg_store.specs.steps.Settling.{CanSettleMasks, IsRemasked, ChangesAt, ChangesNode, NodeGrows}
use Rattle.sg_store.proofs.ActiveCells.{as_many_words}
use Rattle.sg_store.proofs.Opened.{OfWithinCap, AddsSlots, keeps_cells, well_formed_grown, parted_at, opens_next}
use Rattle.sg_store.proofs.Wanted.{Wants, wanted_live}
use Rattle.sg_store.proofs.Leading.{InLive}
use Rattle.sg_store.proofs.Counting.{node_of, Both, both_at, OfWellFormed, nodes_at, at_node_from}
use Rattle.sg_store.proofs.Settled.{at_within}

-- ── The node's words have grown ──

masks_grow : (masks : List ℕ) (node : NodeShape) (kept after : NodeWords) (slots : ℕ) (live : ℕ → Bool) → IsNode node.kind node kept slots live → CanSettleMasks masks node kept slots live → IsRemasked masks kept after → NodeGrows after node kept slots live
masks_grow masks node kept after slots live is can re =
    let kind : Bitmasked ≡ node.kind = sym can.is_masked in
    let own : IsMaskNode kept slots live = subst (λ k. IsNode k node kept slots live) can.is_masked is in
    let new : IsMaskNode after slots live = record {
      word_count = ap length re.new_masks ∙ can.as_many ∙ own.word_count;
      in_live = λ slot on. can.in_live slot (sym (ap (λ m. mask_bit m slot) re.new_masks) ∙ on);
    } in
    record {
      is_node = subst (λ k. IsNode k node after slots live) kind new;
      set_stays = λ slot. subst (λ k. IsTrue (is_set k node kept slot) → IsTrue (is_set k node after slot)) kind
          (λ on. ap (λ m. mask_bit m slot) re.new_masks ∙ can.stays slot on);
      leads_stays = λ slot place. subst (λ k. place_below k node kept slot ≡ Some place → place_below k node after slot ≡ Some place) kind (λ e. e);
      fresh = λ slot place. subst (λ k. place_below k node kept slot ≡ None → place_below k node after slot ≡ Some place → live_below k kept live place ≡ false) kind
          (λ none some. absurd (none-some slot (sym none)));
      live_stays = λ place. subst (λ k. IsTrue (live_below k kept live place) → IsTrue (live_below k after live place)) kind (λ on. on);
    }

-- ── In a store ──

masking_at : (store : StoreWords) (i : ℕ) (masks : List ℕ) → IsWellFormed store → AtNodeOf (CanSettleMasks masks) store i → AtNodeOf (Both OfWellFormed (CanSettleMasks masks)) store i
masking_at store i masks is can =
    both_at OfWellFormed (CanSettleMasks masks) store.shape.nodes store.nodes 1 is_root i
    (nodes_at store.shape.nodes store.nodes 1 is_root i is.nodes_fit (at_within (CanSettleMasks masks) store.shape.nodes store.nodes 1 is_root i can)) can

pub can_remask : (store : StoreWords) (i : ℕ) (masks : List ℕ) → AtNodeOf (CanSettleMasks masks) store i → (kept : NodeWords) → slice_get store.nodes i ≡ Some kept → length masks ≡ length kept.masks
can_remask store i masks can kept has =
    let found = node_of (CanSettleMasks masks) store.shape.nodes store.nodes 1 is_root i can in
    subst (λ (k : NodeWords). length masks ≡ length k.masks) (same_Some found.kept kept (sym found.has ∙ has)) found.says.as_many

pub grows_at : (store : StoreWords) (i : ℕ) (masks : List ℕ) (kept after : NodeWords) → IsWellFormed store → AtNodeOf (CanSettleMasks masks) store i → slice_get store.nodes i ≡ Some kept → IsRemasked masks kept after → AtNodeOf (NodeGrows after) store i
grows_at store i masks kept after is can has re =
    at_node_from (Both OfWellFormed (CanSettleMasks masks)) (NodeGrows after) store.shape.nodes store.nodes 1 is_root i
    (λ node mine slots live at mine_at both.
    masks_grow masks node mine after slots live both.0 both.1
    (subst (λ k. IsRemasked masks k after) (same_Some kept mine (sym has ∙ mine_at)) re))
    (masking_at store i masks is can)

capped_at : (store : StoreWords) (i : ℕ) (masks : List ℕ) (after : NodeWords) → AtNodeOf (CanSettleMasks masks) store i → AtNodeOf (OfWithinCap after) store i
capped_at store i masks after can =
    at_node_from (CanSettleMasks masks) (OfWithinCap after) store.shape.nodes store.nodes 1 is_root i
    (λ node mine slots live at mine_at one. subst (λ k. IsWithinCap k node after) (sym one.is_masked) tt) can

pub masked_well_formed : (store : StoreWords) (i : ℕ) (masks : List ℕ) (now : List NodeWords) → IsWellFormed store → AtNodeOf (CanSettleMasks masks) store i → ChangesAt (IsRemasked masks) store.nodes now i → IsWellFormed (record store { nodes = now })
masked_well_formed store i masks now is can changed =
    subst (λ l. IsWellFormed (record store { nodes = l })) (sym changed.now_is)
    (well_formed_grown store i changed.after is (grows_at store i masks changed.kept changed.after is can changed.was changed.change)
    (capped_at store i masks changed.after can)
    (subst IsParted (sym changed.change.same_pool) (parted_at store.nodes i changed.kept is.numbers_parted changed.was)))

-- ── Wanted slots are in live containers ──

-- what holds at the node of each number of a list
abbrev pub OfAll : (ℕ → OfNode) → List ℕ → OfNode
OfAll Says numbers node kept slots live = (k : ℕ) → k < length numbers → Says (get_or numbers k 0) node kept slots live

pub all_at : (Says : ℕ → OfNode) (numbers : List ℕ) (nodes : List NodeShape) (words : List NodeWords) (places : ℕ) (live : ℕ → Bool) (i : ℕ) → length words ≡ length nodes → i < length nodes → ((k : ℕ) → k < length numbers → AtNode (Says (get_or numbers k 0)) nodes words places live i) → AtNode (OfAll Says numbers) nodes words places live i
all_at Says numbers [] words places live i many within each = absurd (omega (arith, within))
all_at Says numbers (node ∷ later) [] places live i many within each = absurd (omega (arith, many))
all_at Says numbers (node ∷ later) (kept ∷ words) places live zero many within each = each
all_at Says numbers (node ∷ later) (kept ∷ words) places live (suc i) many within each =
    all_at Says numbers later words _ _ i (omega (arith, many)) (omega (arith, within)) each

-- a bitmasked node of a store, and wanted coordinates with the numbers of their slots there
pub record IsMasking (store : StoreWords) (i : ℕ) (wanted : List Coord) (numbers : List ℕ) : Type 0 where
  pub well : IsWellFormed store
  pub is_slot : PathIsSlot store.shape
  pub masked : AtNodeOf (IsOfKind Bitmasked) store i
  pub numbered : AreNumbers store i wanted numbers

within_nodes : (store : StoreWords) (i : ℕ) (wanted : List Coord) (numbers : List ℕ) → IsMasking store i wanted numbers → i < length store.shape.nodes
within_nodes store i wanted numbers is = at_within (IsOfKind Bitmasked) store.shape.nodes store.nodes 1 is_root i is.masked

pub within_words : (store : StoreWords) (i : ℕ) (wanted : List Coord) (numbers : List ℕ) → IsMasking store i wanted numbers → i < length store.nodes
within_words store i wanted numbers is =
    omega (arith, within_nodes store i wanted numbers is, as_many_words store.shape.nodes store.nodes 1 is_root is.well.nodes_fit)

wants_of : (store : StoreWords) (i : ℕ) (wanted : List Coord) (numbers : List ℕ) → IsMasking store i wanted numbers → Wants store i wanted numbers
wants_of store i wanted numbers is =
    let found = node_of (IsOfKind Bitmasked) store.shape.nodes store.nodes 1 is_root i is.masked in
    record {
      paths = is.is_slot is.well.accepted;
      within = within_nodes store i wanted numbers is;
      are_nodes = is.well.nodes_fit;
      numbers = is.numbered;
      one_slot = λ e.
          let same : suc i - 1 ≡ i = omega arith in
          let own : kind_at store.shape.nodes (suc i) ≡ Bitmasked = ap (λ n. kind_or (slice_get store.shape.nodes n)) same ∙ ap kind_or found.at ∙ found.says in
          cc;
    }

pub numbers_in_live : (store : StoreWords) (i : ℕ) (wanted : List Coord) (numbers : List ℕ) → IsMasking store i wanted numbers → AtNodeOf (OfAll InLive numbers) store i
numbers_in_live store i wanted numbers is =
    let nodes : List NodeShape = store.shape.nodes in
    let many : length store.nodes ≡ length nodes = as_many_words nodes store.nodes 1 is_root is.well.nodes_fit in
    all_at InLive numbers nodes store.nodes 1 is_root i many (within_nodes store i wanted numbers is) (λ k below.
    wanted_live store i wanted numbers (wants_of store i wanted numbers is) (get_or numbers k 0) (Contains-get_or numbers k 0 below))

-- what is known of the node
abbrev OfMasking : List ℕ → OfNode
OfMasking numbers = Both (Both OfWellFormed (IsOfKind Bitmasked)) (OfAll InLive numbers)

known_at : (store : StoreWords) (i : ℕ) (wanted : List Coord) (numbers : List ℕ) → IsMasking store i wanted numbers → AtNodeOf (OfMasking numbers) store i
known_at store i wanted numbers is =
    let nodes : List NodeShape = store.shape.nodes in
    both_at (Both OfWellFormed (IsOfKind Bitmasked)) (OfAll InLive numbers) nodes store.nodes 1 is_root i
    (both_at OfWellFormed (IsOfKind Bitmasked) nodes store.nodes 1 is_root i
    (nodes_at nodes store.nodes 1 is_root i is.well.nodes_fit (within_nodes store i wanted numbers is)) is.masked)
    (numbers_in_live store i wanted numbers is)

-- there are bits enough
room_for : (slots words : ℕ) → words ≡ div_ceil slots 64 → slots ≤ 64 * words
room_for slots words e = omega (arith, e)

pub bits_fit : (store : StoreWords) (i : ℕ) (wanted : List Coord) (numbers : List ℕ) (kept : NodeWords) (masks : List ℕ) → IsMasking store i wanted numbers → slice_get store.nodes i ≡ Some kept → masks ≡ kept.masks → All (λ number. number < 64 * length masks) numbers
bits_fit store i wanted numbers kept masks is has same =
    let found = node_of (OfMasking numbers) store.shape.nodes store.nodes 1 is_root i (known_at store i wanted numbers is) in
    let own : IsMaskNode found.kept found.slots found.live = subst (λ k. IsNode k found.node found.kept found.slots found.live) found.says.0.1 found.says.0.0 in
    let long : length masks ≡ length found.kept.masks = ap length (same ∙ ap (λ (k : NodeWords). k.masks) (same_Some kept found.kept (sym has ∙ found.has))) in
    let room : found.slots ≤ 64 * length masks = room_for found.slots (length masks) (long ∙ own.word_count) in
    λ k d below.
    let low : get_or numbers k 0 < found.slots = (found.says.1 k below).within in
    let read : get_or numbers k d ≡ get_or numbers k 0 = get_or_default numbers k d 0 below in
    omega arith

-- marked masks can be settled
settles : (numbers masks : List ℕ) (node : NodeShape) (kept : NodeWords) (slots : ℕ) (live : ℕ → Bool) → OfMasking numbers node kept slots live → IsMarked kept.masks masks numbers → CanSettleMasks masks node kept slots live
settles numbers masks node kept slots live known marked =
    let own : IsMaskNode kept slots live = subst (λ k. IsNode k node kept slots live) known.0.1 known.0.0 in
    record {
      is_masked = known.0.1;
      as_many = marked.as_many;
      stays = λ slot on. marked.bits slot ∙ ap (λ b. b || list_any (λ n. n == slot) numbers) on;
      in_live = λ slot on. elim (cases_Bool (mask_bit kept.masks slot)) [
        | inl was ↦ own.in_live slot was
        | inr unset ↦
            let found = Any-from_list_any (λ n. n == slot) numbers (sym (ap (λ b. b || list_any (λ n. n == slot) numbers) unset) ∙ sym (marked.bits slot) ∙ on) in
            let same : found.1 ≡ slot = (Decides-eqb found.1 slot).0 found.4 in
            let here : get_or numbers found.0 0 ≡ slot = get_or_default numbers found.0 0 found.1 found.2 ∙ found.3 ∙ same in
            ap live (sym here) ∙ (known.1 found.0 found.2).is_live
      ];
    }

pub masks_can_settle : (store : StoreWords) (i : ℕ) (wanted : List Coord) (numbers : List ℕ) (kept : NodeWords) (before masks : List ℕ) → IsMasking store i wanted numbers → slice_get store.nodes i ≡ Some kept → before ≡ kept.masks → IsMarked before masks numbers → AtNodeOf (CanSettleMasks masks) store i
masks_can_settle store i wanted numbers kept before masks is has same marked =
    at_node_from (OfMasking numbers) (CanSettleMasks masks) store.shape.nodes store.nodes 1 is_root i
    (λ node mine slots live at mine_at known.
    settles numbers masks node mine slots live known
    (subst (λ b. IsMarked b masks numbers) (same ∙ ap (λ (k : NodeWords). k.masks) (same_Some kept mine (sym has ∙ mine_at))) marked))
    (known_at store i wanted numbers is)

-- ── Open one node further ──

adds_slots : (numbers masks : List ℕ) (node : NodeShape) (kept after : NodeWords) → node.kind ≡ Bitmasked → IsMarked kept.masks masks numbers → IsRemasked masks kept after → AddsSlots after numbers node kept
adds_slots numbers masks node kept after kind marked re q =
    subst (λ k. is_set k node after q ≡ (is_set k node kept q || list_any (λ x. x == q) numbers)) (sym kind)
    (ap (λ m. mask_bit m q) re.new_masks ∙ marked.bits q)

set_there : {A : Type 0} → (xs : List A) (i : ℕ) (x y : A) → slice_get xs i ≡ Some x → slice_get (slice_set xs i y) i ≡ Some y
set_there xs i x y has =
    let within : i < length xs = slice_get_within xs i x has in
    let still : i < length (slice_set xs i y) = omega (arith, within, length-set xs i y) in
    slice_get-get_or (slice_set xs i y) i y still ∙ ap Some (get_or-set_same xs i y y within)

pub mask_opens : (store now : StoreWords) (i : ℕ) (wanted : List Coord) (numbers : List ℕ) (kept : NodeWords) (before masks : List ℕ) → IsMasking store i wanted numbers → slice_get store.nodes i ≡ Some kept → before ≡ kept.masks → IsMarked before masks numbers → ChangesNode (IsRemasked masks) store now i → OpensNext store now wanted i
mask_opens store now i wanted numbers kept before masks is has same marked changed =
    let can = masks_can_settle store i wanted numbers kept before masks is has same marked in
    let found = node_of (OfMasking numbers) store.shape.nodes store.nodes 1 is_root i (known_at store i wanted numbers is) in
    let kind : found.node.kind ≡ Bitmasked = found.says.0.1 in
    let own : IsMarked changed.kept.masks masks numbers =
    subst (λ b. IsMarked b masks numbers) (same ∙ ap (λ (k : NodeWords). k.masks) (same_Some kept changed.kept (sym has ∙ changed.was))) marked in
    subst (λ s. OpensNext store s wanted i) (sym changed.now_is)
    (opens_next store i changed.after wanted numbers found.node changed.kept (wants_of store i wanted numbers is)
    (grows_at store i masks changed.kept changed.after is.well can changed.was changed.change) found.at changed.was
    (set_there store.nodes i changed.kept changed.after changed.was) (adds_slots numbers masks found.node changed.kept changed.after kind own changed.change))

pub mask_keeps : (store now : StoreWords) (i : ℕ) (wanted : List Coord) (numbers : List ℕ) (kept : NodeWords) (before masks : List ℕ) → IsMasking store i wanted numbers → slice_get store.nodes i ≡ Some kept → before ≡ kept.masks → IsMarked before masks numbers → ChangesNode (IsRemasked masks) store now i → KeepsCells store now
mask_keeps store now i wanted numbers kept before masks is has same marked changed =
    subst (λ s. KeepsCells store s) (sym changed.now_is)
    (keeps_cells store i changed.after (grows_at store i masks changed.kept changed.after is.well (masks_can_settle store i wanted numbers kept before masks is has same marked) changed.was changed.change))

-- what the code reads of the node
pub read_kept : (store : StoreWords) (words : List NodeWords) (i : ℕ) (kept : NodeWords) → words ≡ store.nodes → i < length store.nodes → kept ≡ get_or words i kept → slice_get store.nodes i ≡ Some kept
read_kept store words i kept same within is =
    slice_get_read store.nodes (length store.nodes) i kept refl within (is ∙ ap (λ ws. get_or ws i kept) same)
