-- A dynamic node that is opened for wanted coordinates: its lengths are raised, and its chains fit them, unless it is too
-- full.
use Rattle.std.proofs.Common.{◌≡◌, ℕ, zero, suc, ◌*◌, ◌/◌, ◌%◌, ◌<◌, ◌≤◌, ◌^◌, Bool, true, false, ◌||◌, List, [], ◌∷◌, length, get_or, refl, sym, ap, ◌∙◌, subst, arith, inl, inr}
use Rattle.std.specs.Prelude.{Some, Result, Ok, Err, OnOk, OnErr, nat_le, ◌==◌, slice_get, slice_set}
use Rattle.std.specs.List.{All, list_all, list_any}
use Rattle.std.proofs.lemmas.Bool.{cases_Bool, and_parts, eqb-true, leb-true}
use Rattle.std.proofs.lemmas.List.{get_or_default}
use Rattle.std.proofs.lemmas.List.Elements.{Contains-get_or}
use Rattle.std.proofs.lemmas.List.Folds.{Any-from_list_any}
use Rattle.std.proofs.lemmas.Nat.{div_below}
use Rattle.std.proofs.lemmas.Option.{same_Some, slice_get_within}
use Rattle.sg_coord.specs.declared.coord.Coord.{Coord}
use Rattle.sg_layout.specs.declared.shape.Kind.TheVariants.{Dynamic}
use Rattle.sg_layout.specs.declared.shape.NodeShape.{NodeShape}
use Rattle.sg_layout.specs.declared.shape.Shape.{Shape}
use Rattle.sg_layout.specs.declared.shape.Size.{Size}
use Rattle.sg_layout.specs.Axes.{count_of, size_of}
use Rattle.sg_layout.specs.Path.{path}
use Rattle.sg_layout.specs.Rules.{is_extent, has_good_extents, has_good_axes, names_axes_once, has_few_axes}
use Rattle.sg_layout.specs.RuleLaws.{AcceptedKeepsRules}
use Rattle.sg_layout.specs.PathLaws.{PathIsSlot}
use Rattle.sg_layout.proofs.Uses.{extent_is}
use Rattle.sg_dynamic.specs.declared.chunks.ChunkFull.{ChunkFull}
use Rattle.sg_store.specs.declared.node.NodeWords.{NodeWords}
use Rattle.sg_store.specs.StoreWords.{StoreWords}
use Rattle.sg_store.specs.Slots.{below_length, is_set}
use Rattle.sg_store.specs.WellFormed.{IsNode, IsDynamicNode, AreNodes, IsWellFormed, is_root}
use Rattle.sg_store.specs.Reaching.{KeepsCells}
use Rattle.sg_store.specs.steps.AtNode.{OfNode, AtNode, AtNodeOf, AreNumbers}
use Rattle.sg_store.specs.steps.Settling.{ChangesAt, ChangesNode, NodeGrows}
use Rattle.sg_store.specs.steps.Raising.{keeps_too, RiseByMany, CanFitLengths, IsRefitted, CanLengthen, IsDynamicOf}
use Rattle.sg_store.specs.steps.Levels.{OpensNext}
use Rattle.sg_store.proofs.Leading.{InLive, number_live}
use Rattle.sg_store.proofs.SlotPaths.{slot_offsets, slot_long}
use Rattle.sg_store.proofs.PointerLevel.{set_there}
use Rattle.sg_store.proofs.Opened.{OfWithinCap, AddsBy, keeps_cells, well_formed_grown, opens_by}
use Rattle.sg_store.proofs.Counting.{node_of, Both, both_at, OfWellFormed, nodes_at, at_node_from}
use Rattle.sg_store.proofs.Settled.{at_within}
use Rattle.sg_store.proofs.ActiveCells.{as_many_words}
use Rattle.sg_store.proofs.Masked.{OfAll, all_at}
use Rattle.sg_store.proofs.Raised.{can_fit, lengths_grow, lengths_capped}
use Rattle.sg_store.proofs.Under.{DynamicAt, goes_under}

-- ── In a store ──

pub settling_at : (store : StoreWords) (i : ℕ) (lengths : List ℕ) (chunk : ℕ) → IsWellFormed store → AtNodeOf (CanLengthen lengths chunk) store i → AtNodeOf (Both OfWellFormed (CanLengthen lengths chunk)) store i
settling_at store i lengths chunk is can =
    both_at OfWellFormed (CanLengthen lengths chunk) store.shape.nodes store.nodes 1 is_root i
    (nodes_at store.shape.nodes store.nodes 1 is_root i is.nodes_fit (at_within (CanLengthen lengths chunk) store.shape.nodes store.nodes 1 is_root i can)) can

pub can_relength : (store : StoreWords) (i : ℕ) (lengths : List ℕ) (chunk : ℕ) → IsWellFormed store → AtNodeOf (CanLengthen lengths chunk) store i → (kept : NodeWords) → slice_get store.nodes i ≡ Some kept → CanFitLengths lengths chunk kept
can_relength store i lengths chunk is can kept has =
    let found = node_of (Both OfWellFormed (CanLengthen lengths chunk)) store.shape.nodes store.nodes 1 is_root i (settling_at store i lengths chunk is can) in
    let own : IsDynamicNode found.node found.kept found.slots found.live = subst (λ k. IsNode k found.node found.kept found.slots found.live) found.says.1.is_dynamic found.says.0 in
    subst (λ k. CanFitLengths lengths chunk k) (same_Some found.kept kept (sym found.has ∙ has))
    (can_fit lengths chunk found.node found.kept found.slots found.live own found.says.1)

pub lengths_grow_at : (store : StoreWords) (i : ℕ) (lengths : List ℕ) (chunk : ℕ) (kept after : NodeWords) → IsWellFormed store → AtNodeOf (CanLengthen lengths chunk) store i → slice_get store.nodes i ≡ Some kept → IsRefitted lengths chunk kept after → AtNodeOf (NodeGrows after) store i
lengths_grow_at store i lengths chunk kept after is can has fit =
    at_node_from (Both OfWellFormed (CanLengthen lengths chunk)) (NodeGrows after) store.shape.nodes store.nodes 1 is_root i
    (λ node mine slots live at mine_at both.
    lengths_grow lengths chunk node mine after slots live both.0 both.1
    (subst (λ k. IsRefitted lengths chunk k after) (same_Some kept mine (sym has ∙ mine_at)) fit))
    (settling_at store i lengths chunk is can)

lengths_capped_at : (store : StoreWords) (i : ℕ) (lengths : List ℕ) (chunk : ℕ) (kept after : NodeWords) → IsWellFormed store → AtNodeOf (CanLengthen lengths chunk) store i → slice_get store.nodes i ≡ Some kept → IsRefitted lengths chunk kept after → AtNodeOf (OfWithinCap after) store i
lengths_capped_at store i lengths chunk kept after is can has fit =
    at_node_from (Both OfWellFormed (CanLengthen lengths chunk)) (OfWithinCap after) store.shape.nodes store.nodes 1 is_root i
    (λ node mine slots live at mine_at both.
    lengths_capped lengths chunk node mine after slots live both.0 both.1
    (subst (λ k. IsRefitted lengths chunk k after) (same_Some kept mine (sym has ∙ mine_at)) fit))
    (settling_at store i lengths chunk is can)

pub fitted_well_formed : (store : StoreWords) (i : ℕ) (lengths : List ℕ) (chunk : ℕ) (now : List NodeWords) → IsWellFormed store → AtNodeOf (CanLengthen lengths chunk) store i → ChangesAt (IsRefitted lengths chunk) store.nodes now i → IsWellFormed (record store { nodes = now })
fitted_well_formed store i lengths chunk now is can changed =
    subst (λ l. IsWellFormed (record store { nodes = l })) (sym changed.now_is)
    (well_formed_grown store i changed.after is (lengths_grow_at store i lengths chunk changed.kept changed.after is can changed.was changed.change)
    (lengths_capped_at store i lengths chunk changed.kept changed.after is can changed.was changed.change) changed.change.parted)

-- ── Slots of one parent are live together ──

abbrev pub ByParents : OfNode
ByParents node kept slots live = (x y : ℕ) → x / size_of node.sizes ≡ y / size_of node.sizes → live x ≡ live y

pub by_parents : (nodes : List NodeShape) (words : List NodeWords) (places : ℕ) (live : ℕ → Bool) (i : ℕ) → AreNodes nodes words places live → i < length nodes → AtNode ByParents nodes words places live i
by_parents [] words places live i are below = absurd (omega (arith, below))
by_parents (node ∷ later) [] places live i are below = absurd are
by_parents (node ∷ later) (kept ∷ words) places live zero are below = λ x y same. ap live same
by_parents (node ∷ later) (kept ∷ words) places live (suc i) are below = by_parents later words _ _ i are.2 (omega (arith, below))

-- ── What is known where the node is opened ──

pub record DynamicOpening (store : StoreWords) (i cap chunk : ℕ) (wanted : List Coord) (slots : List ℕ) : Type 0 where
  pub well : IsWellFormed store
  pub node : NodeShape
  pub kept : NodeWords
  pub is : DynamicAt store i node kept
  pub cap_is : count_of node.cap ≡ cap
  pub chunk_is : count_of node.chunk ≡ chunk
  pub few : size_of node.sizes ≤ 2 ^ 15
  pub numbers : AreNumbers store i wanted slots

-- a dynamic node has no more slots under a parent than an axis has coordinates
pub few_slots : (axes : ℕ) (node : NodeShape) → node.kind ≡ Dynamic → has_good_extents node ≡ true → has_good_axes axes node ≡ true → size_of node.sizes ≤ 2 ^ 15
few_slots axes node dynamic extents names =
    let few : has_few_axes node.kind node.sizes ≡ true = (and_parts (names_axes_once axes node.sizes) (has_few_axes node.kind node.sizes) names).1 in
    few_of node.sizes extents (leb-true (length node.sizes) 1 (sym (ap (λ k. has_few_axes k node.sizes) dynamic) ∙ few))
  where
    few_of : (sizes : List Size) → list_all (λ (size : Size). is_extent size.extent) sizes ≡ true → length sizes ≤ 1 → size_of sizes ≤ 2 ^ 15
    few_of [] good few = omega arith
    few_of (size ∷ []) good few =
        let own = extent_is size.extent (and_parts (is_extent size.extent) true good).0 in omega (arith, own.most)
    few_of (size ∷ (other ∷ sizes)) good few = absurd (omega (arith, few))

pub dynamic_opening : (store : StoreWords) (i cap chunk : ℕ) (wanted : List Coord) (slots : List ℕ) → IsWellFormed store → PathIsSlot store.shape → AcceptedKeepsRules store.shape → AtNodeOf (IsDynamicOf cap chunk) store i → AreNumbers store i wanted slots → DynamicOpening store i cap chunk wanted slots
dynamic_opening store i cap chunk wanted slots well paths rules dynamic numbers =
    let found = node_of (IsDynamicOf cap chunk) store.shape.nodes store.nodes 1 is_root i dynamic in
    let keeps = (rules.0 well.accepted.keeps_rules).0 i found.node found.at in
    record {
      well = well;
      node = found.node;
      kept = found.kept;
      is = record {
        within = omega (arith, slice_get_within store.shape.nodes i found.node found.at);
        are_nodes = well.nodes_fit;
        at = found.at;
        has = found.has;
        dynamic = found.says.is_dynamic;
        paths = λ c n. paths well.accepted c n;
      };
      cap_is = found.says.cap_is;
      chunk_is = found.says.chunk_is;
      few = few_slots store.shape.axes found.node found.says.is_dynamic keeps.extents keeps.names;
      numbers = numbers;
    }

-- each wanted slot is in a live container
wanted_in_live : (store : StoreWords) (i cap chunk : ℕ) (wanted : List Coord) (slots : List ℕ) → DynamicOpening store i cap chunk wanted slots → AtNodeOf (OfAll InLive slots) store i
wanted_in_live store i cap chunk wanted slots o =
    let nodes : List NodeShape = store.shape.nodes in
    let many : length store.nodes ≡ length nodes = as_many_words nodes store.nodes 1 is_root o.well.nodes_fit in
    all_at InLive slots nodes store.nodes 1 is_root i many (omega (arith, o.is.within)) (λ k below.
    let found = o.numbers.of_wanted (get_or slots k 0) (Contains-get_or slots k 0 below) in
    let is_slot = o.is.paths found.at (suc i) in
    number_live nodes store.nodes 1 is_root o.well.nodes_fit 0 (omega arith) refl (path store.shape found.at (suc i)) (slot_offsets nodes (suc i) _ is_slot) i
    (slot_long nodes (suc i) _ o.is.within is_slot) (get_or slots k 0) found.has_number)

-- what is known of the node
abbrev OfRaising : List ℕ → OfNode
OfRaising slots = Both (Both OfWellFormed ByParents) (OfAll InLive slots)

known_at : (store : StoreWords) (i cap chunk : ℕ) (wanted : List Coord) (slots : List ℕ) → DynamicOpening store i cap chunk wanted slots → AtNodeOf (OfRaising slots) store i
known_at store i cap chunk wanted slots o =
    let nodes : List NodeShape = store.shape.nodes in
    both_at (Both OfWellFormed ByParents) (OfAll InLive slots) nodes store.nodes 1 is_root i
    (both_at OfWellFormed ByParents nodes store.nodes 1 is_root i
    (nodes_at nodes store.nodes 1 is_root i o.well.nodes_fit (omega (arith, o.is.within)))
    (by_parents nodes store.nodes 1 is_root i o.well.nodes_fit (omega (arith, o.is.within))))
    (wanted_in_live store i cap chunk wanted slots o)

-- its own facts, as those of one node
pub own_node : (store : StoreWords) (i cap chunk : ℕ) (wanted : List Coord) (slots : List ℕ) → (o : DynamicOpening store i cap chunk wanted slots) → (count : ℕ) × (live : ℕ → Bool) × IsDynamicNode o.node o.kept count live × OfAll InLive slots o.node o.kept count live
own_node store i cap chunk wanted slots o =
    let found = node_of (OfRaising slots) store.shape.nodes store.nodes 1 is_root i (known_at store i cap chunk wanted slots o) in
    let a : found.node ≡ o.node = same_Some found.node o.node (sym found.at ∙ o.is.at) in
    let b : found.kept ≡ o.kept = same_Some found.kept o.kept (sym found.has ∙ o.is.has) in
    let says : OfRaising slots o.node o.kept found.slots found.live =
    subst (λ (n : NodeShape). OfRaising slots n o.kept found.slots found.live) a (subst (λ (k : NodeWords). OfRaising slots found.node k found.slots found.live) b found.says) in
    (found.slots, found.live, subst (λ k. IsNode k o.node o.kept found.slots found.live) o.is.dynamic says.0.0, says.1)

-- ── As the code raises lengths ──

pub some_size : (store : StoreWords) (i cap chunk : ℕ) (wanted : List Coord) (slots : List ℕ) (size : ℕ) → DynamicOpening store i cap chunk wanted slots → 1 ≤ size → 0 < size
some_size store i cap chunk wanted slots size o some = omega (arith, some)

-- each wanted slot has a parent with a length
pub parents_there : (store : StoreWords) (i cap chunk : ℕ) (wanted : List Coord) (slots lengths : List ℕ) (size : ℕ) → (o : DynamicOpening store i cap chunk wanted slots) → size ≡ size_of o.node.sizes → 1 ≤ size → lengths ≡ o.kept.lengths → All (λ slot. slot / size < length lengths) slots
parents_there store i cap chunk wanted slots lengths size o sized some same k d below =
    let own = own_node store i cap chunk wanted slots o in
    let low : get_or slots k 0 < own.0 = (own.3 k below).within in
    let read : get_or slots k d ≡ get_or slots k 0 = get_or_default slots k d 0 below in
    let many : length lengths * size ≡ own.0 = ap (λ n. length lengths * n) sized ∙ ap (λ ls. length ls * size_of o.node.sizes) same ∙ own.2.length_count in
    subst (λ s. s / size < length lengths) (sym read) (div_below (get_or slots k 0) size (length lengths) (omega (arith, some)) (omega (arith, low, many)))

pub can_settle_lengths : (store : StoreWords) (i cap chunk : ℕ) (wanted : List Coord) (slots lengths : List ℕ) (size : ℕ) → (o : DynamicOpening store i cap chunk wanted slots) → size ≡ size_of o.node.sizes → RiseByMany o.kept.lengths lengths size slots → AtNodeOf (CanLengthen lengths chunk) store i
can_settle_lengths store i cap chunk wanted slots lengths size o sized raised =
    at_node_from (OfRaising slots) (CanLengthen lengths chunk) store.shape.nodes store.nodes 1 is_root i
    (λ node mine count live at mine_at known.
    let a : o.node ≡ node = same_Some o.node node (sym o.is.at ∙ at) in
    let b : o.kept ≡ mine = same_Some o.kept mine (sym o.is.has ∙ mine_at) in
    let own : OfRaising slots o.node o.kept count live =
    subst (λ (n : NodeShape). OfRaising slots n o.kept count live) (sym a) (subst (λ (k : NodeWords). OfRaising slots node k count live) (sym b) known) in
    subst (λ (n : NodeShape). CanLengthen lengths chunk n mine count live) a
    (subst (λ (k : NodeWords). CanLengthen lengths chunk o.node k count live) b (settles count live own)))
    (known_at store i cap chunk wanted slots o)
  where
    settles : (count : ℕ) (live : ℕ → Bool) → OfRaising slots o.node o.kept count live → CanLengthen lengths chunk o.node o.kept count live
    settles count live known =
        let own : IsDynamicNode o.node o.kept count live = subst (λ k. IsNode k o.node o.kept count live) o.is.dynamic known.0.0 in
        record {
          is_dynamic = o.is.dynamic;
          chunk_is = o.chunk_is;
          few = o.few;
          as_many = raised.as_many;
          rise = raised.rise;
          short = λ p. omega (arith, sized, raised.short p (omega (arith, own.short p, sized)));
          in_live = λ q on. elim (cases_Bool (below_length o.kept.lengths (size_of o.node.sizes) q)) [
            | inl was ↦ own.in_live q was
            | inr none ↦
                let raised_at : below_length lengths size q ≡ (below_length o.kept.lengths size q || list_any (λ x. keeps_too size x q) slots) = raised.below q in
                let before : below_length o.kept.lengths size q ≡ false = ap (λ n. below_length o.kept.lengths n q) sized ∙ none in
                let some : list_any (λ x. keeps_too size x q) slots ≡ true =
                sym (ap (λ b. b || list_any (λ x. keeps_too size x q) slots) before) ∙ sym raised_at ∙ ap (λ n. below_length lengths n q) sized ∙ on in
                let found = Any-from_list_any (λ x. keeps_too size x q) slots some in
                let parent : q / size ≡ found.1 / size = eqb-true (q / size) (found.1 / size) (and_parts (q / size == found.1 / size) (nat_le (q % size) (found.1 % size)) found.4).0 in
                let here : get_or slots found.0 0 ≡ found.1 = get_or_default slots found.0 0 found.1 found.2 ∙ found.3 in
                let same : q / size_of o.node.sizes ≡ found.1 / size_of o.node.sizes = ap (λ n. q / n) (sym sized) ∙ parent ∙ ap (λ n. found.1 / n) sized in
                known.0.1 q found.1 same ∙ ap live (sym here) ∙ (known.1 found.0 found.2).is_live
          ];
        }

-- ── A plan that fits ──

pub dynamic_opened : (store now : StoreWords) (i cap chunk : ℕ) (wanted : List Coord) (slots lengths : List ℕ) (size : ℕ) → (o : DynamicOpening store i cap chunk wanted slots) → size ≡ size_of o.node.sizes → RiseByMany o.kept.lengths lengths size slots → ChangesNode (IsRefitted lengths chunk) store now i → OpensNext store now wanted i × KeepsCells store now
dynamic_opened store now i cap chunk wanted slots lengths size o sized raised changed =
    let after : NodeWords = changed.after in
    let same : changed.kept ≡ o.kept = same_Some changed.kept o.kept (sym changed.was ∙ o.is.has) in
    let grown : AtNodeOf (NodeGrows after) store i =
    lengths_grow_at store i lengths chunk changed.kept after o.well (can_settle_lengths store i cap chunk wanted slots lengths size o sized raised) changed.was changed.change in
    let here : slice_get (slice_set store.nodes i after) i ≡ Some after = set_there store.nodes i o.kept after o.is.has in
    let adds : AddsBy (keeps_too (size_of o.node.sizes)) after slots o.node o.kept = λ q.
    subst (λ k. is_set k o.node after q ≡ (is_set k o.node o.kept q || list_any (λ x. keeps_too (size_of o.node.sizes) x q) slots)) (sym o.is.dynamic)
    (ap (λ ls. below_length ls (size_of o.node.sizes) q) changed.change.new_lengths
    ∙ subst (λ n. below_length lengths n q ≡ (below_length o.kept.lengths n q || list_any (λ x. keeps_too n x q) slots)) sized (raised.below q)) in
    let opens = opens_by store i after wanted slots o.node o.kept (keeps_too (size_of o.node.sizes)) (goes_under store i wanted slots o.node o.kept o.is o.numbers) grown o.is.at o.is.has here adds in
    (subst (λ s. OpensNext store s wanted i) (sym changed.now_is) opens, subst (λ s. KeepsCells store s) (sym changed.now_is) (keeps_cells store i after grown))

-- ── As the code settles lengths ──

pub on_ok_map : {P Q : Type 0} → (r : Result Unit ChunkFull) → (P → Q) → OnOk r P → OnOk r Q
on_ok_map (Ok done) f h = f h
on_ok_map (Err full) f h = tt

-- fitted or refused, the store is well-formed
pub settled_either : (shape : Shape) (old now : List NodeWords) (fields : List (List ℕ)) (i : ℕ) (lengths : List ℕ) (chunk : ℕ) (r : Result Unit ChunkFull) → IsWellFormed (record { shape = shape; nodes = old; fields = fields }) → AtNodeOf (CanLengthen lengths chunk) (record { shape = shape; nodes = old; fields = fields }) i → OnOk r (ChangesAt (IsRefitted lengths chunk) old now i) → OnErr r (now ≡ old) → IsWellFormed (record { shape = shape; nodes = now; fields = fields })
settled_either shape old now fields i lengths chunk (Ok done) is can fitted stays = fitted_well_formed (record { shape = shape; nodes = old; fields = fields }) i lengths chunk now is can fitted
settled_either shape old now fields i lengths chunk (Err full) is can fitted stays = subst (λ (l : List NodeWords). IsWellFormed (record { shape = shape; nodes = l; fields = fields })) (sym stays) is
