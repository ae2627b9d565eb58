-- One hash node that is opened for wanted coordinates: by its slots, as a pointer node.
use Rattle.std.proofs.Common.{◌≡◌, ℕ, suc, ◌<◌, ◌≤◌, Bool, true, false, not, List, length, take, get_or, refl, sym, ap, ◌∙◌, subst, arith}
use Rattle.std.specs.Prelude.{Some, None, Result, Ok, Err, IfOk, is_some, slice_index, slice_get, ◌==◌}
use Rattle.std.specs.List.{Contains}
use Rattle.std.proofs.lemmas.Option.{same_Some, slice_get_read}
use Rattle.sg_words.specs.declared.memory.Memory.{Memory}
use Rattle.sg_coord.specs.declared.coord.Coord.{Coord}
use Rattle.sg_layout.specs.declared.shape.Kind.TheVariants.{Hash}
use Rattle.sg_layout.specs.declared.shape.NodeShape.{NodeShape}
use Rattle.sg_layout.specs.Axes.{count_of}
use Rattle.sg_layout.specs.NeedLaws.{ReachedAreLive}
use Rattle.sg_layout.specs.PathLaws.{PathIsSlot}
use Rattle.sg_layout.specs.Rules.{has_good_caps}
use Rattle.sg_layout.specs.RuleLaws.{AcceptedKeepsRules}
use Rattle.sg_hash.specs.Tables.{IsTable, AreBeside, beside}
use Rattle.sg_pool.specs.Numbers.{live_count}
use Rattle.sg_store.specs.declared.node.NodeWords.{NodeWords}
use Rattle.sg_store.specs.declared.hash.KeyPlan.{KeyPlan}
use Rattle.sg_store.specs.StoreWords.{StoreWords}
use Rattle.sg_store.specs.Slots.{links_by_slot, is_set, place_below}
use Rattle.sg_store.specs.WellFormed.{IsNode, IsPointerNode, IsHashNode, by_slots, IsWithinCap, IsWellFormed, is_root, live_below}
use Rattle.sg_store.specs.Reaching.{KeepsCells}
use Rattle.sg_store.specs.steps.AtNode.{AtNodeOf, AreNumbers}
use Rattle.sg_store.specs.steps.Settling.{CanSettleLinks, ChangesAt, ChangesNode, NodeGrows}
use Rattle.sg_store.specs.steps.Filling.{IsPlan}
use Rattle.sg_store.specs.steps.Keying.{CanPlanKeys, IsKeyPlan, plan_by_slots, CanRekey, CanSettleKeys, IsRekeyed, as_linked}
use Rattle.sg_store.specs.steps.Levels.{IsHashOf, OpensNext, IsPastCap}
use Rattle.sg_store.specs.steps.Fresh.{IsCapped}
use Rattle.sg_store.proofs.BySlots.{links_many, hash_leads, hash_set, set_linked, linked_beside}
use Rattle.sg_store.proofs.Beginning.{capped}
use Rattle.sg_store.proofs.TablePlaces.{table_large}
use Rattle.sg_store.proofs.Opened.{OfWithinCap, well_formed_grown}
use Rattle.sg_store.proofs.Counting.{node_of, Both, both_at, OfWellFormed, nodes_at, at_node_from, with_links}
use Rattle.sg_store.proofs.Linked.{links_grow}
use Rattle.sg_store.proofs.Settled.{at_within}
use Rattle.sg_store.proofs.PointerLevel.{Opening, opening_of, AllInLive, level_says, slots_within, all_linked, pool_places, within_cap, can_links, level_opened, past_cap}
use Rattle.sg_store.proofs.HashAt.{slots_at, hash_links, hash_node, hash_at}

-- ── New tables at one node ──

relabelled : (node : NodeShape) (kept : NodeWords) (slots : ℕ) (live : ℕ → Bool) → IsPointerNode node kept slots live → IsPointerNode (as_linked node) kept slots live
relabelled node kept slots live is = record { link_count = is.link_count; places = is.places; live_linked = is.live_linked; once = is.once; in_live = is.in_live }

labelled : (node : NodeShape) (kept : NodeWords) (slots : ℕ) (live : ℕ → Bool) → IsPointerNode (as_linked node) kept slots live → IsPointerNode node kept slots live
labelled node kept slots live is = record { link_count = is.link_count; places = is.places; live_linked = is.live_linked; once = is.once; in_live = is.in_live }

links_after : (keys links taken : List ℕ) (kept after : NodeWords) (slots : ℕ) → IsRekeyed keys links taken kept after → links_by_slot after.keys after.links slots ≡ links_by_slot keys links slots
links_after keys links taken kept after slots re =
    ap (λ ks. links_by_slot ks after.links slots) re.new_keys ∙ ap (λ ls. links_by_slot keys ls slots) re.new_links

pub beside_after : (keys links taken : List ℕ) (kept after : NodeWords) → IsRekeyed keys links taken kept after → (k : ℕ) → beside after.keys after.links k ≡ beside keys links k
beside_after keys links taken kept after re k =
    ap (λ ks. beside ks after.links k) re.new_keys ∙ ap (λ ls. beside keys ls k) re.new_links

by_slots_grow : (keys links taken : List ℕ) (node : NodeShape) (kept after : NodeWords) (slots : ℕ) (live : ℕ → Bool) → IsHashNode node kept slots live → CanSettleKeys keys links taken node kept slots live → IsRekeyed keys links taken kept after → NodeGrows (by_slots after slots) (as_linked node) (by_slots kept slots) slots live
by_slots_grow keys links taken node kept after slots live is can re =
    links_grow (links_by_slot keys links slots) taken (as_linked node) (by_slots kept slots) (by_slots after slots) slots live
    (relabelled node (by_slots kept slots) slots live is.as_pointer) can.can.can
    (record { new_links = links_after keys links taken kept after slots re; pool = re.pool })

rekeyed_node : (keys links taken : List ℕ) (node : NodeShape) (kept after : NodeWords) (slots : ℕ) (live : ℕ → Bool) → IsHashNode node kept slots live → CanSettleKeys keys links taken node kept slots live → IsRekeyed keys links taken kept after → IsHashNode node after slots live
rekeyed_node keys links taken node kept after slots live is can re = record {
  key_count = ap length re.new_keys ∙ can.keyed.long ∙ is.key_count;
  table = subst IsTable (sym re.new_keys) can.keyed.table;
  links_beside = subst (λ ks. AreBeside ks after.links) (sym re.new_keys) (subst (λ ls. AreBeside keys ls) (sym re.new_links) can.keyed.links_beside);
  few_slots = is.few_slots;
  keys_are_slots = λ key some. can.keyed.are_slots key (ap is_some (sym (beside_after keys links taken kept after re key)) ∙ some);
  as_pointer = labelled node (by_slots after slots) slots live (by_slots_grow keys links taken node kept after slots live is can re).is_node;
}

pub keys_grow : (keys links taken : List ℕ) (node : NodeShape) (kept after : NodeWords) (slots : ℕ) (live : ℕ → Bool) → IsNode node.kind node kept slots live → CanSettleKeys keys links taken node kept slots live → IsRekeyed keys links taken kept after → NodeGrows after node kept slots live
keys_grow keys links taken node kept after slots live own can re =
    let hash : node.kind ≡ Hash = can.is_hash in
    let is : IsHashNode node kept slots live = subst (λ k. IsNode k node kept slots live) hash own in
    let now : IsHashNode node after slots live = rekeyed_node keys links taken node kept after slots live is can re in
    let g = by_slots_grow keys links taken node kept after slots live is can re in
    record {
      is_node = subst (λ k. IsNode k node after slots live) (sym hash) now;
      set_stays = subst (λ k. (q : ℕ) → is_set k node kept q ≡ true → is_set k node after q ≡ true) (sym hash)
          (λ q on. hash_set node after slots live now q ∙ g.set_stays q (sym (hash_set node kept slots live is q) ∙ on));
      leads_stays = subst (λ k. (q n : ℕ) → place_below k node kept q ≡ Some n → place_below k node after q ≡ Some n) (sym hash)
          (λ q n e. hash_leads node after slots live now q ∙ g.leads_stays q n (sym (hash_leads node kept slots live is q) ∙ e));
      fresh = subst (λ k. (q n : ℕ) → place_below k node kept q ≡ None → place_below k node after q ≡ Some n → live_below k kept live n ≡ false) (sym hash)
          (λ q n none e. g.fresh q n (sym (hash_leads node kept slots live is q) ∙ none) (sym (hash_leads node after slots live now q) ∙ e));
      live_stays = subst (λ k. (n : ℕ) → live_below k kept live n ≡ true → live_below k after live n ≡ true) (sym hash) (λ n on. g.live_stays n on);
    }

-- ── New tables in a store ──

rekeying_at : (store : StoreWords) (i : ℕ) (keys links taken : List ℕ) → IsWellFormed store → AtNodeOf (CanSettleKeys keys links taken) store i → AtNodeOf (Both OfWellFormed (CanSettleKeys keys links taken)) store i
rekeying_at store i keys links taken is can =
    both_at OfWellFormed (CanSettleKeys keys links taken) store.shape.nodes store.nodes 1 is_root i
    (nodes_at store.shape.nodes store.nodes 1 is_root i is.nodes_fit (at_within (CanSettleKeys keys links taken) store.shape.nodes store.nodes 1 is_root i can)) can

pub can_rekey : (store : StoreWords) (i : ℕ) (keys links taken : List ℕ) → IsWellFormed store → AtNodeOf (CanSettleKeys keys links taken) store i → (kept : NodeWords) → slice_get store.nodes i ≡ Some kept → CanRekey keys links taken kept
can_rekey store i keys links taken is can kept has =
    let found = node_of (Both OfWellFormed (CanSettleKeys keys links taken)) store.shape.nodes store.nodes 1 is_root i (rekeying_at store i keys links taken is can) in
    let own : IsHashNode found.node found.kept found.slots found.live = subst (λ k. IsNode k found.node found.kept found.slots found.live) found.says.1.is_hash found.says.0 in
    let keyed = found.says.1.keyed in
    subst (λ k. CanRekey keys links taken k) (same_Some found.kept kept (sym found.has ∙ has)) (record {
      key_count = keyed.long;
      link_count = sym keyed.links_beside.many ∙ keyed.long ∙ own.links_beside.many;
      free = found.says.1.can.can.free;
    })

pub keys_grow_at : (store : StoreWords) (i : ℕ) (keys links taken : List ℕ) (kept after : NodeWords) → IsWellFormed store → AtNodeOf (CanSettleKeys keys links taken) store i → slice_get store.nodes i ≡ Some kept → IsRekeyed keys links taken kept after → AtNodeOf (NodeGrows after) store i
keys_grow_at store i keys links taken kept after is can has re =
    at_node_from (Both OfWellFormed (CanSettleKeys keys links taken)) (NodeGrows after) store.shape.nodes store.nodes 1 is_root i
    (λ node mine slots live at mine_at both.
    keys_grow keys links taken node mine after slots live both.0 both.1
    (subst (λ k. IsRekeyed keys links taken k after) (same_Some kept mine (sym has ∙ mine_at)) re))
    (rekeying_at store i keys links taken is can)

keys_capped_at : (store : StoreWords) (i : ℕ) (keys links taken : List ℕ) (kept after : NodeWords) → IsWellFormed store → AtNodeOf (CanSettleKeys keys links taken) store i → slice_get store.nodes i ≡ Some kept → IsRekeyed keys links taken kept after → AtNodeOf (OfWithinCap after) store i
keys_capped_at store i keys links taken kept after is can has re =
    at_node_from (CanSettleKeys keys links taken) (OfWithinCap after) store.shape.nodes store.nodes 1 is_root i
    (λ node mine slots live at mine_at one.
    let again : IsRekeyed keys links taken mine after = subst (λ k. IsRekeyed keys links taken k after) (same_Some kept mine (sym has ∙ mine_at)) re in
    let low : live_count after.pool ≤ count_of node.cap = omega (arith, again.pool.count, one.can.within_cap) in
    subst (λ k. IsWithinCap k node after) (sym one.is_hash) low)
    can

pub rekeyed_well_formed : (store : StoreWords) (i : ℕ) (keys links taken : List ℕ) (now : List NodeWords) → IsWellFormed store → AtNodeOf (CanSettleKeys keys links taken) store i → ChangesAt (IsRekeyed keys links taken) store.nodes now i → IsWellFormed (record store { nodes = now })
rekeyed_well_formed store i keys links taken now is can changed =
    subst (λ l. IsWellFormed (record store { nodes = l })) (sym changed.now_is)
    (well_formed_grown store i changed.after is (keys_grow_at store i keys links taken changed.kept changed.after is can changed.was changed.change)
    (keys_capped_at store i keys links taken changed.kept changed.after is can changed.was changed.change) changed.change.parted)

-- ── What is known where the node is opened ──

pub record HashOpening (store : StoreWords) (i cap : ℕ) (wanted : List Coord) (slots : List ℕ) : Type 0 where
  pub level : Opening store i cap wanted slots
  pub hash : level.node.kind ≡ Hash
  pub links_are : level.links ≡ hash_links store i level.kept
  pub live : ℕ → Bool
  pub own : IsHashNode level.node level.kept (slots_at store.shape.nodes 1 i) live

pub hash_opening : (store : StoreWords) (i cap : ℕ) (wanted : List Coord) (slots : List ℕ) → IsWellFormed store → PathIsSlot store.shape → ReachedAreLive store.shape → AtNodeOf (IsHashOf cap) store i → AreNumbers store i wanted slots → HashOpening store i cap wanted slots
hash_opening store i cap wanted slots well paths reached hash numbers =
    let found = node_of (IsHashOf cap) store.shape.nodes store.nodes 1 is_root i hash in
    let own = hash_node store i found.node found.kept well found.at found.has found.says.0 in
    let n : ℕ = slots_at store.shape.nodes 1 i in
    let o = opening_of store i cap wanted slots found.node found.kept (hash_links store i found.kept) well paths reached
    (hash_at store i found.node found.kept well found.at found.has found.says.0) found.says.1 numbers in
    record {
      level = o.0;
      hash = ap (λ (m : NodeShape). m.kind) o.1 ∙ found.says.0;
      links_are = o.3 ∙ ap (hash_links store i) (sym o.2);
      live = own.0;
      own = subst (λ (m : NodeShape). IsHashNode m o.0.kept n own.0) (sym o.1) (subst (λ (k : NodeWords). IsHashNode found.node k n own.0) (sym o.2) own.1);
    }

-- its cap is one
pub hash_capped : (store : StoreWords) (i : ℕ) (node : NodeShape) → AcceptedKeepsRules store.shape → IsWellFormed store → slice_get store.shape.nodes i ≡ Some node → node.kind ≡ Hash → IsCapped Hash node
hash_capped store i node rules well at hash =
    capped Hash node (subst (λ k. has_good_caps k node ≡ true) hash ((rules.0 well.accepted.keeps_rules).0 i node at).caps)

-- ── Planning ──

-- what is read at an index of the nodes is the node there
pub read_node : (xs nodes : List NodeWords) (i : ℕ) (kept : NodeWords) → xs ≡ nodes → i < length nodes → kept ≡ get_or xs i kept → slice_get nodes i ≡ Some kept
read_node xs nodes i kept same below is = slice_get_read nodes (length nodes) i kept refl below (is ∙ ap (λ l. get_or l i kept) same)

-- a plan for a node that is read is one for the node that is there
pub plan_of_node : (nodes : List NodeWords) (i : ℕ) (mine : NodeWords) (cap : ℕ) (slots : List ℕ) (count : ℕ) (r : Result KeyPlan Memory) → slice_get nodes i ≡ Some mine → IfOk r (IsKeyPlan mine cap slots count) → IfOk r (λ plan. (kept : NodeWords) → slice_get nodes i ≡ Some kept → IsKeyPlan kept cap slots count plan)
plan_of_node nodes i mine cap slots count (Ok plan) has is = λ kept at. subst (λ (k : NodeWords). IsKeyPlan k cap slots count plan) (same_Some mine kept (sym has ∙ at)) is
plan_of_node nodes i mine cap slots count (Err e) has is = tt

pub can_plan : (store : StoreWords) (i cap : ℕ) (wanted : List Coord) (slots : List ℕ) → (o : HashOpening store i cap wanted slots) → IsCapped Hash o.level.node → CanPlanKeys o.level.kept cap slots (slots_at store.shape.nodes 1 i)
can_plan store i cap wanted slots o capped =
    let level = o.level in
    let count : ℕ = slots_at store.shape.nodes 1 i in
    let large = table_large (count_of level.node.cap) capped.0 capped.1 in
    record {
      keyed = record { long = refl; table = o.own.table; links_beside = o.own.links_beside; are_slots = o.own.keys_are_slots };
      few = o.own.few_slots;
      within_cap = within_cap store i cap wanted slots level;
      places = pool_places store i cap wanted slots level;
      linked = λ number has. all_linked store i cap wanted slots level number (subst (λ ls. Contains ls (suc number)) (sym o.links_are) has);
      apart = o.own.as_pointer.once;
      large = omega (arith, large, o.own.key_count, level.cap_is);
      within = λ k d below. omega (arith, slots_within store i cap wanted slots level k d below, ap length o.links_are, links_many level.kept.keys level.kept.links count);
    }

pub plan_as_links : (store : StoreWords) (i cap : ℕ) (wanted : List Coord) (slots : List ℕ) (plan : KeyPlan) → (o : HashOpening store i cap wanted slots) → IsKeyPlan o.level.kept cap slots (slots_at store.shape.nodes 1 i) plan → IsPlan (with_links o.level.kept o.level.links) cap slots (plan_by_slots plan (slots_at store.shape.nodes 1 i))
plan_as_links store i cap wanted slots plan o is =
    subst (λ ls. IsPlan (with_links o.level.kept ls) cap slots (plan_by_slots plan (slots_at store.shape.nodes 1 i))) (sym o.links_are) is.linked

-- ── A plan that fits ──

pub can_settle_keys : (store : StoreWords) (i cap : ℕ) (wanted : List Coord) (slots : List ℕ) (plan : KeyPlan) → (o : HashOpening store i cap wanted slots) → IsKeyPlan o.level.kept cap slots (slots_at store.shape.nodes 1 i) plan → plan.taken ≤ plan.room → AtNodeOf (CanSettleKeys plan.keys plan.links (take plan.taken plan.stock)) store i
can_settle_keys store i cap wanted slots plan o is fits =
    let level = o.level in
    let n : ℕ = slots_at store.shape.nodes 1 i in
    let taken : List ℕ = take plan.taken plan.stock in
    level_says (CanSettleKeys plan.keys plan.links taken) store i cap wanted slots level
    (λ count live own all.
    let same : n ≡ count = omega (arith, own.link_count, ap length o.links_are, links_many level.kept.keys level.kept.links n) in
    let mine : IsPointerNode level.node (with_links level.kept level.links) n live = subst (λ (m : ℕ). IsPointerNode level.node (with_links level.kept level.links) m live) (sym same) own in
    let those : AllInLive slots level.node level.kept n live = subst (λ (m : ℕ). AllInLive slots level.node level.kept m live) (sym same) all in
    let can : CanSettleLinks (links_by_slot plan.keys plan.links n) taken (as_linked level.node) (with_links level.kept level.links) n live =
    can_links store i cap wanted slots (plan_by_slots plan n) level (plan_as_links store i cap wanted slots plan o is) fits n live mine those in
    subst (λ (m : ℕ). CanSettleKeys plan.keys plan.links taken level.node level.kept m live) same (record {
      is_hash = o.hash;
      keyed = is.keyed;
      can = subst (λ ls. CanSettleLinks (links_by_slot plan.keys plan.links n) taken (as_linked level.node) (with_links level.kept ls) n live) o.links_are can;
    }))

pub hash_opened : (store now : StoreWords) (i cap : ℕ) (wanted : List Coord) (slots : List ℕ) (plan : KeyPlan) → (o : HashOpening store i cap wanted slots) → IsKeyPlan o.level.kept cap slots (slots_at store.shape.nodes 1 i) plan → plan.taken ≤ plan.room → ChangesNode (IsRekeyed plan.keys plan.links (take plan.taken plan.stock)) store now i → OpensNext store now wanted i × KeepsCells store now
hash_opened store now i cap wanted slots plan o is fits changed =
    let level = o.level in
    let n : ℕ = slots_at store.shape.nodes 1 i in
    let after : NodeWords = changed.after in
    let grown : AtNodeOf (NodeGrows after) store i = keys_grow_at store i plan.keys plan.links (take plan.taken plan.stock) changed.kept after level.well_formed (can_settle_keys store i cap wanted slots plan o is fits) changed.was changed.change in
    let set : (q : ℕ) → is_set level.node.kind level.node after q ≡ not (slice_index (links_by_slot plan.keys plan.links n) q == 0) = λ q.
    ap (λ k. is_set k level.node after q) o.hash
    ∙ ap is_some (beside_after plan.keys plan.links (take plan.taken plan.stock) changed.kept after changed.change q)
    ∙ ap is_some (sym (linked_beside plan.keys plan.links n is.keyed.are_slots q))
    ∙ set_linked (slice_index (links_by_slot plan.keys plan.links n) q) in
    let both = level_opened store i cap wanted slots (plan_by_slots plan n) after level (plan_as_links store i cap wanted slots plan o is) fits set grown in
    (subst (λ s. OpensNext store s wanted i) (sym changed.now_is) both.0, subst (λ s. KeepsCells store s) (sym changed.now_is) both.1)

-- ── A plan that doesn't ──

pub hash_past_cap : (store : StoreWords) (i cap : ℕ) (wanted : List Coord) (slots : List ℕ) (plan : KeyPlan) → (o : HashOpening store i cap wanted slots) → IsKeyPlan o.level.kept cap slots (slots_at store.shape.nodes 1 i) plan → plan.room < plan.taken → IsPastCap store wanted i cap
hash_past_cap store i cap wanted slots plan o is past =
    past_cap store i cap wanted slots (plan_by_slots plan (slots_at store.shape.nodes 1 i)) o.level (plan_as_links store i cap wanted slots plan o is) past
