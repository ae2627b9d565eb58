-- One node with links, a pointer or a hash node, that is opened for wanted coordinates.
use Rattle.std.proofs.Common.{◌≡◌, ◌≢◌, ℕ, zero, suc, ◌+◌, ◌-◌, ◌<◌, ◌≤◌, Bool, true, false, not, ◌||◌, List, [], ◌∷◌, ◌++◌, ◌⊎◌, length, take, get_or, refl, sym, ap, ◌∙◌, subst, arith, inl, inr, cond}
use Rattle.std.specs.Prelude.{Some, unwrap_or, slice_index, slice_get, slice_set, ◌==◌, nat_le}
use Rattle.std.specs.Option.{option_map}
use Rattle.std.specs.List.{Contains, All, AllZip, AllPairs, list_any}
use Rattle.std.proofs.lemmas.Bool.{false≢true, cases_eq, eqb-true, eq-eqb, leb-true}
use Rattle.std.proofs.lemmas.List.{get_or_default, length-take-le, get_or-take, length-append, take_all}
use Rattle.std.proofs.lemmas.List.Elements.{Contains-append_cases, All-contains}
use Rattle.std.proofs.lemmas.List.Folds.{list_any-append, Any-from_list_any, list_any-from_Any}
use Rattle.std.proofs.lemmas.Option.{none-some, same_Some, slice_get_within}
use Rattle.sg_coord.specs.declared.coord.Coord.{Coord}
use Rattle.sg_layout.specs.declared.shape.Kind.{Kind}
use Rattle.sg_layout.specs.declared.shape.Kind.TheVariants.{Dense, Bitmasked, Pointer, Hash, Dynamic}
use Rattle.sg_layout.specs.declared.shape.NodeShape.{NodeShape}
use Rattle.sg_layout.specs.Axes.{count_of}
use Rattle.sg_layout.specs.StorageWords.{ends_segment}
use Rattle.sg_layout.specs.Live.{kind_or, kind_at, is_live}
use Rattle.sg_layout.specs.Need.{reached_slots}
use Rattle.sg_layout.specs.NeedLaws.{ReachedAreLive}
use Rattle.sg_layout.specs.PathLaws.{PathIsSlot}
use Rattle.sg_layout.specs.Slots.{IsSlot}
use Rattle.sg_pool.specs.Numbers.{place_count, is_live_number, live_count, IsFree}
use Rattle.sg_pool.proofs.Uses.{front_settles, live_numbers, live_numbers_once, from_live_numbers, length-live_numbers}
use Rattle.sg_store.specs.declared.node.NodeWords.{NodeWords}
use Rattle.sg_store.specs.declared.pointer.Plan.{Plan}
use Rattle.sg_store.specs.StoreWords.{StoreWords}
use Rattle.sg_store.specs.Slots.{is_set}
use Rattle.sg_store.specs.Walks.{slot_number_in, is_on}
use Rattle.sg_store.specs.WellFormed.{IsNode, IsPointerNode, IsWithinCap, AreNodes, IsWellFormed, is_root}
use Rattle.sg_store.specs.Reaching.{KeepsCells, IsOpenThrough}
use Rattle.sg_store.specs.steps.AtNode.{OfNode, AtNode, AtNodeOf, AreNumbers}
use Rattle.sg_store.specs.steps.Settling.{CanSettleLinks, IsRelinked, ChangesNode, NodeGrows}
use Rattle.sg_store.specs.steps.Filling.{IsPlan}
use Rattle.sg_store.specs.steps.Keying.{as_linked}
use Rattle.sg_store.specs.steps.Levels.{IsPointerOf, OpensNext, IsPastCap}
use Rattle.sg_store.proofs.Walking.{index_contains}
use Rattle.sg_store.proofs.Opened.{with_node, keeps_cells, Wants, wanted_live, AddsSlots, opens_next, wanted_some, same_bool, not_true}
use Rattle.sg_store.proofs.Leading.{InLive}
use Rattle.sg_store.proofs.Counting.{node_of, Both, both_at, OfWellFormed, nodes_at, at_node_from, with_links, IsOwn, LinkedAt, Links, numbers_fit, index_within, word_set, on_is}
use Rattle.sg_store.proofs.Settled.{grows_at}

-- ── What is known where the node is opened ──

pub record Opening (store : StoreWords) (i cap : ℕ) (wanted : List Coord) (slots : List ℕ) : Type 0 where
  pub well_formed : IsWellFormed store
  pub reached : ReachedAreLive store.shape
  pub node : NodeShape
  pub kept : NodeWords
  pub links : List ℕ
  pub is : LinkedAt store i node kept links
  pub cap_is : count_of node.cap ≡ cap
  pub wants : Wants store i wanted slots

kind_there : (nodes : List NodeShape) (i : ℕ) (node : NodeShape) → slice_get nodes i ≡ Some node → kind_at nodes (suc i) ≡ node.kind
kind_there nodes i node at =
    let back : suc i - 1 ≡ i = omega arith in
    ap (λ k. kind_or (slice_get nodes k)) back ∙ ap kind_or at

-- a kind with child containers is no other
pub linked_other : (kind other : Kind) → ends_segment kind ≡ true → ends_segment other ≡ false → kind ≢ other
linked_other kind other linked none same = false≢true (sym none ∙ ap ends_segment (sym same) ∙ linked)

pub opening_of : (store : StoreWords) (i cap : ℕ) (wanted : List Coord) (slots : List ℕ) (node : NodeShape) (kept : NodeWords) (links : List ℕ) → IsWellFormed store → PathIsSlot store.shape → ReachedAreLive store.shape → LinkedAt store i node kept links → count_of node.cap ≡ cap → AreNumbers store i wanted slots → (o : Opening store i cap wanted slots) × (o.node ≡ node) × (o.kept ≡ kept) × (o.links ≡ links)
opening_of store i cap wanted slots node kept links well paths reached is cap_is numbers = (
  record {
    well_formed = well;
    reached = reached;
    node = node;
    kept = kept;
    links = links;
    is = is;
    cap_is = cap_is;
    wants = record {
      paths = λ at n. paths well.accepted at n;
      within = is.within;
      are_nodes = well.nodes_fit;
      numbers = numbers;
      one_slot = linked_other _ Dynamic (ap ends_segment (kind_there store.shape.nodes i node is.at) ∙ is.linked) refl;
    };
  },
  refl,
  refl,
  refl,
)

-- a pointer node has its own links
pub pointer_at : (store : StoreWords) (i : ℕ) (node : NodeShape) (kept : NodeWords) → IsWellFormed store → slice_get store.shape.nodes i ≡ Some node → slice_get store.nodes i ≡ Some kept → node.kind ≡ Pointer → LinkedAt store i node kept kept.links
pointer_at store i node kept well at has pointer =
    let below : i < length store.shape.nodes = slice_get_within store.shape.nodes i node at in
    record {
      within = omega (arith, below);
      are_nodes = well.nodes_fit;
      at = at;
      has = has;
      linked = ap ends_segment pointer;
      own = at_node_from OfWellFormed (IsOwn node kept kept.links) store.shape.nodes store.nodes 1 is_root i
          (λ own mine slots live own_at own_has one.
          let a : own ≡ node = same_Some own node (sym own_at ∙ at) in
          let b : mine ≡ kept = same_Some mine kept (sym own_has ∙ has) in
          let here : IsNode node.kind node kept slots live = subst (λ (n : NodeShape). IsNode n.kind n kept slots live) a (subst (λ (k : NodeWords). IsNode own.kind own k slots live) b one) in
          record { same = a; same_words = b; as_pointer = subst (λ k. IsNode k node kept slots live) pointer here })
          (nodes_at store.shape.nodes store.nodes 1 is_root i well.nodes_fit below);
      set = λ q. ap (λ k. is_set k node kept q) pointer;
    }

pub opening : (store : StoreWords) (i cap : ℕ) (wanted : List Coord) (slots : List ℕ) → IsWellFormed store → PathIsSlot store.shape → ReachedAreLive store.shape → AtNodeOf (IsPointerOf cap) store i → AreNumbers store i wanted slots → (o : Opening store i cap wanted slots) × (o.links ≡ o.kept.links) × (o.node.kind ≡ Pointer)
opening store i cap wanted slots well paths reached pointer numbers =
    let found = node_of (IsPointerOf cap) store.shape.nodes store.nodes 1 is_root i pointer in
    let o = opening_of store i cap wanted slots found.node found.kept found.kept.links well paths reached
    (pointer_at store i found.node found.kept well found.at found.has found.says.0) found.says.1 numbers in
    (o.0, o.3 ∙ sym (ap (λ (k : NodeWords). k.links) o.2), ap (λ (n : NodeShape). n.kind) o.1 ∙ found.says.0)

-- ── Wanted slots are in live containers ──

-- all slots of a list are so
abbrev pub AllInLive : List ℕ → OfNode
AllInLive slots node kept count live = (q : ℕ) → Contains slots q → InLive q node kept count live

all_at : (nodes : List NodeShape) (words : List NodeWords) (places : ℕ) (live : ℕ → Bool) (i : ℕ) (slots : List ℕ) → AreNodes nodes words places live → i < length nodes → ((q : ℕ) → Contains slots q → AtNode (InLive q) nodes words places live i) → AtNode (AllInLive slots) nodes words places live i
all_at [] words places live i slots are below each = absurd (omega (arith, below))
all_at (node ∷ later) [] places live i slots are below each = absurd are
all_at (node ∷ later) (kept ∷ words) places live zero slots are below each = each
all_at (node ∷ later) (kept ∷ words) places live (suc i) slots are below each = all_at later words _ _ i slots are.2 (omega (arith, below)) each

pub all_in_live : (store : StoreWords) (i cap : ℕ) (wanted : List Coord) (slots : List ℕ) → Opening store i cap wanted slots → AtNodeOf (AllInLive slots) store i
all_in_live store i cap wanted slots o =
    all_at store.shape.nodes store.nodes 1 is_root i slots o.wants.are_nodes (omega (arith, o.wants.within))
    (wanted_live store i wanted slots o.wants)

-- what the node's own facts and those of the slots say of it
pub level_says : (Says : OfNode) (store : StoreWords) (i cap : ℕ) (wanted : List Coord) (slots : List ℕ) → (o : Opening store i cap wanted slots) → ((count : ℕ) (live : ℕ → Bool) → IsPointerNode o.node (with_links o.kept o.links) count live → AllInLive slots o.node o.kept count live → Says o.node o.kept count live) → AtNodeOf Says store i
level_says Says store i cap wanted slots o follows =
    at_node_from (Both (IsOwn o.node o.kept o.links) (AllInLive slots)) Says store.shape.nodes store.nodes 1 is_root i
    (λ own mine count live at has both.
    let all : AllInLive slots o.node o.kept count live = λ q found. record { within = (both.1 q found).within; is_live = (both.1 q found).is_live } in
    let says : Says o.node o.kept count live = follows count live both.0.as_pointer all in
    subst (λ (n : NodeShape). Says n mine count live) (sym both.0.same) (subst (λ (k : NodeWords). Says o.node k count live) (sym both.0.same_words) says))
    (both_at (IsOwn o.node o.kept o.links) (AllInLive slots) store.shape.nodes store.nodes 1 is_root i o.is.own (all_in_live store i cap wanted slots o))

-- a fact of the node alone
pub level_fact : (Fact : Type 0) (store : StoreWords) (i cap : ℕ) (wanted : List Coord) (slots : List ℕ) → (o : Opening store i cap wanted slots) → ((count : ℕ) (live : ℕ → Bool) → IsPointerNode o.node (with_links o.kept o.links) count live → AllInLive slots o.node o.kept count live → Fact) → Fact
level_fact Fact store i cap wanted slots o follows =
    let Says : OfNode = λ node kept count live. Fact in
    (node_of Says store.shape.nodes store.nodes 1 is_root i (level_says Says store i cap wanted slots o follows)).says

-- ── What planning needs ──

pub slots_within : (store : StoreWords) (i cap : ℕ) (wanted : List Coord) (slots : List ℕ) → (o : Opening store i cap wanted slots) → All (λ slot. slot < length o.links) slots
slots_within store i cap wanted slots o k d below =
    level_fact (get_or slots k d < length o.links) store i cap wanted slots o
    (λ count live own all. omega (arith, (all (get_or slots k d) (k, below, get_or_default slots k (get_or slots k d) d below)).within, own.link_count))

pub all_linked : (store : StoreWords) (i cap : ℕ) (wanted : List Coord) (slots : List ℕ) → (o : Opening store i cap wanted slots) → (number : ℕ) → Contains o.links (suc number) → is_live_number o.kept.pool number ≡ true
all_linked store i cap wanted slots o number has =
    level_fact (is_live_number o.kept.pool number ≡ true) store i cap wanted slots o (λ count live own all. (own.live_linked number).1 has)

pub pool_places : (store : StoreWords) (i cap : ℕ) (wanted : List Coord) (slots : List ℕ) → (o : Opening store i cap wanted slots) → place_count o.kept.pool ≡ cap + 17
pool_places store i cap wanted slots o =
    level_fact (place_count o.kept.pool ≡ cap + 17) store i cap wanted slots o (λ count live own all. own.places ∙ ap (λ n. n + 17) o.cap_is)

pub cap_at : (nodes : List NodeShape) (words : List NodeWords) (i : ℕ) (node : NodeShape) (kept : NodeWords) → AllZip (λ node kept. IsWithinCap node.kind node kept) nodes words → slice_get nodes i ≡ Some node → slice_get words i ≡ Some kept → IsWithinCap node.kind node kept
cap_at [] words i node kept all at has = absurd (none-some node at)
cap_at (first ∷ later) [] i node kept all at has = absurd all
cap_at (first ∷ later) (own ∷ words) zero node kept all at has =
    subst (λ (k : NodeWords). IsWithinCap node.kind node k) (same_Some own kept has) (subst (λ (n : NodeShape). IsWithinCap n.kind n own) (same_Some first node at) all.0)
cap_at (first ∷ later) (own ∷ words) (suc i) node kept all at has = cap_at later words i node kept all.1 at has

pub within_cap : (store : StoreWords) (i cap : ℕ) (wanted : List Coord) (slots : List ℕ) → (o : Opening store i cap wanted slots) → live_count o.kept.pool ≤ cap
within_cap store i cap wanted slots o =
    let low : live_count o.kept.pool ≤ count_of o.node.cap =
    linked_cap o.node.kind o.node o.kept o.is.linked (cap_at store.shape.nodes store.nodes i o.node o.kept o.well_formed.within_caps o.is.at o.is.has) in
    omega (arith, o.cap_is)
  where
    linked_cap : (kind : Kind) (node : NodeShape) (kept : NodeWords) → ends_segment kind ≡ true → IsWithinCap kind node kept → live_count kept.pool ≤ count_of node.cap
    linked_cap Pointer node kept linked is = is
    linked_cap Hash node kept linked is = is
    linked_cap Dense node kept linked is = absurd (false≢true linked)
    linked_cap Bitmasked node kept linked is = absurd (false≢true linked)
    linked_cap Dynamic node kept linked is = absurd (false≢true linked)

-- ── A plan that fits ──

word_cases : (n : ℕ) → (n ≡ 0) ⊎ (n ≢ 0)
word_cases n = cases_eq n 0

in_front : (slots : List ℕ) (through q : ℕ) → through ≤ length slots → Contains (take through slots) q → Contains slots q
in_front slots through q within has =
    let long = length-take-le through slots within in
    let below : has.0 < through = omega (arith, has.1) in
    (has.0, omega (arith, below), sym (get_or-take through slots has.0 q below) ∙ has.2)

-- links that the plan adds stand in live containers
added_live : (store : StoreWords) (i cap : ℕ) (wanted : List Coord) (slots : List ℕ) (plan : Plan) → (o : Opening store i cap wanted slots) → IsPlan (with_links o.kept o.links) cap slots plan → (q : ℕ) → slice_index o.links q ≡ 0 → slice_index plan.links q ≢ 0 → Contains slots q
added_live store i cap wanted slots plan o is q none some =
    in_front slots is.filled.through q is.filled.within (is.filled.fill.of_slots q none some)

pub can_links : (store : StoreWords) (i cap : ℕ) (wanted : List Coord) (slots : List ℕ) (plan : Plan) → (o : Opening store i cap wanted slots) → IsPlan (with_links o.kept o.links) cap slots plan → plan.taken ≤ plan.room → (count : ℕ) (live : ℕ → Bool) → IsPointerNode o.node (with_links o.kept o.links) count live → AllInLive slots o.node o.kept count live → CanSettleLinks plan.links (take plan.taken plan.stock) (as_linked o.node) (with_links o.kept o.links) count live
can_links store i cap wanted slots plan o is fits count live own all = record {
  can = record {
    is_pointer = refl;
    as_many = is.filled.fill.as_many ∙ own.link_count;
    stays = is.filled.fill.stays;
    of_taken = is.filled.fill.of_taken;
    in_live = λ q none some. (all q (added_live store i cap wanted slots plan o is q none some)).is_live;
    all_taken = is.filled.fill.all_taken;
    once = is.filled.fill.once;
    free = front_settles o.kept.pool plan.stock plan.taken is.free;
  };
  within_cap = omega (arith, is.room, o.cap_is, length-take-le plan.taken plan.stock is.filled.enough);
}

linked_same : (node : NodeShape) → node.kind ≡ Pointer → as_linked node ≡ node
linked_same node e = ap (λ (k : Kind). record node { kind = k }) (sym e)

pub can_settle : (store : StoreWords) (i cap : ℕ) (wanted : List Coord) (slots : List ℕ) (plan : Plan) → (o : Opening store i cap wanted slots) → o.links ≡ o.kept.links → o.node.kind ≡ Pointer → IsPlan (with_links o.kept o.links) cap slots plan → plan.taken ≤ plan.room → AtNodeOf (CanSettleLinks plan.links (take plan.taken plan.stock)) store i
can_settle store i cap wanted slots plan o own_links pointer is fits =
    level_says (CanSettleLinks plan.links (take plan.taken plan.stock)) store i cap wanted slots o
    (λ count live own all.
    subst (λ n. CanSettleLinks plan.links (take plan.taken plan.stock) n o.kept count live) (linked_same o.node pointer)
    (subst (λ ls. CanSettleLinks plan.links (take plan.taken plan.stock) (as_linked o.node) (with_links o.kept ls) count live) own_links
    (can_links store i cap wanted slots plan o is fits count live own all)))

-- the node keeps the wanted slots besides the old ones
pub adds_slots : (store : StoreWords) (i cap : ℕ) (wanted : List Coord) (slots : List ℕ) (plan : Plan) (after : NodeWords) → (o : Opening store i cap wanted slots) → IsPlan (with_links o.kept o.links) cap slots plan → plan.taken ≤ plan.room → ((q : ℕ) → is_set o.node.kind o.node after q ≡ not (slice_index plan.links q == 0)) → AddsSlots after slots o.node o.kept
adds_slots store i cap wanted slots plan after o is fits set q =
    let fill = is.filled.fill in
    let whole : take is.filled.through slots ≡ slots = take_all is.filled.through slots (omega (arith, is.filled.all fits)) in
    let body : not (slice_index plan.links q == 0) ≡ (not (slice_index o.links q == 0) || list_any (λ x. x == q) slots) = same_bool _ _
    (λ on. elim (word_cases (slice_index o.links q)) [
      | inl none ↦
          let has : Contains slots q = added_live store i cap wanted slots plan o is q none (word_some (slice_index plan.links q) on) in
          or_right (not (slice_index o.links q == 0)) _ (list_any-from_Any (λ x. x == q) slots (has.0, q, has.1, has.2, eq-eqb q q refl))
      | inr some ↦ or_left _ (list_any (λ x. x == q) slots) (word_set (slice_index o.links q) some)
    ])
    (λ either. elim (word_cases (slice_index o.links q)) [
      | inl none ↦
          let found = Any-from_list_any (λ x. x == q) slots (or_rest (slice_index o.links q) _ none either) in
          let same : found.1 ≡ q = eqb-true found.1 q found.4 in
          let has : Contains slots q = (found.0, found.2, get_or_default slots found.0 q found.1 found.2 ∙ found.3 ∙ same) in
          word_set (slice_index plan.links q) (fill.filled q (subst (λ l. Contains l q) (sym whole) has))
      | inr some ↦ word_set (slice_index plan.links q) (λ none. some (sym (fill.stays q some) ∙ none))
    ]) in
    set q ∙ body ∙ sym (ap (λ b. b || list_any (λ x. x == q) slots) (o.is.set q))
  where
    word_some : (word : ℕ) → not (word == 0) ≡ true → word ≢ 0
    word_some word on none = false≢true (sym (ap (λ n. not (n == 0)) none) ∙ on)

    or_left : (a b : Bool) → a ≡ true → (a || b) ≡ true
    or_left true b e = refl
    or_left false b e = absurd (false≢true e)

    or_right : (a b : Bool) → b ≡ true → (a || b) ≡ true
    or_right true b e = refl
    or_right false b e = e

    or_rest : (word : ℕ) (b : Bool) → word ≡ 0 → (not (word == 0) || b) ≡ true → b ≡ true
    or_rest word b none either = sym (ap (λ n. not (n == 0) || b) none) ∙ either

pub set_there : (words : List NodeWords) (i : ℕ) (kept after : NodeWords) → slice_get words i ≡ Some kept → slice_get (slice_set words i after) i ≡ Some after
set_there [] i kept after has = absurd (none-some kept has)
set_there (own ∷ words) zero kept after has = refl
set_there (own ∷ words) (suc i) kept after has = set_there words i kept after has

pub level_opened : (store : StoreWords) (i cap : ℕ) (wanted : List Coord) (slots : List ℕ) (plan : Plan) (after : NodeWords) → (o : Opening store i cap wanted slots) → IsPlan (with_links o.kept o.links) cap slots plan → plan.taken ≤ plan.room → ((q : ℕ) → is_set o.node.kind o.node after q ≡ not (slice_index plan.links q == 0)) → AtNodeOf (NodeGrows after) store i → OpensNext store (with_node store i after) wanted i × KeepsCells store (with_node store i after)
level_opened store i cap wanted slots plan after o is fits set grown = (
  opens_next store i after wanted slots o.node o.kept o.wants grown o.is.at o.is.has (set_there store.nodes i o.kept after o.is.has)
      (adds_slots store i cap wanted slots plan after o is fits set),
  keeps_cells store i after grown,
)

pub pointer_opened : (store now : StoreWords) (i cap : ℕ) (wanted : List Coord) (slots : List ℕ) (plan : Plan) → (o : Opening store i cap wanted slots) → o.links ≡ o.kept.links → o.node.kind ≡ Pointer → IsPlan (with_links o.kept o.links) cap slots plan → plan.taken ≤ plan.room → ChangesNode (IsRelinked plan.links (take plan.taken plan.stock)) store now i → OpensNext store now wanted i × KeepsCells store now
pointer_opened store now i cap wanted slots plan o own_links pointer is fits changed =
    let grown : AtNodeOf (NodeGrows changed.after) store i = grows_at store i plan.links (take plan.taken plan.stock) changed.kept changed.after o.well_formed (can_settle store i cap wanted slots plan o own_links pointer is fits) changed.was changed.change in
    let both = level_opened store i cap wanted slots plan changed.after o is fits
    (λ q. ap (λ k. is_set k o.node changed.after q) pointer ∙ ap (λ l. not (slice_index l q == 0)) changed.change.new_links) grown in
    (subst (λ s. OpensNext store s wanted i) (sym changed.now_is) both.0, subst (λ s. KeepsCells store s) (sym changed.now_is) both.1)

-- ── A plan that doesn't ──

pub apart_append : (xs ys : List ℕ) → AllPairs (λ x y. x ≢ y) xs → AllPairs (λ x y. x ≢ y) ys → ((n : ℕ) → Contains xs n → Contains ys n → ⊥) → AllPairs (λ x y. x ≢ y) (xs ++ ys)
apart_append [] ys one two apart i j d i<j below = two i j d i<j below
apart_append (x ∷ xs) ys one two apart zero (suc j) d i<j below =
    λ same. elim (Contains-append_cases xs ys x (j, omega (arith, below), get_or_default (xs ++ ys) j x d (omega (arith, below)) ∙ sym same)) [
      | inl has ↦ one 0 (suc has.0) x (omega arith) (omega (arith, has.1)) (sym has.2)
      | inr has ↦ apart x (zero, omega arith, refl) has
    ]
apart_append (x ∷ xs) ys one two apart (suc i) (suc j) d i<j below =
    apart_append xs ys (λ a b e p q. one (suc a) (suc b) e (omega (arith, p)) (omega (arith, q))) two
    (λ n has. apart n (suc has.0, omega (arith, has.1), has.2)) i j d (omega (arith, i<j)) (omega (arith, below))
apart_append (x ∷ xs) ys one two apart i zero d i<j below = absurd (omega (arith, i<j))

-- at the node what is on is what is live for the old coordinates
was_old : (store : StoreWords) (i cap : ℕ) (old wanted : List Coord) (slots : List ℕ) → IsOpenThrough store old (old ++ wanted) i → Opening store i cap wanted slots → (slot : List ℕ) → IsSlot (take (suc i) store.shape.nodes) slot → is_on store.shape.nodes store.nodes 0 slot ≡ is_live store.shape old (suc i) slot
was_old store i cap old wanted slots was_open o slot is_slot =
    was_open (suc i) slot (record {
      first = omega arith;
      within = o.wants.within;
      has_activity = linked_other _ Dense (ap ends_segment (kind_there store.shape.nodes i o.node o.is.at) ∙ o.is.linked) refl;
      is_slot = is_slot;
    })
    ∙ ap (λ b. is_live store.shape (cond b (old ++ wanted) old) (suc i) slot) (past i)
  where
    past : (n : ℕ) → nat_le (suc n) n ≡ false
    past n = not_true _ (λ h. let low : suc n ≤ n = leb-true (suc n) n h in absurd (omega arith))

-- more slots are reached than the cap
pub past_cap : (store : StoreWords) (i cap : ℕ) (wanted : List Coord) (slots : List ℕ) (plan : Plan) → (o : Opening store i cap wanted slots) → IsPlan (with_links o.kept o.links) cap slots plan → plan.room < plan.taken → IsPastCap store wanted i cap
past_cap store i cap wanted slots plan o is past old was_open =
    let fill = is.filled.fill in
    let taken : List ℕ = take plan.taken plan.stock in
    let coords : List Coord = old ++ wanted in
    let number : ℕ = suc i in
    let linked_on : (slot : List ℕ) (q : ℕ) → IsSlot (take number store.shape.nodes) slot → slot_number_in store.shape.nodes store.nodes 0 slot ≡ Some q → slice_index o.links q ≢ 0 → is_live store.shape old number slot ≡ true = λ slot q is_slot at some.
    sym (was_old store i cap old wanted slots was_open o slot is_slot) ∙ on_here slot q is_slot at ∙ word_set (slice_index o.links q) some in
    let links : Links store i plan.links coords = record {
      within = o.wants.within;
      are_nodes = o.wants.are_nodes;
      in_live = λ q some. level_says (InLive q) store i cap wanted slots o (λ count live own all. elim (word_cases (slice_index o.links q)) [
        | inl none ↦ all q (added_live store i cap wanted slots plan o is q none some)
        | inr was ↦ record { within = omega (arith, index_within o.links q was, own.link_count); is_live = own.in_live q was }
      ]);
      live = λ slot q is_slot at some. list_any-append _ old wanted ∙ elim (word_cases (slice_index o.links q)) [
        | inl none ↦
            let has : Contains slots q = added_live store i cap wanted slots plan o is q none some in
            or_right (is_live store.shape old number slot) _ (sym (wanted_some store i wanted slots o.wants slot is_slot q at) ∙ list_any-from_Any (λ x. x == q) slots (has.0, q, has.1, has.2, eq-eqb q q refl))
        | inr was ↦ or_left _ (is_live store.shape wanted number slot) (linked_on slot q is_slot at was)
      ];
    } in
    let numbers : List ℕ = live_numbers o.kept.pool ++ taken in
    let once : AllPairs (λ x y. x ≢ y) numbers = apart_append (live_numbers o.kept.pool) taken (live_numbers_once o.kept.pool) (front_settles o.kept.pool plan.stock plan.taken is.free).once
    (λ n live took.
    let free : IsFree o.kept.pool n = All-contains (IsFree o.kept.pool) taken n (front_settles o.kept.pool plan.stock plan.taken is.free).free took in
    false≢true (sym free.not_live ∙ from_live_numbers o.kept.pool n live)) in
    let fits : length numbers ≤ length (reached_slots store.shape coords number) =
    numbers_fit store i plan.links coords numbers o.reached o.wants.one_slot links once
    (λ n has. elim (Contains-append_cases (live_numbers o.kept.pool) taken n has) [
      | inl live ↦ level_fact (Contains plan.links (suc n)) store i cap wanted slots o (λ count live_at own all.
          let found = (own.live_linked n).0 (from_live_numbers o.kept.pool n live) in
          let word : slice_index o.links found.0 ≡ suc n = get_or_default o.links found.0 0 (suc n) found.1 ∙ found.2 in
          index_contains plan.links found.0 n (fill.stays found.0 (λ none. cc) ∙ word))
      | inr took ↦ fill.all_taken n took
    ]) in
    omega (arith, fits, length-append (live_numbers o.kept.pool) taken, length-live_numbers o.kept.pool, is.room, length-take-le plan.taken plan.stock is.filled.enough)
  where
    or_left : (a b : Bool) → a ≡ true → (a || b) ≡ true
    or_left true b e = refl
    or_left false b e = absurd (false≢true e)

    or_right : (a b : Bool) → b ≡ true → (a || b) ≡ true
    or_right true b e = refl
    or_right false b e = e

    on_here : (slot : List ℕ) (q : ℕ) → IsSlot (take (suc i) store.shape.nodes) slot → slot_number_in store.shape.nodes store.nodes 0 slot ≡ Some q → is_on store.shape.nodes store.nodes 0 slot ≡ not (slice_index o.links q == 0)
    on_here slot q is_slot at = on_is store i o.node o.kept o.links o.is slot is_slot ∙ ap (λ n. unwrap_or (option_map (λ q. not (slice_index o.links q == 0)) n) false) at
