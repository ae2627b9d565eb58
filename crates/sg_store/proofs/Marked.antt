-- Live numbers are below the high water marks, and so all that is reached is below the places and cells that these leave.
use Rattle.std.proofs.Common.{◌≡◌, ℕ, ◌+◌, ◌*◌, ◌/◌, ◌%◌, ◌<◌, ◌≤◌, ◌^◌, Bool, true, false, nat_le, cond, List, [], ◌∷◌, length, drop, get_or, refl, sym, ap, ◌∙◌, subst, arith, inl, inr}
use Rattle.std.specs.Prelude.{Some}
use Rattle.std.specs.List.{All}
use Rattle.std.proofs.lemmas.Bool.{false≢true}
use Rattle.std.proofs.lemmas.Bool.Decides.{leb_tells}
use Rattle.std.proofs.lemmas.Nat.{mul-add-lt, mul-le, mod_below}
use Rattle.std.proofs.lemmas.List.{drop_all, drop_more}
use Rattle.std.proofs.lemmas.List.Elements.{All-head, All-tail}
use Rattle.std.proofs.lemmas.Option.{same_Some, option_and_then_some}
use Rattle.sg_layout.specs.declared.shape.Kind.{Kind}
use Rattle.sg_layout.specs.declared.shape.Kind.TheVariants.{Dense, Bitmasked, Pointer, Hash, Dynamic}
use Rattle.sg_layout.specs.declared.shape.NodeShape.{NodeShape}
use Rattle.sg_layout.specs.Axes.{count_of, size_of}
use Rattle.sg_links.specs.Lists.{list_of, times_in_lists}
use Rattle.sg_links.proofs.Uses.{stands, times_at, there_is_list}
use Rattle.sg_pool.specs.Numbers.{PoolNumbers, is_live_number, IsParted}
use Rattle.sg_store.specs.declared.node.NodeWords.{NodeWords}
use Rattle.sg_store.specs.StoreWords.{StoreWords}
use Rattle.sg_store.specs.Slots.{slot_under, place_below}
use Rattle.sg_store.specs.Walks.{place_after}
use Rattle.sg_store.specs.WellFormed.{IsPointerNode, IsDynamicNode, IsNode, by_slots, places_below, AreNodes, is_root, cells_below, cell_count, IsReached, IsWellFormed}
use Rattle.sg_store.specs.steps.Walking.{AreOffsets}
use Rattle.sg_store.specs.steps.Marks.{marked_below, marked_from, AreMarked}
use Rattle.sg_store.proofs.ActiveCells.{slot_offsets, slot_length}
use Rattle.sg_store.proofs.BySlots.{hash_leads}
use Rattle.sg_store.proofs.Chains.{cell_in_chunk}
use Rattle.sg_store.proofs.Stepping.{links_lead}
use Rattle.sg_store.proofs.Walking.{linked_is, index_contains}

-- ── Numbers ──

before_mark : (live past : Bool) (free : ℕ) → cond live 1 0 + free + cond past 1 0 ≡ 1 → live ≡ true → past ≡ false
before_mark true true free one is = absurd (omega (arith, one))
before_mark true false free one is = refl
before_mark false past free one is = absurd (false≢true is)

-- a live number is below the mark
pub live_is_marked : (pool : PoolNumbers) (n : ℕ) → IsParted pool → is_live_number pool n ≡ true → n < pool.mark
live_is_marked pool n parted live = elim (leb_tells pool.mark n) [
  | inl past ↦
      let no : nat_le pool.mark n ≡ false = before_mark (is_live_number pool n) (nat_le pool.mark n) _ (parted.one_of n) live in
      absurd (false≢true (sym no ∙ past.0))
  | inr before ↦ before.1
]

-- ── One node ──

pointer_marked : (node : NodeShape) (kept : NodeWords) (slots : ℕ) (live : ℕ → Bool) → IsPointerNode node kept slots live → IsParted kept.pool → (q n : ℕ) → place_below Pointer node kept q ≡ Some n → n < kept.pool.mark
pointer_marked node kept slots live is parted q n e =
    live_is_marked kept.pool n parted ((is.live_linked n).1 (index_contains kept.links q n (linked_is _ n e)))

chunk_marked : (node : NodeShape) (kept : NodeWords) (slots : ℕ) (live : ℕ → Bool) → IsDynamicNode node kept slots live → IsParted kept.pool → (q n : ℕ) → place_below Dynamic node kept q ≡ Some n → n < kept.pool.mark * count_of node.chunk
chunk_marked node kept slots live is parted q n e =
    let size : ℕ = size_of node.sizes in
    let chunk : ℕ = count_of node.chunk in
    let some : 0 < chunk = omega (arith, is.some_chunk) in
    let a = cell_in_chunk chunk (list_of kept.chains (q / size)) (q % size) n e in
    let head = there_is_list kept.chains a.0 (q / size) ((q % size) / chunk) a.1 in
    let stood : 0 < times_in_lists a.0 kept.chains.lists =
    omega (arith, stands (list_of kept.chains (q / size)) ((q % size) / chunk) a.0 a.1, times_at a.0 kept.chains.lists (q / size) head) in
    let low : a.0 < kept.pool.mark = live_is_marked kept.pool a.0 parted (is_live (is_live_number kept.pool a.0) (subst (λ t. 0 < t) (is.exact.live a.0) stood)) in
    omega (arith, a.2, mul-add-lt a.0 chunk ((q % size) % chunk) kept.pool.mark low (mod_below (q % size) chunk some))
  where
    is_live : (b : Bool) → 0 < cond b 1 0 → b ≡ true
    is_live true some = refl
    is_live false some = absurd (omega (arith, some))

-- if a node leads from a slot that may be live, a place may be
leads_marked : (kind : Kind) (node : NodeShape) (kept : NodeWords) (slots : ℕ) (live : ℕ → Bool) → IsNode kind node kept slots live → IsParted kept.pool → (used q n : ℕ) → q < used → place_below kind node kept q ≡ Some n → n < marked_below kind node kept used
leads_marked Dense node kept slots live is parted used q n below e = let same : q ≡ n = same_Some q n e in omega arith
leads_marked Bitmasked node kept slots live is parted used q n below e = let same : q ≡ n = same_Some q n e in omega arith
leads_marked Pointer node kept slots live is parted used q n below e = pointer_marked node kept slots live is parted q n e
leads_marked Hash node kept slots live is parted used q n below e =
    pointer_marked node (by_slots kept slots) slots live is.as_pointer parted q n (sym (hash_leads node kept slots live is q) ∙ e)
leads_marked Dynamic node kept slots live is parted used q n below e = chunk_marked node kept slots live is parted q n e

-- no more places may be live than there are
pub marked_within : (kind : Kind) (node : NodeShape) (kept : NodeWords) (slots : ℕ) (live : ℕ → Bool) → IsNode kind node kept slots live → IsParted kept.pool → (used : ℕ) → used ≤ slots → marked_below kind node kept used ≤ places_below kind node slots
marked_within Dense node kept slots live is parted used few = few
marked_within Bitmasked node kept slots live is parted used few = few
marked_within Pointer node kept slots live is parted used few = omega (arith, parted.within, is.places)
marked_within Hash node kept slots live is parted used few = omega (arith, parted.within, is.as_pointer.places)
marked_within Dynamic node kept slots live is parted used few =
    mul-le kept.pool.mark (count_of node.chunk) (count_of node.cap) (count_of node.chunk) (omega (arith, parted.within, is.places)) (omega arith)

-- ── All nodes ──

abbrev AreParted : List NodeWords → Type 0
AreParted words = All (λ (kept : NodeWords). IsParted kept.pool) words

marked_few : (nodes : List NodeShape) (words : List NodeWords) (places : ℕ) (live : ℕ → Bool) → AreNodes nodes words places live → AreParted words → (used : ℕ) → used ≤ places → marked_from nodes words used ≤ cells_below nodes places
marked_few [] words places live are parted used few = few
marked_few (node ∷ later) [] places live are parted used few = absurd are
marked_few (node ∷ later) (kept ∷ words) places live are parted used few =
    marked_few later words _ _ are.2 (All-tail (λ (kept : NodeWords). IsParted kept.pool) kept words parted) _
    (marked_within node.kind node kept _ _ are.1 (All-head (λ (kept : NodeWords). IsParted kept.pool) kept words parted) (used * size_of node.sizes)
    (mul-le used (size_of node.sizes) places (size_of node.sizes) few (omega arith)))

marked_all : (nodes : List NodeShape) (words : List NodeWords) (places : ℕ) (live : ℕ → Bool) → AreNodes nodes words places live → AreParted words → (used p : ℕ) → p < used → (s : List ℕ) → AreOffsets nodes s → (x : ℕ) → place_after place_below nodes words p s ≡ Some x → length s ≡ length nodes → x < marked_from nodes words used
marked_all [] words places live are parted used p within [] ins x e long = omega (arith, same_Some p x e)
marked_all [] words places live are parted used p within (v ∷ s) ins x e long = absurd ins
marked_all (node ∷ later) [] places live are parted used p within s ins x e long = absurd are
marked_all (node ∷ later) (kept ∷ words) places live are parted used p within [] ins x e long = absurd (omega (arith, long))
marked_all (node ∷ later) (kept ∷ words) places live are parted used p within (v ∷ s) ins x e long =
    option_and_then_some _ _ x e (λ n here rest.
    marked_all later words _ _ are.2 (All-tail (λ (kept : NodeWords). IsParted kept.pool) kept words parted) _ n
    (leads_marked node.kind node kept _ _ are.1 (All-head (λ (kept : NodeWords). IsParted kept.pool) kept words parted) (used * size_of node.sizes) (slot_under node p v) n
    (omega (arith, mul-add-lt p (size_of node.sizes) v used within ins.0)) here) s ins.1 x rest (omega (arith, long)))

-- ── A store ──

-- no more cells may be reached than there are
pub used_few : (store : StoreWords) (used : ℕ) → IsWellFormed store → used ≡ marked_from store.shape.nodes store.nodes 1 → used ≤ cell_count store.shape
used_few store used well is = omega (arith, is, marked_few store.shape.nodes store.nodes 1 is_root well.nodes_fit well.numbers_parted 1 (omega arith))

-- and all that are reached are among them
pub used_all : (store : StoreWords) (used : ℕ) → IsWellFormed store → used ≡ marked_from store.shape.nodes store.nodes 1 → (cell : ℕ) → IsReached store cell → cell < used
used_all store used well is cell reached =
    let below = marked_all store.shape.nodes store.nodes 1 is_root well.nodes_fit well.numbers_parted 1 0 (omega arith) reached.slot (slot_offsets store.shape.nodes reached.slot reached.is_slot) cell
    (links_lead store.shape.nodes store.nodes 0 reached.slot cell reached.leads) (slot_length store.shape.nodes reached.slot reached.is_slot) in
    omega (arith, is, below)

-- ── As the code goes ──

pub marks_from : (store : StoreWords) → IsWellFormed store → AreMarked store 0 1
marks_from store well = record {
  same = refl;
  all = 1;
  live = is_root;
  are = well.nodes_fit;
  few = omega arith;
  parted = well.numbers_parted;
}

-- at a node
module _ (store : StoreWords) (index places : ℕ) (node : NodeShape) (kept : NodeWords) (nodes_are : drop index store.shape.nodes ≡ node ∷ drop (index + 1) store.shape.nodes) (words_are : drop index store.nodes ≡ kept ∷ drop (index + 1) store.nodes)
    (marked : AreMarked store index places) where
  are : AreNodes (node ∷ drop (index + 1) store.shape.nodes) (kept ∷ drop (index + 1) store.nodes) marked.all marked.live
  are = subst (λ ns. AreNodes ns (kept ∷ drop (index + 1) store.nodes) marked.all marked.live) nodes_are
      (subst (λ ws. AreNodes (drop index store.shape.nodes) ws marked.all marked.live) words_are marked.are)

  parted : AreParted (kept ∷ drop (index + 1) store.nodes)
  parted = subst AreParted words_are marked.parted

  slots_few : places * size_of node.sizes ≤ marked.all * size_of node.sizes
  slots_few = mul-le places (size_of node.sizes) marked.all (size_of node.sizes) marked.few (omega arith)

  pub marks_bound : places * size_of node.sizes ≤ 2 ^ 47
  marks_bound = omega (arith, slots_few, are.0)

  pub marks_next : AreMarked store (index + 1) (marked_below node.kind node kept (places * size_of node.sizes))
  marks_next = record {
    same = sym (ap (λ ns. marked_from ns (kept ∷ drop (index + 1) store.nodes) places) nodes_are) ∙ sym (ap (λ ws. marked_from (drop index store.shape.nodes) ws places) words_are) ∙ marked.same;
    all = _;
    live = _;
    are = are.2;
    few = marked_within node.kind node kept _ _ are.1 (All-head (λ (kept : NodeWords). IsParted kept.pool) kept (drop (index + 1) store.nodes) parted) (places * size_of node.sizes) slots_few;
    parted = All-tail (λ (kept : NodeWords). IsParted kept.pool) kept (drop (index + 1) store.nodes) parted;
  }

-- what is read at an index is the first from there on
pub drop_read : {A : Type 0} → (xs ys : List A) (i : ℕ) (x : A) → xs ≡ ys → i < length ys → x ≡ get_or xs i x → drop i ys ≡ x ∷ drop (i + 1) ys
drop_read xs ys i x same below is = drop_more ys i x below ∙ ap (λ first. first ∷ drop (i + 1) ys) (sym (is ∙ ap (λ l. get_or l i x) same))

-- after all nodes
pub marks_end : (store : StoreWords) (index places : ℕ) → length store.shape.nodes ≤ index → AreMarked store index places → places ≡ marked_from store.shape.nodes store.nodes 1
marks_end store index places past marked =
    sym (ap (λ ns. marked_from ns (drop index store.nodes) places) (drop_all index store.shape.nodes past)) ∙ marked.same
