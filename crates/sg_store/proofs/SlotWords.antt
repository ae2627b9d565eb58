-- The slot words, the mask words and the pool of one node, as calls read them.
use Rattle.std.proofs.Common.{◌≡◌, ◌≢◌, ℕ, zero, suc, ◌+◌, ◌*◌, ◌-◌, ◌<◌, ◌≤◌, ◌^◌, Bool, true, false, not, List, [], ◌∷◌, length, get_or, refl, sym, ap, ◌∙◌, subst, arith, inl, inr, cond}
use Rattle.std.specs.Prelude.{slice_get, slice_index, ◌==◌}
use Rattle.std.specs.Int.{div_ceil}
use Rattle.std.specs.List.{All, AllPairs, Contains, filter}
use Rattle.std.proofs.lemmas.Bool.{false≢true, cases_eq}
use Rattle.std.proofs.lemmas.Bool.Decides.{nat_tests}
use Rattle.std.proofs.Math.Nat.{pos_of_ne-zero}
use Rattle.std.proofs.lemmas.Nat.{div_below}
use Rattle.std.proofs.lemmas.List.{get_or_default}
use Rattle.std.proofs.lemmas.List.Kept.{AllPairs-filter}
use Rattle.std.proofs.lemmas.List.Elements.{Contains-get_or}
use Rattle.std.proofs.lemmas.Option.{same_Some, slice_get-get_or}
use Rattle.sg_words.specs.Counts.{one}
use Rattle.sg_words.proofs.Uses.{from_filter, into_filter}
use Rattle.sg_layout.specs.declared.shape.Kind.{Kind}
use Rattle.sg_layout.specs.declared.shape.Kind.TheVariants.{Dense, Bitmasked, Pointer, Hash, Dynamic}
use Rattle.sg_layout.specs.declared.shape.NodeShape.{NodeShape}
use Rattle.sg_layout.specs.Axes.{count_of, size_of, slots_of}
use Rattle.sg_layout.specs.NeedLaws.{IsNumberedNode}
use Rattle.sg_layout.specs.StorageWords.{ends_segment}
use Rattle.sg_pool.specs.Numbers.{PoolNumbers, place_count, is_live_number, live_count, IsStock}
use Rattle.sg_pool.proofs.Uses.{fewer, live_is_number, live_numbers, live_numbers_once, in_live_numbers, from_live_numbers, length-live_numbers, stock_is_rest}
use Rattle.sg_store.specs.declared.node.NodeWords.{NodeWords}
use Rattle.sg_store.specs.StoreWords.{StoreWords}
use Rattle.sg_store.specs.WellFormed.{IsPointerNode, IsMaskNode, IsHashNode, IsDynamicNode, places_below, AreNodes, is_root}
use Rattle.sg_store.specs.WellFormed as well
use Rattle.sg_store.specs.Opening.{link_words_of, masks_of, lengths_of, pool_of, filled_count, IsInLive}
use Rattle.sg_store.specs.steps.AtNode.{OfNode, AtNode, AtNodeOf}
use Rattle.sg_store.specs.steps.Fresh.{IsCapped}
use Rattle.sg_store.proofs.Leading.{InLive}
use Rattle.sg_store.proofs.Roomy.{some_parts}
use Rattle.sg_store.proofs.AtNumber.{IsAt, links_are, masks_are, pool_is, within_nodes, fact_at, fact_with, in_live_at, parent_in_live, lengths_are}
use Rattle.sg_store.proofs.HashAt.{power_some}
use Rattle.sg_store.proofs.KeyPlaces.{links_contain, slots_contain, links_once}

-- ── As many words aren't 0 as numbers are live ──

abbrev is_filled : ℕ → Bool
is_filled word = not (word == 0)

pub filled_some : (word : ℕ) → is_filled word ≡ true → word ≢ 0
filled_some word on none = false≢true (sym (ap is_filled none) ∙ on)

some_filled : (word : ℕ) → word ≢ 0 → is_filled word ≡ true
some_filled word some = grind (arith, nat_tests)

pub filled_kept : (words : List ℕ) → filled_count words ≡ length (filter is_filled words)
filled_kept [] = refl
filled_kept (w ∷ words) =
    let rest = filled_kept words in
    split (is_filled w) rest
  where
    split : (b : Bool) → filled_count words ≡ length (filter is_filled words) → one b + filled_count words ≡ length (cond b (w ∷ filter is_filled words) (filter is_filled words))
    split true rest = omega (arith, rest)
    split false rest = omega (arith, rest)

-- if no word other than 0 stands twice, each of those that aren't 0 is there once
pub kept_once : (links : List ℕ) → ((x y : ℕ) → slice_index links x ≢ 0 → slice_index links x ≡ slice_index links y → x ≡ y) → AllPairs (λ x y. x ≢ y) (filter is_filled links)
kept_once links once i j d i<j below same =
    let Apart : ℕ → ℕ → Type 0 = λ x y. x ≢ 0 → x ≢ y in
    let apart : AllPairs Apart links = λ a b e a<b within some equal.
    let left : get_or links a e ≡ slice_index links a = get_or_default links a e 0 (omega (arith, a<b, within)) in
    let right : get_or links b e ≡ slice_index links b = get_or_default links b e 0 within in
    let one_place : a ≡ b = once a b (λ none. some (left ∙ none)) (sym left ∙ equal ∙ right) in
    absurd (omega (arith, a<b, one_place)) in
    let kept : AllPairs Apart (filter is_filled links) = AllPairs-filter Apart is_filled links apart in
    let word : ℕ = get_or (filter is_filled links) i d in
    let on : is_filled word ≡ true = (from_filter is_filled links word (Contains-get_or (filter is_filled links) i d (omega (arith, i<j, below)))).1 in
    kept i j d i<j below (filled_some word on) same

word_number : (word : ℕ) → word ≢ 0 → (n : ℕ) × (word ≡ suc n)
word_number zero some = absurd (some refl)
word_number (suc n) some = (n, refl)

pub filled_live : (links : List ℕ) (pool : PoolNumbers) → ((number : ℕ) → (is_live_number pool number ≡ true → Contains links (suc number)) × (Contains links (suc number) → is_live_number pool number ≡ true)) → ((x y : ℕ) → slice_index links x ≢ 0 → slice_index links x ≡ slice_index links y → x ≡ y) → filled_count links ≡ live_count pool
filled_live links pool linked once =
    let words : List ℕ = filter is_filled links in
    let Of : ℕ → ℕ → Type 0 = λ word number. word ≡ suc number in
    let low : length words ≤ length (live_numbers pool) = fewer Of words (live_numbers pool) (kept_once links once)
    (λ word has.
    let both = from_filter is_filled links word has in
    let number = word_number word (filled_some word both.1) in
    (number.0, in_live_numbers pool number.0 ((linked number.0).1 (subst (λ w. Contains links w) number.1 both.0)), number.1))
    (λ a b number p q left right. left ∙ sym right) in
    let high : length (live_numbers pool) ≤ length words = fewer (λ number word. Of word number) (live_numbers pool) words (live_numbers_once pool)
    (λ number has. (suc number, into_filter is_filled links (suc number) ((linked number).0 (from_live_numbers pool number has)) (some_filled (suc number) (λ none. absurd (omega (arith, none)))), refl))
    (λ a b word p q left right. let same : suc a ≡ suc b = sym left ∙ right in omega (arith, same)) in
    omega (arith, filled_kept links, low, high, length-live_numbers pool)

-- ── A node with child containers ──

pub not_dense : (kind : Kind) → ends_segment kind ≡ true → kind ≢ Dense
not_dense kind linked dense = false≢true (sym (ap ends_segment dense) ∙ linked)

-- its link words: those that aren't 0 are one more than the live numbers, each of one place
pub record IsLinkTable (node : NodeShape) (kept : NodeWords) : Type 0 where
  pub linked : (number : ℕ) → (is_live_number kept.pool number ≡ true → Contains kept.links (suc number)) × (Contains kept.links (suc number) → is_live_number kept.pool number ≡ true)
  pub once : (x y : ℕ) → slice_index kept.links x ≢ 0 → slice_index kept.links x ≡ slice_index kept.links y → x ≡ y
  pub places : place_count kept.pool ≡ count_of node.cap + 17

table_by : (kind : Kind) (node : NodeShape) (kept : NodeWords) (slots : ℕ) (live : ℕ → Bool) → ends_segment kind ≡ true → well.IsNode kind node kept slots live → IsLinkTable node kept
table_by Pointer node kept slots live linked own = record { linked = λ n. ((own.live_linked n).0, (own.live_linked n).1); once = own.once; places = own.places }
table_by Hash node kept slots live linked own = record {
  linked = λ n. (
    λ alive. links_contain kept.keys kept.links slots n own.links_beside ((own.as_pointer.live_linked n).0 alive),
    λ has. (own.as_pointer.live_linked n).1 (slots_contain kept.keys kept.links slots n own.table own.links_beside own.keys_are_slots has),
  );
  once = links_once kept.keys kept.links slots own.table own.links_beside own.keys_are_slots own.as_pointer.once;
  places = own.as_pointer.places;
}
table_by Dense node kept slots live linked own = absurd (false≢true linked)
table_by Bitmasked node kept slots live linked own = absurd (false≢true linked)
table_by Dynamic node kept slots live linked own = absurd (false≢true linked)

link_table : (store : StoreWords) (number i : ℕ) (node : NodeShape) (kept : NodeWords) → IsAt store number i node kept → ends_segment node.kind ≡ true → IsLinkTable node kept
link_table store number i node kept is linked =
    fact_at (IsLinkTable node kept) store number i node kept is (λ slots live own. table_by node.kind node kept slots live linked own)

-- a pointer node's own facts
pub pointer_fact : (Fact : Type 0) (store : StoreWords) (number i : ℕ) (node : NodeShape) (kept : NodeWords) → IsAt store number i node kept → node.kind ≡ Pointer → ((slots : ℕ) (live : ℕ → Bool) → IsPointerNode node kept slots live → Fact) → Fact
pointer_fact Fact store number i node kept is kind follows =
    fact_at Fact store number i node kept is (λ slots live own. follows slots live (subst (λ k. well.IsNode k node kept slots live) kind own))

pub filled_at : (store : StoreWords) (number i : ℕ) (node : NodeShape) (kept : NodeWords) → IsAt store number i node kept → ends_segment node.kind ≡ true → filled_count (link_words_of store number) ≡ live_count (pool_of store number)
filled_at store number i node kept is linked =
    let own = link_table store number i node kept is linked in
    ap filled_count (links_are store number i node kept is)
    ∙ filled_live kept.links kept.pool own.linked own.once
    ∙ ap live_count (sym (pool_is store number i node kept is))

-- its cap is small
capped : (kind : Kind) (node : NodeShape) → ends_segment kind ≡ true → IsCapped kind node → count_of node.cap ≤ 2 ^ 16
capped Pointer node linked is = is.1
capped Hash node linked is = is.1
capped Dense node linked is = absurd (false≢true linked)
capped Bitmasked node linked is = absurd (false≢true linked)
capped Dynamic node linked is = absurd (false≢true linked)

pub links_small : (store : StoreWords) (number i : ℕ) (node : NodeShape) (kept : NodeWords) → IsAt store number i node kept → ends_segment node.kind ≡ true → All (λ node. IsCapped node.kind node) store.shape.nodes → All (λ link. link ≤ 2 ^ 32) (link_words_of store number)
links_small store number i node kept is linked caps =
    let own = link_table store number i node kept is linked in
    let below = within_nodes store number i node kept is in
    let same : get_or store.shape.nodes i node ≡ node = same_Some _ node (sym (slice_get-get_or store.shape.nodes i node below) ∙ is.at) in
    let cap : count_of node.cap ≤ 2 ^ 16 = capped node.kind node linked (subst (λ (n : NodeShape). IsCapped n.kind n) same (caps i node below)) in
    subst (λ links. All (λ link. link ≤ 2 ^ 32) links) (sym (links_are store number i node kept is))
    (λ k d within. elim (cases_eq (get_or kept.links k d) 0) [
      | inl none ↦ omega (arith, none)
      | inr some ↦
          let word = word_number (get_or kept.links k d) some in
          let alive : is_live_number kept.pool word.0 ≡ true = (own.linked word.0).1 (subst (λ w. Contains kept.links w) word.1 (Contains-get_or kept.links k d within)) in
          omega (arith, word.1, live_is_number kept.pool word.0 alive, own.places, cap)
    ])

pub stock_unlinked : (store : StoreWords) (number i : ℕ) (node : NodeShape) (kept : NodeWords) (stock : List ℕ) → IsAt store number i node kept → ends_segment node.kind ≡ true → IsStock kept.pool stock → (taking : ℕ) → Contains stock taking → Contains (link_words_of store number) (suc taking) → ⊥
stock_unlinked store number i node kept stock is linked of_pool taking has held =
    let alive : is_live_number kept.pool taking ≡ true = ((link_table store number i node kept is linked).linked taking).1 (subst (λ links. Contains links (suc taking)) (links_are store number i node kept is) held) in
    false≢true (sym ((of_pool.members taking).0 has).not_live ∙ alive)

pub stock_rest : (store : StoreWords) (number i : ℕ) (node : NodeShape) (kept : NodeWords) (stock : List ℕ) → IsAt store number i node kept → ends_segment node.kind ≡ true → IsStock kept.pool stock → (shape : NodeShape) → IsNumberedNode store.shape number shape → length stock + live_count (pool_of store number) ≡ count_of shape.cap + 17
stock_rest store number i node kept stock is linked of_pool shape here =
    let back : number - 1 ≡ i = omega (arith, is.next) in
    let same : node ≡ shape = same_Some node shape (sym is.at ∙ ap (slice_get store.shape.nodes) (sym back) ∙ here.there) in
    ap (λ p. length stock + live_count p) (pool_is store number i node kept is) ∙ stock_is_rest kept.pool stock of_pool
    ∙ (link_table store number i node kept is linked).places
    ∙ ap (λ (n : NodeShape). count_of n.cap + 17) same

-- ── Each node has slots ──

-- there is at least one
abbrev pub HasSlots : OfNode
HasSlots node kept slots live = 1 ≤ slots

product_some : (x y : ℕ) → 1 ≤ x → 1 ≤ y → 1 ≤ x * y
product_some zero y one two = absurd (omega (arith, one))
product_some (suc x) zero one two = absurd (omega (arith, two))
product_some (suc x) (suc y) one two = omega arith

below_some : (kind : Kind) (node : NodeShape) (slots : ℕ) → kind ≢ Dynamic → 1 ≤ slots → 1 ≤ places_below kind node slots
below_some Dense node slots other some = some
below_some Bitmasked node slots other some = some
below_some Pointer node slots other some = omega arith
below_some Hash node slots other some = omega arith
below_some Dynamic node slots other some = absurd (other refl)

slots_some : (nodes : List NodeShape) (words : List NodeWords) (places : ℕ) (live : ℕ → Bool) (i : ℕ) → AreNodes nodes words places live → 1 ≤ slots_of nodes → 1 ≤ places → i < length nodes → AtNode HasSlots nodes words places live i
slots_some [] words places live i are some any below = absurd (omega (arith, below))
slots_some (node ∷ later) [] places live i are some any below = absurd are
slots_some (node ∷ later) (kept ∷ words) places live zero are some any below =
    product_some places (size_of node.sizes) any (some_parts (size_of node.sizes) (slots_of later) some).0
slots_some (node ∷ later) (kept ∷ words) places live (suc i) are some any below =
    let parts = some_parts (size_of node.sizes) (slots_of later) some in
    let other : node.kind ≢ Dynamic = λ dynamic. let none : length later ≡ 0 = ap length (are.3 dynamic) in omega (arith, below, none) in
    slots_some later words _ _ i are.2 parts.1 (below_some node.kind node _ other (product_some places (size_of node.sizes) any parts.0)) (omega (arith, below))

some_slots : (store : StoreWords) (number i : ℕ) (node : NodeShape) (kept : NodeWords) → IsAt store number i node kept → 1 ≤ slots_of store.shape.nodes → AtNodeOf HasSlots store i
some_slots store number i node kept is some =
    slots_some store.shape.nodes store.nodes 1 is_root i is.well.nodes_fit some (omega arith) (within_nodes store number i node kept is)

links_by : (kind : Kind) (node : NodeShape) (kept : NodeWords) (slots : ℕ) (live : ℕ → Bool) → ends_segment kind ≡ true → 1 ≤ slots → well.IsNode kind node kept slots live → 0 < length kept.links
links_by Pointer node kept slots live linked some own = omega (arith, some, own.link_count)
links_by Hash node kept slots live linked some own = omega (arith, own.links_beside.many, own.key_count, power_some (2 * count_of node.cap))
links_by Dense node kept slots live linked some own = absurd (false≢true linked)
links_by Bitmasked node kept slots live linked some own = absurd (false≢true linked)
links_by Dynamic node kept slots live linked some own = absurd (false≢true linked)

pub links_some : (store : StoreWords) (number i : ℕ) (node : NodeShape) (kept : NodeWords) → IsAt store number i node kept → ends_segment node.kind ≡ true → 1 ≤ slots_of store.shape.nodes → 0 < length (link_words_of store number)
links_some store number i node kept is linked some =
    let long : 0 < length kept.links = fact_with HasSlots (0 < length kept.links) store number i node kept is (some_slots store number i node kept is some)
    (λ slots live own has. links_by node.kind node kept slots live linked has own) in
    subst (λ links. 0 < length links) (sym (links_are store number i node kept is)) long

ceil_some : (slots words : ℕ) → 1 ≤ slots → words ≡ div_ceil slots 64 → 0 < words
ceil_some slots words some e = omega (arith, some, e)

pub masks_some : (store : StoreWords) (number i : ℕ) (node : NodeShape) (kept : NodeWords) → IsAt store number i node kept → node.kind ≡ Bitmasked → 1 ≤ slots_of store.shape.nodes → 0 < length (masks_of store number)
masks_some store number i node kept is kind some =
    let long : 0 < length kept.masks = fact_with HasSlots (0 < length kept.masks) store number i node kept is (some_slots store number i node kept is some)
    (λ slots live own has.
    let mask : IsMaskNode kept slots live = subst (λ k. well.IsNode k node kept slots live) kind own in
    ceil_some slots (length kept.masks) has mask.word_count) in
    subst (λ masks. 0 < length masks) (sym (masks_are store number i node kept is)) long

pub lengths_some : (store : StoreWords) (number i : ℕ) (node : NodeShape) (kept : NodeWords) → IsAt store number i node kept → node.kind ≡ Dynamic → 1 ≤ slots_of store.shape.nodes → 0 < length (lengths_of store number)
lengths_some store number i node kept is kind some =
    let long : 0 < length kept.lengths = fact_with HasSlots (0 < length kept.lengths) store number i node kept is (some_slots store number i node kept is some)
    (λ slots live own has.
    let dynamic : IsDynamicNode node kept slots live = subst (λ k. well.IsNode k node kept slots live) kind own in
    factor_some (length kept.lengths) (size_of node.sizes) (omega (arith, has, dynamic.length_count))) in
    subst (λ lengths. 0 < length lengths) (sym (lengths_are store number i node kept is)) long
  where
    factor_some : (x y : ℕ) → 1 ≤ x * y → 0 < x
    factor_some zero y some = absurd (omega (arith, some))
    factor_some (suc x) y some = omega arith

-- ── A slot in a live container is one of the node's ──

pub slot_within : (store : StoreWords) (number i : ℕ) (node : NodeShape) (kept : NodeWords) (q : ℕ) → IsAt store number i node kept → node.kind ≡ Pointer → IsInLive store number q → q < length (link_words_of store number)
slot_within store number i node kept q is kind led =
    let long : q < length kept.links = fact_with (InLive q) (q < length kept.links) store number i node kept is (in_live_at store number i node kept q is (λ dynamic. cc) led)
    (λ slots live own here.
    let pointer : IsPointerNode node kept slots live = subst (λ k. well.IsNode k node kept slots live) kind own in
    omega (arith, here.within, pointer.link_count)) in
    subst (λ links. q < length links) (sym (links_are store number i node kept is)) long

room_for : (slots words q : ℕ) → q < slots → words ≡ div_ceil slots 64 → q < 64 * words
room_for slots words q below e = omega (arith, below, e)

pub bit_within : (store : StoreWords) (number i : ℕ) (node : NodeShape) (kept : NodeWords) (q : ℕ) → IsAt store number i node kept → node.kind ≡ Bitmasked → IsInLive store number q → q < 64 * length (masks_of store number)
bit_within store number i node kept q is kind led =
    let long : q < 64 * length kept.masks = fact_with (InLive q) (q < 64 * length kept.masks) store number i node kept is (in_live_at store number i node kept q is (λ dynamic. cc) led)
    (λ slots live own here.
    let mask : IsMaskNode kept slots live = subst (λ k. well.IsNode k node kept slots live) kind own in
    room_for slots (length kept.masks) q here.within mask.word_count) in
    subst (λ masks. q < 64 * length masks) (sym (masks_are store number i node kept is)) long

-- ── A key, and the length of a parent, in a live container ──

pub key_within : (store : StoreWords) (number i : ℕ) (node : NodeShape) (kept : NodeWords) (q : ℕ) → IsAt store number i node kept → node.kind ≡ Hash → IsInLive store number q → q < 2 ^ 32
key_within store number i node kept q is kind led =
    fact_with (InLive q) (q < 2 ^ 32) store number i node kept is (in_live_at store number i node kept q is (λ dynamic. cc) led)
    (λ slots live own here.
    let hash : IsHashNode node kept slots live = subst (λ k. well.IsNode k node kept slots live) kind own in
    omega (arith, here.within, hash.few_slots))

pub parent_within : (store : StoreWords) (number i : ℕ) (node : NodeShape) (kept : NodeWords) (parent : ℕ) → IsAt store number i node kept → node.kind ≡ Dynamic → IsInLive store number parent → parent < length (lengths_of store number)
parent_within store number i node kept parent is kind led =
    let found = parent_in_live store number i node kept parent is kind led in
    let long : parent < length kept.lengths = fact_with (InLive found.0) (parent < length kept.lengths) store number i node kept is found.2
    (λ slots live own here.
    let dynamic : IsDynamicNode node kept slots live = subst (λ k. well.IsNode k node kept slots live) kind own in
    let wide : 0 < size_of node.sizes = pos_of_ne-zero (λ none. absurd (omega (arith, here.within, dynamic.length_count, ap (λ n. length kept.lengths * n) none))) in
    omega (arith, sym found.1, div_below found.0 (size_of node.sizes) (length kept.lengths) wide (omega (arith, here.within, dynamic.length_count)))) in
    subst (λ lengths. parent < length lengths) (sym (lengths_are store number i node kept is)) long
