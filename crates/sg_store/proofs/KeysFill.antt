-- Keys past the cap of the hash node: it is the first node that is too full.
use Rattle.std.proofs.Common.{◌≡◌, ◌≢◌, ℕ, suc, ◌+◌, ◌-◌, ◌<◌, ◌≤◌, true, false, not, List, [], ◌∷◌, ◌++◌, length, take, refl, sym, ap, ◌∙◌, subst, arith, inl, inr, cond}
use Rattle.std.specs.Prelude.{Some, ◌==◌, nat_le, unwrap_or, is_some, slice_index}
use Rattle.std.specs.Option.{option_map}
use Rattle.std.specs.List.{filter}
use Rattle.std.proofs.lemmas.Bool.{cases_eq, leb-true}
use Rattle.std.proofs.lemmas.List.{get_or_default}
use Rattle.std.proofs.lemmas.List.Folds.{list_any-append}
use Rattle.std.proofs.lemmas.Option.{same_Some}
use Rattle.sg_coord.specs.declared.coord.Coord.{Coord}
use Rattle.sg_words.specs.Counts.{one}
use Rattle.sg_words.proofs.Uses.{from_filter}
use Rattle.sg_hash.specs.Tables.{IsTable}
use Rattle.sg_hash.proofs.Uses.{stands_once}
use Rattle.sg_layout.specs.declared.shape.Kind.TheVariants.{Hash, Dynamic}
use Rattle.sg_layout.specs.declared.shape.NodeShape.{NodeShape}
use Rattle.sg_layout.specs.Axes.{count_of}
use Rattle.sg_layout.specs.Live.{kind_at, is_live}
use Rattle.sg_layout.specs.Need.{FullNode, reached_slots, need_by, need_of, first_full}
use Rattle.sg_layout.specs.Path.{path}
use Rattle.sg_layout.specs.Slots.{IsSlot}
use Rattle.sg_pool.proofs.Uses.{fewer}
use Rattle.sg_store.specs.declared.node.NodeWords.{NodeWords}
use Rattle.sg_store.specs.StoreWords.{StoreWords}
use Rattle.sg_store.specs.Walks.{slot_number_in, is_on}
use Rattle.sg_store.specs.WellFormed.{is_root}
use Rattle.sg_store.specs.Reaching.{IsOpenThrough}
use Rattle.sg_store.specs.Opening.{keys_of, filled_count, NewKeysAreWanted}
use Rattle.sg_store.proofs.Leading.{leads_from}
use Rattle.sg_store.proofs.Counting.{index_within, on_is, link_live, is_slot_from, word_set}
use Rattle.sg_store.proofs.Wanted.{own_path_live}
use Rattle.sg_store.proofs.SlotPaths.{not_true}
use Rattle.sg_store.proofs.HashAt.{hash_links, hash_node, hash_at}
use Rattle.sg_store.proofs.KeyPlaces.{some_word, key_here, slot_some}
use Rattle.sg_store.proofs.SlotWords.{filled_kept, kept_once, filled_some}
use Rattle.sg_store.proofs.AtNumber.{IsAt, keys_are, within_nodes, slot_word}
use Rattle.sg_store.proofs.OpenedBy.{or_left, or_right}
use Rattle.sg_store.proofs.Reached.{ReachLaws, full_some, open_fits, kind_there}

-- ── As many words as keys ──

pub fewer_filled : (words keys : List ℕ) → ((p : ℕ) → slice_index words p ≢ 0 → slice_index keys p ≢ 0) → filled_count words ≤ filled_count keys
fewer_filled [] keys over = omega arith
fewer_filled (w ∷ words) [] over =
    let rest : filled_count words ≤ 0 = fewer_filled words [] (λ p some. over (suc p) some) in
    elim (cases_eq w 0) [
      | inl none ↦ let off : one (not (w == 0)) ≡ 0 = ap (λ n. one (not (n == 0))) none in omega (arith, off, rest)
      | inr some ↦ absurd (over 0 some refl)
    ]
fewer_filled (w ∷ words) (k ∷ keys) over =
    let rest : filled_count words ≤ filled_count keys = fewer_filled words keys (λ p some. over (suc p) some) in
    elim (cases_eq w 0) [
      | inl none ↦ let off : one (not (w == 0)) ≡ 0 = ap (λ n. one (not (n == 0))) none in omega (arith, off, rest)
      | inr some ↦
          let on : one (not (k == 0)) ≡ 1 = ap one (word_set k (over 0 some)) in
          let mine : one (not (w == 0)) ≡ 1 = ap one (word_set w some) in
          omega (arith, on, mine, rest)
    ]

-- ── Keys against reached slots ──

pub record HasKeys (store : StoreWords) (i : ℕ) (node : NodeShape) (kept : NodeWords) (old wanted : List Coord) (keys : List ℕ) : Type 0 where
  pub is : IsAt store 1 i node kept
  pub laws : ReachLaws store.shape
  pub hash : node.kind ≡ Hash
  pub was_open : IsOpenThrough store old (old ++ wanted) i
  pub table : IsTable keys
  pub keys_stay : (p : ℕ) → slice_index (keys_of store 1) p ≢ 0 → slice_index keys p ≡ slice_index (keys_of store 1) p
  pub new : NewKeysAreWanted store keys wanted

-- a slot whose number is the key of a word
abbrev HasKey : StoreWords → ℕ → List ℕ → Type 0
HasKey store word slot = (q : ℕ) × (slot_number_in store.shape.nodes store.nodes 0 slot ≡ Some q) × (word ≡ suc q)

-- the slot of a key is live
slot_of_key : (store : StoreWords) (i : ℕ) (node : NodeShape) (kept : NodeWords) (old wanted : List Coord) (keys : List ℕ) → HasKeys store i node kept old wanted keys → (p key : ℕ) → slice_index keys p ≡ suc key → (slot : List ℕ) × (slot_number_in store.shape.nodes store.nodes 0 slot ≡ Some key) × (is_live store.shape (old ++ wanted) (suc i) slot ≡ true)
slot_of_key store i node kept old wanted keys h p key at = elim (cases_eq (slice_index (keys_of store 1) p) 0) [
  | inl none ↦
      let place = h.new p key none at in
      let number : slot_number_in store.shape.nodes store.nodes 0 (path store.shape place.at (suc i)) ≡ Some key =
      ap (λ n. slot_number_in store.shape.nodes store.nodes 0 (path store.shape place.at n)) (sym h.is.next)
      ∙ sym (slot_word store 1 i node kept (path store.shape place.at 1) h.is (λ dynamic. cc h.hash)) ∙ place.has_place in
      let live : is_live store.shape wanted (suc i) (path store.shape place.at (suc i)) ≡ true = own_path_live store.shape wanted (suc i) place.at place.is_of in (
        path store.shape place.at (suc i),
        number,
        list_any-append _ old wanted ∙ or_right (is_live store.shape old (suc i) (path store.shape place.at (suc i))) _ live,
      )
  | inr held ↦
      let nodes : List NodeShape = store.shape.nodes in
      let there : slice_index kept.keys p ≡ suc key = ap (λ l. slice_index l p) (sym (keys_are store 1 i node kept h.is)) ∙ sym (h.keys_stay p held) ∙ at in
      let own = hash_node store i node kept h.is.well h.is.at h.is.has h.hash in
      let linked = hash_at store i node kept h.is.well h.is.at h.is.has h.hash in
      let beside = key_here kept.keys kept.links p key own.1.table own.1.links_beside there in
      let word : slice_index (hash_links store i kept) key ≡ suc (slice_index kept.links p - 1) =
      slot_some kept.keys kept.links _ key (slice_index kept.links p - 1) (own.1.keys_are_slots key (ap is_some beside)) beside in
      let some : slice_index (hash_links store i kept) key ≢ 0 = λ none. cc in
      let leads = leads_from nodes store.nodes 1 is_root linked.are_nodes i key (link_live store i node kept (hash_links store i kept) linked key some) in
      let root : leads.start ≡ 0 = omega (arith, leads.within) in
      let number : slot_number_in nodes store.nodes 0 leads.slot ≡ Some key = ap (λ p. slot_number_in nodes store.nodes p leads.slot) (sym root) ∙ leads.number in
      let is_slot : IsSlot (take (suc i) nodes) leads.slot = subst (λ n. IsSlot (take n nodes) leads.slot) leads.long (is_slot_from nodes leads.slot leads.are_offsets) in
      let on : is_on nodes store.nodes 0 leads.slot ≡ true =
      on_is store i node kept (hash_links store i kept) linked leads.slot is_slot
      ∙ ap (λ o. unwrap_or (option_map (λ q. not (slice_index (hash_links store i kept) q == 0)) o) false) number
      ∙ word_set (slice_index (hash_links store i kept) key) some in
      let was : is_on nodes store.nodes 0 leads.slot ≡ is_live store.shape old (suc i) leads.slot =
      h.was_open (suc i) leads.slot (record {
        first = omega arith;
        within = omega (arith, within_nodes store 1 i node kept h.is);
        has_activity = λ dense. cc (sym (kind_there nodes i node h.is.at ∙ h.hash) ∙ dense);
        is_slot = is_slot;
      })
      ∙ ap (λ b. is_live store.shape (cond b (old ++ wanted) old) (suc i) leads.slot) (past i) in (
        leads.slot,
        number,
        list_any-append _ old wanted ∙ or_left _ (is_live store.shape wanted (suc i) leads.slot) (sym was ∙ on),
      )
]
  where
    past : (n : ℕ) → nat_le (suc n) n ≡ false
    past n = not_true _ (λ h. let low : suc n ≤ n = leb-true (suc n) n h in absurd (omega arith))

-- no key stands twice
keys_once : (keys : List ℕ) → IsTable keys → (x y : ℕ) → slice_index keys x ≢ 0 → slice_index keys x ≡ slice_index keys y → x ≡ y
keys_once keys table x y some same =
    let word = some_word (slice_index keys x) some in
    let one_more : suc word.0 ≡ word.0 + 1 = omega arith in
    stands_once keys table word.0 x y (index_within keys x some) (index_within keys y (λ none. some (same ∙ none))) (word.1 ∙ one_more) (sym same ∙ word.1 ∙ one_more)

pub keys_fit : (store : StoreWords) (i : ℕ) (node : NodeShape) (kept : NodeWords) (old wanted : List Coord) (keys : List ℕ) → HasKeys store i node kept old wanted keys → filled_count keys ≤ length (reached_slots store.shape (old ++ wanted) (suc i))
keys_fit store i node kept old wanted keys h =
    let other : kind_at store.shape.nodes (suc i) ≢ Dynamic = λ dynamic. cc (sym (kind_there store.shape.nodes i node h.is.at ∙ h.hash) ∙ dynamic) in
    let words : List ℕ = filter (λ w. not (w == 0)) keys in
    let fits : length words ≤ length (reached_slots store.shape (old ++ wanted) (suc i)) =
    fewer (HasKey store) words (reached_slots store.shape (old ++ wanted) (suc i)) (kept_once keys (keys_once keys h.table))
    (λ word has.
    let both = from_filter (λ w. not (w == 0)) keys word has in
    let key = some_word word (filled_some word both.1) in
    let at : slice_index keys both.0.0 ≡ suc key.0 = get_or_default keys both.0.0 0 word both.0.1 ∙ both.0.2 ∙ key.1 in
    let slot = slot_of_key store i node kept old wanted keys h both.0.0 key.0 at in
    (slot.0, (h.laws.reached (old ++ wanted) (suc i) other slot.0).1 slot.2, (key.0, slot.1, key.1)))
    (λ a b slot p r left right. left.2 ∙ ap suc (same_Some _ _ (sym left.1 ∙ right.1)) ∙ sym right.2) in
    omega (arith, filled_kept keys, fits)

pub keys_full : (store : StoreWords) (i : ℕ) (node : NodeShape) (kept : NodeWords) (old wanted : List Coord) (keys words : List ℕ) → HasKeys store i node kept old wanted keys → ((p : ℕ) → slice_index words p ≢ 0 → slice_index keys p ≢ 0) → count_of node.cap < filled_count words → first_full store.shape (old ++ wanted) ≡ Some (record { node = 1; cap = count_of node.cap })
keys_full store i node kept old wanted keys words h over past =
    let all : List Coord = old ++ wanted in
    let one_more : 1 + i ≡ suc i = omega arith in
    let more : count_of node.cap < length (reached_slots store.shape all (suc i)) = omega (arith, past, fewer_filled words keys over, keys_fit store i node kept old wanted keys h) in
    let needs : count_of node.cap < need_of store.shape all (1 + i) node =
    subst (λ n. count_of node.cap < need_of store.shape all n node) (sym one_more)
    (subst (λ k. count_of node.cap < need_by k store.shape all (suc i) (count_of node.chunk)) (sym h.hash) more) in
    full_some store.shape all 1 store.shape.nodes i node h.is.at
    (λ j before low at. open_fits store i old all h.laws h.is.well h.was_open j before low at) needs
    ∙ ap (λ n. Some (full_node n (count_of node.cap))) (one_more ∙ sym h.is.next)
  where
    full_node : ℕ → ℕ → FullNode
    full_node n m = record { node = n; cap = m }
