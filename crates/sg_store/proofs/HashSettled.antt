-- Keys and links of the hash node, given from outside.
use Rattle.std.proofs.Common.{◌≡◌, ◌≢◌, ℕ, suc, ◌+◌, ◌*◌, ◌-◌, ◌<◌, ◌≤◌, Bool, true, false, List, length, refl, sym, ap, ◌∙◌, subst, arith, inl, inr, ◌⊎◌}
use Rattle.std.specs.Prelude.{Option, Some, None, is_some, slice_index, slice_get}
use Rattle.std.proofs.lemmas.Bool.{cases_eq, false≢true}
use Rattle.std.proofs.lemmas.List.{get_or_default}
use Rattle.std.proofs.lemmas.Option.{none-some, same_Some}
use Rattle.sg_coord.specs.declared.coord.Coord.{Coord}
use Rattle.sg_hash.specs.Tables.{IsTable, AreBeside, beside}
use Rattle.sg_layout.specs.declared.shape.Kind.TheVariants.{Hash}
use Rattle.sg_layout.specs.declared.shape.NodeShape.{NodeShape}
use Rattle.sg_layout.specs.Axes.{count_of}
use Rattle.sg_layout.specs.NeedLaws as layouts
use Rattle.sg_layout.specs.PathLaws.{PathIsSlot}
use Rattle.sg_layout.specs.RuleLaws.{AcceptedKeepsRules}
use Rattle.sg_layout.specs.StorageWords.{power_for}
use Rattle.sg_pool.specs.Numbers.{live_count, CanSettle}
use Rattle.sg_store.specs.declared.node.NodeWords.{NodeWords}
use Rattle.sg_store.specs.StoreWords.{StoreWords}
use Rattle.sg_store.specs.Slots.{links_by_slot, is_set}
use Rattle.sg_store.specs.WellFormed.{IsNode, IsHashNode}
use Rattle.sg_store.specs.Changes.{IsRekeyed, ChangesNode}
use Rattle.sg_store.specs.Reaching.{KeepsCells}
use Rattle.sg_store.specs.Opening.{link_words_of, keys_of, CanSettleHash, FitsCap, WantedHaveKeys, NewKeysAreWanted, OpensNode}
use Rattle.sg_store.specs.steps.AtNode.{AtNodeOf}
use Rattle.sg_store.specs.steps.Settling.{NodeGrows}
use Rattle.sg_store.specs.steps.Keying.{CanSettleKeys}
use Rattle.sg_store.proofs.BySlots.{links_many}
use Rattle.sg_store.proofs.KeyPlaces.{some_word, key_here, key_of_link, key_place, key_some, slot_some, slot_beside, slots_contain, link_of_slot}
use Rattle.sg_store.proofs.HashLevel.{keys_grow_at, beside_after, hash_capped}
use Rattle.sg_store.proofs.TablePlaces.{table_large}
use Rattle.sg_store.proofs.Opened.{keeps_cells}
use Rattle.sg_store.proofs.AtNumber.{IsAt, back_to, keys_are, links_are, pool_is, says_with, fact_at, EachInLive, each_in_live}
use Rattle.sg_store.proofs.OpenedBy.{opened_by}

-- ── A table that has grown ──

-- a table and one beside it, with all keys and links at their places
pub record HasGrown (before before_links keys links : List ℕ) : Type 0 where
  pub was_table : IsTable before
  pub was_beside : AreBeside before before_links
  pub table : IsTable keys
  pub links_beside : AreBeside keys links
  pub keys_stay : (p : ℕ) → slice_index before p ≢ 0 → slice_index keys p ≡ slice_index before p
  pub links_stay : (p : ℕ) → slice_index before_links p ≢ 0 → slice_index links p ≡ slice_index before_links p

-- a key at a place stood there, or the place was empty
was_or_new : (before before_links keys links : List ℕ) → HasGrown before before_links keys links → (p key : ℕ) → slice_index keys p ≡ suc key → (slice_index before p ≡ suc key) ⊎ (slice_index before p ≡ 0)
was_or_new before before_links keys links g p key at = elim (cases_eq (slice_index before p) 0) [
  | inl none ↦ inr none
  | inr held ↦ inl (sym (g.keys_stay p held) ∙ at)
]

slot_keeps : (before before_links keys links : List ℕ) → HasGrown before before_links keys links → (q n : ℕ) → beside before before_links q ≡ Some n → beside keys links q ≡ Some n
slot_keeps before before_links keys links g q n e =
    let place = key_place before before_links q n g.was_beside e in
    let p : ℕ = place.0 in
    let key : slice_index keys p ≡ suc q = g.keys_stay p (λ none. cc place.1) ∙ place.1 in
    let link : slice_index links p ≡ suc n = g.links_stay p (λ none. cc place.2) ∙ place.2 in
    let number : slice_index links p - 1 ≡ n = omega (arith, link) in
    key_here keys links p q g.table g.links_beside key ∙ ap Some number

-- the place of a key that is new
pub record IsNew (before before_links keys links : List ℕ) (q n : ℕ) : Type 0 where
  pub place : ℕ
  pub no_key : slice_index before place ≡ 0
  pub no_link : slice_index before_links place ≡ 0
  pub key : slice_index keys place ≡ suc q
  pub link : slice_index links place ≡ suc n

new_key : (before before_links keys links : List ℕ) → HasGrown before before_links keys links → (q n : ℕ) → beside before before_links q ≡ None → beside keys links q ≡ Some n → IsNew before before_links keys links q n
new_key before before_links keys links g q n none e =
    let place = key_place keys links q n g.links_beside e in
    let p : ℕ = place.0 in
    let empty : slice_index before p ≡ 0 = elim (was_or_new before before_links keys links g p q place.1) [
      | inl was ↦ absurd (none-some _ (sym none ∙ key_here before before_links p q g.was_table g.was_beside was))
      | inr new ↦ new
    ] in
    record {
      place = p;
      no_key = empty;
      no_link = elim (cases_eq (slice_index before_links p) 0) [
        | inl no_link ↦ no_link
        | inr held ↦ let key = key_of_link before before_links p g.was_beside held in absurd (let both : 0 ≡ suc key.0 = sym empty ∙ key.1 in omega (arith, both))
      ];
      key = place.1;
      link = place.2;
    }

-- nothing stood beside a slot without a link
no_key : (keys links : List ℕ) (slots q : ℕ) → q < slots → slice_index (links_by_slot keys links slots) q ≡ 0 → beside keys links q ≡ None
no_key keys links slots q below none = split (beside keys links q) refl
  where
    split : (o : Option ℕ) → beside keys links q ≡ o → beside keys links q ≡ None
    split None e = e
    split (Some n) e = let word = slot_some keys links slots q n below e in absurd (let both : 0 ≡ suc n = sym none ∙ word in omega (arith, both))

-- ── The node that is given them ──

-- a key that is new
abbrev pub GetsKey : List ℕ → List ℕ → ℕ → Type 0
GetsKey before keys key = (p : ℕ) × (slice_index before p ≡ 0) × (slice_index keys p ≡ suc key)

grown_of : (store : StoreWords) (i : ℕ) (node : NodeShape) (kept : NodeWords) (keys links taken : List ℕ) (slots : ℕ) (live : ℕ → Bool) → IsAt store 1 i node kept → CanSettleHash store keys links taken → IsHashNode node kept slots live → HasGrown kept.keys kept.links keys links
grown_of store i node kept keys links taken slots live is can own =
    let key : (p : ℕ) → slice_index (keys_of store 1) p ≡ slice_index kept.keys p = λ p. ap (λ l. slice_index l p) (keys_are store 1 i node kept is) in
    let link : (p : ℕ) → slice_index (link_words_of store 1) p ≡ slice_index kept.links p = λ p. ap (λ l. slice_index l p) (links_are store 1 i node kept is) in
    record {
      was_table = own.table;
      was_beside = own.links_beside;
      table = can.table;
      links_beside = can.links_beside;
      keys_stay = λ p some. can.keys_stay p (λ none. some (sym (key p) ∙ none)) ∙ key p;
      links_stay = λ p some. can.links_stay p (λ none. some (sym (link p) ∙ none)) ∙ link p;
    }

within_slots : (node : NodeShape) (kept : NodeWords) (keys links : List ℕ) (slots : ℕ) (live : ℕ → Bool) → IsHashNode node kept slots live → HasGrown kept.keys kept.links keys links → EachInLive (GetsKey kept.keys keys) node kept slots live → (key : ℕ) → is_some (beside keys links key) ≡ true → key < slots
within_slots node kept keys links slots live own g all key some =
    let place = key_some keys links key g.links_beside some in
    elim (was_or_new kept.keys kept.links keys links g place.0 key place.1) [
      | inl was ↦ own.keys_are_slots key (ap is_some (key_here kept.keys kept.links place.0 key g.was_table g.was_beside was))
      | inr new ↦ (all key (place.0, new, place.1)).within
    ]

pub can_settle : (store : StoreWords) (i : ℕ) (node : NodeShape) (kept : NodeWords) (keys links taken : List ℕ) → IsAt store 1 i node kept → node.kind ≡ Hash → CanSettleHash store keys links taken → FitsCap store 1 taken → AtNodeOf (CanSettleKeys keys links taken) store i
can_settle store i node kept keys links taken is kind can fits =
    let key : (p : ℕ) → slice_index (keys_of store 1) p ≡ slice_index kept.keys p = λ p. ap (λ l. slice_index l p) (keys_are store 1 i node kept is) in
    let link : (p : ℕ) → slice_index (link_words_of store 1) p ≡ slice_index kept.links p = λ p. ap (λ l. slice_index l p) (links_are store 1 i node kept is) in
    let pool = pool_is store 1 i node kept is in
    let fit : live_count kept.pool + length taken ≤ count_of node.cap =
    subst (λ p. live_count p + length taken ≤ count_of node.cap) pool
    (fits node (record { first = omega arith; there = ap (slice_get store.shape.nodes) (back_to 1 i is.next) ∙ is.at })) in
    says_with (EachInLive (GetsKey kept.keys keys)) (CanSettleKeys keys links taken) store 1 i node kept is
    (each_in_live (GetsKey kept.keys keys) store 1 i node kept is (λ dynamic. cc) (λ q gets. can.in_live gets.0 q (key gets.0 ∙ gets.1) gets.2))
    (λ slots live mine all.
    let own : IsHashNode node kept slots live = subst (λ k. IsNode k node kept slots live) kind mine in
    let g = grown_of store i node kept keys links taken slots live is can own in
    let within = within_slots node kept keys links slots live own g all in
    record {
      is_hash = kind;
      keyed = record { long = can.key_count ∙ ap length (keys_are store 1 i node kept is); table = can.table; links_beside = can.links_beside; are_slots = within };
      can = record {
        can = record {
          is_pointer = refl;
          as_many = links_many keys links slots;
          stays = λ q some.
              let word = some_word (slice_index (links_by_slot kept.keys kept.links slots) q) some in
              let held = slot_beside kept.keys kept.links slots q word.0 word.1 in
              slot_some keys links slots q word.0 held.0 (slot_keeps kept.keys kept.links keys links g q word.0 held.1) ∙ sym word.1;
          of_taken = λ q n none e.
              let held = slot_beside keys links slots q n e in
              let new = new_key kept.keys kept.links keys links g q n (no_key kept.keys kept.links slots q held.0 none) held.1 in
              can.of_taken new.place n (link new.place ∙ new.no_link) new.link;
          in_live = λ q none some.
              let word = some_word (slice_index (links_by_slot keys links slots) q) some in
              let held = slot_beside keys links slots q word.0 word.1 in
              let new = new_key kept.keys kept.links keys links g q word.0 (no_key kept.keys kept.links slots q held.0 none) held.1 in
              (all q (new.place, new.no_key, new.key)).is_live;
          all_taken = λ n has. slots_contain keys links slots n can.table can.links_beside within (can.all_taken n has);
          once = λ x y n has a b.
              let left = link_of_slot keys links slots x n can.links_beside a in
              let right = link_of_slot keys links slots y n can.links_beside b in
              let same : left.0 ≡ right.0 = can.once left.0 right.0 n has left.2 right.2 in
              let keyed : suc x ≡ suc y = sym left.1 ∙ ap (slice_index keys) same ∙ right.1 in
              omega (arith, keyed);
          free = subst (λ p. CanSettle p taken) pool can.free;
        };
        within_cap = fit;
      };
    })

pub hash_grows : (store now : StoreWords) (i : ℕ) (node : NodeShape) (kept : NodeWords) (keys links taken : List ℕ) → IsAt store 1 i node kept → node.kind ≡ Hash → CanSettleHash store keys links taken → FitsCap store 1 taken → (changed : ChangesNode (IsRekeyed keys links taken) store now i) → AtNodeOf (NodeGrows changed.after) store i
hash_grows store now i node kept keys links taken is kind can fits changed =
    keys_grow_at store i keys links taken changed.kept changed.after is.well (can_settle store i node kept keys links taken is kind can fits) changed.was changed.change

pub hash_keeps : (store now : StoreWords) (i : ℕ) (node : NodeShape) (kept : NodeWords) (keys links taken : List ℕ) → IsAt store 1 i node kept → node.kind ≡ Hash → CanSettleHash store keys links taken → FitsCap store 1 taken → ChangesNode (IsRekeyed keys links taken) store now i → KeepsCells store now
hash_keeps store now i node kept keys links taken is kind can fits changed =
    subst (λ s. KeepsCells store s) (sym changed.now_is)
    (keeps_cells store i changed.after (hash_grows store now i node kept keys links taken is kind can fits changed))

some_of : (o : Option ℕ) → is_some o ≡ true → (n : ℕ) × (o ≡ Some n)
some_of None some = absurd (false≢true some)
some_of (Some n) some = (n, refl)

none_of : (o : Option ℕ) → is_some o ≡ false → o ≡ None
none_of None none = refl
none_of (Some n) none = absurd (false≢true (sym none))

pub hash_opens : (store now : StoreWords) (i : ℕ) (node : NodeShape) (kept : NodeWords) (keys links taken : List ℕ) (wanted : List Coord) (slots : ℕ) (live : ℕ → Bool) → IsHashNode node kept slots live → IsAt store 1 i node kept → PathIsSlot store.shape → node.kind ≡ Hash → CanSettleHash store keys links taken → FitsCap store 1 taken → ChangesNode (IsRekeyed keys links taken) store now i → WantedHaveKeys store keys wanted → NewKeysAreWanted store keys wanted → OpensNode store now 1 wanted
hash_opens store now i node kept keys links taken wanted slots live own is paths kind can fits changed have new =
    let after : NodeWords = changed.after in
    let key : (p : ℕ) → slice_index (keys_of store 1) p ≡ slice_index kept.keys p = λ p. ap (λ l. slice_index l p) (keys_are store 1 i node kept is) in
    let g = grown_of store i node kept keys links taken slots live is can own in
    let was : (q : ℕ) → is_set node.kind node kept q ≡ is_some (beside kept.keys kept.links q) = λ q. ap (λ k. is_set k node kept q) kind in
    let set : (q : ℕ) → is_set node.kind node after q ≡ is_some (beside keys links q) = λ q.
    ap (λ k. is_set k node after q) kind ∙ ap is_some (beside_after keys links taken changed.kept after changed.change q) in
    subst (λ s. OpensNode store s 1 wanted) (sym changed.now_is)
    (opened_by store 1 i node kept after wanted is paths (λ dynamic. cc) (hash_grows store now i node kept keys links taken is kind can fits changed)
    (λ q off on.
    let held = some_of (beside keys links q) (sym (set q) ∙ on) in
    let fresh = new_key kept.keys kept.links keys links g q held.0 (none_of (beside kept.keys kept.links q) (sym (was q) ∙ off)) held.1 in
    new fresh.place q (key fresh.place ∙ fresh.no_key) fresh.key)
    (λ at wants q e.
    let has = have at wants q e in
    let there : slice_index keys has.0 ≡ suc q = get_or_default keys has.0 0 (suc q) has.1 ∙ has.2 in
    set q ∙ ap is_some (key_here keys links has.0 q can.table can.links_beside there)))

-- ── Its words, as they are read ──

pub hash_fact : (Fact : Type 0) (store : StoreWords) (i : ℕ) (node : NodeShape) (kept : NodeWords) → IsAt store 1 i node kept → node.kind ≡ Hash → ((slots : ℕ) (live : ℕ → Bool) → IsHashNode node kept slots live → Fact) → Fact
hash_fact Fact store i node kept is kind follows =
    fact_at Fact store 1 i node kept is (λ slots live own. follows slots live (subst (λ k. IsNode k node kept slots live) kind own))

pub keys_table : (store : StoreWords) (i : ℕ) (node : NodeShape) (kept : NodeWords) → IsAt store 1 i node kept → node.kind ≡ Hash → IsTable (keys_of store 1)
keys_table store i node kept is kind =
    subst IsTable (sym (keys_are store 1 i node kept is)) (hash_fact (IsTable kept.keys) store i node kept is kind (λ slots live own. own.table))

pub keys_beside : (store : StoreWords) (i : ℕ) (node : NodeShape) (kept : NodeWords) → IsAt store 1 i node kept → node.kind ≡ Hash → AreBeside (keys_of store 1) (link_words_of store 1)
keys_beside store i node kept is kind =
    subst (λ ks. AreBeside ks (link_words_of store 1)) (sym (keys_are store 1 i node kept is))
    (subst (λ ls. AreBeside kept.keys ls) (sym (links_are store 1 i node kept is))
    (hash_fact (AreBeside kept.keys kept.links) store i node kept is kind (λ slots live own. own.links_beside)))

pub keys_more : (store : StoreWords) (i : ℕ) (node : NodeShape) (kept : NodeWords) → IsAt store 1 i node kept → AcceptedKeepsRules store.shape → node.kind ≡ Hash → (shape : NodeShape) → layouts.IsNumberedNode store.shape 1 shape → count_of shape.cap < length (keys_of store 1)
keys_more store i node kept is rules kind shape here =
    let back : 1 - 1 ≡ i = back_to 1 i is.next in
    let same : node ≡ shape = same_Some node shape (sym is.at ∙ ap (slice_get store.shape.nodes) (sym back) ∙ here.there) in
    let capped = hash_capped store i node rules is.well is.at kind in
    let long : length (keys_of store 1) ≡ power_for (2 * count_of node.cap) =
    ap length (keys_are store 1 i node kept is) ∙ hash_fact (length kept.keys ≡ power_for (2 * count_of node.cap)) store i node kept is kind (λ slots live own. own.key_count) in
    omega (arith, table_large (count_of node.cap) capped.0 capped.1, long, ap (λ (n : NodeShape). count_of n.cap) same)
