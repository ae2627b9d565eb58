-- Keys that are put into a table, one after the other: what the links by slots become, and that there is room.
use Rattle.std.proofs.Common.{◌≡◌, ◌≢◌, ℕ, zero, suc, ◌+◌, ◌-◌, ◌<◌, ◌≤◌, Bool, true, false, List, ◌∷◌, ◌++◌, ◌⊎◌, length, take, map, get_or, refl, sym, ap, ◌∙◌, arith, inl, inr}
use Rattle.std.specs.Prelude.{Option, Some, None, is_some, if◌then◌else◌, slice_index, slice_set, ◌==◌}
use Rattle.std.specs.List.{range_with_len, Contains, All, AllPairs}
use Rattle.std.proofs.lemmas.Bool.{false≢true, cases_eq}
use Rattle.std.proofs.lemmas.Bool.Decides.{eqb_tells}
use Rattle.std.proofs.lemmas.List.{get_or_default, length-append, length-take-le}
use Rattle.std.proofs.lemmas.List.FromFn.{length-range_with_len, get_or-range_with_len}
use Rattle.std.proofs.lemmas.List.Elements.{Contains-append_left, Contains-append_right}
use Rattle.sg_hash.specs.Tables.{IsTable, AreBeside, beside, IsFull}
use Rattle.sg_hash.proofs.Uses.{stands_once, beside_at}
use Rattle.sg_pool.specs.Numbers.{place_count, live_count, CanSettle}
use Rattle.sg_pool.proofs.Uses.{fewer, live_numbers, in_live_numbers, length-live_numbers}
use Rattle.sg_store.specs.declared.node.NodeWords.{NodeWords}
use Rattle.sg_store.specs.declared.hash.KeyPlan.{KeyPlan}
use Rattle.sg_store.specs.Slots.{link_word, links_by_slot}
use Rattle.sg_store.specs.steps.Filling.{IsFill}
use Rattle.sg_store.specs.WellFormed.{by_slots}
use Rattle.sg_store.specs.steps.Keying.{IsKeyed, HasPlaces, CanAddKey, AddsKey, CanFillKeys, FilledKeys, CanPlanKeys, IsKeyPlan}
use Rattle.sg_store.proofs.Filled.{filled_more, filled_same, stock_fresh, number_there, enough_of}
use Rattle.sg_store.proofs.Walking.{index_contains}
use Rattle.sg_store.proofs.BySlots.{links_many, slot_link}

-- ── One key more ──

same_map : (f g : ℕ → ℕ) (a n : ℕ) → ((q : ℕ) → a ≤ q → f q ≡ g q) → map f (range_with_len a n) ≡ map g (range_with_len a n)
same_map f g a zero same = refl
same_map f g a (suc n) same =
    ap (λ (x : ℕ). x ∷ map f (range_with_len (a + 1) n)) (same a (omega arith))
    ∙ ap (λ (rest : List ℕ). g a ∷ rest) (same_map f g (a + 1) n (λ q far. same q (omega (arith, far))))

set_map : (f g : ℕ → ℕ) (a n s v : ℕ) → s < n → f (a + s) ≡ v → ((q : ℕ) → q ≢ a + s → f q ≡ g q) → map f (range_with_len a n) ≡ slice_set (map g (range_with_len a n)) s v
set_map f g a zero s v below here other = absurd (omega (arith, below))
set_map f g a (suc n) zero v below here other =
    let first : a ≡ a + 0 = omega arith in
    ap (λ (x : ℕ). x ∷ map f (range_with_len (a + 1) n)) (ap f first ∙ here)
    ∙ ap (λ (rest : List ℕ). v ∷ rest) (same_map f g (a + 1) n (λ q far. other q (λ e. absurd (omega (arith, e, far)))))
set_map f g a (suc n) (suc s) v below here other =
    let next : a + 1 + s ≡ a + suc s = omega arith in
    ap (λ (x : ℕ). x ∷ map f (range_with_len (a + 1) n)) (other a (λ e. absurd (omega (arith, e))))
    ∙ ap (λ (rest : List ℕ). g a ∷ rest) (set_map f g (a + 1) n s v (omega (arith, below)) (ap f next ∙ here) (λ q apart. other q (λ e. apart (e ∙ sym next))))

pub put_links : (keys links new_keys new_links : List ℕ) (key number count : ℕ) → key < count → ((k : ℕ) → beside new_keys new_links k ≡ (if k == key then Some number else beside keys links k)) → links_by_slot new_keys new_links count ≡ slice_set (links_by_slot keys links count) key (number + 1)
put_links keys links new_keys new_links key number count below put =
    set_map (λ slot. link_word (beside new_keys new_links slot)) (λ slot. link_word (beside keys links slot)) 0 count key (number + 1) below here other
  where
    one : (n : ℕ) → suc n ≡ n + 1
    one n = omega arith

    zeroth : 0 + key ≡ key
    zeroth = omega arith

    here : link_word (beside new_keys new_links (0 + key)) ≡ number + 1
    here = elim (eqb_tells (0 + key) key) [
      | inl same ↦ ap link_word (put (0 + key) ∙ ap (λ b. if b then Some number else beside keys links (0 + key)) same.0) ∙ one number
      | inr apart ↦ absurd (apart.1 zeroth)
    ]

    other : (q : ℕ) → q ≢ 0 + key → link_word (beside new_keys new_links q) ≡ link_word (beside keys links q)
    other q away = elim (eqb_tells q key) [
      | inl same ↦ absurd (away (same.1 ∙ sym zeroth))
      | inr apart ↦ ap link_word (put q ∙ ap (λ b. if b then Some number else beside keys links q) apart.0)
    ]

pub put_slots : (keys links new_keys new_links : List ℕ) (key number count : ℕ) → key < count → ((k : ℕ) → is_some (beside keys links k) ≡ true → k < count) → ((k : ℕ) → beside new_keys new_links k ≡ (if k == key then Some number else beside keys links k)) → (k : ℕ) → is_some (beside new_keys new_links k) ≡ true → k < count
put_slots keys links new_keys new_links key number count below are put k some = elim (eqb_tells k key) [
  | inl same ↦ omega (arith, same.1, below)
  | inr apart ↦ are k (ap is_some (sym (ap (λ b. if b then Some number else beside keys links k) apart.0) ∙ sym (put k)) ∙ some)
]

-- the word of a slot tells whether it is a key
pub word_none : (keys links : List ℕ) (key count : ℕ) → key < count → beside keys links key ≡ None → slice_index (links_by_slot keys links count) key ≡ 0
word_none keys links key count below none = slot_link keys links count key below ∙ ap link_word none

pub word_some : (keys links : List ℕ) (key count : ℕ) → key < count → is_some (beside keys links key) ≡ true → slice_index (links_by_slot keys links count) key ≢ 0
word_some keys links key count below some none = apart (beside keys links key) some (sym (slot_link keys links count key below) ∙ none)
  where
    apart : (o : Option ℕ) → is_some o ≡ true → link_word o ≡ 0 → ⊥
    apart None some none = false≢true some
    apart (Some n) some none = cc none

-- ── A place is empty ──

range_once : (n : ℕ) → AllPairs (λ x y. x ≢ y) (range_with_len 0 n)
range_once n i j d before below same =
    let many : length (range_with_len 0 n) ≡ n = length-range_with_len 0 n in
    let here : get_or (range_with_len 0 n) i d ≡ 0 + i = get_or-range_with_len 0 n i d (omega (arith, before, below, many)) in
    let there : get_or (range_with_len 0 n) j d ≡ 0 + j = get_or-range_with_len 0 n j d (omega (arith, below, many)) in
    absurd (omega (arith, before, here, there, same))

in_range : (n p : ℕ) → Contains (range_with_len 0 n) p → p < n
in_range n p has =
    let many : length (range_with_len 0 n) ≡ n = length-range_with_len 0 n in
    let below : has.0 < n = omega (arith, has.1, many) in
    let here : get_or (range_with_len 0 n) has.0 p ≡ 0 + has.0 = get_or-range_with_len 0 n has.0 p below in
    omega (arith, here, has.2, below)

-- a place has a key whose slot has a link with the number
abbrev PlaceHas : List ℕ → List ℕ → ℕ → ℕ → ℕ → Type 0
PlaceHas keys links count p number =
    (key : ℕ) × (slice_index keys p ≡ key + 1) × (slice_index (links_by_slot keys links count) key ≡ suc number)

word_is : (n : ℕ) → n ≢ 0 → (m : ℕ) × (n ≡ m + 1)
word_is zero some = absurd (some refl)
word_is (suc m) some = (m, omega arith)

-- if fewer numbers stand in the links than there are places, no key finds the table full
pub not_full : (keys links : List ℕ) (count key : ℕ) → IsKeyed keys links (length keys) count → HasPlaces keys links 0 count → IsFull keys key → ⊥
not_full keys links count key is has full =
    let few = fewer (PlaceHas keys links count) (range_with_len 0 (length keys)) has.numbers (range_once (length keys)) partner apart in
    absurd (omega (arith, few, has.fewer, length-range_with_len 0 (length keys)))
  where
    partner : (p : ℕ) → Contains (range_with_len 0 (length keys)) p → (n : ℕ) × Contains has.numbers n × PlaceHas keys links count p n
    partner p there =
        let below : p < length keys = in_range (length keys) p there in
        let word = word_is (slice_index keys p) (full p below).0 in
        let k : ℕ = word.0 in
        let found : beside keys links k ≡ Some (slice_index links p - 1) = beside_at keys links k p is.links_beside.many below word.1
        (λ q within holds. stands_once keys is.table k q p within below holds word.1) in
        let slot : k < count = is.are_slots k (ap is_some found) in
        let link : slice_index (links_by_slot keys links count) k ≡ suc (slice_index links p - 1) = slot_link keys links count k slot ∙ ap link_word found in
        (slice_index links p - 1, has.all (slice_index links p - 1) (index_contains (links_by_slot keys links count) k (slice_index links p - 1) link), (k, word.1, link))

    apart : (p q n : ℕ) → Contains (range_with_len 0 (length keys)) p → Contains (range_with_len 0 (length keys)) q → PlaceHas keys links count p n → PlaceHas keys links count q n → p ≡ q
    apart p q n one two left right =
        let same : left.0 ≡ right.0 = has.apart left.0 right.0 (λ none. cc (left.2, none)) (left.2 ∙ sym right.2) in
        let mine : slice_index keys q ≡ left.0 + 1 = right.1 ∙ ap (λ (k : ℕ). k + 1) (sym same) in
        stands_once keys is.table left.0 p q (in_range (length keys) p one) (in_range (length keys) q two) left.1 mine

-- ── Slots are filled ──

-- while numbers of a stock are put, there are places for one more
pub fill_places : (old_keys old_links keys links stock slots : List ℕ) (room taken count : ℕ) → HasPlaces old_keys old_links room count → length keys ≡ length old_keys → taken ≤ room → taken ≤ length stock → IsFill (links_by_slot old_keys old_links count) (links_by_slot keys links count) (take taken stock) slots → HasPlaces keys links 0 count
fill_places old_keys old_links keys links stock slots room taken count has long few there fill =
    let before : List ℕ = links_by_slot old_keys old_links count in
    let after : List ℕ = links_by_slot keys links count in
    let put : List ℕ = take taken stock in
    record {
      numbers = has.numbers ++ put;
      all = λ n found.
          let at : slice_index after found.0 ≡ suc n = get_or_default after found.0 0 (suc n) found.1 ∙ found.2 in
          elim (cases_eq (slice_index before found.0) 0) [
            | inl none ↦ Contains-append_right has.numbers put n (fill.of_taken found.0 n none at)
            | inr was ↦ Contains-append_left has.numbers put n (has.all n (index_contains before found.0 n (sym (fill.stays found.0 was) ∙ at)))
          ];
      fewer = omega (arith, has.fewer, few, long, length-append has.numbers put, length-take-le taken stock there);
      apart = λ x y some same.
          let n = word_is (slice_index after x) some in
          let one : n.0 + 1 ≡ suc n.0 = omega arith in
          let left : slice_index after x ≡ suc n.0 = n.1 ∙ one in
          let right : slice_index after y ≡ suc n.0 = sym same ∙ left in
          elim (cases_eq (slice_index before x) 0) [
            | inl none ↦ fill.once x y n.0 (fill.of_taken x n.0 none left) left right
            | inr was ↦ elim (cases_eq (slice_index before y) 0) [
              | inl none ↦ fill.once x y n.0 (fill.of_taken y n.0 none right) left right
              | inr too ↦ has.apart x y was (sym (fill.stays x was) ∙ same ∙ fill.stays y too)
            ]
          ];
    }

-- the slots of a list are within the links
pub within_links : (keys links slots : List ℕ) (count : ℕ) → All (λ slot. slot < count) slots → All (λ slot. slot < length (links_by_slot keys links count)) slots
within_links keys links slots count within k d below = omega (arith, within k d below, links_many keys links count)

-- ── What the code's calls come to ──

-- a slot that is a key already
pub key_there : (keys links : List ℕ) (slot number count : ℕ) → CanAddKey keys links slot count → is_some (beside keys links slot) ≡ true → AddsKey keys links keys links slot number false count
key_there keys links slot number count can some = record {
  keyed = can.keyed;
  is_new = λ e. absurd (false≢true e);
  was_there = λ e. (word_some keys links slot count can.within some, refl);
}

pub none_of : (o : Option ℕ) → is_some o ≡ false → o ≡ None
none_of None none = refl
none_of (Some n) none = absurd (false≢true (sym none))

-- one that is put
pub key_put : (keys links new_keys new_links : List ℕ) (slot number count : ℕ) (added : Bool) → CanAddKey keys links slot count → beside keys links slot ≡ None → length new_keys ≡ length keys → (added ≡ false → IsFull keys slot) → IsTable new_keys → AreBeside new_keys new_links → (added ≡ true → (k : ℕ) → beside new_keys new_links k ≡ (if k == slot then Some number else beside keys links k)) → AddsKey keys links new_keys new_links slot number added count
key_put keys links new_keys new_links slot number count false can none long full table besides put =
    absurd (not_full keys links count slot can.keyed can.has_places (full refl))
key_put keys links new_keys new_links slot number count true can none long full table besides put = record {
  keyed = record {
    long = long;
    table = table;
    links_beside = besides;
    are_slots = put_slots keys links new_keys new_links slot number count can.within can.keyed.are_slots (put refl);
  };
  is_new = λ e. (word_none keys links slot count can.within none, put_links keys links new_keys new_links slot number count can.within (put refl));
  was_there = λ e. absurd (false≢true (sym e));
}

-- the next slot of a list can be put
pub can_add : (old_keys old_links keys links stock slots : List ℕ) (room taken count i d : ℕ) → CanFillKeys old_keys old_links stock room slots count → IsKeyed keys links (length old_keys) count → IsFill (links_by_slot old_keys old_links count) (links_by_slot keys links count) (take taken stock) (take i slots) → taken ≤ room → taken ≤ i → i < length slots → CanAddKey keys links (get_or slots i d) count
can_add old_keys old_links keys links stock slots room taken count i d can keyed fill few low below = record {
  keyed = record { long = refl; table = keyed.table; links_beside = keyed.links_beside; are_slots = keyed.are_slots };
  few = can.few;
  within = can.within i d below;
  has_places = fill_places old_keys old_links keys links stock (take i slots) room taken count can.has_places keyed.long few (omega (arith, number_there stock slots room taken i can.enough below low few)) fill;
}

-- after it was, and where it was there already
pub keyed_on : (old_keys old_links keys links new_keys new_links : List ℕ) (slot number count : ℕ) (added : Bool) → IsKeyed keys links (length old_keys) count → AddsKey keys links new_keys new_links slot number added count → IsKeyed new_keys new_links (length old_keys) count
keyed_on old_keys old_links keys links new_keys new_links slot number count added keyed adds = record {
  long = adds.keyed.long ∙ keyed.long;
  table = adds.keyed.table;
  links_beside = adds.keyed.links_beside;
  are_slots = adds.keyed.are_slots;
}

pub turn_more : (old_keys old_links keys links new_keys new_links stock slots : List ℕ) (room taken count i d e : ℕ) → CanFillKeys old_keys old_links stock room slots count → IsFill (links_by_slot old_keys old_links count) (links_by_slot keys links count) (take taken stock) (take i slots) → taken ≤ room → taken ≤ i → i < length slots → AddsKey keys links new_keys new_links (get_or slots i d) (get_or stock taken e) true count → IsFill (links_by_slot old_keys old_links count) (links_by_slot new_keys new_links count) (take (taken + 1) stock) (take (i + 1) slots)
turn_more old_keys old_links keys links new_keys new_links stock slots room taken count i d e can fill few low below adds =
    let added = adds.is_new refl in
    filled_more (links_by_slot old_keys old_links count) (links_by_slot keys links count) (links_by_slot new_keys new_links count) stock slots taken i d e
    can.fresh (number_there stock slots room taken i can.enough below low few) (within_links old_keys old_links slots count can.within) below added.0 added.1 fill

pub turn_same : (old_keys old_links keys links new_keys new_links stock slots : List ℕ) (taken count i d number : ℕ) → IsFill (links_by_slot old_keys old_links count) (links_by_slot keys links count) (take taken stock) (take i slots) → i < length slots → AddsKey keys links new_keys new_links (get_or slots i d) number false count → IsFill (links_by_slot old_keys old_links count) (links_by_slot new_keys new_links count) (take taken stock) (take (i + 1) slots)
turn_same old_keys old_links keys links new_keys new_links stock slots taken count i d number fill below adds =
    let was = adds.was_there refl in
    filled_same (links_by_slot old_keys old_links count) (links_by_slot keys links count) (links_by_slot new_keys new_links count) (take taken stock) slots i d below was.0 was.1 fill

-- a node's own table can be filled from its stock
pub can_fill : (kept : NodeWords) (cap room count : ℕ) (slots stock : List ℕ) → CanPlanKeys kept cap slots count → CanSettle kept.pool stock → (length slots ≤ length stock) ⊎ (length stock + live_count kept.pool ≡ place_count kept.pool) → room + live_count kept.pool ≡ cap → CanFillKeys kept.keys kept.links stock room slots count
can_fill kept cap room count slots stock plan is rest spare = record {
  keyed = plan.keyed;
  few = plan.few;
  enough = enough_of kept stock slots stock cap room rest plan.places spare refl;
  fresh = stock_fresh (by_slots kept count) stock (links_by_slot kept.keys kept.links count) stock is plan.linked refl refl;
  within = plan.within;
  has_places = record {
    numbers = live_numbers kept.pool;
    all = λ n has. in_live_numbers kept.pool n (plan.linked n has);
    fewer = omega (arith, length-live_numbers kept.pool, spare, plan.large);
    apart = plan.apart;
  };
}

pub plan_filled : (kept : NodeWords) (cap count : ℕ) (slots : List ℕ) (plan : KeyPlan) → CanSettle kept.pool plan.stock → plan.room + live_count kept.pool ≡ cap → FilledKeys kept.keys kept.links plan.keys plan.links plan.stock plan.room plan.taken slots count → IsKeyPlan kept cap slots count plan
plan_filled kept cap count slots plan free spare filled = record {
  keyed = filled.keyed;
  linked = record { room = spare; free = free; filled = filled.filled };
}
