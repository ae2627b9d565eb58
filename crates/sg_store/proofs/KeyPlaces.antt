-- Keys of a table by the places where they stand, with the links beside them and the links of their slots.
use Rattle.std.proofs.Common.{◌≡◌, ◌≢◌, ℕ, zero, suc, ◌+◌, ◌-◌, ◌<◌, true, List, [], ◌∷◌, length, refl, sym, ap, ◌∙◌, arith, inl, inr}
use Rattle.std.specs.Prelude.{Option, Some, None, is_some, slice_index, if◌then◌else◌}
use Rattle.std.specs.List.{Contains}
use Rattle.std.proofs.lemmas.Bool.{cases_eq, false≢true}
use Rattle.std.proofs.lemmas.Bool.Decides.{eqb_tells}
use Rattle.std.proofs.lemmas.List.{get_or_default}
use Rattle.std.proofs.lemmas.Option.{none-some, same_Some}
use Rattle.sg_hash.specs.Tables.{IsTable, AreBeside, beside}
use Rattle.sg_hash.proofs.Uses.{stands_once, beside_at}
use Rattle.sg_store.specs.Slots.{link_word, links_by_slot}
use Rattle.sg_store.proofs.Walking.{index_contains}
use Rattle.sg_store.proofs.Counting.{index_within}
use Rattle.sg_store.proofs.BySlots.{slot_link, links_many}

-- a word that isn't 0
pub some_word : (n : ℕ) → n ≢ 0 → (k : ℕ) × (n ≡ suc k)
some_word zero some = absurd (some refl)
some_word (suc k) some = (k, refl)

-- what stands beside a key that stands at a place
pub key_here : (keys links : List ℕ) (p key : ℕ) → IsTable keys → AreBeside keys links → slice_index keys p ≡ suc key → beside keys links key ≡ Some (slice_index links p - 1)
key_here keys links p key table are at =
    let one : suc key ≡ key + 1 = omega arith in
    let below : p < length keys = index_within keys p (λ none. cc) in
    beside_at keys links key p are.many below (at ∙ one)
    (λ q there held. stands_once keys table key q p there below held (at ∙ one))

-- a link other than 0 stands beside a key
pub link_here : (keys links : List ℕ) (p key : ℕ) → AreBeside keys links → slice_index keys p ≡ suc key → slice_index links p ≢ 0
link_here keys links p key are at none =
    let some : slice_index keys p ≢ 0 = λ empty. cc in
    let held = are.linked p (index_within keys p some) some in
    omega (arith, held.0, none)

pub key_of_link : (keys links : List ℕ) (p : ℕ) → AreBeside keys links → slice_index links p ≢ 0 → (key : ℕ) × (slice_index keys p ≡ suc key)
key_of_link keys links p are some = elim (cases_eq (slice_index keys p) 0) [
  | inl none ↦ absurd (some (are.empty p (omega (arith, index_within links p some, are.many)) none))
  | inr held ↦ some_word (slice_index keys p) held
]

-- if a key has something beside it, it stands at a place
found_place : (keys links : List ℕ) (key n : ℕ) → beside keys links key ≡ Some n → (p : ℕ) × (slice_index keys p ≡ suc key) × (n ≡ slice_index links p - 1)
found_place [] links key n e = absurd (none-some n e)
found_place (word ∷ keys) [] key n e = absurd (none-some n e)
found_place (word ∷ keys) (link ∷ links) key n e = elim (eqb_tells word (key + 1)) [
  | inl here ↦ (0, here.1 ∙ one, sym (same_Some _ n (sym (ap (λ b. if b then Some (link - 1) else beside keys links key) here.0) ∙ e)))
  | inr other ↦
      let rest = found_place keys links key n (sym (ap (λ b. if b then Some (link - 1) else beside keys links key) other.0) ∙ e) in
      (suc rest.0, rest.1, rest.2)
]
  where
    one : key + 1 ≡ suc key
    one = omega arith

pub key_place : (keys links : List ℕ) (key n : ℕ) → AreBeside keys links → beside keys links key ≡ Some n → (p : ℕ) × (slice_index keys p ≡ suc key) × (slice_index links p ≡ suc n)
key_place keys links key n are e =
    let found = found_place keys links key n e in
    let some : slice_index links found.0 ≢ 0 = link_here keys links found.0 key are found.1 in
    (found.0, found.1, omega (arith, found.2, some))

pub key_some : (keys links : List ℕ) (key : ℕ) → AreBeside keys links → is_some (beside keys links key) ≡ true → (p : ℕ) × (slice_index keys p ≡ suc key)
key_some keys links key are some = split (beside keys links key) refl some
  where
    split : (o : Option ℕ) → beside keys links key ≡ o → is_some o ≡ true → (p : ℕ) × (slice_index keys p ≡ suc key)
    split None e some = absurd (false≢true some)
    split (Some n) e some = let found = key_place keys links key n are e in (found.0, found.1)

-- ── Links by slots ──

pub slot_some : (keys links : List ℕ) (slots q n : ℕ) → q < slots → beside keys links q ≡ Some n → slice_index (links_by_slot keys links slots) q ≡ suc n
slot_some keys links slots q n below e = slot_link keys links slots q below ∙ ap link_word e

pub slot_beside : (keys links : List ℕ) (slots q n : ℕ) → slice_index (links_by_slot keys links slots) q ≡ suc n → (q < slots) × (beside keys links q ≡ Some n)
slot_beside keys links slots q n e =
    let below : q < slots = omega (arith, index_within (links_by_slot keys links slots) q (λ none. cc), links_many keys links slots) in
    (below, word_from (beside keys links q) (sym (slot_link keys links slots q below) ∙ e))
  where
    word_from : (o : Option ℕ) → link_word o ≡ suc n → o ≡ Some n
    word_from None e = absurd (cc)
    word_from (Some m) e = let same : m ≡ n = omega (arith, e) in ap Some same

-- the slot of the key beside a link has the same link
pub slot_of_link : (keys links : List ℕ) (slots p n : ℕ) → IsTable keys → AreBeside keys links → ((key : ℕ) → is_some (beside keys links key) ≡ true → key < slots) → slice_index links p ≡ suc n → (key : ℕ) × (slice_index keys p ≡ suc key) × (key < slots) × (slice_index (links_by_slot keys links slots) key ≡ suc n)
slot_of_link keys links slots p n table are within at =
    let key = key_of_link keys links p are (λ none. cc) in
    let held = key_here keys links p key.0 table are key.1 in
    let number : slice_index links p - 1 ≡ n = omega (arith, at) in
    let below : key.0 < slots = within key.0 (ap is_some held) in
    (key.0, key.1, below, slot_some keys links slots key.0 n below (held ∙ ap Some number))

-- and the place of the key of a slot's link has it
pub link_of_slot : (keys links : List ℕ) (slots q n : ℕ) → AreBeside keys links → slice_index (links_by_slot keys links slots) q ≡ suc n → (p : ℕ) × (slice_index keys p ≡ suc q) × (slice_index links p ≡ suc n)
link_of_slot keys links slots q n are e = key_place keys links q n are (slot_beside keys links slots q n e).1

pub links_contain : (keys links : List ℕ) (slots n : ℕ) → AreBeside keys links → Contains (links_by_slot keys links slots) (suc n) → Contains links (suc n)
links_contain keys links slots n are has =
    let at : slice_index (links_by_slot keys links slots) has.0 ≡ suc n = get_or_default (links_by_slot keys links slots) has.0 0 (suc n) has.1 ∙ has.2 in
    let place = link_of_slot keys links slots has.0 n are at in
    index_contains links place.0 n place.2

pub slots_contain : (keys links : List ℕ) (slots n : ℕ) → IsTable keys → AreBeside keys links → ((key : ℕ) → is_some (beside keys links key) ≡ true → key < slots) → Contains links (suc n) → Contains (links_by_slot keys links slots) (suc n)
slots_contain keys links slots n table are within has =
    let at : slice_index links has.0 ≡ suc n = get_or_default links has.0 0 (suc n) has.1 ∙ has.2 in
    let slot = slot_of_link keys links slots has.0 n table are within at in
    index_contains (links_by_slot keys links slots) slot.0 n slot.3

-- if no slot's link stands twice, no link does
pub links_once : (keys links : List ℕ) (slots : ℕ) → IsTable keys → AreBeside keys links → ((key : ℕ) → is_some (beside keys links key) ≡ true → key < slots) → ((x y : ℕ) → slice_index (links_by_slot keys links slots) x ≢ 0 → slice_index (links_by_slot keys links slots) x ≡ slice_index (links_by_slot keys links slots) y → x ≡ y) → (x y : ℕ) → slice_index links x ≢ 0 → slice_index links x ≡ slice_index links y → x ≡ y
links_once keys links slots table are within once x y some same =
    let word = some_word (slice_index links x) some in
    let left = slot_of_link keys links slots x word.0 table are within word.1 in
    let right = slot_of_link keys links slots y word.0 table are within (sym same ∙ word.1) in
    let key : left.0 ≡ right.0 = once left.0 right.0 (λ none. cc left.3) (left.3 ∙ sym right.3) in
    one_place keys table x y right.0 (left.1 ∙ ap suc key) right.1
  where
    one_place : (keys : List ℕ) → IsTable keys → (x y key : ℕ) → slice_index keys x ≡ suc key → slice_index keys y ≡ suc key → x ≡ y
    one_place keys table x y key first second =
        let one : suc key ≡ key + 1 = omega arith in
        stands_once keys table key x y (index_within keys x (λ none. cc)) (index_within keys y (λ none. cc)) (first ∙ one) (second ∙ one)
