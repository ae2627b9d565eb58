-- A hash node's table as it is planned, and the links of its old one.
use Rattle.std.proofs.Common.{◌≡◌, ◌≢◌, ◌⊎◌, ℕ, suc, ◌+◌, ◌-◌, ◌*◌, ◌<◌, ◌≤◌, ◌^◌, Bool, true, cond, List, length, get_or, Option, Some, None, is_some, refl, sym, ap, ◌∙◌, arith, inl, inr}
use Rattle.std.specs.Prelude.{IsTrue, slice_index}
use Rattle.std.proofs.lemmas.Bool.{cases_eq}
use Rattle.std.proofs.lemmas.List.{get_or_default}
use Rattle.sg_layout.specs.declared.shape.Kind.{Kind}
use Rattle.sg_layout.specs.declared.shape.Kind.TheVariants.{Hash}
use Rattle.sg_layout.specs.declared.shape.NodeShape.{NodeShape}
use Rattle.sg_layout.specs.Axes.{count_of}
use Rattle.sg_layout.specs.StorageWords.{power_for}
use Rattle.sg_hash.specs.Tables.{beside}
use Rattle.sg_hash.proofs.Uses.{stands_once}
use Rattle.sg_pool.specs.Numbers.{place_count, is_live_number, live_count}
use Rattle.sg_pool.proofs.Uses.{live_numbers, in_live_numbers, length-live_numbers}
use Rattle.sg_store.specs.declared.node.NodeWords.{NodeWords}
use Rattle.sg_store.specs.Slots.{linked, links_by_slot, active_below}
use Rattle.sg_store.specs.WellFormed.{IsHashNode}
use Rattle.sg_store.specs.steps.Trimming.{is_kept, stays_set}
use Rattle.sg_store.specs.steps.Cutting.{TrimsTable}
use Rattle.sg_store.specs.steps.Cuts.{HasLinks, IsLinkedOnce}
use Rattle.sg_store.specs.steps.KeptWords.{in_row, kept_link, AreKeptLinks}
use Rattle.sg_store.specs.steps.KeptTables.{keep_number, IsOldTable, IsKeptTable}
use Rattle.sg_store.proofs.Walking.{index_contains}
use Rattle.sg_store.proofs.KeyPlaces.{some_word, key_here, key_of_link, key_place, slot_some, slot_beside}
use Rattle.sg_store.proofs.PlansTrimmed.{links_are, cond_some, below_by_word, word_at}

-- ── The old table ──

-- a number that stands beside a key is live, and stands in the key's slot
slot_of_key : (node : NodeShape) (kept : NodeWords) (slots : ℕ) (live : ℕ → Bool) → IsHashNode node kept slots live → (key number : ℕ) → beside kept.keys kept.links key ≡ Some number → slice_index (links_by_slot kept.keys kept.links slots) key ≡ suc number
slot_of_key node kept slots live was key number is = slot_some kept.keys kept.links slots key number (was.keys_are_slots key (ap is_some is)) is

live_of_key : (node : NodeShape) (kept : NodeWords) (slots : ℕ) (live : ℕ → Bool) → IsHashNode node kept slots live → (key number : ℕ) → beside kept.keys kept.links key ≡ Some number → IsTrue (is_live_number kept.pool number)
live_of_key node kept slots live was key number is =
    (was.as_pointer.live_linked number).1 (index_contains (links_by_slot kept.keys kept.links slots) key number (slot_of_key node kept slots live was key number is))

key_of_live : (node : NodeShape) (kept : NodeWords) (slots : ℕ) (live : ℕ → Bool) → IsHashNode node kept slots live → (number : ℕ) → IsTrue (is_live_number kept.pool number) → (key : ℕ) × (beside kept.keys kept.links key ≡ Some number)
key_of_live node kept slots live was number on =
    let at = word_at (links_by_slot kept.keys kept.links slots) number ((was.as_pointer.live_linked number).0 on) in
    (at.0, (slot_beside kept.keys kept.links slots at.0 number at.1).1)

one_key : (node : NodeShape) (kept : NodeWords) (slots : ℕ) (live : ℕ → Bool) → IsHashNode node kept slots live → (x y number : ℕ) → beside kept.keys kept.links x ≡ Some number → beside kept.keys kept.links y ≡ Some number → x ≡ y
one_key node kept slots live was x y number at_x at_y =
    let here = slot_of_key node kept slots live was x number at_x in
    let there = slot_of_key node kept slots live was y number at_y in
    was.as_pointer.once x y (λ none. let h : suc number ≡ 0 = sym here ∙ none in omega (arith, h)) (here ∙ sym there)

pub old_table : (node : NodeShape) (kept : NodeWords) (slots : ℕ) (live : ℕ → Bool) → IsHashNode node kept slots live → live_count kept.pool ≤ count_of node.cap → count_of node.cap < power_for (2 * count_of node.cap) → IsOldTable kept.keys kept.links
old_table node kept slots live was few large = record {
  numbers = live_numbers kept.pool;
  table = was.table;
  links_beside = was.links_beside;
  small = λ p d below. small p d below (cases_eq (slice_index kept.keys p) 0);
  fewer = omega (arith, length-live_numbers kept.pool, few, large, was.key_count);
  all = λ key number is. in_live_numbers kept.pool number (live_of_key node kept slots live was key number is);
  apart = one_key node kept slots live was;
}
  where
    small : (p d : ℕ) → p < length kept.keys → (slice_index kept.keys p ≡ 0) ⊎ (slice_index kept.keys p ≢ 0) → get_or kept.keys p d ≤ 2 ^ 32
    small p d below (inl none) = omega (arith, none, get_or_default kept.keys p d 0 below)
    small p d below (inr some) =
        let key = some_word (slice_index kept.keys p) some in
        let slot : key.0 < slots = was.keys_are_slots key.0 (ap is_some (key_here kept.keys kept.links p key.0 was.table was.links_beside key.1)) in
        omega (arith, slot, was.few_slots, key.1, get_or_default kept.keys p d 0 below)

-- what stands beside the key at the place of a link
number_here : (node : NodeShape) (kept : NodeWords) (slots : ℕ) (live : ℕ → Bool) → IsHashNode node kept slots live → (p number : ℕ) → slice_index kept.links p ≡ suc number → (key : ℕ) × (slice_index kept.keys p ≡ suc key) × (beside kept.keys kept.links key ≡ Some number)
number_here node kept slots live was p number is =
    let key = key_of_link kept.keys kept.links p was.links_beside (λ none. let h : suc number ≡ 0 = sym is ∙ none in omega (arith, h)) in
    let same : slice_index kept.links p - 1 ≡ number = omega (arith, is) in
    (key.0, key.1, key_here kept.keys kept.links p key.0 was.table was.links_beside key.1 ∙ ap (λ n. Some n) same)

-- the links of the table are those of the live numbers, each once
pub table_linked : (node : NodeShape) (kept : NodeWords) (slots : ℕ) (live : ℕ → Bool) → IsHashNode node kept slots live → HasLinks kept.pool kept.links
table_linked node kept slots live was number = (
  λ on.
      let key = key_of_live node kept slots live was number on in
      let at = key_place kept.keys kept.links key.0 number was.links_beside key.1 in
      index_contains kept.links at.0 number at.2,
  λ has.
      let at = word_at kept.links number has in
      let key = number_here node kept slots live was at.0 number at.1 in
      live_of_key node kept slots live was key.0 number key.2,
)

pub table_once : (node : NodeShape) (kept : NodeWords) (slots : ℕ) (live : ℕ → Bool) → IsHashNode node kept slots live → IsLinkedOnce kept.links
table_once node kept slots live was x y some same =
    let word = some_word (slice_index kept.links x) some in
    let here = number_here node kept slots live was x word.0 word.1 in
    let there = number_here node kept slots live was y word.0 (sym same ∙ word.1) in
    let key : here.0 ≡ there.0 = one_key node kept slots live was here.0 there.0 word.0 here.2 there.2 in
    let one : suc here.0 ≡ here.0 + 1 = omega arith in
    stands_once kept.keys was.table here.0 x y (below_by_word kept.keys x here.0 here.1) (below_by_word kept.keys y there.0 there.1) (here.1 ∙ one) (there.1 ∙ ap suc (sym key) ∙ one)

-- ── The new table ──

-- a key stays where its number is kept
key_stays : (keeps : ℕ → Bool) (node : NodeShape) (kept : NodeWords) (key : ℕ) → stays_set Hash keeps node kept key ≡ is_kept keeps (active_below Hash node kept key) → node.kind ≡ Hash → stays_set Hash keeps node kept key ≡ is_kept keeps (beside kept.keys kept.links key)
key_stays keeps node kept key same is = same ∙ by_option (beside kept.keys kept.links key)
  where
    by_option : (o : Option ℕ) → is_kept keeps (cond (is_some o) o None) ≡ is_kept keeps o
    by_option None = refl
    by_option (Some n) = refl

keep_is : (keeps : ℕ → Bool) (o : Option ℕ) → keep_number keeps o ≡ cond (is_kept keeps o) o None
keep_is keeps None = refl
keep_is keeps (Some n) = refl

pub table_trimmed : (row : List Bool) (node : NodeShape) (kept after : NodeWords) (cut : List ℕ) (slots : ℕ) (live : ℕ → Bool) → node.kind ≡ Hash → IsHashNode node kept slots live → AreKeptLinks kept.links cut row (length kept.links) → IsKeptTable kept.keys kept.links row after.keys after.links → HasLinks after.pool cut → place_count after.pool ≡ place_count kept.pool → TrimsTable (stays_set Hash (in_row row) node kept) kept after
table_trimmed row node kept after cut slots live is was are table has places = record {
  keys = λ key. table.each key ∙ keep_is (in_row row) (beside kept.keys kept.links key) ∙ ap (λ b. cond b (beside kept.keys kept.links key) None) (sym (stays key));
  as_many = table.as_many;
  table = table.table;
  links_beside = table.links_beside;
  places = places;
  live = λ number. (
    λ on.
        let at = word_at cut number ((has number).0 on) in
        let cut_is : kept_link (in_row row) (slice_index kept.links at.0) ≡ suc number = sym (links_are (in_row row) kept.links cut row are at.0) ∙ at.1 in
        let both = cond_some (is_kept (in_row row) (linked (slice_index kept.links at.0))) (slice_index kept.links at.0) number cut_is in
        let key = number_here node kept slots live was at.0 number both.1 in
        record {
          key = key.0;
          is_kept = stays key.0 ∙ ap (is_kept (in_row row)) key.2 ∙ sym (ap (λ w. is_kept (in_row row) (linked w)) both.1) ∙ both.0;
          holds = key.2;
        },
    λ at.
        let place = key_place kept.keys kept.links at.key number was.links_beside at.holds in
        let on : is_kept (in_row row) (Some number) ≡ true = sym (ap (is_kept (in_row row)) at.holds) ∙ sym (stays at.key) ∙ at.is_kept in
        (has number).1 (index_contains cut place.0 number
        (links_are (in_row row) kept.links cut row are place.0 ∙ ap (kept_link (in_row row)) place.2 ∙ ap (λ b. cond b (suc number) 0) on)),
  );
}
  where
    stays : (key : ℕ) → stays_set Hash (in_row row) node kept key ≡ is_kept (in_row row) (beside kept.keys kept.links key)
    stays key = key_stays (in_row row) node kept key (ap (λ (k : Kind). is_kept (in_row row) (active_below k node kept key)) is) is
