-- Links that are settled at a pointer node: its words have grown.
use Rattle.std.proofs.Common.{◌≡◌, ◌≢◌, ℕ, zero, suc, ◌<◌, Bool, true, false, not, List, length, refl, sym, ap, ◌∙◌, subst, inl, inr}
use Rattle.std.specs.Prelude.{Some, None, slice_index, ◌==◌}
use Rattle.std.specs.List.{Contains}
use Rattle.std.proofs.lemmas.Bool.{false≢true, cases_eq}
use Rattle.std.proofs.lemmas.List.{get_or_default}
use Rattle.std.proofs.lemmas.List.Elements.{All-contains}
use Rattle.std.proofs.lemmas.Option.{none-some}
use Rattle.sg_layout.specs.declared.shape.Kind.TheVariants.{Pointer}
use Rattle.sg_layout.specs.declared.shape.NodeShape.{NodeShape}
use Rattle.sg_pool.specs.Numbers.{IsFree}
use Rattle.sg_pool.proofs.Uses.{live_stays, taken_is_live, live_was_or_taken}
use Rattle.sg_store.specs.declared.node.NodeWords.{NodeWords}
use Rattle.sg_store.specs.Slots.{linked, is_set, place_below}
use Rattle.sg_store.specs.WellFormed.{IsNode, IsPointerNode, live_below}
use Rattle.sg_store.specs.steps.Settling.{CanLink, HasLinks, NodeGrows}
use Rattle.sg_store.proofs.Walking.{linked_is, linked_some, index_contains}

word_of : (xs : List ℕ) (n : ℕ) → Contains xs (suc n) → (k : ℕ) × (k < length xs) × (slice_index xs k ≡ suc n)
word_of xs n has = (has.0, has.1, get_or_default xs has.0 0 (suc n) has.1 ∙ has.2)

word_is : (n : ℕ) → n ≢ 0 → (m : ℕ) × (n ≡ suc m)
word_is zero some = absurd (some refl)
word_is (suc m) some = (m, refl)

linked_none : (word : ℕ) → linked word ≡ None → word ≡ 0
linked_none zero e = refl
linked_none (suc n) e = absurd (none-some n (sym e))

-- the node is well-formed again
relinked_node : (links taken : List ℕ) (node : NodeShape) (kept after : NodeWords) (slots : ℕ) (live : ℕ → Bool) → IsPointerNode node kept slots live → CanLink links taken node kept slots live → HasLinks links taken kept after → IsPointerNode node after slots live
relinked_node links taken node kept after slots live is can re =
    let word : (q : ℕ) → slice_index after.links q ≡ slice_index links q = λ q. ap (λ l. slice_index l q) re.new_links in
    let in_live : (q : ℕ) → slice_index links q ≢ 0 → live q ≡ true = λ q some. elim (cases_eq (slice_index kept.links q) 0) [
      | inl none ↦ can.in_live q none some
      | inr was ↦ is.in_live q was
    ] in
    let once : (x y : ℕ) → slice_index links x ≢ 0 → slice_index links x ≡ slice_index links y → x ≡ y = λ x y some same.
    let n = word_is (slice_index links x) some in
    elim (cases_eq (slice_index kept.links x) 0) [
      | inl none ↦ can.once x y n.0 (can.of_taken x n.0 none n.1) n.1 (sym same ∙ n.1)
      | inr was ↦ elim (cases_eq (slice_index kept.links y) 0) [
        | inl none ↦ can.once x y n.0 (can.of_taken y n.0 none (sym same ∙ n.1)) n.1 (sym same ∙ n.1)
        | inr too ↦ is.once x y was (sym (can.stays x was) ∙ same ∙ can.stays y too)
      ]
    ] in
    record {
      link_count = ap length re.new_links ∙ can.as_many;
      places = re.pool.places ∙ is.places;
      live_linked = λ n. (
        λ alive. subst (λ l. Contains l (suc n)) (sym re.new_links) (elim (live_was_or_taken kept.pool after.pool taken n re.pool alive) [
          | inl was ↦
              let found = word_of kept.links n ((is.live_linked n).0 was) in
              index_contains links found.0 n (can.stays found.0 (λ none. cc) ∙ found.2)
          | inr took ↦ can.all_taken n took
        ]),
        λ has.
            let found = word_of links n (subst (λ l. Contains l (suc n)) re.new_links has) in
            elim (cases_eq (slice_index kept.links found.0) 0) [
              | inl none ↦ taken_is_live kept.pool after.pool taken n re.pool (can.of_taken found.0 n none found.2)
              | inr was ↦ live_stays kept.pool after.pool taken n re.pool ((is.live_linked n).1 (index_contains kept.links found.0 n (sym (can.stays found.0 was) ∙ found.2)))
            ],
      );
      once = λ x y some same. once x y (λ none. some (word x ∙ none)) (sym (word x) ∙ same ∙ word y);
      in_live = λ q some. in_live q (λ none. some (word q ∙ none));
    }

set_word : (word : ℕ) → not (word == 0) ≡ true → word ≢ 0
set_word word on none = false≢true (sym (ap (λ n. not (n == 0)) none) ∙ on)

pub links_grow : (links taken : List ℕ) (node : NodeShape) (kept after : NodeWords) (slots : ℕ) (live : ℕ → Bool) → IsNode node.kind node kept slots live → CanLink links taken node kept slots live → HasLinks links taken kept after → NodeGrows after node kept slots live
links_grow links taken node kept after slots live is can re =
    let pointer : node.kind ≡ Pointer = can.is_pointer in
    let own : IsPointerNode node kept slots live = subst (λ k. IsNode k node kept slots live) pointer is in
    let word : (q : ℕ) → slice_index after.links q ≡ slice_index links q = λ q. ap (λ l. slice_index l q) re.new_links in
    record {
      is_node = subst (λ k. IsNode k node after slots live) (sym pointer) (relinked_node links taken node kept after slots live own can re);
      set_stays = subst (λ k. (q : ℕ) → is_set k node kept q ≡ true → is_set k node after q ≡ true) (sym pointer)
          (λ q on. ap (λ n. not (n == 0)) (word q ∙ can.stays q (set_word (slice_index kept.links q) on)) ∙ on);
      leads_stays = subst (λ k. (q n : ℕ) → place_below k node kept q ≡ Some n → place_below k node after q ≡ Some n) (sym pointer)
          (λ q n e. let was = linked_is (slice_index kept.links q) n e in linked_some (slice_index after.links q) n (word q ∙ can.stays q (λ none. cc) ∙ was));
      fresh = subst (λ k. (q n : ℕ) → place_below k node kept q ≡ None → place_below k node after q ≡ Some n → live_below k kept live n ≡ false) (sym pointer)
          (λ q n none e.
          let took : Contains taken n = can.of_taken q n (linked_none (slice_index kept.links q) none) (sym (word q) ∙ linked_is (slice_index after.links q) n e) in
          let free : IsFree kept.pool n = All-contains (IsFree kept.pool) taken n can.free.free took in
          free.not_live);
      live_stays = subst (λ k. (n : ℕ) → live_below k kept live n ≡ true → live_below k after live n ≡ true) (sym pointer)
          (λ n on. live_stays kept.pool after.pool taken n re.pool on);
    }
