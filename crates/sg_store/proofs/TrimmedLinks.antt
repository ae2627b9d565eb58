-- A pointer node whose links are trimmed.
use Rattle.std.proofs.Common.{◌≡◌, ◌≢◌, ℕ, suc, ◌<◌, Bool, true, false, not, ◌&&◌, ◌==◌, cond, List, length, Some, refl, sym, ap, ◌∙◌, subst, arith, inl, inr}
use Rattle.std.specs.Prelude.{IsTrue, slice_index, Contains}
use Rattle.std.proofs.lemmas.Bool.{cases_Bool, cases_lt}
use Rattle.std.proofs.lemmas.List.{get_or_past, get_or_default}
use Rattle.std.proofs.lemmas.Option.{none-some}
use Rattle.sg_layout.specs.declared.shape.NodeShape.{NodeShape}
use Rattle.sg_layout.specs.declared.shape.Kind.{Kind}
use Rattle.sg_layout.specs.declared.shape.Kind.TheVariants.{Pointer}
use Rattle.sg_store.specs.declared.node.NodeWords.{NodeWords}
use Rattle.sg_store.specs.Slots.{is_set, place_below, linked}
use Rattle.sg_store.specs.WellFormed.{IsPointerNode}
use Rattle.sg_store.specs.steps.Cutting.{TrimsLinks, IsInKept, LinksTrim}

-- ── The words ──

kept_word : (keep : ℕ → Bool) (kept after : NodeWords) → TrimsLinks keep kept after → (slot : ℕ) → keep slot ≡ true → slice_index after.links slot ≡ slice_index kept.links slot
kept_word keep kept after trims slot on = trims.links slot ∙ ap (λ b. cond b (slice_index kept.links slot) 0) on

cut_word : (keep : ℕ → Bool) (kept after : NodeWords) → TrimsLinks keep kept after → (slot : ℕ) → keep slot ≡ false → slice_index after.links slot ≡ 0
cut_word keep kept after trims slot off = trims.links slot ∙ ap (λ b. cond b (slice_index kept.links slot) 0) off

-- where a word stands the slot is kept
word_kept : (keep : ℕ → Bool) (kept after : NodeWords) → TrimsLinks keep kept after → (slot : ℕ) → slice_index after.links slot ≢ 0 → keep slot ≡ true
word_kept keep kept after trims slot some = elim (cases_Bool (keep slot)) [
  | inl on ↦ on
  | inr off ↦ absurd (some (cut_word keep kept after trims slot off))
]

-- ── The node trims ──

set_by : (keep : Bool) (word after : ℕ) → after ≡ cond keep word 0 → not (after == 0) ≡ (not (word == 0) && keep)
set_by true word after is = ap (λ w. not (w == 0)) is ∙ sym (and_true (not (word == 0)))
  where
    and_true : (a : Bool) → (a && true) ≡ a
    and_true true = refl
    and_true false = refl
set_by false word after is = ap (λ w. not (w == 0)) is ∙ sym (and_false (not (word == 0)))
  where
    and_false : (a : Bool) → (a && false) ≡ false
    and_false true = refl
    and_false false = refl

less_by : (keep : Bool) (word after place : ℕ) → after ≡ cond keep word 0 → linked after ≡ Some place → linked word ≡ Some place
less_by true word after place is leads = ap linked (sym is) ∙ leads
less_by false word after place is leads = absurd (none-some place (sym (ap linked is) ∙ leads))

abbrev TrimsKind : Kind → (ℕ → Bool) → NodeShape → NodeWords → NodeWords → Type 0
TrimsKind kind keep node kept after =
    ((slot : ℕ) → is_set kind node after slot ≡ (is_set kind node kept slot && keep slot))
    × ((slot : ℕ) → keep slot ≡ true → place_below kind node after slot ≡ place_below kind node kept slot)
    × ((slot place : ℕ) → place_below kind node after slot ≡ Some place → place_below kind node kept slot ≡ Some place)

pointer_trims : (keep : ℕ → Bool) (node : NodeShape) (kept after : NodeWords) → TrimsLinks keep kept after → TrimsKind Pointer keep node kept after
pointer_trims keep node kept after trims = (
  λ slot. set_by (keep slot) (slice_index kept.links slot) (slice_index after.links slot) (trims.links slot),
  λ slot on. ap linked (kept_word keep kept after trims slot on),
  λ slot place leads. less_by (keep slot) (slice_index kept.links slot) (slice_index after.links slot) place (trims.links slot) leads,
)

-- ── And is a pointer node again ──

-- a word other than 0 stands at a place of the list
below_by_word : (words : List ℕ) (slot number : ℕ) → slice_index words slot ≡ suc number → slot < length words
below_by_word words slot number is = elim (cases_lt slot (length words)) [
  | inl below ↦ below
  | inr past ↦ absurd (let none : slice_index words slot ≡ 0 = get_or_past words slot 0 past in omega arith)
]

word_in : (words : List ℕ) (slot number : ℕ) → slice_index words slot ≡ suc number → Contains words (suc number)
word_in words slot number is =
    let below : slot < length words = below_by_word words slot number is in
    (slot, below, get_or_default words slot (suc number) 0 below ∙ is)

word_at : (words : List ℕ) (number : ℕ) → Contains words (suc number) → (slot : ℕ) × (slice_index words slot ≡ suc number)
word_at words number (slot, below, is) = (slot, get_or_default words slot 0 (suc number) below ∙ is)

live_of_slot : (keep : ℕ → Bool) (kept after : NodeWords) (number slot : ℕ) → TrimsLinks keep kept after → slice_index after.links slot ≡ suc number → IsInKept keep kept.links number
live_of_slot keep kept after number slot trims is =
    let on : keep slot ≡ true = word_kept keep kept after trims slot (λ none. let h : suc number ≡ 0 = sym is ∙ none in omega arith) in
    record { slot = slot; is_kept = on; holds = sym (kept_word keep kept after trims slot on) ∙ is }

trimmed_node : (keep : ℕ → Bool) (node : NodeShape) (kept after : NodeWords) → TrimsLinks keep kept after → (slots : ℕ) (live now : ℕ → Bool) → IsPointerNode node kept slots live → ((slot : ℕ) → keep slot ≡ true → slice_index kept.links slot ≢ 0 → IsTrue (now slot)) → IsPointerNode node after slots now
trimmed_node keep node kept after trims slots live now is in_now = record {
  link_count = trims.as_many ∙ is.link_count;
  places = trims.places ∙ is.places;
  live_linked = λ number. (
    λ on. let found = (trims.live number).0 on in
        word_in after.links found.slot number (kept_word keep kept after trims found.slot found.is_kept ∙ found.holds),
    λ has. let at = word_at after.links number has in (trims.live number).1 (live_of_slot keep kept after number at.0 trims at.1),
  );
  once = λ x y some same.
      let x_on : keep x ≡ true = word_kept keep kept after trims x some in
      let y_on : keep y ≡ true = word_kept keep kept after trims y (λ none. some (same ∙ none)) in
      let x_is = kept_word keep kept after trims x x_on in
      let y_is = kept_word keep kept after trims y y_on in
      is.once x y (λ none. some (x_is ∙ none)) (sym x_is ∙ same ∙ y_is);
  in_live = λ slot some.
      let on : keep slot ≡ true = word_kept keep kept after trims slot some in
      in_now slot on (λ none. some (kept_word keep kept after trims slot on ∙ none));
}

pub links_trim : (keep : ℕ → Bool) (node : NodeShape) (kept after : NodeWords) → LinksTrim keep node kept after
links_trim keep node kept after = record {
  trims = λ is trims. let t = subst (λ (kind : Kind). TrimsKind kind keep node kept after) (sym is) (pointer_trims keep node kept after trims) in record { set = t.0; leads = t.1; less = t.2 };
  is_node = trimmed_node keep node kept after;
}
