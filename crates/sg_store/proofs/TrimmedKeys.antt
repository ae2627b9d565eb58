-- A hash node whose keys are trimmed, and a bitmasked node whose bits are.
use Rattle.std.proofs.Common.{◌≡◌, ℕ, ◌<◌, ◌≤◌, Bool, true, false, ◌&&◌, cond, List, Option, Some, None, is_some, refl, sym, ap, ◌∙◌, subst, arith, inl, inr}
use Rattle.std.specs.Prelude.{slice_index}
use Rattle.std.proofs.lemmas.Bool.{cases_lt}
use Rattle.std.proofs.lemmas.List.{get_or_past}
use Rattle.std.proofs.lemmas.List.FromFn.{length-map-range_with_len, get_or-map-range_with_len}
use Rattle.std.proofs.lemmas.Option.{none-some}
use Rattle.sg_hash.specs.Tables.{beside}
use Rattle.sg_layout.specs.declared.shape.Kind.{Kind}
use Rattle.sg_layout.specs.declared.shape.Kind.TheVariants.{Bitmasked, Hash}
use Rattle.sg_layout.specs.declared.shape.NodeShape.{NodeShape}
use Rattle.sg_store.specs.declared.node.NodeWords.{NodeWords}
use Rattle.sg_store.specs.Slots.{is_set, place_below, mask_bit, link_word, links_by_slot}
use Rattle.sg_store.specs.steps.Trimming.{TrimsNode}
use Rattle.sg_store.specs.steps.Cutting.{TrimsKeys, KeysTrim, BitsTrim}

abbrev TrimsKind : Kind → (ℕ → Bool) → NodeShape → NodeWords → NodeWords → Type 0
TrimsKind kind keep node kept after =
    ((slot : ℕ) → is_set kind node after slot ≡ (is_set kind node kept slot && keep slot))
    × ((slot : ℕ) → keep slot ≡ true → place_below kind node after slot ≡ place_below kind node kept slot)
    × ((slot place : ℕ) → place_below kind node after slot ≡ Some place → place_below kind node kept slot ≡ Some place)

of_kind : (kind : Kind) (keep : ℕ → Bool) (node : NodeShape) (kept after : NodeWords) → node.kind ≡ kind → TrimsKind kind keep node kept after → TrimsNode keep node kept after
of_kind kind keep node kept after is trims =
    let t = subst (λ (k : Kind). TrimsKind k keep node kept after) (sym is) trims in
    record { set = t.0; leads = t.1; less = t.2 }

some_kept : (keep : Bool) (was : Option ℕ) → is_some (cond keep was None) ≡ (is_some was && keep)
some_kept true None = refl
some_kept true (Some n) = refl
some_kept false None = refl
some_kept false (Some n) = refl

less_kept : (keep : Bool) (was : Option ℕ) (n : ℕ) → cond keep was None ≡ Some n → was ≡ Some n
less_kept true was n is = is
less_kept false was n is = absurd (none-some n is)

keys_trim_kind : (keep : ℕ → Bool) (node : NodeShape) (kept after : NodeWords) → TrimsKeys keep kept after → TrimsKind Hash keep node kept after
keys_trim_kind keep node kept after trims = (
  λ slot. ap is_some (trims slot) ∙ some_kept (keep slot) (beside kept.keys kept.links slot),
  λ slot on. trims slot ∙ ap (λ b. cond b (beside kept.keys kept.links slot) None) on,
  λ slot place leads. less_kept (keep slot) (beside kept.keys kept.links slot) place (sym (trims slot) ∙ leads),
)

bits_trim_kind : (keep : ℕ → Bool) (node : NodeShape) (kept after : NodeWords) → ((slot : ℕ) → mask_bit after.masks slot ≡ (mask_bit kept.masks slot && keep slot)) → TrimsKind Bitmasked keep node kept after
bits_trim_kind keep node kept after trims = (trims, λ slot on. refl, λ slot place leads. leads)

word_kept : (keep : Bool) (was : Option ℕ) → link_word (cond keep was None) ≡ cond keep (link_word was) 0
word_kept true was = refl
word_kept false was = refl

either : (keep : Bool) → cond {A = ℕ} keep 0 0 ≡ 0
either true = refl
either false = refl

by_slot : (keys links : List ℕ) (slots slot : ℕ) → slot < slots → slice_index (links_by_slot keys links slots) slot ≡ link_word (beside keys links slot)
by_slot keys links slots slot below =
    get_or-map-range_with_len (λ (s : ℕ). link_word (beside keys links s)) 0 slots slot slot 0 below (omega arith)

past_slots : (keys links : List ℕ) (slots slot : ℕ) → slots ≤ slot → slice_index (links_by_slot keys links slots) slot ≡ 0
past_slots keys links slots slot past =
    get_or_past (links_by_slot keys links slots) slot 0 (omega (arith, length-map-range_with_len (λ (s : ℕ). link_word (beside keys links s)) 0 slots))

keys_links : (keep : ℕ → Bool) (kept after : NodeWords) → TrimsKeys keep kept after → (slots slot : ℕ) → slice_index (links_by_slot after.keys after.links slots) slot ≡ cond (keep slot) (slice_index (links_by_slot kept.keys kept.links slots) slot) 0
keys_links keep kept after trims slots slot = elim (cases_lt slot slots) [
  | inl below ↦
      by_slot after.keys after.links slots slot below ∙ ap link_word (trims slot) ∙ word_kept (keep slot) (beside kept.keys kept.links slot)
      ∙ ap (λ w. cond (keep slot) w 0) (sym (by_slot kept.keys kept.links slots slot below))
  | inr past ↦
      past_slots after.keys after.links slots slot past ∙ sym (ap (λ w. cond (keep slot) w 0) (past_slots kept.keys kept.links slots slot past) ∙ either (keep slot))
]

pub keys_trim : (keep : ℕ → Bool) (node : NodeShape) (kept after : NodeWords) → KeysTrim keep node kept after
keys_trim keep node kept after = record {
  trims = λ is trims. of_kind Hash keep node kept after is (keys_trim_kind keep node kept after trims);
  links = λ trims slots slot. keys_links keep kept after trims slots slot;
}

pub bits_trim : (keep : ℕ → Bool) (node : NodeShape) (kept after : NodeWords) → BitsTrim keep node kept after
bits_trim keep node kept after is trims = of_kind Bitmasked keep node kept after is (bits_trim_kind keep node kept after trims)
