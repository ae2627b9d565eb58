-- Places above nodes that are kept: from each some slots lead to a cell that is kept, and each such place is kept.
use Rattle.std.proofs.Common.{◌≡◌, ℕ, suc, ◌+◌, ◌<◌, Bool, true, List, [], ◌∷◌, length, Option, Some, None, option_and_then, refl, sym, ap, ◌∙◌, subst, arith}
use Rattle.std.specs.List.{list_any, range_with_len}
use Rattle.std.proofs.lemmas.Bool.{false≢true}
use Rattle.std.proofs.lemmas.Option.{none-some, same_Some, option_and_then_some}
use Rattle.std.proofs.lemmas.List.Folds.{Any-from_list_any, list_any_at}
use Rattle.std.proofs.lemmas.List.FromFn.{length-range_with_len, get_or-range_with_len}
use Rattle.sg_layout.specs.declared.shape.NodeShape.{NodeShape}
use Rattle.sg_layout.specs.Axes.{size_of}
use Rattle.sg_layout.specs.Slots.{IsSlot}
use Rattle.sg_store.specs.declared.node.NodeWords.{NodeWords}
use Rattle.sg_store.specs.Slots.{slot_under, active_below}
use Rattle.sg_store.specs.Walks.{place_after}
use Rattle.sg_store.specs.steps.Walking.{AreOffsets}
use Rattle.sg_store.specs.steps.Trimming.{is_kept, leads_kept, kept_above}
use Rattle.sg_store.proofs.Walking.{AreOne, walks_apart}

-- ── Tests over the numbers of a range ──

pub range_from_any : (test : ℕ → Bool) (from many : ℕ) → list_any test (range_with_len from many) ≡ true → (i : ℕ) × (i < many) × (test (from + i) ≡ true)
range_from_any test from many some =
    let found = Any-from_list_any test (range_with_len from many) some in
    let within : found.0 < many = omega (arith, found.2, length-range_with_len from many) in
    (found.0, within, ap test (sym (get_or-range_with_len from many found.0 found.1 within) ∙ found.3) ∙ found.4)

pub any_in_range : (test : ℕ → Bool) (from many i : ℕ) → i < many → test (from + i) ≡ true → list_any test (range_with_len from many) ≡ true
any_in_range test from many i within is =
    list_any_at test (range_with_len from many) i 0 (omega (arith, within, length-range_with_len from many))
    (ap test (get_or-range_with_len from many i 0 within) ∙ is)

-- and of one from 0 on
pub offset_from_any : (test : ℕ → Bool) (many : ℕ) → list_any test (range_with_len 0 many) ≡ true → (i : ℕ) × (i < many) × (test i ≡ true)
offset_from_any test many some =
    let found = range_from_any test 0 many some in
    let same : found.0 ≡ 0 + found.0 = omega arith in
    (found.0, found.1, ap test same ∙ found.2)

pub any_offset : (test : ℕ → Bool) (many i : ℕ) → i < many → test i ≡ true → list_any test (range_with_len 0 many) ≡ true
any_offset test many i within is =
    let same : 0 + i ≡ i = omega arith in
    any_in_range test 0 many i within (ap test same ∙ is)

-- ── A place that is kept leads to a cell ──

pub kept_some : (keeps : ℕ → Bool) (o : Option ℕ) → is_kept keeps o ≡ true → (p : ℕ) × (o ≡ Some p) × (keeps p ≡ true)
kept_some keeps None on = absurd (false≢true on)
kept_some keeps (Some p) on = (p, refl, on)

-- some slots of all nodes lead from a place to a cell that is kept
pub record LeadsToKept (nodes : List NodeShape) (words : List NodeWords) (cells : ℕ → Bool) (place : ℕ) : Type 0 where
  pub slot : List ℕ
  pub is_slot : IsSlot nodes slot
  pub cell : ℕ
  pub leads : place_after active_below nodes words place slot ≡ Some cell
  pub is_kept : cells cell ≡ true

pub kept_leads : (nodes : List NodeShape) (words : List NodeWords) (cells : ℕ → Bool) (place : ℕ) → kept_above nodes words cells place ≡ true → LeadsToKept nodes words cells place
kept_leads [] words cells place on = record { slot = []; is_slot = tt; cell = place; leads = refl; is_kept = on }
kept_leads (node ∷ later) [] cells place on = absurd (false≢true on)
kept_leads (node ∷ later) (kept ∷ words) cells place on =
    let found = offset_from_any (λ o. leads_kept (kept_above later words cells) node kept (slot_under node place o)) (size_of node.sizes) on in
    let next = kept_some (kept_above later words cells) (active_below node.kind node kept (slot_under node place found.0)) found.2 in
    let rest = kept_leads later words cells next.0 next.2 in
    record {
      slot = found.0 ∷ rest.slot;
      is_slot = (found.1, rest.is_slot);
      cell = rest.cell;
      leads = ap (λ o. option_and_then (λ n. place_after active_below later words n rest.slot) o) next.1 ∙ rest.leads;
      is_kept = rest.is_kept;
    }

-- ── What leads to a kept cell is kept ──

pub leads_keep : (nodes : List NodeShape) (words : List NodeWords) (cells : ℕ → Bool) (place : ℕ) (slot : List ℕ) (cell : ℕ) → IsSlot nodes slot → place_after active_below nodes words place slot ≡ Some cell → cells cell ≡ true → kept_above nodes words cells place ≡ true
leads_keep [] words cells place [] cell is leads on = ap cells (same_Some place cell leads) ∙ on
leads_keep [] words cells place (o ∷ slot) cell is leads on = absurd is
leads_keep (node ∷ later) words cells place [] cell is leads on = absurd is
leads_keep (node ∷ later) [] cells place (o ∷ slot) cell is leads on = absurd (none-some cell leads)
leads_keep (node ∷ later) (kept ∷ words) cells place (o ∷ slot) cell is leads on =
    option_and_then_some (λ n. place_after active_below later words n slot) (active_below node.kind node kept (slot_under node place o)) cell leads (λ next here rest.
    any_offset (λ i. leads_kept (kept_above later words cells) node kept (slot_under node place i)) (size_of node.sizes) o is.0
    (ap (is_kept (kept_above later words cells)) here ∙ leads_keep later words cells next slot cell is.1 rest on))

-- ── A place that is kept is reached ──

-- each cell that is kept is reached from one of these places
pub record AreReachedFrom (nodes : List NodeShape) (words : List NodeWords) (cells : ℕ → Bool) (from : ℕ → Type 0) : Type 0 where
  pub reached : (cell : ℕ) → cells cell ≡ true → (start : ℕ) × (slot : List ℕ) × from start × IsSlot nodes slot × (place_after active_below nodes words start slot ≡ Some cell)

pub whole_offsets : (nodes : List NodeShape) (slot : List ℕ) → IsSlot nodes slot → AreOffsets nodes slot
whole_offsets [] [] is = tt
whole_offsets [] (o ∷ slot) is = absurd is
whole_offsets (node ∷ later) [] is = tt
whole_offsets (node ∷ later) (o ∷ slot) is = (is.0, whole_offsets later slot is.1)

pub whole_long : (nodes : List NodeShape) (slot : List ℕ) → IsSlot nodes slot → length slot ≡ length nodes
whole_long [] [] is = refl
whole_long [] (o ∷ slot) is = absurd is
whole_long (node ∷ later) [] is = absurd is
whole_long (node ∷ later) (o ∷ slot) is = ap suc (whole_long later slot is.1)

-- the places from which the cells of the later nodes are reached: those to which a slot that leads on leads
abbrev pub LedFrom : NodeShape → NodeWords → ℕ → Type 0
LedFrom node kept place = (slot : ℕ) × (active_below node.kind node kept slot ≡ Some place)

pub kept_is_from : (nodes : List NodeShape) (words : List NodeWords) (cells : ℕ → Bool) (from : ℕ → Type 0) → AreOne active_below nodes words → AreReachedFrom nodes words cells from → (place : ℕ) → kept_above nodes words cells place ≡ true → from place
kept_is_from nodes words cells from one all place on =
    let led = kept_leads nodes words cells place on in
    let at = all.reached led.cell led.is_kept in
    let same = walks_apart active_below nodes words one place at.0 led.slot at.1 led.cell
    (whole_offsets nodes led.slot led.is_slot) (whole_offsets nodes at.1 at.3) (whole_long nodes led.slot led.is_slot ∙ sym (whole_long nodes at.1 at.3)) led.leads at.4 in
    subst from (sym same.0) at.2

pub reached_below : (node : NodeShape) (later : List NodeShape) (kept : NodeWords) (words : List NodeWords) (cells : ℕ → Bool) (from : ℕ → Type 0) → AreReachedFrom (node ∷ later) (kept ∷ words) cells from → AreReachedFrom later words cells (LedFrom node kept)
reached_below node later kept words cells from all = record {
  reached = λ cell on. let at = all.reached cell on in below at.0 at.1 cell at.3 at.4;
}
  where
    below : (start : ℕ) (slot : List ℕ) (cell : ℕ) → IsSlot (node ∷ later) slot → place_after active_below (node ∷ later) (kept ∷ words) start slot ≡ Some cell → (next : ℕ) × (rest : List ℕ) × LedFrom node kept next × IsSlot later rest × (place_after active_below later words next rest ≡ Some cell)
    below start [] cell is leads = absurd is
    below start (o ∷ slot) cell is leads =
        option_and_then_some (λ n. place_after active_below later words n slot) (active_below node.kind node kept (slot_under node start o)) cell leads (λ next here rest. (next, slot, (slot_under node start o, here), is.1, rest))
