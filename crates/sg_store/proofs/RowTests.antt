-- Rows of truth values as tests of places.
use Rattle.std.proofs.Common.{◌≡◌, ◌≢◌, ℕ, ◌+◌, ◌*◌, ◌/◌, ◌<◌, ◌≤◌, Bool, true, false, List, length, sym, ap, ◌∙◌, subst, arith, inl, inr, zero, suc, [], ◌∷◌, ◌++◌, replicate, refl}
use Rattle.std.specs.Prelude.{slice_set}
use Rattle.std.proofs.lemmas.Bool.{cases_eq, false≢true}
use Rattle.std.proofs.lemmas.Nat.{div-mul-add}
use Rattle.std.proofs.lemmas.List.{length-set, get_or-set_same, get_or-set_other}
use Rattle.sg_layout.specs.declared.shape.NodeShape.{NodeShape}
use Rattle.sg_layout.specs.Axes.{size_of}
use Rattle.sg_store.specs.declared.node.NodeWords.{NodeWords}
use Rattle.sg_store.specs.Slots.{slot_under}
use Rattle.sg_store.specs.steps.Trimming.{leads_kept, place_kept}
use Rattle.sg_store.specs.steps.KeptWords.{in_row, AreMarked, LeadsWithin}
use Rattle.sg_store.proofs.SlotPaths.{same_bool}
use Rattle.sg_store.proofs.KeptPlaces.{offset_from_any}
use Rattle.sg_store.proofs.TrimmedNodes.{place_of_slot}

-- tests that agree at each place are the same
pub same_test : (f g : ℕ → Bool) → ((place : ℕ) → f place ≡ g place) → f ≡ g
same_test f g same = λ i place. same place i

-- a slot that leads to no place that is kept marks nothing
pub marked_same : (keeps : ℕ → Bool) (node : NodeShape) (kept : NodeWords) (above : List Bool) (places slot : ℕ) → leads_kept keeps node kept slot ≡ false → AreMarked keeps node kept above places slot → AreMarked keeps node kept above places (slot + 1)
marked_same keeps node kept above places slot off marked = record {
  long = marked.long;
  marked = λ other below on. elim (cases_eq other slot) [
    | inl same ↦ absurd (false≢true (sym off ∙ ap (leads_kept keeps node kept) (sym same) ∙ on))
    | inr apart ↦ marked.marked other (omega (arith, below, apart)) on
  ];
  only = marked.only;
}

-- another marks the place above it
pub marked_more : (keeps : ℕ → Bool) (node : NodeShape) (kept : NodeWords) (above next : List Bool) (places slot place : ℕ) → place ≡ slot / size_of node.sizes → place < length above → next ≡ slice_set above place true → leads_kept keeps node kept slot ≡ true → AreMarked keeps node kept above places slot → AreMarked keeps node kept next places (slot + 1)
marked_more keeps node kept above next places slot place is there set on marked = record {
  long = ap length set ∙ length-set above place true ∙ marked.long;
  marked = λ other below leads. elim (cases_eq (other / size_of node.sizes) place) [
    | inl same ↦ ap (in_row next) same ∙ here
    | inr apart ↦ elim (cases_eq other slot) [
      | inl own ↦ absurd (apart (ap (λ n. n / size_of node.sizes) own ∙ sym is))
      | inr other_is ↦ elsewhere (other / size_of node.sizes) apart ∙ marked.marked other (omega (arith, below, other_is)) leads
    ]
  ];
  only = λ at in_next. elim (cases_eq at place) [
    | inl same ↦ (slot, on, sym is ∙ sym same)
    | inr apart ↦ marked.only at (sym (elsewhere at apart) ∙ in_next)
  ];
}
  where
    here : in_row next place ≡ true
    here = ap (λ (row : List Bool). in_row row place) set ∙ get_or-set_same above place true false there

    elsewhere : (at : ℕ) → at ≢ place → in_row next at ≡ in_row above at
    elsewhere at apart = ap (λ (row : List Bool). in_row row at) set ∙ get_or-set_other above place at true false apart

-- once all slots are seen the row has the places above that are kept
pub row_is_above : (keeps : ℕ → Bool) (node : NodeShape) (kept : NodeWords) (above : List Bool) (places through size : ℕ) → size ≡ size_of node.sizes → 1 ≤ size → places * size ≤ through → LeadsWithin keeps node kept (places * size) → AreMarked keeps node kept above places through → (place : ℕ) → in_row above place ≡ place_kept keeps node kept place
row_is_above keeps node kept above places through size sized some all within marked place =
    let some_size : 1 ≤ size_of node.sizes = subst (λ n. 1 ≤ n) sized some in
    same_bool (in_row above place) (place_kept keeps node kept place)
    (λ on.
    let at = marked.only place on in
    subst (λ p. place_kept keeps node kept p ≡ true) at.2 (place_of_slot keeps node kept at.0 some_size at.1))
    (λ on.
    let found = offset_from_any (λ o. leads_kept keeps node kept (slot_under node place o)) (size_of node.sizes) on in
    let slot : ℕ = slot_under node place found.0 in
    let low : slot < places * size = within slot found.2 in
    ap (in_row above) (sym (div-mul-add place (size_of node.sizes) found.0 found.1)) ∙ marked.marked slot (omega (arith, low, all)) found.2)

-- what is added to a row as false isn't kept, as nothing past its end is
false_at : (n place : ℕ) → in_row (replicate n false) place ≡ false
false_at zero place = refl
false_at (suc n) zero = refl
false_at (suc n) (suc place) = false_at n place

pub fit_same : (row : List Bool) (n place : ℕ) → in_row (row ++ replicate n false) place ≡ in_row row place
fit_same [] n place = false_at n place
fit_same (kept ∷ row) n zero = refl
fit_same (kept ∷ row) n (suc place) = fit_same row n place
