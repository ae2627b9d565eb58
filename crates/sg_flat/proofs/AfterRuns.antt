-- The fields of a layout and the layouts after a run, one after another.
use Rattle.std.specs.Option.{is_some, option_or}
use Rattle.std.proofs.lemmas.Bool.{both_ways}
use Rattle.std.proofs.Common.{true, false, Some, ◌≡◌, ℕ, suc, ◌+◌, ◌≤◌, ◌⊎◌, inl, inr, List, [], ◌∷◌, ◌++◌, length, drop, Option, None, subst, refl, sym, ap, ◌∙◌, append_assoc, add-one, append-nil}
use Rattle.std.proofs.lemmas.List.{drop_more, drop_all}
use Rattle.sg_coord.specs.Bounds.{Bounds}
use Rattle.sg_words.specs.declared.operators.Ty.{Ty}
use Rattle.sg_layout.specs.declared.shape.Shape.{Shape}
use Rattle.sg_layout.specs.Need.{first_full}
use Rattle.sg_flat.specs.declared.effects.Turn.{Turn}
use Rattle.sg_flat.specs.declared.effects.RunFault.{RunFault}
use Rattle.sg_flat.specs.declared.state.FlatLayout.{FlatLayout}
use Rattle.sg_flat.specs.Effects.{writes_of, written_in}
use Rattle.sg_flat.specs.Kernel.{field_after, fields_after, layout_after, layouts_after, full_fault, first_full_layout}
use Rattle.sg_flat.proofs.Pairs.{StandsAt}

-- the fields from one on are this field and those from the next on
fields_after-more : (bounds : Bounds) (layout : ℕ) (types : List Ty) (fields : List (List (ℕ × ℕ))) (turns : List Turn) (i place : ℕ) (ty : Ty) (field : List (ℕ × ℕ)) → StandsAt types fields i place ty field → fields_after bounds layout i (drop i types) (drop i fields) turns ≡ field_after bounds layout place ty field (writes_of turns) ∷ fields_after bounds layout (i + 1) (drop (i + 1) types) (drop (i + 1) fields) turns
fields_after-more bounds layout types fields turns i place ty field stands =
    ap (λ (ts : List Ty). fields_after bounds layout i ts (drop i fields) turns) (drop_more types i ty stands.in_first ∙ ap (λ (t : Ty). t ∷ drop (i + 1) types) (sym stands.first))
    ∙ ap (λ (fs : List (List (ℕ × ℕ))). fields_after bounds layout i (ty ∷ drop (i + 1) types) fs turns) (drop_more fields i field stands.in_second ∙ ap (λ (f : List (ℕ × ℕ)). f ∷ drop (i + 1) fields) (sym stands.second))
    ∙ ap (λ n. field_after bounds layout i ty field (writes_of turns) ∷ fields_after bounds layout n (drop (i + 1) types) (drop (i + 1) fields) turns) (sym (add-one i))
    ∙ ap (λ n. field_after bounds layout n ty field (writes_of turns) ∷ fields_after bounds layout (i + 1) (drop (i + 1) types) (drop (i + 1) fields) turns) (sym stands.index)

pub fields_after-step : (bounds : Bounds) (layout : ℕ) (types : List Ty) (fields done new_done whole : List (List (ℕ × ℕ))) (turns : List Turn) (i place : ℕ) (ty : Ty) (field new : List (ℕ × ℕ)) → StandsAt types fields i place ty field → done ++ fields_after bounds layout i (drop i types) (drop i fields) turns ≡ whole → new ≡ field_after bounds layout place ty field (writes_of turns) → new_done ≡ done ++ new ∷ [] → new_done ++ fields_after bounds layout (i + 1) (drop (i + 1) types) (drop (i + 1) fields) turns ≡ whole
fields_after-step bounds layout types fields done new_done whole turns i place ty field new stands so_far is_new pushed =
    ap (λ (fs : List (List (ℕ × ℕ))). fs ++ fields_after bounds layout (i + 1) (drop (i + 1) types) (drop (i + 1) fields) turns) (pushed ∙ ap (λ (f : List (ℕ × ℕ)). done ++ f ∷ []) is_new)
    ∙ append_assoc done (field_after bounds layout place ty field (writes_of turns) ∷ []) (fields_after bounds layout (i + 1) (drop (i + 1) types) (drop (i + 1) fields) turns)
    ∙ ap (λ (fs : List (List (ℕ × ℕ))). done ++ fs) (sym (fields_after-more bounds layout types fields turns i place ty field stands))
    ∙ so_far

fields_after-none : (bounds : Bounds) (layout place : ℕ) (types : List Ty) (turns : List Turn) → fields_after bounds layout place types [] turns ≡ []
fields_after-none bounds layout place [] turns = refl
fields_after-none bounds layout place (ty ∷ types) turns = refl

pub fields_after-end : (bounds : Bounds) (layout : ℕ) (types : List Ty) (fields done whole : List (List (ℕ × ℕ))) (turns : List Turn) (i : ℕ) → (length types ≤ i) ⊎ (length fields ≤ i) → done ++ fields_after bounds layout i (drop i types) (drop i fields) turns ≡ whole → done ≡ whole
fields_after-end bounds layout types fields done whole turns i over so_far =
    let none : fields_after bounds layout i (drop i types) (drop i fields) turns ≡ [] = elim over [
      | inl past ↦ ap (λ (ts : List Ty). fields_after bounds layout i ts (drop i fields) turns) (drop_all i types past)
      | inr past ↦ ap (λ (fs : List (List (ℕ × ℕ))). fields_after bounds layout i (drop i types) fs turns) (drop_all i fields past) ∙ fields_after-none bounds layout i (drop i types) turns
    ] in
    sym (append-nil done) ∙ ap (λ (fs : List (List (ℕ × ℕ))). done ++ fs) (sym none) ∙ so_far

-- the layouts from one on, and those from the next on
drop_both : (R : List Shape → List FlatLayout → Type 0) (shapes : List Shape) (flats : List FlatLayout) (i number : ℕ) (shape : Shape) (flat : FlatLayout) → StandsAt shapes flats i number shape flat → R (drop i shapes) (drop i flats) → R (shape ∷ drop (i + 1) shapes) (flat ∷ drop (i + 1) flats)
drop_both R shapes flats i number shape flat stands given =
    subst (λ (ss : List Shape). R ss (flat ∷ drop (i + 1) flats)) (drop_more shapes i shape stands.in_first ∙ ap (λ (s : Shape). s ∷ drop (i + 1) shapes) (sym stands.first))
    (subst (λ (ls : List FlatLayout). R (drop i shapes) ls) (drop_more flats i flat stands.in_second ∙ ap (λ (l : FlatLayout). l ∷ drop (i + 1) flats) (sym stands.second)) given)

pub layouts_after-step : (shapes : List Shape) (flats done new_done whole : List FlatLayout) (turns : List Turn) (i number : ℕ) (shape : Shape) (flat new : FlatLayout) → StandsAt shapes flats i number shape flat → done ++ layouts_after i (drop i shapes) (drop i flats) turns ≡ whole → new ≡ layout_after number shape flat turns → new_done ≡ done ++ new ∷ [] → new_done ++ layouts_after (i + 1) (drop (i + 1) shapes) (drop (i + 1) flats) turns ≡ whole
layouts_after-step shapes flats done new_done whole turns i number shape flat new stands so_far is_new pushed =
    let rest = layouts_after (i + 1) (drop (i + 1) shapes) (drop (i + 1) flats) turns in
    let now : done ++ (layout_after i shape flat turns ∷ layouts_after (suc i) (drop (i + 1) shapes) (drop (i + 1) flats) turns) ≡ whole =
    drop_both (λ ss ls. done ++ layouts_after i ss ls turns ≡ whole) shapes flats i number shape flat stands so_far in
    ap (λ (ls : List FlatLayout). ls ++ rest) (pushed ∙ ap (λ (l : FlatLayout). done ++ l ∷ []) (is_new ∙ ap (λ n. layout_after n shape flat turns) stands.index))
    ∙ append_assoc done (layout_after i shape flat turns ∷ []) rest
    ∙ ap (λ n. done ++ (layout_after i shape flat turns ∷ layouts_after n (drop (i + 1) shapes) (drop (i + 1) flats) turns)) (add-one i)
    ∙ now

layouts_after-none : (number : ℕ) (shapes : List Shape) (turns : List Turn) → layouts_after number shapes [] turns ≡ []
layouts_after-none number [] turns = refl
layouts_after-none number (shape ∷ shapes) turns = refl

pub layouts_after-end : (shapes : List Shape) (flats done whole : List FlatLayout) (turns : List Turn) (i : ℕ) → (length shapes ≤ i) ⊎ (length flats ≤ i) → done ++ layouts_after i (drop i shapes) (drop i flats) turns ≡ whole → done ≡ whole
layouts_after-end shapes flats done whole turns i over so_far =
    let none : layouts_after i (drop i shapes) (drop i flats) turns ≡ [] = elim over [
      | inl past ↦ ap (λ (ss : List Shape). layouts_after i ss (drop i flats) turns) (drop_all i shapes past)
      | inr past ↦ ap (λ (ls : List FlatLayout). layouts_after i (drop i shapes) ls turns) (drop_all i flats past) ∙ layouts_after-none i (drop i shapes) turns
    ] in
    sym (append-nil done) ∙ ap (λ (ls : List FlatLayout). done ++ ls) (sym none) ∙ so_far

-- the search for a layout without room, at one of them: its fault, or the search among those after it
pub first_full_layout-here : (shapes : List Shape) (flats : List FlatLayout) (whole : Option RunFault) (turns : List Turn) (i number : ℕ) (shape : Shape) (flat : FlatLayout) → StandsAt shapes flats i number shape flat → first_full_layout i (drop i shapes) (drop i flats) turns ≡ whole → option_or (full_fault number (first_full shape (flat.active ++ written_in number turns))) (first_full_layout (i + 1) (drop (i + 1) shapes) (drop (i + 1) flats) turns) ≡ whole
first_full_layout-here shapes flats whole turns i number shape flat stands so_far =
    let later = first_full_layout (i + 1) (drop (i + 1) shapes) (drop (i + 1) flats) turns in
    let now : option_or (full_fault i (first_full shape (flat.active ++ written_in i turns))) (first_full_layout (suc i) (drop (i + 1) shapes) (drop (i + 1) flats) turns) ≡ whole =
    drop_both (λ ss ls. first_full_layout i ss ls turns ≡ whole) shapes flats i number shape flat stands so_far in
    ap (λ n. option_or (full_fault n (first_full shape (flat.active ++ written_in n turns))) later) stands.index
    ∙ ap (λ n. option_or (full_fault i (first_full shape (flat.active ++ written_in i turns))) (first_full_layout n (drop (i + 1) shapes) (drop (i + 1) flats) turns)) (add-one i)
    ∙ now

-- the search stops at a fault, and goes on if there is none
pub stops_here : (fault full later whole : Option RunFault) → fault ≡ full → is_some fault ≡ true → option_or full later ≡ whole → fault ≡ whole
stops_here fault None later whole is some found = absurd (both_ways (is_some fault) (ap is_some is) some)
stops_here fault (Some full) later whole is some found = is ∙ found

pub goes_on : (fault full later whole : Option RunFault) → fault ≡ full → is_some fault ≡ false → option_or full later ≡ whole → later ≡ whole
goes_on fault None later whole is none found = found
goes_on fault (Some full) later whole is none found = absurd (both_ways (is_some fault) none (ap is_some is))

first_full_layout-none : (number : ℕ) (shapes : List Shape) (turns : List Turn) → first_full_layout number shapes [] turns ≡ None
first_full_layout-none number [] turns = refl
first_full_layout-none number (shape ∷ shapes) turns = refl

pub first_full_layout-end : (shapes : List Shape) (flats : List FlatLayout) (whole : Option RunFault) (turns : List Turn) (i : ℕ) → (length shapes ≤ i) ⊎ (length flats ≤ i) → first_full_layout i (drop i shapes) (drop i flats) turns ≡ whole → whole ≡ None
first_full_layout-end shapes flats whole turns i over so_far = sym so_far ∙ elim over [
  | inl past ↦ ap (λ (ss : List Shape). first_full_layout i ss (drop i flats) turns) (drop_all i shapes past)
  | inr past ↦ ap (λ (ls : List FlatLayout). first_full_layout i (drop i shapes) ls turns) (drop_all i flats past) ∙ first_full_layout-none i (drop i shapes) turns
]
