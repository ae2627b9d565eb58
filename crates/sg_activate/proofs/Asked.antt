-- What was found, list after list, and what a seat has met of it.
use Rattle.std.proofs.Common.{◌≡◌, ℕ, zero, suc, ◌+◌, ◌<◌, ◌≤◌, ◌⊎◌, inl, inr, List, [], ◌∷◌, ◌++◌, length, get_or, take, refl, sym, ap, ◌∙◌, subst, arith}
use Rattle.std.specs.Prelude.{Result, Ok, Err, OnOk}
use Rattle.std.specs.List.{Contains, All}
use Rattle.std.proofs.lemmas.List.{take_more, take_all, append_assoc}
use Rattle.std.proofs.lemmas.List.Elements.{Contains-push_cases, Contains-append_left, Contains-append_right, Contains-append_cases, All-contains}
use Rattle.sg_coord.specs.declared.coord.Coord.{Coord}
use Rattle.sg_activate.specs.declared.found.Found.{Found}
use Rattle.sg_activate.specs.declared.found.Finds.{Finds}
use Rattle.sg_activate.specs.steps.Racing.{HaveDone}
use Rattle.sg_activate.specs.steps.Asked.{HasMetOf}
use Rattle.sg_activate.specs.steps.Finding.{coord_found, coords_found, found_in}

-- one more has been taken
pub taken_more : {A : Type 0} (Is : A → Type 0) (list : List A) (i : ℕ) (d : A) → i < length list
    → ((x : A) → Contains (take i list) x → Is x) → Is (get_or list i d) → (x : A) → Contains (take (i + 1) list) x → Is x
taken_more Is list i d below before here x has =
    elim (Contains-push_cases (take i list) (get_or list i d) x (subst (λ l. Contains l x) (take_more list i d below) has)) [
      | inl old ↦ before x old
      | inr same ↦ subst Is same here
    ]

pub taken_all : {A : Type 0} (Is : A → Type 0) (list : List A) (i : ℕ) → length list ≤ i → ((x : A) → Contains (take i list) x → Is x) → (x : A) → Contains list x → Is x
taken_all Is list i all before x has = before x (subst (λ l. Contains l x) (sym (take_all i list all)) has)

-- ---- an element at the front
here : {A : Type 0} (x : A) (more : List A) → Contains (x ∷ more) x
here x more = (0, omega arith, refl)

later : {A : Type 0} (y x : A) (more : List A) → Contains more x → Contains (y ∷ more) x
later y x more has = (suc has.0, omega (arith, has.1), has.2)

front : {A : Type 0} (y x : A) (more : List A) → Contains (y ∷ more) x → (y ≡ x) ⊎ Contains more x
front y x more has = go has.0 has.1 has.2
  where
    go : (k : ℕ) → k < suc (length more) → get_or (y ∷ more) k x ≡ x → (y ≡ x) ⊎ Contains more x
    go zero below is = inl is
    go (suc k) below is = inr (k, omega arith, is)

-- ---- the coordinates of one list
pub coords-append : (axes : ℕ) (list more : List Found) → coords_found axes (list ++ more) ≡ coords_found axes list ++ coords_found axes more
coords-append axes [] more = refl
coords-append axes (found ∷ list) more = ap (λ l. coord_found axes found ∷ l) (coords-append axes list more)

pub coords-has : (axes : ℕ) (list : List Found) (found : Found) → Contains list found → Contains (coords_found axes list) (coord_found axes found)
coords-has axes [] found has = absurd (omega (arith, has.1))
coords-has axes (one ∷ list) found has = elim (front one found list has) [
  | inl same ↦ subst (λ f. Contains (coords_found axes (one ∷ list)) (coord_found axes f)) same (here (coord_found axes one) (coords_found axes list))
  | inr more ↦ later (coord_found axes one) (coord_found axes found) (coords_found axes list) (coords-has axes list found more)
]

pub coords-from : (axes : ℕ) (list : List Found) (at : Coord) → Contains (coords_found axes list) at → (found : Found) × Contains list found × (coord_found axes found ≡ at)
coords-from axes [] at has = absurd (omega (arith, has.1))
coords-from axes (one ∷ list) at has = elim (front (coord_found axes one) at (coords_found axes list) has) [
  | inl same ↦ (one, here one list, same)
  | inr more ↦ let r = coords-from axes list at more in (r.0, later one r.0 list r.1, r.2)
]

-- ---- those of all lists
pub found-append : (axes : ℕ) (list more : List Finds) → found_in axes (list ++ more) ≡ found_in axes list ++ found_in axes more
found-append axes [] more = refl
found-append axes (finds ∷ list) more =
    ap (λ l. coords_found axes finds.list ++ l) (found-append axes list more)
    ∙ sym (append_assoc (coords_found axes finds.list) (found_in axes list) (found_in axes more))

pub in_found : (axes : ℕ) (list : List Finds) (finds : Finds) → Contains list finds → (at : Coord) → Contains (coords_found axes finds.list) at → Contains (found_in axes list) at
in_found axes [] finds is at has = absurd (omega (arith, is.1))
in_found axes (one ∷ list) finds is at has = elim (front one finds list is) [
  | inl same ↦ Contains-append_left (coords_found axes one.list) (found_in axes list) at (subst (λ (f : Finds). Contains (coords_found axes f.list) at) (sym same) has)
  | inr more ↦ Contains-append_right (coords_found axes one.list) (found_in axes list) at (in_found axes list finds more at has)
]

pub from_found : (axes : ℕ) (list : List Finds) (at : Coord) → Contains (found_in axes list) at → (finds : Finds) × Contains list finds × Contains (coords_found axes finds.list) at
from_found axes [] at has = absurd (omega (arith, has.1))
from_found axes (one ∷ list) at has = elim (Contains-append_cases (coords_found axes one.list) (found_in axes list) at has) [
  | inl first ↦ (one, here one list, first)
  | inr more ↦ let r = from_found axes list at more in (r.0, later one r.0 list r.1, r.2)
]

-- all that was found has been met where each worker's has been
pub met_all : {S E : Type 0} (IsMet : Coord → S → Type 0) (axes workers : ℕ) (list : List Finds) (seat : S) (done : Result Unit E) → All (λ finds. finds.worker < workers) list
    → OnOk done (HaveDone (HasMetOf IsMet axes list) 0 workers seat) → OnOk done ((at : Coord) → Contains (found_in axes list) at → IsMet at seat)
met_all IsMet axes workers list seat (Err e) of_workers done = tt
met_all IsMet axes workers list seat (Ok u) of_workers done = λ at has.
    let r = from_found axes list at has in
    done r.0.worker (omega arith) (All-contains (λ finds. finds.worker < workers) list r.0 of_workers r.1) r.0 r.1 refl at r.2
