-- What a look notes, one coordinate after another.
use Rattle.std.proofs.Common.{◌≡◌, ℕ, zero, suc, ◌+◌, ◌<◌, ◌≤◌, ◌⊎◌, inl, inr, false, List, [], ◌∷◌, ◌++◌, refl, sym, ap, ◌∙◌, subst, arith}
use Rattle.std.specs.Prelude.{Option, Some, None, is_some, Result, Ok, Err, OnOk, IfOk, All, ◌↔◌}
use Rattle.std.specs.List.{Contains}
use Rattle.std.proofs.lemmas.Bool.{cases_lt, false≢true}
use Rattle.std.proofs.lemmas.List.Elements.{Contains-append_left, Contains-append_right, Contains-append_cases, Contains-push_cases, All-append, All-push}
use Rattle.sg_coord.specs.declared.coord.Coord.{Coord}
use Rattle.sg_coord.specs.Slices.{slice_start}
use Rattle.sg_store.specs.StoreWords.{StoreWords}
use Rattle.sg_store.specs.Walks.{cell_in}
use Rattle.sg_activate.specs.declared.found.Found.{Found}
use Rattle.sg_activate.specs.declared.found.Finds.{Finds}
use Rattle.sg_activate.specs.declared.notes.Notes.{Notes}
use Rattle.sg_activate.specs.Activating.{wanted_below}
use Rattle.sg_activate.specs.steps.Finding.{coord_found, coords_found, found_in, AreFound}
use Rattle.sg_activate.specs.steps.Looked.{IsKnown, AreKnown, noted, NotesNew, NotesGrew}
use Rattle.sg_activate.proofs.Asked.{coords-append, found-append}

-- ---- answers
pub ok_of : {E A : Type 0} (r : Result Unit E) → A → OnOk r A
ok_of (Ok u) a = a
ok_of (Err e) a = tt

pub ok_so : {E A B : Type 0} (r : Result Unit E) → OnOk r A → (A → B) → OnOk r B
ok_so (Ok u) a then = then a
ok_so (Err e) a then = tt

pub ok_two : {E A B C : Type 0} (r : Result Unit E) → OnOk r A → OnOk r B → (A → B → C) → OnOk r C
ok_two (Ok u) a b then = then a b
ok_two (Err e) a b then = tt

pub all_of_none : (Is : Coord → Type 0) (coords : List Coord) → coords ≡ [] → All Is coords
all_of_none Is coords none = subst (All Is) (sym none) (λ k d below. absurd (omega (arith, below)))

-- ---- notes that grow
pub grew_none : (v w : Notes) → w.axes ≡ v.axes → w.worker ≡ v.worker → w.fresh ≡ v.fresh → w.found ≡ v.found → (coords : List Coord) → NotesGrew coords v w
grew_none v w axes worker fresh found coords =
    let same : noted w ≡ noted v = ap (λ n. coords_found n w.fresh ++ found_in n w.found) axes ∙ ap (λ l. coords_found v.axes l ++ found_in v.axes w.found) fresh ∙ ap (λ l. coords_found v.axes v.fresh ++ found_in v.axes l) found in
    record {
      same_axes = axes;
      same_worker = worker;
      only = λ at has. inl (subst (λ l. Contains l at) same has);
      stays = λ at has. subst (λ l. Contains l at) (sym same) has;
      of_workers = λ count below all. subst (All (λ (finds : Finds). finds.worker < count)) (sym found) all;
    }

pub grew_then : (few more all : List Coord) (v w x : Notes) → ((at : Coord) → Contains few at → Contains all at) → ((at : Coord) → Contains more at → Contains all at)
    → NotesGrew few v w → NotesGrew more w x → NotesGrew all v x
grew_then few more all v w x of_few of_more first then = record {
  same_axes = then.same_axes ∙ first.same_axes;
  same_worker = then.same_worker ∙ first.same_worker;
  only = λ at has. elim (then.only at has) [
    | inl before ↦ elim (first.only at before) [ inl old ↦ inl old | inr new ↦ inr (of_few at new) ]
    | inr new ↦ inr (of_more at new)
  ];
  stays = λ at has. then.stays at (first.stays at has);
  of_workers = λ count below are. then.of_workers count (subst (λ (n : ℕ). n < count) (sym first.same_worker) below) (first.of_workers count below are);
}

pub known_then : (store : StoreWords) (v w : Notes) (coords : List Coord) → NotesGrew coords v w → (at : Coord) → IsKnown store (noted v) at → IsKnown store (noted w) at
known_then store v w coords grew at (inl active) = inl active
known_then store v w coords grew at (inr has) = inr (grew.stays at has)

-- a coordinate more in the last list
pub grew_pushed : (v w : Notes) (found : Found) → w.axes ≡ v.axes → w.worker ≡ v.worker → w.fresh ≡ v.fresh ++ found ∷ [] → w.found ≡ v.found
    → NotesGrew (coord_found v.axes found ∷ []) v w × Contains (noted w) (coord_found v.axes found)
grew_pushed v w found axes worker fresh lists = (
  record {
    same_axes = axes;
    same_worker = worker;
    only = λ at has. elim (cut at (subst (λ l. Contains l at) same has)) [
      | inl old ↦ inl (Contains-append_left (coords_found v.axes v.fresh) (found_in v.axes v.found) at old)
      | inr rest ↦ elim rest [ inl new ↦ inr new | inr old ↦ inl (Contains-append_right (coords_found v.axes v.fresh) (found_in v.axes v.found) at old) ]
    ];
    stays = λ at has. subst (λ l. Contains l at) (sym same) (elim (Contains-append_cases (coords_found v.axes v.fresh) (found_in v.axes v.found) at has) [
      | inl old ↦ Contains-append_left (coords_found v.axes v.fresh ++ coord_found v.axes found ∷ []) (found_in v.axes v.found) at (Contains-append_left (coords_found v.axes v.fresh) (coord_found v.axes found ∷ []) at old)
      | inr old ↦ Contains-append_right (coords_found v.axes v.fresh ++ coord_found v.axes found ∷ []) (found_in v.axes v.found) at old
    ]);
    of_workers = λ count below all. subst (All (λ (finds : Finds). finds.worker < count)) (sym lists) all;
  },
  subst (λ l. Contains l (coord_found v.axes found)) (sym same)
      (Contains-append_left (coords_found v.axes v.fresh ++ coord_found v.axes found ∷ []) (found_in v.axes v.found) (coord_found v.axes found)
      (Contains-append_right (coords_found v.axes v.fresh) (coord_found v.axes found ∷ []) (coord_found v.axes found) (0, omega arith, refl))),
)
  where
    same : noted w ≡ (coords_found v.axes v.fresh ++ coord_found v.axes found ∷ []) ++ found_in v.axes v.found
    same = ap (λ n. coords_found n w.fresh ++ found_in n w.found) axes ∙ ap (λ l. coords_found v.axes l ++ found_in v.axes w.found) fresh ∙ ap (λ l. coords_found v.axes (v.fresh ++ found ∷ []) ++ found_in v.axes l) lists
        ∙ ap (λ l. l ++ found_in v.axes v.found) (coords-append v.axes v.fresh (found ∷ []))

    cut : (at : Coord) → Contains ((coords_found v.axes v.fresh ++ coord_found v.axes found ∷ []) ++ found_in v.axes v.found) at
        → Contains (coords_found v.axes v.fresh) at ⊎ (Contains (coord_found v.axes found ∷ []) at ⊎ Contains (found_in v.axes v.found) at)
    cut at has = elim (Contains-append_cases (coords_found v.axes v.fresh ++ coord_found v.axes found ∷ []) (found_in v.axes v.found) at has) [
      | inl front ↦ elim (Contains-append_cases (coords_found v.axes v.fresh) (coord_found v.axes found ∷ []) at front) [ inl old ↦ inl old | inr new ↦ inr (inl new) ]
      | inr old ↦ inr (inr old)
    ]

-- the last list put behind the others
coords_moved : (axes : ℕ) (lists : List Finds) (finds : Finds) (at : Coord) → Contains (found_in axes (lists ++ finds ∷ [])) at → Contains (coords_found axes finds.list ++ found_in axes lists) at
coords_moved axes lists finds at has = elim (Contains-append_cases (found_in axes lists) (found_in axes (finds ∷ [])) at (subst (λ l. Contains l at) (found-append axes lists (finds ∷ [])) has)) [
  | inl old ↦ Contains-append_right (coords_found axes finds.list) (found_in axes lists) at old
  | inr new ↦ elim (Contains-append_cases (coords_found axes finds.list) [] at new) [
    | inl is ↦ Contains-append_left (coords_found axes finds.list) (found_in axes lists) at is
    | inr none ↦ absurd (omega (arith, none.1))
  ]
]

coords_back : (axes : ℕ) (lists : List Finds) (finds : Finds) (at : Coord) → Contains (coords_found axes finds.list ++ found_in axes lists) at → Contains (found_in axes (lists ++ finds ∷ [])) at
coords_back axes lists finds at has = subst (λ l. Contains l at) (sym (found-append axes lists (finds ∷ []))) (elim (Contains-append_cases (coords_found axes finds.list) (found_in axes lists) at has) [
  | inl new ↦ Contains-append_right (found_in axes lists) (found_in axes (finds ∷ [])) at (Contains-append_left (coords_found axes finds.list) [] at new)
  | inr old ↦ Contains-append_left (found_in axes lists) (found_in axes (finds ∷ [])) at old
])

pub grew_moved : (v w : Notes) → w.axes ≡ v.axes → w.worker ≡ v.worker → w.fresh ≡ [] → w.found ≡ v.found ++ (record { worker = v.worker; list = v.fresh }) ∷ [] → NotesGrew [] v w
grew_moved v w axes worker fresh lists =
    let finds : Finds = record { worker = v.worker; list = v.fresh } in
    let same : noted w ≡ found_in v.axes (v.found ++ finds ∷ []) = ap (λ n. coords_found n w.fresh ++ found_in n w.found) axes ∙ ap (λ l. coords_found v.axes l ++ found_in v.axes w.found) fresh ∙ ap (found_in v.axes) lists in
    record {
      same_axes = axes;
      same_worker = worker;
      only = λ at has. inl (coords_moved v.axes v.found finds at (subst (λ l. Contains l at) same has));
      stays = λ at has. subst (λ l. Contains l at) (sym same) (coords_back v.axes v.found finds at has);
      of_workers = λ count below all. subst (All (λ (f : Finds). f.worker < count)) (sym lists) (All-push (λ (f : Finds). f.worker < count) v.found finds all below);
    }

pub grew_added : (v mid w : Notes) (found : Found) → NotesGrew [] v mid → w.axes ≡ mid.axes → w.worker ≡ mid.worker → w.fresh ≡ mid.fresh ++ found ∷ [] → w.found ≡ mid.found
    → NotesGrew (coord_found v.axes found ∷ []) v w × Contains (noted w) (coord_found v.axes found)
grew_added v mid w found grew axes worker fresh lists =
    let pushed = grew_pushed mid w found axes worker fresh lists in (
      grew_then [] (coord_found v.axes found ∷ []) (coord_found v.axes found ∷ []) v mid w (λ at none. absurd (omega (arith, none.1))) (λ at has. has) grew
          (subst (λ n. NotesGrew (coord_found n found ∷ []) mid w) grew.same_axes pushed.0),
      subst (λ n. Contains (noted w) (coord_found n found)) grew.same_axes pushed.1,
    )

-- of a coordinate that was looked at
pub looked : {E : Type 0} (v w : Notes) (last : Option Coord) (at : Coord) (found : Found) (r : Result Unit E) → at.n ≡ v.axes → coord_found at.n found ≡ at
    → OnOk r (NotesGrew (coord_found v.axes found ∷ []) (record v { last = last }) w) → OnOk r (NotesGrew (at ∷ []) v w)
looked v w last at found (Err e) axes is grew = tt
looked v w last at found (Ok u) axes is grew =
    let same : coord_found v.axes found ≡ at = subst (λ (n : ℕ). coord_found n found ≡ at) axes is in
    record {
      same_axes = grew.same_axes;
      same_worker = grew.same_worker;
      only = λ x has. elim (grew.only x has) [ inl old ↦ inl old | inr new ↦ inr (subst (λ y. Contains (y ∷ []) x) same new) ];
      stays = grew.stays;
      of_workers = grew.of_workers;
    }

-- and that it is known
pub looked_known : {E : Type 0} (store : StoreWords) (axes : ℕ) (w : Notes) (at : Coord) (found : Found) (r : Result Unit E) → at.n ≡ axes → coord_found at.n found ≡ at
    → OnOk r (Contains (noted w) (coord_found axes found)) → OnOk r (IsKnown store (noted w) at)
looked_known store axes w at found (Err e) same is has = tt
looked_known store axes w at found (Ok u) same is has = inr (subst (Contains (noted w)) (subst (λ (n : ℕ). coord_found n found ≡ at) same is) has)

-- and that what was noted since isn't active, if it isn't
pub no_cell : (cell : Option ℕ) → is_some cell ≡ false → cell ≡ None
no_cell None e = refl
no_cell (Some n) e = absurd (false≢true (sym e))

pub looked_new : {E : Type 0} (store : StoreWords) (v w : Notes) (at : Coord) (r : Result Unit E) → cell_in store at ≡ None → OnOk r (NotesGrew (at ∷ []) v w) → OnOk r (NotesNew store v w)
looked_new store v w at (Err e) none grew = tt
looked_new store v w at (Ok u) none grew = λ x has. elim (grew.only x has) [
  | inl old ↦ inl old
  | inr new ↦ elim (Contains-push_cases [] at x new) [
    | inl nothing ↦ absurd (omega (arith, nothing.1))
    | inr same ↦ inr (subst (λ y. cell_in store y ≡ None) same none)
  ]
]

pub one_of : (x : Coord) (coords : List Coord) → Contains coords x → (at : Coord) → Contains (x ∷ []) at → Contains coords at
one_of x coords is at has = elim (Contains-push_cases [] x at has) [
  | inl none ↦ absurd (omega (arith, none.1))
  | inr same ↦ subst (Contains coords) same is
]

-- all lists, at the end
pub closed_own : {E : Type 0} (r : Result (List Finds) E) (v : Notes) (Says : Coord → Type 0) (axes workers : ℕ) → v.axes ≡ axes → v.worker < workers → ((at : Coord) → Contains (noted v) at → Says at)
    → All (λ (finds : Finds). finds.worker < workers) v.found → IfOk r (λ list. (at : Coord) → Contains (found_in v.axes list) at ↔ Contains (noted v) at)
    → IfOk r (λ list. (count : ℕ) → v.worker < count → All (λ (finds : Finds). finds.worker < count) v.found → All (λ (finds : Finds). finds.worker < count) list) → IfOk r (AreFound Says axes workers)
closed_own (Err e) v Says axes workers is below says all same of_workers = tt
closed_own (Ok list) v Says axes workers is below says all same of_workers = record {
  says = λ at has. says at ((same at).0 (subst (λ n. Contains (found_in n list) at) (sym is) has));
  of_workers = of_workers workers below all;
}

pub closed_known : {E : Type 0} (r : Result (List Finds) E) (v : Notes) (store : StoreWords) (Means : (ℕ → List Coord) → Type 0) (from to axes : ℕ) → v.axes ≡ axes → AreKnown store Means from to (noted v)
    → IfOk r (λ list. (at : Coord) → Contains (found_in v.axes list) at ↔ Contains (noted v) at) → IfOk r (λ list. AreKnown store Means from to (found_in axes list))
closed_known (Err e) v store Means from to axes is known same = tt
closed_known (Ok list) v store Means from to axes is known same =
    subst (λ n. AreKnown store Means from to (found_in n list)) is (λ lists means piece low high at has. known_list (known lists means piece low high at has) at)
  where
    known_list : {at : Coord} → IsKnown store (noted v) at → (x : Coord) → IsKnown store (found_in v.axes list) at
    known_list (inl active) x = inl active
    known_list {at} (inr has) x = inr ((same at).1 has)

pub closed_empty : (v : Notes) → v.fresh ≡ [] → (at : Coord) → Contains (found_in v.axes v.found) at ↔ Contains (noted v) at
closed_empty v none at =
    let same : noted v ≡ found_in v.axes v.found = ap (λ l. coords_found v.axes l ++ found_in v.axes v.found) none in
    (λ has. subst (λ l. Contains l at) (sym same) has, λ has. subst (λ l. Contains l at) same has)

pub closed : (v : Notes) (found : List Finds) → found ≡ v.found ++ (record { worker = v.worker; list = v.fresh }) ∷ [] → (at : Coord) → Contains (found_in v.axes found) at ↔ Contains (noted v) at
closed v found is at = (
  λ has. coords_moved v.axes v.found (record { worker = v.worker; list = v.fresh }) at (subst (λ l. Contains (found_in v.axes l) at) is has),
  λ has. subst (λ l. Contains (found_in v.axes l) at) (sym is) (coords_back v.axes v.found (record { worker = v.worker; list = v.fresh }) at has),
)

pub closed_workers : (v : Notes) (found : List Finds) → found ≡ v.found ++ (record { worker = v.worker; list = v.fresh }) ∷ [] → (count : ℕ) → v.worker < count → All (λ (finds : Finds). finds.worker < count) v.found → All (λ (finds : Finds). finds.worker < count) found
closed_workers v found is count below all = subst (All (λ (finds : Finds). finds.worker < count)) (sym is) (All-push (λ (f : Finds). f.worker < count) v.found (record { worker = v.worker; list = v.fresh }) all below)

-- ---- all pieces
-- what a piece wants is wanted below any number past it
pub in_below : (list : ℕ → List Coord) (count piece : ℕ) → piece < count → (at : Coord) → Contains (list piece) at → Contains (wanted_below list count) at
in_below list zero piece below at is = absurd (omega arith)
in_below list (suc count) piece below at is = elim (cases_lt piece count) [
  | inl low ↦ Contains-append_left (wanted_below list count) (list count) at (in_below list count piece low at is)
  | inr high ↦ let same : piece ≡ count = omega arith in Contains-append_right (wanted_below list count) (list count) at (subst (λ n. Contains (list n) at) same is)
]

-- what is wanted below a number is wanted by a piece
pub from_below : (list : ℕ → List Coord) (count : ℕ) (at : Coord) → Contains (wanted_below list count) at → (piece : ℕ) × (piece < count) × Contains (list piece) at
from_below list zero at is = absurd (omega (arith, is.1))
from_below list (suc count) at is = elim (Contains-append_cases (wanted_below list count) (list count) at is) [
  | inl before ↦ let found = from_below list count at before in (found.0, omega (arith, found.1), found.2)
  | inr here ↦ (count, omega arith, here)
]

-- what was put into an empty list
pub of_empty : (into before more : List Coord) → before ≡ [] → into ≡ before ++ more → into ≡ more
of_empty into before more empty e = e ∙ ap (λ l. l ++ more) empty

known_more : (store : StoreWords) (before now : List Coord) → ((at : Coord) → Contains before at → Contains now at) → (at : Coord) → IsKnown store before at → IsKnown store now at
known_more store before now more at (inl active) = inl active
known_more store before now more at (inr has) = inr (more at has)

pub are_known_more : (store : StoreWords) (Means : (ℕ → List Coord) → Type 0) (from to : ℕ) (before now : List Coord) → ((at : Coord) → Contains before at → Contains now at)
    → AreKnown store Means from to before → AreKnown store Means from to now
are_known_more store Means from to before now more known list means piece low high at is = known_more store before now more at (known list means piece low high at is)

pub one_piece_more : (store : StoreWords) (Means : (ℕ → List Coord) → Type 0) (from piece : ℕ) (before now : List Coord) → ((at : Coord) → Contains before at → Contains now at)
    → AreKnown store Means from piece before → ((list : ℕ → List Coord) → Means list → (at : Coord) → Contains (list piece) at → IsKnown store now at)
    → AreKnown store Means from (piece + 1) now
one_piece_more store Means from piece before now more known here list means p low high at is = elim (cases_lt p piece) [
  | inl below ↦ known_more store before now more at (known list means p low below at is)
  | inr above ↦ let same : p ≡ piece = omega arith in here list means at (subst (λ n. Contains (list n) at) same is)
]

-- the slice in which a piece stands
in_slice : (len workers : ℕ) → slice_start len workers 0 ≡ 0 → (w piece : ℕ) → piece < slice_start len workers w
    → (v : ℕ) × (v < w) × (slice_start len workers v ≤ piece) × (piece < slice_start len workers (v + 1))
in_slice len workers first zero piece below = absurd (omega arith)
in_slice len workers first (suc w) piece below = elim (cases_lt piece (slice_start len workers w)) [
  | inl before ↦ let r = in_slice len workers first w piece before in (r.0, omega (arith, r.1), r.2, r.3)
  | inr here ↦ let same : suc w ≡ w + 1 = omega arith in (w, omega arith, here, subst (λ n. piece < slice_start len workers n) same below)
]

pub all_known : (store : StoreWords) (Means : (ℕ → List Coord) → Type 0) (len count workers : ℕ) → len ≡ count → slice_start len workers 0 ≡ 0 → slice_start len workers workers ≡ len
    → (found : List Coord) → ((worker : ℕ) → 0 ≤ worker → worker < workers → AreKnown store Means (slice_start count workers worker) (slice_start count workers (worker + 1)) found)
    → (list : ℕ → List Coord) → Means list → (at : Coord) → Contains (wanted_below list count) at → IsKnown store found at
all_known store Means len count workers same first last found known list means at is = go (from_below list count at is)
  where
    go : ((piece : ℕ) × (piece < count) × Contains (list piece) at) → IsKnown store found at
    go r =
        let whole : slice_start count workers workers ≡ count = ap (λ n. slice_start n workers workers) (sym same) ∙ last ∙ same in
        let start : slice_start count workers 0 ≡ 0 = ap (λ n. slice_start n workers 0) (sym same) ∙ first in
        let s = in_slice count workers start workers r.0 (subst (λ n. r.0 < n) (sym whole) r.1) in
        known s.0 (omega arith) s.1 list means r.0 s.2 s.3 at r.2

-- ---- two lists joined
pub joined_own : (Says : Coord → Type 0) (axes workers : ℕ) (mine theirs both : List Finds) → both ≡ mine ++ theirs → AreFound Says axes workers mine → AreFound Says axes workers theirs → AreFound Says axes workers both
joined_own Says axes workers mine theirs both is one other = subst (AreFound Says axes workers) (sym is) (record {
  says = λ at has. elim (Contains-append_cases (found_in axes mine) (found_in axes theirs) at (subst (λ l. Contains l at) (found-append axes mine theirs) has)) [
    | inl left ↦ one.says at left
    | inr right ↦ other.says at right
  ];
  of_workers = All-append (λ (finds : Finds). finds.worker < workers) mine theirs one.of_workers other.of_workers;
})

pub joined_left : (axes : ℕ) (mine theirs both : List Finds) → both ≡ mine ++ theirs → (at : Coord) → Contains (found_in axes mine) at → Contains (found_in axes both) at
joined_left axes mine theirs both is at has =
    subst (λ l. Contains (found_in axes l) at) (sym is) (subst (λ l. Contains l at) (sym (found-append axes mine theirs)) (Contains-append_left (found_in axes mine) (found_in axes theirs) at has))

pub joined_right : (axes : ℕ) (mine theirs both : List Finds) → both ≡ mine ++ theirs → (at : Coord) → Contains (found_in axes theirs) at → Contains (found_in axes both) at
joined_right axes mine theirs both is at has =
    subst (λ l. Contains (found_in axes l) at) (sym is) (subst (λ l. Contains l at) (sym (found-append axes mine theirs)) (Contains-append_right (found_in axes mine) (found_in axes theirs) at has))
