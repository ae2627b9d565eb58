-- From node to node: what is open, and what the store stands for in the end.
use Rattle.std.proofs.Common.{◌≡◌, ℕ, ◌<◌, ◌⊎◌, inl, inr, Bool, true, false, cond, List, [], ◌++◌, length, get_or, refl, sym, ap, ◌∙◌, subst, arith}
use Rattle.std.specs.Prelude.{Option, None, IsSome, Result, Ok, Err, nat_le, All, ◌↔◌}
use Rattle.std.specs.List.{Contains}
use Rattle.std.proofs.lemmas.Bool.{false≢true}
use Rattle.std.proofs.lemmas.List.Elements.{Contains-append_cases, Contains-append_left, Contains-append_right, Contains-get_or, All-contains}
use Rattle.sg_words.specs.declared.memory.Stop.{Stop}
use Rattle.sg_words.specs.declared.memory.Stop.TheVariants as stop
use Rattle.sg_words.specs.Answers.{AnswersAs}
use Rattle.sg_coord.specs.declared.coord.Coord.{Coord}
use Rattle.sg_coord.specs.Bounds.{Bounds}
use Rattle.sg_coord.specs.Coord.{Inside}
use Rattle.sg_layout.specs.declared.shape.Shape.{Shape}
use Rattle.sg_layout.specs.Axes.{bounds_of_shape}
use Rattle.sg_layout.specs.Live.{is_live}
use Rattle.sg_layout.specs.LiveLaws.{LiveIsOfMembers}
use Rattle.sg_layout.specs.Need.{first_full}
use Rattle.sg_layout.specs.NeedLaws.{AllInside, FullIsOfMembers}
use Rattle.sg_flat.specs.declared.state.FlatLayout.{FlatLayout}
use Rattle.sg_store.specs.StoreWords.{StoreWords}
use Rattle.sg_store.specs.WellFormed.{IsWellFormed}
use Rattle.sg_store.specs.StandsFor.{StandsFor}
use Rattle.sg_store.specs.StoreLaws.{CellsAreActive}
use Rattle.sg_store.specs.Reaching.{KeepsCells, IsOpenThrough}
use Rattle.sg_store.specs.OpeningLaws.{OpenHasRoom}
use Rattle.sg_activate.specs.declared.fault.ActFault.{ActFault}
use Rattle.sg_activate.specs.Activating.{wanted_below, unless_full}
use Rattle.sg_activate.specs.Descending.{open_before}
use Rattle.sg_activate.specs.steps.Looked.{IsKnown}
use Rattle.sg_activate.specs.steps.Levels.{open_after, OpensTo, IsFirstFull, IfActRefused}
use Rattle.sg_activate.proofs.Looking.{from_below}

-- ---- answers
pub refused_then : {A : Type 0} (r : Result A (Stop ActFault)) (Says Tells : ActFault → Type 0) → IfActRefused r Says → ((fault : ActFault) → Says fault → Tells fault) → IfActRefused r Tells
refused_then (Ok x) Says Tells h then = tt
refused_then (Err stop.Memory) Says Tells h then = tt
refused_then (Err (stop.Refused fault)) Says Tells h then = then fault h

-- ---- from node to node
pub full_before : (store now : StoreWords) (from to : ℕ) (wanted : List Coord) (fault : ActFault) → now.shape ≡ store.shape → OpensTo store now from to wanted → IsFirstFull now to wanted fault → IsFirstFull store from wanted fault
full_before store now from to wanted fault same opens full old before =
    ap (λ (s : Shape). unless_full (first_full s (old ++ wanted))) (sym same) ∙ full old (opens old before)

-- the first node, the descent, and the rest
pub opens_before : (store mid : StoreWords) (wanted : List Coord) → mid.shape ≡ store.shape → OpensTo store mid 0 (open_before store.shape) wanted → OpensTo store mid 0 (open_before mid.shape) wanted
opens_before store mid wanted same first old before = subst (λ (s : Shape). IsOpenThrough mid old (old ++ wanted) (open_before s)) (sym same) (first old before)

pub opens_two : (store mid now : StoreWords) (wanted : List Coord) → mid.shape ≡ store.shape → now.shape ≡ mid.shape → OpensTo store mid 0 (open_before store.shape) wanted
    → OpensTo mid now (open_before mid.shape) (open_after mid.shape) wanted → OpensTo store now 0 (open_after now.shape) wanted
opens_two store mid now wanted same same' first second old before =
    subst (λ (s : Shape). IsOpenThrough now old (old ++ wanted) (open_after s)) (sym same') (second old (opens_before store mid wanted same first old before))

pub opens_three : (store now last : StoreWords) (wanted : List Coord) → now.shape ≡ store.shape → OpensTo store now 0 (open_after now.shape) wanted → OpensTo now last (open_after now.shape) (length now.shape.nodes) wanted
    → OpensTo store last 0 (length store.shape.nodes) wanted
opens_three store now last wanted same two third old before =
    subst (λ (s : Shape). IsOpenThrough last old (old ++ wanted) (length s.nodes)) same (third old (two old before))

-- ---- keeping
pub keeps_same : (store : StoreWords) → KeepsCells store store
keeps_same store = record { same_shape = refl; same_fields = refl; same_cells = λ slot cell leads. leads; same_leads = λ index slot place leads. leads }

pub keeps_then : (old mid now : StoreWords) → KeepsCells old mid → KeepsCells mid now → KeepsCells old now
keeps_then old mid now first then = record {
  same_shape = then.same_shape ∙ first.same_shape;
  same_fields = then.same_fields ∙ first.same_fields;
  same_cells = λ slot cell leads. then.same_cells slot cell (first.same_cells slot cell leads);
  same_leads = λ index slot place leads. then.same_leads index slot place (first.same_leads index slot place leads);
}

-- ---- where all that is wanted is active
pub all_active : (store : StoreWords) → LiveIsOfMembers store.shape → (flat : FlatLayout) → StandsFor store flat → (wanted : List Coord)
    → ((at : Coord) → Contains wanted at → Contains flat.active at) → (through : ℕ) → IsOpenThrough store flat.active (flat.active ++ wanted) through
all_active store law flat stands wanted active through number slot is = stands.live_slots number slot is ∙ go (nat_le number through)
  where
    same : (at : Coord) → Contains flat.active at ↔ Contains (flat.active ++ wanted) at
    same at = (Contains-append_left flat.active wanted at, λ has. elim (Contains-append_cases flat.active wanted at has) [ inl here ↦ here | inr more ↦ active at more ])

    go : (b : Bool) → is_live store.shape flat.active number slot ≡ is_live store.shape (cond b (flat.active ++ wanted) flat.active) number slot
    go true = law flat.active (flat.active ++ wanted) same number slot
    go false = refl

-- what a look knows is active or found
pub known_active : (store : StoreWords) → CellsAreActive store → IsWellFormed store → (flat : FlatLayout) → StandsFor store flat → (found : List Coord) → (at : Coord) → IsKnown store found at → Contains flat.active at ⊎ Contains found at
known_active store law well flat stands found at (inl cell) = inl ((law well flat stands at).0 cell)
known_active store law well flat stands found at (inr has) = inr has

pub only_active : (A : Type 0) (found : List Coord) (at : Coord) → found ≡ [] → A ⊎ Contains found at → A
only_active A found at none (inl here) = here
only_active A found at none (inr has) = absurd (let h : Contains [] at = subst (λ l. Contains l at) none has in omega (arith, h.1))

-- a coordinate without a cell isn't active
pub found_inactive : (cell : Option ℕ) → cell ≡ None → IsSome cell → ⊥
found_inactive cell none some = false≢true (subst IsSome none some)

-- ---- the end
pub wanted_inside : (shape : Shape) (bounds : Bounds) (list : ℕ → List Coord) (count : ℕ) → bounds ≡ bounds_of_shape shape
    → ((piece : ℕ) → piece < count → All (Inside bounds) (list piece)) → AllInside shape (wanted_below list count)
wanted_inside shape bounds list count is inside at has =
    let found = from_below list count at has in
    subst (λ (b : Bounds). Inside b at) is (All-contains (Inside bounds) (list found.0) at (inside found.0 found.1) found.2)

pub no_node_full : (store now : StoreWords) → OpenHasRoom now → IsWellFormed now → now.shape ≡ store.shape → (old all : List Coord)
    → IsOpenThrough now old all (length store.shape.nodes) → unless_full (first_full store.shape all) ≡ Ok tt
no_node_full store now law well same old all opens =
    ap (λ (s : Shape). unless_full (first_full s all)) (sym same)
    ∙ ap unless_full (law well old all (subst (λ (s : Shape). IsOpenThrough now old all (length s.nodes)) (sym same) opens))

-- ---- what was found in the place of what is wanted
pub found_members : (active wanted found : List Coord) → ((at : Coord) → Contains found at → Contains wanted at) → ((at : Coord) → Contains wanted at → Contains active at ⊎ Contains found at)
    → (at : Coord) → Contains (active ++ found) at ↔ Contains (active ++ wanted) at
found_members active wanted found only all at = (
  λ has. elim (Contains-append_cases active found at has) [
    | inl old ↦ Contains-append_left active wanted at old
    | inr new ↦ Contains-append_right active wanted at (only at new)
  ],
  λ has. elim (Contains-append_cases active wanted at has) [
    | inl old ↦ Contains-append_left active found at old
    | inr new ↦ elim (all at new) [
      | inl old ↦ Contains-append_left active found at old
      | inr is ↦ Contains-append_right active found at is
    ]
  ],
)

pub open_for_members : (store : StoreWords) → LiveIsOfMembers store.shape → (old left right : List Coord) → ((at : Coord) → Contains left at ↔ Contains right at) → (through : ℕ)
    → IsOpenThrough store old left through → IsOpenThrough store old right through
open_for_members store law old left right same through opens number slot is = opens number slot is ∙ go (nat_le number through)
  where
    go : (b : Bool) → is_live store.shape (cond b left old) number slot ≡ is_live store.shape (cond b right old) number slot
    go true = law left right same number slot
    go false = refl

-- a refusal, whatever would have been answered else
pub refused_as : (A B : Type 0) (e : Stop ActFault) (Says : ActFault → Type 0) → IfActRefused {A = A} (Err e) Says → IfActRefused {A = B} (Err e) Says
refused_as A B stop.Memory Says h = tt
refused_as A B (stop.Refused fault) Says h = h

-- and the answer that it is
pub refused_answers : {A B : Type 0} (view : A → B) (e : Stop ActFault) (meaning : Result B ActFault) → IfActRefused {A = A} (Err e) (λ fault. meaning ≡ Err fault) → AnswersAs view (Err e) meaning
refused_answers view stop.Memory meaning h = tt
refused_answers view (stop.Refused fault) meaning h = h

-- a refusal that names the first node that is too full for what was found, where all that is wanted is active or found
pub refused_wanted : (r : Result Unit (Stop ActFault)) (e : Stop ActFault) → r ≡ Err e → (store : StoreWords) (found : List Coord) → IfActRefused r (IsFirstFull store 0 found) → FullIsOfMembers store.shape
    → (old wanted : List Coord) → IsOpenThrough store old (old ++ found) 0 → ((at : Coord) → Contains (old ++ found) at ↔ Contains (old ++ wanted) at)
    → IfActRefused {A = Unit} (Err e) (λ fault. unless_full (first_full store.shape (old ++ wanted)) ≡ Err fault)
refused_wanted r e is store found full law old wanted opens same =
    refused_then {A = Unit} (Err e) (IsFirstFull store 0 found) (λ fault. unless_full (first_full store.shape (old ++ wanted)) ≡ Err fault)
    (subst (λ (x : Result Unit (Stop ActFault)). IfActRefused x (IsFirstFull store 0 found)) is full)
    (λ fault says. ap unless_full (sym (law (old ++ found) (old ++ wanted) same)) ∙ says old opens)

-- what was opened for what was found is open for what is wanted
pub opened_wanted : (store copy next : StoreWords) → copy ≡ store → LiveIsOfMembers next.shape → (active found wanted : List Coord) → ((at : Coord) → Contains (active ++ found) at ↔ Contains (active ++ wanted) at)
    → OpensTo copy next 0 (length copy.shape.nodes) found → IsOpenThrough store active (active ++ found) 0 → IsOpenThrough next active (active ++ wanted) (length store.shape.nodes)
opened_wanted store copy next is law active found wanted same opens begins =
    subst (λ (s : StoreWords). IsOpenThrough next active (active ++ wanted) (length s.shape.nodes)) is
    (open_for_members next law active (active ++ found) (active ++ wanted) same (length copy.shape.nodes)
    (opens active (subst (λ (s : StoreWords). IsOpenThrough s active (active ++ found) 0) (sym is) begins)))

pub all_of : (Is : Coord → Type 0) (list : List Coord) → ((at : Coord) → Contains list at → Is at) → All Is list
all_of Is list is k d below = is (get_or list k d) (Contains-get_or list k d below)
