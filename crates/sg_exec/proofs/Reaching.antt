-- Wanted coordinates that are reached store by store, and the first layout that is too full.
use Rattle.std.proofs.Common.{◌≡◌, ℕ, zero, suc, ◌+◌, ◌≤◌, ◌<◌, ◌⊎◌, inl, inr, List, [], ◌∷◌, ◌++◌, length, Option, Some, None, refl, sym, ap, ◌∙◌, subst, arith}
use Rattle.std.specs.Prelude.{slice_get, unwrap_or}
use Rattle.std.specs.Option.{option_or}
use Rattle.std.specs.List.{AllZip}
use Rattle.std.proofs.lemmas.Option.{same_Some, slice_get_within}
use Rattle.std.proofs.lemmas.List.{length-append}
use Rattle.std.proofs.lemmas.Bool.{cases_lt}
use Rattle.sg_coord.specs.declared.coord.Coord.{Coord}
use Rattle.sg_layout.specs.declared.shape.Shape.{Shape}
use Rattle.sg_layout.specs.ClosureLaws.{ClosureIsOfMembers}
use Rattle.sg_layout.specs.Need.{FullNode, first_full}
use Rattle.sg_layout.specs.NeedLaws.{FullIsOfMembers}
use Rattle.sg_flat.specs.declared.effects.Turn.{Turn}
use Rattle.sg_flat.specs.declared.effects.RunFault.{RunFault}
use Rattle.sg_flat.specs.declared.state.FlatLayout.{FlatLayout}
use Rattle.sg_flat.specs.Effects.{writes_of, written_in}
use Rattle.sg_flat.specs.Kernel.{full_fault, first_full_layout}
use Rattle.sg_store.specs.StoreWords.{StoreWords}
use Rattle.sg_store.specs.StandsFor.{StandsFor}
use Rattle.sg_exec.specs.Standing.{shapes_of}
use Rattle.sg_exec.specs.steps.Landing.{current}
use Rattle.sg_exec.specs.steps.Wants.{AreWants, reached_layout, reached_layouts, AreReached}
use Rattle.sg_exec.proofs.StoreLists.{flat_at}

abbrev made_reached : List Coord → List (List (ℕ × ℕ)) → FlatLayout
made_reached active fields = record { active = active; fields = fields }

pub there : {A : Type 0} (xs : List A) (i : ℕ) → i < length xs → (x : A) × (slice_get xs i ≡ Some x)
there [] i below = absurd (omega arith)
there (x ∷ xs) zero below = (x, refl)
there (x ∷ xs) (suc i) below = there xs i (omega arith)

stands_at : (stores : List StoreWords) (flats : List FlatLayout) (i : ℕ) (store : StoreWords) (flat : FlatLayout) → AllZip StandsFor stores flats → slice_get stores i ≡ Some store → slice_get flats i ≡ Some flat → StandsFor store flat
stands_at stores flats i store flat all is is_flat =
    let found = flat_at stores flats i store all is in
    subst (λ (l : FlatLayout). StandsFor store l) (same_Some _ _ (sym found.1 ∙ is_flat)) found.2

pub before_push : {A : Type 0} (xs : List A) (x : A) (i : ℕ) → i < length xs → slice_get (xs ++ x ∷ []) i ≡ slice_get xs i
before_push [] x i below = absurd (omega arith)
before_push (y ∷ ys) x zero below = refl
before_push (y ∷ ys) x (suc i) below = before_push ys x i (omega arith)

pub at_push : {A : Type 0} (xs : List A) (x : A) → slice_get (xs ++ x ∷ []) (length xs) ≡ Some x
at_push [] x = refl
at_push (y ∷ ys) x = at_push ys x

-- ---- lists of layouts, from a number on

none_full : (k : ℕ) (stores : List StoreWords) (flats : List FlatLayout) (turns : List Turn)
    → ((j : ℕ) (store : StoreWords) (flat : FlatLayout) → slice_get stores j ≡ Some store → slice_get flats j ≡ Some flat → first_full store.shape (flat.active ++ written_in (k + j) turns) ≡ None)
    → first_full_layout k (shapes_of stores) flats turns ≡ None
none_full k [] flats turns each = refl
none_full k (store ∷ stores) [] turns each = refl
none_full k (store ∷ stores) (flat ∷ flats) turns each =
    let here : k + 0 ≡ k = omega arith in
    let first : first_full store.shape (flat.active ++ written_in k turns) ≡ None =
    ap (λ (n : ℕ). first_full store.shape (flat.active ++ written_in n turns)) (sym here) ∙ each 0 store flat refl refl in
    ap (λ (f : Option FullNode). option_or (full_fault k f) (first_full_layout (suc k) (shapes_of stores) flats turns)) first
    ∙ none_full (suc k) stores flats turns (λ j s l is is'. let next : suc k + j ≡ k + suc j = omega arith in
    ap (λ (n : ℕ). first_full s.shape (l.active ++ written_in n turns)) next ∙ each (suc j) s l is is')

-- the layout with this number is the first that is too full
first_is_full : (k i : ℕ) (stores : List StoreWords) (flats : List FlatLayout) (turns : List Turn) (store : StoreWords) (flat : FlatLayout) (fault : RunFault)
    → slice_get stores i ≡ Some store → slice_get flats i ≡ Some flat
    → ((j : ℕ) (s : StoreWords) (l : FlatLayout) → j < i → slice_get stores j ≡ Some s → slice_get flats j ≡ Some l → first_full s.shape (l.active ++ written_in (k + j) turns) ≡ None)
    → full_fault (k + i) (first_full store.shape (flat.active ++ written_in (k + i) turns)) ≡ Some fault → first_full_layout k (shapes_of stores) flats turns ≡ Some fault
first_is_full k i [] flats turns store flat fault is is_flat before full = absurd (cc)
first_is_full k i (first ∷ stores) [] turns store flat fault is is_flat before full = absurd (cc)
first_is_full k zero (first ∷ stores) (head ∷ flats) turns store flat fault is is_flat before full =
    let here : k + 0 ≡ k = omega arith in
    let found : full_fault k (first_full first.shape (head.active ++ written_in k turns)) ≡ Some fault =
    ap (λ (s : StoreWords). full_fault k (first_full s.shape (head.active ++ written_in k turns))) (same_Some _ _ is)
    ∙ ap (λ (l : FlatLayout). full_fault k (first_full store.shape (l.active ++ written_in k turns))) (same_Some _ _ is_flat)
    ∙ ap (λ (n : ℕ). full_fault n (first_full store.shape (flat.active ++ written_in n turns))) (sym here) ∙ full in
    ap (λ (f : Option RunFault). option_or f (first_full_layout (suc k) (shapes_of stores) flats turns)) found
first_is_full k (suc i) (first ∷ stores) (head ∷ flats) turns store flat fault is is_flat before full =
    let here : k + 0 ≡ k = omega arith in
    let next : k + suc i ≡ suc k + i = omega arith in
    let none : first_full first.shape (head.active ++ written_in k turns) ≡ None =
    ap (λ (n : ℕ). first_full first.shape (head.active ++ written_in n turns)) (sym here) ∙ before 0 first head (omega arith) refl refl in
    ap (λ (f : Option FullNode). option_or (full_fault k f) (first_full_layout (suc k) (shapes_of stores) flats turns)) none
    ∙ first_is_full (suc k) i stores flats turns store flat fault is is_flat
    (λ j s l low is_s is_l. let more : suc k + j ≡ k + suc j = omega arith in
    ap (λ (n : ℕ). first_full s.shape (l.active ++ written_in n turns)) more ∙ before (suc j) s l (omega arith) is_s is_l)
    (ap (λ (n : ℕ). full_fault n (first_full store.shape (flat.active ++ written_in n turns))) (sym next) ∙ full)

all_stand : (k : ℕ) (stores : List StoreWords) (copies : List (Option StoreWords)) (flats : List FlatLayout) (turns : List Turn) → AllZip StandsFor stores flats → length copies ≡ length stores
    → ((j : ℕ) (store : StoreWords) (copy : Option StoreWords) (flat : FlatLayout) → slice_get stores j ≡ Some store → slice_get copies j ≡ Some copy → slice_get flats j ≡ Some flat
    → StandsFor (unwrap_or copy store) (reached_layout store.shape flat (written_in (k + j) turns)))
    → AllZip StandsFor (current copies stores) (reached_layouts k (shapes_of stores) flats turns)
all_stand k [] [] [] turns all same each = tt
all_stand k [] [] (flat ∷ flats) turns all same each = absurd all
all_stand k [] (copy ∷ copies) flats turns all same each = absurd (omega arith)
all_stand k (store ∷ stores) [] flats turns all same each = absurd (omega arith)
all_stand k (store ∷ stores) (copy ∷ copies) [] turns all same each = absurd all
all_stand k (store ∷ stores) (copy ∷ copies) (flat ∷ flats) turns all same each = (
  (let here : k + 0 ≡ k = omega arith in
      subst (λ (n : ℕ). StandsFor (unwrap_or copy store) (reached_layout store.shape flat (written_in n turns))) here (each 0 store copy flat refl refl refl)),
  all_stand (suc k) stores copies flats turns all.1 (omega arith)
      (λ j s c l is is_copy is_flat. let next : k + suc j ≡ suc k + j = omega arith in
      subst (λ (n : ℕ). StandsFor (unwrap_or c s) (reached_layout s.shape l (written_in n turns))) next (each (suc j) s c l is is_copy is_flat)),
)

-- ---- from wants to what is written

module _ (stores : List StoreWords) (flats : List FlatLayout) (wants : List (List Coord)) (turns : List Turn)
    (full_of : (shape : Shape) → FullIsOfMembers shape) (closure_of : (shape : Shape) → ClosureIsOfMembers shape)
    (all : AllZip StandsFor stores flats) (are : AreWants flats wants (writes_of turns)) where
  zero_plus : (n : ℕ) → 0 + n ≡ n
  zero_plus n = omega arith

  as_written : (j : ℕ) (store : StoreWords) (flat : FlatLayout) (list : List Coord) → slice_get flats j ≡ Some flat → slice_get wants j ≡ Some list
      → first_full store.shape (flat.active ++ written_in (0 + j) turns) ≡ first_full store.shape (flat.active ++ list)
  as_written j store flat list is_flat is_list =
      ap (λ (n : ℕ). first_full store.shape (flat.active ++ written_in n turns)) (zero_plus j)
      ∙ sym (full_of store.shape (flat.active ++ list) (flat.active ++ written_in j turns) (are j flat list is_flat is_list))

  closed_as_written : (j : ℕ) (store : StoreWords) (flat : FlatLayout) (list : List Coord) → slice_get flats j ≡ Some flat → slice_get wants j ≡ Some list
      → reached_layout store.shape flat list ≡ reached_layout store.shape flat (written_in (0 + j) turns)
  closed_as_written j store flat list is_flat is_list =
      ap (λ (active : List Coord). made_reached active flat.fields) (closure_of store.shape (flat.active ++ list) (flat.active ++ written_in j turns) (are j flat list is_flat is_list))
      ∙ ap (λ (n : ℕ). reached_layout store.shape flat (written_in n turns)) (sym (zero_plus j))

  pub reached_none : (copies : List (Option StoreWords)) → length wants ≡ length stores → length copies ≡ length stores → AreReached stores wants copies → first_full_layout 0 (shapes_of stores) flats turns ≡ None
  reached_none copies same_wants same_copies reached = none_full 0 stores flats turns (λ j store flat is is_flat.
      let below : j < length stores = slice_get_within stores j store is in
      let list = there wants j (omega arith) in
      let copy = there copies j (omega arith) in
      as_written j store flat list.0 is_flat list.1 ∙ (reached j store list.0 copy.0 is list.1 copy.1 flat (stands_at stores flats j store flat all is is_flat)).0)

  pub reached_stand : (copies : List (Option StoreWords)) → length wants ≡ length stores → length copies ≡ length stores → AreReached stores wants copies → AllZip StandsFor (current copies stores) (reached_layouts 0 (shapes_of stores) flats turns)
  reached_stand copies same_wants same_copies reached = all_stand 0 stores copies flats turns all same_copies (λ j store copy flat is is_copy is_flat.
      let below : j < length stores = slice_get_within stores j store is in
      let list = there wants j (omega arith) in
      subst (λ (l : FlatLayout). StandsFor (unwrap_or copy store) l) (closed_as_written j store flat list.0 is_flat list.1)
      (reached j store list.0 copy is list.1 is_copy flat (stands_at stores flats j store flat all is is_flat)).1)

  -- the stores before the one with this number are reached, and it is too full
  pub reached_fault : (copies : List (Option StoreWords)) (i : ℕ) (store : StoreWords) (list : List Coord) (fault : RunFault) → length wants ≡ length stores → length copies ≡ i → AreReached stores wants copies
      → slice_get stores i ≡ Some store → slice_get wants i ≡ Some list
      → ((flat : FlatLayout) → StandsFor store flat → full_fault i (first_full store.shape (flat.active ++ list)) ≡ Some fault) → first_full_layout 0 (shapes_of stores) flats turns ≡ Some fault
  reached_fault copies i store list fault same_wants count reached is is_list full =
      let found = flat_at stores flats i store all is in
      first_is_full 0 i stores flats turns store found.0 fault is found.1
      (λ j s l low is_s is_l.
      let below : j < length stores = slice_get_within stores j s is_s in
      let list' = there wants j (omega arith) in
      let copy = there copies j (omega arith) in
      as_written j s l list'.0 is_l list'.1 ∙ (reached j s list'.0 copy.0 is_s list'.1 copy.1 l (stands_at stores flats j s l all is_s is_l)).0)
      (ap (λ (f : Option FullNode). full_fault (0 + i) f) (as_written i store found.0 list found.1 is_list)
      ∙ ap (λ (n : ℕ). full_fault n (first_full store.shape (found.0.active ++ list))) (zero_plus i) ∙ full found.0 found.2)

-- ---- one store more

pub reached_more : (stores : List StoreWords) (wants : List (List Coord)) (copies : List (Option StoreWords)) (i : ℕ) (store : StoreWords) (list : List Coord) (copy : Option StoreWords)
    → AreReached stores wants copies → length copies ≡ i → slice_get stores i ≡ Some store → slice_get wants i ≡ Some list
    → ((flat : FlatLayout) → StandsFor store flat → (first_full store.shape (flat.active ++ list) ≡ None) × StandsFor (unwrap_or copy store) (reached_layout store.shape flat list))
    → AreReached stores wants (copies ++ copy ∷ [])
reached_more stores wants copies i store list copy reached count is is_list step = λ j s l c is_s is_l is_c.
    by_place j s l c is_s is_l is_c (cases_lt j i)
  where
    by_place : (j : ℕ) (s : StoreWords) (l : List Coord) (c : Option StoreWords) → slice_get stores j ≡ Some s → slice_get wants j ≡ Some l → slice_get (copies ++ copy ∷ []) j ≡ Some c
        → (j < i) ⊎ (i ≤ j) → (flat : FlatLayout) → StandsFor s flat → (first_full s.shape (flat.active ++ l) ≡ None) × StandsFor (unwrap_or c s) (reached_layout s.shape flat l)
    by_place j s l c is_s is_l is_c (inl low) = reached j s l c is_s is_l (sym (before_push copies copy j (omega arith)) ∙ is_c)
    by_place j s l c is_s is_l is_c (inr high) =
        let long : j < length (copies ++ copy ∷ []) = slice_get_within (copies ++ copy ∷ []) j c is_c in
        let same : j ≡ i = omega (arith, length-append copies (copy ∷ [])) in
        let same_store : store ≡ s = same_Some _ _ (sym is ∙ ap (slice_get stores) (sym same) ∙ is_s) in
        let same_list : list ≡ l = same_Some _ _ (sym is_list ∙ ap (slice_get wants) (sym same) ∙ is_l) in
        let same_copy : copy ≡ c = same_Some _ _ (sym (at_push copies copy) ∙ ap (slice_get (copies ++ copy ∷ [])) (count ∙ sym same) ∙ is_c) in
        subst (λ (c' : Option StoreWords). (flat : FlatLayout) → StandsFor s flat → (first_full s.shape (flat.active ++ l) ≡ None) × StandsFor (unwrap_or c' s) (reached_layout s.shape flat l)) same_copy
        (subst (λ (l' : List Coord). (flat : FlatLayout) → StandsFor s flat → (first_full s.shape (flat.active ++ l') ≡ None) × StandsFor (unwrap_or copy s) (reached_layout s.shape flat l')) same_list
        (subst (λ (s' : StoreWords). (flat : FlatLayout) → StandsFor s' flat → (first_full s'.shape (flat.active ++ list) ≡ None) × StandsFor (unwrap_or copy s') (reached_layout s'.shape flat list)) same_store step))
