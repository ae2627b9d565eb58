-- What one write more wants.
use Rattle.std.proofs.Common.{◌≡◌, ℕ, zero, suc, ◌<◌, ◌⊎◌, inl, inr, true, ◌&&◌, int_eq, eqb, List, [], ◌∷◌, ◌++◌, map, length, Some, refl, sym, ap, ◌∙◌, subst, arith, append_assoc, append-nil}
use Rattle.std.specs.Prelude.{filter, slice_get, slice_set, All, Contains}
use Rattle.std.proofs.lemmas.Bool.{cases_eq, cond-true, cond-false, eq-eqb, eqb-true, ne_eqb, and_parts}
use Rattle.std.proofs.lemmas.Option.{same_Some}
use Rattle.std.proofs.lemmas.Bool.Decides.{Decides-int_eq}
use Rattle.std.proofs.lemmas.List.{map-append}
use Rattle.std.proofs.lemmas.List.Elements.{filter-append, All-nil, All-contains, All-contains_itself, All-weaker, Contains-append_left, Contains-append_right, Contains-append_cases, Contains-push_cases}
use Rattle.sg_coord.specs.declared.coord.Coord.{Coord}
use Rattle.sg_coord.specs.Coord.{Inside}
use Rattle.sg_coord.proofs.Uses.{same_parts}
use Rattle.sg_layout.specs.Axes.{bounds_of_shape}
use Rattle.sg_flat.specs.declared.effects.Write.{Write}
use Rattle.sg_flat.specs.declared.state.FlatLayout.{FlatLayout}
use Rattle.sg_store.specs.StoreWords.{StoreWords}
use Rattle.sg_exec.specs.steps.Wants.{coords_in, SameMembers, HasOneMore, AreWants, AreInside}

-- ---- the coordinates of writes

pub coords_more : (number : ℕ) (earlier later : List Write) → coords_in number (earlier ++ later) ≡ coords_in number earlier ++ coords_in number later
coords_more number earlier later =
    ap (map (λ (write : Write). write.at)) (filter-append (λ (write : Write). eqb write.layout number) earlier later)
    ∙ map-append (λ (write : Write). write.at) (filter (λ (write : Write). eqb write.layout number) earlier) (filter (λ (write : Write). eqb write.layout number) later)

coords_here : (number : ℕ) (write : Write) → write.layout ≡ number → coords_in number (write ∷ []) ≡ write.at ∷ []
coords_here number write same = ap (map (λ (w : Write). w.at)) (cond-true (eqb write.layout number) (write ∷ []) [] (eq-eqb write.layout number same))

coords_elsewhere : (number : ℕ) (write : Write) → (write.layout ≡ number → ⊥) → coords_in number (write ∷ []) ≡ []
coords_elsewhere number write other = ap (map (λ (w : Write). w.at)) (cond-false (eqb write.layout number) (write ∷ []) [] (ne_eqb write.layout number other))

-- ---- members

pub refl_members : (xs : List Coord) → SameMembers xs xs
refl_members xs = λ at. ((λ has. has), (λ has. has))

pub equal_members : (xs ys : List Coord) → xs ≡ ys → SameMembers xs ys
equal_members xs ys same = subst (λ (zs : List Coord). SameMembers xs zs) same (refl_members xs)

pub back_members : (xs ys : List Coord) → SameMembers xs ys → SameMembers ys xs
back_members xs ys same = λ at. ((same at).1, (same at).0)

pub then_members : (xs ys zs : List Coord) → SameMembers xs ys → SameMembers ys zs → SameMembers xs zs
then_members xs ys zs first second = λ at. ((λ has. (second at).0 ((first at).0 has)), (λ has. (first at).1 ((second at).1 has)))

-- the same on the right of both
pub more_members : (xs ys more : List Coord) → SameMembers xs ys → SameMembers (xs ++ more) (ys ++ more)
more_members xs ys more same = λ at. (one xs ys (λ x. (same x).0) at, one ys xs (λ x. (same x).1) at)
  where
    one : (lefts bs : List Coord) → ((x : Coord) → Contains lefts x → Contains bs x) → (at : Coord) → Contains (lefts ++ more) at → Contains (bs ++ more) at
    one lefts bs over at has = elim (Contains-append_cases lefts more at has) [
      | inl left ↦ Contains-append_left bs more at (over at left)
      | inr right ↦ Contains-append_right bs more at right
    ]

-- the same on the left of both
pub after_members : (front xs ys : List Coord) → SameMembers xs ys → SameMembers (front ++ xs) (front ++ ys)
after_members front xs ys same = λ at. (one xs ys (λ x. (same x).0) at, one ys xs (λ x. (same x).1) at)
  where
    one : (lefts bs : List Coord) → ((x : Coord) → Contains lefts x → Contains bs x) → (at : Coord) → Contains (front ++ lefts) at → Contains (front ++ bs) at
    one lefts bs over at has = elim (Contains-append_cases front lefts at has) [
      | inl left ↦ Contains-append_left front bs at left
      | inr right ↦ Contains-append_right front bs at (over at right)
    ]

-- the test that two coordinates are one
pub same_coord : (x y : Coord) → (eqb x.n y.n && (int_eq x.a y.a && (int_eq x.b y.b && int_eq x.c y.c))) ≡ true → x ≡ y
same_coord x y test =
    let first = and_parts (eqb x.n y.n) (int_eq x.a y.a && (int_eq x.b y.b && int_eq x.c y.c)) test in
    let second = and_parts (int_eq x.a y.a) (int_eq x.b y.b && int_eq x.c y.c) first.1 in
    let third = and_parts (int_eq x.b y.b) (int_eq x.c y.c) second.1 in
    same_parts x y (eqb-true x.n y.n first.0) ((Decides-int_eq x.a y.a).0 second.0) ((Decides-int_eq x.b y.b).0 third.0) ((Decides-int_eq x.c y.c).0 third.1)

-- one that is among them already
pub member_more : (xs : List Coord) (at : Coord) → Contains xs at → SameMembers xs (xs ++ at ∷ [])
member_more xs at there = λ x. (
  (λ has. Contains-append_left xs (at ∷ []) x has),
  (λ has. elim (Contains-push_cases xs at x has) [
    | inl before ↦ before
    | inr same ↦ subst (λ (y : Coord). Contains xs y) same there
  ]),
)

-- ---- one write

unchanged : (number : ℕ) (earlier : List Write) (write : Write) → (write.layout ≡ number → ⊥) → coords_in number earlier ≡ coords_in number (earlier ++ write ∷ [])
unchanged number earlier write other =
    sym (append-nil (coords_in number earlier)) ∙ ap (λ (more : List Coord). coords_in number earlier ++ more) (sym (coords_elsewhere number write other)) ∙ sym (coords_more number earlier (write ∷ []))

set_here : (wants : List (List Coord)) (i : ℕ) (old now : List Coord) → slice_get wants i ≡ Some old → slice_get (slice_set wants i now) i ≡ Some now
set_here [] i old now is = absurd (cc)
set_here (list ∷ wants) zero old now is = refl
set_here (list ∷ wants) (suc i) old now is = set_here wants i old now is

set_elsewhere : (wants : List (List Coord)) (i j : ℕ) (now : List Coord) → (i ≡ j → ⊥) → slice_get (slice_set wants i now) j ≡ slice_get wants j
set_elsewhere [] i j now other = refl
set_elsewhere (list ∷ wants) zero zero now other = absurd (other refl)
set_elsewhere (list ∷ wants) zero (suc j) now other = refl
set_elsewhere (list ∷ wants) (suc i) zero now other = refl
set_elsewhere (list ∷ wants) (suc i) (suc j) now other = set_elsewhere wants i j now (λ same. other (ap suc same))

-- the coordinate is active already, or the write is into another layout
pub want_active : (flats : List FlatLayout) (wants : List (List Coord)) (earlier : List Write) (write : Write) → AreWants flats wants earlier
    → ((flat : FlatLayout) (list : List Coord) → slice_get flats write.layout ≡ Some flat → slice_get wants write.layout ≡ Some list → Contains flat.active write.at)
    → AreWants flats wants (earlier ++ write ∷ [])
want_active flats wants earlier write are active = λ number flat list is_flat is_list. elim (cases_eq write.layout number) [
  | inl same ↦ (
      let here : Contains flat.active write.at = active flat list (ap (slice_get flats) same ∙ is_flat) (ap (slice_get wants) same ∙ is_list) in
      let old : SameMembers (flat.active ++ list) (flat.active ++ coords_in number earlier) = are number flat list is_flat is_list in
      then_members (flat.active ++ list) (flat.active ++ coords_in number earlier) (flat.active ++ coords_in number (earlier ++ write ∷ [])) old
      (then_members (flat.active ++ coords_in number earlier) ((flat.active ++ coords_in number earlier) ++ write.at ∷ []) (flat.active ++ coords_in number (earlier ++ write ∷ []))
      (member_more (flat.active ++ coords_in number earlier) write.at (Contains-append_left flat.active (coords_in number earlier) write.at here))
      (equal_members ((flat.active ++ coords_in number earlier) ++ write.at ∷ []) (flat.active ++ coords_in number (earlier ++ write ∷ []))
      (append_assoc flat.active (coords_in number earlier) (write.at ∷ [])
      ∙ ap (λ (more : List Coord). flat.active ++ (coords_in number earlier ++ more)) (sym (coords_here number write same)) ∙ ap (λ (more : List Coord). flat.active ++ more) (sym (coords_more number earlier (write ∷ []))))))
      )
  | inr other ↦ subst (λ (more : List Coord). SameMembers (flat.active ++ list) (flat.active ++ more)) (unchanged number earlier write other) (are number flat list is_flat is_list)
]

-- the coordinate is added to the list of its layout
pub want_pushed : (flats : List FlatLayout) (wants : List (List Coord)) (earlier : List Write) (write : Write) (old now : List Coord) → AreWants flats wants earlier
    → slice_get wants write.layout ≡ Some old → HasOneMore old now write.at → AreWants flats (slice_set wants write.layout now) (earlier ++ write ∷ [])
want_pushed flats wants earlier write old now are is_old one = λ number flat list is_flat is_list. elim (cases_eq write.layout number) [
  | inl same ↦ (
      let is_now : now ≡ list = same_Some _ _ (sym (set_here wants write.layout old now is_old) ∙ ap (slice_get (slice_set wants write.layout now)) same ∙ is_list) in
      let before : SameMembers (flat.active ++ old) (flat.active ++ coords_in number earlier) = are number flat old is_flat (ap (slice_get wants) (sym same) ∙ is_old) in
      then_members (flat.active ++ list) (flat.active ++ (old ++ write.at ∷ [])) (flat.active ++ coords_in number (earlier ++ write ∷ []))
      (after_members flat.active list (old ++ write.at ∷ []) (subst (λ (l : List Coord). SameMembers l (old ++ write.at ∷ [])) is_now one))
      (then_members (flat.active ++ (old ++ write.at ∷ [])) ((flat.active ++ old) ++ write.at ∷ []) (flat.active ++ coords_in number (earlier ++ write ∷ []))
      (equal_members (flat.active ++ (old ++ write.at ∷ [])) ((flat.active ++ old) ++ write.at ∷ []) (sym (append_assoc flat.active old (write.at ∷ []))))
      (then_members ((flat.active ++ old) ++ write.at ∷ []) ((flat.active ++ coords_in number earlier) ++ write.at ∷ []) (flat.active ++ coords_in number (earlier ++ write ∷ []))
      (more_members (flat.active ++ old) (flat.active ++ coords_in number earlier) (write.at ∷ []) before)
      (equal_members ((flat.active ++ coords_in number earlier) ++ write.at ∷ []) (flat.active ++ coords_in number (earlier ++ write ∷ []))
      (append_assoc flat.active (coords_in number earlier) (write.at ∷ [])
      ∙ ap (λ (more : List Coord). flat.active ++ (coords_in number earlier ++ more)) (sym (coords_here number write same)) ∙ ap (λ (more : List Coord). flat.active ++ more) (sym (coords_more number earlier (write ∷ [])))))))
      )
  | inr other ↦ subst (λ (more : List Coord). SameMembers (flat.active ++ list) (flat.active ++ more)) (unchanged number earlier write other)
      (are number flat list is_flat (sym (set_elsewhere wants write.layout number now other) ∙ is_list))
]

-- ---- what is wanted is inside

pub inside_at : (stores : List StoreWords) (wants : List (List Coord)) (i : ℕ) (store : StoreWords) (list : List Coord) → AreInside stores wants → slice_get stores i ≡ Some store → slice_get wants i ≡ Some list
    → All (Inside (bounds_of_shape store.shape)) list
inside_at [] wants i store list all is is_list = absurd (cc)
inside_at (first ∷ stores) [] i store list all is is_list = absurd all
inside_at (first ∷ stores) (head ∷ wants) zero store list all is is_list =
    subst (λ (s : StoreWords). All (Inside (bounds_of_shape s.shape)) list) (same_Some _ _ is) (subst (λ (l : List Coord). All (Inside (bounds_of_shape first.shape)) l) (same_Some _ _ is_list) all.0)
inside_at (first ∷ stores) (head ∷ wants) (suc i) store list all is is_list = inside_at stores wants i store list all.1 is is_list

pub inside_set : (stores : List StoreWords) (wants : List (List Coord)) (i : ℕ) (store : StoreWords) (now : List Coord) → AreInside stores wants → slice_get stores i ≡ Some store
    → All (Inside (bounds_of_shape store.shape)) now → AreInside stores (slice_set wants i now)
inside_set [] wants i store now all is inside = absurd (cc)
inside_set (first ∷ stores) [] i store now all is inside = absurd all
inside_set (first ∷ stores) (head ∷ wants) zero store now all is inside = (subst (λ (s : StoreWords). All (Inside (bounds_of_shape s.shape)) now) (sym (same_Some _ _ is)) inside, all.1)
inside_set (first ∷ stores) (head ∷ wants) (suc i) store now all is inside = (all.0, inside_set stores wants i store now all.1 is inside)

pub wanted_at : (stores : List StoreWords) (wants : List (List Coord)) (i : ℕ) (store : StoreWords) → AreInside stores wants → slice_get stores i ≡ Some store → i < length wants
wanted_at [] wants i store all is = absurd (cc)
wanted_at (first ∷ stores) [] i store all is = absurd all
wanted_at (first ∷ stores) (head ∷ wants) zero store all is = omega arith
wanted_at (first ∷ stores) (head ∷ wants) (suc i) store all is = let more = wanted_at stores wants i store all.1 is in omega arith

-- a list with one member more
pub one_more_inside : (P : Coord → Type 0) (old now : List Coord) (at : Coord) → HasOneMore old now at → All P old → P at → All P now
one_more_inside P old now at one all here =
    All-weaker (Contains now) P (λ (x : Coord) has. by_case x (Contains-push_cases old at x ((one x).0 has))) now (All-contains_itself now)
  where
    by_case : (x : Coord) → Contains old x ⊎ (at ≡ x) → P x
    by_case x (inl before) = All-contains P old x all before
    by_case x (inr same) = subst P same here

-- ---- no wants

pub no_wants_yet : (flats : List FlatLayout) (wants : List (List Coord)) → ((i : ℕ) (list : List Coord) → slice_get wants i ≡ Some list → list ≡ []) → AreWants flats wants []
no_wants_yet flats wants none = λ number flat list is_flat is_list. equal_members (flat.active ++ list) (flat.active ++ []) (ap (λ (l : List Coord). flat.active ++ l) (none number list is_list))

none_from : {A : Type 0} (xs : List (List A)) (k : ℕ) → ((i : ℕ) (list : List A) → slice_get xs i ≡ Some list → list ≡ []) → (i : ℕ) (list : List A) → slice_get (xs ++ [] ∷ []) i ≡ Some list → list ≡ []
none_from [] k all zero list is = sym (same_Some _ _ is)
none_from [] k all (suc i) list is = absurd (cc)
none_from (x ∷ xs) k all zero list is = all 0 list is
none_from (x ∷ xs) k all (suc i) list is = none_from xs k (λ j l e. all (suc j) l e) i list is

pub none_more : (wants : List (List Coord)) (new : List Coord) → new ≡ [] → ((i : ℕ) (list : List Coord) → slice_get wants i ≡ Some list → list ≡ [])
    → (i : ℕ) (list : List Coord) → slice_get (wants ++ new ∷ []) i ≡ Some list → list ≡ []
none_more wants new empty all i list is = none_from wants 0 all i list (ap (λ (l : List Coord). slice_get (wants ++ l ∷ []) i) (sym empty) ∙ is)

pub inside_none : (stores : List StoreWords) (wants : List (List Coord)) → length wants ≡ length stores → ((i : ℕ) (list : List Coord) → slice_get wants i ≡ Some list → list ≡ []) → AreInside stores wants
inside_none [] [] same all = tt
inside_none [] (list ∷ wants) same all = absurd (omega arith)
inside_none (store ∷ stores) [] same all = absurd (omega arith)
inside_none (store ∷ stores) (list ∷ wants) same all = (
  subst (λ (l : List Coord). All (Inside (bounds_of_shape store.shape)) l) (sym (all 0 list refl)) (All-nil (Inside (bounds_of_shape store.shape))),
  inside_none stores wants (omega arith) (λ i l e. all (suc i) l e),
)

pub wants_long : (stores : List StoreWords) (wants : List (List Coord)) → AreInside stores wants → length wants ≡ length stores
wants_long [] [] all = refl
wants_long [] (list ∷ wants) all = absurd all
wants_long (store ∷ stores) [] all = absurd all
wants_long (store ∷ stores) (list ∷ wants) all = ap suc (wants_long stores wants all.1)
