-- What a name is looked up to, and the name of a number, are each other's inverses.
use Rattle.std.specs.Prelude.{◌≡◌, refl, ℕ, ◌+◌, zero, suc, Bool, true, false, not, ◌||◌, cond, nat_lt, List, [], ◌∷◌, ◌++◌, length, map, find, position, slice_get, option_map, Option, Some, None, Ok}
use Rattle.std.proofs.Common.{sym, ap, ◌∙◌, subst, arith}
use Rattle.std.specs.List.{list_any, position_or_len}
use Rattle.std.proofs.lemmas.Bool.Decides.{nat_tests}
use Rattle.sg_ast.specs.declared.token.Name.{Name}
use Rattle.sg_ast.specs.declared.program.Program.{Program}
use Rattle.sg_names.specs.declared.tables.Constant.{Constant}
use Rattle.sg_names.specs.declared.tables.FieldAt.{FieldAt}
use Rattle.sg_names.specs.declared.tables.NamedConstant.{NamedConstant}
use Rattle.sg_names.specs.declared.tables.NamedLayout.{NamedLayout}
use Rattle.sg_names.specs.declared.tables.NamedField.{NamedField}
use Rattle.sg_ast.specs.Token.{same_name}
use Rattle.sg_names.specs.Tables.{Tables}
use Rattle.sg_names.specs.Names.{has_repeat, tables_of}
use Rattle.sg_names.specs.Laws.{all_names, NamesStandOnce, ConstantsAreFound, ConstantsAreNumbered, LayoutsAreFound, FieldsAreFound, FieldsAreNumbered, KernelsAreFound}
use Rattle.sg_names.proofs.Declaring.{same_names}
use Rattle.sg_words.proofs.Uses.{neither_holds}
use Rattle.sg_ast.proofs.Uses.{same_name-is, same_name-self, same_name-symm}
use Rattle.sg_names.proofs.LawLemmasDeclared.{fields_are_placed}
use Rattle.sg_names.proofs.LawLemmasDistinct.{none_of_each, names_are_distinct}

-- parts of a list without a repeat have none
first_part : (xs ys : List Name) → has_repeat (xs ++ ys) ≡ false → has_repeat xs ≡ false
first_part [] ys distinct = refl
first_part (x ∷ xs) ys distinct =
    let parts = neither_holds (list_any (same_name x) (xs ++ ys)) (has_repeat (xs ++ ys)) distinct in
    let here = (none_of_each (same_name x) xs ys parts.0).0 in
    let rest = first_part xs ys parts.1 in
    ap (λ b. b || has_repeat xs) here ∙ rest

last_part : (xs ys : List Name) → has_repeat (xs ++ ys) ≡ false → has_repeat ys ≡ false
last_part [] ys distinct = distinct
last_part (x ∷ xs) ys distinct = last_part xs ys (neither_holds (list_any (same_name x) (xs ++ ys)) (has_repeat (xs ++ ys)) distinct).1

-- the first thing that passes, with its number
abbrev numbered : {X : Type 0} → (X → Bool) → List X → Option ℕ
numbered test [] = None
numbered test (x ∷ xs) = cond (test x) (Some 0) (option_map suc (numbered test xs))

-- a number below an end
abbrev within : ℕ → ℕ → Option ℕ
within n end = cond (nat_lt n end) (Some n) None

abbrev when : Bool → ℕ → Option ℕ
when b n = cond b (Some n) None

when_suc : (b : Bool) (n : ℕ) → when b (suc n) ≡ option_map suc (when b n)
when_suc true n = refl
when_suc false n = refl

later_place : (n m : ℕ) → within (1 + n) (suc m) ≡ option_map suc (within n m)
later_place n m =
    let same : nat_lt (1 + n) (suc m) ≡ nat_lt n m = grind (arith, nat_tests) in
    let next : 1 + n ≡ suc n = omega arith in
    ap (λ b. when b (1 + n)) same ∙ (ap (when (nat_lt n m)) next ∙ when_suc (nat_lt n m) n)

first_place : (m : ℕ) → within 0 (suc m) ≡ Some 0
first_place m = let same : nat_lt 0 (suc m) ≡ true = grind (arith, nat_tests) in ap (λ b. when b 0) same

position_by : {X : Type 0} (test : X → Bool) (xs : List X) (b : Bool) → position test xs ≡ numbered test xs
    → within (cond (not b) (1 + position_or_len test xs) 0) (suc (length xs)) ≡ cond b (Some 0) (option_map suc (numbered test xs))
position_by test xs true rest = first_place (length xs)
position_by test xs false rest = later_place (position_or_len test xs) (length xs) ∙ ap (option_map suc) rest

position_is : {X : Type 0} (test : X → Bool) (xs : List X) → position test xs ≡ numbered test xs
position_is test [] = refl
position_is test (x ∷ xs) = position_by test xs (test x) (position_is test xs)

pred_some : (o : Option ℕ) (n : ℕ) → option_map suc o ≡ Some n → (m : ℕ) × (o ≡ Some m) × (n ≡ suc m)
pred_some None n e = absurd (cc)
pred_some (Some m) n e = let same : n ≡ suc m = cc in (m, refl, same)

module _ {X : Type 0} (name_of : X → Name) where
  -- the thing of a number has the name that was looked up, and no earlier one
  found_at : (name : Name) (xs : List X) (number : ℕ) → numbered (λ x. same_name name (name_of x)) xs ≡ Some number
      → (x : X) × (slice_get xs number ≡ Some x) × (name ≡ name_of x) × (find (λ y. same_name name (name_of y)) xs ≡ Some x)
  found_at name [] number e = absurd (cc)
  found_at name (x ∷ xs) number e = by (same_name name (name_of x)) refl e (found_at name xs)
    where
      by : (b : Bool) → same_name name (name_of x) ≡ b → cond b (Some 0) (option_map suc (numbered (λ y. same_name name (name_of y)) xs)) ≡ Some number
          → ((k : ℕ) → numbered (λ y. same_name name (name_of y)) xs ≡ Some k
          → (y : X) × (slice_get xs k ≡ Some y) × (name ≡ name_of y) × (find (λ z. same_name name (name_of z)) xs ≡ Some y))
          → (y : X) × (slice_get (x ∷ xs) number ≡ Some y) × (name ≡ name_of y) × (cond b (Some x) (find (λ z. same_name name (name_of z)) xs) ≡ Some y)
      by true is here rest = let zeroth : number ≡ 0 = cc in (x, ap (slice_get (x ∷ xs)) zeroth, same_name-is name (name_of x) is, refl)
      by false is later rest =
          let less = pred_some (numbered (λ y. same_name name (name_of y)) xs) number later in
          let next = rest less.0 less.1 in
          (next.0, ap (slice_get (x ∷ xs)) less.2 ∙ next.1, next.2, next.3)

  apart_at : (name : Name) (xs : List X) (number : ℕ) (x : X) → slice_get xs number ≡ Some x → list_any (same_name name) (map name_of xs) ≡ false → same_name name (name_of x) ≡ false
  apart_at name [] number x there none = absurd (cc)
  apart_at name (y ∷ xs) zero x there none =
      let same : y ≡ x = cc in
      ap (λ z. same_name name (name_of z)) (sym same) ∙ (neither_holds (same_name name (name_of y)) (list_any (same_name name) (map name_of xs)) none).0
  apart_at name (y ∷ xs) (suc number) x there none =
      apart_at name xs number x there (neither_holds (same_name name (name_of y)) (list_any (same_name name) (map name_of xs)) none).1

  -- if no name stands twice, the thing of a number is looked up by its name
  number_at : (xs : List X) (number : ℕ) (x : X) → has_repeat (map name_of xs) ≡ false → slice_get xs number ≡ Some x
      → (numbered (λ y. same_name (name_of x) (name_of y)) xs ≡ Some number) × (find (λ y. same_name (name_of x) (name_of y)) xs ≡ Some x)
  number_at [] number x distinct there = absurd (cc)
  number_at (y ∷ xs) zero x distinct there =
      let same : y ≡ x = cc in
      let is = ap (λ z. same_name (name_of x) (name_of z)) same ∙ same_name-self (name_of x) in (
        ap (λ b. cond b (Some 0) (option_map suc (numbered (λ z. same_name (name_of x) (name_of z)) xs))) is,
        ap (λ b. cond b (Some y) (find (λ z. same_name (name_of x) (name_of z)) xs)) is ∙ ap Some same,
      )
  number_at (y ∷ xs) (suc number) x distinct there =
      let parts = neither_holds (list_any (same_name (name_of y)) (map name_of xs)) (has_repeat (map name_of xs)) distinct in
      let apart = same_name-symm (name_of x) (name_of y) ∙ apart_at (name_of y) xs number x there parts.0 in
      let next = number_at xs number x parts.1 there in (
        ap (λ b. cond b (Some 0) (option_map suc (numbered (λ z. same_name (name_of x) (name_of z)) xs))) apart ∙ ap (option_map suc) next.0,
        ap (λ b. cond b (Some y) (find (λ z. same_name (name_of x) (name_of z)) xs)) apart ∙ next.1,
      )

  -- what is found by a name stands at a number
  find_numbered : (name : Name) (xs : List X) (x : X) → find (λ y. same_name name (name_of y)) xs ≡ Some x → (number : ℕ) × (numbered (λ y. same_name name (name_of y)) xs ≡ Some number)
  find_numbered name [] x e = absurd (cc)
  find_numbered name (y ∷ xs) x e = by (same_name name (name_of y)) e (find_numbered name xs x)
    where
      by : (b : Bool) → cond b (Some y) (find (λ z. same_name name (name_of z)) xs) ≡ Some x
          → (find (λ z. same_name name (name_of z)) xs ≡ Some x → (number : ℕ) × (numbered (λ z. same_name name (name_of z)) xs ≡ Some number))
          → (number : ℕ) × (cond b (Some 0) (option_map suc (numbered (λ z. same_name name (name_of z)) xs)) ≡ Some number)
      by true e rest = (0, refl)
      by false e rest = let next = rest e in (suc (next.0), ap (option_map suc) next.1)

  by_name : (name : Name) (xs : List X) (number : ℕ) → position (λ x. same_name name (name_of x)) xs ≡ Some number → option_map name_of (slice_get xs number) ≡ Some name
  by_name name xs number e =
      let found = found_at name xs number (sym (position_is (λ x. same_name name (name_of x)) xs) ∙ e) in
      ap (option_map name_of) found.1 ∙ ap Some (sym found.2)

  has_value : (o : Option X) (name : Name) → option_map name_of o ≡ Some name → (x : X) × (o ≡ Some x) × (name_of x ≡ name)
  has_value None name e = absurd (cc)
  has_value (Some x) name e = let same : name_of x ≡ name = cc in (x, refl, same)

  by_number : (name : Name) (xs : List X) (number : ℕ) → has_repeat (map name_of xs) ≡ false → option_map name_of (slice_get xs number) ≡ Some name
      → position (λ x. same_name name (name_of x)) xs ≡ Some number
  by_number name xs number distinct e =
      let named = has_value (slice_get xs number) name e in
      position_is (λ x. same_name name (name_of x)) xs
      ∙ subst (λ n. numbered (λ x. same_name n (name_of x)) xs ≡ Some number) named.2 (number_at xs number named.0 distinct named.1).0

same_number : (a b : ℕ) → Some a ≡ Some b → a ≡ b
same_number a b e = cc

-- a name that stands at two numbers of a list without a repeat
pub names_stand_once : (program : Program) → NamesStandOnce program
names_stand_once program tables is name place other here there =
    let names = all_names tables in
    let once = ap has_repeat (same_names names) ∙ names_are_distinct program tables is in
    same_number place other (sym (number_at (λ n. n) names place name once here).0 ∙ (number_at (λ n. n) names other name once there).0)

-- the names of each kind are distinct
record AreDistinct (tables : Tables) : Type 0 where
  constants : has_repeat (map (λ (named : NamedConstant). named.name) tables.constants) ≡ false
  layouts : has_repeat (map (λ (named : NamedLayout). named.name) tables.layouts) ≡ false
  fields : has_repeat (map (λ (named : NamedField). named.name) tables.fields) ≡ false
  kernels : has_repeat (map (λ name. name) tables.kernels) ≡ false

each_distinct : (program : Program) (tables : Tables) → tables_of program ≡ Ok tables → AreDistinct tables
each_distinct program tables is =
    let c = map (λ (named : NamedConstant). named.name) tables.constants in
    let l = map (λ (named : NamedLayout). named.name) tables.layouts in
    let f = map (λ (named : NamedField). named.name) tables.fields in
    let k = tables.kernels in
    let all = names_are_distinct program tables is in
    let after_c = last_part c (l ++ (f ++ k)) all in
    let after_l = last_part l (f ++ k) after_c in
    record {
      constants = first_part c (l ++ (f ++ k)) all;
      layouts = first_part l (f ++ k) after_c;
      fields = first_part f k after_l;
      kernels = ap has_repeat (same_names k) ∙ last_part f k after_l;
    }

pub layouts_are_found : (program : Program) → LayoutsAreFound program
layouts_are_found program tables is name number = (
  (λ e. by_name (λ (named : NamedLayout). named.name) name tables.layouts number e),
  (λ e. by_number (λ (named : NamedLayout). named.name) name tables.layouts number (each_distinct program tables is).layouts e),
)

itself : (o : Option Name) → option_map (λ name. name) o ≡ o
itself None = refl
itself (Some name) = refl

pub kernels_are_found : (program : Program) → KernelsAreFound program
kernels_are_found program tables is name number = (
  (λ e. sym (itself (slice_get tables.kernels number)) ∙ by_name (λ n. n) name tables.kernels number e),
  (λ e. by_number (λ n. n) name tables.kernels number (each_distinct program tables is).kernels (itself (slice_get tables.kernels number) ∙ e)),
)

abbrev named_constant : Name → Constant → NamedConstant
named_constant name constant = record { name = name; constant = constant }

abbrev named_field : Name → FieldAt → NamedField
named_field name at = record { name = name; at = at }

mapped : {X Y : Type 0} (f : X → Y) (o : Option X) (y : Y) → option_map f o ≡ Some y → (x : X) × (o ≡ Some x) × (f x ≡ y)
mapped f None y e = absurd (cc)
mapped f (Some x) y e = let same : f x ≡ y = cc in (x, refl, same)

pub constants_are_numbered : (program : Program) → ConstantsAreNumbered program
constants_are_numbered program tables is name number = (
  (λ e.
      let found = found_at (λ (named : NamedConstant). named.name) name tables.constants number (sym (position_is (λ named. same_name name named.name) tables.constants) ∙ e) in
      (found.0.constant, found.1 ∙ ap (λ n. Some (named_constant n found.0.constant)) (sym found.2))),
  (λ there.
      position_is (λ named. same_name name named.name) tables.constants
      ∙ (number_at (λ (named : NamedConstant). named.name) tables.constants number (named_constant name there.0) (each_distinct program tables is).constants there.1).0),
)

pub constants_are_found : (program : Program) → ConstantsAreFound program
constants_are_found program tables is name constant = (
  (λ e.
      let test = λ (named : NamedConstant). same_name name named.name in
      let some = mapped (λ (named : NamedConstant). named.constant) (find test tables.constants) constant e in
      let place = find_numbered (λ (named : NamedConstant). named.name) name tables.constants some.0 some.1 in
      let found = found_at (λ (named : NamedConstant). named.name) name tables.constants place.0 place.1 in
      let same = same_some found.0 some.0 (sym found.3 ∙ some.1) in (
        place.0,
        position_is test tables.constants ∙ place.1,
        found.1 ∙ (ap (λ n. Some (named_constant n found.0.constant)) (sym found.2) ∙ ap (λ c. Some (named_constant name c)) (ap (λ (named : NamedConstant). named.constant) same ∙ some.2)),
      )),
  (λ there.
      ap (option_map (λ (named : NamedConstant). named.constant))
      (number_at (λ (named : NamedConstant). named.name) tables.constants there.0 (named_constant name constant) (each_distinct program tables is).constants there.2).1),
)
  where
    same_some : (a b : NamedConstant) → Some a ≡ Some b → a ≡ b
    same_some a b e = cc

same_field : (a b : NamedField) → Some a ≡ Some b → a ≡ b
same_field a b e = cc

-- a field's number is its place
number_is_place : (program : Program) (tables : Tables) → tables_of program ≡ Ok tables → (number : ℕ) (named : NamedField) → slice_get tables.fields number ≡ Some named → named.at.number ≡ number
number_is_place program tables is number named there = (fields_are_placed program tables is number named there).2.number_is

pub fields_are_found : (program : Program) → FieldsAreFound program
fields_are_found program tables is name at = (
  (λ e.
      let test = λ (named : NamedField). same_name name named.name in
      let some = mapped (λ (named : NamedField). named.at) (find test tables.fields) at e in
      let place = find_numbered (λ (named : NamedField). named.name) name tables.fields some.0 some.1 in
      let found = found_at (λ (named : NamedField). named.name) name tables.fields place.0 place.1 in
      let same = same_field found.0 some.0 (sym found.3 ∙ some.1) in
      let whole = found.1 ∙ (ap (λ n. Some (named_field n found.0.at)) (sym found.2) ∙ ap (λ x. Some (named_field name x)) (ap (λ (named : NamedField). named.at) same ∙ some.2)) in
      ap (slice_get tables.fields) (number_is_place program tables is place.0 (named_field name at) whole) ∙ whole),
  (λ there.
      ap (option_map (λ (named : NamedField). named.at))
      (number_at (λ (named : NamedField). named.name) tables.fields at.number (named_field name at) (each_distinct program tables is).fields there).1),
)

pub fields_are_numbered : (program : Program) → FieldsAreNumbered program
fields_are_numbered program tables is name number = (
  (λ e.
      let some = mapped (λ (named : NamedField). named.name) (slice_get tables.fields number) name e in
      let whole = some.1 ∙ ap (λ n. Some (named_field n some.0.at)) some.2 in (
        some.0.at,
        ap (option_map (λ (named : NamedField). named.at))
            (number_at (λ (named : NamedField). named.name) tables.fields number (named_field name some.0.at) (each_distinct program tables is).fields whole).1,
        number_is_place program tables is number some.0 some.1,
      )),
  (λ there.
      ap (λ n. option_map (λ (named : NamedField). named.name) (slice_get tables.fields n)) (sym there.2)
      ∙ ap (option_map (λ (named : NamedField). named.name)) ((fields_are_found program tables is name there.0).0 there.1)),
)
