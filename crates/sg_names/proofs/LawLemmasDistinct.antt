-- No name stands twice in the tables of a program.
use Rattle.std.specs.Prelude.{◌≡◌, refl, ℕ, ◌+◌, suc, Bool, true, false, ◌||◌, List, [], ◌∷◌, ◌++◌, length, map, Ok}
use Rattle.std.proofs.Common.{sym, ap, ◌∙◌, append_assoc}
use Rattle.std.specs.List.{list_any}
use Rattle.std.proofs.lemmas.List.{append-nil, map-append}
use Rattle.std.proofs.lemmas.List.Folds.{list_any-append}
use Rattle.sg_ast.specs.declared.token.Name.{Name}
use Rattle.sg_ast.specs.declared.layout.FieldDecl.{FieldDecl}
use Rattle.sg_ast.specs.declared.program.Item.{Item}
use Rattle.sg_ast.specs.declared.program.Item.TheVariants as item
use Rattle.sg_ast.specs.declared.program.Program.{Program}
use Rattle.sg_names.specs.declared.tables.NamedConstant.{NamedConstant}
use Rattle.sg_names.specs.declared.tables.NamedLayout.{NamedLayout}
use Rattle.sg_names.specs.declared.tables.NamedField.{NamedField}
use Rattle.sg_ast.specs.Token.{same_name}
use Rattle.sg_names.specs.Tables.{Tables, no_tables, is_known}
use Rattle.sg_names.specs.Declares.{declared_names, axes_declared, commands_in, constant_of, fields_from, declare}
use Rattle.sg_names.specs.Names.{has_repeat, declares_twice, fault_in, tables_from}
use Rattle.sg_names.specs.Laws.{all_names, NamesAreDistinct}
use Rattle.sg_ast.proofs.Uses.{same_name-symm}
use Rattle.sg_names.proofs.Declaring.{is_known-any}
use Rattle.sg_words.proofs.Uses.{neither_holds}
use Rattle.sg_names.proofs.Reading.{sound}
use Rattle.sg_names.proofs.LawLemmasFault.{ok_parts, same_tables}
use Rattle.sg_names.proofs.LawLemmasDeclared.{names_from}

-- neither_holds of two, from each
both_false : (a b : Bool) → a ≡ false → b ≡ false → (a || b) ≡ false
both_false true b left right = left
both_false false b left right = right

any_of_named : {X : Type 0} (name_of : X → Name) (test : Name → Bool) (xs : List X) → list_any test (map name_of xs) ≡ list_any (λ x. test (name_of x)) xs
any_of_named name_of test [] = refl
any_of_named name_of test (x ∷ xs) = ap (λ b. test (name_of x) || b) (any_of_named name_of test xs)

-- a name is known where it stands among all names
known_among : (tables : Tables) (name : Name) → list_any (same_name name) (all_names tables) ≡ is_known tables name
known_among tables name =
    let c = map (λ (named : NamedConstant). named.name) tables.constants in
    let l = map (λ (named : NamedLayout). named.name) tables.layouts in
    let f = map (λ (named : NamedField). named.name) tables.fields in
    let k = tables.kernels in
    let test = same_name name in
    list_any-append test c (l ++ (f ++ k))
    ∙ (ap (λ b. list_any test c || b) (list_any-append test l (f ++ k) ∙ ap (λ b. list_any test l || b) (list_any-append test f k))
    ∙ (ap (λ b. b || (list_any test l || (list_any test f || list_any test k))) (any_of_named (λ named. named.name) test tables.constants)
    ∙ (ap (λ b. list_any (λ named. same_name name named.name) tables.constants || (b || (list_any test f || list_any test k))) (any_of_named (λ named. named.name) test tables.layouts)
    ∙ (ap (λ b. list_any (λ named. same_name name named.name) tables.constants || (list_any (λ named. same_name name named.name) tables.layouts || (b || list_any test k)))
    (any_of_named (λ named. named.name) test tables.fields)
    ∙ sym (is_known-any tables name)))))

-- no element of either of two lists passes
none_of_both : (test : Name → Bool) (xs ys : List Name) → list_any test xs ≡ false → list_any test ys ≡ false → list_any test (xs ++ ys) ≡ false
none_of_both test xs ys left right = list_any-append test xs ys ∙ both_false (list_any test xs) (list_any test ys) left right

pub none_of_each : (test : Name → Bool) (xs ys : List Name) → list_any test (xs ++ ys) ≡ false → (list_any test xs ≡ false) × (list_any test ys ≡ false)
none_of_each test xs ys none = neither_holds (list_any test xs) (list_any test ys) (sym (list_any-append test xs ys) ∙ none)

-- a new name put in the middle of a list
put_one : (x : Name) (xs ys : List Name) → list_any (same_name x) (xs ++ ys) ≡ false → has_repeat (xs ++ ys) ≡ false → has_repeat (xs ++ x ∷ ys) ≡ false
put_one x [] ys new distinct = both_false (list_any (same_name x) ys) (has_repeat ys) new distinct
put_one x (y ∷ xs) ys new distinct =
    let apart = neither_holds (same_name x y) (list_any (same_name x) (xs ++ ys)) new in
    let parts = neither_holds (list_any (same_name y) (xs ++ ys)) (has_repeat (xs ++ ys)) distinct in
    let each = none_of_each (same_name y) xs ys parts.0 in
    both_false (list_any (same_name y) (xs ++ x ∷ ys)) (has_repeat (xs ++ x ∷ ys))
    (none_of_both (same_name y) xs (x ∷ ys) each.0 (both_false (same_name y x) (list_any (same_name y) ys) (same_name-symm y x ∙ apart.0) each.1))
    (put_one x xs ys apart.1 parts.1)

-- so is a list of new names without a repeat
put_more : (names xs ys : List Name) → list_any (λ name. list_any (same_name name) (xs ++ ys)) names ≡ false → has_repeat names ≡ false → has_repeat (xs ++ ys) ≡ false
    → has_repeat (xs ++ (names ++ ys)) ≡ false
put_more [] xs ys new once distinct = distinct
put_more (x ∷ names) xs ys new once distinct =
    let news = neither_holds (list_any (same_name x) (xs ++ ys)) (list_any (λ name. list_any (same_name name) (xs ++ ys)) names) new in
    let parts = neither_holds (list_any (same_name x) names) (has_repeat names) once in
    let each = none_of_each (same_name x) xs ys news.0 in
    put_one x xs (names ++ ys) (none_of_both (same_name x) xs (names ++ ys) each.0 (none_of_both (same_name x) names ys parts.0 each.1))
    (put_more names xs ys news.1 parts.1 distinct)

any_same : (p q : Name → Bool) (names : List Name) → ((name : Name) → p name ≡ q name) → list_any p names ≡ list_any q names
any_same p q [] same = refl
any_same p q (name ∷ names) same = ap (λ b. b || list_any p names) (same name) ∙ ap (λ b. q name || b) (any_same p q names same)

-- what a declaration without a fault may rely on: names that are new to the tables, each once
record AreAdded (before : Tables) (names : List Name) : Type 0 where
  new : list_any (λ name. list_any (same_name name) (all_names before)) names ≡ false
  once : has_repeat names ≡ false

are_added : (before : Tables) (given : Item) → declares_twice before given ≡ false → AreAdded before (declared_names given)
are_added before given once =
    let parts = neither_holds (list_any (is_known before) (declared_names given)) (has_repeat (declared_names given) || has_repeat (axes_declared given)) once in
    record {
      new = any_same (λ name. list_any (same_name name) (all_names before)) (is_known before) (declared_names given) (known_among before) ∙ parts.0;
      once = (neither_holds (has_repeat (declared_names given)) (has_repeat (axes_declared given)) parts.1).0;
    }

distinct_by : (xs ys : List Name) → xs ≡ ys → has_repeat xs ≡ false → has_repeat ys ≡ false
distinct_by xs ys same none = ap has_repeat (sym same) ∙ none

module _ (before : Tables) where
  abbrev c : List Name
  c = map (λ named. named.name) before.constants

  abbrev l : List Name
  l = map (λ named. named.name) before.layouts

  abbrev f : List Name
  f = map (λ named. named.name) before.fields

  abbrev k : List Name
  k = before.kernels

  regrouped : (rest : List Name) → (c ++ (l ++ f)) ++ rest ≡ c ++ (l ++ (f ++ rest))
  regrouped rest = append_assoc c (l ++ f) rest ∙ ap (λ names. c ++ names) (append_assoc l f rest)

  distinct_more : (given : Item) → declares_twice before given ≡ false → has_repeat (all_names before) ≡ false → has_repeat (all_names (declare before given)) ≡ false
  distinct_more (item.Const decl) once distinct =
      let added = are_added before (item.Const decl) once in
      let new = (neither_holds (list_any (same_name decl.name) (all_names before)) false added.new).0 in
      distinct_by (c ++ decl.name ∷ (l ++ (f ++ k))) (all_names (declare before (item.Const decl)))
      (sym (append_assoc c (decl.name ∷ []) (l ++ (f ++ k)))
      ∙ ap (λ names. names ++ (l ++ (f ++ k))) (sym (map-append (λ (named : NamedConstant). named.name) before.constants (record { name = decl.name; constant = constant_of decl } ∷ []))))
      (put_one decl.name c (l ++ (f ++ k)) new distinct)
  distinct_more (item.Layout decl) once distinct =
      let added = are_added before (item.Layout decl) once in
      let names = map (λ (field : FieldDecl). field.name) decl.fields in
      let news = neither_holds (list_any (same_name decl.name) (all_names before)) (list_any (λ name. list_any (same_name name) (all_names before)) names) added.new in
      let parts = neither_holds (list_any (same_name decl.name) names) (has_repeat names) added.once in
      let fields = put_more names (c ++ (l ++ f)) k
      (any_same (λ name. list_any (same_name name) ((c ++ (l ++ f)) ++ k)) (λ name. list_any (same_name name) (all_names before)) names
      (λ name. ap (list_any (same_name name)) (regrouped k)) ∙ news.1)
      parts.1 (distinct_by (all_names before) ((c ++ (l ++ f)) ++ k) (sym (regrouped k)) distinct) in
      let new = (
      let each = none_of_each (same_name decl.name) c (l ++ (f ++ k)) news.0 in
      let each_l = none_of_each (same_name decl.name) l (f ++ k) each.1 in
      let each_f = none_of_each (same_name decl.name) f k each_l.1 in
      none_of_both (same_name decl.name) (c ++ l) (f ++ (names ++ k)) (none_of_both (same_name decl.name) c l each.0 each_l.0)
      (none_of_both (same_name decl.name) f (names ++ k) each_f.0 (none_of_both (same_name decl.name) names k parts.0 each_f.1))
      ) in
      distinct_by ((c ++ l) ++ decl.name ∷ (f ++ (names ++ k))) (all_names (declare before (item.Layout decl)))
      (append_assoc c l (decl.name ∷ (f ++ (names ++ k)))
      ∙ ap (λ names. c ++ names) (
      sym (append_assoc l (decl.name ∷ []) (f ++ (names ++ k)))
      ∙ (ap (λ start. start ++ (f ++ (names ++ k))) (sym (map-append (λ (named : NamedLayout). named.name) before.layouts (record { name = decl.name; axes = length decl.axes } ∷ [])))
      ∙ ap (λ rest. map (λ (named : NamedLayout). named.name) (before.layouts ++ record { name = decl.name; axes = length decl.axes } ∷ []) ++ rest)
      (sym (append_assoc f names k)
      ∙ ap (λ start. start ++ k) (ap (λ some. f ++ some) (sym (names_from (length before.layouts) (length before.fields) 0 decl.fields))
      ∙ sym (map-append (λ (named : NamedField). named.name) before.fields (fields_from (length before.layouts) (length before.fields) 0 decl.fields)))))
      ))
      (put_one decl.name (c ++ l) (f ++ (names ++ k)) new
      (distinct_by ((c ++ (l ++ f)) ++ (names ++ k)) ((c ++ l) ++ (f ++ (names ++ k))) (regrouped (names ++ k) ∙ sym (append_assoc c l (f ++ (names ++ k)))) fields))
  distinct_more (item.Kernel decl) once distinct =
      let added = are_added before (item.Kernel decl) once in
      let new = (neither_holds (list_any (same_name decl.name) (all_names before)) false added.new).0 in
      distinct_by (all_names before ++ decl.name ∷ []) (all_names (declare before (item.Kernel decl)))
      (append_assoc c (l ++ (f ++ k)) (decl.name ∷ [])
      ∙ ap (λ names. c ++ names) (append_assoc l (f ++ k) (decl.name ∷ []) ∙ ap (λ names. l ++ names) (append_assoc f k (decl.name ∷ []))))
      (put_one decl.name (all_names before) []
      (none_of_both (same_name decl.name) (all_names before) [] new refl) (distinct_by (all_names before) (all_names before ++ []) (sym (append-nil (all_names before))) distinct))
  distinct_more (item.Command command) once distinct = distinct

distinct_from : (before : Tables) (commands number : ℕ) (items : List Item) (tables : Tables) → tables_from before commands number items ≡ Ok tables
    → has_repeat (all_names before) ≡ false → has_repeat (all_names tables) ≡ false
distinct_from before commands number [] tables is distinct = ap (λ t. has_repeat (all_names t)) (sym (same_tables (Ok before) before tables refl is)) ∙ distinct
distinct_from before commands number (first ∷ items) tables is distinct =
    let parts = ok_parts (fault_in before commands number first) (tables_from (declare before first) (commands + commands_in first) (suc number) items) tables is in
    let once = (sound before commands number first parts.0).once in
    distinct_from (declare before first) (commands + commands_in first) (suc number) items tables parts.1 (distinct_more before first once distinct)

pub names_are_distinct : (program : Program) → NamesAreDistinct program
names_are_distinct program tables is = distinct_from no_tables 0 1 program.items tables is refl
