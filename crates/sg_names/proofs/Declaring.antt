-- What it takes to declare an item: no name twice, and few things.
use Rattle.std.specs.Prelude.{◌≡◌, refl, ℕ, ◌+◌, ◌^◌, ◌<◌, suc, Bool, true, false, ◌||◌, List, [], ◌∷◌, ◌++◌, length, map, find, option_map, is_some, position, cond, not, nat_lt, Option, Some, None}
use Rattle.std.proofs.Common.{sym, ap, ◌∙◌, arith, append_assoc, add-one}
use Rattle.std.specs.List.{list_any, AllByRecursion, position_or_len}
use Rattle.std.specs.Option.{option_or}
use Rattle.std.proofs.lemmas.Bool.Decides.{nat_tests}
use Rattle.std.proofs.lemmas.List.{length_push}
use Rattle.std.proofs.Math.ListN.{length-append}
use Rattle.std.proofs.lemmas.List.Folds.{find-append}
use Rattle.sg_ast.specs.declared.token.Name.{Name}
use Rattle.sg_ast.specs.declared.layout.FieldDecl.{FieldDecl}
use Rattle.sg_ast.specs.declared.layout.LayoutDecl.{LayoutDecl}
use Rattle.sg_ast.specs.declared.kernel.KernelDecl.{KernelDecl}
use Rattle.sg_ast.specs.declared.program.Item.TheVariants as item
use Rattle.sg_names.specs.declared.tables.NamedField.{NamedField}
use Rattle.sg_ast.specs.Token.{same_name}
use Rattle.sg_names.specs.Tables.{Tables, is_known, layout_named, field_named, kernel_named}
use Rattle.sg_names.specs.Declares.{fields_from, declare}
use Rattle.sg_names.specs.Names.{has_repeat, declares_twice, first_past, too_many}
use Rattle.sg_words.proofs.Uses.{neither_holds}
use Rattle.sg_ast.proofs.Uses.{same_name-symm}

pub length-fields_from : (layout number place : ℕ) (fields : List FieldDecl) → length (fields_from layout number place fields) ≡ length fields
length-fields_from layout number place [] = refl
length-fields_from layout number place (field ∷ fields) = ap suc (length-fields_from layout (suc number) (suc place) fields)

list_any-names : (test : Name → Bool) (fields : List FieldDecl) → list_any test (map (λ field. field.name) fields) ≡ list_any (λ field. test field.name) fields
list_any-names test [] = refl
list_any-names test (field ∷ fields) = ap (λ b. test field.name || b) (list_any-names test fields)

regroup : (a b c d e : Bool) → ((a || b) || ((c || d) || e)) ≡ ((a || (b || c)) || (d || e))
regroup true b c d e = refl
regroup false true c d e = refl
regroup false false true d e = refl
regroup false false false d e = refl

-- what stands twice in a layout, by its parts
pub declares_twice-Layout : (before : Tables) (decl : LayoutDecl) → declares_twice before (item.Layout decl)
    ≡ ((is_known before decl.name || (list_any (λ field. is_known before field.name) decl.fields || list_any (λ field. same_name decl.name field.name) decl.fields))
    || (has_repeat (map (λ field. field.name) decl.fields) || has_repeat decl.axes))
declares_twice-Layout before decl =
    regroup (is_known before decl.name) (list_any (is_known before) (map (λ field. field.name) decl.fields)) (list_any (same_name decl.name) (map (λ field. field.name) decl.fields))
    (has_repeat (map (λ field. field.name) decl.fields)) (has_repeat decl.axes)
    ∙ (ap (λ b. (is_known before decl.name || (b || list_any (same_name decl.name) (map (λ field. field.name) decl.fields))) || (has_repeat (map (λ field. field.name) decl.fields) || has_repeat decl.axes))
    (list_any-names (is_known before) decl.fields)
    ∙ ap (λ b. (is_known before decl.name || (list_any (λ field. is_known before field.name) decl.fields || b)) || (has_repeat (map (λ field. field.name) decl.fields) || has_repeat decl.axes))
    (list_any-names (same_name decl.name) decl.fields))

pub same_names : (names : List Name) → map (λ name. name) names ≡ names
same_names [] = refl
same_names (name ∷ names) = ap (λ more. name ∷ more) (same_names names)

pub first_past_by : (l l' f f' k k' commands : ℕ) → l ≡ l' → f ≡ f' → k ≡ k' → first_past l f k commands ≡ first_past l' f' k' commands
first_past_by l l' f f' k k' commands a b c = ap (λ n. first_past n f k commands) a ∙ (ap (λ n. first_past l' n k commands) b ∙ ap (λ n. first_past l' f' n commands) c)

-- how many there are once an item is declared
pub layouts-Layout : (tables : Tables) (decl : LayoutDecl) → length (declare tables (item.Layout decl)).layouts ≡ length tables.layouts + 1
layouts-Layout tables decl = length_push tables.layouts (record { name = decl.name; axes = length decl.axes })

pub fields-Layout : (tables : Tables) (decl : LayoutDecl) → length (declare tables (item.Layout decl)).fields ≡ length tables.fields + length decl.fields
fields-Layout tables decl =
    length-append tables.fields (fields_from (length tables.layouts) (length tables.fields) 0 decl.fields)
    ∙ ap (λ n. length tables.fields + n) (length-fields_from (length tables.layouts) (length tables.fields) 0 decl.fields)

pub too_many-Layout : (tables : Tables) (decl : LayoutDecl) (l f k commands : ℕ) → l ≡ length tables.layouts → f ≡ length tables.fields → k ≡ length tables.kernels
    → first_past (l + 1) (f + length decl.fields) k commands ≡ too_many (declare tables (item.Layout decl)) commands
too_many-Layout tables decl l f k commands a b c =
    first_past_by (l + 1) (length (declare tables (item.Layout decl)).layouts) (f + length decl.fields) (length (declare tables (item.Layout decl)).fields) k (length tables.kernels) commands
    (ap (λ n. n + 1) a ∙ sym (layouts-Layout tables decl)) (ap (λ n. n + length decl.fields) b ∙ sym (fields-Layout tables decl)) c

-- a look-up that finds nothing
some-find : {X : Type 0} (test : X → Bool) (xs : List X) → is_some (find test xs) ≡ list_any test xs
some-find test [] = refl
some-find test (x ∷ xs) = by (test x) (some-find test xs)
  where
    by : (b : Bool) → is_some (find test xs) ≡ list_any test xs → is_some (cond b (Some x) (find test xs)) ≡ (b || list_any test xs)
    by true h = refl
    by false h = h

lt-suc : (m n : ℕ) → nat_lt (1 + m) (suc n) ≡ nat_lt m n
lt-suc m n = grind (arith, nat_tests)

lt-first : (n : ℕ) → nat_lt 0 (suc n) ≡ true
lt-first n = grind (arith, nat_tests)

some-position : {X : Type 0} (test : X → Bool) (xs : List X) → nat_lt (position_or_len test xs) (length xs) ≡ list_any test xs
some-position test [] = refl
some-position test (x ∷ xs) = by (test x) (some-position test xs)
  where
    by : (b : Bool) → nat_lt (position_or_len test xs) (length xs) ≡ list_any test xs
        → nat_lt (cond (not b) (1 + position_or_len test xs) 0) (suc (length xs)) ≡ (b || list_any test xs)
    by true h = lt-first (length xs)
    by false h = lt-suc (position_or_len test xs) (length xs) ∙ h

pub is_some-position : {X : Type 0} (test : X → Bool) (xs : List X) → is_some (position test xs) ≡ list_any test xs
is_some-position test xs = by (nat_lt (position_or_len test xs) (length xs)) (position_or_len test xs) ∙ some-position test xs
  where
    by : (b : Bool) (n : ℕ) → is_some (cond b (Some n) None) ≡ b
    by true n = refl
    by false n = refl

is_some-map : {X Y : Type 0} (f : X → Y) (o : Option X) → is_some (option_map f o) ≡ is_some o
is_some-map f None = refl
is_some-map f (Some x) = refl

pub is_some-found : {X Y : Type 0} (f : X → Y) (test : X → Bool) (xs : List X) → is_some (option_map f (find test xs)) ≡ list_any test xs
is_some-found f test xs = is_some-map f (find test xs) ∙ some-find test xs

is_nothing : {X : Type 0} (o : Option X) → is_some o ≡ false → o ≡ None
is_nothing None e = refl
is_nothing (Some x) e = absurd (cc)

pub not_found : {X : Type 0} (test : X → Bool) (xs : List X) → list_any test xs ≡ false → find test xs ≡ None
not_found test xs h = is_nothing (find test xs) (some-find test xs ∙ h)

-- a name is known where it stands in one of the tables
pub is_known-any : (tables : Tables) (name : Name) → is_known tables name
    ≡ (list_any (λ named. same_name name named.name) tables.constants || (list_any (λ named. same_name name named.name) tables.layouts
    || (list_any (λ named. same_name name named.name) tables.fields || list_any (same_name name) tables.kernels)))
is_known-any tables name =
    ap (λ b. b || (is_some (layout_named tables name) || (is_some (field_named tables name) || is_some (kernel_named tables name)))) (is_some-found (λ named. named.constant) (λ named. same_name name named.name) tables.constants)
    ∙ (ap (λ b. list_any (λ named. same_name name named.name) tables.constants || (b || (is_some (field_named tables name) || is_some (kernel_named tables name)))) (is_some-position (λ named. same_name name named.name) tables.layouts)
    ∙ (ap (λ b. list_any (λ named. same_name name named.name) tables.constants || (list_any (λ named. same_name name named.name) tables.layouts || (b || is_some (kernel_named tables name)))) (is_some-found (λ named. named.at) (λ named. same_name name named.name) tables.fields)
    ∙ ap (λ b. list_any (λ named. same_name name named.name) tables.constants || (list_any (λ named. same_name name named.name) tables.layouts || (list_any (λ named. same_name name named.name) tables.fields || b))) (is_some-position (same_name name) tables.kernels)))

-- a name that is not known stands in none of the tables
pub record IsNew (tables : Tables) (name : Name) : Type 0 where
  pub constants : find (λ named. same_name name named.name) tables.constants ≡ None
  pub layouts : find (λ named. same_name name named.name) tables.layouts ≡ None
  pub fields : find (λ named. same_name name named.name) tables.fields ≡ None
  pub kernels : find (same_name name) tables.kernels ≡ None

pub new_name : (tables : Tables) (name : Name) → is_known tables name ≡ false → IsNew tables name
new_name tables name h =
    let one = neither_holds (list_any (λ named. same_name name named.name) tables.constants) _ (sym (is_known-any tables name) ∙ h) in
    let two = neither_holds (list_any (λ named. same_name name named.name) tables.layouts) _ one.1 in
    let three = neither_holds (list_any (λ named. same_name name named.name) tables.fields) _ two.1 in
    record {
      constants = not_found (λ named. same_name name named.name) tables.constants one.0;
      layouts = not_found (λ named. same_name name named.name) tables.layouts two.0;
      fields = not_found (λ named. same_name name named.name) tables.fields three.0;
      kernels = not_found (same_name name) tables.kernels three.1;
    }

-- a kernel's name is new
pub new_kernel : (tables : Tables) (kernel : KernelDecl) → declares_twice tables (item.Kernel kernel) ≡ false → IsNew tables kernel.name
new_kernel tables kernel h = new_name tables kernel.name ((neither_holds (is_known tables kernel.name) false (neither_holds (is_known tables kernel.name || false) false h).0).0)

-- none of a list of fields has the name of a field of the tables
abbrev pub AreNew : List NamedField → List FieldDecl → Type 0
AreNew fields decls = AllByRecursion (λ decl. find (λ named. same_name decl.name named.name) fields ≡ None) decls

new_fields : (tables : Tables) (decls : List FieldDecl) → list_any (λ decl. is_known tables decl.name) decls ≡ false → AreNew tables.fields decls
new_fields tables [] h = tt
new_fields tables (decl ∷ decls) h =
    let parts = neither_holds (is_known tables decl.name) (list_any (λ other. is_known tables other.name) decls) h in
    ((new_name tables decl.name parts.0).fields, new_fields tables decls parts.1)

-- what a layout that declares nothing twice may rely on
pub record IsNewLayout (tables : Tables) (decl : LayoutDecl) : Type 0 where
  pub name : IsNew tables decl.name
  pub fields : AreNew tables.fields decl.fields
  pub distinct : has_repeat (map (λ field. field.name) decl.fields) ≡ false

pub new_layout : (tables : Tables) (decl : LayoutDecl) → declares_twice tables (item.Layout decl) ≡ false → IsNewLayout tables decl
new_layout tables decl h =
    let parts = neither_holds (is_known tables decl.name || (list_any (λ field. is_known tables field.name) decl.fields || list_any (λ field. same_name decl.name field.name) decl.fields)) _ (sym (declares_twice-Layout tables decl) ∙ h) in
    let names = neither_holds (is_known tables decl.name) _ parts.0 in
    record {
      name = new_name tables decl.name names.0;
      fields = new_fields tables decl.fields ((neither_holds (list_any (λ field. is_known tables field.name) decl.fields) _ names.1).0);
      distinct = (neither_holds (has_repeat (map (λ field. field.name) decl.fields)) _ parts.1).0;
    }

-- While the fields of a layout are put into a table: those that are left follow those that are there, have new names, and have room.
pub record IsPushing (layout place : ℕ) (whole fields : List NamedField) (left : List FieldDecl) : Type 0 where
  pub same : fields ++ fields_from layout (length fields) place left ≡ whole
  pub new : AreNew fields left
  pub distinct : has_repeat (map (λ field. field.name) left) ≡ false
  pub room : length fields + length left < 2 ^ 32

-- the field that a declaration becomes
abbrev pub field_at : ℕ → ℕ → ℕ → FieldDecl → NamedField
field_at layout number place decl = record { name = decl.name; at = record { number = number; layout = layout; place = place; ty = decl.ty } }

still_new : (fields : List NamedField) (named : NamedField) (left : List FieldDecl) → AreNew fields left
    → list_any (same_name named.name) (map (λ field. field.name) left) ≡ false → AreNew (fields ++ named ∷ []) left
still_new fields named [] new h = tt
still_new fields named (decl ∷ left) new h =
    let parts = neither_holds (same_name named.name decl.name) (list_any (same_name named.name) (map (λ field. field.name) left)) h in (
      find-append (λ other. same_name decl.name other.name) fields (named ∷ [])
          ∙ (ap (λ o. option_or o (find (λ other. same_name decl.name other.name) (named ∷ []))) new.0
          ∙ ap (λ b. cond b (Some named) None) (same_name-symm decl.name named.name ∙ parts.0)),
      still_new fields named left new.1 parts.1,
    )

pub pushing_more : (layout place : ℕ) (whole fields : List NamedField) (decl : FieldDecl) (left : List FieldDecl)
    → IsPushing layout place whole fields (decl ∷ left) → IsPushing layout (place + 1) whole (fields ++ field_at layout (length fields) place decl ∷ []) left
pushing_more layout place whole fields decl left h =
    let named = field_at layout (length fields) place decl in
    let parts = neither_holds (list_any (same_name decl.name) (map (λ field. field.name) left)) (has_repeat (map (λ field. field.name) left)) h.distinct in
    let longer = length_push fields named in
    record {
      same = append_assoc fields (named ∷ []) (fields_from layout (length (fields ++ named ∷ [])) (place + 1) left)
          ∙ (ap (λ n. fields ++ named ∷ fields_from layout n (place + 1) left) (longer ∙ add-one (length fields))
          ∙ (ap (λ n. fields ++ named ∷ fields_from layout (suc (length fields)) n left) (add-one place) ∙ h.same));
      new = still_new fields named left h.new.1 parts.0;
      distinct = parts.1;
      room = omega (arith, longer, h.room);
    }

pub same_pushed : (fields : List NamedField) (name : Name) (number layout place : ℕ) (decl : FieldDecl) → name ≡ decl.name → number ≡ length fields
    → fields ++ record { name = name; at = record { number = number; layout = layout; place = place; ty = decl.ty } } ∷ [] ≡ fields ++ field_at layout (length fields) place decl ∷ []
same_pushed fields name number layout place decl a b =
    ap (λ n. fields ++ record { name = n; at = record { number = number; layout = layout; place = place; ty = decl.ty } } ∷ []) a ∙ ap (λ n. fields ++ field_at layout n place decl ∷ []) b
