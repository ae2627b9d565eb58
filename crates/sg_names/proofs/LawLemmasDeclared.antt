-- The tables of a program have what its items declare, in order.
use Rattle.std.specs.Prelude.{◌≡◌, refl, ◌⊎◌, ℕ, ◌+◌, zero, suc, List, [], ◌∷◌, ◌++◌, length, map, fold, flat_map, slice_get, Some, Ok}
use Rattle.std.proofs.Common.{sym, ap, ◌∙◌, arith, add-one, append_assoc, inl, inr}
use Rattle.std.proofs.lemmas.List.{append-nil, map-append}
use Rattle.sg_ast.specs.declared.layout.FieldDecl.{FieldDecl}
use Rattle.sg_ast.specs.declared.layout.LayoutDecl.{LayoutDecl}
use Rattle.sg_ast.specs.declared.program.ConstDecl.{ConstDecl}
use Rattle.sg_ast.specs.declared.program.Item.{Item}
use Rattle.sg_ast.specs.declared.program.Item.TheVariants as item
use Rattle.sg_ast.specs.declared.program.Program.{Program}
use Rattle.sg_names.specs.declared.tables.NamedConstant.{NamedConstant}
use Rattle.sg_names.specs.declared.tables.NamedLayout.{NamedLayout}
use Rattle.sg_names.specs.declared.tables.NamedField.{NamedField}
use Rattle.sg_names.specs.Tables.{Tables, no_tables}
use Rattle.sg_names.specs.Declares.{constant_of, fields_from, declare}
use Rattle.sg_names.specs.Names.{tables_of}
use Rattle.sg_names.specs.Laws.{const_decls, layout_decls, kernel_decls, ConstantsAreDeclared, LayoutsAreDeclared, KernelsAreDeclared, FieldsAreDeclared, FieldsArePlaced}
use Rattle.sg_names.proofs.Declaring.{layouts-Layout, fields-Layout, field_at}
use Rattle.sg_names.proofs.LawLemmasFault.{tables_are}

abbrev named_constant : ConstDecl → NamedConstant
named_constant decl = record { name = decl.name; constant = constant_of decl }

abbrev named_layout : LayoutDecl → NamedLayout
named_layout decl = record { name = decl.name; axes = length decl.axes }

-- the fields of some layouts, where the numbers of the first layout and of its first field are given
abbrev pub fields_of_layouts : ℕ → ℕ → List LayoutDecl → List NamedField
fields_of_layouts layout number [] = []
fields_of_layouts layout number (decl ∷ decls) =
    fields_from layout number 0 decl.fields ++ fields_of_layouts (suc layout) (number + length decl.fields) decls

constants_from : (before : Tables) (items : List Item) → (fold declare before items).constants ≡ before.constants ++ map named_constant (const_decls items)
constants_from before [] = sym (append-nil before.constants)
constants_from before (item.Const decl ∷ items) =
    constants_from (declare before (item.Const decl)) items ∙ append_assoc before.constants (named_constant decl ∷ []) (map named_constant (const_decls items))
constants_from before (item.Layout decl ∷ items) = constants_from (declare before (item.Layout decl)) items
constants_from before (item.Kernel decl ∷ items) = constants_from (declare before (item.Kernel decl)) items
constants_from before (item.Command command ∷ items) = constants_from before items

layouts_from : (before : Tables) (items : List Item) → (fold declare before items).layouts ≡ before.layouts ++ map named_layout (layout_decls items)
layouts_from before [] = sym (append-nil before.layouts)
layouts_from before (item.Const decl ∷ items) = layouts_from (declare before (item.Const decl)) items
layouts_from before (item.Layout decl ∷ items) =
    layouts_from (declare before (item.Layout decl)) items ∙ append_assoc before.layouts (named_layout decl ∷ []) (map named_layout (layout_decls items))
layouts_from before (item.Kernel decl ∷ items) = layouts_from (declare before (item.Kernel decl)) items
layouts_from before (item.Command command ∷ items) = layouts_from before items

kernels_from : (before : Tables) (items : List Item) → (fold declare before items).kernels ≡ before.kernels ++ map (λ decl. decl.name) (kernel_decls items)
kernels_from before [] = sym (append-nil before.kernels)
kernels_from before (item.Const decl ∷ items) = kernels_from (declare before (item.Const decl)) items
kernels_from before (item.Layout decl ∷ items) = kernels_from (declare before (item.Layout decl)) items
kernels_from before (item.Kernel decl ∷ items) =
    kernels_from (declare before (item.Kernel decl)) items ∙ append_assoc before.kernels (decl.name ∷ []) (map (λ decl. decl.name) (kernel_decls items))
kernels_from before (item.Command command ∷ items) = kernels_from before items

fields_come : (before : Tables) (items : List Item)
    → (fold declare before items).fields ≡ before.fields ++ fields_of_layouts (length before.layouts) (length before.fields) (layout_decls items)
fields_come before [] = sym (append-nil before.fields)
fields_come before (item.Const decl ∷ items) = fields_come (declare before (item.Const decl)) items
fields_come before (item.Layout decl ∷ items) =
    let more = fields_from (length before.layouts) (length before.fields) 0 decl.fields in
    let after = declare before (item.Layout decl) in
    fields_come after items
    ∙ (ap (λ n. after.fields ++ fields_of_layouts n (length after.fields) (layout_decls items)) (layouts-Layout before decl ∙ add-one (length before.layouts))
    ∙ (ap (λ n. after.fields ++ fields_of_layouts (suc (length before.layouts)) n (layout_decls items)) (fields-Layout before decl)
    ∙ append_assoc before.fields more (fields_of_layouts (suc (length before.layouts)) (length before.fields + length decl.fields) (layout_decls items))))
fields_come before (item.Kernel decl ∷ items) = fields_come (declare before (item.Kernel decl)) items
fields_come before (item.Command command ∷ items) = fields_come before items

pub constants_are_declared : (program : Program) → ConstantsAreDeclared program
constants_are_declared program tables is = ap (λ (t : Tables). t.constants) (tables_are program tables is) ∙ constants_from no_tables program.items

pub layouts_are_declared : (program : Program) → LayoutsAreDeclared program
layouts_are_declared program tables is = ap (λ (t : Tables). t.layouts) (tables_are program tables is) ∙ layouts_from no_tables program.items

pub kernels_are_declared : (program : Program) → KernelsAreDeclared program
kernels_are_declared program tables is = ap (λ (t : Tables). t.kernels) (tables_are program tables is) ∙ kernels_from no_tables program.items

fields_are : (program : Program) (tables : Tables) → tables_of program ≡ Ok tables → tables.fields ≡ fields_of_layouts 0 0 (layout_decls program.items)
fields_are program tables is = ap (λ (t : Tables). t.fields) (tables_are program tables is) ∙ fields_come no_tables program.items

-- the names of fields
pub names_from : (layout number place : ℕ) (fields : List FieldDecl) → map (λ named. named.name) (fields_from layout number place fields) ≡ map (λ field. field.name) fields
names_from layout number place [] = refl
names_from layout number place (field ∷ fields) = ap (λ names. field.name ∷ names) (names_from layout (suc number) (suc place) fields)

names_of_layouts : (layout number : ℕ) (decls : List LayoutDecl)
    → map (λ named. named.name) (fields_of_layouts layout number decls) ≡ flat_map (λ decl. map (λ field. field.name) decl.fields) decls
names_of_layouts layout number [] = refl
names_of_layouts layout number (decl ∷ decls) =
    map-append (λ named. named.name) (fields_from layout number 0 decl.fields) (fields_of_layouts (suc layout) (number + length decl.fields) decls)
    ∙ (ap (λ names. names ++ map (λ named. named.name) (fields_of_layouts (suc layout) (number + length decl.fields) decls)) (names_from layout number 0 decl.fields)
    ∙ ap (λ names. map (λ field. field.name) decl.fields ++ names) (names_of_layouts (suc layout) (number + length decl.fields) decls))

pub fields_are_declared : (program : Program) → FieldsAreDeclared program
fields_are_declared program tables is = ap (map (λ named. named.name)) (fields_are program tables is) ∙ names_of_layouts 0 0 (layout_decls program.items)

-- where a field of a layout stands, and where one after the layout's
record IsHere (layout number place : ℕ) (fields : List FieldDecl) (k : ℕ) (named : NamedField) (field : FieldDecl) : Type 0 where
  there : slice_get fields k ≡ Some field
  same : named ≡ field_at layout (number + k) (place + k) field

record IsAfter (fields : List FieldDecl) (rest : List NamedField) (k : ℕ) (named : NamedField) (m : ℕ) : Type 0 where
  there : slice_get rest m ≡ Some named
  same : k ≡ length fields + m

same_named : (a b : NamedField) → Some a ≡ Some b → b ≡ a
same_named a b e = cc

placed_at : (layout n n' p p' : ℕ) (field : FieldDecl) → n ≡ n' → p ≡ p' → field_at layout n p field ≡ field_at layout n' p' field
placed_at layout n n' p p' field a b = ap (λ x. field_at layout x p field) a ∙ ap (λ x. field_at layout n' x field) b

here_or_after : (layout number place : ℕ) (fields : List FieldDecl) (rest : List NamedField) (k : ℕ) (named : NamedField)
    → slice_get (fields_from layout number place fields ++ rest) k ≡ Some named
    → ((field : FieldDecl) × IsHere layout number place fields k named field) ⊎ ((m : ℕ) × IsAfter fields rest k named m)
here_or_after layout number place [] rest k named there = inr (k, record { there = there; same = omega arith })
here_or_after layout number place (field ∷ fields) rest zero named there =
    let n : number ≡ number + 0 = omega arith in
    let p : place ≡ place + 0 = omega arith in
    inl (field, record { there = refl; same = same_named (field_at layout number place field) named there ∙ placed_at layout number (number + 0) place (place + 0) field n p })
here_or_after layout number place (field ∷ fields) rest (suc k) named there =
    elim (here_or_after layout (suc number) (suc place) fields rest k named there) [
      | inl here ↦
          let n : suc number + k ≡ number + suc k = omega arith in
          let p : suc place + k ≡ place + suc k = omega arith in
          inl (here.0, record { there = here.1.there; same = here.1.same ∙ placed_at layout (suc number + k) (number + suc k) (suc place + k) (place + suc k) here.0 n p })
      | inr after ↦
          let same = after.1.same in
          inr (after.0, record { there = after.1.there; same = omega (arith, same) })
    ]

-- a field of some layouts is where it says
record IsAmong (layout number : ℕ) (decls : List LayoutDecl) (k : ℕ) (named : NamedField) (decl : LayoutDecl) (field : FieldDecl) (l : ℕ) : Type 0 where
  number_is : named.at.number ≡ number + k
  layout_is : named.at.layout ≡ layout + l
  decl_is : slice_get decls l ≡ Some decl
  place_is : slice_get decl.fields named.at.place ≡ Some field
  name_is : named.name ≡ field.name
  type_is : named.at.ty ≡ field.ty

among : (layout number : ℕ) (decls : List LayoutDecl) (k : ℕ) (named : NamedField) → slice_get (fields_of_layouts layout number decls) k ≡ Some named
    → (decl : LayoutDecl) × (field : FieldDecl) × (l : ℕ) × IsAmong layout number decls k named decl field l
among layout number [] k named there = absurd (cc)
among layout number (decl ∷ decls) k named there =
    elim (here_or_after layout number 0 decl.fields (fields_of_layouts (suc layout) (number + length decl.fields) decls) k named there) [
      | inl here ↦
          let place : k ≡ 0 + k = omega arith in
          let own : layout ≡ layout + 0 = omega arith in
          let same = here.1.same in (
            decl,
            here.0,
            0,
            record {
              number_is = ap (λ (x : NamedField). x.at.number) same;
              layout_is = ap (λ (x : NamedField). x.at.layout) same ∙ own;
              decl_is = refl;
              place_is = ap (slice_get decl.fields) (ap (λ (x : NamedField). x.at.place) same ∙ sym place) ∙ here.1.there;
              name_is = ap (λ (x : NamedField). x.name) same;
              type_is = ap (λ (x : NamedField). x.at.ty) same;
            },
          )
      | inr after ↦
          let next = among (suc layout) (number + length decl.fields) decls after.0 named after.1.there in
          let same = after.1.same in
          let at = next.3.number_is in
          let of = next.3.layout_is in (
            next.0,
            next.1,
            suc (next.2),
            record {
              number_is = omega (arith, same, at);
              layout_is = omega (arith, of);
              decl_is = next.3.decl_is;
              place_is = next.3.place_is;
              name_is = next.3.name_is;
              type_is = next.3.type_is;
            },
          )
    ]

pub fields_are_placed : (program : Program) → FieldsArePlaced program
fields_are_placed program tables is number named there =
    let found = among 0 0 (layout_decls program.items) number named (ap (λ fields. slice_get fields number) (sym (fields_are program tables is)) ∙ there) in
    let n : 0 + number ≡ number = omega arith in
    let l : 0 + found.2 ≡ found.2 = omega arith in (
      found.0,
      found.1,
      record {
        number_is = found.3.number_is ∙ n;
        layout_is = ap (slice_get (layout_decls program.items)) (found.3.layout_is ∙ l) ∙ found.3.decl_is;
        place_is = found.3.place_is;
        name_is = found.3.name_is;
        type_is = found.3.type_is;
      },
    )
