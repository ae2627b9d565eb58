-- The layouts that a program declares fit its tables.
use Rattle.std.proofs.Common.{◌≡◌, Bool, true, false, List, [], ◌∷◌, map, length, slice_get, Option, Some, None, option_map, refl, sym, ap, ◌∙◌}
use Rattle.std.specs.Option.{option_and_then}
use Rattle.std.specs.List.{list_all}
use Rattle.std.proofs.lemmas.Option.{slice_get-map}
use Rattle.std.proofs.lemmas.Bool.{and_from}
use Rattle.sg_layout.specs.declared.shape.Shape.{Shape}
use Rattle.sg_ast.specs.declared.layout.FieldDecl.{FieldDecl}
use Rattle.sg_ast.specs.declared.layout.LayoutDecl.{LayoutDecl}
use Rattle.sg_ast.specs.declared.program.ConstDecl.{ConstDecl}
use Rattle.sg_ast.specs.declared.program.Program.{Program}
use Rattle.sg_names.specs.declared.tables.NamedConstant.{NamedConstant}
use Rattle.sg_names.specs.declared.tables.NamedLayout.{NamedLayout}
use Rattle.sg_names.specs.Tables.{Tables}
use Rattle.sg_names.specs.Declares.{constant_of}
use Rattle.sg_names.specs.Shapes.{shape_of}
use Rattle.sg_names.specs.Laws.{const_decls, layout_decls, ConstantsAreDeclared, LayoutsAreDeclared, FieldsArePlaced, FieldsAreFound}
use Rattle.sg_types.specs.TypeTable.{is_numeric}
use Rattle.sg_types.specs.Laws.{DeclaredLayoutsFit}

abbrev named_layout : LayoutDecl → NamedLayout
named_layout decl = record { name = decl.name; axes = length decl.axes }

abbrev named_constant : ConstDecl → NamedConstant
named_constant decl = record { name = decl.name; constant = constant_of decl }

-- a declaration has as many axes in its shape as in the tables
same_axes : (tables : Tables) (decl : Option LayoutDecl)
    → option_map (λ (shape : Shape). shape.axes) (option_map (shape_of tables) decl) ≡ option_map (λ (named : NamedLayout). named.axes) (option_map named_layout decl)
same_axes tables None = refl
same_axes tables (Some decl) = refl

-- a declared constant is a number
declared_numeric : (decl : ConstDecl) → is_numeric (constant_of decl).ty ≡ true
declared_numeric decl = go decl.unsigned refl
  where
    go : (unsigned : Bool) → decl.unsigned ≡ unsigned → is_numeric (constant_of decl).ty ≡ true
    go true is = rw is refl
    go false is = rw is refl

all_numeric : (decls : List ConstDecl) → list_all (λ (named : NamedConstant). is_numeric named.constant.ty) (map named_constant decls) ≡ true
all_numeric [] = refl
all_numeric (decl ∷ decls) =
    and_from (is_numeric (constant_of decl).ty) (list_all (λ (named : NamedConstant). is_numeric named.constant.ty) (map named_constant decls)) (declared_numeric decl) (all_numeric decls)

-- by what the tables of a program are, and where a field is found
pub declared_layouts_fit : ((program : Program) → ConstantsAreDeclared program) → ((program : Program) → LayoutsAreDeclared program)
    → ((program : Program) → FieldsArePlaced program) → ((program : Program) → FieldsAreFound program) → DeclaredLayoutsFit
declared_layouts_fit constants_are_declared layouts_are_declared fields_are_placed fields_are_found program tables is =
    let decls = layout_decls program.items in
    record {
      fields = λ name at found.
          let here = fields_are_placed program tables is at.number (record { name = name; at = at }) ((fields_are_found program tables is name at).0 found) in
          let decl = here.0 in
          ap (option_and_then (λ (shape : Shape). slice_get shape.fields at.place)) (slice_get-map (shape_of tables) decls at.layout ∙ ap (option_map (shape_of tables)) here.2.layout_is)
          ∙ (slice_get-map (λ (field : FieldDecl). field.ty) decl.fields at.place
          ∙ (ap (option_map (λ (field : FieldDecl). field.ty)) here.2.place_is ∙ ap Some (sym here.2.type_is)));
      axes = λ layout n there.
          ap (option_map (λ (shape : Shape). shape.axes)) (slice_get-map (shape_of tables) decls layout)
          ∙ (same_axes tables (slice_get decls layout)
          ∙ (ap (option_map (λ (named : NamedLayout). named.axes)) (sym (slice_get-map named_layout decls layout) ∙ ap (λ (layouts : List NamedLayout). slice_get layouts layout) (sym (layouts_are_declared program tables is)))
          ∙ there));
      constants = ap (list_all (λ (named : NamedConstant). is_numeric named.constant.ty)) (constants_are_declared program tables is) ∙ all_numeric (const_decls program.items);
    }
