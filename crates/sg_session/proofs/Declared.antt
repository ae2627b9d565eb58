-- The layouts of a program with tables have the counts of declared layouts.
use Rattle.std.proofs.Common.{◌≡◌, ℕ, suc, ◌+◌, ◌≤◌, ◌<◌, Bool, true, false, List, [], ◌∷◌, ◌++◌, map, length, length-append, Option, Some, None, Ok, refl, sym, ap, ◌∙◌, arith}
use Rattle.std.specs.Prelude.{if◌then◌else◌, ◌&&◌, nat_le, nat_lt, option_map}
use Rattle.std.specs.List.{list_all}
use Rattle.std.proofs.lemmas.Bool.{and_from, leb-false, le-leb}
use Rattle.sg_words.proofs.Uses.{fault_or-ok}
use Rattle.sg_words.specs.declared.operators.Ty.{Ty}
use Rattle.sg_words.specs.declared.operators.Ty.TheVariants as ty
use Rattle.sg_ast.specs.declared.layout.FieldDecl.{FieldDecl}
use Rattle.sg_ast.specs.declared.layout.LayoutDecl.{LayoutDecl}
use Rattle.sg_ast.specs.declared.program.Item.{Item}
use Rattle.sg_ast.specs.declared.program.Item.TheVariants as item
use Rattle.sg_ast.specs.declared.program.Program.{Program}
use Rattle.sg_ast.specs.Token.{is_name}
use Rattle.sg_ast.specs.Limits.{most_listed_axes, most_listed_nodes}
use Rattle.sg_ast.specs.Grammar.{one_to, one_or_more, is_node, is_field_ty, is_field_decl, is_layout, is_item}
use Rattle.sg_layout.specs.Limits.{most_nodes, most_fields}
use Rattle.sg_layout.specs.Rules.{is_field, is_declared}
use Rattle.sg_names.specs.declared.fault.NameFault.TheVariants.{Unknown, Twice, TooMany}
use Rattle.sg_names.specs.declared.fault.Which.{Which}
use Rattle.sg_names.specs.declared.fault.Which.TheVariants.{Layouts, Fields, Kernels, Commands}
use Rattle.sg_names.specs.Tables.{Tables, no_tables}
use Rattle.sg_names.specs.Declares.{declare, commands_in, fields_from}
use Rattle.sg_names.specs.Limits.{most_layouts, most_program_fields, most_kernels, most_commands}
use Rattle.sg_names.specs.Names.{uses_unknown, declares_twice, too_many, fault_in, tables_from, tables_of}
use Rattle.sg_names.specs.Shapes.{shape_of, node_shape}
use Rattle.sg_names.specs.Laws.{layout_decls}
use Rattle.sg_session.proofs.Lists.{count_map}

both_parts : (a b : Bool) → (a && b) ≡ true → (a ≡ true) × (b ≡ true)
both_parts true b e = (refl, e)
both_parts false b e = absurd (cc)

-- ---- no more fields than there may be

no_count : (a b : Bool) (n : ℕ) (o : Option Which) → (if a then Some (Unknown n) else (if b then Some (Twice n) else option_map TooMany o)) ≡ None → o ≡ None
no_count true b n o e = absurd (cc)
no_count false true n o e = absurd (cc)
no_count false false n None e = refl
no_count false false n (Some which) e = absurd (cc)

fields_in : (a b d f : Bool) → (if a then Some Layouts else (if b then Some Fields else (if d then Some Kernels else (if f then Some Commands else None)))) ≡ None → b ≡ false
fields_in true b d f e = absurd (cc)
fields_in false true d f e = absurd (cc)
fields_in false false d f e = refl

length-fields : (layout number place : ℕ) (fields : List FieldDecl) → length (fields_from layout number place fields) ≡ length fields
length-fields layout number place [] = refl
length-fields layout number place (field ∷ fields) = ap suc (length-fields layout (suc number) (suc place) fields)

-- a layout has few fields
abbrev has_few : LayoutDecl → Bool
has_few decl = nat_le (length decl.fields) most_fields

few_fields : (before : Tables) (commands number : ℕ) (decl : LayoutDecl) → fault_in before commands number (item.Layout decl) ≡ None → has_few decl ≡ true
few_fields before commands number decl e =
    let after = declare before (item.Layout decl) in
    let none = no_count (uses_unknown before (item.Layout decl)) (declares_twice before (item.Layout decl)) number (too_many after (commands + commands_in (item.Layout decl))) e in
    let past = fields_in (nat_lt most_layouts (length after.layouts)) (nat_lt most_program_fields (length after.fields)) (nat_lt most_kernels (length after.kernels)) (nat_lt most_commands (commands + commands_in (item.Layout decl))) none in
    let below : length after.fields < suc most_program_fields = leb-false (suc most_program_fields) (length after.fields) past in
    let added = fields_from (length before.layouts) (length before.fields) 0 decl.fields in
    let long : length (before.fields ++ added) ≡ length before.fields + length added = length-append before.fields added in
    let count : length added ≡ length decl.fields = length-fields (length before.layouts) (length before.fields) 0 decl.fields in
    let few : length decl.fields ≤ most_fields = omega arith in
    le-leb (length decl.fields) most_fields few

pub all_few : (before : Tables) (commands number : ℕ) (items : List Item) (tables : Tables) → tables_from before commands number items ≡ Ok tables → list_all has_few (layout_decls items) ≡ true
all_few before commands number [] tables e = refl
all_few before commands number (item.Const decl ∷ items) tables e =
    all_few (declare before (item.Const decl)) (commands + commands_in (item.Const decl)) (suc number) items tables
    (fault_or-ok (fault_in before commands number (item.Const decl)) (tables_from (declare before (item.Const decl)) (commands + commands_in (item.Const decl)) (suc number) items) tables e).1
all_few before commands number (item.Layout decl ∷ items) tables e =
    let parts = fault_or-ok (fault_in before commands number (item.Layout decl)) (tables_from (declare before (item.Layout decl)) (commands + commands_in (item.Layout decl)) (suc number) items) tables e in
    and_from _ _ (few_fields before commands number decl parts.0) (all_few (declare before (item.Layout decl)) (commands + commands_in (item.Layout decl)) (suc number) items tables parts.1)
all_few before commands number (item.Kernel decl ∷ items) tables e =
    all_few (declare before (item.Kernel decl)) (commands + commands_in (item.Kernel decl)) (suc number) items tables
    (fault_or-ok (fault_in before commands number (item.Kernel decl)) (tables_from (declare before (item.Kernel decl)) (commands + commands_in (item.Kernel decl)) (suc number) items) tables e).1
all_few before commands number (item.Command command ∷ items) tables e =
    all_few (declare before (item.Command command)) (commands + commands_in (item.Command command)) (suc number) items tables
    (fault_or-ok (fault_in before commands number (item.Command command)) (tables_from (declare before (item.Command command)) (commands + commands_in (item.Command command)) (suc number) items) tables e).1

-- ---- the grammar's counts

same_ty : (type : Ty) → is_field_ty type ≡ is_field type
same_ty ty.I32 = refl
same_ty ty.U32 = refl
same_ty ty.Bool = refl

types_hold : (fields : List FieldDecl) → list_all is_field_decl fields ≡ true → list_all is_field (map (λ field. field.ty) fields) ≡ true
types_hold [] e = refl
types_hold (field ∷ fields) e =
    let parts = both_parts (is_field_decl field) (list_all is_field_decl fields) e in
    let here = both_parts (is_name field.name) (is_field_ty field.ty) parts.0 in
    and_from _ _ (sym (same_ty field.ty) ∙ here.1) (types_hold fields parts.1)

declared_layout : (names : Tables) (decl : LayoutDecl) → is_layout decl ≡ true → has_few decl ≡ true → is_declared (shape_of names decl) ≡ true
declared_layout names decl formed few =
    let parts = both_parts (is_name decl.name && one_to most_listed_axes is_name decl.axes) (one_to most_listed_nodes is_node decl.nodes && one_or_more is_field_decl decl.fields) formed in
    let axes = both_parts (is_name decl.name) (one_to most_listed_axes is_name decl.axes) parts.0 in
    let axis_count = both_parts (nat_le 1 (length decl.axes) && nat_le (length decl.axes) most_listed_axes) (list_all is_name decl.axes) axes.1 in
    let rest = both_parts (one_to most_listed_nodes is_node decl.nodes) (one_or_more is_field_decl decl.fields) parts.1 in
    let node_count = both_parts (nat_le 1 (length decl.nodes) && nat_le (length decl.nodes) most_listed_nodes) (list_all is_node decl.nodes) rest.0 in
    let fields = both_parts (nat_le 1 (length decl.fields)) (list_all is_field_decl decl.fields) rest.1 in
    let nodes_same : length (map (node_shape names decl.axes) decl.nodes) ≡ length decl.nodes = count_map (node_shape names decl.axes) decl.nodes in
    let fields_same : length (map (λ (field : FieldDecl). field.ty) decl.fields) ≡ length decl.fields = count_map (λ (field : FieldDecl). field.ty) decl.fields in
    and_from _ _ axis_count.0
    (and_from _ _ (ap (λ (n : ℕ). nat_lt 0 n && nat_le n most_nodes) nodes_same ∙ node_count.0)
    (and_from _ _ (ap (λ (n : ℕ). nat_lt 0 n && nat_le n most_fields) fields_same ∙ and_from _ _ fields.0 few) (types_hold decl.fields fields.1)))

-- layouts of the grammar with few fields are declared
all_declared : (names : Tables) (items : List Item) → list_all is_item items ≡ true → list_all has_few (layout_decls items) ≡ true → list_all (λ decl. is_declared (shape_of names decl)) (layout_decls items) ≡ true
all_declared names [] formed few = refl
all_declared names (item.Const decl ∷ items) formed few = all_declared names items (both_parts (is_item (item.Const decl)) (list_all is_item items) formed).1 few
all_declared names (item.Kernel decl ∷ items) formed few = all_declared names items (both_parts (is_item (item.Kernel decl)) (list_all is_item items) formed).1 few
all_declared names (item.Command command ∷ items) formed few = all_declared names items (both_parts (is_item (item.Command command)) (list_all is_item items) formed).1 few
all_declared names (item.Layout decl ∷ items) formed few =
    let here = both_parts (is_layout decl) (list_all is_item items) formed in
    let counts = both_parts (has_few decl) (list_all has_few (layout_decls items)) few in
    and_from _ _ (declared_layout names decl here.0 counts.0) (all_declared names items here.1 counts.1)

pub layouts_declared : (program : Program) (names : Tables) → list_all is_item program.items ≡ true → tables_of program ≡ Ok names → list_all (λ decl. is_declared (shape_of names decl)) (layout_decls program.items) ≡ true
layouts_declared program names formed e = all_declared names program.items formed (all_few no_tables 0 1 program.items names e)
