-- In the tables of a program the layout of each field is there.
use Rattle.std.proofs.Common.{◌≡◌, ℕ, suc, ◌+◌, Bool, true, nat_lt, List, [], ◌∷◌, ◌++◌, length, Option, Some, None, Result, Ok, Err, refl, ap, sym, ◌∙◌, length-append, arith}
use Rattle.std.specs.List.{list_all}
use Rattle.std.proofs.lemmas.Bool.{and_parts, and_from, ltb-true, lt-ltb}
use Rattle.std.proofs.lemmas.List.Folds.{list_all-append}
use Rattle.sg_ast.specs.declared.layout.FieldDecl.{FieldDecl}
use Rattle.sg_ast.specs.declared.program.Item.{Item}
use Rattle.sg_ast.specs.declared.program.Item.TheVariants as item
use Rattle.sg_ast.specs.declared.program.Program.{Program}
use Rattle.sg_names.specs.declared.fault.NameFault.{NameFault}
use Rattle.sg_names.specs.declared.tables.NamedField.{NamedField}
use Rattle.sg_names.specs.Tables.{Tables, no_tables}
use Rattle.sg_names.specs.Declares.{declare, fields_from, commands_in}
use Rattle.sg_names.specs.Names.{tables_of, tables_from, fault_in}
use Rattle.sg_words.specs.Results.{fault_or}
use Rattle.sg_types.specs.steps.Standing.{fields_stand}

-- fields stand in the first layouts
abbrev stand_below : ℕ → List NamedField → Bool
stand_below count fields = list_all (λ named. nat_lt named.at.layout count) fields

stand_below-more : (count more : ℕ) (fields : List NamedField) → stand_below count fields ≡ true → stand_below (count + more) fields ≡ true
stand_below-more count more [] h = refl
stand_below-more count more (field ∷ fields) h =
    let parts = and_parts (nat_lt field.at.layout count) (stand_below count fields) h in
    and_from (nat_lt field.at.layout (count + more)) (stand_below (count + more) fields)
    (lt-ltb field.at.layout (count + more) (omega (arith, ltb-true field.at.layout count parts.0))) (stand_below-more count more fields parts.1)

stand_below-new : (count number place : ℕ) (fields : List FieldDecl) → stand_below (count + 1) (fields_from count number place fields) ≡ true
stand_below-new count number place [] = refl
stand_below-new count number place (field ∷ fields) =
    and_from (nat_lt count (count + 1)) (stand_below (count + 1) (fields_from count (suc number) (suc place) fields))
    (lt-ltb count (count + 1) (omega arith)) (stand_below-new count (suc number) (suc place) fields)

declares_stand : (tables : Tables) (given : Item) → fields_stand tables ≡ true → fields_stand (declare tables given) ≡ true
declares_stand tables (item.Const decl) h = h
declares_stand tables (item.Layout decl) h =
    let count = length tables.layouts in
    let new = fields_from count (length tables.fields) 0 decl.fields in
    ap (λ (n : ℕ). stand_below n (tables.fields ++ new)) (length-append tables.layouts (record { name = decl.name; axes = length decl.axes } ∷ []))
    ∙ (list_all-append (λ (named : NamedField). nat_lt named.at.layout (count + 1)) tables.fields new
    ∙ and_from (stand_below (count + 1) tables.fields) (stand_below (count + 1) new) (stand_below-more count 1 tables.fields h) (stand_below-new count (length tables.fields) 0 decl.fields))
declares_stand tables (item.Kernel decl) h = h
declares_stand tables (item.Command command) h = h

no_fault_left : (fault : Option NameFault) (after : Result Tables NameFault) (tables : Tables) → fault_or fault after ≡ Ok tables → after ≡ Ok tables
no_fault_left None after tables h = h
no_fault_left (Some fault) after tables h = cc

value_or : Tables → Result Tables NameFault → Tables
value_or default (Ok tables) = tables
value_or default (Err fault) = default

same_ok : (x y : Tables) → ◌≡◌ {A = Result Tables NameFault} (Ok x) (Ok y) → x ≡ y
unfolding value_or
same_ok x y h = ap (value_or y) h

from_stand : (before : Tables) (commands number : ℕ) (items : List Item) (tables : Tables) → fields_stand before ≡ true → tables_from before commands number items ≡ Ok tables → fields_stand tables ≡ true
from_stand before commands number [] tables stands h = ap fields_stand (sym (same_ok before tables h)) ∙ stands
from_stand before commands number (given ∷ items) tables stands h =
    from_stand (declare before given) (commands + commands_in given) (suc number) items tables (declares_stand before given stands)
    (no_fault_left (fault_in before commands number given) (tables_from (declare before given) (commands + commands_in given) (suc number) items) tables h)

pub tables_stand : (program : Program) (tables : Tables) → tables_of program ≡ Ok tables → fields_stand tables ≡ true
tables_stand program tables h = from_stand no_tables 0 1 program.items tables refl h
