-- Programs that differ in the nodes of their layouts alone are compiled to the same names, kernels and commands.
use Rattle.std.proofs.Common.{◌≡◌, ℕ, suc, ◌+◌, Bool, true, false, List, [], ◌∷◌, ◌++◌, map, length, Option, Some, None, Result, Ok, Err, refl, sym, ap, ◌∙◌, subst}
use Rattle.std.specs.Prelude.{if◌then◌else◌, nat_le, IsTrue}
use Rattle.std.specs.List.{AllByRecursion, AllZip, cons_option, list_all}
use Rattle.sg_words.proofs.Uses.{fault_or-ok}
use Rattle.sg_words.specs.Results.{◌>>=◌, fault_as}
use Rattle.sg_words.specs.declared.operators.Ty.{Ty}
use Rattle.sg_ast.specs.declared.layout.FieldDecl.{FieldDecl}
use Rattle.sg_ast.specs.declared.layout.LayoutDecl.{LayoutDecl}
use Rattle.sg_ast.specs.declared.token.Name.{Name}
use Rattle.sg_ast.specs.declared.program.Item.{Item}
use Rattle.sg_ast.specs.declared.program.Item.TheVariants as item
use Rattle.sg_ast.specs.declared.program.Program.{Program}
use Rattle.sg_ast.specs.Grammar.{is_program, is_item}
use Rattle.sg_ast.specs.declared.token.Tokens.{Tokens}
use Rattle.sg_lexer.specs.Lexing.{tokens}
use Rattle.sg_parser.specs.Parsed.{program_of}
use Rattle.sg_parser.specs.Laws.{ParsedIsSpelled}
use Rattle.sg_layout.specs.declared.shape.Shape.{Shape}
use Rattle.sg_layout.specs.Rules.{checked_shape}
use Rattle.sg_layout.specs.StorageWords.{total_words}
use Rattle.sg_layout.specs.Limits.{most_words}
use Rattle.sg_names.specs.Declares.{commands_in, declare, fields_from}
use Rattle.sg_names.specs.Laws.{as_layout, layout_decls}
use Rattle.sg_names.specs.Names.{fault_in, tables_from, tables_of}
use Rattle.sg_names.specs.Shapes.{shape_of}
use Rattle.sg_names.specs.Tables.{Tables, no_tables}
use Rattle.sg_types.specs.declared.fault.TypeFault.{TypeFault}
use Rattle.sg_types.specs.declared.typed.Typed.{Typed}
use Rattle.sg_types.specs.declared.typed.TypedKernel.{TypedKernel}
use Rattle.sg_types.specs.Laws.{declared_shapes, DeclaredLayoutsFit, TypedIsWellTyped, VariablesAreNumbered}
use Rattle.sg_types.specs.Programs.{typed_kernel, typed_items}
use Rattle.sg_types.specs.Scopes.{Known}
use Rattle.sg_admit.specs.declared.admitted.Admitted.{Admitted}
use Rattle.sg_admit.specs.Admission.{admission}
use Rattle.sg_session.specs.declared.refusal.Refusal.{Refusal}
use Rattle.sg_session.specs.declared.refusal.Refusal.TheVariants as refusal
use Rattle.sg_session.specs.declared.tasks.Stage.{Stage}
use Rattle.sg_session.specs.Tasks.{item_stage, stages_of}
use Rattle.sg_session.specs.Compiled.{CheckedProgram}
use Rattle.sg_session.specs.Compiling.{checked_layouts, few_words, layouts_of, admitted_kernels, kernels_of, compiled_parts, compiled_with, compiled_tree, compiled_program, spelled_program}
use Rattle.sg_session.specs.Independence.{DifferInNodes, AreSameUpToNodes}
use Rattle.sg_session.specs.steps.Kernels.{IsLowerable}
use Rattle.sg_session.proofs.Answered.{bound_ok, as_ok, checked_same, layouts_kept, kernel_kept, lowerable, typed_ready, kernels_kept, HasParts, parts_kept}
use Rattle.sg_session.proofs.GuardedBodies.{HasPlainElses}
use Rattle.sg_session.proofs.Kept.{layouts_fit}
use Rattle.sg_session.proofs.NeutralRuns.{IsFit, KeepRules}
use Rattle.sg_session.proofs.PlainElses.{plain_kernel}

-- ---- names

-- tables with a layout more
abbrev with_layout : Tables → Name → List Name → List FieldDecl → Tables
with_layout before name axes fields = record before {
  layouts = before.layouts ++ record { name = name; axes = length axes } ∷ [];
  fields = before.fields ++ fields_from (length before.layouts) (length before.fields) 0 fields;
}

declare_same : (before : Tables) (one other : Item) → DifferInNodes one other → declare before one ≡ declare before other
declare_same before (item.Const decl) other same = ap (declare before) same
declare_same before (item.Kernel decl) other same = ap (declare before) same
declare_same before (item.Command command) other same = ap (declare before) same
declare_same before (item.Layout one) (item.Const decl) same = ap (declare before) same
declare_same before (item.Layout one) (item.Kernel decl) same = ap (declare before) same
declare_same before (item.Layout one) (item.Command command) same = ap (declare before) same
declare_same before (item.Layout one) (item.Layout other) same =
    ap (λ (name : Name). with_layout before name one.axes one.fields) same.0
    ∙ (ap (λ (axes : List Name). with_layout before other.name axes one.fields) same.1 ∙ ap (λ (fields : List FieldDecl). with_layout before other.name other.axes fields) same.2)

tables_same : (before before' : Tables) (commands commands' number number' : ℕ) (items items' : List Item) (names names' : Tables) → before ≡ before' → AllZip DifferInNodes items items'
    → tables_from before commands number items ≡ Ok names → tables_from before' commands' number' items' ≡ Ok names' → names ≡ names'
tables_same before before' commands commands' number number' [] [] names names' same all e e' = let here : before ≡ names = cc in let here' : before' ≡ names' = cc in sym here ∙ (same ∙ here')
tables_same before before' commands commands' number number' [] (other ∷ items') names names' same all e e' = absurd all
tables_same before before' commands commands' number number' (one ∷ items) [] names names' same all e e' = absurd all
tables_same before before' commands commands' number number' (one ∷ items) (other ∷ items') names names' same all e e' =
    tables_same (declare before one) (declare before' other) (commands + commands_in one) (commands' + commands_in other) (suc number) (suc number') items items' names names'
    (ap (λ (tables : Tables). declare tables one) same ∙ declare_same before' one other all.0) all.1
    (fault_or-ok (fault_in before commands number one) (tables_from (declare before one) (commands + commands_in one) (suc number) items) names e).1
    (fault_or-ok (fault_in before' commands' number' other) (tables_from (declare before' other) (commands' + commands_in other) (suc number') items') names' e').1

-- ---- kernels

module _ (names : Tables) where
  -- an item that both have
  typed_on : (kernels constants : ℕ) (one : Item) (items items' : List Item) → ((k c : ℕ) → typed_items names k c items ≡ typed_items names k c items') → typed_items names kernels constants (one ∷ items) ≡ typed_items names kernels constants (one ∷ items')
  typed_on kernels constants (item.Const decl) items items' rest = rest kernels (suc constants)
  typed_on kernels constants (item.Layout decl) items items' rest = rest kernels constants
  typed_on kernels constants (item.Command command) items items' rest = rest kernels constants
  typed_on kernels constants (item.Kernel decl) items items' rest =
      ap (λ (more : Result (List TypedKernel) TypeFault). typed_kernel (record { kernel = kernels; tables = names; constants = constants }) decl >>= (λ kernel. more >>= (λ more. Ok (kernel ∷ more)))) (rest (suc kernels) constants)

  typed_item : (kernels constants : ℕ) (one other : Item) (items items' : List Item) → DifferInNodes one other → ((k c : ℕ) → typed_items names k c items ≡ typed_items names k c items')
      → typed_items names kernels constants (one ∷ items) ≡ typed_items names kernels constants (other ∷ items')
  typed_item kernels constants (item.Layout one) (item.Layout other) items items' same rest = rest kernels constants
  typed_item kernels constants (item.Const decl) other items items' same rest = typed_on kernels constants (item.Const decl) items items' rest ∙ ap (λ (it : Item). typed_items names kernels constants (it ∷ items')) same
  typed_item kernels constants (item.Kernel decl) other items items' same rest = typed_on kernels constants (item.Kernel decl) items items' rest ∙ ap (λ (it : Item). typed_items names kernels constants (it ∷ items')) same
  typed_item kernels constants (item.Command command) other items items' same rest = typed_on kernels constants (item.Command command) items items' rest ∙ ap (λ (it : Item). typed_items names kernels constants (it ∷ items')) same
  typed_item kernels constants (item.Layout one) (item.Const decl) items items' same rest = typed_on kernels constants (item.Layout one) items items' rest ∙ ap (λ (it : Item). typed_items names kernels constants (it ∷ items')) same
  typed_item kernels constants (item.Layout one) (item.Kernel decl) items items' same rest = typed_on kernels constants (item.Layout one) items items' rest ∙ ap (λ (it : Item). typed_items names kernels constants (it ∷ items')) same
  typed_item kernels constants (item.Layout one) (item.Command command) items items' same rest = typed_on kernels constants (item.Layout one) items items' rest ∙ ap (λ (it : Item). typed_items names kernels constants (it ∷ items')) same

  typed_same : (items items' : List Item) → AllZip DifferInNodes items items' → (kernels constants : ℕ) → typed_items names kernels constants items ≡ typed_items names kernels constants items'
  typed_same [] [] all kernels constants = refl
  typed_same [] (other ∷ items') all kernels constants = absurd all
  typed_same (one ∷ items) [] all kernels constants = absurd all
  typed_same (one ∷ items) (other ∷ items') all kernels constants = typed_item kernels constants one other items items' all.0 (typed_same items items' all.1)

  -- ---- commands

  stage_same : (one other : Item) → DifferInNodes one other → item_stage names one ≡ item_stage names other
  stage_same (item.Const decl) other same = ap (item_stage names) same
  stage_same (item.Kernel decl) other same = ap (item_stage names) same
  stage_same (item.Command command) other same = ap (item_stage names) same
  stage_same (item.Layout one) (item.Layout other) same = refl
  stage_same (item.Layout one) (item.Const decl) same = ap (item_stage names) same
  stage_same (item.Layout one) (item.Kernel decl) same = ap (item_stage names) same
  stage_same (item.Layout one) (item.Command command) same = ap (item_stage names) same

  stages_same : (items items' : List Item) → AllZip DifferInNodes items items' → stages_of names items ≡ stages_of names items'
  stages_same [] [] all = refl
  stages_same [] (other ∷ items') all = absurd all
  stages_same (one ∷ items) [] all = absurd all
  stages_same (one ∷ items) (other ∷ items') all =
      ap (λ (stage : Option Stage). cons_option stage (stages_of names items)) (stage_same one other all.0) ∙ ap (cons_option (item_stage names other)) (stages_same items items' all.1)

  -- ---- the fields of layouts

  abbrev types_in : Option LayoutDecl → List (List Ty) → List (List Ty)
  types_in None more = more
  types_in (Some decl) more = map (λ field. field.ty) decl.fields ∷ more

  abbrev types_of : List Item → List (List Ty)
  types_of items = map (λ shape. shape.fields) (map (shape_of names) (layout_decls items))

  types_front : (found : Option LayoutDecl) (decls : List LayoutDecl) → map (λ shape. shape.fields) (map (shape_of names) (cons_option found decls)) ≡ types_in found (map (λ shape. shape.fields) (map (shape_of names) decls))
  types_front None decls = refl
  types_front (Some decl) decls = refl

  types_item : (one other : Item) (more : List (List Ty)) → DifferInNodes one other → types_in (as_layout one) more ≡ types_in (as_layout other) more
  types_item (item.Const decl) other more same = ap (λ (it : Item). types_in (as_layout it) more) same
  types_item (item.Kernel decl) other more same = ap (λ (it : Item). types_in (as_layout it) more) same
  types_item (item.Command command) other more same = ap (λ (it : Item). types_in (as_layout it) more) same
  types_item (item.Layout one) (item.Layout other) more same = ap (λ (fields : List FieldDecl). map (λ field. field.ty) fields ∷ more) same.2
  types_item (item.Layout one) (item.Const decl) more same = ap (λ (it : Item). types_in (as_layout it) more) same
  types_item (item.Layout one) (item.Kernel decl) more same = ap (λ (it : Item). types_in (as_layout it) more) same
  types_item (item.Layout one) (item.Command command) more same = ap (λ (it : Item). types_in (as_layout it) more) same

  types_same : (items items' : List Item) → AllZip DifferInNodes items items' → types_of items ≡ types_of items'
  types_same [] [] all = refl
  types_same [] (other ∷ items') all = absurd all
  types_same (one ∷ items) [] all = absurd all
  types_same (one ∷ items) (other ∷ items') all =
      types_front (as_layout one) (layout_decls items)
      ∙ (ap (types_in (as_layout one)) (types_same items items' all.1)
      ∙ (types_item one other (types_of items') all.0 ∙ sym (types_front (as_layout other) (layout_decls items'))))

-- ---- what is compiled keeps

few_ok : (b : Bool) (x y : List Shape) → ◌≡◌ {A = Result (List Shape) Refusal} (if b then Ok x else Err refusal.Words) (Ok y) → x ≡ y
few_ok true x y e = cc
few_ok false x y e = absurd (cc)

layouts_keep : (n : ℕ) (shapes layouts : List Shape) → checked_layouts n shapes ≡ Ok layouts → KeepRules layouts
layouts_keep n [] layouts e = let none : [] ≡ layouts = cc in subst KeepRules none tt
layouts_keep n (shape ∷ shapes) layouts e =
    let first = bound_ok (fault_as (refusal.Layout n) (checked_shape shape)) (λ layout. checked_layouts (suc n) shapes >>= (λ layouts. Ok (layout ∷ layouts))) layouts e in
    let rest = bound_ok (checked_layouts (suc n) shapes) (λ layouts. Ok (first.x ∷ layouts)) layouts first.gives in
    let good : checked_shape shape ≡ Ok first.x = as_ok (refusal.Layout n) (checked_shape shape) first.x first.is in
    let head : checked_shape first.x ≡ Ok first.x = ap checked_shape (checked_same shape first.x good) ∙ good in
    let made : first.x ∷ rest.x ≡ layouts = cc in
    subst KeepRules made (head, layouts_keep (suc n) shapes rest.x rest.is)

layouts_good : (names : Tables) (program : Program) (layouts : List Shape) → layouts_of names program ≡ Ok layouts → KeepRules layouts
unfolding layouts_of
layouts_good names program layouts e =
    let first = bound_ok (checked_layouts 0 (declared_shapes names program)) few_words layouts e in
    subst KeepRules (few_ok (nat_le (total_words first.x) most_words) first.x layouts first.gives) (layouts_keep 0 (declared_shapes names program) first.x first.is)

plain_items : (names : Tables) (k c : ℕ) (items : List Item) (kernels : List TypedKernel) → typed_items names k c items ≡ Ok kernels → AllByRecursion (λ kernel. HasPlainElses kernel.body) kernels
plain_items names k c [] kernels e = let none : [] ≡ kernels = cc in subst (AllByRecursion (λ (kernel : TypedKernel). HasPlainElses kernel.body)) none tt
plain_items names k c (item.Const decl ∷ items) kernels e = plain_items names k (suc c) items kernels e
plain_items names k c (item.Layout decl ∷ items) kernels e = plain_items names k c items kernels e
plain_items names k c (item.Command command ∷ items) kernels e = plain_items names k c items kernels e
plain_items names k c (item.Kernel decl ∷ items) kernels e =
    let known : Known = record { kernel = k; tables = names; constants = c } in
    let first = bound_ok (typed_kernel known decl) (λ kernel. typed_items names (suc k) c items >>= (λ more. Ok (kernel ∷ more))) kernels e in
    let rest = bound_ok (typed_items names (suc k) c items) (λ more. Ok (first.x ∷ more)) kernels first.gives in
    let made : first.x ∷ rest.x ≡ kernels = cc in
    subst (AllByRecursion (λ (kernel : TypedKernel). HasPlainElses kernel.body)) made (plain_kernel known decl first.x first.is, plain_items names (suc k) c items rest.x rest.is)

plain_admitted : (n : ℕ) (kernels : List TypedKernel) (admitted : List Admitted) → admitted_kernels n kernels ≡ Ok admitted → AllByRecursion (λ kernel. HasPlainElses kernel.body) kernels
    → AllByRecursion (λ (it : Admitted). HasPlainElses it.kernel.body) admitted
plain_admitted n [] admitted e all = let none : [] ≡ admitted = cc in subst (AllByRecursion (λ (it : Admitted). HasPlainElses it.kernel.body)) none tt
plain_admitted n (kernel ∷ kernels) admitted e all =
    let first = bound_ok (fault_as (refusal.Admit n) (admission kernel)) (λ one. admitted_kernels (suc n) kernels >>= (λ more. Ok (one ∷ more))) admitted e in
    let rest = bound_ok (admitted_kernels (suc n) kernels) (λ more. Ok (first.x ∷ more)) admitted first.gives in
    let same = kernel_kept kernel first.x (as_ok (refusal.Admit n) (admission kernel) first.x first.is) in
    let head : HasPlainElses first.x.kernel.body = subst (λ (it : TypedKernel). HasPlainElses it.body) (sym same) all.0 in
    let made : first.x ∷ rest.x ≡ admitted = cc in
    subst (AllByRecursion (λ (it : Admitted). HasPlainElses it.kernel.body)) made (head, plain_admitted (suc n) kernels rest.x rest.is all.1)

fit_all : (layouts : List Shape) (kernels : List Admitted) → AllByRecursion (IsLowerable layouts) kernels → AllByRecursion (λ (it : Admitted). HasPlainElses it.kernel.body) kernels → AllByRecursion (λ (it : Admitted). IsFit layouts it.kernel) kernels
fit_all layouts [] ready plain = tt
fit_all layouts (kernel ∷ kernels) ready plain =
    (record { typed = ready.0.ready.typed; few = ready.0.ready.few; plain = plain.0 }, fit_all layouts kernels ready.1 plain.1)

-- the laws of parsing and typing that this rests on
pub record TextLaws : Type 0 where
  pub parsed : ParsedIsSpelled
  pub fit : DeclaredLayoutsFit
  pub typed : TypedIsWellTyped
  pub variables : VariablesAreNumbered

-- ---- the parts of a compiled program

pub record HasTree (program : Program) (compiled : CheckedProgram) : Type 0 where
  pub names : Tables
  pub named : tables_of program ≡ Ok names
  pub parts : HasParts names program compiled

tree_kept : (program : Program) (compiled : CheckedProgram) → compiled_tree program ≡ Ok compiled → HasTree program compiled
unfolding compiled_tree
tree_kept program compiled e =
    let first = bound_ok (fault_as refusal.Name (tables_of program)) (λ names. compiled_with names program) compiled e in
    record { names = first.x; named = as_ok refusal.Name (tables_of program) first.x first.is; parts = parts_kept first.x program compiled first.gives }

kernels_fit : TextLaws → (program : Program) (names : Tables) (layouts : List Shape) (kernels : List Admitted) → list_all is_item program.items ≡ true → tables_of program ≡ Ok names → layouts_of names program ≡ Ok layouts → kernels_of names program ≡ Ok kernels
    → AllByRecursion (λ (it : Admitted). IsFit layouts it.kernel) kernels
kernels_fit laws program names layouts kernels good named layouts_are kernels_are =
    let from = kernels_kept names program kernels kernels_are in
    let fit = layouts_fit program names layouts laws.fit named layouts_are in
    let ready = typed_ready names layouts program from.typed laws.variables good (laws.typed names layouts program from.typed fit from.typed_is) from.typed_is in
    let found = bound_ok (typed_items names 0 0 program.items) (λ (kernels : List TypedKernel). Ok (record { kernels = kernels })) from.typed from.typed_is in
    let same : found.x ≡ from.typed.kernels = ap (λ (t : Typed). t.kernels) (let inner : record { kernels = found.x } ≡ from.typed = cc in inner) in
    let plain = subst (AllByRecursion (λ (kernel : TypedKernel). HasPlainElses kernel.body)) same (plain_items names 0 0 program.items found.x found.is) in
    fit_all layouts kernels (lowerable layouts 0 from.typed.kernels kernels from.admitted ready.0).0 (plain_admitted 0 from.typed.kernels kernels from.admitted plain)

-- kernels that come from the same items are the same
kernels_same : (names : Tables) (one other : Program) (kernels kernels' : List Admitted) → AllZip DifferInNodes one.items other.items → kernels_of names one ≡ Ok kernels → kernels_of names other ≡ Ok kernels' → kernels ≡ kernels'
unfolding kernels_of
kernels_same names one other kernels kernels' all e e' =
    let step : Result (List TypedKernel) TypeFault → Result (List Admitted) Refusal = λ found. fault_as refusal.Types (found >>= (λ kernels. Ok (record { kernels = kernels }))) >>= (λ (typed : Typed). admitted_kernels 0 typed.kernels) in
    let same : kernels_of names one ≡ kernels_of names other = ap step (typed_same names one.items other.items all 0 0) in
    let both : ◌≡◌ {A = Result (List Admitted) Refusal} (Ok kernels) (Ok kernels') = sym e ∙ (same ∙ e') in cc

-- what two alike programs have in common, and what the first keeps
pub record HaveSameParts (first second : CheckedProgram) : Type 0 where
  pub names : first.names ≡ second.names
  pub kernels : first.kernels ≡ second.kernels
  pub commands : first.commands ≡ second.commands
  pub types : map (λ shape. shape.fields) first.layouts ≡ map (λ shape. shape.fields) second.layouts
  pub rules : KeepRules first.layouts
  pub fits : AllByRecursion (λ (it : Admitted). IsFit first.layouts it.kernel) first.kernels

same_parts : TextLaws → (one other : Program) (names names' : Tables) (first second : CheckedProgram) → list_all is_item one.items ≡ true → AllZip DifferInNodes one.items other.items → names ≡ names'
    → tables_of one ≡ Ok names → HasParts names one first → HasParts names' other second → HaveSameParts first second
same_parts laws one other names names' first second good all same named parts parts'' =
    let parts' : HasParts names other second = subst (λ (ts : Tables). HasParts ts other second) (sym same) parts'' in
    let lays = (layouts_kept names one parts.layouts parts.layouts_are).0 in
    let lays' = (layouts_kept names other parts'.layouts parts'.layouts_are).0 in
    let of_first = parts.is in
    let of_second = parts'.is in
    subst (λ (it : CheckedProgram). HaveSameParts it second) of_first
    (subst (λ (it : CheckedProgram). HaveSameParts (compiled_parts names parts.layouts parts.kernels one) it) of_second
    (record {
      names = refl;
      kernels = kernels_same names one other parts.kernels parts'.kernels all parts.kernels_are parts'.kernels_are;
      commands = stages_same names one.items other.items all;
      types = ap (λ (shapes : List Shape). map (λ shape. shape.fields) shapes) lays ∙ (types_same names one.items other.items all ∙ sym (ap (λ (shapes : List Shape). map (λ shape. shape.fields) shapes) lays'));
      rules = layouts_good names one parts.layouts parts.layouts_are;
      fits = kernels_fit laws one names parts.layouts parts.kernels good named parts.layouts_are parts.kernels_are;
    }))

-- a file that spells a program is compiled as it is
tree_is : (file : List ℕ) (program : Program) (compiled : CheckedProgram) → spelled_program file ≡ Ok program → compiled_program file ≡ Ok compiled → compiled_tree program ≡ Ok compiled
unfolding compiled_program
tree_is file program compiled spelled e = sym (ap (λ (r : Result Program Refusal). r >>= compiled_tree) spelled) ∙ e

-- and the program is one of the grammar
in_grammar : ParsedIsSpelled → (file : List ℕ) (program : Program) → spelled_program file ≡ Ok program → IsTrue (is_program program)
unfolding spelled_program
in_grammar law file program spelled =
    let found = bound_ok (fault_as refusal.Lex (tokens file)) (λ (found : Tokens). fault_as refusal.Parse (program_of found.list)) program spelled in
    (law found.x.list program (as_ok refusal.Parse (program_of found.x.list) program found.gives)).of_grammar

-- the names of two alike programs are the same
trees_same : (file file' : List ℕ) (first second : CheckedProgram) (alike : AreSameUpToNodes file file' first second) (tree : HasTree alike.one first) (tree' : HasTree alike.other second) → tree.names ≡ tree'.names
trees_same file file' first second alike tree tree' =
    tables_same no_tables no_tables 0 0 1 1 alike.one.items alike.other.items tree.names tree'.names refl alike.items tree.named tree'.named

pub programs_same : TextLaws → (file file' : List ℕ) (first second : CheckedProgram) → AreSameUpToNodes file file' first second → HaveSameParts first second
programs_same laws file file' first second alike =
    let tree = tree_kept alike.one first (tree_is file alike.one first alike.one_is alike.first_is) in
    let tree' = tree_kept alike.other second (tree_is file' alike.other second alike.other_is alike.second_is) in
    same_parts laws alike.one alike.other tree.names tree'.names first second (in_grammar laws.parsed file alike.one alike.one_is) alike.items (trees_same file file' first second alike tree tree') tree.named tree.parts tree'.parts

-- ---- for the crates above: two alike programs have the same names and the same commands

pub record HaveSameTasks (first second : CheckedProgram) : Type 0 where
  pub names : second.names ≡ first.names
  pub commands : second.commands ≡ first.commands

pub tasks_same : (file file' : List ℕ) (first second : CheckedProgram) → AreSameUpToNodes file file' first second → HaveSameTasks first second
tasks_same file file' first second alike =
    let tree = tree_kept alike.one first (tree_is file alike.one first alike.one_is alike.first_is) in
    let tree' = tree_kept alike.other second (tree_is file' alike.other second alike.other_is alike.second_is) in
    let same = trees_same file file' first second alike tree tree' in
    let one = tree.parts.is in
    let other = tree'.parts.is in
    record {
      names = sym (ap (λ (c : CheckedProgram). c.names) other) ∙ sym same ∙ ap (λ (c : CheckedProgram). c.names) one;
      commands = sym (ap (λ (c : CheckedProgram). c.commands) other) ∙ ap (λ (names : Tables). stages_of names alike.other.items) (sym same) ∙ sym (stages_same tree.names alike.one.items alike.other.items alike.items)
          ∙ ap (λ (c : CheckedProgram). c.commands) one;
    }
