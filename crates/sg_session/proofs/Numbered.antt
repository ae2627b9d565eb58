-- Numbering leaves no command out: the names of the commands of a program with tables are in its tables.
use Rattle.std.proofs.Common.{◌≡◌, ℕ, suc, ◌+◌, Bool, true, false, cond, ◌||◌, ◌&&◌, List, [], ◌∷◌, ◌++◌, map, length, Option, Some, None, Ok, refl, sym, ap, ◌∙◌, subst, arith}
use Rattle.std.specs.Prelude.{if◌then◌else◌, not, nat_lt, nat_le, find, position, filter_map, option_map, is_none}
use Rattle.std.specs.List.{AllZip, list_any, list_all, cons_option, position_or_len}
use Rattle.std.proofs.lemmas.Bool.Decides.{nat_tests}
use Rattle.sg_words.proofs.Uses.{fault_or-ok, neither_holds}
use Rattle.sg_words.specs.Results.{fault_as}
use Rattle.sg_ast.specs.declared.token.Name.{Name}
use Rattle.sg_ast.specs.declared.command.Command.{Command, fold-roll-Command, roll-Command, out-Command, roll-out-Command}
use Rattle.sg_ast.specs.declared.command.Command.TheOpen as c
use Rattle.sg_ast.specs.declared.command.Command.TheOpen.{Command-F}
use Rattle.sg_ast.specs.declared.program.Item.{Item}
use Rattle.sg_ast.specs.declared.program.Item.TheVariants as item
use Rattle.sg_ast.specs.Stmt.{joined_lists}
use Rattle.sg_ast.specs.Token.{same_name}
use Rattle.sg_names.specs.declared.fault.NameFault.TheVariants.{Unknown, Twice, TooMany}
use Rattle.sg_names.specs.declared.fault.NameFault.{NameFault}
use Rattle.sg_names.specs.declared.tables.FieldAt.{FieldAt}
use Rattle.sg_names.specs.declared.tables.NamedField.{NamedField}
use Rattle.sg_names.specs.Tables.{Tables, no_tables, layout_named, field_named, kernel_named}
use Rattle.sg_names.specs.Uses.{command_layouts, command_fields, command_kernels, command_layouts_step, command_fields_step, command_kernels_step}
use Rattle.sg_names.specs.Declares.{commands_in, declare, fields_from}
use Rattle.sg_names.specs.Names.{is_no_field, is_no_kernel, is_no_layout, uses_unknown, declares_twice, too_many, fault_in, tables_from, tables_of}
use Rattle.sg_session.specs.declared.refusal.Refusal.TheVariants as refusal
use Rattle.sg_session.specs.declared.tasks.Task.{Task}
use Rattle.sg_session.specs.declared.tasks.Task.TheVariants.{Load, Run, Dump, Image, Stats, Prune, Clear}
use Rattle.sg_session.specs.declared.tasks.Stage.{Stage}
use Rattle.sg_session.specs.declared.tasks.Stage.TheVariants.{Once, Times}
use Rattle.sg_ast.specs.Token.{is_number}
use Rattle.sg_ast.specs.Grammar.{one_or_more, is_simple_layer, is_simple, is_command_layer, is_command, is_item}
use Rattle.sg_names.specs.declared.tables.NamedLayout.{NamedLayout}
use Rattle.sg_session.specs.Tasks.{simple_task, body_tasks, layer_stage, stages_of}
use Rattle.sg_session.specs.Compiled.{CheckedProgram}
use Rattle.sg_session.specs.Compiling.{compiled_with, compiled_tree}
use Rattle.sg_session.specs.Laws.{as_command, IsTaskOf, IsStageOf, CommandsAreKept}
use Rattle.sg_session.proofs.Answered.{bound_ok, as_ok, parts_kept}

-- ---- what is found in a list is found in a longer one

found_any : {X Y : Type 0} (f : X → Y) (test : X → Bool) (xs : List X) → is_none (option_map f (find test xs)) ≡ not (list_any test xs)
found_any f test [] = refl
found_any {X} f test (x ∷ xs) = by_test (test x) (found_any f test xs)
  where
    by_test : (b : Bool) → is_none (option_map f (find test xs)) ≡ not (list_any test xs) → is_none (option_map f (cond b (Some x) (find test xs))) ≡ not (b || list_any test xs)
    by_test true rest = refl
    by_test false rest = rest

less_suc : (k n : ℕ) → nat_lt (1 + k) (suc n) ≡ nat_lt k n
less_suc k n = grind (arith, nat_tests)

first_less : (n : ℕ) → nat_lt 0 (suc n) ≡ true
first_less n = grind (arith, nat_tests)

below_any : {X : Type 0} (test : X → Bool) (xs : List X) → nat_lt (position_or_len test xs) (length xs) ≡ list_any test xs
below_any test [] = refl
below_any {X} test (x ∷ xs) = by_test (test x) (below_any test xs)
  where
    by_test : (b : Bool) → nat_lt (position_or_len test xs) (length xs) ≡ list_any test xs
        → nat_lt (cond (not b) (1 + position_or_len test xs) 0) (suc (length xs)) ≡ (b || list_any test xs)
    by_test true rest = first_less (length xs)
    by_test false rest = less_suc (position_or_len test xs) (length xs) ∙ rest

placed_any : {X : Type 0} (test : X → Bool) (xs : List X) → is_none (position test xs) ≡ not (list_any test xs)
placed_any test xs = by_test (nat_lt (position_or_len test xs) (length xs)) (position_or_len test xs) ∙ ap not (below_any test xs)
  where
    by_test : (b : Bool) (n : ℕ) → is_none (cond b (Some n) None) ≡ not b
    by_test true n = refl
    by_test false n = refl

any_more : {X : Type 0} (test : X → Bool) (xs ys : List X) → list_any test xs ≡ true → list_any test (xs ++ ys) ≡ true
any_more test [] ys e = absurd (cc)
any_more {X} test (x ∷ xs) ys e = by_test (test x) (λ later. any_more test xs ys later) e
  where
    by_test : (b : Bool) → (list_any test xs ≡ true → list_any test (xs ++ ys) ≡ true) → (b || list_any test xs) ≡ true → (b || list_any test (xs ++ ys)) ≡ true
    by_test true rest e' = refl
    by_test false rest e' = rest e'

not_false : (b : Bool) → not b ≡ false → b ≡ true
not_false true e = refl
not_false false e = absurd (cc)

there_is : {X : Type 0} (o : Option X) → is_none o ≡ false → (x : X) × (o ≡ Some x)
there_is None e = absurd (cc)
there_is (Some x) e = (x, refl)

-- ---- names stay in tables

-- a field, a layout or a kernel of a name is declared
abbrev HasField : Tables → Name → Type 0
HasField tables name = list_any (λ (named : NamedField). same_name name named.name) tables.fields ≡ true

abbrev HasLayout : Tables → Name → Type 0
HasLayout tables name = list_any (λ (named : NamedLayout). same_name name named.name) tables.layouts ≡ true

abbrev HasKernel : Tables → Name → Type 0
HasKernel tables name = list_any (same_name name) tables.kernels ≡ true

has_field : (tables : Tables) (name : Name) → is_no_field tables name ≡ false → HasField tables name
has_field tables name e = not_false (list_any (λ (named : NamedField). same_name name named.name) tables.fields)
    (sym (found_any (λ (named : NamedField). named.at) (λ (named : NamedField). same_name name named.name) tables.fields) ∙ e)

has_layout : (tables : Tables) (name : Name) → is_no_layout tables name ≡ false → HasLayout tables name
has_layout tables name e = not_false (list_any (λ (named : NamedLayout). same_name name named.name) tables.layouts)
    (sym (placed_any (λ (named : NamedLayout). same_name name named.name) tables.layouts) ∙ e)

has_kernel : (tables : Tables) (name : Name) → is_no_kernel tables name ≡ false → HasKernel tables name
has_kernel tables name e = not_false (list_any (same_name name) tables.kernels) (sym (placed_any (same_name name) tables.kernels) ∙ e)

field_there : (tables : Tables) (name : Name) → HasField tables name → (at : FieldAt) × (field_named tables name ≡ Some at)
field_there tables name has =
    there_is (field_named tables name)
    (found_any (λ (named : NamedField). named.at) (λ (named : NamedField). same_name name named.name) tables.fields ∙ ap not has)

layout_there : (tables : Tables) (name : Name) → HasLayout tables name → (number : ℕ) × (layout_named tables name ≡ Some number)
layout_there tables name has = there_is (layout_named tables name) (placed_any (λ (named : NamedLayout). same_name name named.name) tables.layouts ∙ ap not has)

kernel_there : (tables : Tables) (name : Name) → HasKernel tables name → (number : ℕ) × (kernel_named tables name ≡ Some number)
kernel_there tables name has = there_is (kernel_named tables name) (placed_any (same_name name) tables.kernels ∙ ap not has)

record Grows (before after : Tables) : Type 0 where
  field : (name : Name) → HasField before name → HasField after name
  layout : (name : Name) → HasLayout before name → HasLayout after name
  kernel : (name : Name) → HasKernel before name → HasKernel after name

declared_more : (before : Tables) (it : Item) → Grows before (declare before it)
declared_more before (item.Const decl) = record { field = λ name has. has; layout = λ name has. has; kernel = λ name has. has }
declared_more before (item.Layout decl) = record {
  field = λ name has. any_more (λ (named : NamedField). same_name name named.name) before.fields (fields_from (length before.layouts) (length before.fields) 0 decl.fields) has;
  layout = λ name has. any_more (λ (named : NamedLayout). same_name name named.name) before.layouts (record { name = decl.name; axes = length decl.axes } ∷ []) has;
  kernel = λ name has. has;
}
declared_more before (item.Kernel decl) = record {
  field = λ name has. has;
  layout = λ name has. has;
  kernel = λ name has. any_more (same_name name) before.kernels (decl.name ∷ []) has;
}
declared_more before (item.Command command) = record { field = λ name has. has; layout = λ name has. has; kernel = λ name has. has }

grows_from : (before : Tables) (commands number : ℕ) (items : List Item) (names : Tables) → tables_from before commands number items ≡ Ok names → Grows before names
grows_from before commands number [] names e =
    let same : before ≡ names = cc in subst (λ (t : Tables). Grows before t) same (record { field = λ name has. has; layout = λ name has. has; kernel = λ name has. has })
grows_from before commands number (it ∷ items) names e =
    let rest = fault_or-ok (fault_in before commands number it) (tables_from (declare before it) (commands + commands_in it) (suc number) items) names e in
    let later = grows_from (declare before it) (commands + commands_in it) (suc number) items names rest.1 in
    let here = declared_more before it in
    record { field = λ name has. later.field name (here.field name has); layout = λ name has. later.layout name (here.layout name has); kernel = λ name has. later.kernel name (here.kernel name has) }

-- ---- what a command needs

any_parts : {X : Type 0} (test : X → Bool) (xs ys : List X) → list_any test (xs ++ ys) ≡ false → (list_any test xs ≡ false) × (list_any test ys ≡ false)
any_parts test [] ys e = (refl, e)
any_parts test (x ∷ xs) ys e =
    let first = neither_holds (test x) (list_any test (xs ++ ys)) e in
    let rest = any_parts test xs ys first.1 in
    (ap (λ (b : Bool). b || list_any test xs) first.0 ∙ rest.0, rest.1)

head_false : (a b : Bool) → (a || b) ≡ false → a ≡ false
head_false true b e = absurd (cc)
head_false false b e = refl

both_true : (a b : Bool) → (a && b) ≡ true → (a ≡ true) × (b ≡ true)
both_true true b e = (refl, e)
both_true false b e = absurd (cc)

-- no layout, no field and no kernel that a command needs is unknown
record IsKnown (before : Tables) (command : Command) : Type 0 where
  layouts : list_any (is_no_layout before) (command_layouts command) ≡ false
  fields : list_any (is_no_field before) (command_fields command) ≡ false
  kernels : list_any (is_no_kernel before) (command_kernels command) ≡ false

module _ (before names : Tables) (grows : Grows before names) where
  field_known : (name : Name) → list_any (is_no_field before) (name ∷ []) ≡ false → (at : FieldAt) × (field_named names name ≡ Some at)
  field_known name e = field_there names name (grows.field name (has_field before name (head_false (is_no_field before name) false e)))

  layout_known : (name : Name) → list_any (is_no_layout before) (name ∷ []) ≡ false → (number : ℕ) × (layout_named names name ≡ Some number)
  layout_known name e = layout_there names name (grows.layout name (has_layout before name (head_false (is_no_layout before name) false e)))

  kernel_known : (name : Name) → list_any (is_no_kernel before) (name ∷ []) ≡ false → (number : ℕ) × (kernel_named names name ≡ Some number)
  kernel_known name e = kernel_there names name (grows.kernel name (has_kernel before name (head_false (is_no_kernel before name) false e)))

  -- the task of a layer is there, and is that of the command
  abbrev HasTask : Command-F Command → Type 0
  HasTask layer = (task : Task) × (simple_task names layer ≡ Some task) × IsTaskOf names layer task

  -- a layer is no `times`
  abbrev IsOnce : Command-F Command → Type 0
  IsOnce (c.Times number body) = ⊥
  IsOnce layer = Unit {0}

  layer_task : (layer : Command-F Command) → IsOnce layer → list_any (is_no_layout before) (command_layouts (roll-Command layer)) ≡ false → list_any (is_no_field before) (command_fields (roll-Command layer)) ≡ false
      → list_any (is_no_kernel before) (command_kernels (roll-Command layer)) ≡ false → HasTask layer
  layer_task (c.Load field) once layouts fields kernels =
      let found = field_known field (sym (ap (list_any (is_no_field before)) (fold-roll-Command (List Name) command_fields_step (c.Load field))) ∙ fields) in
      (Load found.0, ap (option_map Load) found.1, found.1)
  layer_task (c.Run kernel) once layouts fields kernels =
      let found = kernel_known kernel (sym (ap (list_any (is_no_kernel before)) (fold-roll-Command (List Name) command_kernels_step (c.Run kernel))) ∙ kernels) in
      (Run found.0, ap (option_map Run) found.1, found.1)
  layer_task (c.Dump field) once layouts fields kernels =
      let found = field_known field (sym (ap (list_any (is_no_field before)) (fold-roll-Command (List Name) command_fields_step (c.Dump field))) ∙ fields) in
      (Dump found.0, ap (option_map Dump) found.1, found.1)
  layer_task (c.Image field lo hi) once layouts fields kernels =
      let found = field_known field (sym (ap (list_any (is_no_field before)) (fold-roll-Command (List Name) command_fields_step (c.Image field lo hi))) ∙ fields) in
      (Image found.0 lo hi, ap (option_map (λ at. Image at lo hi)) found.1, (found.1, refl, refl))
  layer_task (c.Stats layout) once layouts fields kernels =
      let found = layout_known layout (sym (ap (list_any (is_no_layout before)) (fold-roll-Command (List Name) command_layouts_step (c.Stats layout))) ∙ layouts) in
      (Stats found.0, ap (option_map Stats) found.1, found.1)
  layer_task (c.Prune layout) once layouts fields kernels =
      let found = layout_known layout (sym (ap (list_any (is_no_layout before)) (fold-roll-Command (List Name) command_layouts_step (c.Prune layout))) ∙ layouts) in
      (Prune found.0, ap (option_map Prune) found.1, found.1)
  layer_task (c.Clear layout) once layouts fields kernels =
      let found = layout_known layout (sym (ap (list_any (is_no_layout before)) (fold-roll-Command (List Name) command_layouts_step (c.Clear layout))) ∙ layouts) in
      (Clear found.0, ap (option_map Clear) found.1, found.1)
  layer_task (c.Times number body) once layouts fields kernels = absurd once

  task_of : (command : Command) → IsKnown before command → IsOnce (out-Command command) → HasTask (out-Command command)
  task_of command known once =
      layer_task (out-Command command) once
      (ap (λ (x : Command). list_any (is_no_layout before) (command_layouts x)) (roll-out-Command command) ∙ known.layouts)
      (ap (λ (x : Command). list_any (is_no_field before) (command_fields x)) (roll-out-Command command) ∙ known.fields)
      (ap (λ (x : Command). list_any (is_no_kernel before) (command_kernels x)) (roll-out-Command command) ∙ known.kernels)

  once_simple : (layer : Command-F Command) → is_simple_layer layer ≡ true → IsOnce layer
  once_simple (c.Load field) e = tt
  once_simple (c.Run kernel) e = tt
  once_simple (c.Dump field) e = tt
  once_simple (c.Image field lo hi) e = tt
  once_simple (c.Stats layout) e = tt
  once_simple (c.Prune layout) e = tt
  once_simple (c.Clear layout) e = tt
  once_simple (c.Times number body) e = absurd (cc)

  body_kept : (body : List Command) → list_all is_simple body ≡ true → list_any (is_no_layout before) (joined_lists (map command_layouts body)) ≡ false → list_any (is_no_field before) (joined_lists (map command_fields body)) ≡ false
      → list_any (is_no_kernel before) (joined_lists (map command_kernels body)) ≡ false
      → AllZip (λ command task. IsTaskOf names (out-Command command) task) body (body_tasks names body)
  body_kept [] simple layouts fields kernels = tt
  body_kept (command ∷ body) simple layouts fields kernels =
      let l = any_parts (is_no_layout before) (command_layouts command) (joined_lists (map command_layouts body)) layouts in
      let f = any_parts (is_no_field before) (command_fields command) (joined_lists (map command_fields body)) fields in
      let k = any_parts (is_no_kernel before) (command_kernels command) (joined_lists (map command_kernels body)) kernels in
      let b = both_true (is_simple command) (list_all is_simple body) simple in
      let here = task_of command (record { layouts = l.0; fields = f.0; kernels = k.0 }) (once_simple (out-Command command) b.0) in
      subst (λ (o : Option Task). AllZip (λ command task. IsTaskOf names (out-Command command) task) (command ∷ body) (cons_option o (body_tasks names body)))
      (sym here.1) (here.2, body_kept body b.1 l.1 f.1 k.1)

  abbrev HasStage : Command-F Command → Type 0
  HasStage layer = (stage : Stage) × (layer_stage names layer ≡ Some stage) × IsStageOf names layer stage

  layer_kept : (layer : Command-F Command) → is_command_layer layer ≡ true → list_any (is_no_layout before) (command_layouts (roll-Command layer)) ≡ false → list_any (is_no_field before) (command_fields (roll-Command layer)) ≡ false
      → list_any (is_no_kernel before) (command_kernels (roll-Command layer)) ≡ false → HasStage layer
  layer_kept (c.Times number body) good layouts fields kernels = (
    Times number (body_tasks names body),
    refl,
    (
      refl,
      body_kept body (both_true (nat_le 1 (length body)) (list_all is_simple body) (both_true (is_number number false) (one_or_more is_simple body) good).1).1
          (sym (ap (list_any (is_no_layout before)) (fold-roll-Command (List Name) command_layouts_step (c.Times number body))) ∙ layouts)
          (sym (ap (list_any (is_no_field before)) (fold-roll-Command (List Name) command_fields_step (c.Times number body))) ∙ fields)
          (sym (ap (list_any (is_no_kernel before)) (fold-roll-Command (List Name) command_kernels_step (c.Times number body))) ∙ kernels),
    ),
  )
  layer_kept (c.Load field) good layouts fields kernels = let found = layer_task (c.Load field) tt layouts fields kernels in (Once found.0, ap (option_map Once) found.1, found.2)
  layer_kept (c.Run kernel) good layouts fields kernels = let found = layer_task (c.Run kernel) tt layouts fields kernels in (Once found.0, ap (option_map Once) found.1, found.2)
  layer_kept (c.Dump field) good layouts fields kernels = let found = layer_task (c.Dump field) tt layouts fields kernels in (Once found.0, ap (option_map Once) found.1, found.2)
  layer_kept (c.Image field lo hi) good layouts fields kernels = let found = layer_task (c.Image field lo hi) tt layouts fields kernels in (Once found.0, ap (option_map Once) found.1, found.2)
  layer_kept (c.Stats layout) good layouts fields kernels = let found = layer_task (c.Stats layout) tt layouts fields kernels in (Once found.0, ap (option_map Once) found.1, found.2)
  layer_kept (c.Prune layout) good layouts fields kernels = let found = layer_task (c.Prune layout) tt layouts fields kernels in (Once found.0, ap (option_map Once) found.1, found.2)
  layer_kept (c.Clear layout) good layouts fields kernels = let found = layer_task (c.Clear layout) tt layouts fields kernels in (Once found.0, ap (option_map Once) found.1, found.2)

  stage_of : (command : Command) → IsKnown before command → is_command command ≡ true → HasStage (out-Command command)
  stage_of command known good =
      layer_kept (out-Command command) good
      (ap (λ (x : Command). list_any (is_no_layout before) (command_layouts x)) (roll-out-Command command) ∙ known.layouts)
      (ap (λ (x : Command). list_any (is_no_field before) (command_fields x)) (roll-out-Command command) ∙ known.fields)
      (ap (λ (x : Command). list_any (is_no_kernel before) (command_kernels x)) (roll-out-Command command) ∙ known.kernels)

-- ---- all items

known_here : (before : Tables) (commands number : ℕ) (command : Command) → fault_in before commands number (item.Command command) ≡ None → IsKnown before command
known_here before commands number command e =
    by_test (uses_unknown before (item.Command command)) (if declares_twice before (item.Command command) then Some (Twice number)
    else option_map TooMany (too_many (declare before (item.Command command)) (commands + commands_in (item.Command command)))) refl e
  where
    parts : uses_unknown before (item.Command command) ≡ false → IsKnown before command
    parts f =
        let layouts = neither_holds (list_any (is_no_layout before) (command_layouts command))
        (list_any (is_no_field before) (command_fields command) || list_any (is_no_kernel before) (command_kernels command)) f in
        let rest = neither_holds (list_any (is_no_field before) (command_fields command)) (list_any (is_no_kernel before) (command_kernels command)) layouts.1 in
        record { layouts = layouts.0; fields = rest.0; kernels = rest.1 }

    by_test : (b : Bool) (o : Option NameFault) → uses_unknown before (item.Command command) ≡ b
        → (if b then Some (Unknown number) else o) ≡ None → IsKnown before command
    by_test true o is none = absurd (cc)
    by_test false o is none = parts is

-- the stages of items are those of their commands
abbrev AreKept : Tables → List Item → Type 0
AreKept names items = AllZip (λ command stage. IsStageOf names (out-Command command) stage) (filter_map as_command items) (stages_of names items)

all_kept : (names before : Tables) (commands number : ℕ) (items : List Item) → tables_from before commands number items ≡ Ok names → list_all is_item items ≡ true
    → AreKept names items
all_kept names before commands number [] e good = tt
all_kept names before commands number (it ∷ items) e good =
    let rest = fault_or-ok (fault_in before commands number it) (tables_from (declare before it) (commands + commands_in it) (suc number) items) names e in
    let next = both_true (is_item it) (list_all is_item items) good in
    let grows = grows_from before commands number (it ∷ items) names e in
    by_item it rest.0 next.0 grows (all_kept names (declare before it) (commands + commands_in it) (suc number) items rest.1 next.1)
  where
    by_item : (one : Item) → fault_in before commands number one ≡ None → is_item one ≡ true → Grows before names → AreKept names items → AreKept names (one ∷ items)
    by_item (item.Const decl) none is grows later = later
    by_item (item.Layout decl) none is grows later = later
    by_item (item.Kernel decl) none is grows later = later
    by_item (item.Command command) none is grows later =
        let here = stage_of before names grows command (known_here before commands number command none) is in
        subst (λ (o : Option Stage). AllZip (λ command stage. IsStageOf names (out-Command command) stage) (command ∷ filter_map as_command items) (cons_option o (stages_of names items)))
        (sym here.1) (here.2, later)

pub commands_are_kept : CommandsAreKept
unfolding compiled_tree
commands_are_kept program compiled grammar e =
    let found = bound_ok (fault_as refusal.Name (tables_of program)) (λ names. compiled_with names program) compiled e in
    let named = as_ok refusal.Name (tables_of program) found.x found.is in
    let parts = parts_kept found.x program compiled found.gives in
    subst (λ (it : CheckedProgram). AllZip (λ command stage. IsStageOf it.names (out-Command command) stage) (filter_map as_command program.items) it.commands) parts.is
    (all_kept found.x no_tables 0 1 program.items named grammar)
