-- What every compiled program keeps, from the answer of compiling and the laws of names and types.
use Rattle.std.proofs.Common.{◌≡◌, ℕ, zero, suc, ◌+◌, ◌^◌, ◌&&◌, ℤ, pos, negsuc, neg_ℤ, ◌≤ℤ◌, ◌<ℤ◌, ◌<◌, ◌≤◌, Bool, true, false, cond, List, [], ◌∷◌, ◌++◌, length, Option, Some, None, Result, Ok, Err, IfOk, refl, sym, ap, ◌∙◌, subst, arith}
use Rattle.std.specs.Prelude.{if◌then◌else◌, ◌==◌, not, int_lt, nat_le, option_and_then, nat_lt, map, slice_get, option_map, IsTrue}
use Rattle.std.specs.Cmp.{int_ranks}
use Rattle.std.specs.Ordering.{MatchOrdering}
use Rattle.std.specs.declared.cmp.Ordering.TheVariants.{Less, Equal, Greater}
use Rattle.std.specs.Result.{IsOkAnd}
use Rattle.std.specs.List.{AllByRecursion, AllZip, list_all, cons_option, filter_map, repeat}
use Rattle.std.proofs.lemmas.Bool.{and_parts, leb-false, leb-true}
use Rattle.std.proofs.lemmas.Int.{ints}
use Rattle.std.proofs.lemmas.Option.{slice_get_within}
use Rattle.sg_words.specs.declared.memory.Memory.{Memory}
use Rattle.sg_words.specs.Results.{◌>>=◌, fault_or}
use Rattle.sg_admit.specs.Neutral.{is_neutral_kernel}
use Rattle.sg_ast.specs.Token.{is_name, is_number}
use Rattle.sg_ast.specs.Grammar.{is_bound, one_or_more, is_simple_layer, is_simple, is_command_layer, is_item, is_program}
use Rattle.sg_ir.specs.declared.code.KernelCode.{KernelCode}
use Rattle.sg_exec.specs.Running.{IsRunnable}
use Rattle.sg_words.proofs.Uses.{neither, neither_holds}
use Rattle.sg_ast.specs.declared.token.Name.{Name}
use Rattle.sg_ast.specs.declared.command.Command.{Command, out-Command}
use Rattle.sg_ast.specs.declared.command.Command.TheOpen as c
use Rattle.sg_ast.specs.declared.command.Command.TheOpen.{Command-F}
use Rattle.sg_ast.specs.declared.program.Item.{Item}
use Rattle.sg_ast.specs.declared.program.Item.TheVariants as item
use Rattle.sg_ast.specs.declared.program.Program.{Program}
use Rattle.sg_layout.specs.declared.shape.Shape.{Shape}
use Rattle.sg_names.specs.declared.tables.FieldAt.{FieldAt}
use Rattle.sg_ast.specs.declared.layout.LayoutDecl.{LayoutDecl}
use Rattle.sg_ast.specs.declared.kernel.KernelDecl.{KernelDecl}
use Rattle.sg_names.specs.declared.tables.NamedField.{NamedField}
use Rattle.sg_names.specs.declared.tables.NamedLayout.{NamedLayout}
use Rattle.sg_names.specs.Tables.{Tables, layout_named, field_named, kernel_named}
use Rattle.sg_names.specs.Names.{tables_of}
use Rattle.sg_names.specs.Shapes.{shape_of}
use Rattle.sg_names.specs.Laws.{layout_decls, kernel_decls, LayoutsAreDeclared, KernelsAreDeclared, FieldsArePlaced, FieldsAreFound, KernelsAreFound, LayoutsAreFound}
use Rattle.sg_types.specs.Laws.{TablesFit, declared_shapes, DeclaredLayoutsFit, TypedIsWellTyped, VariablesAreNumbered}
use Rattle.sg_types.specs.WellTyped.{is_well_typed_kernel}
use Rattle.sg_admit.specs.declared.admitted.Admitted.{Admitted}
use Rattle.sg_session.specs.declared.refusal.Refusal.{Refusal}
use Rattle.sg_session.specs.declared.refusal.Refusal.TheVariants as refusal
use Rattle.sg_session.specs.declared.tasks.Task.{Task}
use Rattle.sg_session.specs.declared.tasks.Task.TheVariants.{Load, Run, Dump, Image, Stats, Prune, Clear}
use Rattle.sg_session.specs.declared.tasks.Stage.{Stage}
use Rattle.sg_session.specs.declared.tasks.Stage.TheVariants.{Once, Times}
use Rattle.sg_session.specs.CommandRules.{shape_of_field, has_two_axes, is_large, breaks_simple, some_breaks, breaks_layer, is_large_simple, some_is_large, is_large_layer, layer_refusal, commands_refusal}
use Rattle.sg_session.specs.Tasks.{simple_task, body_tasks, layer_stage, stages_of}
use Rattle.sg_session.specs.Limits.{most_times}
use Rattle.sg_session.specs.Compiled.{CheckedProgram, CompiledProgram, Compiles, IsCodeOf, field_numbered, IsField, IsImageTask, IsTask, IsStage, IsCompiled, unfolded_tasks}
use Rattle.sg_session.specs.Compiling.{layouts_of, kernels_of, compiled_with, compiled_parts}
use Rattle.sg_session.proofs.Lists.{count_map}
use Rattle.sg_session.proofs.Answered.{layouts_kept, lowerable, typed_ready, kernels_kept, parts_kept}

-- ---- lists of what is there

-- an item that may be there, before others
put_before : {Y : Type 0} (P : Y → Type 0) (o : Option Y) (ys : List Y) → ((y : Y) → o ≡ Some y → P y) → AllByRecursion P ys → AllByRecursion P (cons_option o ys)
put_before P None ys each all = all
put_before P (Some y) ys each all = (each y refl, all)

-- if a function gives only what a fact holds of, so does the list of what it gives
all_given : {X Y : Type 0} (P : Y → Type 0) (f : X → Option Y) (xs : List X) → ((x : X) (y : Y) → f x ≡ Some y → P y) → AllByRecursion P (filter_map f xs)
all_given P f [] each = tt
all_given P f (x ∷ xs) each = put_before P (f x) (filter_map f xs) (each x) (all_given P f xs each)

all_joined : {X : Type 0} (P : X → Type 0) (xs ys : List X) → AllByRecursion P xs → AllByRecursion P ys → AllByRecursion P (xs ++ ys)
all_joined P [] ys here there = there
all_joined P (x ∷ xs) ys here there = (here.0, all_joined P xs ys here.1 there)

all_repeated : {X : Type 0} (P : X → Type 0) (n : ℕ) (xs : List X) → AllByRecursion P xs → AllByRecursion P (repeat n xs)
all_repeated P zero xs all = tt
all_repeated P (suc n) xs all = all_joined P xs (repeat n xs) all (all_repeated P n xs all)

-- ---- tasks

-- what a name stands for is of the program
record Knows (names : Tables) (value : CompiledProgram) : Type 0 where
  pub field : (name : Name) (at : FieldAt) → field_named names name ≡ Some at → IsField value at
  pub kernel : (name : Name) (k : ℕ) → kernel_named names name ≡ Some k → k < length value.kernels
  pub layout : (name : Name) (k : ℕ) → layout_named names name ≡ Some k → k < length value.layouts

-- what a mapped option has is made of what the option has
mapped : {X Y : Type 0} (P : Y → Type 0) (f : X → Y) (o : Option X) (y : Y) → option_map f o ≡ Some y → ((x : X) → o ≡ Some x → P (f x)) → P y
mapped P f None y e each = absurd (cc)
mapped P f (Some x) y e each = let same : f x ≡ y = cc in subst P same (each x refl)

-- what a mapped option is made of
mapped_there : {X Y : Type 0} (f : X → Y) (o : Option X) (y : Y) → option_map f o ≡ Some y → (x : X) × (o ≡ Some x)
mapped_there f None y e = absurd (cc)
mapped_there f (Some x) y e = (x, refl)

-- a test of two numbers tells their order
int_lt-true : (x y : ℤ) → int_lt x y ≡ true → x <ℤ y
int_lt-true x y e = subst (λ (b : Bool). MatchOrdering (cond b Less (cond (int_lt y x) Greater Equal)) (x <ℤ y) (x ≡ y) (y <ℤ x)) e (int_ranks x y)

-- a number of the grammar is below its limit
below_limit : (n : ℕ) → is_number n true ≡ true → n ≤ 4294967295
below_limit n e = leb-true n 4294967295 e

not_false : (b : Bool) → not b ≡ false → b ≡ true
not_false true e = refl
not_false false e = absurd (cc)

module _ (names : Tables) (value : CompiledProgram) (knows : Knows names value) where
  -- a bound of the grammar is between -2^32 and 2^32
  bound_low : (z : ℤ) → is_bound z ≡ true → neg_ℤ (pos (2 ^ 32)) ≤ℤ z
  bound_low (pos n) e = omega (arith, ints)
  bound_low (negsuc n) e = let small : n + 1 ≤ 4294967295 = below_limit (n + 1) e in omega (arith, ints, small)

  bound_high : (z : ℤ) → is_bound z ≡ true → z ≤ℤ pos (2 ^ 32)
  bound_high (pos n) e = let small : n ≤ 4294967295 = below_limit n e in omega (arith, ints, small)
  bound_high (negsuc n) e = omega (arith, ints)

  -- the field of an image is that of its layout
  drawn : (field : Name) (lo hi : ℤ) → breaks_simple names value.layouts (c.Image field lo hi) ≡ false → is_large_simple names value.layouts (c.Image field lo hi) ≡ false → is_simple_layer (c.Image field lo hi) ≡ true
      → (at : FieldAt) → field_named names field ≡ Some at → IsImageTask value at lo hi
  drawn field lo hi fine small good at found =
      let shape : shape_of_field names value.layouts field ≡ slice_get value.layouts at.layout = ap (λ (o : Option FieldAt). option_and_then (λ a. slice_get value.layouts a.layout) o) found in
      let parts = neither_holds (not (has_two_axes (shape_of_field names value.layouts field))) (not (int_lt lo hi)) fine in
      let bounds = and_parts (is_bound lo) (is_bound hi) (and_parts (is_name field) (is_bound lo && is_bound hi) good).1 in
      record {
        field = knows.field field at found;
        plane = ap has_two_axes (sym shape) ∙ not_false (has_two_axes (shape_of_field names value.layouts field)) parts.0;
        small = ap is_large (sym shape) ∙ small;
        rising = int_lt-true lo hi (not_false (int_lt lo hi) parts.1);
        lo_low = bound_low lo bounds.0;
        hi_high = bound_high hi bounds.1;
      }

  task_known : (layer : Command-F Command) (task : Task) → breaks_simple names value.layouts layer ≡ false → is_large_simple names value.layouts layer ≡ false → is_simple_layer layer ≡ true
      → simple_task names layer ≡ Some task → IsTask value task
  task_known (c.Load field) task fine small good e = mapped (IsTask value) Load (field_named names field) task e (λ at found. knows.field field at found)
  task_known (c.Run kernel) task fine small good e = mapped (IsTask value) Run (kernel_named names kernel) task e (λ k found. knows.kernel kernel k found)
  task_known (c.Dump field) task fine small good e = mapped (IsTask value) Dump (field_named names field) task e (λ at found. knows.field field at found)
  task_known (c.Times number body) task fine small good e = absurd (cc)
  task_known (c.Image field lo hi) task fine small good e = mapped (IsTask value) (λ at. Image at lo hi) (field_named names field) task e (λ at found. drawn field lo hi fine small good at found)
  task_known (c.Stats layout) task fine small good e = mapped (IsTask value) Stats (layout_named names layout) task e (λ k found. knows.layout layout k found)
  task_known (c.Prune layout) task fine small good e = mapped (IsTask value) Prune (layout_named names layout) task e (λ k found. knows.layout layout k found)
  task_known (c.Clear layout) task fine small good e = mapped (IsTask value) Clear (layout_named names layout) task e (λ k found. knows.layout layout k found)

  once_known : (layer : Command-F Command) (stage : Stage) → breaks_simple names value.layouts layer ≡ false → is_large_simple names value.layouts layer ≡ false → is_simple_layer layer ≡ true
      → option_map Once (simple_task names layer) ≡ Some stage → IsStage value stage
  once_known layer stage fine small good e = mapped (IsStage value) Once (simple_task names layer) stage e (λ task found. task_known layer task fine small good found)

  -- the tasks in a `times`
  body_known : (body : List Command) → some_breaks names value.layouts body ≡ false → some_is_large names value.layouts body ≡ false → list_all is_simple body ≡ true → AllByRecursion (IsTask value) (body_tasks names body)
  body_known [] fine small good = tt
  body_known (command ∷ body) fine small good =
      let f = neither_holds (breaks_simple names value.layouts (out-Command command)) (some_breaks names value.layouts body) fine in
      let s = neither_holds (is_large_simple names value.layouts (out-Command command)) (some_is_large names value.layouts body) small in
      let g = and_parts (is_simple command) (list_all is_simple body) good in
      put_before (IsTask value) (simple_task names (out-Command command)) (body_tasks names body)
      (λ task found. task_known (out-Command command) task f.0 s.0 g.0 found) (body_known body f.1 s.1 g.1)

  -- no refusal of a layer: it breaks no rule and isn't long
  no_refusal : (a b d : Bool) (n : ℕ) → (if a then Some (refusal.Command n) else (if b then Some refusal.Times else (if d then Some refusal.Image else None))) ≡ None → (a ≡ false) × (b ≡ false) × (d ≡ false)
  no_refusal true b d n e = absurd (cc)
  no_refusal false true d n e = absurd (cc)
  no_refusal false false true n e = absurd (cc)
  no_refusal false false false n e = (refl, refl, refl)

  not_zero : (number : ℕ) → (number == 0) ≡ false → 1 ≤ number
  not_zero zero e = absurd (cc)
  not_zero (suc number) e = omega arith

  stage_known : (n : ℕ) (layer : Command-F Command) (stage : Stage) → layer_refusal names value.layouts n layer ≡ None → is_command_layer layer ≡ true → layer_stage names layer ≡ Some stage → IsStage value stage
  stage_known n (c.Times number body) stage none good e =
      let fine = no_refusal (breaks_layer names value.layouts (c.Times number body)) (nat_lt most_times number) (is_large_layer names value.layouts (c.Times number body)) n none in
      let turns = neither_holds (number == 0) (some_breaks names value.layouts body) fine.0 in
      let few : number ≤ most_times = omega (arith, leb-false (suc most_times) number fine.1) in
      let simple = (and_parts (nat_le 1 (length body)) (list_all is_simple body) (and_parts (is_number number false) (one_or_more is_simple body) good).1).1 in
      let tasks = body_known body turns.1 fine.2 simple in
      let same : Times number (body_tasks names body) ≡ stage = cc in
      subst (IsStage value) same (not_zero number turns.0, few, tasks)
  stage_known n (c.Load field) stage none good e =
      let fine = no_refusal (breaks_simple names value.layouts (c.Load field)) false (is_large_simple names value.layouts (c.Load field)) n none in
      once_known (c.Load field) stage fine.0 fine.2 good e
  stage_known n (c.Run kernel) stage none good e =
      let fine = no_refusal (breaks_simple names value.layouts (c.Run kernel)) false (is_large_simple names value.layouts (c.Run kernel)) n none in
      once_known (c.Run kernel) stage fine.0 fine.2 good e
  stage_known n (c.Dump field) stage none good e =
      let fine = no_refusal (breaks_simple names value.layouts (c.Dump field)) false (is_large_simple names value.layouts (c.Dump field)) n none in
      once_known (c.Dump field) stage fine.0 fine.2 good e
  stage_known n (c.Image field lo hi) stage none good e =
      let fine = no_refusal (breaks_simple names value.layouts (c.Image field lo hi)) false (is_large_simple names value.layouts (c.Image field lo hi)) n none in
      once_known (c.Image field lo hi) stage fine.0 fine.2 good e
  stage_known n (c.Stats layout) stage none good e =
      let fine = no_refusal (breaks_simple names value.layouts (c.Stats layout)) false (is_large_simple names value.layouts (c.Stats layout)) n none in
      once_known (c.Stats layout) stage fine.0 fine.2 good e
  stage_known n (c.Prune layout) stage none good e =
      let fine = no_refusal (breaks_simple names value.layouts (c.Prune layout)) false (is_large_simple names value.layouts (c.Prune layout)) n none in
      once_known (c.Prune layout) stage fine.0 fine.2 good e
  stage_known n (c.Clear layout) stage none good e =
      let fine = no_refusal (breaks_simple names value.layouts (c.Clear layout)) false (is_large_simple names value.layouts (c.Clear layout)) n none in
      once_known (c.Clear layout) stage fine.0 fine.2 good e

  stages_known : (n : ℕ) (items : List Item) → list_all is_item items ≡ true → commands_refusal names value.layouts n items ≡ None → AllByRecursion (IsStage value) (stages_of names items)
  stages_known n [] good none = tt
  stages_known n (item.Const decl ∷ items) good none = stages_known (suc n) items (and_parts (is_item (item.Const decl)) (list_all is_item items) good).1 none
  stages_known n (item.Layout decl ∷ items) good none = stages_known (suc n) items (and_parts (is_item (item.Layout decl)) (list_all is_item items) good).1 none
  stages_known n (item.Kernel decl ∷ items) good none = stages_known (suc n) items (and_parts (is_item (item.Kernel decl)) (list_all is_item items) good).1 none
  stages_known n (item.Command command ∷ items) good none =
      let parts = neither (layer_refusal names value.layouts n (out-Command command)) (commands_refusal names value.layouts (suc n) items) none in
      let g = and_parts (is_item (item.Command command)) (list_all is_item items) good in
      put_before (IsStage value) (layer_stage names (out-Command command)) (stages_of names items)
      (λ stage found. stage_known n (out-Command command) stage parts.0 g.0 found) (stages_known (suc n) items g.1 parts.1)

-- the tasks of stages that are of the program are
pub tasks_kept : (value : CompiledProgram) (stages : List Stage) → AllByRecursion (IsStage value) stages → AllByRecursion (IsTask value) (unfolded_tasks stages)
tasks_kept value [] all = tt
tasks_kept value (Once task ∷ stages) all = (all.0, tasks_kept value stages all.1)
tasks_kept value (Times number tasks ∷ stages) all =
    let here = all.0 in
    all_joined (IsTask value) (repeat number tasks) (unfolded_tasks stages) (all_repeated (IsTask value) number tasks here.2) (tasks_kept value stages all.1)

-- ---- the whole

-- what the laws of names and types say of a program
pub record HasLaws (program : Program) : Type 0 where
  pub layouts : LayoutsAreDeclared program
  pub kernels : KernelsAreDeclared program
  pub placed : FieldsArePlaced program
  pub fields : FieldsAreFound program
  pub named : KernelsAreFound program
  pub numbered : LayoutsAreFound program
  pub fit : DeclaredLayoutsFit
  pub typed : TypedIsWellTyped
  pub variables : VariablesAreNumbered

module _ (program : Program) (names : Tables) (laws : HasLaws program) (named : tables_of program ≡ Ok names) (value : CompiledProgram) (same : value.names ≡ names) (declared : value.layouts ≡ declared_shapes names program) where
  fits : TablesFit names value.layouts
  fits = subst (λ (ls : List Shape). TablesFit names ls) (sym declared) (laws.fit program names named)

  -- the field of a name is one of the program
  field_known : (name : Name) (at : FieldAt) → field_named names name ≡ Some at → IsField value at
  field_known name at e = record {
    named = ap (λ (t : Tables). field_numbered t at.number) same ∙ ap (option_map (λ (n : NamedField). n.at)) ((laws.fields names named name at).0 e);
    placed = fits.fields name at e;
  }

  by_field : (number : ℕ) (at : FieldAt) (o : Option NamedField) → slice_get names.fields number ≡ o → option_map (λ n. n.at) o ≡ Some at → (at.number ≡ number) × IsField value at
  by_field number at None there h = absurd (cc)
  by_field number at (Some field) there h =
      let is : field.at ≡ at = cc in
      let place = laws.placed names named number field there in
      let numbered : field.at.number ≡ number = place.2.number_is in
      let found : slice_get names.fields field.at.number ≡ Some field = ap (slice_get names.fields) numbered ∙ there in
      subst (λ (a : FieldAt). (a.number ≡ number) × IsField value a) is (numbered, field_known field.name field.at ((laws.fields names named field.name field.at).1 found))

  number_known : (number : ℕ) (at : FieldAt) → field_numbered names number ≡ Some at → (at.number ≡ number) × IsField value at
  number_known number at e = by_field number at (slice_get names.fields number) refl e

  kernel_known : length value.kernels ≡ length names.kernels → (name : Name) (k : ℕ) → kernel_named names name ≡ Some k → k < length value.kernels
  kernel_known many name k e =
      let below : k < length names.kernels = slice_get_within names.kernels k name ((laws.named names named name k).0 e) in omega arith

  layout_known : length names.layouts ≡ length value.layouts → (name : Name) (k : ℕ) → layout_named names name ≡ Some k → k < length value.layouts
  layout_known many name k e =
      let found = mapped_there (λ (n : NamedLayout). n.name) (slice_get names.layouts k) name ((laws.numbered names named name k).0 e) in
      let below : k < length names.layouts = slice_get_within names.layouts k found.0 found.1 in
      omega (arith, many, below)

-- the name and the axes of a declared layout
abbrev named_layout : LayoutDecl → NamedLayout
named_layout decl = record { name = decl.name; axes = length decl.axes }

-- codes of kernels, one for one, can be run, and are as many
codes_run : (layouts : List Shape) (kernels : List Admitted) (codes : List KernelCode) → AllZip (IsCodeOf layouts) kernels codes
    → AllByRecursion (IsRunnable layouts) codes × (length codes ≡ length kernels)
codes_run layouts [] [] all = (tt, refl)
codes_run layouts [] (code ∷ codes) all = absurd all
codes_run layouts (kernel ∷ kernels) [] all = absurd all
codes_run layouts (kernel ∷ kernels) (code ∷ codes) all = let rest = codes_run layouts kernels codes all.1 in ((all.0.runnable, rest.0), ap suc rest.1)

-- a compiled program of these parts
abbrev made_of : Tables → List Shape → List KernelCode → List Bool → List Stage → CompiledProgram
made_of names layouts codes neutral commands = record { names = names; layouts = layouts; kernels = codes; neutral = neutral; commands = commands }

kept_parts : (program : Program) (names : Tables) (layouts : List Shape) (kernels : List Admitted) (codes : List KernelCode) → IsTrue (is_program program) → HasLaws program → tables_of program ≡ Ok names
    → layouts_of names program ≡ Ok layouts → kernels_of names program ≡ Ok kernels → commands_refusal names layouts 1 program.items ≡ None → AllZip (IsCodeOf layouts) kernels codes
    → IsCompiled (made_of names layouts codes (map (λ kernel. is_neutral_kernel kernel.kernel) kernels) (stages_of names program.items))
kept_parts program names layouts kernels codes grammar laws named layouts_are kernels_are none all =
    let value = made_of names layouts codes (map (λ kernel. is_neutral_kernel kernel.kernel) kernels) (stages_of names program.items) in
    let lays = layouts_kept names program layouts layouts_are in
    let from = kernels_kept names program kernels kernels_are in
    let fit : TablesFit names layouts = fits program names laws named value refl lays.0 in
    let typed : list_all (is_well_typed_kernel layouts) from.typed.kernels ≡ true = laws.typed names layouts program from.typed fit from.typed_is in
    let ready = typed_ready names layouts program from.typed laws.variables grammar typed from.typed_is in
    let run = lowerable layouts 0 from.typed.kernels kernels from.admitted ready.0 in
    let coded = codes_run layouts kernels codes all in
    let many : length names.kernels ≡ length codes =
    ap length (laws.kernels names named) ∙ count_map (λ (decl : KernelDecl). decl.name) (kernel_decls program.items) ∙ sym ready.1 ∙ sym run.1 ∙ sym coded.1 in
    let layout_count : length names.layouts ≡ length layouts =
    ap length (laws.layouts names named) ∙ count_map named_layout (layout_decls program.items)
    ∙ sym (count_map (shape_of names) (layout_decls program.items)) ∙ sym (ap length lays.0) in
    let knows : Knows names value = record { field = field_known program names laws named value refl lays.0; kernel = kernel_known program names laws named value refl lays.0 (sym many); layout = layout_known program names laws named value refl lays.0 layout_count } in
    record {
      few_words = lays.1;
      numbers = record { layouts = layout_count; kernels = many; fields = number_known program names laws named value refl lays.0 };
      neutral = count_map (λ (kernel : Admitted). is_neutral_kernel kernel.kernel) kernels ∙ sym coded.1;
      kernels = coded.0;
      commands = stages_known names value knows 1 program.items grammar none;
    }

-- what a program is compiled to, put together from its parts
rebuilt : (program : CheckedProgram) (value : CompiledProgram) → Compiles program value → made_of program.names program.layouts value.kernels program.neutral program.commands ≡ value
rebuilt program value compiles =
    ap (λ (ts : Tables). made_of ts program.layouts value.kernels program.neutral program.commands) (sym compiles.names)
    ∙ ap (λ (ls : List Shape). made_of value.names ls value.kernels program.neutral program.commands) (sym compiles.layouts)
    ∙ ap (λ (bs : List Bool). made_of value.names value.layouts value.kernels bs program.commands) (sym compiles.neutral)
    ∙ ap (λ (ss : List Stage). made_of value.names value.layouts value.kernels value.neutral ss) (sym compiles.commands)

pub compiled_keeps : (program : Program) (names : Tables) (value : CompiledProgram) → IsTrue (is_program program) → HasLaws program → tables_of program ≡ Ok names
    → IsOkAnd (compiled_with names program) (λ checked. Compiles checked value) → IsCompiled value
compiled_keeps program names value grammar laws named compiles = by_answer (compiled_with names program) refl compiles
  where
    by_answer : (r : Result CheckedProgram Refusal) → compiled_with names program ≡ r → IsOkAnd r (λ checked. Compiles checked value) → IsCompiled value
    by_answer (Err why) e h = absurd h
    by_answer (Ok checked) e h =
        let parts = parts_kept names program checked e in
        let same : Compiles (compiled_parts names parts.layouts parts.kernels program) value = subst (λ (it : CheckedProgram). Compiles it value) (sym parts.is) h in
        subst IsCompiled (rebuilt (compiled_parts names parts.layouts parts.kernels program) value same)
        (kept_parts program names parts.layouts parts.kernels value.kernels grammar laws named parts.layouts_are parts.kernels_are parts.rules same.kernels)

-- the parts of a program and the codes of its kernels are what it is compiled to
pub parts_compile : (names : Tables) (program : Program) (layouts : List Shape) (kernels : List Admitted) (value : CompiledProgram) → layouts_of names program ≡ Ok layouts → kernels_of names program ≡ Ok kernels
    → commands_refusal names layouts 1 program.items ≡ None → value.names ≡ names → value.layouts ≡ layouts → AllZip (IsCodeOf layouts) kernels value.kernels
    → value.neutral ≡ map (λ kernel. is_neutral_kernel kernel.kernel) kernels → value.commands ≡ stages_of names program.items
    → IsOkAnd (compiled_with names program) (λ checked. Compiles checked value)
unfolding compiled_with
parts_compile names program layouts kernels value layouts_are kernels_are none names_are shapes_are codes neutral commands =
    let is : compiled_with names program ≡ Ok (compiled_parts names layouts kernels program) =
    ap (λ (r : Result (List Shape) Refusal). r >>= (λ layouts. kernels_of names program >>= (λ kernels. fault_or (commands_refusal names layouts 1 program.items) (Ok (compiled_parts names layouts kernels program))))) layouts_are
    ∙ ap (λ (r : Result (List Admitted) Refusal). r >>= (λ kernels. fault_or (commands_refusal names layouts 1 program.items) (Ok (compiled_parts names layouts kernels program)))) kernels_are
    ∙ ap (λ (o : Option Refusal). fault_or o (Ok (compiled_parts names layouts kernels program))) none in
    subst (λ (r : Result CheckedProgram Refusal). IsOkAnd r (λ checked. Compiles checked value)) (sym is)
    (record { names = names_are; layouts = shapes_are; kernels = codes; neutral = neutral; commands = commands })

-- layouts that are answered fit the names
pub layouts_fit : (program : Program) (names : Tables) (layouts : List Shape) → DeclaredLayoutsFit → tables_of program ≡ Ok names → layouts_of names program ≡ Ok layouts → TablesFit names layouts
layouts_fit program names layouts law named e = subst (λ (ls : List Shape). TablesFit names ls) (sym (layouts_kept names program layouts e).0) (law program names named)

-- the tasks of a compiled program are of it
pub tasks_there : (value : CompiledProgram) (stages : List Stage) (result : Result (List Task) Memory) → IsCompiled value → stages ≡ value.commands → IfOk result (λ tasks. tasks ≡ unfolded_tasks stages)
    → IfOk result (AllByRecursion (IsTask value))
tasks_there value stages (Ok tasks) kept same is =
    subst (λ (ts : List Task). AllByRecursion (IsTask value) ts) (sym (is ∙ ap unfolded_tasks same)) (tasks_kept value value.commands kept.commands)
tasks_there value stages (Err why) kept same is = tt

-- each kernel has a name, and is neutral or not
pub neutral_many : (value : CompiledProgram) → IsCompiled value → length value.neutral ≡ length value.names.kernels
neutral_many value kept = kept.neutral ∙ sym kept.numbers.kernels

-- a compiled program has as many names of kernels as codes
pub kernels_many : (compiled : CompiledProgram) → IsCompiled compiled → length compiled.kernels ≡ length compiled.names.kernels
kernels_many compiled kept = sym kept.numbers.kernels
