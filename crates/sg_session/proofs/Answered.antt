-- What an answer of compiling says of its parts.
use Rattle.std.proofs.Common.{◌≡◌, ℕ, suc, ◌≤◌, Bool, true, false, List, [], ◌∷◌, length, Option, Some, None, Result, Ok, Err, IfOk, refl, sym, ap, ◌∙◌, subst, arith}
use Rattle.std.specs.Prelude.{if◌then◌else◌, ◌&&◌, nat_le, nat_lt, option_map}
use Rattle.std.specs.List.{AllByRecursion, list_all, range_with_len}
use Rattle.std.proofs.lemmas.Bool.{leb-true, and_parts}
use Rattle.sg_words.proofs.Uses.{fault_or-ok}
use Rattle.sg_words.specs.Answers.{Answers}
use Rattle.sg_words.specs.declared.memory.Stop.{Stop}
use Rattle.sg_words.specs.declared.memory.Stop.TheVariants as stop
use Rattle.sg_words.specs.Results.{◌>>=◌, fault_or, fault_as}
use Rattle.sg_ast.specs.Limits.{most_listed_axes}
use Rattle.sg_ast.specs.Token.{is_name}
use Rattle.sg_ast.specs.Grammar.{one_to, is_kernel, is_item}
use Rattle.sg_ast.specs.declared.kernel.KernelDecl.{KernelDecl}
use Rattle.sg_ast.specs.declared.program.Program.{Program}
use Rattle.sg_ast.specs.declared.program.Item.{Item}
use Rattle.sg_ast.specs.declared.program.Item.TheVariants as item
use Rattle.sg_layout.specs.declared.shape.Shape.{Shape}
use Rattle.sg_layout.specs.declared.layout.LayoutFault.{LayoutFault}
use Rattle.sg_layout.specs.declared.layout.LayoutFault.TheVariants as layout_fault
use Rattle.sg_layout.specs.Axes.{bounds_of_shape}
use Rattle.sg_layout.specs.Rules.{checked_shape, checked_by, is_small, first_node_fault}
use Rattle.sg_layout.specs.StorageWords.{total_words}
use Rattle.sg_layout.specs.Limits.{most_words}
use Rattle.sg_names.specs.Tables.{Tables}
use Rattle.sg_names.specs.Laws.{kernel_decls}
use Rattle.sg_types.specs.declared.typed.Typed.{Typed}
use Rattle.sg_types.specs.declared.typed.TypedKernel.{TypedKernel}
use Rattle.sg_types.specs.WellTyped.{is_well_typed_kernel}
use Rattle.sg_types.specs.Numbers.{kernel_vars}
use Rattle.sg_types.specs.Laws.{declared_shapes, VariablesAreNumbered}
use Rattle.sg_types.specs.Scopes.{Known}
use Rattle.sg_types.specs.declared.fault.TypeFault.{TypeFault}
use Rattle.sg_types.specs.Statements.{stmt_fault, typed_block}
use Rattle.sg_types.specs.Programs.{loop_part, first_reached, typed_kernel, typed_items, typed_program}
use Rattle.sg_admit.specs.declared.admitted.Admitted.{Admitted}
use Rattle.sg_admit.specs.declared.admitted.AdmitFault.TheVariants.{BoxTooLarge}
use Rattle.sg_admit.specs.Limits.{most_box_points}
use Rattle.sg_admit.specs.Bounds.{constant_domain, box_size}
use Rattle.sg_admit.specs.Lines.{kernel_lines}
use Rattle.sg_admit.specs.Rules.{facts_of}
use Rattle.sg_admit.specs.Admission.{admission, box_answer, kept_of, first_fault}
use Rattle.sg_session.specs.declared.refusal.Refusal.{Refusal}
use Rattle.sg_session.specs.declared.refusal.Refusal.TheVariants as refusal
use Rattle.sg_session.specs.CommandRules.{commands_refusal}
use Rattle.sg_session.specs.Compiled.{CheckedProgram}
use Rattle.sg_session.specs.Compiling.{checked_layouts, few_words, layouts_of, admitted_kernels, kernels_of, compiled_parts, compiled_with}
use Rattle.sg_session.specs.steps.Kernels.{IsReady, IsLowerable}

-- ---- answers in turn

-- an answer after another has come from one
pub record Bound {A B E : Type 0} (r : Result A E) (f : A → Result B E) (y : B) : Type 0 where
  pub x : A
  pub is : r ≡ Ok x
  pub gives : f x ≡ Ok y

pub bound_ok : {A B E : Type 0} (r : Result A E) (f : A → Result B E) (y : B) → (r >>= f) ≡ Ok y → Bound r f y
bound_ok (Ok x) f y e = record { x = x; is = refl; gives = e }
bound_ok (Err fault) f y e = absurd (cc)

pub as_ok : {A D E : Type 0} (tell : D → E) (r : Result A D) (x : A) → fault_as tell r ≡ Ok x → r ≡ Ok x
as_ok tell (Ok y) x e = let same : y ≡ x = cc in ap Ok same
as_ok tell (Err d) x e = absurd (cc)

told_none : {A B : Type 0} (tell : A → B) (o : Option A) → option_map tell o ≡ None → o ≡ None
told_none tell None e = refl
told_none tell (Some x) e = absurd (cc)

-- ---- layouts

-- a shape that keeps the rules is the layout
pub checked_same : (shape layout : Shape) → checked_shape shape ≡ Ok layout → layout ≡ shape
checked_same shape layout h = by_nodes (first_node_fault shape.axes 1 shape.nodes) h where
  by_size : (small : Bool) → (if small then Ok shape else Err layout_fault.TooLarge) ≡ Ok layout → layout ≡ shape
  by_size true e = cc
  by_size false e = absurd (cc)

  by_nodes : (fault : Option LayoutFault) → checked_by fault shape ≡ Ok layout → layout ≡ shape
  by_nodes None e = by_size (is_small (bounds_of_shape shape)) e
  by_nodes (Some fault) e = absurd (cc)

pub layouts_same : (n : ℕ) (shapes layouts : List Shape) → checked_layouts n shapes ≡ Ok layouts → layouts ≡ shapes
layouts_same n [] layouts e = cc
layouts_same n (shape ∷ shapes) layouts e =
    let first = bound_ok (fault_as (refusal.Layout n) (checked_shape shape)) (λ layout. checked_layouts (suc n) shapes >>= (λ layouts. Ok (layout ∷ layouts))) layouts e in
    let rest = bound_ok (checked_layouts (suc n) shapes) (λ layouts. Ok (first.x ∷ layouts)) layouts first.gives in
    let head : first.x ≡ shape = checked_same shape first.x (as_ok (refusal.Layout n) (checked_shape shape) first.x first.is) in
    let tail : rest.x ≡ shapes = layouts_same (suc n) shapes rest.x rest.is in
    cc

few_ok : (b : Bool) (x y : List Shape) → (if b then Ok x else Err refusal.Words) ≡ Ok y → (b ≡ true) × (x ≡ y)
few_ok true x y e = (refl, cc)
few_ok false x y e = absurd (cc)

-- layouts that are answered are those declared, and have few words
pub layouts_kept : (names : Tables) (program : Program) (layouts : List Shape) → layouts_of names program ≡ Ok layouts → (layouts ≡ declared_shapes names program) × (total_words layouts ≤ most_words)
unfolding layouts_of
layouts_kept names program layouts e =
    let first = bound_ok (checked_layouts 0 (declared_shapes names program)) few_words layouts e in
    let few = few_ok (nat_le (total_words first.x) most_words) first.x layouts first.gives in
    let small : total_words first.x ≤ most_words = leb-true (total_words first.x) most_words few.0 in
    (sym few.1 ∙ layouts_same 0 (declared_shapes names program) first.x first.is, subst (λ (ls : List Shape). total_words ls ≤ most_words) few.1 small)

-- ---- kernels

boxed_kept : (b : Bool) (kernel : TypedKernel) (admitted : Admitted) → (if b then Err BoxTooLarge else Ok (kept_of kernel)) ≡ Ok admitted → admitted.kernel ≡ kernel
boxed_kept true kernel admitted e = absurd (cc)
boxed_kept false kernel admitted e = let same : kept_of kernel ≡ admitted = cc in ap (λ (a : Admitted). a.kernel) (sym same)

-- what is admitted has the kernel
pub kernel_kept : (kernel : TypedKernel) (admitted : Admitted) → admission kernel ≡ Ok admitted → admitted.kernel ≡ kernel
kernel_kept kernel admitted e =
    boxed_kept (nat_lt most_box_points (box_size (constant_domain kernel))) kernel admitted
    (fault_or-ok (first_fault (facts_of kernel) (kernel_lines kernel)) (box_answer kernel) admitted e).1

run_ready : (layouts : List Shape) (kernel : TypedKernel) (admitted : Admitted) → admission kernel ≡ Ok admitted → IsReady layouts kernel → IsLowerable layouts admitted
run_ready layouts kernel admitted e ready =
    let same = kernel_kept kernel admitted e in
    record { admitted = ap admission same ∙ e; ready = subst (IsReady layouts) (sym same) ready }

pub lowerable : (layouts : List Shape) (n : ℕ) (kernels : List TypedKernel) (admitted : List Admitted) → admitted_kernels n kernels ≡ Ok admitted → AllByRecursion (IsReady layouts) kernels
    → AllByRecursion (IsLowerable layouts) admitted × (length admitted ≡ length kernels)
lowerable layouts n [] admitted e ready = let none : [] ≡ admitted = cc in (subst (λ (as' : List Admitted). AllByRecursion (IsLowerable layouts) as') none tt, ap length (sym none))
lowerable layouts n (kernel ∷ kernels) admitted e ready =
    let first = bound_ok (fault_as (refusal.Admit n) (admission kernel)) (λ one. admitted_kernels (suc n) kernels >>= (λ more. Ok (one ∷ more))) admitted e in
    let rest = bound_ok (admitted_kernels (suc n) kernels) (λ more. Ok (first.x ∷ more)) admitted first.gives in
    let tail = lowerable layouts (suc n) kernels rest.x rest.is ready.1 in
    let head = run_ready layouts kernel first.x (as_ok (refusal.Admit n) (admission kernel) first.x first.is) ready.0 in
    let made : first.x ∷ rest.x ≡ admitted = cc in
    (subst (λ (as' : List Admitted). AllByRecursion (IsLowerable layouts) as') made (head, tail.0), ap length (sym made) ∙ ap suc tail.1)

-- what an answer for kernels says of each of them
pub lowerable_all : (layouts : List Shape) (kernels : List TypedKernel) (result : Result (List Admitted) (Stop Refusal)) → AllByRecursion (IsReady layouts) kernels
    → Answers result (admitted_kernels 0 kernels) → IfOk result (AllByRecursion (IsLowerable layouts))
lowerable_all layouts kernels (Ok admitted) ready e = (lowerable layouts 0 kernels admitted e ready).0
lowerable_all layouts kernels (Err stop.Memory) ready e = tt
lowerable_all layouts kernels (Err (stop.Refused why)) ready e = tt

abbrev vars_or : ℕ → Result TypedKernel TypeFault → ℕ
vars_or n (Ok kernel) = kernel.vars
vars_or n (Err fault) = n

-- a typed kernel has as many variables as its loop declares
vars_are : (known : Known) (decl : KernelDecl) (kernel : TypedKernel) → typed_kernel known decl ≡ Ok kernel → kernel.vars ≡ length decl.vars
vars_are known decl kernel e =
    let loop = bound_ok (stmt_fault known 0 (loop_part known decl))
    (λ loop. typed_block known decl.body (first_reached decl.vars) >>= (λ done. Ok (record { vars = length decl.vars; domain = loop; types = done.1.types; body = done.0 }))) kernel e in
    let done = bound_ok (typed_block known decl.body (first_reached decl.vars)) (λ done. Ok (record { vars = length decl.vars; domain = loop.x; types = done.1.types; body = done.0 })) kernel loop.gives in
    ap (λ (r : Result TypedKernel TypeFault). vars_or 0 r) (sym done.gives)

-- a kernel of the grammar has few
few_vars : (decl : KernelDecl) → is_kernel decl ≡ true → length decl.vars ≤ 3
few_vars decl h =
    let named = (and_parts (is_name decl.name && one_to most_listed_axes is_name decl.vars) _ h).0 in
    let listed = (and_parts (is_name decl.name) (one_to most_listed_axes is_name decl.vars) named).1 in
    let counted = (and_parts (nat_le 1 (length decl.vars) && nat_le (length decl.vars) most_listed_axes) (list_all is_name decl.vars) listed).0 in
    leb-true (length decl.vars) 3 ((and_parts (nat_le 1 (length decl.vars)) (nat_le (length decl.vars) most_listed_axes) counted).1)

-- the variables of a kernel are numbered, and its loop has few of them
abbrev IsNumbered : TypedKernel → Type 0
IsNumbered kernel = (kernel_vars kernel ≡ range_with_len 0 (length kernel.types)) × (kernel.vars ≤ 3)

numbered : (names : Tables) (k c : ℕ) (items : List Item) (kernels : List TypedKernel) → VariablesAreNumbered → list_all is_item items ≡ true → typed_items names k c items ≡ Ok kernels
    → AllByRecursion IsNumbered kernels × (length kernels ≡ length (kernel_decls items))
numbered names k c [] kernels law good e = let none : [] ≡ kernels = cc in (subst (λ (ks : List TypedKernel). AllByRecursion IsNumbered ks) none tt, ap length (sym none))
numbered names k c (item.Const decl ∷ items) kernels law good e = numbered names k (suc c) items kernels law (and_parts (is_item (item.Const decl)) (list_all is_item items) good).1 e
numbered names k c (item.Layout decl ∷ items) kernels law good e = numbered names k c items kernels law (and_parts (is_item (item.Layout decl)) (list_all is_item items) good).1 e
numbered names k c (item.Command command ∷ items) kernels law good e = numbered names k c items kernels law (and_parts (is_item (item.Command command)) (list_all is_item items) good).1 e
numbered names k c (item.Kernel decl ∷ items) kernels law good e =
    let goods = and_parts (is_item (item.Kernel decl)) (list_all is_item items) good in
    let known : Known = record { kernel = k; tables = names; constants = c } in
    let first = bound_ok (typed_kernel known decl) (λ kernel. typed_items names (suc k) c items >>= (λ more. Ok (kernel ∷ more))) kernels e in
    let rest = bound_ok (typed_items names (suc k) c items) (λ more. Ok (first.x ∷ more)) kernels first.gives in
    let tail = numbered names (suc k) c items rest.x law goods.1 rest.is in
    let few : first.x.vars ≤ 3 = subst (λ (n : ℕ). n ≤ 3) (sym (vars_are known decl first.x first.is)) (few_vars decl goods.0) in
    let head : IsNumbered first.x = (law known decl first.x first.is, few) in
    let made : first.x ∷ rest.x ≡ kernels = cc in
    (subst (λ (ks : List TypedKernel). AllByRecursion IsNumbered ks) made (head, tail.0), ap length (sym made) ∙ ap suc tail.1)

first_true : (a b : Bool) → (a && b) ≡ true → (a ≡ true) × (b ≡ true)
first_true true b e = (refl, e)
first_true false b e = absurd (cc)

ready_all : (layouts : List Shape) (kernels : List TypedKernel) → list_all (is_well_typed_kernel layouts) kernels ≡ true → AllByRecursion IsNumbered kernels → AllByRecursion (IsReady layouts) kernels
ready_all layouts [] typed all = tt
ready_all layouts (kernel ∷ kernels) typed all =
    let parts = first_true (is_well_typed_kernel layouts kernel) (list_all (is_well_typed_kernel layouts) kernels) typed in
    (record { typed = parts.0; numbered = all.0.0; few = all.0.1 }, ready_all layouts kernels parts.1 all.1)

-- the kernels of a typed program are ready, and as many as are declared
pub typed_ready : (names : Tables) (layouts : List Shape) (program : Program) (typed : Typed) → VariablesAreNumbered → list_all is_item program.items ≡ true → list_all (is_well_typed_kernel layouts) typed.kernels ≡ true
    → typed_program names program ≡ Ok typed → AllByRecursion (IsReady layouts) typed.kernels × (length typed.kernels ≡ length (kernel_decls program.items))
typed_ready names layouts program typed law good fits e =
    let found = bound_ok (typed_items names 0 0 program.items) (λ kernels. Ok (record { kernels = kernels })) typed e in
    let made : Typed = record { kernels = found.x } in
    let inner : made ≡ typed = cc in
    let all = numbered names 0 0 program.items found.x law good found.is in
    let same : found.x ≡ typed.kernels = ap (λ (t : Typed). t.kernels) inner in
    (ready_all layouts typed.kernels fits (subst (λ (ks : List TypedKernel). AllByRecursion IsNumbered ks) same all.0), ap length (sym same) ∙ all.1)

-- what kernels that are answered come from
pub record HasTyped (names : Tables) (program : Program) (kernels : List Admitted) : Type 0 where
  pub typed : Typed
  pub typed_is : typed_program names program ≡ Ok typed
  pub admitted : admitted_kernels 0 typed.kernels ≡ Ok kernels

pub kernels_kept : (names : Tables) (program : Program) (kernels : List Admitted) → kernels_of names program ≡ Ok kernels → HasTyped names program kernels
unfolding kernels_of
kernels_kept names program kernels e =
    let found = bound_ok (fault_as refusal.Types (typed_program names program)) (λ typed. admitted_kernels 0 typed.kernels) kernels e in
    record { typed = found.x; typed_is = as_ok refusal.Types (typed_program names program) found.x found.is; admitted = found.gives }

-- ---- the whole

pub record HasParts (names : Tables) (program : Program) (value : CheckedProgram) : Type 0 where
  pub layouts : List Shape
  pub kernels : List Admitted
  pub layouts_are : layouts_of names program ≡ Ok layouts
  pub kernels_are : kernels_of names program ≡ Ok kernels
  pub rules : commands_refusal names layouts 1 program.items ≡ None
  pub is : compiled_parts names layouts kernels program ≡ value

pub parts_kept : (names : Tables) (program : Program) (value : CheckedProgram) → compiled_with names program ≡ Ok value → HasParts names program value
unfolding compiled_with
parts_kept names program value e =
    let first = bound_ok (layouts_of names program) (λ layouts. kernels_of names program >>= (λ kernels. fault_or (commands_refusal names layouts 1 program.items) (Ok (compiled_parts names layouts kernels program)))) value e in
    let next = bound_ok (kernels_of names program) (λ kernels. fault_or (commands_refusal names first.x 1 program.items) (Ok (compiled_parts names first.x kernels program))) value first.gives in
    let parts = fault_or-ok (commands_refusal names first.x 1 program.items) (Ok (compiled_parts names first.x next.x program)) value next.gives in
    let same : compiled_parts names first.x next.x program ≡ value = cc in
    record { layouts = first.x; kernels = next.x; layouts_are = first.is; kernels_are = next.is; rules = parts.0; is = same }

-- there are no more kernels than items
pub count_kernels : (items : List Item) → length (kernel_decls items) ≤ length items
count_kernels [] = omega arith
count_kernels (item.Const decl ∷ items) = omega (arith, count_kernels items)
count_kernels (item.Layout decl ∷ items) = omega (arith, count_kernels items)
count_kernels (item.Kernel decl ∷ items) = omega (arith, count_kernels items)
count_kernels (item.Command command ∷ items) = omega (arith, count_kernels items)
