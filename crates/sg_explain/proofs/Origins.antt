-- What a refusal of a file comes from: which step of compiling refuses it, and that the steps before it don't.
use Rattle.std.specs.Prelude.{◌≡◌, refl, ℕ, suc, ◌+◌, ◌⊎◌, nat_le, Bool, true, false, if◌then◌else◌, List, [], ◌∷◌, Option, Some, None, Result, Ok, Err, slice_get}
use Rattle.std.specs.Option.{option_or}
use Rattle.std.proofs.Common.{◌∙◌, ap, sym, inl, inr, arith}
use Rattle.sg_ast.specs.declared.token.Tokens.{Tokens}
use Rattle.sg_ast.specs.declared.command.Command.{Command, out-Command}
use Rattle.sg_ast.specs.declared.command.Command.TheOpen.{Command-F}
use Rattle.sg_ast.specs.declared.program.Item.{Item}
use Rattle.sg_ast.specs.declared.program.Item.TheVariants as item
use Rattle.sg_ast.specs.declared.program.Program.{Program}
use Rattle.sg_lexer.specs.Lexing.{tokens}
use Rattle.sg_parser.specs.declared.program.ParseFault.{ParseFault}
use Rattle.sg_parser.specs.Parsed.{program_of}
use Rattle.sg_layout.specs.declared.shape.Shape.{Shape}
use Rattle.sg_layout.specs.Rules.{checked_shape}
use Rattle.sg_layout.specs.StorageWords.{total_words}
use Rattle.sg_layout.specs.Limits.{most_words}
use Rattle.sg_names.specs.Tables.{Tables}
use Rattle.sg_names.specs.Names.{tables_of}
use Rattle.sg_types.specs.declared.fault.TypeFault.{TypeFault}
use Rattle.sg_types.specs.declared.typed.TypedKernel.{TypedKernel}
use Rattle.sg_types.specs.declared.typed.Typed.{Typed}
use Rattle.sg_types.specs.Laws.{declared_shapes}
use Rattle.sg_types.specs.Programs.{typed_program}
use Rattle.sg_admit.specs.declared.admitted.Admitted.{Admitted}
use Rattle.sg_admit.specs.declared.admitted.AdmitFault.{AdmitFault}
use Rattle.sg_admit.specs.Admission.{admission}
use Rattle.sg_words.specs.Results.{◌>>=◌, fault_or, fault_as}
use Rattle.sg_session.specs.declared.refusal.Refusal.{Refusal}
use Rattle.sg_session.specs.declared.refusal.Refusal.TheVariants as refusal
use Rattle.sg_session.specs.CommandRules.{breaks_layer, is_long, is_large_layer, item_refusal, commands_refusal}
use Rattle.sg_session.specs.Compiled.{CheckedProgram}
use Rattle.sg_session.specs.Compiling.{spelled_program, checked_layouts, few_words, layouts_of, admitted_kernels, kernels_of, compiled_parts, compiled_with, compiled_tree, compiled_program}
use Rattle.sg_explain.proofs.Bound.{Passed, same_err, bound_ok, as_ok, as_err, bound_err, made_err, fault_or_err}

-- the steps of which the place says something: syntax, types and admission
abbrev pub step_of : Refusal → ℕ
step_of (refusal.Lex fault) = 0
step_of (refusal.Parse fault) = 1
step_of (refusal.Name fault) = 0
step_of (refusal.Layout number fault) = 0
step_of refusal.Words = 0
step_of (refusal.Types fault) = 2
step_of (refusal.Admit kernel fault) = 3
step_of (refusal.Command number) = 0
step_of refusal.Times = 0
step_of refusal.Image = 0

-- of any other step
abbrev pub IsOther : Refusal → Type 0
IsOther why = step_of why ≡ 0

pub record IsOfSyntax (bytes : List ℕ) (why : Refusal) : Type 0 where
  pub found : Tokens
  pub fault : ParseFault
  pub read : tokens bytes ≡ Ok found
  pub refused : program_of found.list ≡ Err fault
  pub is : refusal.Parse fault ≡ why

pub record IsOfTypes (names : Tables) (program : Program) (why : Refusal) : Type 0 where
  pub fault : TypeFault
  pub refused : typed_program names program ≡ Err fault
  pub is : refusal.Types fault ≡ why

pub record IsOfAdmission (names : Tables) (program : Program) (why : Refusal) : Type 0 where
  pub typed : Typed
  pub typed_is : typed_program names program ≡ Ok typed
  pub number : ℕ
  pub kernel : TypedKernel
  pub fault : AdmitFault
  pub there : slice_get typed.kernels number ≡ Some kernel
  pub refused : admission kernel ≡ Err fault
  pub is : refusal.Admit number fault ≡ why

-- a program that is spelled, and refused for its types or not admitted
pub record IsOfKernels (bytes : List ℕ) (why : Refusal) : Type 0 where
  pub found : Tokens
  pub program : Program
  pub names : Tables
  pub read : tokens bytes ≡ Ok found
  pub spelled : program_of found.list ≡ Ok program
  pub from : IsOfTypes names program why ⊎ IsOfAdmission names program why

-- ---- layouts and commands

layouts_first : (n : ℕ) (shape : Shape) (shapes : List Shape) (why : Refusal) → (checked_layouts (suc n) shapes ≡ Err why → IsOther why)
    → (fault_as (refusal.Layout n) (checked_shape shape) ≡ Err why) ⊎ Passed (fault_as (refusal.Layout n) (checked_shape shape)) (λ layout. checked_layouts (suc n) shapes >>= (λ layouts. Ok (layout ∷ layouts))) (Err why) → IsOther why
layouts_first n shape shapes why next (inl h) = let told = as_err (refusal.Layout n) (checked_shape shape) why h in ap step_of (sym told.2)
layouts_first n shape shapes why next (inr p) = next (made_err (checked_layouts (suc n) shapes) (λ layouts. p.x ∷ layouts) why p.gives)

layouts_fault : (n : ℕ) (shapes : List Shape) (why : Refusal) → checked_layouts n shapes ≡ Err why → IsOther why
layouts_fault n [] why e = absurd (cc)
layouts_fault n (shape ∷ shapes) why e =
    layouts_first n shape shapes why (layouts_fault (suc n) shapes why)
    (bound_err (fault_as (refusal.Layout n) (checked_shape shape)) (λ layout. checked_layouts (suc n) shapes >>= (λ layouts. Ok (layout ∷ layouts))) why e)

few_fault : (b : Bool) (layouts : List Shape) (why : Refusal) → (if b then Ok layouts else Err refusal.Words) ≡ Err why → IsOther why
few_fault true layouts why e = absurd (cc)
few_fault false layouts why e = ap step_of (sym (same_err {A = List Shape} refusal.Words why e))

all_layouts_fault : (names : Tables) (program : Program) (why : Refusal) → layouts_of names program ≡ Err why → IsOther why
unfolding layouts_of
all_layouts_fault names program why e = by_first (bound_err (checked_layouts 0 (declared_shapes names program)) few_words why e) where
  by_first : (checked_layouts 0 (declared_shapes names program) ≡ Err why) ⊎ Passed (checked_layouts 0 (declared_shapes names program)) few_words (Err why) → IsOther why
  by_first (inl h) = layouts_fault 0 (declared_shapes names program) why h
  by_first (inr p) = few_fault (nat_le (total_words p.x) most_words) p.x why p.gives

layer_fault : (a b c : Bool) (number : ℕ) (why : Refusal)
    → (if a then Some (refusal.Command number) else (if b then Some refusal.Times else (if c then Some refusal.Image else None))) ≡ Some why → IsOther why
layer_fault true b c number why e = let same : refusal.Command number ≡ why = cc in ap step_of (sym same)
layer_fault false true c number why e = let same : refusal.Times ≡ why = cc in ap step_of (sym same)
layer_fault false false true number why e = let same : refusal.Image ≡ why = cc in ap step_of (sym same)
layer_fault false false false number why e = absurd (cc)

item_fault : (names : Tables) (layouts : List Shape) (number : ℕ) (given : Item) (why : Refusal) → item_refusal names layouts number given ≡ Some why → IsOther why
item_fault names layouts number (item.Const decl) why e = absurd (cc)
item_fault names layouts number (item.Layout decl) why e = absurd (cc)
item_fault names layouts number (item.Kernel decl) why e = absurd (cc)
item_fault names layouts number (item.Command command) why e =
    let layer : Command-F Command = out-Command command in
    layer_fault (breaks_layer names layouts layer) (is_long layer) (is_large_layer names layouts layer) number why e

-- the first of two refusals
either_fault : (first second : Option Refusal) (why : Refusal) → (first ≡ Some why → IsOther why) → (second ≡ Some why → IsOther why) → option_or first second ≡ Some why → IsOther why
either_fault None second why one two e = two e
either_fault (Some x) second why one two e = one e

commands_fault : (names : Tables) (layouts : List Shape) (number : ℕ) (items : List Item) (why : Refusal) → commands_refusal names layouts number items ≡ Some why → IsOther why
commands_fault names layouts number [] why e = absurd (cc)
commands_fault names layouts number (given ∷ items) why e =
    either_fault (item_refusal names layouts number given) (commands_refusal names layouts (suc number) items) why
    (item_fault names layouts number given why) (commands_fault names layouts (suc number) items why) e

-- ---- kernels

record IsNotAdmitted (n : ℕ) (kernels : List TypedKernel) (why : Refusal) : Type 0 where
  pub index : ℕ
  pub kernel : TypedKernel
  pub fault : AdmitFault
  pub there : slice_get kernels index ≡ Some kernel
  pub refused : admission kernel ≡ Err fault
  pub is : refusal.Admit (n + index) fault ≡ why

admitted_first : (n : ℕ) (kernel : TypedKernel) (kernels : List TypedKernel) (why : Refusal) → (admitted_kernels (suc n) kernels ≡ Err why → IsNotAdmitted (suc n) kernels why)
    → (fault_as (refusal.Admit n) (admission kernel) ≡ Err why) ⊎ Passed (fault_as (refusal.Admit n) (admission kernel)) (λ admitted. admitted_kernels (suc n) kernels >>= (λ more. Ok (admitted ∷ more))) (Err why)
    → IsNotAdmitted n (kernel ∷ kernels) why
admitted_first n kernel kernels why next (inl h) =
    let told = as_err (refusal.Admit n) (admission kernel) why h in
    let place : n + 0 ≡ n = omega arith in
    record { index = 0; kernel = kernel; fault = told.0; there = refl; refused = told.1; is = ap (λ k. refusal.Admit k told.0) place ∙ told.2 }
admitted_first n kernel kernels why next (inr p) =
    let rest = next (made_err (admitted_kernels (suc n) kernels) (λ more. p.x ∷ more) why p.gives) in
    let place : n + suc rest.index ≡ suc n + rest.index = omega arith in
    record { index = suc rest.index; kernel = rest.kernel; fault = rest.fault; there = rest.there; refused = rest.refused; is = ap (λ k. refusal.Admit k rest.fault) place ∙ rest.is }

admitted_fault : (n : ℕ) (kernels : List TypedKernel) (why : Refusal) → admitted_kernels n kernels ≡ Err why → IsNotAdmitted n kernels why
admitted_fault n [] why e = absurd (cc)
admitted_fault n (kernel ∷ kernels) why e =
    admitted_first n kernel kernels why (admitted_fault (suc n) kernels why)
    (bound_err (fault_as (refusal.Admit n) (admission kernel)) (λ admitted. admitted_kernels (suc n) kernels >>= (λ more. Ok (admitted ∷ more))) why e)

kernels_fault : (names : Tables) (program : Program) (why : Refusal) → kernels_of names program ≡ Err why → IsOfTypes names program why ⊎ IsOfAdmission names program why
unfolding kernels_of
kernels_fault names program why e = by_first (bound_err (fault_as refusal.Types (typed_program names program)) (λ typed. admitted_kernels 0 typed.kernels) why e) where
  by_first : (fault_as refusal.Types (typed_program names program) ≡ Err why) ⊎ Passed (fault_as refusal.Types (typed_program names program)) (λ typed. admitted_kernels 0 typed.kernels) (Err why)
      → IsOfTypes names program why ⊎ IsOfAdmission names program why
  by_first (inl h) =
      let told = as_err refusal.Types (typed_program names program) why h in
      inl (record { fault = told.0; refused = told.1; is = told.2 })
  by_first (inr p) =
      let here = admitted_fault 0 p.x.kernels why p.gives in
      let place : 0 + here.index ≡ here.index = omega arith in
      inr (record {
        typed = p.x;
        typed_is = as_ok refusal.Types (typed_program names program) p.x p.is;
        number = here.index;
        kernel = here.kernel;
        fault = here.fault;
        there = here.there;
        refused = here.refused;
        is = sym (ap (λ k. refusal.Admit k here.fault) place) ∙ here.is;
      })

-- ---- the whole

-- what comes after kernels, and after layouts
abbrev after_kernels : Tables → Program → List Shape → List Admitted → Result CheckedProgram Refusal
after_kernels names program layouts kernels = fault_or (commands_refusal names layouts 1 program.items) (Ok (compiled_parts names layouts kernels program))

abbrev after_layouts : Tables → Program → List Shape → Result CheckedProgram Refusal
after_layouts names program layouts = kernels_of names program >>= after_kernels names program layouts

with_fault : (names : Tables) (program : Program) (why : Refusal) → compiled_with names program ≡ Err why → IsOther why ⊎ (kernels_of names program ≡ Err why)
unfolding compiled_with
with_fault names program why e = by_layouts (bound_err (layouts_of names program) (after_layouts names program) why e) where
  by_commands : (layouts : List Shape) (kernels : List Admitted) → (commands_refusal names layouts 1 program.items ≡ Some why) ⊎ (◌≡◌ {A = Result CheckedProgram Refusal} (Ok (compiled_parts names layouts kernels program)) (Err why))
      → IsOther why ⊎ (kernels_of names program ≡ Err why)
  by_commands layouts kernels (inl h) = inl (commands_fault names layouts 1 program.items why h)
  by_commands layouts kernels (inr h) = absurd (cc)

  by_kernels : (layouts : List Shape) → (kernels_of names program ≡ Err why) ⊎ Passed (kernels_of names program) (after_kernels names program layouts) (Err why)
      → IsOther why ⊎ (kernels_of names program ≡ Err why)
  by_kernels layouts (inl h) = inr h
  by_kernels layouts (inr p) = by_commands layouts p.x (fault_or_err (commands_refusal names layouts 1 program.items) (Ok (compiled_parts names layouts p.x program)) why p.gives)

  by_layouts : (layouts_of names program ≡ Err why) ⊎ Passed (layouts_of names program) (after_layouts names program) (Err why) → IsOther why ⊎ (kernels_of names program ≡ Err why)
  by_layouts (inl h) = inl (all_layouts_fault names program why h)
  by_layouts (inr p) = by_kernels p.x (bound_err (kernels_of names program) (after_kernels names program p.x) why p.gives)

-- a program that isn't compiled: of its kernels, or of another step
record IsUncompiled (program : Program) (why : Refusal) : Type 0 where
  pub names : Tables
  pub from : IsOfTypes names program why ⊎ IsOfAdmission names program why

tree_fault : (program : Program) (why : Refusal) → compiled_tree program ≡ Err why → IsOther why ⊎ IsUncompiled program why
unfolding compiled_tree
tree_fault program why e = by_names (bound_err (fault_as refusal.Name (tables_of program)) (λ names. compiled_with names program) why e) where
  by_with : (names : Tables) → IsOther why ⊎ (kernels_of names program ≡ Err why) → IsOther why ⊎ IsUncompiled program why
  by_with names (inl h) = inl h
  by_with names (inr h) = inr (record { names = names; from = kernels_fault names program why h })

  by_names : (fault_as refusal.Name (tables_of program) ≡ Err why) ⊎ Passed (fault_as refusal.Name (tables_of program)) (λ names. compiled_with names program) (Err why)
      → IsOther why ⊎ IsUncompiled program why
  by_names (inl h) = let told = as_err refusal.Name (tables_of program) why h in inl (ap step_of (sym told.2))
  by_names (inr p) = by_with p.x (with_fault p.x program why p.gives)

-- bytes that spell no program
spelled_fault : (bytes : List ℕ) (why : Refusal) → spelled_program bytes ≡ Err why → IsOther why ⊎ IsOfSyntax bytes why
unfolding spelled_program
spelled_fault bytes why e = by_tokens (bound_err (fault_as refusal.Lex (tokens bytes)) (λ found. fault_as refusal.Parse (program_of found.list)) why e) where
  by_tokens : (fault_as refusal.Lex (tokens bytes) ≡ Err why) ⊎ Passed (fault_as refusal.Lex (tokens bytes)) (λ found. fault_as refusal.Parse (program_of found.list)) (Err why)
      → IsOther why ⊎ IsOfSyntax bytes why
  by_tokens (inl h) = let told = as_err refusal.Lex (tokens bytes) why h in inl (ap step_of (sym told.2))
  by_tokens (inr p) =
      let told = as_err refusal.Parse (program_of p.x.list) why p.gives in
      inr (record { found = p.x; fault = told.0; read = as_ok refusal.Lex (tokens bytes) p.x p.is; refused = told.1; is = told.2 })

-- bytes that spell one
record IsSpelling (bytes : List ℕ) (program : Program) : Type 0 where
  pub found : Tokens
  pub read : tokens bytes ≡ Ok found
  pub spelled : program_of found.list ≡ Ok program

spelled_from : (bytes : List ℕ) (program : Program) → spelled_program bytes ≡ Ok program → IsSpelling bytes program
unfolding spelled_program
spelled_from bytes program e =
    let first = bound_ok (fault_as refusal.Lex (tokens bytes)) (λ found. fault_as refusal.Parse (program_of found.list)) program e in
    record {
      found = first.x;
      read = as_ok refusal.Lex (tokens bytes) first.x first.is;
      spelled = as_ok refusal.Parse (program_of first.x.list) program first.gives;
    }

-- a refusal of a file is of another step than these, or of syntax, or of the kernels of the program that it spells
pub origin : (bytes : List ℕ) (why : Refusal) → compiled_program bytes ≡ Err why → IsOther why ⊎ (IsOfSyntax bytes why ⊎ IsOfKernels bytes why)
unfolding compiled_program
origin bytes why e = by_spelling (bound_err (spelled_program bytes) compiled_tree why e) where
  by_syntax : IsOther why ⊎ IsOfSyntax bytes why → IsOther why ⊎ (IsOfSyntax bytes why ⊎ IsOfKernels bytes why)
  by_syntax (inl h) = inl h
  by_syntax (inr h) = inr (inl h)

  by_tree : (program : Program) → IsSpelling bytes program → IsOther why ⊎ IsUncompiled program why → IsOther why ⊎ (IsOfSyntax bytes why ⊎ IsOfKernels bytes why)
  by_tree program s (inl h) = inl h
  by_tree program s (inr h) = inr (inr (record { found = s.found; program = program; names = h.names; read = s.read; spelled = s.spelled; from = h.from }))

  by_spelling : (spelled_program bytes ≡ Err why) ⊎ Passed (spelled_program bytes) compiled_tree (Err why) → IsOther why ⊎ (IsOfSyntax bytes why ⊎ IsOfKernels bytes why)
  by_spelling (inl h) = by_syntax (spelled_fault bytes why h)
  by_spelling (inr p) = by_tree p.x (spelled_from bytes p.x p.is) (tree_fault p.x why p.gives)
