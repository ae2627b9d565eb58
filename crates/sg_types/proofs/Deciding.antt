-- Kernels and programs: the first fault of their lines decides what typing answers.
use Rattle.std.proofs.Common.{◌≡◌, ℕ, suc, true, List, [], ◌∷◌, map, fold, length, Option, Some, None, Result, Ok, Err, refl, sym, ap, subst, ◌∙◌}
use Rattle.std.specs.List.{AllByRecursion}
use Rattle.sg_words.specs.declared.operators.Ty.TheVariants as ty
use Rattle.sg_words.specs.Results.{◌>>=◌}
use Rattle.sg_ast.specs.declared.token.Name.{Name}
use Rattle.sg_ast.specs.declared.kernel.KernelDecl.{KernelDecl}
use Rattle.sg_ast.specs.declared.program.Item.{Item}
use Rattle.sg_ast.specs.declared.program.Item.TheVariants as item
use Rattle.sg_ast.specs.declared.program.Program.{Program}
use Rattle.sg_names.specs.Tables.{Tables}
use Rattle.sg_types.specs.declared.fault.TypeFault.{TypeFault}
use Rattle.sg_types.specs.declared.typed.TypedStmt.{TypedStmt}
use Rattle.sg_types.specs.declared.typed.TypedDomain.{TypedDomain}
use Rattle.sg_types.specs.declared.typed.TypedKernel.{TypedKernel}
use Rattle.sg_types.specs.declared.typed.Typed.{Typed}
use Rattle.sg_types.specs.Scopes.{Known, NamedLocal}
use Rattle.sg_types.specs.Statements.{Reached, with_variable, stmt_fault, in_turn, typed_stmt, typed_block}
use Rattle.sg_types.specs.Programs.{loop_part, first_reached, typed_kernel, typed_items, typed_program}
use Rattle.sg_types.specs.HasType.{Context, with_bound}
use Rattle.sg_types.specs.TypingLines.{Opens, Line, block_lines, with_vars, typing_lines, item_lines, program_lines, code_of}
use Rattle.sg_types.specs.TypingLaws.{HasNoCode}
use Rattle.sg_types.proofs.HasWords.{context_of}
use Rattle.sg_types.proofs.LineWords.{told, line_at, loop_line}
use Rattle.sg_types.proofs.Tellings.{fault_at, first_fault, Clean, fault_skips, clean_none, Block, closed, TellsBlock, here, more_here, turn_tells, block_tells}

-- ---- kernels

-- of a kernel: no code applies to its lines; or the fault is their first
abbrev pub TellsKernel : {A : Type 0} → ℕ → Result A TypeFault → List Line → Type 0
TellsKernel kernel (Ok done) lines = Clean lines
TellsKernel kernel (Err fault) lines = first_fault kernel 0 lines ≡ Some fault

abbrev whole_kernel : ℕ → TypedDomain → Block → Result TypedKernel TypeFault
whole_kernel vars loop r = r >>= (λ done. Ok (record { vars = vars; domain = loop; types = done.1.types; body = done.0 }))

abbrev whole_program : Result (List TypedKernel) TypeFault → Result Typed TypeFault
whole_program r = r >>= (λ ks. Ok (record { kernels = ks }))

module _ (known : Known) where
  declared : (start : Reached) (vars : List Name)
      → here known (fold (λ at name. with_variable name ty.I32 true at) start vars) ≡ fold (λ at name. with_bound name ty.I32 true at) (here known start) vars
  declared start [] = refl
  declared start (name ∷ vars) =
      declared (with_variable name ty.I32 true start) vars
      ∙ ap (λ (c : Context). fold (λ at name. with_bound name ty.I32 true at) c vars)
      (more_here known start.scope (record { name = name; local = record { var = length start.types; ty = ty.I32; is_loop = true } }))

  same_number : (start : Reached) (vars : List Name) → (fold (λ at name. with_variable name ty.I32 true at) start vars).number ≡ start.number
  same_number start [] = refl
  same_number start (name ∷ vars) = same_number (with_variable name ty.I32 true start) vars

  body_ends : (scope : List NamedLocal) (vars : ℕ) (loop : TypedDomain) (line : Line) (lines : List Line) (r : Result (List TypedStmt × Reached) TypeFault) → HasNoCode line → TellsBlock known r 1 lines
      → TellsKernel known.kernel (whole_kernel vars loop (closed scope r)) (line ∷ lines)
  body_ends scope vars loop line lines (Ok done) none h = (none, h.0)
  body_ends scope vars loop line lines (Err fault) none h = fault_skips known.kernel 0 line lines none ∙ h

  kernel_headed : {A : Type 0} (part : Result A ℕ) (line : Line) (more : List Line) (f : A → Result TypedKernel TypeFault) → told part ≡ code_of line
      → ((x : A) → HasNoCode line → TellsKernel known.kernel (f x) (line ∷ more)) → TellsKernel known.kernel (stmt_fault known 0 part >>= f) (line ∷ more)
  kernel_headed (Ok x) line more f is rest = rest x (sym is)
  kernel_headed (Err code) line more f is rest = ap (λ o. fault_at known.kernel 0 o (first_fault known.kernel 1 more)) (sym is)

  pub kernel_tells : (decl : KernelDecl) → TellsKernel known.kernel (typed_kernel known decl) (typing_lines (context_of known []) decl)
  kernel_tells decl =
      let start = first_reached decl.vars in
      let empty : Reached = record { number = 1; types = []; scope = [] } in
      let body = block_lines decl.body (with_vars decl.vars (context_of known [])) in
      kernel_headed (loop_part known decl) (line_at known [] (Opens decl.vars decl.domain)) body
      (λ loop. whole_kernel (length decl.vars) loop (typed_block known decl.body start))
      (loop_line known decl.name decl.vars decl.domain decl.body)
      (λ x none. body_ends start.scope (length decl.vars) x (line_at known [] (Opens decl.vars decl.domain)) body (in_turn (map (typed_stmt known) decl.body) start) none
      (subst (λ (n : ℕ). TellsBlock known (in_turn (map (typed_stmt known) decl.body) start) n body) (same_number empty decl.vars)
      (subst (λ (c : Context). TellsBlock known (in_turn (map (typed_stmt known) decl.body) start) start.number (block_lines decl.body c)) (declared empty decl.vars)
      (turn_tells known decl.body (block_tells known decl.body) start))))

-- ---- programs

abbrev pub or_after : Option TypeFault → Option TypeFault → Option TypeFault
or_after (Some fault) after = Some fault
or_after None after = after

-- the first fault of kernels, where the number of the first kernel is given
abbrev pub first_of : ℕ → List (List Line) → Option TypeFault
first_of kernel [] = None
first_of kernel (lines ∷ more) = or_after (first_fault kernel 0 lines) (first_of (suc kernel) more)

abbrev pub TellsItems : {A : Type 0} → ℕ → Result A TypeFault → List (List Line) → Type 0
TellsItems kernel (Ok done) kernels = AllByRecursion Clean kernels
TellsItems kernel (Err fault) kernels = first_of kernel kernels ≡ Some fault

pub skip_clean : (kernel : ℕ) (lines : List Line) (more : List (List Line)) → Clean lines → first_of kernel (lines ∷ more) ≡ first_of (suc kernel) more
skip_clean kernel lines more h = ap (λ o. or_after o (first_of (suc kernel) more)) (clean_none kernel 0 lines h)

more_items : (kernel : ℕ) (k : TypedKernel) (lines : List Line) (more : List (List Line)) (r : Result (List TypedKernel) TypeFault) → Clean lines → TellsItems (suc kernel) r more
    → TellsItems kernel (r >>= (λ ks. Ok (k ∷ ks))) (lines ∷ more)
more_items kernel k lines more (Ok ks) clean h = (clean, h)
more_items kernel k lines more (Err fault) clean h = skip_clean kernel lines more clean ∙ h

one_kernel : (kernel : ℕ) (r : Result TypedKernel TypeFault) (rest : Result (List TypedKernel) TypeFault) (lines : List Line) (more : List (List Line))
    → TellsKernel kernel r lines → TellsItems (suc kernel) rest more → TellsItems kernel (r >>= (λ k. rest >>= (λ ks. Ok (k ∷ ks)))) (lines ∷ more)
one_kernel kernel (Ok k) rest lines more h later = more_items kernel k lines more rest h later
one_kernel kernel (Err fault) rest lines more h later = ap (λ o. or_after o (first_of (suc kernel) more)) h

pub items_tell : (tables : Tables) (kernels constants : ℕ) (items : List Item) → TellsItems kernels (typed_items tables kernels constants items) (item_lines tables constants items)
items_tell tables kernels constants [] = tt
items_tell tables kernels constants (item.Const decl ∷ items) = items_tell tables kernels (suc constants) items
items_tell tables kernels constants (item.Layout decl ∷ items) = items_tell tables kernels constants items
items_tell tables kernels constants (item.Kernel decl ∷ items) =
    let known : Known = record { kernel = kernels; tables = tables; constants = constants } in
    one_kernel kernels (typed_kernel known decl) (typed_items tables (suc kernels) constants items) (typing_lines (context_of known []) decl) (item_lines tables constants items)
    (kernel_tells known decl) (items_tell tables (suc kernels) constants items)
items_tell tables kernels constants (item.Command command ∷ items) = items_tell tables kernels constants items

whole : (r : Result (List TypedKernel) TypeFault) (kernels : List (List Line)) → TellsItems 0 r kernels → TellsItems 0 (whole_program r) kernels
whole (Ok ks) kernels h = h
whole (Err fault) kernels h = h

pub program_tells : (tables : Tables) (program : Program) → TellsItems 0 (typed_program tables program) (program_lines tables program)
program_tells tables program = whole (typed_items tables 0 0 program.items) (program_lines tables program) (items_tell tables 0 0 program.items)
