-- Kernels and programs: typed, or the first fault.
use Rattle.std.specs.Prelude.{ℕ, suc, Bool, true, false, not, ◌&&◌, ◌||◌, ◌==◌, List, [], ◌∷◌, map, length, fold, is_some, Option, option_map, option_and_then, Result, Ok}
use Rattle.std.specs.List.{list_all, list_any}
use Rattle.sg_words.specs.declared.operators.Ty.TheVariants as ty
use Rattle.sg_ast.specs.declared.token.Name.{Name}
use Rattle.sg_ast.specs.declared.kernel.DomainDecl.{DomainDecl}
use Rattle.sg_ast.specs.declared.kernel.DomainDecl.TheVariants as domain
use Rattle.sg_ast.specs.declared.kernel.KernelDecl.{KernelDecl}
use Rattle.sg_ast.specs.declared.program.Item.{Item}
use Rattle.sg_ast.specs.declared.program.Item.TheVariants as item
use Rattle.sg_ast.specs.declared.program.Program.{Program}
use Rattle.sg_names.specs.Tables.{Tables, layout_named, axes_of}
use Rattle.sg_names.specs.Names.{has_repeat}
use Rattle.sg_types.specs.declared.fault.TypeFault.{TypeFault}
use Rattle.sg_types.specs.declared.typed.TypedDomain.{TypedDomain}
use Rattle.sg_types.specs.declared.typed.TypedDomain.TheVariants as typed
use Rattle.sg_types.specs.declared.typed.TypedKernel.{TypedKernel}
use Rattle.sg_types.specs.declared.typed.Typed.{Typed}
use Rattle.sg_types.specs.Scopes.{Known, earlier_constant}
use Rattle.sg_types.specs.Expressions.{equals_some, all_some}
use Rattle.sg_types.specs.declared.wrongs.Wrongs.{Wrongs}
use Rattle.sg_types.specs.Statements.{judged_part, knows_range, counts_range, typed_range, Reached, with_variable, stmt_fault, typed_block}
use Rattle.sg_words.specs.Results.{◌>>=◌}

-- ---- the loop of a kernel

-- a name is that of an earlier constant
abbrev pub any_earlier : Known → List Name → Bool
any_earlier known names = list_any (λ name. is_some (earlier_constant known name)) names

-- how many axes the layout of a name has
abbrev pub layout_axes : Tables → Name → Option ℕ
layout_axes tables name = option_and_then (axes_of tables) (layout_named tables name)

-- every plain name in the bounds is known: the loop's own variables are not in scope there
abbrev pub knows_domain : Known → DomainDecl → Bool
knows_domain known (domain.Layout name) = is_some (layout_named known.tables name)
knows_domain known (domain.Ranges ranges) = list_all (knows_range known []) ranges

-- the layout has as many axes as the loop has variables, or there are as many ranges; and accesses in bounds are as they should be
abbrev pub counts_domain : Known → ℕ → DomainDecl → Bool
counts_domain known vars (domain.Layout name) = equals_some (layout_axes known.tables name) vars
counts_domain known vars (domain.Ranges ranges) = (length ranges == vars) && list_all (counts_range known) ranges

-- the typed domain, where the bounds' types fit
abbrev pub typed_domain : Known → DomainDecl → Option TypedDomain
typed_domain known (domain.Layout name) = option_map typed.Walk (layout_named known.tables name)
typed_domain known (domain.Ranges ranges) = option_map typed.Ranges (all_some (map (typed_range known []) ranges))

-- what may be wrong with `for VARIABLES in DOMAIN`, and its domain
abbrev pub loop_wrongs : Known → KernelDecl → Wrongs
loop_wrongs known kernel = record {
  unknown = not (knows_domain known kernel.domain);
  twice = has_repeat kernel.vars || any_earlier known kernel.vars;
  fixed = false;
  miscounted = not (counts_domain known (length kernel.vars) kernel.domain);
}

-- the typed domain of a loop, or the first of its codes
abbrev pub loop_part : Known → KernelDecl → Result TypedDomain ℕ
loop_part known kernel = judged_part (loop_wrongs known kernel) (typed_domain known kernel.domain)

-- the start of the body: statement 1, where the loop's variables are declared in order
abbrev pub first_reached : List Name → Reached
first_reached vars = fold (λ at name. with_variable name ty.I32 true at) (record { number = 1; types = []; scope = [] }) vars

-- the typed kernel, or its first fault
abbrev pub typed_kernel : Known → KernelDecl → Result TypedKernel TypeFault
typed_kernel known kernel = do
  loop ← stmt_fault known 0 (loop_part known kernel)
  done ← typed_block known kernel.body (first_reached kernel.vars)
  Ok (record { vars = length kernel.vars; domain = loop; types = done.1.types; body = done.0 })

-- ---- programs

-- the kernels among items, where the number of the next kernel and of the constants so far are given
abbrev pub typed_items : Tables → ℕ → ℕ → List Item → Result (List TypedKernel) TypeFault
typed_items tables kernels constants [] = Ok []
typed_items tables kernels constants (item.Const decl ∷ items) = typed_items tables kernels (suc constants) items
typed_items tables kernels constants (item.Layout decl ∷ items) = typed_items tables kernels constants items
typed_items tables kernels constants (item.Kernel decl ∷ items) = do
  kernel ← typed_kernel (record { kernel = kernels; tables = tables; constants = constants }) decl
  more ← typed_items tables (suc kernels) constants items
  Ok (kernel ∷ more)
typed_items tables kernels constants (item.Command command ∷ items) = typed_items tables kernels constants items

-- the typed program, or the first fault of its first kernel that has one
abbrev pub typed_program : Tables → Program → Result Typed TypeFault
typed_program tables program = do
  kernels ← typed_items tables 0 0 program.items
  Ok (record { kernels = kernels })
