-- What the worked programs are compiled to: names, layouts, kernels, commands.
use Rattle.std.proofs.Common.{◌≡◌, ℕ, List, [], ◌∷◌, ◌++◌, Option, None, Result, Ok, Err, true, ◌&&◌, refl, ap, ◌∙◌, if◌then◌else◌}
use Rattle.std.specs.Prelude.{codes, pos, nat_lt, Bool}
use Rattle.std.specs.List.{list_all}
use Rattle.sg_words.specs.declared.operators.Ty.{Ty}
use Rattle.sg_words.specs.declared.operators.Ty.TheVariants as ty
use Rattle.sg_words.specs.declared.operators.AccOp.TheVariants as acc
use Rattle.sg_words.specs.Results.{fault_or}
use Rattle.sg_ast.specs.declared.token.Name.{Name}
use Rattle.sg_ast.specs.declared.expr.Expr.{Expr}
use Rattle.sg_ast.specs.declared.stmt.WayDecl.{WayDecl}
use Rattle.sg_ast.specs.declared.stmt.Stmt.TheVariants as s
use Rattle.sg_ast.specs.declared.command.Command.TheVariants.{outs-Run, outs-Dump}
use Rattle.sg_ast.proofs.Uses.{fold_equations, fold-Write_stmt}
use Rattle.sg_layout.specs.declared.shape.Kind.TheVariants.{Dense, Pointer}
use Rattle.sg_layout.specs.declared.shape.Shape.{Shape}
use Rattle.sg_flat.specs.declared.effects.Domain.{Domain}
use Rattle.sg_flat.specs.declared.effects.Domain.TheVariants.{Range}
use Rattle.sg_flat.specs.declared.effects.Way.{Way}
use Rattle.sg_flat.specs.declared.effects.Way.TheVariants.{Acc}
use Rattle.sg_names.specs.declared.tables.FieldAt.{FieldAt}
use Rattle.sg_names.specs.Tables.{Tables}
use Rattle.sg_names.specs.Names.{tables_of}
use Rattle.sg_types.specs.declared.typed.TypedExpr.{TypedExpr}
use Rattle.sg_types.specs.declared.typed.Form.TheVariants as form
use Rattle.sg_types.specs.declared.typed.TypedRange.{TypedRange}
use Rattle.sg_types.specs.declared.typed.TypedKind.TheVariants as kind
use Rattle.sg_types.specs.declared.typed.TypedStmt.{TypedStmt}
use Rattle.sg_types.specs.declared.typed.TypedDomain.TheVariants as domain
use Rattle.sg_types.specs.declared.typed.TypedKernel.{TypedKernel}
use Rattle.sg_types.specs.Scopes.{Known}
use Rattle.sg_types.specs.Statements.{Reached, TypingStep, typed_stmt, typed_stmt_step, simple_step, write_part}
use Rattle.sg_types.specs.Programs.{typed_program}
use Rattle.sg_types.specs.Values.{World}
use Rattle.sg_types.specs.Iterations.{before_all, domain_of}
use Rattle.sg_types.proofs.Uses.{fold-Write, fold-Literal, fold-Var, expr_folds, value-Literal}
use Rattle.sg_admit.specs.declared.admitted.Admitted.{Admitted}
use Rattle.sg_admit.specs.declared.admitted.AdmitFault.{AdmitFault}
use Rattle.sg_admit.specs.declared.admitted.AdmitFault.TheVariants.{BoxTooLarge}
use Rattle.sg_admit.specs.Limits.{most_box_points}
use Rattle.sg_admit.specs.Lines.{Writes, Opens, Around, Line, line_of, nothing_round, line_step, stmt_lines, kernel_lines}
use Rattle.sg_admit.specs.Clean.{unclean_in}
use Rattle.sg_admit.specs.Bounds.{box_size, nowhere}
use Rattle.sg_admit.specs.Rules.{Facts, SeenPart, seen_step, has_good_reads, ways_in, first_way, has_own, has_acc, writes_layout}
use Rattle.sg_admit.specs.Neutral.{asks_nothing_in, asks_nothing, is_neutral_kernel}
use Rattle.sg_admit.specs.Admission.{first_fault, kept_of, box_answer, admission}
use Rattle.sg_session.specs.declared.refusal.Refusal.{Refusal}
use Rattle.sg_session.specs.declared.tasks.Task.TheVariants.{Run, Dump}
use Rattle.sg_session.specs.declared.tasks.Stage.TheVariants.{Once}
use Rattle.sg_session.specs.Compiled.{CheckedProgram}
use Rattle.sg_session.specs.CommandRules.{commands_refusal}
use Rattle.sg_session.specs.Tasks.{stages_of}
use Rattle.sg_session.specs.Compiling.{spelled_program, compiled_program, compiled_tree, compiled_with, layouts_of, kernels_of}
use Rattle.sparsegrid.proofs.WorkedSpelled.{name, program_to}

-- ---- names

abbrev pub field : FieldAt
field = record { number = 0; layout = 0; place = 0; ty = ty.I32 }

abbrev pub names : Tables
names = record {
  constants = [];
  layouts = record { name = name (codes "A"); axes = 1 } ∷ [];
  fields = record { name = name (codes "x"); at = field } ∷ [];
  kernels = name (codes "k") ∷ [];
}

names_are : (at : ℕ) → tables_of (program_to at) ≡ Ok names
names_are at = simp fold_equations

-- ---- layouts

abbrev pub shape : Shape
shape = record {
  axes = 1;
  nodes = record { kind = Pointer; sizes = record { axis = 1; extent = pos 4 } ∷ []; cap = pos 2; chunk = pos 0 }
      ∷ record { kind = Dense; sizes = record { axis = 1; extent = pos 2 } ∷ []; cap = pos 0; chunk = pos 0 } ∷ [];
  fields = ty.I32 ∷ [];
}

layouts_are : (at : ℕ) → layouts_of names (program_to at) ≡ Ok (shape ∷ [])
unfolding layouts_of
layouts_are at = refl

-- ---- types

abbrev pub literal : ℕ → TypedExpr
literal word = record { ty = ty.I32; form = form.Literal word }

abbrev pub variable : TypedExpr
variable = record { ty = ty.I32; form = form.Var 0 }

abbrev pub turns : TypedRange
turns = record { lo = literal 0; hi = literal 3 }

abbrev pub adding_to : ℕ → TypedStmt
adding_to at = record { number = 1; kind = kind.Write 0 0 (literal at ∷ []) (Acc acc.Add) variable }

abbrev pub typed_to : ℕ → TypedKernel
typed_to at = record { vars = 1; domain = domain.Ranges (turns ∷ []); types = ty.I32 ∷ []; body = adding_to at ∷ [] }

step-Write : (known : Known) (it : Name) (index : List Expr) (how : WayDecl) (value : Expr) (at : Reached)
    → typed_stmt known (s.Write it index how value) at ≡ simple_step known (write_part known at.scope it index how value) at
step-Write known it index how value at = ap (λ (step : TypingStep). step at) (fold-Write_stmt (typed_stmt_step known) it index how value)

typed_is : (at : ℕ) → typed_program names (program_to at) ≡ Ok (record { kernels = typed_to at ∷ [] })
typed_is at = simp (step-Write, fold_equations)

-- ---- admission

line-Write : (number layout place : ℕ) (index : List TypedExpr) (how : Way) (value : TypedExpr) (around : Around)
    → stmt_lines (record { number = number; kind = kind.Write layout place index how value }) around ≡ line_of number around (Writes layout place index how value) ∷ []
line-Write number layout place index how value around =
    ap (λ (lines : Around → List Line). lines around) (fold-Write line_step (λ stmt. stmt.kind stmt.number) number layout place index how value)

abbrev loop : Line
loop = line_of 0 nothing_round (Opens (turns ∷ []))

abbrev lines_to : ℕ → List Line
lines_to at = loop ∷ line_of 1 nothing_round (Writes 0 0 (literal at ∷ []) (Acc acc.Add) variable) ∷ []

lines_are : (at : ℕ) → kernel_lines (typed_to at) ≡ lines_to at
lines_are at = ap (λ (lines : List Line). loop ∷ (lines ++ [])) (line-Write 1 0 0 (literal at ∷ []) (Acc acc.Add) variable nothing_round)

module _ (vars : ℕ) (good : ℕ → ℕ → Bool → Bool) where
  good-Literal : (given : Ty) (word : ℕ) → has_good_reads vars good (record { ty = given; form = form.Literal word }) ≡ true
  good-Literal given word = ap (λ (seen : SeenPart). seen.1) (fold-Literal (seen_step vars good) (λ expr. expr.form) given word)

  good-Var : (given : Ty) (var : ℕ) → has_good_reads vars good (record { ty = given; form = form.Var var }) ≡ true
  good-Var given var = ap (λ (seen : SeenPart). seen.1) (fold-Var (seen_step vars good) (λ expr. expr.form) given var)

abbrev facts_in : List Line → Facts
facts_in lines = record { first = first_way (ways_in lines); own = has_own (ways_in lines); acc = has_acc (ways_in lines); written = writes_layout (ways_in lines); vars = 1; walked = None; unclean = unclean_in lines }

no_fault : (at : ℕ) → first_fault (facts_in (lines_to at)) (lines_to at) ≡ None
no_fault at = simp (good-Literal, good-Var, expr_folds)

-- the loop goes over 0, 1 and 2
pub domain_is : (world : World) → domain_of world (domain.Ranges (turns ∷ [])) ≡ Range (record { n = 1; a = pos 0; b = pos 0; c = pos 0 }) (record { n = 1; a = pos 3; b = pos 0; c = pos 0 })
domain_is world = rw (value-Literal world before_all ty.I32 0) (rw (value-Literal world before_all ty.I32 3) refl)

abbrev if_small : TypedKernel → Domain → Result Admitted AdmitFault
if_small kernel over = if nat_lt most_box_points (box_size over) then Err BoxTooLarge else Ok (kept_of kernel)

small_box : (at : ℕ) → box_answer (typed_to at) ≡ Ok (kept_of (typed_to at))
small_box at = ap (if_small (typed_to at)) (domain_is nowhere)

admitted_is : (at : ℕ) → admission (typed_to at) ≡ Ok (kept_of (typed_to at))
admitted_is at =
    ap (λ (lines : List Line). fault_or (first_fault (facts_in lines) lines) (box_answer (typed_to at))) (lines_are at)
    ∙ (ap (λ (fault : Option AdmitFault). fault_or fault (box_answer (typed_to at))) (no_fault at) ∙ small_box at)

-- no `active` stands in it, and it goes over a box
none_asked : (at : ℕ) → list_all asks_nothing_in (lines_to at) ≡ true
none_asked at = simp expr_folds

neutral_is : (at : ℕ) → is_neutral_kernel (typed_to at) ≡ true
neutral_is at =
    let quiet : asks_nothing (typed_to at) ≡ true = ap (list_all asks_nothing_in) (lines_are at) ∙ none_asked at in
    ap (λ (it : Bool). it && true) quiet

-- ---- commands

no_refusal : (at : ℕ) → commands_refusal names (shape ∷ []) 1 (program_to at).items ≡ None
no_refusal at = rw (outs-Run (name (codes "k"))) (rw (outs-Dump (name (codes "x"))) refl)

stages_are : (at : ℕ) → stages_of names (program_to at).items ≡ Once (Run 0) ∷ Once (Dump field) ∷ []
stages_are at = rw (outs-Run (name (codes "k"))) (rw (outs-Dump (name (codes "x"))) refl)

-- ---- the whole

abbrev pub compiled_to : ℕ → CheckedProgram
compiled_to at = record {
  names = names;
  layouts = shape ∷ [];
  kernels = kept_of (typed_to at) ∷ [];
  neutral = true ∷ [];
  commands = Once (Run 0) ∷ Once (Dump field) ∷ [];
}

kernels_are : (at : ℕ) → kernels_of names (program_to at) ≡ Ok (kept_of (typed_to at) ∷ [])
unfolding kernels_of
kernels_are at = rw (typed_is at) (rw (admitted_is at) refl)

-- the program, with what is known of its kernel
abbrev answer_to : ℕ → Bool → Result CheckedProgram Refusal
answer_to at neutral =
    Ok (record {
      names = names;
      layouts = shape ∷ [];
      kernels = kept_of (typed_to at) ∷ [];
      neutral = neutral ∷ [];
      commands = Once (Run 0) ∷ Once (Dump field) ∷ [];
    })

with_names : (at : ℕ) → compiled_with names (program_to at) ≡ Ok (compiled_to at)
unfolding compiled_with
with_names at = rw (layouts_are at) (rw (kernels_are at) (rw (no_refusal at) (rw (stages_are at) (ap (answer_to at) (neutral_is at)))))

pub compiled_is : (bytes : List ℕ) (at : ℕ) → spelled_program bytes ≡ Ok (program_to at) → compiled_program bytes ≡ Ok (compiled_to at)
unfolding compiled_program compiled_tree
compiled_is bytes at spelled = rw spelled (rw (names_are at) (with_names at))
