-- That a fault of admission is at the statement of its number.
use Rattle.std.specs.Prelude.{◌≡◌, refl, ℕ, zero, suc, ◌+◌, Bool, List, [], ◌∷◌, ◌++◌, map, length, Option, Some, None, Ok, option_map, slice_get}
use Rattle.std.specs.List.{AllByRecursion, concat, range_with_len}
use Rattle.std.proofs.Common.{◌∙◌, ap, sym, subst, arith}
use Rattle.std.proofs.lemmas.List.{length-append, length-map, map-append}
use Rattle.std.proofs.lemmas.Option.{slice_get-map, same_Some}
use Rattle.sg_ast.specs.declared.expr.Expr.{Expr}
use Rattle.sg_ast.specs.declared.stmt.Stmt.{Stmt}
use Rattle.sg_ast.specs.declared.stmt.Stmt.TheVariants as stmt
use Rattle.sg_ast.specs.declared.kernel.KernelDecl.{KernelDecl}
use Rattle.sg_ast.specs.declared.program.Item.{Item}
use Rattle.sg_ast.specs.declared.program.Item.TheVariants as item
use Rattle.sg_ast.specs.declared.program.Program.{Program}
use Rattle.sg_ast.specs.Stmt.{stmt_tokens}
use Rattle.sg_ast.proofs.Uses.{AllInElse, by_statements, fold-Let_stmt, fold-Assign_stmt, fold-Write_stmt, fold-If_stmt, fold-If_else_stmt, fold-For_stmt}
use Rattle.sg_flat.specs.declared.effects.Way.{Way}
use Rattle.sg_names.specs.Tables.{Tables}
use Rattle.sg_types.specs.declared.fault.TypeFault.{TypeFault}
use Rattle.sg_types.specs.declared.typed.TypedExpr.{TypedExpr}
use Rattle.sg_types.specs.declared.typed.TypedRange.{TypedRange}
use Rattle.sg_types.specs.declared.typed.TypedKind.TheVariants as kind
use Rattle.sg_types.specs.declared.typed.TypedKind.TheOpen.{TypedStmt-F}
use Rattle.sg_types.specs.declared.typed.TypedStmt.{TypedStmt}
use Rattle.sg_types.specs.declared.typed.TypedKernel.{TypedKernel}
use Rattle.sg_types.specs.declared.typed.Typed.{Typed}
use Rattle.sg_types.specs.Scopes.{Known}
use Rattle.sg_types.specs.Counting.{count_step, stmt_count, block_count}
use Rattle.sg_types.specs.Numbers.{inner_numbers, stmt_numbers, kernel_numbers}
use Rattle.sg_types.specs.Programs.{typed_kernel, typed_items, typed_program}
use Rattle.sg_types.specs.Laws.{StatementsAreNumbered}
use Rattle.sg_types.proofs.Uses.{fold-Let, fold-Assign, fold-Write, fold-If, fold-For, all_stmts}
use Rattle.sg_words.specs.Results.{◌>>=◌}
use Rattle.sg_admit.specs.Lines.{Around, Line, within_if, within_loop, nothing_round, line_step, stmt_lines, block_lines, kernel_lines}
use Rattle.sg_admit.specs.Rules.{facts_of}
use Rattle.sg_admit.specs.Laws.{IsFirstBroken, Says, FaultsAreFirst}
use Rattle.sg_explain.specs.Statements.{inner_statements, statements_of}
use Rattle.sg_explain.specs.KernelItems.{kernel_decls}
use Rattle.sg_explain.specs.KernelParts.{part_tokens}
use Rattle.sg_explain.specs.AdmitPlaces.{AdmitFaultsAreAtLines}
use Rattle.sg_explain.proofs.Bound.{same_ok, bound_ok}
use Rattle.sg_explain.proofs.HeadLemmas.{got_at}
use Rattle.sg_explain.proofs.StatementWords.{inner-Let, inner-Assign, inner-Write, inner-If, inner-For}

-- ---- the lines of a typed kernel have the numbers of its statements

abbrev number_of : Line → ℕ
number_of line = line.number

abbrev line_numbers : List Line → List ℕ
line_numbers lines = map number_of lines

abbrev to_lines : TypedStmt-F (ℕ → Around → List Line) (Around → List Line) → Around → List Line
to_lines statement = statement.kind statement.number

abbrev to_numbers : TypedStmt-F (List ℕ) (List ℕ) → List ℕ
to_numbers statement = statement.number ∷ statement.kind

abbrev IsCounted : TypedStmt → Type 0
IsCounted statement = (around : Around) → line_numbers (stmt_lines statement around) ≡ stmt_numbers statement

counted_list : (block : List TypedStmt) → AllByRecursion IsCounted block → (around : Around) → line_numbers (block_lines block around) ≡ concat (map stmt_numbers block)
counted_list [] h around = refl
counted_list (statement ∷ block) h around =
    map-append number_of (stmt_lines statement around) (block_lines block around)
    ∙ ap (λ ns. ns ++ line_numbers (block_lines block around)) (h.0 around)
    ∙ ap (λ ns. stmt_numbers statement ++ ns) (counted_list block h.1 around)

numbers_at : (x y : Around → List Line) (around : Around) → x ≡ y → line_numbers (x around) ≡ line_numbers (y around)
numbers_at x y around e = ap (λ (lines : Around → List Line). line_numbers (lines around)) e

counted-Let : (number var : ℕ) (value : TypedExpr) → IsCounted (record { number = number; kind = kind.Let var value })
counted-Let number var value around =
    numbers_at _ _ around (fold-Let line_step to_lines number var value) ∙ sym (fold-Let inner_numbers to_numbers number var value)

counted-Assign : (number var : ℕ) (value : TypedExpr) → IsCounted (record { number = number; kind = kind.Assign var value })
counted-Assign number var value around =
    numbers_at _ _ around (fold-Assign line_step to_lines number var value) ∙ sym (fold-Assign inner_numbers to_numbers number var value)

counted-Write : (number : ℕ) (layout place : ℕ) (index : List TypedExpr) (way : Way) (value : TypedExpr) → IsCounted (record { number = number; kind = kind.Write layout place index way value })
counted-Write number layout place index way value around =
    numbers_at _ _ around (fold-Write line_step to_lines number layout place index way value)
    ∙ sym (fold-Write inner_numbers to_numbers number layout place index way value)

counted-If : (number : ℕ) (condition : TypedExpr) (block otherwise : List TypedStmt) (has_else : Bool) → AllByRecursion IsCounted block → AllByRecursion IsCounted otherwise
    → IsCounted (record { number = number; kind = kind.If condition block otherwise has_else })
counted-If number condition block otherwise has_else h k around =
    let within = within_if condition around in
    let inside = map-append number_of (block_lines block within) (block_lines otherwise within)
    ∙ ap (λ ns. ns ++ line_numbers (block_lines otherwise within)) (counted_list block h within)
    ∙ ap (λ ns. concat (map stmt_numbers block) ++ ns) (counted_list otherwise k within) in
    numbers_at _ _ around (fold-If line_step to_lines number condition block otherwise has_else)
    ∙ ap (λ ns. number ∷ ns) inside
    ∙ sym (fold-If inner_numbers to_numbers number condition block otherwise has_else)

counted-For : (number : ℕ) (var : ℕ) (range : TypedRange) (body : List TypedStmt) → AllByRecursion IsCounted body → IsCounted (record { number = number; kind = kind.For var range body })
counted-For number var range body h around =
    numbers_at _ _ around (fold-For line_step to_lines number var range body)
    ∙ ap (λ ns. number ∷ ns) (counted_list body h (within_loop range around))
    ∙ sym (fold-For inner_numbers to_numbers number var range body)

kernel_counted : (kernel : TypedKernel) → line_numbers (kernel_lines kernel) ≡ 0 ∷ kernel_numbers kernel
kernel_counted kernel =
    ap (λ ns. 0 ∷ ns) (counted_list kernel.body (all_stmts IsCounted counted-Let counted-Assign counted-Write counted-If counted-For kernel.body) nothing_round)

-- ---- how many statements there are

abbrev IsTotal : Stmt → Type 0
IsTotal statement = stmt_count statement ≡ suc (length (inner_statements statement))

total_list : (block : List Stmt) → AllByRecursion IsTotal block → block_count block ≡ length (statements_of block)
total_list [] h = refl
total_list (statement ∷ block) h =
    ap (λ n. n + block_count block) h.0
    ∙ ap (λ n. suc (length (inner_statements statement)) + n) (total_list block h.1)
    ∙ sym (length-append (statement ∷ inner_statements statement) (statements_of block))

-- a statement with these in it
total : (statement : Stmt) (inner : List Stmt) (count : ℕ) → stmt_count statement ≡ 1 + count → inner_statements statement ≡ inner → count ≡ length inner → IsTotal statement
total statement inner count is_count is_inner same =
    let long : length (inner_statements statement) ≡ length inner = ap length is_inner in
    omega (arith, is_count, long, same)

total_if : (condition : Expr) (block : List Stmt) (otherwise : Option (List Stmt)) → AllByRecursion IsTotal block → AllInElse IsTotal otherwise → IsTotal (stmt.If condition block otherwise)
total_if condition block None h else_h =
    let inside = total_list block h in
    let long : length (statements_of block ++ []) ≡ length (statements_of block) + 0 = length-append (statements_of block) [] in
    total (stmt.If condition block None) (statements_of block ++ []) (block_count block + 0)
    (fold-If_stmt count_step condition block) (inner-If condition block None) (omega (arith, inside, long))
total_if condition block (Some other) h else_h =
    let inside = total_list block h in
    let others = total_list other else_h in
    let long = length-append (statements_of block) (statements_of other) in
    total (stmt.If condition block (Some other)) (statements_of block ++ statements_of other) (block_count block + block_count other)
    (fold-If_else_stmt count_step condition block other) (inner-If condition block (Some other)) (omega (arith, inside, others, long))

all_total : (statement : Stmt) → IsTotal statement
all_total = by_statements IsTotal
    (λ name value. total (stmt.Let name value) [] 0 (fold-Let_stmt count_step name value) (inner-Let name value) refl)
    (λ name value. total (stmt.Assign name value) [] 0 (fold-Assign_stmt count_step name value) (inner-Assign name value) refl)
    (λ field index how value. total (stmt.Write field index how value) [] 0 (fold-Write_stmt count_step field index how value) (inner-Write field index how value) refl)
    total_if
    (λ name range body h. total (stmt.For name range body) (statements_of body) (block_count body) (fold-For_stmt count_step name range body) (inner-For name range body) (total_list body h))

each_total : (block : List Stmt) → AllByRecursion IsTotal block
each_total [] = tt
each_total (statement ∷ block) = (all_total statement, each_total block)

parts_count : (decl : KernelDecl) → length (part_tokens decl) ≡ suc (block_count decl.body)
parts_count decl = ap suc (length-map (statements_of decl.body) stmt_tokens ∙ sym (total_list decl.body (each_total decl.body)))

-- ---- numbers in turn

got_range : (n k i m : ℕ) → slice_get (range_with_len k n) i ≡ Some m → m ≡ k + i
got_range zero k i m h = let no_such : ◌≡◌ {A = Option ℕ} None (Some m) = h in absurd (cc)
got_range (suc n) k zero m h = let same = same_Some k m h in omega (arith, same)
got_range (suc n) k (suc i) m h = let same = got_range n (k + 1) i m h in omega (arith, same)

long_range : (n k : ℕ) → length (range_with_len k n) ≡ n
long_range zero k = refl
long_range (suc n) k = ap suc (long_range n (k + 1))

-- ---- the kernels of a typed program are those declared

pub record IsDeclared (decls : List KernelDecl) (number : ℕ) (kernel : TypedKernel) : Type 0 where
  pub known : Known
  pub decl : KernelDecl
  pub of_kernel : slice_get decls number ≡ Some decl
  pub is : typed_kernel known decl ≡ Ok kernel

declared_first : (known : Known) (decl : KernelDecl) (decls : List KernelDecl) (first : TypedKernel) (more : List TypedKernel) (number : ℕ) (kernel : TypedKernel) → typed_kernel known decl ≡ Ok first
    → ((n : ℕ) → slice_get more n ≡ Some kernel → IsDeclared decls n kernel) → slice_get (first ∷ more) number ≡ Some kernel → IsDeclared (decl ∷ decls) number kernel
declared_first known decl decls first more zero kernel is next h =
    record { known = known; decl = decl; of_kernel = refl; is = is ∙ ap Ok (same_Some first kernel h) }
declared_first known decl decls first more (suc n) kernel is next h =
    let d = next n h in
    record { known = d.known; decl = d.decl; of_kernel = d.of_kernel; is = d.is }

declared_in_items : (tables : Tables) (kernels constants : ℕ) (items : List Item) (done : List TypedKernel) (number : ℕ) (kernel : TypedKernel) → typed_items tables kernels constants items ≡ Ok done
    → slice_get done number ≡ Some kernel → IsDeclared (kernel_decls items) number kernel
declared_in_items tables kernels constants [] done number kernel e h =
    let none : [] ≡ done = same_ok {E = TypeFault} [] done e in
    let no_such : ◌≡◌ {A = Option TypedKernel} None (Some kernel) = ap (λ (ks : List TypedKernel). slice_get ks number) none ∙ h in
    absurd (cc)
declared_in_items tables kernels constants (item.Const decl ∷ items) done number kernel e h = declared_in_items tables kernels (suc constants) items done number kernel e h
declared_in_items tables kernels constants (item.Layout decl ∷ items) done number kernel e h = declared_in_items tables kernels constants items done number kernel e h
declared_in_items tables kernels constants (item.Command command ∷ items) done number kernel e h = declared_in_items tables kernels constants items done number kernel e h
declared_in_items tables kernels constants (item.Kernel decl ∷ items) done number kernel e h =
    let known : Known = record { kernel = kernels; tables = tables; constants = constants } in
    let first = bound_ok (typed_kernel known decl) (λ kernel. typed_items tables (suc kernels) constants items >>= (λ more. Ok (kernel ∷ more))) done e in
    let rest = bound_ok (typed_items tables (suc kernels) constants items) (λ more. Ok (first.x ∷ more)) done first.gives in
    let made : first.x ∷ rest.x ≡ done = same_ok {E = TypeFault} (first.x ∷ rest.x) done rest.gives in
    declared_first known decl (kernel_decls items) first.x rest.x number kernel first.is
    (λ n got. declared_in_items tables (suc kernels) constants items rest.x n kernel rest.is got)
    (ap (λ (ks : List TypedKernel). slice_get ks number) made ∙ h)

pub declared_kernel : (tables : Tables) (program : Program) (typed : Typed) (number : ℕ) (kernel : TypedKernel) → typed_program tables program ≡ Ok typed
    → slice_get typed.kernels number ≡ Some kernel → IsDeclared (kernel_decls program.items) number kernel
declared_kernel tables program typed number kernel e h =
    let found = bound_ok (typed_items tables 0 0 program.items) (λ kernels. Ok (record { kernels = kernels })) typed e in
    let made : Typed = record { kernels = found.x } in
    let inner : made ≡ typed = same_ok {E = TypeFault} made typed found.gives in
    declared_in_items tables 0 0 program.items found.x number kernel found.is (ap (λ (t : Typed). slice_get t.kernels number) inner ∙ h)

-- ---- the fault

pub at_line : FaultsAreFirst → StatementsAreNumbered → AdmitFaultsAreAtLines
at_line first numbered tables program typed number kernel place rule is_typed is_kernel refused =
    let d = declared_kernel tables program typed number kernel is_typed is_kernel in
    let count : ℕ = block_count d.decl.body in
    let broken : IsFirstBroken (facts_of kernel) (kernel_lines kernel) place rule = subst (Says kernel) refused (first kernel) in
    let i : ℕ = length broken.front in
    let numbers : line_numbers (kernel_lines kernel) ≡ range_with_len 0 (suc count) =
    kernel_counted kernel ∙ ap (λ ns. 0 ∷ ns) (numbered d.known d.decl kernel d.is) in
    let there = got_at (kernel_lines kernel) broken.front broken.back broken.line i broken.split refl in
    let number_there : slice_get (range_with_len 0 (suc count)) i ≡ Some broken.line.number =
    ap (λ ns. slice_get ns i) (sym numbers) ∙ slice_get-map number_of (kernel_lines kernel) i ∙ ap (option_map number_of) there in
    let counted = got_range (suc count) 0 i broken.line.number number_there in
    let at : broken.line.number ≡ i = omega (arith, counted) in
    let long : length (line_numbers (kernel_lines kernel)) ≡ length (kernel_lines kernel) = length-map (kernel_lines kernel) number_of in
    let all : length (line_numbers (kernel_lines kernel)) ≡ suc count = ap length numbers ∙ long_range (suc count) 0 in
    let parts = parts_count d.decl in
    record {
      decl = d.decl;
      line = broken.line;
      of_kernel = d.of_kernel;
      parts = omega (arith, long, all, parts);
      is = ap (slice_get (kernel_lines kernel)) (broken.number ∙ at) ∙ there;
      numbered = sym broken.number;
      broken = broken.broken;
    }
