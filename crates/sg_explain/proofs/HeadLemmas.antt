-- That the lines of a kernel are those of its statements, and so that a fault of types is at the statement of its number.
use Rattle.std.specs.Prelude.{◌≡◌, refl, ℕ, suc, true, List, [], ◌∷◌, ◌++◌, map, length, Option, Some, None, option_map, slice_get}
use Rattle.std.specs.List.{AllByRecursion}
use Rattle.std.proofs.Common.{◌∙◌, ap, sym}
use Rattle.std.proofs.lemmas.List.{map-append}
use Rattle.std.proofs.lemmas.Option.{slice_get-map, same_Some}
use Rattle.sg_ast.specs.declared.token.Name.{Name}
use Rattle.sg_ast.specs.declared.expr.Expr.{Expr}
use Rattle.sg_ast.specs.declared.stmt.WayDecl.{WayDecl}
use Rattle.sg_ast.specs.declared.stmt.RangeDecl.{RangeDecl}
use Rattle.sg_ast.specs.declared.stmt.Stmt.{Stmt, out-roll-Stmt}
use Rattle.sg_ast.specs.declared.stmt.Stmt.TheVariants as stmt
use Rattle.sg_ast.specs.declared.stmt.Stmt.TheVariants.{rolls-Let, rolls-Assign, rolls-Write, rolls-If, rolls-For}
use Rattle.sg_ast.specs.declared.stmt.Stmt.TheOpen as f
use Rattle.sg_ast.specs.declared.program.Item.{Item}
use Rattle.sg_ast.specs.declared.program.Item.TheVariants as item
use Rattle.sg_ast.proofs.Uses.{AllInElse, by_statements, fold-Let_stmt, fold-Assign_stmt, fold-Write_stmt, fold-If_stmt, fold-If_else_stmt, fold-For_stmt}
use Rattle.sg_words.specs.declared.operators.Ty.TheVariants as ty
use Rattle.sg_names.specs.Tables.{Tables}
use Rattle.sg_types.specs.HasType.{Context, with_bound}
use Rattle.sg_types.specs.TypingLines.{Head, Lets, Assigns, Writes, Tests, Turns, Line, Walking, walk_step, walked, block_lines, item_lines, program_lines}
use Rattle.sg_types.specs.TypingLaws.{IsFirstTypeFault, RefusedIsFirst}
use Rattle.sg_ast.specs.declared.program.Program.{Program}
use Rattle.sg_explain.specs.Statements.{inner_statements, statements_of}
use Rattle.sg_explain.specs.KernelItems.{kernel_decls}
use Rattle.sg_explain.specs.TypePlaces.{head_step, head_of, heads_of, TypeFaultsAreAtStatements}
use Rattle.sg_explain.proofs.StatementWords.{inner-Let, inner-Assign, inner-Write, inner-If, inner-For}

-- ---- a statement without those in its blocks, at each kind

head-Let : (name : Name) (value : Expr) → head_of (stmt.Let name value) ≡ Lets name value
head-Let name value = ap head_of (sym (rolls-Let name value)) ∙ ap head_step (out-roll-Stmt (f.Let name value))

head-Assign : (name : Name) (value : Expr) → head_of (stmt.Assign name value) ≡ Assigns name value
head-Assign name value = ap head_of (sym (rolls-Assign name value)) ∙ ap head_step (out-roll-Stmt (f.Assign name value))

head-Write : (field : Name) (index : List Expr) (how : WayDecl) (value : Expr) → head_of (stmt.Write field index how value) ≡ Writes field index value
head-Write field index how value = ap head_of (sym (rolls-Write field index how value)) ∙ ap head_step (out-roll-Stmt (f.Write field index how value))

head-If : (condition : Expr) (block : List Stmt) (otherwise : Option (List Stmt)) → head_of (stmt.If condition block otherwise) ≡ Tests condition
head-If condition block otherwise = ap head_of (sym (rolls-If condition block otherwise)) ∙ ap head_step (out-roll-Stmt (f.If condition block otherwise))

head-For : (name : Name) (range : RangeDecl) (body : List Stmt) → head_of (stmt.For name range body) ≡ Turns name range
head-For name range body = ap head_of (sym (rolls-For name range body)) ∙ ap head_step (out-roll-Stmt (f.For name range body))

-- ---- the lines of statements

abbrev line_heads : List Line → List Head
line_heads lines = map (λ line. line.head) lines

-- in each context the lines of a statement are those of it and of the statements in it
abbrev IsHeaded : Stmt → Type 0
IsHeaded statement = (at : Context) → line_heads (walked statement at).lines ≡ map head_of (statement ∷ inner_statements statement)

headed_list : (block : List Stmt) → AllByRecursion IsHeaded block → (at : Context) → line_heads (block_lines block at) ≡ map head_of (statements_of block)
headed_list [] h at = refl
headed_list (statement ∷ block) h at =
    map-append (λ line. line.head) (walked statement at).lines (block_lines block (walked statement at).after)
    ∙ ap (λ heads. heads ++ line_heads (block_lines block (walked statement at).after)) (h.0 at)
    ∙ ap (λ heads. map head_of (statement ∷ inner_statements statement) ++ heads) (headed_list block h.1 (walked statement at).after)
    ∙ sym (map-append head_of (statement ∷ inner_statements statement) (statements_of block))

-- a statement of this head, with these statements in it
headed : (statement : Stmt) (head : Head) (inner : List Stmt) (at : Context) (lines : List Line) → head_of statement ≡ head → inner_statements statement ≡ inner
    → (walked statement at).lines ≡ record { at = at; head = head } ∷ lines → line_heads lines ≡ map head_of inner
    → line_heads (walked statement at).lines ≡ map head_of (statement ∷ inner_statements statement)
headed statement head inner at lines is_head is_inner is_lines same = rw (is_lines, is_head, is_inner) (ap (λ heads. head ∷ heads) same)

lines_at : (x y : Walking) (at : Context) → x ≡ y → (x at).lines ≡ (y at).lines
lines_at x y at e = ap (λ (walk : Walking). (walk at).lines) e

headed_if : (condition : Expr) (block : List Stmt) (otherwise : Option (List Stmt)) → AllByRecursion IsHeaded block → AllInElse IsHeaded otherwise → IsHeaded (stmt.If condition block otherwise)
headed_if condition block None h else_h at =
    headed (stmt.If condition block None) (Tests condition) (statements_of block ++ []) at (block_lines block at ++ [])
    (head-If condition block None) (inner-If condition block None)
    (lines_at _ _ at (fold-If_stmt walk_step condition block))
    (map-append (λ line. line.head) (block_lines block at) [] ∙ ap (λ heads. heads ++ []) (headed_list block h at) ∙ sym (map-append head_of (statements_of block) []))
headed_if condition block (Some other) h else_h at =
    headed (stmt.If condition block (Some other)) (Tests condition) (statements_of block ++ statements_of other) at (block_lines block at ++ block_lines other at)
    (head-If condition block (Some other)) (inner-If condition block (Some other))
    (lines_at _ _ at (fold-If_else_stmt walk_step condition block other))
    (map-append (λ line. line.head) (block_lines block at) (block_lines other at)
    ∙ ap (λ heads. heads ++ line_heads (block_lines other at)) (headed_list block h at)
    ∙ ap (λ heads. map head_of (statements_of block) ++ heads) (headed_list other else_h at)
    ∙ sym (map-append head_of (statements_of block) (statements_of other)))

all_headed : (statement : Stmt) → IsHeaded statement
all_headed = by_statements IsHeaded
    (λ name value at. headed (stmt.Let name value) (Lets name value) [] at [] (head-Let name value) (inner-Let name value) (lines_at _ _ at (fold-Let_stmt walk_step name value)) refl)
    (λ name value at. headed (stmt.Assign name value) (Assigns name value) [] at [] (head-Assign name value) (inner-Assign name value) (lines_at _ _ at (fold-Assign_stmt walk_step name value)) refl)
    (λ field index how value at. headed (stmt.Write field index how value) (Writes field index value) [] at [] (head-Write field index how value) (inner-Write field index how value)
    (lines_at _ _ at (fold-Write_stmt walk_step field index how value)) refl)
    headed_if
    (λ name range body h at. headed (stmt.For name range body) (Turns name range) (statements_of body) at (block_lines body (with_bound name ty.I32 true at))
    (head-For name range body) (inner-For name range body) (lines_at _ _ at (fold-For_stmt walk_step name range body)) (headed_list body h (with_bound name ty.I32 true at)))

headed_block : (block : List Stmt) → AllByRecursion IsHeaded block
headed_block [] = tt
headed_block (statement ∷ block) = (all_headed statement, headed_block block)

-- ---- the kernels among items

headed_items : (tables : Tables) (constants : ℕ) (items : List Item) → map line_heads (item_lines tables constants items) ≡ map heads_of (kernel_decls items)
headed_items tables constants [] = refl
headed_items tables constants (item.Const decl ∷ items) = headed_items tables (suc constants) items
headed_items tables constants (item.Layout decl ∷ items) = headed_items tables constants items
headed_items tables constants (item.Kernel decl ∷ items) =
    rw (headed_list decl.body (headed_block decl.body) _, headed_items tables constants items) refl
headed_items tables constants (item.Command command ∷ items) = headed_items tables constants items

-- ---- the fault

-- the item behind a front of a list
got_behind : {A : Type 0} (front back : List A) (x : A) → slice_get (front ++ x ∷ back) (length front) ≡ Some x
got_behind [] back x = refl
got_behind (y ∷ front) back x = got_behind front back x

-- what stands at the length of a front
pub got_at : {A : Type 0} (xs front back : List A) (x : A) (n : ℕ) → xs ≡ front ++ x ∷ back → n ≡ length front → slice_get xs n ≡ Some x
got_at xs front back x n is place = rw (is, place) (got_behind front back x)

mapped_some : {A B : Type 0} (f : A → B) (given : Option A) (y : B) → option_map f given ≡ Some y → (x : A) × (given ≡ Some x) × (f x ≡ y)
mapped_some f None y h = let no_such : None ≡ Some y = h in absurd (cc)
mapped_some f (Some x) y h = (x, refl, same_Some (f x) y h)

pub at_statement : ((tables : Tables) (program : Program) → RefusedIsFirst tables program) → TypeFaultsAreAtStatements
at_statement refused tables program fault is_fault =
    let first : IsFirstTypeFault (program_lines tables program) fault = (refused tables program fault).0 is_fault in
    let lines_there = got_at (program_lines tables program) first.before first.after first.lines fault.kernel first.split first.kernel in
    let heads_there = sym (slice_get-map heads_of (kernel_decls program.items) fault.kernel)
    ∙ ap (λ lists. slice_get lists fault.kernel) (sym (headed_items tables 0 program.items))
    ∙ slice_get-map line_heads (program_lines tables program) fault.kernel
    ∙ ap (option_map line_heads) lines_there in
    let found = mapped_some heads_of (slice_get (kernel_decls program.items) fault.kernel) (line_heads first.lines) heads_there in
    let line_there = got_at first.lines first.first.front first.first.back first.first.line fault.stmt first.first.split first.first.number in
    record {
      decl = found.0;
      line = first.first.line;
      kernel = found.1;
      head = ap (λ heads. slice_get heads fault.stmt) found.2 ∙ slice_get-map (λ line. line.head) first.lines fault.stmt
          ∙ ap (option_map (λ line. line.head)) line_there;
      code = first.first.applies;
    }
