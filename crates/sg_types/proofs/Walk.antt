-- The walk over typed statements: what an Ok says of a statement and of those in it, form by form.
use Rattle.std.proofs.Common.{◌≡◌, Bool, true, false, List, [], ◌∷◌, map, length, Option, Some, None, option_map, Result, Ok, sym, ap, subst, ◌∙◌}
use Rattle.std.specs.List.{AllByRecursion}
use Rattle.sg_words.specs.declared.operators.Ty.TheVariants as ty
use Rattle.sg_words.specs.Options.{only_where}
use Rattle.sg_words.specs.Results.{◌>>=◌}
use Rattle.sg_ast.specs.declared.token.Name.{Name}
use Rattle.sg_ast.specs.declared.expr.Expr.{Expr}
use Rattle.sg_ast.specs.declared.stmt.WayDecl.{WayDecl}
use Rattle.sg_ast.specs.declared.stmt.RangeDecl.{RangeDecl}
use Rattle.sg_ast.specs.declared.stmt.Stmt.{Stmt}
use Rattle.sg_ast.specs.declared.stmt.Stmt.TheVariants as stmt
use Rattle.sg_ast.specs.declared.kernel.KernelDecl.{KernelDecl}
use Rattle.sg_ast.proofs.Uses.{AllInElse, by_statements}
use Rattle.sg_names.specs.Tables.{field_named}
use Rattle.sg_types.specs.declared.typed.TypedExpr.{TypedExpr}
use Rattle.sg_types.specs.declared.typed.TypedRange.{TypedRange}
use Rattle.sg_types.specs.declared.typed.TypedKind.{TypedKind}
use Rattle.sg_types.specs.declared.typed.TypedKind.TheVariants as kind
use Rattle.sg_types.specs.declared.typed.TypedStmt.{TypedStmt}
use Rattle.sg_types.specs.declared.typed.TypedDomain.{TypedDomain}
use Rattle.sg_types.specs.declared.typed.TypedKernel.{TypedKernel}
use Rattle.sg_types.specs.TypeTable.{is_truth}
use Rattle.sg_types.specs.Scopes.{Known, local_named}
use Rattle.sg_types.specs.Expressions.{typed_expr, all_some}
use Rattle.sg_types.specs.Statements.{Reached, TypingStep, next_statement, with_variable, numbered_stmt, stmt_fault, let_wrongs, assign_wrongs, write_wrongs, if_wrongs, for_wrongs, let_part, assign_part, write_part, if_part, for_part, assign_kind, write_kind, typed_range, in_turn, in_block, in_else, typed_stmt, typed_block}
use Rattle.sg_types.specs.Programs.{typed_domain, loop_wrongs, loop_part, first_reached, typed_kernel}
use Rattle.sg_types.proofs.Outcomes.{then_ok, stmt_fault_ok, Fits, judged_ok, ok_same}
use Rattle.sg_types.proofs.StmtWords.{typed-Let, typed-Assign, typed-Write, typed-If, typed-For}

-- a claim on the parts of what is answered
at_pair : {A B E : Type 0} (Q : A → B → Type 0) (a c : A) (b d : B) → ◌≡◌ {A = Result (A × B) E} (Ok (a, b)) (Ok (c, d)) → Q a b → Q c d
at_pair {A = A} {B = B} Q a c b d h q = subst (λ (p : A × B). Q p.0 p.1) (ok_same (a, b) (c, d) h) q

-- the statement of a kind, numbered where typing is
abbrev pub of_kind : Reached → TypedKind → TypedStmt
of_kind at it = record { number = at.number; kind = it }

-- at the end of a block the names of its start are in scope
abbrev pub block_end : Reached → Reached → Reached
block_end at last = record last { scope = at.scope }

-- `P` is claimed of a statement and `T` of statements in turn, by where typing was, what it gives and how far it comes
module _ (known : Known) (P : Stmt → Reached → TypedStmt → Reached → Type 0) (T : List Stmt → Reached → List TypedStmt → Reached → Type 0) where
  pub record Turn (block : List Stmt) (at : Reached) (typed : List TypedStmt) (after : Reached) : Type 0 where
    pub is : in_turn (map (typed_stmt known) block) at ≡ Ok (typed, after)
    pub holds : T block at typed after

  -- the claim at each form, from the claim on the statements in it
  pub record Cases : Type 0 where
    pub on_none : (at : Reached) → T [] at [] at
    pub on_more : (statement : Stmt) (more : List Stmt) (at : Reached) (t : TypedStmt) (mid : Reached) (ts : List TypedStmt) (last : Reached)
        → typed_stmt known statement at ≡ Ok (t, mid) → P statement at t mid → Turn more mid ts last → T (statement ∷ more) at (t ∷ ts) last
    pub on_let : (name : Name) (value : Expr) (at : Reached) (it : TypedExpr) → Fits (let_wrongs known at.scope name value) (typed_expr known at.scope value) it
        → P (stmt.Let name value) at (of_kind at (kind.Let (length at.types) it)) (with_variable name it.ty false (next_statement at))
    pub on_assign : (name : Name) (value : Expr) (at : Reached) (it : TypedKind)
        → Fits (assign_wrongs known at.scope name value) (assign_kind (local_named at.scope name) (typed_expr known at.scope value)) it
        → P (stmt.Assign name value) at (of_kind at it) (next_statement at)
    pub on_write : (field : Name) (index : List Expr) (how : WayDecl) (value : Expr) (at : Reached) (it : TypedKind)
        → Fits (write_wrongs known at.scope field index how value)
        (write_kind how (field_named known.tables field) (all_some (map (typed_expr known at.scope) index)) (typed_expr known at.scope value)) it
        → P (stmt.Write field index how value) at (of_kind at it) (next_statement at)
    pub on_if : (condition : Expr) (block : List Stmt) (at : Reached) (it : TypedExpr) (ys : List TypedStmt) (mid : Reached)
        → Fits (if_wrongs known at.scope condition) (only_where (λ typed. is_truth typed.ty) (typed_expr known at.scope condition)) it
        → Turn block (next_statement at) ys mid
        → P (stmt.If condition block None) at (of_kind at (kind.If it ys [] false)) (block_end at mid)
    pub on_if_else : (condition : Expr) (block otherwise : List Stmt) (at : Reached) (it : TypedExpr) (ys : List TypedStmt) (mid : Reached) (ns : List TypedStmt) (last : Reached)
        → Fits (if_wrongs known at.scope condition) (only_where (λ typed. is_truth typed.ty) (typed_expr known at.scope condition)) it
        → Turn block (next_statement at) ys mid → Turn otherwise (block_end at mid) ns last
        → P (stmt.If condition block (Some otherwise)) at (of_kind at (kind.If it ys ns true)) (block_end at last)
    pub on_for : (name : Name) (range : RangeDecl) (body : List Stmt) (at : Reached) (bounds : TypedRange) (inside : List TypedStmt) (last : Reached)
        → Fits (for_wrongs known at.scope name range) (typed_range known at.scope range) bounds
        → Turn body (with_variable name ty.I32 true (next_statement at)) inside last
        → P (stmt.For name range body) at (of_kind at (kind.For (length at.types) bounds inside)) (block_end at last)

  module _ (cases : Cases) where
    abbrev Holds : Stmt → Type 0
    Holds statement = (at : Reached) (typed : TypedStmt) (after : Reached) → typed_stmt known statement at ≡ Ok (typed, after) → P statement at typed after

    turn : (block : List Stmt) → AllByRecursion Holds block → (at : Reached) (typed : List TypedStmt) (after : Reached)
        → in_turn (map (typed_stmt known) block) at ≡ Ok (typed, after) → Turn block at typed after
    turn [] all at typed after h = record { is = h; holds = at_pair (λ ts last. T [] at ts last) [] typed at after h (cases.on_none at) }
    turn (statement ∷ more) all at typed after h =
        let one = then_ok (typed_stmt known statement at) _ (typed, after) h in
        let t = one.0.0 in
        let mid = one.0.1 in
        let rest = then_ok (in_turn (map (typed_stmt known) more) mid) _ (typed, after) one.2 in
        let ts = rest.0.0 in
        let last = rest.0.1 in
        record {
          is = h;
          holds = at_pair (λ ts last. T (statement ∷ more) at ts last) (t ∷ ts) typed last after rest.2
              (cases.on_more statement more at t mid ts last one.1 (all.0 at t mid one.1) (turn more all.1 mid ts last rest.1));
        }

    let_holds : (name : Name) (value : Expr) → Holds (stmt.Let name value)
    let_holds name value at typed after h =
        let part = let_part known at.scope name value in
        let g = ap (λ (step : TypingStep). step at) (sym (typed-Let known name value)) ∙ h in
        let done = then_ok (stmt_fault known at.number part) _ (typed, after) g in
        at_pair (λ t last. P (stmt.Let name value) at t last) _ typed _ after done.2
        (cases.on_let name value at done.0 (judged_ok (let_wrongs known at.scope name value) (typed_expr known at.scope value) done.0 (stmt_fault_ok known at.number part done.0 done.1)))

    assign_holds : (name : Name) (value : Expr) → Holds (stmt.Assign name value)
    assign_holds name value at typed after h =
        let part = assign_part known at.scope name value in
        let g = ap (λ (step : TypingStep). step at) (sym (typed-Assign known name value)) ∙ h in
        let done = then_ok (stmt_fault known at.number part) _ (typed, after) g in
        at_pair (λ t last. P (stmt.Assign name value) at t last) _ typed _ after done.2
        (cases.on_assign name value at done.0
        (judged_ok (assign_wrongs known at.scope name value) (assign_kind (local_named at.scope name) (typed_expr known at.scope value)) done.0 (stmt_fault_ok known at.number part done.0 done.1)))

    write_holds : (field : Name) (index : List Expr) (how : WayDecl) (value : Expr) → Holds (stmt.Write field index how value)
    write_holds field index how value at typed after h =
        let part = write_part known at.scope field index how value in
        let g = ap (λ (step : TypingStep). step at) (sym (typed-Write known field index how value)) ∙ h in
        let done = then_ok (stmt_fault known at.number part) _ (typed, after) g in
        at_pair (λ t last. P (stmt.Write field index how value) at t last) _ typed _ after done.2
        (cases.on_write field index how value at done.0
        (judged_ok (write_wrongs known at.scope field index how value)
        (write_kind how (field_named known.tables field) (all_some (map (typed_expr known at.scope) index)) (typed_expr known at.scope value)) done.0 (stmt_fault_ok known at.number part done.0 done.1)))

    -- what a block gives, and the end of its statements
    block_parts : (block : List Stmt) → AllByRecursion Holds block → (at : Reached) (done : List TypedStmt × Reached) → in_block (map (typed_stmt known) block) at ≡ Ok done
        → (typed : List TypedStmt) × (last : Reached) × Turn block at typed last × (◌≡◌ {A = List TypedStmt × Reached} (typed, block_end at last) done)
    block_parts block all at done h =
        let inside = then_ok (in_turn (map (typed_stmt known) block) at) _ done h in
        (inside.0.0, inside.0.1, turn block all at inside.0.0 inside.0.1 inside.1, ok_same (inside.0.0, block_end at inside.0.1) done inside.2)

    if_holds : (condition : Expr) (block : List Stmt) (otherwise : Option (List Stmt)) → AllByRecursion Holds block → AllInElse Holds otherwise → Holds (stmt.If condition block otherwise)
    if_holds condition block otherwise all else_all at typed after h =
        let g = ap (λ (step : TypingStep). step at) (sym (typed-If known condition block otherwise)) ∙ h in
        let part = then_ok (stmt_fault known at.number (if_part known at.scope condition)) _ (typed, after) g in
        let it = part.0 in
        let fits = judged_ok (if_wrongs known at.scope condition) (only_where (λ t. is_truth t.ty) (typed_expr known at.scope condition)) it
        (stmt_fault_ok known at.number (if_part known at.scope condition) it part.1) in
        let found = then_ok (in_block (map (typed_stmt known) block) (next_statement at)) _ (typed, after) part.2 in
        let ys = block_parts block all (next_statement at) found.0 found.1 in
        by_else otherwise else_all it fits ys.0 ys.1 ys.2
        (subst (λ (y : List TypedStmt × Reached).
        (in_else (option_map (map (typed_stmt known)) otherwise) y.1 >>= (λ ns. Ok (numbered_stmt at (kind.If it y.0 ns.0 ns.1) ns.2))) ≡ Ok (typed, after)) (sym ys.3) found.2)
      where
        by_else : (otherwise : Option (List Stmt)) → AllInElse Holds otherwise → (it : TypedExpr)
            → Fits (if_wrongs known at.scope condition) (only_where (λ t. is_truth t.ty) (typed_expr known at.scope condition)) it
            → (ys : List TypedStmt) (mid : Reached) → Turn block (next_statement at) ys mid
            → (in_else (option_map (map (typed_stmt known)) otherwise) (block_end at mid) >>= (λ ns. Ok (numbered_stmt at (kind.If it ys ns.0 ns.1) ns.2))) ≡ Ok (typed, after)
            → P (stmt.If condition block otherwise) at typed after
        by_else None else_all it fits ys mid inside e =
            at_pair (λ t last. P (stmt.If condition block None) at t last) (of_kind at (kind.If it ys [] false)) typed (block_end at mid) after e (cases.on_if condition block at it ys mid fits inside)
        by_else (Some otherwise) else_all it fits ys mid inside e =
            let done = then_ok (in_else (Some (map (typed_stmt known) otherwise)) (block_end at mid)) _ (typed, after) e in
            let found = then_ok (in_block (map (typed_stmt known) otherwise) (block_end at mid)) _ done.0 done.1 in
            let ns = block_parts otherwise else_all (block_end at mid) found.0 found.1 in
            let whole = ap (λ (d : List TypedStmt × Reached). (d.0, true, d.1)) ns.3 ∙ ok_same (found.0.0, true, found.0.1) done.0 found.2 in
            at_pair (λ t last. P (stmt.If condition block (Some otherwise)) at t last) _ typed _ after done.2
            (subst (λ (d : List TypedStmt × Bool × Reached). P (stmt.If condition block (Some otherwise)) at (of_kind at (kind.If it ys d.0 d.1)) d.2) whole
            (cases.on_if_else condition block otherwise at it ys mid ns.0 ns.1 fits inside ns.2))

    for_holds : (name : Name) (range : RangeDecl) (body : List Stmt) → AllByRecursion Holds body → Holds (stmt.For name range body)
    for_holds name range body all at typed after h =
        let start = with_variable name ty.I32 true (next_statement at) in
        let g = ap (λ (step : TypingStep). step at) (sym (typed-For known name range body)) ∙ h in
        let part = then_ok (stmt_fault known at.number (for_part known at.scope name range)) _ (typed, after) g in
        let fits = judged_ok (for_wrongs known at.scope name range) (typed_range known at.scope range) part.0 (stmt_fault_ok known at.number (for_part known at.scope name range) part.0 part.1) in
        let inside = then_ok (in_turn (map (typed_stmt known) body) start) _ (typed, after) part.2 in
        at_pair (λ t last. P (stmt.For name range body) at t last) _ typed _ after inside.2
        (cases.on_for name range body at part.0 inside.0.0 inside.0.1 fits (turn body all start inside.0.0 inside.0.1 inside.1))

    pub walk : (statement : Stmt) → Holds statement
    walk = by_statements Holds let_holds assign_holds write_holds if_holds for_holds

    walks : (block : List Stmt) → AllByRecursion Holds block
    walks [] = tt
    walks (statement ∷ more) = (walk statement, walks more)

    pub walk_turn : (block : List Stmt) (at : Reached) (typed : List TypedStmt) (after : Reached) → in_turn (map (typed_stmt known) block) at ≡ Ok (typed, after) → T block at typed after
    walk_turn block at typed after h = (turn block (walks block) at typed after h).holds

    -- a block, by the claim on its statements
    pub walk_block : (block : List Stmt) (at : Reached) (done : List TypedStmt × Reached) → in_block (map (typed_stmt known) block) at ≡ Ok done
        → (typed : List TypedStmt) × (last : Reached) × T block at typed last × (◌≡◌ {A = List TypedStmt × Reached} (typed, block_end at last) done)
    walk_block block at done h =
        let found = block_parts block (walks block) at done h in
        (found.0, found.1, found.2.holds, found.3)

-- ---- kernels

-- what a typed kernel is made of
pub record KernelParts (known : Known) (decl : KernelDecl) (kernel : TypedKernel) : Type 0 where
  pub loop : TypedDomain
  pub fits : Fits (loop_wrongs known decl) (typed_domain known decl.domain) loop
  pub body : List TypedStmt
  pub last : Reached
  pub in_body : in_turn (map (typed_stmt known) decl.body) (first_reached decl.vars) ≡ Ok (body, last)
  pub is : ◌≡◌ {A = TypedKernel} (record { vars = length decl.vars; domain = loop; types = last.types; body = body }) kernel

pub kernel_parts : (known : Known) (decl : KernelDecl) (kernel : TypedKernel) → typed_kernel known decl ≡ Ok kernel → KernelParts known decl kernel
kernel_parts known decl kernel h =
    let part = then_ok (stmt_fault known 0 (loop_part known decl)) _ kernel h in
    let block = then_ok (typed_block known decl.body (first_reached decl.vars)) _ kernel part.2 in
    let inside = then_ok (in_turn (map (typed_stmt known) decl.body) (first_reached decl.vars)) _ block.0 block.1 in
    let done = ok_same (inside.0.0, block_end (first_reached decl.vars) inside.0.1) block.0 inside.2 in
    record {
      loop = part.0;
      fits = judged_ok (loop_wrongs known decl) (typed_domain known decl.domain) part.0 (stmt_fault_ok known 0 (loop_part known decl) part.0 part.1);
      body = inside.0.0;
      last = inside.0.1;
      in_body = inside.1;
      is = ap (λ (d : List TypedStmt × Reached). record { vars = length decl.vars; domain = part.0; types = d.1.types; body = d.0 }) done
          ∙ ok_same (record { vars = length decl.vars; domain = part.0; types = block.0.1.types; body = block.0.0 }) kernel block.2;
    }
