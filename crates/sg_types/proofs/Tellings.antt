-- What typing answers of statements, kernels and programs: the first fault of their lines.
use Rattle.std.proofs.Common.{◌≡◌, ℕ, ◌+◌, suc, Bool, true, false, cond, List, [], ◌∷◌, ◌++◌, map, length, take, Option, Some, None, option_map, Result, Ok, Err, refl, sym, ap, subst, ◌∙◌, arith}
use Rattle.std.specs.List.{AllByRecursion}
use Rattle.std.proofs.lemmas.List.{map-append, length-append}
use Rattle.sg_words.specs.declared.operators.Ty.{Ty}
use Rattle.sg_words.specs.declared.operators.Ty.TheVariants as ty
use Rattle.sg_words.specs.Results.{◌>>=◌}
use Rattle.sg_ast.specs.declared.token.Name.{Name}
use Rattle.sg_ast.specs.declared.expr.Expr.{Expr}
use Rattle.sg_ast.specs.declared.stmt.WayDecl.{WayDecl}
use Rattle.sg_ast.specs.declared.stmt.RangeDecl.{RangeDecl}
use Rattle.sg_ast.specs.declared.stmt.Stmt.{Stmt}
use Rattle.sg_ast.specs.declared.stmt.Stmt.TheVariants as stmt
use Rattle.sg_ast.proofs.Uses.{fold-Let_stmt, fold-Assign_stmt, fold-Write_stmt, fold-If_stmt, fold-If_else_stmt, fold-For_stmt, AllInElse, by_statements}
use Rattle.sg_types.specs.declared.fault.TypeFault.{TypeFault}
use Rattle.sg_types.specs.declared.typed.TypedExpr.{TypedExpr}
use Rattle.sg_types.specs.declared.typed.TypedRange.{TypedRange}
use Rattle.sg_types.specs.declared.typed.TypedKind.{TypedKind}
use Rattle.sg_types.specs.declared.typed.TypedKind.TheVariants as kind
use Rattle.sg_types.specs.declared.typed.TypedStmt.{TypedStmt}
use Rattle.sg_types.specs.TypeTable.{same_ty}
use Rattle.sg_types.specs.Scopes.{Known, NamedLocal}
use Rattle.sg_types.specs.Expressions.{typed_expr}
use Rattle.sg_types.specs.Statements.{Reached, TypingStep, next_statement, with_variable, numbered_stmt, stmt_fault, let_wrongs, let_part, assign_part, write_part, if_part, for_part, in_turn, in_block, in_else, let_step, simple_step, typed_stmt}
use Rattle.sg_types.specs.WellTyped.{is_ty}
use Rattle.sg_types.specs.HasType.{Bound, Context, with_bound, has_type, type_of}
use Rattle.sg_types.specs.TypingLines.{Lets, Assigns, Writes, Tests, Turns, Line, Walked, Walking, lines_of, else_lines, with_local, walk_step, walked, code_of}
use Rattle.sg_types.specs.TypingLaws.{HasNoCode}
use Rattle.sg_types.proofs.Outcomes.{judged_ok}
use Rattle.sg_types.proofs.StmtWords.{typed-Let, typed-Assign, typed-Write, typed-If, typed-For}
use Rattle.sg_types.proofs.TableWords.{ty_in}
use Rattle.sg_types.proofs.HasWords.{bound_of, context_of, has_type_is}
use Rattle.sg_types.proofs.LineWords.{told, line_at, let_line, assign_line, write_line, if_line, for_line}

-- ---- the first fault of lines

-- the fault of a code, or what comes after
abbrev pub fault_at : ℕ → ℕ → Option ℕ → Option TypeFault → Option TypeFault
fault_at kernel number (Some code) after = Some (record { kernel = kernel; stmt = number; code = code })
fault_at kernel number None after = after

-- the fault of the first line to which a code applies, where the number of the first line is given
abbrev pub first_fault : ℕ → ℕ → List Line → Option TypeFault
first_fault kernel number [] = None
first_fault kernel number (line ∷ lines) = fault_at kernel number (code_of line) (first_fault kernel (suc number) lines)

-- no code applies to any line
abbrev pub Clean : List Line → Type 0
Clean lines = AllByRecursion HasNoCode lines

pub clean_both : (xs ys : List Line) → Clean xs → Clean ys → Clean (xs ++ ys)
clean_both [] ys hx hy = hy
clean_both (x ∷ xs) ys hx hy = (hx.0, clean_both xs ys hx.1 hy)

module _ (kernel : ℕ) where
  pub fault_after : (number : ℕ) (xs ys : List Line) → Clean xs → first_fault kernel number (xs ++ ys) ≡ first_fault kernel (number + length xs) ys
  fault_after number [] ys h = let same : number ≡ number + 0 = omega arith in ap (λ n. first_fault kernel n ys) same
  fault_after number (x ∷ xs) ys h =
      let same : suc number + length xs ≡ number + suc (length xs) = omega arith in
      ap (λ o. fault_at kernel number o (first_fault kernel (suc number) (xs ++ ys))) h.0
      ∙ (fault_after (suc number) xs ys h.1 ∙ ap (λ n. first_fault kernel n ys) same)

  in_front : (number : ℕ) (o : Option ℕ) (a b : Option TypeFault) (fault : TypeFault) → (a ≡ Some fault → b ≡ Some fault) → fault_at kernel number o a ≡ Some fault → fault_at kernel number o b ≡ Some fault
  in_front number (Some code) a b fault h is = is
  in_front number None a b fault h is = h is

  pub fault_in_front : (number : ℕ) (xs ys : List Line) (fault : TypeFault) → first_fault kernel number xs ≡ Some fault → first_fault kernel number (xs ++ ys) ≡ Some fault
  fault_in_front number [] ys fault h = absurd (cc)
  fault_in_front number (x ∷ xs) ys fault h =
      in_front number (code_of x) (first_fault kernel (suc number) xs) (first_fault kernel (suc number) (xs ++ ys)) fault (fault_in_front (suc number) xs ys fault) h

  pub fault_skips : (number : ℕ) (line : Line) (more : List Line) → HasNoCode line → first_fault kernel number (line ∷ more) ≡ first_fault kernel (suc number) more
  fault_skips number line more h = ap (λ o. fault_at kernel number o (first_fault kernel (suc number) more)) h

  pub clean_none : (number : ℕ) (lines : List Line) → Clean lines → first_fault kernel number lines ≡ None
  clean_none number [] h = refl
  clean_none number (line ∷ lines) h = fault_skips number line lines h.0 ∙ clean_none (suc number) lines h.1

-- ---- the parts of what typing answers

abbrev pub Block : Type 0
Block = Result (List TypedStmt × Reached) TypeFault

-- a block ends, and with it the scope in it
abbrev pub closed : List NamedLocal → Block → Block
closed scope r = r >>= (λ done. Ok (done.0, record done.1 { scope = scope }))

abbrev with_else : Block → Result (List TypedStmt × Bool × Reached) TypeFault
with_else r = r >>= (λ done. Ok (done.0, true, done.1))

abbrev whole_if : Reached → TypedExpr → List TypedStmt → Result (List TypedStmt × Bool × Reached) TypeFault → Result (TypedStmt × Reached) TypeFault
whole_if at typed first r = r >>= (λ after. Ok (numbered_stmt at (kind.If typed first after.0 after.1) after.2))

-- ---- what an answer tells of lines

module _ (known : Known) where
  -- of a block: Ok where no code applies to its lines, each counted; a fault where that is their first
  abbrev pub TellsBlock : {A : Type 0} → Result (A × Reached) TypeFault → ℕ → List Line → Type 0
  TellsBlock (Ok done) number lines = Clean lines × (done.1.number ≡ number + length lines)
  TellsBlock (Err fault) number lines = first_fault known.kernel number lines ≡ Some fault

  -- of a statement besides: the context after it
  abbrev pub Tells : Result (TypedStmt × Reached) TypeFault → ℕ → Walked → Type 0
  Tells (Ok done) number walk = Clean walk.lines × (done.1.number ≡ number + length walk.lines) × (context_of known done.1.scope ≡ walk.after)
  Tells (Err fault) number walk = first_fault known.kernel number walk.lines ≡ Some fault

  -- the context where typing is
  abbrev pub here : Reached → Context
  here at = context_of known at.scope

  -- one name more in scope
  pub more_here : (scope : List NamedLocal) (named : NamedLocal)
      → context_of known (scope ++ named ∷ []) ≡ with_bound named.name named.local.ty named.local.is_loop (context_of known scope)
  more_here scope named =
      ap (λ (b : List Bound). record { tables = known.tables; constants = take known.constants known.tables.constants; bound = b }) (map-append bound_of scope (named ∷ []))

  -- the first line of a statement, and what comes after it
  headed : {A : Type 0} (part : Result A ℕ) (line : Line) (more : List Line) (after : Context) (number : ℕ) (f : A → Result (TypedStmt × Reached) TypeFault)
      → told part ≡ code_of line → ((x : A) → part ≡ Ok x → HasNoCode line → Tells (f x) number (record { lines = line ∷ more; after = after }))
      → Tells (stmt_fault known number part >>= f) number (record { lines = line ∷ more; after = after })
  headed (Ok x) line more after number f is rest = rest x refl (sym is)
  headed (Err code) line more after number f is rest = ap (λ o. fault_at known.kernel number o (first_fault known.kernel (suc number) more)) (sym is)

  -- ---- statements in turn

  after_one : (t : TypedStmt) (number mid : ℕ) (lines more : List Line) (r : Result (List TypedStmt × Reached) TypeFault)
      → Clean lines → mid ≡ number + length lines → TellsBlock r mid more
      → TellsBlock (r >>= (λ ts. Ok (t ∷ ts.0, ts.1))) number (lines ++ more)
  after_one t number mid lines more (Ok done) clean is h =
      let count = length-append lines more in
      (clean_both lines more clean h.0, omega (arith, h.1, is, count))
  after_one t number mid lines more (Err fault) clean is h =
      fault_after known.kernel number lines more clean ∙ (ap (λ n. first_fault known.kernel n more) (sym is) ∙ h)

  one_by_one : (steps : List TypingStep) (walks : List Walking) (number : ℕ) (r : Result (TypedStmt × Reached) TypeFault) (walk : Walked) → Tells r number walk
      → ((mid : Reached) → TellsBlock (in_turn steps mid) mid.number (lines_of walks (here mid)))
      → TellsBlock (r >>= (λ first. in_turn steps first.1 >>= (λ more. Ok (first.0 ∷ more.0, more.1)))) number (walk.lines ++ lines_of walks walk.after)
  one_by_one steps walks number (Ok done) walk h rest =
      after_one done.0 number done.1.number walk.lines (lines_of walks walk.after) (in_turn steps done.1) h.0 h.1
      (subst (λ (c : Context). TellsBlock (in_turn steps done.1) done.1.number (lines_of walks c)) h.2 (rest done.1))
  one_by_one steps walks number (Err fault) walk h rest = fault_in_front known.kernel number walk.lines (lines_of walks walk.after) fault h

  -- the claim on a statement
  abbrev pub Told : Stmt → Type 0
  Told statement = (at : Reached) → Tells (typed_stmt known statement at) at.number (walked statement (here at))

  pub turn_tells : (block : List Stmt) → AllByRecursion Told block → (at : Reached) → TellsBlock (in_turn (map (typed_stmt known) block) at) at.number (lines_of (map walked block) (here at))
  turn_tells [] all at = (tt, omega arith)
  turn_tells (statement ∷ more) all at =
      one_by_one (map (typed_stmt known) more) (map walked more) at.number (typed_stmt known statement at) (walked statement (here at)) (all.0 at) (turn_tells more all.1)

  -- ---- each kind

  moved : (statement : Stmt) (step : TypingStep) (walk : Walking) → typed_stmt known statement ≡ step → walked statement ≡ walk
      → ((at : Reached) → Tells (step at) at.number (walk (here at))) → Told statement
  moved statement step walk p q h at =
      subst (λ (given : TypingStep). Tells (given at) at.number (walked statement (here at))) (sym p)
      (subst (λ (given : Walking). Tells (step at) at.number (given (here at))) (sym q) (h at))

  type_plain : (o : Option TypedExpr) → cond (is_ty (ty_in o) ty.I32) (Some ty.I32) (cond (is_ty (ty_in o) ty.U32) (Some ty.U32) (cond (is_ty (ty_in o) ty.Bool) (Some ty.Bool) None)) ≡ ty_in o
  type_plain None = refl
  type_plain (Some it) = one_of it.ty
    where
      one_of : (t : Ty) → cond (same_ty t ty.I32) (Some ty.I32) (cond (same_ty t ty.U32) (Some ty.U32) (cond (same_ty t ty.Bool) (Some ty.Bool) None)) ≡ Some t
      one_of ty.I32 = refl
      one_of ty.U32 = refl
      one_of ty.Bool = refl

  pub type_of_is : (scope : List NamedLocal) (expr : Expr) → type_of (context_of known scope) expr ≡ ty_in (typed_expr known scope expr)
  type_of_is scope expr =
      let has = has_type (context_of known scope) expr in
      let o = typed_expr known scope expr in
      ap (λ x. cond x (Some ty.I32) (cond (has ty.U32) (Some ty.U32) (cond (has ty.Bool) (Some ty.Bool) None))) (has_type_is known scope expr ty.I32)
      ∙ (ap (λ x. cond (is_ty (ty_in o) ty.I32) (Some ty.I32) (cond x (Some ty.U32) (cond (has ty.Bool) (Some ty.Bool) None))) (has_type_is known scope expr ty.U32)
      ∙ (ap (λ x. cond (is_ty (ty_in o) ty.I32) (Some ty.I32) (cond (is_ty (ty_in o) ty.U32) (Some ty.U32) (cond x (Some ty.Bool) None))) (has_type_is known scope expr ty.Bool)
      ∙ type_plain o))

  let_told : (name : Name) (value : Expr) → Told (stmt.Let name value)
  let_told name value = moved (stmt.Let name value) (let_step known name value) _ (typed-Let known name value) (fold-Let_stmt walk_step name value)
      (λ at. headed (let_part known at.scope name value) (line_at known at.scope (Lets name value)) [] (with_local name (type_of (here at) value) (here at)) at.number
      (λ typed. Ok (numbered_stmt at (kind.Let (length at.types) typed) (with_variable name typed.ty false (next_statement at))))
      (let_line known at.scope name value)
      (λ x is none. (
        (none, tt),
        omega arith,
        more_here at.scope (record { name = name; local = record { var = length at.types; ty = x.ty; is_loop = false } })
            ∙ ap (λ o. with_local name o (here at))
            (sym (type_of_is at.scope value ∙ ap ty_in (judged_ok (let_wrongs known at.scope name value) (typed_expr known at.scope value) x is).is)),
      )))

  simple_told : (at : Reached) (part : Result TypedKind ℕ) (line : Line) → told part ≡ code_of line → Tells (simple_step known part at) at.number (record { lines = line ∷ []; after = here at })
  simple_told at part line is = headed part line [] (here at) at.number (λ typed. Ok (numbered_stmt at typed (next_statement at))) is (λ x ok none. ((none, tt), omega arith, refl))

  assign_told : (name : Name) (value : Expr) → Told (stmt.Assign name value)
  assign_told name value = moved (stmt.Assign name value) _ _ (typed-Assign known name value) (fold-Assign_stmt walk_step name value)
      (λ at. simple_told at (assign_part known at.scope name value) (line_at known at.scope (Assigns name value)) (assign_line known at.scope name value))

  write_told : (field : Name) (index : List Expr) (how : WayDecl) (value : Expr) → Told (stmt.Write field index how value)
  write_told field index how value = moved (stmt.Write field index how value) _ _ (typed-Write known field index how value) (fold-Write_stmt walk_step field index how value)
      (λ at. simple_told at (write_part known at.scope field index how value) (line_at known at.scope (Writes field index value)) (write_line known at.scope field index how value))

  for_ends : (at : Reached) (name : Name) (typed : TypedRange) (line : Line) (lines : List Line) (r : Result (List TypedStmt × Reached) TypeFault) → HasNoCode line
      → TellsBlock r (suc at.number) lines
      → Tells (r >>= (λ done. Ok (numbered_stmt at (kind.For (length at.types) typed done.0) (record done.1 { scope = at.scope })))) at.number (record { lines = line ∷ lines; after = here at })
  for_ends at name typed line lines (Ok done) none h = ((none, h.0), omega (arith, h.1), refl)
  for_ends at name typed line lines (Err fault) none h = fault_skips known.kernel at.number line lines none ∙ h

  for_told : (name : Name) (range : RangeDecl) (body : List Stmt) → AllByRecursion Told body → Told (stmt.For name range body)
  for_told name range body all = moved (stmt.For name range body) _ _ (typed-For known name range body) (fold-For_stmt walk_step name range body)
      (λ at.
      let start = with_variable name ty.I32 true (next_statement at) in
      let inside = with_bound name ty.I32 true (here at) in
      headed (for_part known at.scope name range) (line_at known at.scope (Turns name range)) (lines_of (map walked body) inside) (here at) at.number
      (λ typed. in_turn (map (typed_stmt known) body) start >>= (λ done. Ok (numbered_stmt at (kind.For (length at.types) typed done.0) (record done.1 { scope = at.scope }))))
      (for_line known at.scope name range)
      (λ x is none. for_ends at name x (line_at known at.scope (Turns name range)) (lines_of (map walked body) inside) (in_turn (map (typed_stmt known) body) start) none
      (subst (λ (c : Context). TellsBlock (in_turn (map (typed_stmt known) body) start) (suc at.number) (lines_of (map walked body) c))
      (more_here at.scope (record { name = name; local = record { var = length at.types; ty = ty.I32; is_loop = true } })) (turn_tells body all start))))

  second_ends : (at : Reached) (typed : TypedExpr) (first : List TypedStmt) (mid : Reached) (line : Line) (ys ns : List Line) (r : Result (List TypedStmt × Reached) TypeFault)
      → HasNoCode line → Clean ys → mid.number ≡ suc at.number + length ys → TellsBlock r mid.number ns
      → Tells (whole_if at typed first (with_else (closed at.scope r))) at.number (record { lines = line ∷ (ys ++ ns); after = here at })
  second_ends at typed first mid line ys ns (Ok done) none clean is h =
      let count = length-append ys ns in
      ((none, clean_both ys ns clean h.0), omega (arith, h.1, is, count), refl)
  second_ends at typed first mid line ys ns (Err fault) none clean is h =
      fault_skips known.kernel at.number line (ys ++ ns) none
      ∙ (fault_after known.kernel (suc at.number) ys ns clean ∙ (ap (λ n. first_fault known.kernel n ns) (sym is) ∙ h))

  else_ends : (at : Reached) (typed : TypedExpr) (first : List TypedStmt) (m : Reached) (otherwise : Option (List Stmt)) (line : Line) (ys : List Line)
      → HasNoCode line → Clean ys → m.number ≡ suc at.number + length ys → AllInElse Told otherwise
      → Tells (whole_if at typed first (in_else (option_map (map (typed_stmt known)) otherwise) (record m { scope = at.scope }))) at.number
      (record { lines = line ∷ (ys ++ else_lines (option_map (map walked) otherwise) (here at)); after = here at })
  else_ends at typed first m None line ys none clean is all =
      let count = length-append ys [] in
      ((none, clean_both ys [] clean tt), omega (arith, is, count), refl)
  else_ends at typed first m (Some block) line ys none clean is all =
      let mid = record m { scope = at.scope } in
      second_ends at typed first mid line ys (lines_of (map walked block) (here at)) (in_turn (map (typed_stmt known) block) mid) none clean is (turn_tells block all mid)

  if_ends : (at : Reached) (typed : TypedExpr) (otherwise : Option (List Stmt)) (line : Line) (ys : List Line) (r : Result (List TypedStmt × Reached) TypeFault)
      → HasNoCode line → TellsBlock r (suc at.number) ys → AllInElse Told otherwise
      → Tells (closed at.scope r >>= (λ inside. whole_if at typed inside.0 (in_else (option_map (map (typed_stmt known)) otherwise) inside.1))) at.number
      (record { lines = line ∷ (ys ++ else_lines (option_map (map walked) otherwise) (here at)); after = here at })
  if_ends at typed otherwise line ys (Ok done) none h all = else_ends at typed done.0 done.1 otherwise line ys none h.0 h.1 all
  if_ends at typed otherwise line ys (Err fault) none h all =
      fault_skips known.kernel at.number line (ys ++ else_lines (option_map (map walked) otherwise) (here at)) none
      ∙ fault_in_front known.kernel (suc at.number) ys (else_lines (option_map (map walked) otherwise) (here at)) fault h

  if_walk : (condition : Expr) (block : List Stmt) (otherwise : Option (List Stmt)) → walked (stmt.If condition block otherwise)
      ≡ (λ at. record { lines = record { at = at; head = Tests condition } ∷ (lines_of (map walked block) at ++ else_lines (option_map (map walked) otherwise) at); after = at })
  if_walk condition block None = fold-If_stmt walk_step condition block
  if_walk condition block (Some otherwise) = fold-If_else_stmt walk_step condition block otherwise

  if_told : (condition : Expr) (block : List Stmt) (otherwise : Option (List Stmt)) → AllByRecursion Told block → AllInElse Told otherwise → Told (stmt.If condition block otherwise)
  if_told condition block otherwise all else_all = moved (stmt.If condition block otherwise) _ _ (typed-If known condition block otherwise) (if_walk condition block otherwise)
      (λ at.
      headed (if_part known at.scope condition) (line_at known at.scope (Tests condition))
      (lines_of (map walked block) (here at) ++ else_lines (option_map (map walked) otherwise) (here at)) (here at) at.number
      (λ typed. in_block (map (typed_stmt known) block) (next_statement at) >>= (λ inside.
      whole_if at typed inside.0 (in_else (option_map (map (typed_stmt known)) otherwise) inside.1)))
      (if_line known at.scope condition)
      (λ x is none. if_ends at x otherwise (line_at known at.scope (Tests condition)) (lines_of (map walked block) (here at))
      (in_turn (map (typed_stmt known) block) (next_statement at)) none (turn_tells block all (next_statement at)) else_all))

  -- what typing answers of a statement: where it is Ok no code applies to its lines, else it is the fault of the first to which one does
  pub statement_tells : (statement : Stmt) → Told statement
  statement_tells = by_statements Told let_told assign_told write_told if_told for_told

  pub block_tells : (block : List Stmt) → AllByRecursion Told block
  block_tells [] = tt
  block_tells (statement ∷ more) = (statement_tells statement, block_tells more)
