-- In a typed kernel there are no statements after an `else` that isn't there.
use Rattle.std.proofs.Common.{◌≡◌, ℕ, Bool, true, false, List, [], ◌∷◌, map, Option, Some, None, Result, Ok, sym, ap, ◌∙◌, subst}
use Rattle.std.specs.Prelude.{option_map, option_and_then, if◌then◌else◌}
use Rattle.std.specs.List.{list_all}
use Rattle.sg_words.specs.Options.{only_where}
use Rattle.sg_words.specs.Results.{◌>>=◌}
use Rattle.sg_ast.specs.declared.token.Name.{Name}
use Rattle.sg_ast.specs.declared.expr.Expr.{Expr}
use Rattle.sg_ast.specs.declared.stmt.WayDecl.{WayDecl}
use Rattle.sg_ast.specs.declared.stmt.Stmt.{Stmt}
use Rattle.sg_ast.specs.declared.stmt.Stmt.TheVariants as stmt
use Rattle.sg_ast.specs.declared.kernel.KernelDecl.{KernelDecl}
use Rattle.sg_ast.proofs.Uses.{by_stmt_variant, fold-Let_stmt, fold-Assign_stmt, fold-Write_stmt, fold-If_stmt, fold-If_else_stmt, fold-For_stmt}
use Rattle.sg_names.specs.declared.tables.FieldAt.{FieldAt}
use Rattle.sg_names.specs.Tables.{field_named}
use Rattle.sg_types.specs.declared.fault.TypeFault.{TypeFault}
use Rattle.sg_types.specs.declared.typed.TypedExpr.{TypedExpr}
use Rattle.sg_types.specs.declared.typed.TypedRange.{TypedRange}
use Rattle.sg_types.specs.declared.typed.TypedKind.{TypedKind, out-TypedKind, out-roll-TypedKind}
use Rattle.sg_types.specs.declared.typed.TypedKind.TheVariants as kind
use Rattle.sg_types.specs.declared.typed.TypedKind.TheVariants.{rolls-Let, rolls-Assign, rolls-Write, rolls-If, rolls-For}
use Rattle.sg_types.specs.declared.typed.TypedKind.TheOpen as k
use Rattle.sg_types.specs.declared.typed.TypedStmt.{TypedStmt}
use Rattle.sg_types.specs.declared.typed.TypedKernel.{TypedKernel}
use Rattle.sg_types.specs.TypeTable.{same_ty}
use Rattle.sg_types.specs.Scopes.{Known, local_named}
use Rattle.sg_types.specs.Expressions.{all_some, is_signed_expr, typed_expr}
use Rattle.sg_types.specs.Statements.{part_or_code, first_code, assign_wrongs, assign_kind, assign_part, write_wrongs, write_kind, declared_way, write_part, let_part, if_part, for_part}
use Rattle.sg_types.specs.Statements.{Reached, stmt_fault, next_statement, with_variable, TypingStep, in_turn, in_block, in_else, numbered_stmt, if_step, typed_stmt_step, typed_stmt, typed_block}
use Rattle.sg_types.specs.Programs.{loop_part, first_reached, typed_kernel}
use Rattle.sg_flat.specs.declared.effects.Way.{Way}
use Rattle.sg_types.specs.declared.typed.TypedDomain.{TypedDomain}
use Rattle.sg_words.specs.declared.operators.Ty.TheVariants as ty
use Rattle.std.specs.Prelude.{length}
use Rattle.sg_session.proofs.Answered.{bound_ok, as_ok}
use Rattle.sg_session.proofs.GuardedBodies.{HasPlainElse, HasPlainElses}

-- the number of the next variable
abbrev length_of : Reached → ℕ
length_of at = length at.types

-- where the body of an inner loop begins
abbrev loop_reached : Name → Reached → Reached
loop_reached name at = with_variable name ty.I32 true (next_statement at)

-- a kernel of its parts
abbrev kernel_of : KernelDecl → TypedDomain → List TypedStmt × Reached → TypedKernel
kernel_of decl loop done = record { vars = length decl.vars; domain = loop; types = done.1.types; body = done.0 }

-- a kind has no statements after an `else` that isn't there
abbrev IsPlain : TypedKind → Type 0
IsPlain it = HasPlainElse (out-TypedKind it)

plain_let : (var : ℕ) (value : TypedExpr) → IsPlain (kind.Let var value)
plain_let var value = subst HasPlainElse (sym (ap out-TypedKind (sym (rolls-Let var value)) ∙ out-roll-TypedKind (k.Let var value))) tt

plain_assign : (var : ℕ) (value : TypedExpr) → IsPlain (kind.Assign var value)
plain_assign var value = subst HasPlainElse (sym (ap out-TypedKind (sym (rolls-Assign var value)) ∙ out-roll-TypedKind (k.Assign var value))) tt

plain_write : (layout place : ℕ) (index : List TypedExpr) (way : Way) (value : TypedExpr) → IsPlain (kind.Write layout place index way value)
plain_write layout place index way value = subst HasPlainElse (sym (ap out-TypedKind (sym (rolls-Write layout place index way value)) ∙ out-roll-TypedKind (k.Write layout place index way value))) tt

plain_for : (var : ℕ) (range : TypedRange) (body : List TypedStmt) → IsPlain (kind.For var range body)
plain_for var range body = subst HasPlainElse (sym (ap out-TypedKind (sym (rolls-For var range body)) ∙ out-roll-TypedKind (k.For var range body))) tt

plain_if : (condition : TypedExpr) (block otherwise : List TypedStmt) (has_else : Bool) → (has_else ≡ false → otherwise ≡ []) → IsPlain (kind.If condition block otherwise has_else)
plain_if condition block otherwise has_else h =
    subst HasPlainElse (sym (ap out-TypedKind (sym (rolls-If condition block otherwise has_else)) ∙ out-roll-TypedKind (k.If condition block otherwise has_else))) h

-- the statement that an answer has
of_kind : (at after : Reached) (it : TypedKind) (done : TypedStmt × Reached) → ◌≡◌ {A = Result (TypedStmt × Reached) TypeFault} (Ok (numbered_stmt at it after)) (Ok done) → IsPlain it → IsPlain done.0.kind
of_kind at after it done e plain = let same : numbered_stmt at it after ≡ done = cc in subst (λ (d : TypedStmt × Reached). IsPlain d.0.kind) same plain

judged : {A : Type 0} (code : Option ℕ) (typed : Option A) (x : A) → part_or_code code typed ≡ Ok x → typed ≡ Some x
judged (Some code) typed x e = absurd (cc)
judged None None x e = absurd (cc)
judged None (Some y) x e = let same : y ≡ x = cc in ap Some same

mapped : {X Y : Type 0} (f : X → Y) (o : Option X) (y : Y) → option_map f o ≡ Some y → (x : X) × (f x ≡ y)
mapped f None y e = absurd (cc)
mapped f (Some x) y e = (x, cc)

chosen : {X Y : Type 0} (f : X → Option Y) (o : Option X) (y : Y) → option_and_then f o ≡ Some y → (x : X) × (f x ≡ Some y)
chosen f None y e = absurd (cc)
chosen f (Some x) y e = (x, e)

assign_plain : (local : _) (value : Option TypedExpr) (it : TypedKind) → assign_kind local value ≡ Some it → IsPlain it
assign_plain None value it e = absurd (cc)
assign_plain (Some local) value it e =
    let found = mapped (λ (typed : TypedExpr). kind.Assign local.var typed) (only_where (λ typed. same_ty typed.ty local.ty) value) it e in
    subst IsPlain found.1 (plain_assign local.var found.0)

write_plain : (how : WayDecl) (field : Option FieldAt) (index : Option (List TypedExpr)) (value : Option TypedExpr) (it : TypedKind) → write_kind how field index value ≡ Some it → IsPlain it
write_plain how None index value it e = absurd (cc)
write_plain how (Some at) index value it e =
    let first = chosen (λ (is : List TypedExpr). option_map (λ (typed : TypedExpr). kind.Write at.layout at.place is (declared_way how) typed) (only_where (λ typed. same_ty typed.ty at.ty) value))
    (option_and_then (λ (is : List TypedExpr). if list_all is_signed_expr is then Some is else None) index) it e in
    let found = mapped (λ (typed : TypedExpr). kind.Write at.layout at.place first.0 (declared_way how) typed) (only_where (λ typed. same_ty typed.ty at.ty) value) it first.1 in
    subst IsPlain found.1 (plain_write at.layout at.place first.0 (declared_way how) found.0)

else_plain : (otherwise : Option (List TypingStep)) (at : Reached) (done : List TypedStmt × Bool × Reached) → in_else otherwise at ≡ Ok done → done.1 ≡ false → done.0 ≡ []
else_plain None at done e h = let same : ([], false, at) ≡ done = cc in ap (λ (d : List TypedStmt × Bool × Reached). d.0) (sym same)
else_plain (Some steps) at done e h =
    let inner = bound_ok (in_block steps at) (λ (d : List TypedStmt × Reached). Ok (d.0, true, d.1)) done e in
    let same : (inner.x.0, true, inner.x.1) ≡ done = cc in
    let yes : true ≡ false = ap (λ (d : List TypedStmt × Bool × Reached). d.1) same ∙ h in absurd (cc)

module _ (known : Known) where
  abbrev StaysPlain : Stmt → Type 0
  StaysPlain statement = (at : Reached) (done : TypedStmt × Reached) → typed_stmt known statement at ≡ Ok done → IsPlain done.0.kind

  if_plain : (condition : Expr) (block : List TypingStep) (otherwise : Option (List TypingStep)) (at : Reached) (done : TypedStmt × Reached) → if_step known condition block otherwise at ≡ Ok done → IsPlain done.0.kind
  if_plain condition block otherwise at done e =
      let typed = bound_ok (stmt_fault known at.number (if_part known at.scope condition))
      (λ (typed : TypedExpr). in_block block (next_statement at) >>= (λ inside. in_else otherwise inside.1 >>= (λ behind. Ok (numbered_stmt at (kind.If typed inside.0 behind.0 behind.1) behind.2)))) done e in
      let inside = bound_ok (in_block block (next_statement at)) (λ (inside : List TypedStmt × Reached). in_else otherwise inside.1 >>= (λ behind. Ok (numbered_stmt at (kind.If typed.x inside.0 behind.0 behind.1) behind.2))) done typed.gives in
      let behind = bound_ok (in_else otherwise inside.x.1) (λ (behind : List TypedStmt × Bool × Reached). Ok (numbered_stmt at (kind.If typed.x inside.x.0 behind.0 behind.1) behind.2)) done inside.gives in
      of_kind at behind.x.2 (kind.If typed.x inside.x.0 behind.x.0 behind.x.1) done behind.gives
      (plain_if typed.x inside.x.0 behind.x.0 behind.x.1 (else_plain otherwise inside.x.1 behind.x behind.is))

  plain_stmt : (statement : Stmt) → StaysPlain statement
  plain_stmt = by_stmt_variant StaysPlain
      (λ name value at done e.
      let is = ap (λ (step : TypingStep). step at) (sym (fold-Let_stmt (typed_stmt_step known) name value)) ∙ e in
      let typed = bound_ok (stmt_fault known at.number (let_part known at.scope name value)) (λ (typed : TypedExpr). Ok (numbered_stmt at (kind.Let (length_of at) typed) (with_variable name typed.ty false (next_statement at)))) done is in
      of_kind at (with_variable name typed.x.ty false (next_statement at)) (kind.Let (length_of at) typed.x) done typed.gives (plain_let (length_of at) typed.x))
      (λ name value at done e.
      let is = ap (λ (step : TypingStep). step at) (sym (fold-Assign_stmt (typed_stmt_step known) name value)) ∙ e in
      let typed = bound_ok (stmt_fault known at.number (assign_part known at.scope name value)) (λ (typed : TypedKind). Ok (numbered_stmt at typed (next_statement at))) done is in
      let part = as_ok _ (assign_part known at.scope name value) typed.x typed.is in
      of_kind at _ typed.x done typed.gives
      (assign_plain (local_named at.scope name) (typed_expr known at.scope value) typed.x (judged (first_code (assign_wrongs known at.scope name value)) (assign_kind (local_named at.scope name) (typed_expr known at.scope value)) typed.x part)))
      (λ field index how value at done e.
      let is = ap (λ (step : TypingStep). step at) (sym (fold-Write_stmt (typed_stmt_step known) field index how value)) ∙ e in
      let typed = bound_ok (stmt_fault known at.number (write_part known at.scope field index how value)) (λ (typed : TypedKind). Ok (numbered_stmt at typed (next_statement at))) done is in
      let part = as_ok _ (write_part known at.scope field index how value) typed.x typed.is in
      of_kind at _ typed.x done typed.gives
      (write_plain how (field_named known.tables field) (all_some (map (typed_expr known at.scope) index)) (typed_expr known at.scope value) typed.x
      (judged (first_code (write_wrongs known at.scope field index how value)) (write_kind how (field_named known.tables field) (all_some (map (typed_expr known at.scope) index)) (typed_expr known at.scope value)) typed.x part)))
      (λ condition block otherwise at done e. by_else condition block otherwise at done e)
      (λ name range body at done e.
      let is = ap (λ (step : TypingStep). step at) (sym (fold-For_stmt (typed_stmt_step known) name range body)) ∙ e in
      let typed = bound_ok (stmt_fault known at.number (for_part known at.scope name range))
      (λ (typed : TypedRange). in_turn (map (typed_stmt known) body) (loop_reached name at) >>= (λ done. Ok (numbered_stmt at (kind.For (length_of at) typed done.0) (record done.1 { scope = at.scope })))) done is in
      let inside = bound_ok (in_turn (map (typed_stmt known) body) (loop_reached name at)) (λ (inside : List TypedStmt × Reached). Ok (numbered_stmt at (kind.For (length_of at) typed.x inside.0) (record inside.1 { scope = at.scope }))) done typed.gives in
      of_kind at (record inside.x.1 { scope = at.scope }) (kind.For (length_of at) typed.x inside.x.0) done inside.gives (plain_for (length_of at) typed.x inside.x.0))
    where
      by_else : (condition : Expr) (block : List Stmt) (otherwise : Option (List Stmt)) → StaysPlain (stmt.If condition block otherwise)
      by_else condition block None at done e =
          if_plain condition (map (typed_stmt known) block) None at done (ap (λ (step : TypingStep). step at) (sym (fold-If_stmt (typed_stmt_step known) condition block)) ∙ e)
      by_else condition block (Some otherwise) at done e =
          if_plain condition (map (typed_stmt known) block) (Some (map (typed_stmt known) otherwise)) at done (ap (λ (step : TypingStep). step at) (sym (fold-If_else_stmt (typed_stmt_step known) condition block otherwise)) ∙ e)

  plain_turn : (statements : List Stmt) (at : Reached) (done : List TypedStmt × Reached) → in_turn (map (typed_stmt known) statements) at ≡ Ok done → HasPlainElses done.0
  plain_turn [] at done e = let same : ([], at) ≡ done = cc in subst (λ (d : List TypedStmt × Reached). HasPlainElses d.0) same tt
  plain_turn (statement ∷ statements) at done e =
      let first = bound_ok (typed_stmt known statement at) (λ (first : TypedStmt × Reached). in_turn (map (typed_stmt known) statements) first.1 >>= (λ more. Ok (first.0 ∷ more.0, more.1))) done e in
      let more = bound_ok (in_turn (map (typed_stmt known) statements) first.x.1) (λ (more : List TypedStmt × Reached). Ok (first.x.0 ∷ more.0, more.1)) done first.gives in
      let same : (first.x.0 ∷ more.x.0, more.x.1) ≡ done = cc in
      subst (λ (d : List TypedStmt × Reached). HasPlainElses d.0) same (plain_stmt statement at first.x first.is, plain_turn statements first.x.1 more.x more.is)

  pub plain_kernel : (decl : KernelDecl) (kernel : TypedKernel) → typed_kernel known decl ≡ Ok kernel → HasPlainElses kernel.body
  plain_kernel decl kernel e =
      let loop = bound_ok (stmt_fault known 0 (loop_part known decl))
      (λ loop. typed_block known decl.body (first_reached decl.vars) >>= (λ done. Ok (kernel_of decl loop done))) kernel e in
      let done = bound_ok (typed_block known decl.body (first_reached decl.vars)) (λ done. Ok (kernel_of decl loop.x done)) kernel loop.gives in
      let turn = bound_ok (in_turn (map (typed_stmt known) decl.body) (first_reached decl.vars)) (λ (d : List TypedStmt × Reached). Ok (d.0, record d.1 { scope = (first_reached decl.vars).scope })) done.x done.is in
      let same : kernel_of decl loop.x done.x ≡ kernel = cc in
      let inner : (turn.x.0, record turn.x.1 { scope = (first_reached decl.vars).scope }) ≡ done.x = cc in
      subst (λ (it : TypedKernel). HasPlainElses it.body) same (subst (λ (d : List TypedStmt × Reached). HasPlainElses d.0) inner (plain_turn decl.body (first_reached decl.vars) turn.x turn.is))
