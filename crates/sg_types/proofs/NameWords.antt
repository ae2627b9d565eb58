-- What putting names back and marking are at each variant.
use Rattle.std.proofs.Common.{◌≡◌, ℕ, Bool, if◌then◌else◌, List, [], ◌∷◌, ◌++◌, map, Option, Some, None, option_map, sym, ap, ◌∙◌}
use Rattle.sg_words.specs.declared.operators.Ty.{Ty}
use Rattle.sg_words.specs.declared.operators.BinOp.{BinOp}
use Rattle.sg_words.specs.declared.operators.UnOp.{UnOp}
use Rattle.sg_ast.specs.declared.token.Name.{Name}
use Rattle.sg_ast.specs.declared.expr.Callee.{Callee}
use Rattle.sg_ast.specs.declared.expr.Callee.TheVariants as c
use Rattle.sg_ast.specs.declared.expr.Expr.{Expr}
use Rattle.sg_ast.specs.declared.expr.Expr.TheVariants as e
use Rattle.sg_ast.specs.declared.stmt.WayDecl.{WayDecl}
use Rattle.sg_ast.specs.declared.stmt.RangeDecl.{RangeDecl}
use Rattle.sg_ast.specs.declared.stmt.Stmt.{Stmt}
use Rattle.sg_ast.specs.declared.stmt.Stmt.TheVariants as stmt
use Rattle.sg_ast.proofs.Uses.{fold-Number_expr, fold-Truth_expr, fold-Name_expr, fold-Read_expr, fold-Paren_expr, fold-Un_expr, fold-Bin_expr, fold-Call_expr, fold-Active_expr, fold-Let_stmt, fold-Assign_stmt, fold-Write_stmt, fold-If_stmt, fold-If_else_stmt, fold-For_stmt}
use Rattle.sg_flat.specs.declared.effects.Way.{Way}
use Rattle.sg_names.specs.Tables.{field_named}
use Rattle.sg_types.specs.declared.typed.TypedExpr.{TypedExpr}
use Rattle.sg_types.specs.declared.typed.Form.{Form, fold-Form, fold-roll-Form}
use Rattle.sg_types.specs.declared.typed.Form.TheVariants as form
use Rattle.sg_types.specs.declared.typed.Form.TheVariants.{rolls-Literal, rolls-Constant, rolls-Var, rolls-Read as form_rolls-Read, rolls-Paren as form_rolls-Paren, rolls-Un as form_rolls-Un, rolls-Bin as form_rolls-Bin, rolls-Mulq, rolls-Convert, rolls-Active as form_rolls-Active}
use Rattle.sg_types.specs.declared.typed.Form.TheOpen as f
use Rattle.sg_types.specs.declared.typed.Form.TheOpen.{TypedExpr-F}
use Rattle.sg_types.specs.declared.typed.TypedRange.{TypedRange}
use Rattle.sg_types.specs.declared.typed.TypedKind.{TypedKind, fold-TypedKind, fold-roll-TypedKind}
use Rattle.sg_types.specs.declared.typed.TypedKind.TheVariants as kind
use Rattle.sg_types.specs.declared.typed.TypedKind.TheVariants.{rolls-Let, rolls-Assign, rolls-Write, rolls-If, rolls-For}
use Rattle.sg_types.specs.declared.typed.TypedKind.TheOpen as k
use Rattle.sg_types.specs.declared.typed.TypedKind.TheOpen.{TypedStmt-F}
use Rattle.sg_types.specs.declared.typed.TypedStmt.{TypedStmt}
use Rattle.sg_types.specs.Scopes.{Known, earlier_constant}
use Rattle.sg_types.specs.NamesBack.{constant_mark, field_mark, layout_mark, marked_constant, marked_field, marked_layout, layout_of, call_or_operator, marked_step, marked_expr, marked_range, marked_stmt_step, marked_stmt, names_step, stmt_names, block_names, else_names, name_at, literal_expr, conversion, named_step, named_expr, named_range, way_back, named_kind, named_stmt}
use Rattle.sg_types.proofs.FoldWords.{fold-expr, fold-stmt}

module _ (known : Known) where
  pub marked-Number : (value : ℕ) (unsigned : Bool) → marked_expr known (e.Number value unsigned) ≡ e.Number value unsigned
  marked-Number value unsigned = fold-Number_expr (marked_step known) value unsigned

  pub marked-Truth : (truth : Bool) → marked_expr known (e.Truth truth) ≡ e.Truth truth
  marked-Truth truth = fold-Truth_expr (marked_step known) truth

  pub marked-Name : (name : Name) → marked_expr known (e.Name name) ≡ e.Name (marked_constant name (earlier_constant known name))
  marked-Name name = fold-Name_expr (marked_step known) name

  pub marked-Read : (field : Name) (index : List Expr) → marked_expr known (e.Read field index) ≡ e.Read (marked_field field (field_named known.tables field)) (map (marked_expr known) index)
  marked-Read field index = fold-Read_expr (marked_step known) field index

  pub marked-Paren : (inner : Expr) → marked_expr known (e.Paren inner) ≡ e.Paren (marked_expr known inner)
  marked-Paren inner = fold-Paren_expr (marked_step known) inner

  pub marked-Un : (op : UnOp) (operand : Expr) → marked_expr known (e.Un op operand) ≡ e.Un op (marked_expr known operand)
  marked-Un op operand = fold-Un_expr (marked_step known) op operand

  pub marked-Bin : (op : BinOp) (left : Expr) (right : Expr) → marked_expr known (e.Bin op left right) ≡ e.Bin op (marked_expr known left) (marked_expr known right)
  marked-Bin op left right = fold-Bin_expr (marked_step known) op left right

  pub marked-Call : (callee : Callee) (arguments : List Expr) → marked_expr known (e.Call callee arguments) ≡ call_or_operator callee (map (marked_expr known) arguments)
  marked-Call callee arguments = fold-Call_expr (marked_step known) callee arguments

  pub marked-Active : (field : Name) (index : List Expr) → marked_expr known (e.Active field index) ≡ e.Active (marked_layout field (layout_of (field_named known.tables field))) (map (marked_expr known) index)
  marked-Active field index = fold-Active_expr (marked_step known) field index

  pub marked_stmt-Let : (name : Name) (value : Expr) → marked_stmt known (stmt.Let name value) ≡ stmt.Let name (marked_expr known value)
  marked_stmt-Let name value = fold-Let_stmt (marked_stmt_step known) name value

  pub marked_stmt-Assign : (name : Name) (value : Expr) → marked_stmt known (stmt.Assign name value) ≡ stmt.Assign name (marked_expr known value)
  marked_stmt-Assign name value = fold-Assign_stmt (marked_stmt_step known) name value

  pub marked_stmt-Write : (field : Name) (index : List Expr) (how : WayDecl) (value : Expr) → marked_stmt known (stmt.Write field index how value) ≡ stmt.Write (marked_field field (field_named known.tables field)) (map (marked_expr known) index) how (marked_expr known value)
  marked_stmt-Write field index how value = fold-Write_stmt (marked_stmt_step known) field index how value

  pub marked_stmt-If : (condition : Expr) (block : List Stmt) (otherwise : Option (List Stmt)) → marked_stmt known (stmt.If condition block otherwise) ≡ stmt.If (marked_expr known condition) (map (marked_stmt known) block) (option_map (map (marked_stmt known)) otherwise)
  marked_stmt-If condition block None = fold-If_stmt (marked_stmt_step known) condition block
  marked_stmt-If condition block (Some otherwise) = fold-If_else_stmt (marked_stmt_step known) condition block otherwise

  pub marked_stmt-For : (name : Name) (range : RangeDecl) (body : List Stmt) → marked_stmt known (stmt.For name range body) ≡ stmt.For name (marked_range known range) (map (marked_stmt known) body)
  marked_stmt-For name range body = fold-For_stmt (marked_stmt_step known) name range body

pub names-Let : (name : Name) (value : Expr) → stmt_names (stmt.Let name value) ≡ name ∷ []
names-Let name value = fold-Let_stmt names_step name value

pub names-Assign : (name : Name) (value : Expr) → stmt_names (stmt.Assign name value) ≡ []
names-Assign name value = fold-Assign_stmt names_step name value

pub names-Write : (field : Name) (index : List Expr) (how : WayDecl) (value : Expr) → stmt_names (stmt.Write field index how value) ≡ []
names-Write field index how value = fold-Write_stmt names_step field index how value

pub names-If : (condition : Expr) (block : List Stmt) (otherwise : Option (List Stmt)) → stmt_names (stmt.If condition block otherwise) ≡ block_names block ++ else_names (option_map (map stmt_names) otherwise)
names-If condition block None = fold-If_stmt names_step condition block
names-If condition block (Some otherwise) = fold-If_else_stmt names_step condition block otherwise

pub names-For : (name : Name) (range : RangeDecl) (body : List Stmt) → stmt_names (stmt.For name range body) ≡ name ∷ block_names body
names-For name range body = fold-For_stmt names_step name range body

abbrev shown_expr : TypedExpr-F (Ty → Expr) Expr → Expr
shown_expr expr = expr.form expr.ty

abbrev shown_stmt : TypedStmt-F Stmt Stmt → Stmt
shown_stmt statement = statement.kind

module _ (names : List Name) where
  abbrev named_form : Form → Ty → Expr
  named_form = fold-Form (Ty → Expr) Expr (named_step names) shown_expr

  of_form : (given : Ty) (it : Form) → named_expr names (record { ty = given; form = it }) ≡ named_form it given
  of_form given it = fold-expr (Ty → Expr) Expr (named_step names) shown_expr (record { ty = given; form = it })

  pub named-Literal : (given : Ty) (word : ℕ) → named_expr names (record { ty = given; form = form.Literal word }) ≡ literal_expr given word
  named-Literal given word = of_form given (form.Literal word) ∙ (ap (λ (it : Form). named_form it given) (sym (rolls-Literal word)) ∙ ap (λ (it : Ty → Expr). it given) (fold-roll-Form (Ty → Expr) Expr (named_step names) shown_expr (f.Literal word)))

  pub named-Constant : (given : Ty) (word : ℕ) → named_expr names (record { ty = given; form = form.Constant word }) ≡ e.Name (constant_mark given word)
  named-Constant given word = of_form given (form.Constant word) ∙ (ap (λ (it : Form). named_form it given) (sym (rolls-Constant word)) ∙ ap (λ (it : Ty → Expr). it given) (fold-roll-Form (Ty → Expr) Expr (named_step names) shown_expr (f.Constant word)))

  pub named-Var : (given : Ty) (var : ℕ) → named_expr names (record { ty = given; form = form.Var var }) ≡ e.Name (name_at names var)
  named-Var given var = of_form given (form.Var var) ∙ (ap (λ (it : Form). named_form it given) (sym (rolls-Var var)) ∙ ap (λ (it : Ty → Expr). it given) (fold-roll-Form (Ty → Expr) Expr (named_step names) shown_expr (f.Var var)))

  pub named-Read : (given : Ty) (layout : ℕ) (place : ℕ) (index : List TypedExpr) → named_expr names (record { ty = given; form = form.Read layout place index }) ≡ e.Read (field_mark layout place) (map (named_expr names) index)
  named-Read given layout place index = of_form given (form.Read layout place index) ∙ (ap (λ (it : Form). named_form it given) (sym (form_rolls-Read layout place index)) ∙ ap (λ (it : Ty → Expr). it given) (fold-roll-Form (Ty → Expr) Expr (named_step names) shown_expr (f.Read layout place index)))

  pub named-Paren : (given : Ty) (inner : TypedExpr) → named_expr names (record { ty = given; form = form.Paren inner }) ≡ e.Paren (named_expr names inner)
  named-Paren given inner = of_form given (form.Paren inner) ∙ (ap (λ (it : Form). named_form it given) (sym (form_rolls-Paren inner)) ∙ ap (λ (it : Ty → Expr). it given) (fold-roll-Form (Ty → Expr) Expr (named_step names) shown_expr (f.Paren inner)))

  pub named-Un : (given : Ty) (op : UnOp) (operand : TypedExpr) → named_expr names (record { ty = given; form = form.Un op operand }) ≡ e.Un op (named_expr names operand)
  named-Un given op operand = of_form given (form.Un op operand) ∙ (ap (λ (it : Form). named_form it given) (sym (form_rolls-Un op operand)) ∙ ap (λ (it : Ty → Expr). it given) (fold-roll-Form (Ty → Expr) Expr (named_step names) shown_expr (f.Un op operand)))

  pub named-Bin : (given : Ty) (op : BinOp) (left : TypedExpr) (right : TypedExpr) → named_expr names (record { ty = given; form = form.Bin op left right }) ≡ e.Bin op (named_expr names left) (named_expr names right)
  named-Bin given op left right = of_form given (form.Bin op left right) ∙ (ap (λ (it : Form). named_form it given) (sym (form_rolls-Bin op left right)) ∙ ap (λ (it : Ty → Expr). it given) (fold-roll-Form (Ty → Expr) Expr (named_step names) shown_expr (f.Bin op left right)))

  pub named-Mulq : (given : Ty) (a : TypedExpr) (b : TypedExpr) (s : TypedExpr) → named_expr names (record { ty = given; form = form.Mulq a b s }) ≡ e.Call c.Mulq (named_expr names a ∷ named_expr names b ∷ named_expr names s ∷ [])
  named-Mulq given a b s = of_form given (form.Mulq a b s) ∙ (ap (λ (it : Form). named_form it given) (sym (rolls-Mulq a b s)) ∙ ap (λ (it : Ty → Expr). it given) (fold-roll-Form (Ty → Expr) Expr (named_step names) shown_expr (f.Mulq a b s)))

  pub named-Convert : (given : Ty) (inner : TypedExpr) → named_expr names (record { ty = given; form = form.Convert inner }) ≡ e.Call (conversion given) (named_expr names inner ∷ [])
  named-Convert given inner = of_form given (form.Convert inner) ∙ (ap (λ (it : Form). named_form it given) (sym (rolls-Convert inner)) ∙ ap (λ (it : Ty → Expr). it given) (fold-roll-Form (Ty → Expr) Expr (named_step names) shown_expr (f.Convert inner)))

  pub named-Active : (given : Ty) (layout : ℕ) (index : List TypedExpr) → named_expr names (record { ty = given; form = form.Active layout index }) ≡ e.Active (layout_mark layout) (map (named_expr names) index)
  named-Active given layout index = of_form given (form.Active layout index) ∙ (ap (λ (it : Form). named_form it given) (sym (form_rolls-Active layout index)) ∙ ap (λ (it : Ty → Expr). it given) (fold-roll-Form (Ty → Expr) Expr (named_step names) shown_expr (f.Active layout index)))

module _ (names : List Name) (number : ℕ) where
  abbrev named_as : TypedKind → Stmt
  named_as = fold-TypedKind Stmt Stmt (named_kind names) shown_stmt

  of_kind : (it : TypedKind) → named_stmt names (record { number = number; kind = it }) ≡ named_as it
  of_kind it = fold-stmt Stmt Stmt (named_kind names) shown_stmt (record { number = number; kind = it })

  pub named_stmt-Let : (var : ℕ) (value : TypedExpr) → named_stmt names (record { number = number; kind = kind.Let var value }) ≡ stmt.Let (name_at names var) (named_expr names value)
  named_stmt-Let var value = of_kind (kind.Let var value) ∙ (ap named_as (sym (rolls-Let var value)) ∙ fold-roll-TypedKind Stmt Stmt (named_kind names) shown_stmt (k.Let var value))

  pub named_stmt-Assign : (var : ℕ) (value : TypedExpr) → named_stmt names (record { number = number; kind = kind.Assign var value }) ≡ stmt.Assign (name_at names var) (named_expr names value)
  named_stmt-Assign var value = of_kind (kind.Assign var value) ∙ (ap named_as (sym (rolls-Assign var value)) ∙ fold-roll-TypedKind Stmt Stmt (named_kind names) shown_stmt (k.Assign var value))

  pub named_stmt-Write : (layout : ℕ) (place : ℕ) (index : List TypedExpr) (how : Way) (value : TypedExpr) → named_stmt names (record { number = number; kind = kind.Write layout place index how value }) ≡ stmt.Write (field_mark layout place) (map (named_expr names) index) (way_back how) (named_expr names value)
  named_stmt-Write layout place index how value = of_kind (kind.Write layout place index how value) ∙ (ap named_as (sym (rolls-Write layout place index how value)) ∙ fold-roll-TypedKind Stmt Stmt (named_kind names) shown_stmt (k.Write layout place index how value))

  pub named_stmt-If : (condition : TypedExpr) (block : List TypedStmt) (otherwise : List TypedStmt) (has_else : Bool) → named_stmt names (record { number = number; kind = kind.If condition block otherwise has_else }) ≡ stmt.If (named_expr names condition) (map (named_stmt names) block) (if has_else then Some (map (named_stmt names) otherwise) else None)
  named_stmt-If condition block otherwise has_else = of_kind (kind.If condition block otherwise has_else) ∙ (ap named_as (sym (rolls-If condition block otherwise has_else)) ∙ fold-roll-TypedKind Stmt Stmt (named_kind names) shown_stmt (k.If condition block otherwise has_else))

  pub named_stmt-For : (var : ℕ) (range : TypedRange) (body : List TypedStmt) → named_stmt names (record { number = number; kind = kind.For var range body }) ≡ stmt.For (name_at names var) (named_range names range) (map (named_stmt names) body)
  named_stmt-For var range body = of_kind (kind.For var range body) ∙ (ap named_as (sym (rolls-For var range body)) ∙ fold-roll-TypedKind Stmt Stmt (named_kind names) shown_stmt (k.For var range body))
