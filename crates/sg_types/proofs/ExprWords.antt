-- What the words on expressions are at each variant.
use Rattle.std.proofs.Common.{◌≡◌, ℕ, Bool, true, ◌&&◌, List, map, length, Some, option_map, is_some, refl, sym, ap, ◌∙◌}
use Rattle.std.specs.Option.{option_and_then}
use Rattle.std.specs.List.{list_all}
use Rattle.std.proofs.lemmas.List.Folds.{list_all-map}
use Rattle.std.proofs.Math.ListN.{length-map}
use Rattle.sg_words.specs.declared.operators.Ty.TheVariants as ty
use Rattle.sg_words.specs.declared.operators.BinOp.{BinOp}
use Rattle.sg_words.specs.declared.operators.UnOp.{UnOp}
use Rattle.sg_words.specs.Words.{flag}
use Rattle.sg_ast.specs.declared.token.Name.{Name}
use Rattle.sg_ast.specs.declared.expr.Callee.{Callee}
use Rattle.sg_ast.specs.declared.expr.Expr.{Expr}
use Rattle.sg_ast.specs.declared.expr.Expr.TheVariants as e
use Rattle.sg_ast.proofs.Uses.{fold-Number_expr, fold-Truth_expr, fold-Name_expr, fold-Read_expr, fold-Paren_expr, fold-Un_expr, fold-Bin_expr, fold-Call_expr, fold-Active_expr}
use Rattle.sg_names.specs.Tables.{Tables, field_named}
use Rattle.sg_types.specs.declared.typed.Form.TheVariants as form
use Rattle.sg_types.specs.Scopes.{Known, NamedLocal, is_taken, name_expr}
use Rattle.sg_types.specs.Expressions.{knows, knows_step, counts, counts_step, field_axes, equals_some, typed_expr, typed_step, number_ty, all_some, un_expr, bin_expr, call_expr, access_expr, active_expr}

module _ (known : Known) (scope : List NamedLocal) where
  pub knows-Number : (value : ℕ) (unsigned : Bool) → knows known scope (e.Number value unsigned) ≡ true
  knows-Number value unsigned = fold-Number_expr (knows_step known scope) value unsigned

  pub knows-Truth : (truth : Bool) → knows known scope (e.Truth truth) ≡ true
  knows-Truth truth = fold-Truth_expr (knows_step known scope) truth

  pub knows-Name : (name : Name) → knows known scope (e.Name name) ≡ is_taken known scope name
  knows-Name name = fold-Name_expr (knows_step known scope) name

  pub knows-Read : (field : Name) (index : List Expr) → knows known scope (e.Read field index) ≡ (is_some (field_named known.tables field) && list_all (knows known scope) index)
  knows-Read field index = fold-Read_expr (knows_step known scope) field index
      ∙ ap (λ rest. is_some (field_named known.tables field) && rest) (list_all-map (λ (part : Bool). part) (knows known scope) index)

  pub knows-Paren : (inner : Expr) → knows known scope (e.Paren inner) ≡ knows known scope inner
  knows-Paren inner = fold-Paren_expr (knows_step known scope) inner

  pub knows-Un : (op : UnOp) (operand : Expr) → knows known scope (e.Un op operand) ≡ knows known scope operand
  knows-Un op operand = fold-Un_expr (knows_step known scope) op operand

  pub knows-Bin : (op : BinOp) (left right : Expr) → knows known scope (e.Bin op left right) ≡ (knows known scope left && knows known scope right)
  knows-Bin op left right = fold-Bin_expr (knows_step known scope) op left right

  pub knows-Call : (callee : Callee) (arguments : List Expr) → knows known scope (e.Call callee arguments) ≡ list_all (knows known scope) arguments
  knows-Call callee arguments = fold-Call_expr (knows_step known scope) callee arguments
      ∙ list_all-map (λ (part : Bool). part) (knows known scope) arguments

  pub knows-Active : (field : Name) (index : List Expr) → knows known scope (e.Active field index) ≡ (is_some (field_named known.tables field) && list_all (knows known scope) index)
  knows-Active field index = fold-Active_expr (knows_step known scope) field index
      ∙ ap (λ rest. is_some (field_named known.tables field) && rest) (list_all-map (λ (part : Bool). part) (knows known scope) index)

  pub typed-Number : (value : ℕ) (unsigned : Bool) → typed_expr known scope (e.Number value unsigned) ≡ Some (record { ty = number_ty unsigned; form = form.Literal value })
  typed-Number value unsigned = fold-Number_expr (typed_step known scope) value unsigned

  pub typed-Truth : (truth : Bool) → typed_expr known scope (e.Truth truth) ≡ Some (record { ty = ty.Bool; form = form.Literal (flag truth) })
  typed-Truth truth = fold-Truth_expr (typed_step known scope) truth

  pub typed-Name : (name : Name) → typed_expr known scope (e.Name name) ≡ name_expr known scope name
  typed-Name name = fold-Name_expr (typed_step known scope) name

  pub typed-Read : (field : Name) (index : List Expr) → typed_expr known scope (e.Read field index) ≡ option_and_then (λ at. option_and_then (access_expr at) (all_some (map (typed_expr known scope) index))) (field_named known.tables field)
  typed-Read field index = fold-Read_expr (typed_step known scope) field index

  pub typed-Paren : (inner : Expr) → typed_expr known scope (e.Paren inner) ≡ option_map (λ typed. record { ty = typed.ty; form = form.Paren typed }) (typed_expr known scope inner)
  typed-Paren inner = fold-Paren_expr (typed_step known scope) inner

  pub typed-Un : (op : UnOp) (operand : Expr) → typed_expr known scope (e.Un op operand) ≡ option_and_then (un_expr op) (typed_expr known scope operand)
  typed-Un op operand = fold-Un_expr (typed_step known scope) op operand

  pub typed-Bin : (op : BinOp) (left right : Expr) → typed_expr known scope (e.Bin op left right) ≡ option_and_then (λ l. option_and_then (bin_expr op l) (typed_expr known scope right)) (typed_expr known scope left)
  typed-Bin op left right = fold-Bin_expr (typed_step known scope) op left right

  pub typed-Call : (callee : Callee) (arguments : List Expr) → typed_expr known scope (e.Call callee arguments) ≡ option_and_then (call_expr callee) (all_some (map (typed_expr known scope) arguments))
  typed-Call callee arguments = fold-Call_expr (typed_step known scope) callee arguments

  pub typed-Active : (field : Name) (index : List Expr) → typed_expr known scope (e.Active field index) ≡ option_and_then (λ at. option_and_then (active_expr at) (all_some (map (typed_expr known scope) index))) (field_named known.tables field)
  typed-Active field index = fold-Active_expr (typed_step known scope) field index

module _ (tables : Tables) where
  pub counts-Number : (value : ℕ) (unsigned : Bool) → counts tables (e.Number value unsigned) ≡ true
  counts-Number value unsigned = fold-Number_expr (counts_step tables) value unsigned

  pub counts-Truth : (truth : Bool) → counts tables (e.Truth truth) ≡ true
  counts-Truth truth = fold-Truth_expr (counts_step tables) truth

  pub counts-Name : (name : Name) → counts tables (e.Name name) ≡ true
  counts-Name name = fold-Name_expr (counts_step tables) name

  pub counts-Read : (field : Name) (index : List Expr) → counts tables (e.Read field index) ≡ (equals_some (field_axes tables field) (length index) && list_all (counts tables) index)
  counts-Read field index = fold-Read_expr (counts_step tables) field index
      ∙ rw (length-map, list_all-map) refl

  pub counts-Paren : (inner : Expr) → counts tables (e.Paren inner) ≡ counts tables inner
  counts-Paren inner = fold-Paren_expr (counts_step tables) inner

  pub counts-Un : (op : UnOp) (operand : Expr) → counts tables (e.Un op operand) ≡ counts tables operand
  counts-Un op operand = fold-Un_expr (counts_step tables) op operand

  pub counts-Bin : (op : BinOp) (left right : Expr) → counts tables (e.Bin op left right) ≡ (counts tables left && counts tables right)
  counts-Bin op left right = fold-Bin_expr (counts_step tables) op left right

  pub counts-Call : (callee : Callee) (arguments : List Expr) → counts tables (e.Call callee arguments) ≡ list_all (counts tables) arguments
  counts-Call callee arguments = fold-Call_expr (counts_step tables) callee arguments
      ∙ list_all-map (λ (part : Bool). part) (counts tables) arguments

  pub counts-Active : (field : Name) (index : List Expr) → counts tables (e.Active field index) ≡ (equals_some (field_axes tables field) (length index) && list_all (counts tables) index)
  counts-Active field index = fold-Active_expr (counts_step tables) field index
      ∙ rw (length-map, list_all-map) refl

-- a read, where its own test and that of its indices are known
pub knows_read : (known : Known) (scope : List NamedLocal) (field : Name) (index : List Expr) (expr : Expr) → expr ≡ e.Read field index
    → (own parts : Bool) → own ≡ is_some (field_named known.tables field) → parts ≡ list_all (knows known scope) index → (own && parts) ≡ knows known scope expr
knows_read known scope field index expr is own parts p q =
    ap (λ b. b && parts) p ∙ (ap (λ rest. is_some (field_named known.tables field) && rest) q
    ∙ (sym (knows-Read known scope field index) ∙ ap (knows known scope) (sym is)))

-- a question, as a read
pub knows_active : (known : Known) (scope : List NamedLocal) (field : Name) (index : List Expr) (expr : Expr) → expr ≡ e.Active field index
    → (own parts : Bool) → own ≡ is_some (field_named known.tables field) → parts ≡ list_all (knows known scope) index → (own && parts) ≡ knows known scope expr
knows_active known scope field index expr is own parts p q =
    ap (λ b. b && parts) p ∙ (ap (λ rest. is_some (field_named known.tables field) && rest) q
    ∙ (sym (knows-Active known scope field index) ∙ ap (knows known scope) (sym is)))

pub knows_call : (known : Known) (scope : List NamedLocal) (callee : Callee) (arguments : List Expr) (expr : Expr) → expr ≡ e.Call callee arguments
    → (parts : Bool) → parts ≡ list_all (knows known scope) arguments → parts ≡ knows known scope expr
knows_call known scope callee arguments expr is parts q = q ∙ (sym (knows-Call known scope callee arguments) ∙ ap (knows known scope) (sym is))

pub counts_read : (tables : Tables) (field : Name) (index : List Expr) (expr : Expr) → expr ≡ e.Read field index
    → (own parts : Bool) → own ≡ equals_some (field_axes tables field) (length index) → parts ≡ list_all (counts tables) index → (own && parts) ≡ counts tables expr
counts_read tables field index expr is own parts p q =
    ap (λ b. b && parts) p ∙ (ap (λ rest. equals_some (field_axes tables field) (length index) && rest) q
    ∙ (sym (counts-Read tables field index) ∙ ap (counts tables) (sym is)))

pub counts_active : (tables : Tables) (field : Name) (index : List Expr) (expr : Expr) → expr ≡ e.Active field index
    → (own parts : Bool) → own ≡ equals_some (field_axes tables field) (length index) → parts ≡ list_all (counts tables) index → (own && parts) ≡ counts tables expr
counts_active tables field index expr is own parts p q =
    ap (λ b. b && parts) p ∙ (ap (λ rest. equals_some (field_axes tables field) (length index) && rest) q
    ∙ (sym (counts-Active tables field index) ∙ ap (counts tables) (sym is)))

pub counts_call : (tables : Tables) (callee : Callee) (arguments : List Expr) (expr : Expr) → expr ≡ e.Call callee arguments
    → (parts : Bool) → parts ≡ list_all (counts tables) arguments → parts ≡ counts tables expr
counts_call tables callee arguments expr is parts q = q ∙ (sym (counts-Call tables callee arguments) ∙ ap (counts tables) (sym is))
