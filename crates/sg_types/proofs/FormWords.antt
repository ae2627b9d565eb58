-- What values and actions are at each form of expression and kind of statement.
use Rattle.std.proofs.Common.{◌≡◌, ℕ, Bool, ◌==◌, if◌then◌else◌, List, [], ◌∷◌, map, fold, refl, sym, ap, ◌∙◌}
use Rattle.sg_words.specs.declared.operators.Ty.{Ty}
use Rattle.sg_words.specs.declared.operators.BinOp.{BinOp}
use Rattle.sg_words.specs.declared.operators.UnOp.{UnOp}
use Rattle.sg_words.specs.Words.{applied, applied_un, mulq_of, word_of, flag}
use Rattle.sg_flat.specs.declared.effects.Way.{Way}
use Rattle.sg_flat.specs.Domain.{is_active}
use Rattle.sg_types.specs.declared.typed.TypedExpr.{TypedExpr}
use Rattle.sg_types.specs.declared.typed.Form.{Form, fold-Form, fold-roll-Form}
use Rattle.sg_types.specs.declared.typed.Form.TheVariants as form
use Rattle.sg_types.specs.declared.typed.Form.TheVariants.{rolls-Literal, rolls-Constant, rolls-Var, rolls-Read, rolls-Paren, rolls-Un, rolls-Bin, rolls-Mulq, rolls-Convert, rolls-Active}
use Rattle.sg_types.specs.declared.typed.Form.TheOpen as f
use Rattle.sg_types.specs.declared.typed.Form.TheOpen.{TypedExpr-F}
use Rattle.sg_types.specs.declared.typed.TypedRange.{TypedRange}
use Rattle.sg_types.specs.declared.typed.TypedKind.{TypedKind, fold-TypedKind, fold-roll-TypedKind}
use Rattle.sg_types.specs.declared.typed.TypedKind.TheVariants as kind
use Rattle.sg_types.specs.declared.typed.TypedKind.TheVariants.{rolls-Let, rolls-Assign, rolls-Write, rolls-If, rolls-For}
use Rattle.sg_types.specs.declared.typed.TypedKind.TheOpen as k
use Rattle.sg_types.specs.declared.typed.TypedKind.TheOpen.{TypedStmt-F}
use Rattle.sg_types.specs.declared.typed.TypedStmt.{TypedStmt}
use Rattle.sg_types.specs.Values.{World, Moment, TypedWord, coord_of, read_word, value_step, typed_word, expr_word}
use Rattle.sg_types.specs.Iterations.{StmtAction, set_var, add_write, run_all, range_numbers, kind_step, action_of}
use Rattle.sg_types.proofs.FoldWords.{fold-expr, fold-stmt}

map-map : {A B C : Type 0} (g : B → C) (h : A → B) (xs : List A) → map g (map h xs) ≡ map (λ x. g (h x)) xs
map-map g h [] = refl
map-map g h (x ∷ xs) = ap (λ more. g (h x) ∷ more) (map-map g h xs)

abbrev shown_word : TypedExpr-F ℕ TypedWord → TypedWord
shown_word expr = (expr.ty, expr.form)

abbrev shown_action : TypedStmt-F (ℕ → StmtAction) StmtAction → StmtAction
shown_action stmt = stmt.kind stmt.number

module _ (world : World) (now : Moment) where
  abbrev word_in : Form → ℕ
  word_in = fold-Form ℕ TypedWord (value_step world now) shown_word

  word_of_form : (given : Ty) (it : Form) → expr_word world now (record { ty = given; form = it }) ≡ word_in it
  word_of_form given it = ap (λ (p : TypedWord). p.1) (fold-expr ℕ TypedWord (value_step world now) shown_word (record { ty = given; form = it }))

  type_of : (expr : TypedExpr) → (typed_word world now expr).0 ≡ expr.ty
  type_of expr = ap (λ (p : TypedWord). p.0) (fold-expr ℕ TypedWord (value_step world now) shown_word expr)

  pub value-Literal : (given : Ty) (word : ℕ) → expr_word world now (record { ty = given; form = form.Literal word }) ≡ word
  value-Literal given word = word_of_form given (form.Literal word) ∙ (ap word_in (sym (rolls-Literal word)) ∙ fold-roll-Form ℕ TypedWord (value_step world now) shown_word (f.Literal word))

  pub value-Constant : (given : Ty) (word : ℕ) → expr_word world now (record { ty = given; form = form.Constant word }) ≡ word
  value-Constant given word = word_of_form given (form.Constant word) ∙ (ap word_in (sym (rolls-Constant word)) ∙ fold-roll-Form ℕ TypedWord (value_step world now) shown_word (f.Constant word))

  pub value-Var : (given : Ty) (var : ℕ) → expr_word world now (record { ty = given; form = form.Var var }) ≡ now.words var
  value-Var given var = word_of_form given (form.Var var) ∙ (ap word_in (sym (rolls-Var var)) ∙ fold-roll-Form ℕ TypedWord (value_step world now) shown_word (f.Var var))

  pub value-Read : (given : Ty) (layout : ℕ) (place : ℕ) (index : List TypedExpr) → expr_word world now (record { ty = given; form = form.Read layout place index }) ≡ read_word world now layout place (coord_of (map (expr_word world now) index))
  value-Read given layout place index = word_of_form given (form.Read layout place index) ∙ (ap word_in (sym (rolls-Read layout place index)) ∙ (fold-roll-Form ℕ TypedWord (value_step world now) shown_word (f.Read layout place index) ∙ ap (λ (words : List ℕ). read_word world now layout place (coord_of words)) (map-map (λ (part : TypedWord). part.1) (typed_word world now) index)))

  pub value-Paren : (given : Ty) (inner : TypedExpr) → expr_word world now (record { ty = given; form = form.Paren inner }) ≡ expr_word world now inner
  value-Paren given inner = word_of_form given (form.Paren inner) ∙ (ap word_in (sym (rolls-Paren inner)) ∙ fold-roll-Form ℕ TypedWord (value_step world now) shown_word (f.Paren inner))

  pub value-Un : (given : Ty) (op : UnOp) (operand : TypedExpr) → expr_word world now (record { ty = given; form = form.Un op operand }) ≡ applied_un op (expr_word world now operand)
  value-Un given op operand = word_of_form given (form.Un op operand) ∙ (ap word_in (sym (rolls-Un op operand)) ∙ fold-roll-Form ℕ TypedWord (value_step world now) shown_word (f.Un op operand))

  pub value-Bin : (given : Ty) (op : BinOp) (left : TypedExpr) (right : TypedExpr) → expr_word world now (record { ty = given; form = form.Bin op left right }) ≡ applied op left.ty (expr_word world now left) (expr_word world now right)
  value-Bin given op left right = word_of_form given (form.Bin op left right) ∙ (ap word_in (sym (rolls-Bin op left right)) ∙ (fold-roll-Form ℕ TypedWord (value_step world now) shown_word (f.Bin op left right) ∙ ap (λ (given : Ty). applied op given (expr_word world now left) (expr_word world now right)) (type_of left)))

  pub value-Mulq : (given : Ty) (a : TypedExpr) (b : TypedExpr) (s : TypedExpr) → expr_word world now (record { ty = given; form = form.Mulq a b s }) ≡ mulq_of (expr_word world now a) (expr_word world now b) (expr_word world now s)
  value-Mulq given a b s = word_of_form given (form.Mulq a b s) ∙ (ap word_in (sym (rolls-Mulq a b s)) ∙ fold-roll-Form ℕ TypedWord (value_step world now) shown_word (f.Mulq a b s))

  pub value-Convert : (given : Ty) (inner : TypedExpr) → expr_word world now (record { ty = given; form = form.Convert inner }) ≡ expr_word world now inner
  value-Convert given inner = word_of_form given (form.Convert inner) ∙ (ap word_in (sym (rolls-Convert inner)) ∙ fold-roll-Form ℕ TypedWord (value_step world now) shown_word (f.Convert inner))

  pub value-Active : (given : Ty) (layout : ℕ) (index : List TypedExpr) → expr_word world now (record { ty = given; form = form.Active layout index }) ≡ flag (is_active world.state layout (coord_of (map (expr_word world now) index)))
  value-Active given layout index = word_of_form given (form.Active layout index) ∙ (ap word_in (sym (rolls-Active layout index)) ∙ (fold-roll-Form ℕ TypedWord (value_step world now) shown_word (f.Active layout index) ∙ ap (λ (words : List ℕ). flag (is_active world.state layout (coord_of words))) (map-map (λ (part : TypedWord). part.1) (typed_word world now) index)))

module _ (world : World) (number : ℕ) where
  abbrev done_by : TypedKind → ℕ → StmtAction
  done_by = fold-TypedKind (ℕ → StmtAction) StmtAction (kind_step world) shown_action

  action_of_kind : (it : TypedKind) (now : Moment) → action_of world (record { number = number; kind = it }) now ≡ done_by it number now
  action_of_kind it now = ap (λ (action : StmtAction). action now) (fold-stmt (ℕ → StmtAction) StmtAction (kind_step world) shown_action (record { number = number; kind = it }))

  pub action-Let : (var : ℕ) (value : TypedExpr) (now : Moment) → action_of world (record { number = number; kind = kind.Let var value }) now ≡ set_var var (expr_word world now value) now
  action-Let var value now = action_of_kind (kind.Let var value) now ∙ (ap (λ (it : TypedKind). done_by it number now) (sym (rolls-Let var value)) ∙ ap (λ (it : ℕ → StmtAction). it number now) (fold-roll-TypedKind (ℕ → StmtAction) StmtAction (kind_step world) shown_action (k.Let var value)))

  pub action-Assign : (var : ℕ) (value : TypedExpr) (now : Moment) → action_of world (record { number = number; kind = kind.Assign var value }) now ≡ set_var var (expr_word world now value) now
  action-Assign var value now = action_of_kind (kind.Assign var value) now ∙ (ap (λ (it : TypedKind). done_by it number now) (sym (rolls-Assign var value)) ∙ ap (λ (it : ℕ → StmtAction). it number now) (fold-roll-TypedKind (ℕ → StmtAction) StmtAction (kind_step world) shown_action (k.Assign var value)))

  pub action-Write : (layout : ℕ) (place : ℕ) (index : List TypedExpr) (way : Way) (value : TypedExpr) (now : Moment) → action_of world (record { number = number; kind = kind.Write layout place index way value }) now ≡ add_write (record { layout = layout; place = place; stmt = number; at = coord_of (map (expr_word world now) index); way = way; value = expr_word world now value }) now
  action-Write layout place index way value now = action_of_kind (kind.Write layout place index way value) now ∙ (ap (λ (it : TypedKind). done_by it number now) (sym (rolls-Write layout place index way value)) ∙ ap (λ (it : ℕ → StmtAction). it number now) (fold-roll-TypedKind (ℕ → StmtAction) StmtAction (kind_step world) shown_action (k.Write layout place index way value)))

  pub action-If : (condition : TypedExpr) (block : List TypedStmt) (otherwise : List TypedStmt) (has_else : Bool) (now : Moment) → action_of world (record { number = number; kind = kind.If condition block otherwise has_else }) now ≡ run_all (if expr_word world now condition == 0 then map (action_of world) otherwise else map (action_of world) block) now
  action-If condition block otherwise has_else now = action_of_kind (kind.If condition block otherwise has_else) now ∙ (ap (λ (it : TypedKind). done_by it number now) (sym (rolls-If condition block otherwise has_else)) ∙ ap (λ (it : ℕ → StmtAction). it number now) (fold-roll-TypedKind (ℕ → StmtAction) StmtAction (kind_step world) shown_action (k.If condition block otherwise has_else)))

  pub action-For : (var : ℕ) (range : TypedRange) (body : List TypedStmt) (now : Moment) → action_of world (record { number = number; kind = kind.For var range body }) now ≡ fold (λ reached turn. run_all (map (action_of world) body) (set_var var (word_of turn) reached)) now (range_numbers world now range)
  action-For var range body now = action_of_kind (kind.For var range body) now ∙ (ap (λ (it : TypedKind). done_by it number now) (sym (rolls-For var range body)) ∙ ap (λ (it : ℕ → StmtAction). it number now) (fold-roll-TypedKind (ℕ → StmtAction) StmtAction (kind_step world) shown_action (k.For var range body)))

-- all of them, to compute with
pub ruleset effect_equations = (
  value-Literal,
  value-Constant,
  value-Var,
  value-Read,
  value-Paren,
  value-Un,
  value-Bin,
  value-Mulq,
  value-Convert,
  value-Active,
  action-Let,
  action-Assign,
  action-Write,
  action-If,
  action-For,
)
