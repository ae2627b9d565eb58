-- The values of expressions but reads, from the instruction that is emitted last.
use Rattle.std.proofs.Common.{◌≡◌, ℕ, ◌^◌, ◌<◌, true, ◌&&◌, List, [], ◌∷◌, get_or, Result, Ok, Err, IfOk, sym, ap, subst, ◌∙◌}
use Rattle.std.proofs.lemmas.Bool.{and_parts}
use Rattle.std.proofs.lemmas.List.Elements.{All-head, All-tail}
use Rattle.sg_words.specs.declared.operators.BinOp.{BinOp}
use Rattle.sg_words.specs.declared.operators.UnOp.{UnOp}
use Rattle.sg_words.specs.declared.memory.Memory.{Memory}
use Rattle.sg_words.specs.Words.{applied, applied_un, mulq_of}
use Rattle.sg_words.specs.WordLaws.{IsWord}
use Rattle.sg_layout.specs.declared.shape.Shape.{Shape}
use Rattle.sg_types.specs.declared.typed.TypedExpr.{TypedExpr}
use Rattle.sg_types.specs.declared.typed.Form.{Form}
use Rattle.sg_types.specs.declared.typed.Form.TheVariants as form
use Rattle.sg_types.specs.Values.{expr_word}
use Rattle.sg_types.proofs.Uses.{value-Literal, value-Constant, value-Var, value-Paren, value-Un, value-Bin, value-Mulq, value-Convert}
use Rattle.sg_ir.specs.declared.code.Inst.{Inst}
use Rattle.sg_ir.specs.declared.names.Names.{Names}
use Rattle.sg_ir.specs.Emits.{Computes}
use Rattle.sg_lower.specs.steps.Basis.{Basis}
use Rattle.sg_lower.specs.steps.Fitting.{can_be_lowered, typed_active, typed_read}
use Rattle.sg_lower.specs.steps.Agreeing.{Values}
use Rattle.sg_lower.proofs.Fitted.{fits-Paren, fits-Un, fits-Bin, fits-Mulq, fits-Convert}
use Rattle.sg_lower.proofs.Simulating.{values-none, values-more, values-computed, values-same}

-- a claim on an expression, from that on the expression of its type and form
pub of_form : (P : TypedExpr → Type 0) (expr : TypedExpr) (it : Form) → expr.form ≡ it → P (record { ty = expr.ty; form = it }) → P expr
of_form P expr it is p = subst (λ (form : Form). P (record { ty = expr.ty; form = form })) (sym is) p

module _ (basis : Basis) (to : ℕ) (old new : Names) (a z : List Inst) where
  abbrev HasValue : TypedExpr → Type 0
  HasValue expr = can_be_lowered basis expr ≡ true → Values basis expr to old new a z

  pub literal_value : (expr : TypedExpr) (word : ℕ) → expr.form ≡ form.Literal word → word < 2 ^ 32 → ((shapes : List Shape) → Computes shapes (λ seen now. word) to old new a z) → HasValue expr
  literal_value expr word is small computes = of_form HasValue expr (form.Literal word) is (λ h.
      values-computed basis [] [] (record { ty = expr.ty; form = form.Literal word }) to old old new a a z (λ seen now. word) (values-none basis old a) (computes basis.shapes)
      (λ world is at point now moved shows. (sym (value-Literal world now expr.ty word), subst IsWord (sym (value-Literal world now expr.ty word)) small)))

  pub constant_value : (expr : TypedExpr) (word : ℕ) → expr.form ≡ form.Constant word → word < 2 ^ 32 → ((shapes : List Shape) → Computes shapes (λ seen now. word) to old new a z) → HasValue expr
  constant_value expr word is small computes = of_form HasValue expr (form.Constant word) is (λ h.
      values-computed basis [] [] (record { ty = expr.ty; form = form.Constant word }) to old old new a a z (λ seen now. word) (values-none basis old a) (computes basis.shapes)
      (λ world is at point now moved shows. (sym (value-Constant world now expr.ty word), subst IsWord (sym (value-Constant world now expr.ty word)) small)))

  pub var_value : (expr : TypedExpr) (var : ℕ) → expr.form ≡ form.Var var → ((shapes : List Shape) → Computes shapes (λ seen now. now.vars var) to old new a z) → HasValue expr
  var_value expr var is computes = of_form HasValue expr (form.Var var) is (λ h.
      values-computed basis [] [] (record { ty = expr.ty; form = form.Var var }) to old old new a a z (λ seen now. now.vars var) (values-none basis old a) (computes basis.shapes)
      (λ world is at point now moved shows. (shows.agrees.vars var ∙ sym (value-Var world now expr.ty var), subst IsWord (sym (value-Var world now expr.ty var)) (shows.agrees.small_vars var))))

  pub paren_value : (expr inner : TypedExpr) → expr.form ≡ form.Paren inner → HasValue inner → HasValue expr
  paren_value expr inner is has = of_form HasValue expr (form.Paren inner) is (λ h.
      values-same basis (record { ty = expr.ty; form = form.Paren inner }) inner to old new a z (λ world now. value-Paren world now expr.ty inner) (has (sym (fits-Paren basis expr.ty inner) ∙ h)))

  pub convert_value : (expr inner : TypedExpr) → expr.form ≡ form.Convert inner → HasValue inner → HasValue expr
  convert_value expr inner is has = of_form HasValue expr (form.Convert inner) is (λ h.
      values-same basis (record { ty = expr.ty; form = form.Convert inner }) inner to old new a z (λ world now. value-Convert world now expr.ty inner) (has (sym (fits-Convert basis expr.ty inner) ∙ h)))

  pub un_value : (expr : TypedExpr) (op : UnOp) (operand : TypedExpr) → expr.form ≡ form.Un op operand → (r : ℕ) (mid : Names) (b : List Inst)
      → (can_be_lowered basis operand ≡ true → Values basis operand r old mid a b) → ((shapes : List Shape) → Computes shapes (λ seen now. applied_un op (now.regs r)) to mid new b z) → HasValue expr
  un_value expr op operand is r mid b has computes = of_form HasValue expr (form.Un op operand) is (λ h.
      let all = values-more basis [] [] operand r old old mid a a b (values-none basis old a) (has (sym (fits-Un basis expr.ty op operand) ∙ h)) in
      values-computed basis (operand ∷ []) (r ∷ []) (record { ty = expr.ty; form = form.Un op operand }) to old mid new a b z (λ seen now. applied_un op (now.regs r)) all (computes basis.shapes)
      (λ world is at point now moved shows.
      let one : moved.regs r ≡ expr_word world now operand = ap (λ (words : List ℕ). get_or words 0 0) shows.hold in
      let value = value-Un world now expr.ty op operand in
      (ap (applied_un op) one ∙ sym value, subst IsWord (sym value) (is.applied_un op (expr_word world now operand)))))

  pub bin_value : (expr : TypedExpr) (op : BinOp) (left right : TypedExpr) → expr.form ≡ form.Bin op left right → (r s : ℕ) (m n : Names) (b c : List Inst)
      → (can_be_lowered basis left ≡ true → Values basis left r old m a b) → (can_be_lowered basis right ≡ true → Values basis right s m n b c)
      → ((shapes : List Shape) → Computes shapes (λ seen now. applied op left.ty (now.regs r) (now.regs s)) to n new c z) → HasValue expr
  bin_value expr op left right is r s m n b c has_left has_right computes = of_form HasValue expr (form.Bin op left right) is (λ h.
      let parts = and_parts (can_be_lowered basis left) (can_be_lowered basis right) (sym (fits-Bin basis expr.ty op left right) ∙ h) in
      let one = values-more basis [] [] left r old old m a a b (values-none basis old a) (has_left parts.0) in
      let all = values-more basis (left ∷ []) (r ∷ []) right s old m n a b c one (has_right parts.1) in
      values-computed basis (left ∷ right ∷ []) (r ∷ s ∷ []) (record { ty = expr.ty; form = form.Bin op left right }) to old n new a c z (λ seen now. applied op left.ty (now.regs r) (now.regs s)) all (computes basis.shapes)
      (λ world is at point now moved shows.
      let first : moved.regs r ≡ expr_word world now left = ap (λ (words : List ℕ). get_or words 0 0) shows.hold in
      let second : moved.regs s ≡ expr_word world now right = ap (λ (words : List ℕ). get_or words 1 0) shows.hold in
      let value = value-Bin world now expr.ty op left right in
      let rest = All-tail IsWord (expr_word world now left) (expr_word world now right ∷ []) shows.small in (
        ap (λ (word : ℕ). applied op left.ty word (moved.regs s)) first ∙ (ap (λ (word : ℕ). applied op left.ty (expr_word world now left) word) second ∙ sym value),
        subst IsWord (sym value) (is.applied op left.ty (expr_word world now left) (expr_word world now right) (All-head IsWord (expr_word world now left) (expr_word world now right ∷ []) shows.small) (All-head IsWord (expr_word world now right) [] rest)),
      )))

  pub mulq_value : (expr x y shift : TypedExpr) → expr.form ≡ form.Mulq x y shift → (r s t : ℕ) (k m n : Names) (b c d : List Inst)
      → (can_be_lowered basis x ≡ true → Values basis x r old k a b) → (can_be_lowered basis y ≡ true → Values basis y s k m b c) → (can_be_lowered basis shift ≡ true → Values basis shift t m n c d)
      → ((shapes : List Shape) → Computes shapes (λ seen now. mulq_of (now.regs r) (now.regs s) (now.regs t)) to n new d z) → HasValue expr
  mulq_value expr x y shift is r s t k m n b c d has_x has_y has_shift computes = of_form HasValue expr (form.Mulq x y shift) is (λ h.
      let parts = and_parts (can_be_lowered basis x) (can_be_lowered basis y && can_be_lowered basis shift) (sym (fits-Mulq basis expr.ty x y shift) ∙ h) in
      let more = and_parts (can_be_lowered basis y) (can_be_lowered basis shift) parts.1 in
      let one = values-more basis [] [] x r old old k a a b (values-none basis old a) (has_x parts.0) in
      let two = values-more basis (x ∷ []) (r ∷ []) y s old k m a b c one (has_y more.0) in
      let all = values-more basis (x ∷ y ∷ []) (r ∷ s ∷ []) shift t old m n a c d two (has_shift more.1) in
      values-computed basis (x ∷ y ∷ shift ∷ []) (r ∷ s ∷ t ∷ []) (record { ty = expr.ty; form = form.Mulq x y shift }) to old n new a d z (λ seen now. mulq_of (now.regs r) (now.regs s) (now.regs t)) all (computes basis.shapes)
      (λ world is at point now moved shows.
      let first : moved.regs r ≡ expr_word world now x = ap (λ (words : List ℕ). get_or words 0 0) shows.hold in
      let second : moved.regs s ≡ expr_word world now y = ap (λ (words : List ℕ). get_or words 1 0) shows.hold in
      let third : moved.regs t ≡ expr_word world now shift = ap (λ (words : List ℕ). get_or words 2 0) shows.hold in
      let value = value-Mulq world now expr.ty x y shift in (
        ap (λ (word : ℕ). mulq_of word (moved.regs s) (moved.regs t)) first
            ∙ (ap (λ (word : ℕ). mulq_of (expr_word world now x) word (moved.regs t)) second
            ∙ (ap (λ (word : ℕ). mulq_of (expr_word world now x) (expr_word world now y) word) third ∙ sym value)),
        subst IsWord (sym value) (is.mulq (expr_word world now x) (expr_word world now y) (expr_word world now shift)),
      )))

-- the same of results
module _ (basis : Basis) (old new : Names) (a z : List Inst) where
  abbrev HasValues : Result ℕ Memory → TypedExpr → Type 0
  HasValues result expr = IfOk result (λ to. can_be_lowered basis expr ≡ true → Values basis expr to old new a z)

  pub literal_ok : (result : Result ℕ Memory) (expr : TypedExpr) (word : ℕ) → expr.form ≡ form.Literal word → word < 2 ^ 32 → IfOk result (λ to. (shapes : List Shape) → Computes shapes (λ seen now. word) to old new a z) → HasValues result expr
  literal_ok (Ok to) expr word is small computes = literal_value basis to old new a z expr word is small computes
  literal_ok (Err e) expr word is small computes = tt

  pub constant_ok : (result : Result ℕ Memory) (expr : TypedExpr) (word : ℕ) → expr.form ≡ form.Constant word → word < 2 ^ 32 → IfOk result (λ to. (shapes : List Shape) → Computes shapes (λ seen now. word) to old new a z) → HasValues result expr
  constant_ok (Ok to) expr word is small computes = constant_value basis to old new a z expr word is small computes
  constant_ok (Err e) expr word is small computes = tt

  pub var_ok : (result : Result ℕ Memory) (expr : TypedExpr) (var : ℕ) → expr.form ≡ form.Var var → IfOk result (λ to. (shapes : List Shape) → Computes shapes (λ seen now. now.vars var) to old new a z) → HasValues result expr
  var_ok (Ok to) expr var is computes = var_value basis to old new a z expr var is computes
  var_ok (Err e) expr var is computes = tt

  pub paren_ok : (result : Result ℕ Memory) (expr inner : TypedExpr) → expr.form ≡ form.Paren inner → HasValues result inner → HasValues result expr
  paren_ok (Ok to) expr inner is has = paren_value basis to old new a z expr inner is has
  paren_ok (Err e) expr inner is has = tt

  pub convert_ok : (result : Result ℕ Memory) (expr inner : TypedExpr) → expr.form ≡ form.Convert inner → HasValues result inner → HasValues result expr
  convert_ok (Ok to) expr inner is has = convert_value basis to old new a z expr inner is has
  convert_ok (Err e) expr inner is has = tt

  pub read_form_ok : (result : Result ℕ Memory) (expr : TypedExpr) (layout place : ℕ) (index : List TypedExpr) → expr.form ≡ form.Read layout place index → HasValues result (typed_read expr.ty layout place index) → HasValues result expr
  read_form_ok result expr layout place index is has = of_form (HasValues result) expr (form.Read layout place index) is has

  pub active_form_ok : (result : Result ℕ Memory) (expr : TypedExpr) (layout : ℕ) (index : List TypedExpr) → expr.form ≡ form.Active layout index → HasValues result (typed_active expr.ty layout index) → HasValues result expr
  active_form_ok result expr layout index is has = of_form (HasValues result) expr (form.Active layout index) is has

  pub un_ok : (result : Result ℕ Memory) (expr : TypedExpr) (op : UnOp) (operand : TypedExpr) → expr.form ≡ form.Un op operand → (r : ℕ) (mid : Names) (b : List Inst)
      → (can_be_lowered basis operand ≡ true → Values basis operand r old mid a b) → IfOk result (λ to. (shapes : List Shape) → Computes shapes (λ seen now. applied_un op (now.regs r)) to mid new b z) → HasValues result expr
  un_ok (Ok to) expr op operand is r mid b has computes = un_value basis to old new a z expr op operand is r mid b has computes
  un_ok (Err e) expr op operand is r mid b has computes = tt

  pub bin_ok : (result : Result ℕ Memory) (expr : TypedExpr) (op : BinOp) (left right : TypedExpr) → expr.form ≡ form.Bin op left right → (r s : ℕ) (m n : Names) (b c : List Inst)
      → (can_be_lowered basis left ≡ true → Values basis left r old m a b) → (can_be_lowered basis right ≡ true → Values basis right s m n b c)
      → IfOk result (λ to. (shapes : List Shape) → Computes shapes (λ seen now. applied op left.ty (now.regs r) (now.regs s)) to n new c z) → HasValues result expr
  bin_ok (Ok to) expr op left right is r s m n b c has_left has_right computes = bin_value basis to old new a z expr op left right is r s m n b c has_left has_right computes
  bin_ok (Err e) expr op left right is r s m n b c has_left has_right computes = tt

  pub mulq_ok : (result : Result ℕ Memory) (expr x y shift : TypedExpr) → expr.form ≡ form.Mulq x y shift → (r s t : ℕ) (k m n : Names) (b c d : List Inst)
      → (can_be_lowered basis x ≡ true → Values basis x r old k a b) → (can_be_lowered basis y ≡ true → Values basis y s k m b c) → (can_be_lowered basis shift ≡ true → Values basis shift t m n c d)
      → IfOk result (λ to. (shapes : List Shape) → Computes shapes (λ seen now. mulq_of (now.regs r) (now.regs s) (now.regs t)) to n new d z) → HasValues result expr
  mulq_ok (Ok to) expr x y shift is r s t k m n b c d has_x has_y has_shift computes = mulq_value basis to old new a z expr x y shift is r s t k m n b c d has_x has_y has_shift computes
  mulq_ok (Err e) expr x y shift is r s t k m n b c d has_x has_y has_shift computes = tt
