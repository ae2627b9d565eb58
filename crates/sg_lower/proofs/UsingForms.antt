-- How the code of expressions uses fields.
use Rattle.std.proofs.Common.{◌≡◌, ℕ, Bool, true, false, List, [], ◌∷◌, ◌++◌, Result, Ok, Err, IfOk, refl, sym, ap, subst, ◌∙◌, append_assoc}
use Rattle.std.proofs.lemmas.List.{append-nil}
use Rattle.std.proofs.lemmas.List.Concat.{flat_map-append}
use Rattle.std.proofs.lemmas.List.Folds.{flat_map-map}
use Rattle.sg_words.specs.declared.operators.Ty.{Ty}
use Rattle.sg_words.specs.declared.operators.BinOp.{BinOp}
use Rattle.sg_words.specs.declared.operators.UnOp.{UnOp}
use Rattle.sg_words.specs.declared.memory.Memory.{Memory}
use Rattle.sg_types.specs.declared.typed.TypedExpr.{TypedExpr}
use Rattle.sg_types.specs.declared.typed.Form.TheVariants as form
use Rattle.sg_types.specs.declared.typed.Form.TheOpen.{TypedExpr-F}
use Rattle.sg_types.proofs.Uses as folds
use Rattle.sg_ir.specs.declared.code.Inst.{Inst, fold-Inst}
use Rattle.sg_ir.specs.declared.code.Inst.TheVariants as v
use Rattle.sg_ir.specs.declared.names.Names.{Names}
use Rattle.sg_ir.specs.Apt.{Use, Reads, ReadsOwn, uses_step, uses_in}
use Rattle.sg_ir.specs.Emits.{PutsReg}
use Rattle.sg_ir.proofs.Uses.{fold-Const, fold-Var, fold-Bin, fold-Un, fold-Mulq, fold-ReadCell, fold-IsActive, fold-OwnRead, uses-append}
use Rattle.sg_lower.specs.declared.lowering.Field.{Field}
use Rattle.sg_lower.specs.steps.Basis.{is_owned}
use Rattle.sg_lower.specs.steps.Fitting.{typed_active, typed_read}
use Rattle.sg_lower.specs.steps.Using.{read_uses, use_step, expr_uses, all_uses, Uses}
use Rattle.sg_lower.proofs.Forms.{of_form}

pub uses-none : (a b : List Inst) → uses_in b ≡ uses_in a → Uses [] a b
uses-none a b same = same ∙ sym (append-nil (uses_in a))

pub uses-trans : (xs ys : List Use) (a b c : List Inst) → Uses xs a b → Uses ys b c → Uses (xs ++ ys) a c
uses-trans xs ys a b c one two = two ∙ (ap (λ (l : List Use). l ++ ys) one ∙ append_assoc (uses_in a) xs ys)

pub uses-quiet : (xs : List Use) (a b c : List Inst) → Uses xs a b → Uses [] b c → Uses xs a c
uses-quiet xs a b c one two = two ∙ (append-nil (uses_in b) ∙ one)

pub uses-one : (us : List Use) (inst : Inst) (a b : List Inst) → fold-Inst (List Use) uses_step inst ≡ us → b ≡ a ++ inst ∷ [] → Uses us a b
uses-one us inst a b is pushed =
    ap uses_in pushed ∙ (uses-append a (inst ∷ []) ∙ ap (λ (l : List Use). uses_in a ++ l) (append-nil (fold-Inst (List Use) uses_step inst) ∙ is))

-- an emitted instruction after what is used so far
pub put_uses : (more us : List Use) (given : Ty) (inst : ℕ → Inst) (to : ℕ) (mid new : Names) (a b z : List Inst) → fold-Inst (List Use) uses_step (inst to) ≡ us → Uses more a b
    → PutsReg given inst to mid new b z → Uses (more ++ us) a z
put_uses more us given inst to mid new a b z is before puts = uses-trans more us a b z before (uses-one us (inst to) b z is puts.block)

-- one that uses no field
pub quiet_ok : (result : Result ℕ Memory) (more : List Use) (given : Ty) (inst : ℕ → Inst) (mid new : Names) (a b z : List Inst) → ((to : ℕ) → fold-Inst (List Use) uses_step (inst to) ≡ []) → Uses more a b
    → IfOk result (λ to. PutsReg given inst to mid new b z) → IfOk result (λ to. Uses more a z)
quiet_ok (Ok to) more given inst mid new a b z is before puts = uses-quiet more a b z before (uses-one [] (inst to) b z (is to) puts.block)
quiet_ok (Err e) more given inst mid new a b z is before puts = tt

abbrev its_form : TypedExpr-F (List Use) (List Use) → List Use
its_form expr = expr.form

module _ (owned : List Field) where
  pub uses-Read : (given : Ty) (layout place : ℕ) (index : List TypedExpr) → expr_uses owned (typed_read given layout place index) ≡ read_uses (is_owned owned layout place) layout place (all_uses owned index)
  uses-Read given layout place index =
      folds.fold-Read (use_step owned) its_form given layout place index
      ∙ ap (read_uses (is_owned owned layout place) layout place) (flat_map-map (λ (uses : List Use). uses) (expr_uses owned) index)

  pub uses-Active : (given : Ty) (layout : ℕ) (index : List TypedExpr) → expr_uses owned (typed_active given layout index) ≡ all_uses owned index
  uses-Active given layout index = folds.fold-Active (use_step owned) its_form given layout index ∙ flat_map-map (λ (uses : List Use). uses) (expr_uses owned) index

  pub all_uses-push : (exprs : List TypedExpr) (expr : TypedExpr) → all_uses owned (exprs ++ expr ∷ []) ≡ all_uses owned exprs ++ expr_uses owned expr
  all_uses-push exprs expr = flat_map-append (expr_uses owned) exprs (expr ∷ []) ∙ ap (λ (l : List Use). all_uses owned exprs ++ l) (append-nil (expr_uses owned expr))

module _ (owned : List Field) (result : Result ℕ Memory) (new : Names) (a z : List Inst) where
  abbrev IsUsed : List Use → Type 0
  IsUsed us = IfOk result (λ to. Uses us a z)

  abbrev IsUsedBy : TypedExpr → Type 0
  IsUsedBy expr = IsUsed (expr_uses owned expr)

  same_uses : (xs ys : List Use) → xs ≡ ys → IsUsed ys → IsUsed xs
  same_uses xs ys same = subst IsUsed (sym same)

  pub literal_uses : (expr : TypedExpr) (word : ℕ) (given : Ty) (old : Names) → expr.form ≡ form.Literal word → IfOk result (λ to. PutsReg given (λ r. v.Const r word) to old new a z) → IsUsedBy expr
  literal_uses expr word given old is puts = of_form IsUsedBy expr (form.Literal word) is
      (same_uses (expr_uses owned (record { ty = expr.ty; form = form.Literal word })) [] (folds.fold-Literal (use_step owned) its_form expr.ty word)
      (quiet_ok result [] given (λ r. v.Const r word) old new a a z (λ to. fold-Const uses_step to word) (uses-none a a refl) puts))

  pub constant_uses : (expr : TypedExpr) (word : ℕ) (given : Ty) (old : Names) → expr.form ≡ form.Constant word → IfOk result (λ to. PutsReg given (λ r. v.Const r word) to old new a z) → IsUsedBy expr
  constant_uses expr word given old is puts = of_form IsUsedBy expr (form.Constant word) is
      (same_uses (expr_uses owned (record { ty = expr.ty; form = form.Constant word })) [] (folds.fold-Constant (use_step owned) its_form expr.ty word)
      (quiet_ok result [] given (λ r. v.Const r word) old new a a z (λ to. fold-Const uses_step to word) (uses-none a a refl) puts))

  pub var_uses : (expr : TypedExpr) (var : ℕ) (given : Ty) (old : Names) → expr.form ≡ form.Var var → IfOk result (λ to. PutsReg given (λ r. v.Var r var) to old new a z) → IsUsedBy expr
  var_uses expr var given old is puts = of_form IsUsedBy expr (form.Var var) is
      (same_uses (expr_uses owned (record { ty = expr.ty; form = form.Var var })) [] (folds.fold-Var (use_step owned) its_form expr.ty var)
      (quiet_ok result [] given (λ r. v.Var r var) old new a a z (λ to. fold-Var uses_step to var) (uses-none a a refl) puts))

  pub paren_uses : (expr inner : TypedExpr) → expr.form ≡ form.Paren inner → IsUsedBy inner → IsUsedBy expr
  paren_uses expr inner is has = of_form IsUsedBy expr (form.Paren inner) is
      (same_uses (expr_uses owned (record { ty = expr.ty; form = form.Paren inner })) (expr_uses owned inner) (folds.fold-Paren (use_step owned) its_form expr.ty inner) has)

  pub convert_uses : (expr inner : TypedExpr) → expr.form ≡ form.Convert inner → IsUsedBy inner → IsUsedBy expr
  convert_uses expr inner is has = of_form IsUsedBy expr (form.Convert inner) is
      (same_uses (expr_uses owned (record { ty = expr.ty; form = form.Convert inner })) (expr_uses owned inner) (folds.fold-Convert (use_step owned) its_form expr.ty inner) has)

  pub un_uses : (expr : TypedExpr) (op : UnOp) (operand : TypedExpr) (given type : Ty) (r : ℕ) (mid : Names) (b : List Inst) → expr.form ≡ form.Un op operand
      → Uses (expr_uses owned operand) a b → IfOk result (λ to. PutsReg given (λ reg. v.Un reg op type r) to mid new b z) → IsUsedBy expr
  un_uses expr op operand given type r mid b is has puts = of_form IsUsedBy expr (form.Un op operand) is
      (same_uses (expr_uses owned (record { ty = expr.ty; form = form.Un op operand })) (expr_uses owned operand) (folds.fold-Un (use_step owned) its_form expr.ty op operand)
      (quiet_ok result (expr_uses owned operand) given (λ reg. v.Un reg op type r) mid new a b z (λ to. fold-Un uses_step to op type r) has puts))

  pub bin_uses : (expr : TypedExpr) (op : BinOp) (left right : TypedExpr) (given type : Ty) (r s : ℕ) (mid : Names) (b c : List Inst) → expr.form ≡ form.Bin op left right
      → Uses (expr_uses owned left) a b → Uses (expr_uses owned right) b c → IfOk result (λ to. PutsReg given (λ reg. v.Bin reg op type r s) to mid new c z) → IsUsedBy expr
  bin_uses expr op left right given type r s mid b c is one two puts = of_form IsUsedBy expr (form.Bin op left right) is
      (same_uses (expr_uses owned (record { ty = expr.ty; form = form.Bin op left right })) (expr_uses owned left ++ expr_uses owned right) (folds.fold-Bin (use_step owned) its_form expr.ty op left right)
      (quiet_ok result (expr_uses owned left ++ expr_uses owned right) given (λ reg. v.Bin reg op type r s) mid new a c z (λ to. fold-Bin uses_step to op type r s)
      (uses-trans (expr_uses owned left) (expr_uses owned right) a b c one two) puts))

  pub mulq_uses : (expr x y w : TypedExpr) (given : Ty) (r s t : ℕ) (mid : Names) (b c d : List Inst) → expr.form ≡ form.Mulq x y w
      → Uses (expr_uses owned x) a b → Uses (expr_uses owned y) b c → Uses (expr_uses owned w) c d → IfOk result (λ to. PutsReg given (λ reg. v.Mulq reg r s t) to mid new d z) → IsUsedBy expr
  mulq_uses expr x y w given r s t mid b c d is one two three puts = of_form IsUsedBy expr (form.Mulq x y w) is
      (same_uses (expr_uses owned (record { ty = expr.ty; form = form.Mulq x y w })) (expr_uses owned x ++ (expr_uses owned y ++ expr_uses owned w)) (folds.fold-Mulq (use_step owned) its_form expr.ty x y w)
      (quiet_ok result (expr_uses owned x ++ (expr_uses owned y ++ expr_uses owned w)) given (λ reg. v.Mulq reg r s t) mid new a d z (λ to. fold-Mulq uses_step to r s t)
      (uses-trans (expr_uses owned x) (expr_uses owned y ++ expr_uses owned w) a b d one (uses-trans (expr_uses owned y) (expr_uses owned w) b c d two three)) puts))

  pub read_form_uses : (expr : TypedExpr) (layout place : ℕ) (index given : List TypedExpr) → expr.form ≡ form.Read layout place index → given ≡ index → IsUsedBy (typed_read expr.ty layout place given) → IsUsedBy expr
  read_form_uses expr layout place index given is same has = of_form IsUsedBy expr (form.Read layout place index) is
      (subst (λ (list : List TypedExpr). IsUsedBy (typed_read expr.ty layout place list)) same has)

  pub active_form_uses : (expr : TypedExpr) (layout : ℕ) (index given : List TypedExpr) → expr.form ≡ form.Active layout index → given ≡ index → IsUsedBy (typed_active expr.ty layout given) → IsUsedBy expr
  active_form_uses expr layout index given is same has = of_form IsUsedBy expr (form.Active layout index) is
      (subst (λ (list : List TypedExpr). IsUsedBy (typed_active expr.ty layout list)) same has)

  pub active_uses : (given : Ty) (layout : ℕ) (index : List TypedExpr) (regs : List ℕ) (p : ℕ) (mid : Names) (b c : List Inst) → Uses (all_uses owned index) a b → uses_in c ≡ uses_in b
      → IfOk result (λ to. PutsReg given (λ reg. v.IsActive reg p regs) to mid new c z) → IsUsedBy (typed_active given layout index)
  active_uses given layout index regs p mid b c has quiet puts =
      same_uses (expr_uses owned (typed_active given layout index)) (all_uses owned index) (uses-Active owned given layout index)
      (quiet_ok result (all_uses owned index) given (λ reg. v.IsActive reg p regs) mid new a c z (λ to. fold-IsActive uses_step to p regs) (uses-quiet (all_uses owned index) a b c has (uses-none b c quiet)) puts)

  pub own_read_uses : (given : Ty) (layout place : ℕ) (index : List TypedExpr) (old : Names) → is_owned owned layout place ≡ true → IfOk result (λ to. PutsReg given (λ reg. v.OwnRead reg layout place) to old new a z)
      → IsUsedBy (typed_read given layout place index)
  own_read_uses given layout place index old own puts =
      same_uses (expr_uses owned (typed_read given layout place index)) (ReadsOwn layout place ∷ [])
      (uses-Read owned given layout place index ∙ ap (λ (b : Bool). read_uses b layout place (all_uses owned index)) own) (by_result result puts)
    where
      by_result : (it : Result ℕ Memory) → IfOk it (λ to. PutsReg given (λ reg. v.OwnRead reg layout place) to old new a z) → IfOk it (λ to. Uses (ReadsOwn layout place ∷ []) a z)
      by_result (Ok to) h = uses-one (ReadsOwn layout place ∷ []) (v.OwnRead to layout place) a z (fold-OwnRead uses_step to layout place) h.block
      by_result (Err e) h = tt

  pub cell_read_uses : (given : Ty) (layout place : ℕ) (index : List TypedExpr) (regs : List ℕ) (p : ℕ) (mid : Names) (b c : List Inst) → is_owned owned layout place ≡ false → Uses (all_uses owned index) a b → uses_in c ≡ uses_in b
      → IfOk result (λ to. PutsReg given (λ reg. v.ReadCell reg p layout place regs) to mid new c z) → IsUsedBy (typed_read given layout place index)
  cell_read_uses given layout place index regs p mid b c own has quiet puts =
      same_uses (expr_uses owned (typed_read given layout place index)) (all_uses owned index ++ Reads layout place ∷ [])
      (uses-Read owned given layout place index ∙ ap (λ (b : Bool). read_uses b layout place (all_uses owned index)) own) (by_result result puts)
    where
      by_result : (it : Result ℕ Memory) → IfOk it (λ to. PutsReg given (λ reg. v.ReadCell reg p layout place regs) to mid new c z) → IfOk it (λ to. Uses (all_uses owned index ++ Reads layout place ∷ []) a z)
      by_result (Ok to) h = put_uses (all_uses owned index) (Reads layout place ∷ []) given (λ reg. v.ReadCell reg p layout place regs) to mid new a c z (fold-ReadCell uses_step to p layout place regs)
          (uses-quiet (all_uses owned index) a b c has (uses-none b c quiet)) h
      by_result (Err e) h = tt
