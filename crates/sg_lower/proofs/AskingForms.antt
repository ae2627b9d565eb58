-- Which layouts the code of expressions asks.
use Rattle.std.proofs.Common.{◌≡◌, ℕ, Bool, true, ◌&&◌, List, [], ◌∷◌, ◌++◌, Option, Some, Result, Ok, Err, IfOk, sym, ap, subst, ◌∙◌}
use Rattle.std.specs.List.{list_all}
use Rattle.std.proofs.lemmas.Bool.{and_parts, and_from}
use Rattle.std.proofs.lemmas.List.{append-nil}
use Rattle.std.proofs.lemmas.List.Folds.{list_all-append, list_all-map}
use Rattle.sg_words.specs.declared.operators.Ty.{Ty}
use Rattle.sg_words.specs.declared.operators.BinOp.{BinOp}
use Rattle.sg_words.specs.declared.operators.UnOp.{UnOp}
use Rattle.sg_words.specs.declared.memory.Memory.{Memory}
use Rattle.sg_types.specs.declared.typed.TypedExpr.{TypedExpr}
use Rattle.sg_types.specs.declared.typed.Form.TheVariants as form
use Rattle.sg_types.specs.declared.typed.Form.TheOpen.{TypedExpr-F}
use Rattle.sg_types.proofs.Uses as folds
use Rattle.sg_admit.specs.Rules.{asks_step, has_good_asks}
use Rattle.sg_ir.specs.declared.code.Inst.{Inst}
use Rattle.sg_ir.specs.declared.code.Inst.TheVariants as v
use Rattle.sg_ir.specs.declared.names.Names.{Names}
use Rattle.sg_ir.specs.Emits.{PutsReg, PutsPlace}
use Rattle.sg_ir.specs.Trimmed.{Ways, way_of, listed}
use Rattle.sg_ir.specs.Trails.{trail, asked_by, ways_after}
use Rattle.sg_ir.proofs.Uses.{asked-more, trail-Un, trail-Bin, trail-Mulq, trail-ReadCell, trail-IsActive}
use Rattle.sg_lower.specs.steps.Fitting.{typed_active, typed_read}
use Rattle.sg_lower.specs.steps.Asking.{KeepsGood, AsksExpr, AsksExprs}
use Rattle.sg_lower.proofs.Forms.{of_form}

abbrev its_asks : TypedExpr-F Bool Bool → Bool
its_asks expr = expr.form

-- what an instruction asks
abbrev pub asks_of : Inst → Ways → List ℕ
asks_of inst ways = (trail inst ways).0

-- ---- one instruction more

-- one that asks good layouts alone
pub keeps-more : (good : ℕ → Bool) (inst : Inst) (b z : List Inst) → z ≡ b ++ inst ∷ [] → ((ways : Ways) → list_all good (asks_of inst (ways_after b ways)) ≡ true) → KeepsGood good b z
keeps-more good inst b z pushed asks ways h =
    ap (λ (block : List Inst). list_all good (asked_by block ways)) pushed
    ∙ (ap (list_all good) (asked-more b inst ways)
    ∙ (list_all-append good (asked_by b ways) (asks_of inst (ways_after b ways)) ∙ and_from (list_all good (asked_by b ways)) (list_all good (asks_of inst (ways_after b ways))) h (asks ways)))

-- one that asks nothing
pub keeps-quiet : (good : ℕ → Bool) (inst : Inst) (b z : List Inst) → z ≡ b ++ inst ∷ [] → ((ways : Ways) → asks_of inst ways ≡ []) → KeepsGood good b z
keeps-quiet good inst b z pushed quiet = keeps-more good inst b z pushed (λ ways. ap (list_all good) (quiet (ways_after b ways)))

pub keeps-trans : (good : ℕ → Bool) (a b c : List Inst) → KeepsGood good a b → KeepsGood good b c → KeepsGood good a c
keeps-trans good a b c one two ways h = two ways (one ways h)

-- code that asks as much
pub asks-same : (good : ℕ → Bool) (b c : List Inst) → ((ways : Ways) → asked_by c ways ≡ asked_by b ways) → KeepsGood good b c
asks-same good b c same ways h = ap (list_all good) (same ways) ∙ h

-- a place that one instruction sets, which asks nothing
pub quiet_place : (result : Result ℕ Memory) (inst : ℕ → Inst) (old new : Names) (b z : List Inst) → ((to : ℕ) (ways : Ways) → asks_of (inst to) ways ≡ [])
    → IfOk result (λ to. PutsPlace inst to old new b z) → IfOk result (λ to. (ways : Ways) → asked_by z ways ≡ asked_by b ways)
quiet_place (Ok to) inst old new b z quiet puts = λ ways.
    ap (λ (block : List Inst). asked_by block ways) puts.block
    ∙ (asked-more b (inst to) ways ∙ (ap (λ (more : List ℕ). asked_by b ways ++ more) (quiet to (ways_after b ways)) ∙ append-nil (asked_by b ways)))
quiet_place (Err e) inst old new b z quiet puts = tt

-- ---- what expressions ask

module _ (good : ℕ → Bool) (given : Ty) where
  asks-Paren : (inner : TypedExpr) → has_good_asks good (record { ty = given; form = form.Paren inner }) ≡ has_good_asks good inner
  asks-Paren inner = folds.fold-Paren (asks_step good) its_asks given inner

  asks-Convert : (inner : TypedExpr) → has_good_asks good (record { ty = given; form = form.Convert inner }) ≡ has_good_asks good inner
  asks-Convert inner = folds.fold-Convert (asks_step good) its_asks given inner

  asks-Un : (op : UnOp) (operand : TypedExpr) → has_good_asks good (record { ty = given; form = form.Un op operand }) ≡ has_good_asks good operand
  asks-Un op operand = folds.fold-Un (asks_step good) its_asks given op operand

  asks-Bin : (op : BinOp) (left right : TypedExpr) → has_good_asks good (record { ty = given; form = form.Bin op left right }) ≡ (has_good_asks good left && has_good_asks good right)
  asks-Bin op left right = folds.fold-Bin (asks_step good) its_asks given op left right

  asks-Mulq : (x y w : TypedExpr) → has_good_asks good (record { ty = given; form = form.Mulq x y w }) ≡ (has_good_asks good x && (has_good_asks good y && has_good_asks good w))
  asks-Mulq x y w = folds.fold-Mulq (asks_step good) its_asks given x y w

  asks-Read : (layout place : ℕ) (index : List TypedExpr) → has_good_asks good (typed_read given layout place index) ≡ list_all (has_good_asks good) index
  asks-Read layout place index = folds.fold-Read (asks_step good) its_asks given layout place index ∙ list_all-map (λ (part : Bool). part) (has_good_asks good) index

  asks-Active : (layout : ℕ) (index : List TypedExpr) → has_good_asks good (typed_active given layout index) ≡ (good layout && list_all (has_good_asks good) index)
  asks-Active layout index =
      folds.fold-Active (asks_step good) its_asks given layout index ∙ ap (λ (b : Bool). good layout && b) (list_all-map (λ (part : Bool). part) (has_good_asks good) index)

-- ---- expressions, as results of the code

module _ (result : Result ℕ Memory) (new : Names) (a z : List Inst) where
  abbrev AsksBy : TypedExpr → Type 0
  AsksBy expr = IfOk result (λ to. AsksExpr expr a z)

  pub paren_asks : (expr inner : TypedExpr) → expr.form ≡ form.Paren inner → AsksBy inner → AsksBy expr
  paren_asks expr inner is has = of_form AsksBy expr (form.Paren inner) is (by_result result has)
    where
      by_result : (it : Result ℕ Memory) → IfOk it (λ to. AsksExpr inner a z) → IfOk it (λ to. AsksExpr (record { ty = expr.ty; form = form.Paren inner }) a z)
      by_result (Ok to) asks = λ good h. asks good (sym (asks-Paren good expr.ty inner) ∙ h)
      by_result (Err e) asks = tt

  pub convert_asks : (expr inner : TypedExpr) → expr.form ≡ form.Convert inner → AsksBy inner → AsksBy expr
  convert_asks expr inner is has = of_form AsksBy expr (form.Convert inner) is (by_result result has)
    where
      by_result : (it : Result ℕ Memory) → IfOk it (λ to. AsksExpr inner a z) → IfOk it (λ to. AsksExpr (record { ty = expr.ty; form = form.Convert inner }) a z)
      by_result (Ok to) asks = λ good h. asks good (sym (asks-Convert good expr.ty inner) ∙ h)
      by_result (Err e) asks = tt

  pub read_form_asks : (expr : TypedExpr) (layout place : ℕ) (index given : List TypedExpr) → expr.form ≡ form.Read layout place index → given ≡ index → AsksBy (typed_read expr.ty layout place given) → AsksBy expr
  read_form_asks expr layout place index given is same has = of_form AsksBy expr (form.Read layout place index) is (subst (λ (list : List TypedExpr). AsksBy (typed_read expr.ty layout place list)) same has)

  pub active_form_asks : (expr : TypedExpr) (layout : ℕ) (index given : List TypedExpr) → expr.form ≡ form.Active layout index → given ≡ index → AsksBy (typed_active expr.ty layout given) → AsksBy expr
  active_form_asks expr layout index given is same has = of_form AsksBy expr (form.Active layout index) is (subst (λ (list : List TypedExpr). AsksBy (typed_active expr.ty layout list)) same has)

-- a register is set by one instruction that asks nothing
pub quiet_asks : (result : Result ℕ Memory) (new : Names) (a z : List Inst) (expr : TypedExpr) (given : Ty) (inst : ℕ → Inst) (old : Names) → ((to : ℕ) (ways : Ways) → asks_of (inst to) ways ≡ [])
    → IfOk result (λ to. PutsReg given inst to old new a z) → IfOk result (λ to. AsksExpr expr a z)
quiet_asks (Ok to) new a z expr given inst old quiet puts = λ good h. keeps-quiet good (inst to) a z puts.block (quiet to)
quiet_asks (Err e) new a z expr given inst old quiet puts = tt

pub un_asks : (result : Result ℕ Memory) (new : Names) (a z : List Inst) (expr : TypedExpr) (op : UnOp) (operand : TypedExpr) (given type : Ty) (r : ℕ) (mid : Names) (b : List Inst) → expr.form ≡ form.Un op operand
    → AsksExpr operand a b → IfOk result (λ to. PutsReg given (λ reg. v.Un reg op type r) to mid new b z) → IfOk result (λ to. AsksExpr expr a z)
un_asks (Ok to) new a z expr op operand given type r mid b is has puts = of_form (λ (it : TypedExpr). AsksExpr it a z) expr (form.Un op operand) is (λ good h.
    keeps-trans good a b z (has good (sym (asks-Un good expr.ty op operand) ∙ h))
    (keeps-quiet good (v.Un to op type r) b z puts.block (λ ways. ap (λ (t : List ℕ × Ways). t.0) (trail-Un to op type r ways))))
un_asks (Err e) new a z expr op operand given type r mid b is has puts = tt

pub bin_asks : (result : Result ℕ Memory) (new : Names) (a z : List Inst) (expr : TypedExpr) (op : BinOp) (left right : TypedExpr) (given type : Ty) (r s : ℕ) (mid : Names) (b c : List Inst) → expr.form ≡ form.Bin op left right
    → AsksExpr left a b → AsksExpr right b c → IfOk result (λ to. PutsReg given (λ reg. v.Bin reg op type r s) to mid new c z) → IfOk result (λ to. AsksExpr expr a z)
bin_asks (Ok to) new a z expr op left right given type r s mid b c is one two puts = of_form (λ (it : TypedExpr). AsksExpr it a z) expr (form.Bin op left right) is (λ good h.
    let p = and_parts (has_good_asks good left) (has_good_asks good right) (sym (asks-Bin good expr.ty op left right) ∙ h) in
    keeps-trans good a b z (one good p.0) (keeps-trans good b c z (two good p.1)
    (keeps-quiet good (v.Bin to op type r s) c z puts.block (λ ways. ap (λ (t : List ℕ × Ways). t.0) (trail-Bin to op type r s ways)))))
bin_asks (Err e) new a z expr op left right given type r s mid b c is one two puts = tt

pub mulq_asks : (result : Result ℕ Memory) (new : Names) (a z : List Inst) (expr x y w : TypedExpr) (given : Ty) (r s t : ℕ) (mid : Names) (b c d : List Inst) → expr.form ≡ form.Mulq x y w
    → AsksExpr x a b → AsksExpr y b c → AsksExpr w c d → IfOk result (λ to. PutsReg given (λ reg. v.Mulq reg r s t) to mid new d z) → IfOk result (λ to. AsksExpr expr a z)
mulq_asks (Ok to) new a z expr x y w given r s t mid b c d is one two three puts = of_form (λ (it : TypedExpr). AsksExpr it a z) expr (form.Mulq x y w) is (λ good h.
    let p = and_parts (has_good_asks good x) (has_good_asks good y && has_good_asks good w) (sym (asks-Mulq good expr.ty x y w) ∙ h) in
    let q = and_parts (has_good_asks good y) (has_good_asks good w) p.1 in
    keeps-trans good a b z (one good p.0) (keeps-trans good b c z (two good q.0) (keeps-trans good c d z (three good q.1)
    (keeps-quiet good (v.Mulq to r s t) d z puts.block (λ ways. ap (λ (t : List ℕ × Ways). t.0) (trail-Mulq to r s t ways))))))
mulq_asks (Err e) new a z expr x y w given r s t mid b c d is one two three puts = tt

pub cell_read_asks : (result : Result ℕ Memory) (new : Names) (a z : List Inst) (given : Ty) (layout place : ℕ) (index : List TypedExpr) (regs : List ℕ) (p : ℕ) (mid : Names) (b c : List Inst) → AsksExprs index a b
    → ((ways : Ways) → asked_by c ways ≡ asked_by b ways) → IfOk result (λ to. PutsReg given (λ reg. v.ReadCell reg p layout place regs) to mid new c z) → IfOk result (λ to. AsksExpr (typed_read given layout place index) a z)
cell_read_asks (Ok to) new a z given layout place index regs p mid b c has same puts = λ good h.
    keeps-trans good a b z (has good (sym (asks-Read good given layout place index) ∙ h)) (keeps-trans good b c z (asks-same good b c same)
    (keeps-quiet good (v.ReadCell to p layout place regs) c z puts.block (λ ways. ap (λ (t : List ℕ × Ways). t.0) (trail-ReadCell to p layout place regs ways))))
cell_read_asks (Err e) new a z given layout place index regs p mid b c has same puts = tt

-- a question asks the layout from whose root its place comes
pub active_asks : (result : Result ℕ Memory) (new : Names) (a z : List Inst) (given : Ty) (layout : ℕ) (index : List TypedExpr) (regs : List ℕ) (p : ℕ) (mid : Names) (b c : List Inst) → AsksExprs index a b
    → ((ways : Ways) → asked_by c ways ≡ asked_by b ways) → ((ways : Ways) → (way_of (ways_after c ways) p).root ≡ Some layout)
    → IfOk result (λ to. PutsReg given (λ reg. v.IsActive reg p regs) to mid new c z) → IfOk result (λ to. AsksExpr (typed_active given layout index) a z)
active_asks (Ok to) new a z given layout index regs p mid b c has same comes puts = λ good h.
    let q = and_parts (good layout) (list_all (has_good_asks good) index) (sym (asks-Active good given layout index) ∙ h) in
    keeps-trans good a b z (has good q.1) (keeps-trans good b c z (asks-same good b c same)
    (keeps-more good (v.IsActive to p regs) c z puts.block (λ ways.
    ap (λ (t : List ℕ × Ways). list_all good t.0) (trail-IsActive to p regs (ways_after c ways))
    ∙ (ap (λ (root : Option ℕ). list_all good (listed root)) (comes ways) ∙ ap (λ (b : Bool). b && true) q.0))))
active_asks (Err e) new a z given layout index regs p mid b c has same comes puts = tt

-- index expressions one by one
pub asks_more : (exprs : List TypedExpr) (expr : TypedExpr) (a b c : List Inst) → AsksExprs exprs a b → AsksExpr expr b c → AsksExprs (exprs ++ expr ∷ []) a c
asks_more exprs expr a b c all one = λ good h.
    let p = and_parts (list_all (has_good_asks good) exprs) (has_good_asks good expr && true) (sym (list_all-append (has_good_asks good) exprs (expr ∷ [])) ∙ h) in
    keeps-trans good a b c (all good p.0) (one good (and_parts (has_good_asks good expr) true p.1).0)
