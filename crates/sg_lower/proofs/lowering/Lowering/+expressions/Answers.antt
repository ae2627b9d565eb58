use Rattle.std.proofs.Common.{◌≡◌, true, ℕ, ◌+◌, ◌<◌, List, [], ◌∷◌, ◌++◌, length, take, All, refl, sym, ap, subst, ◌∙◌, arith}
use Rattle.std.proofs.lemmas.List.{take_all, length_push}
use Rattle.sg_types.specs.declared.typed.TypedExpr.{TypedExpr}
use Rattle.sg_types.specs.declared.typed.Form.TheVariants as form
use Rattle.sg_lower.specs.steps.Agreeing.{AllValues}
use Rattle.sg_ir.specs.Runs.{named_by}
use Rattle.sg_ir.specs.Places.{place_at}
use Rattle.sg_ir.specs.Emits.{LeadsToPlace}
use Rattle.sg_types.specs.Expressions.{equals_some}
use Rattle.sg_types.specs.WellTyped.{axes_in}
use Rattle.sg_ir.specs.Apt.{Use}
use Rattle.sg_lower.specs.steps.Basis.{basis_of}
use Rattle.sg_lower.specs.steps.Using.{expr_uses, all_uses, Uses}
use Rattle.sg_lower.specs.steps.Asking.{AsksExprs}
use Rattle.sg_lower.specs.steps.Typing.{IsCell, AddsIndex}
use Rattle.sg_ir.specs.WellTyped.{sets_step}
use Rattle.sg_ir.specs.EmitTypes.{Adds, CanRead}
use Rattle.sg_ir.specs.declared.code.Inst.TheVariants as v
use Rattle.sg_ir.specs.Trimmed.{Ways}
use Rattle.sg_ir.proofs.Uses.{trail-Const, trail-Var, trail-OwnRead}
use Rattle.sg_ir.proofs.Uses.{fold-Const, fold-Var, fold-Bin, fold-Un, fold-Mulq, fold-ReadCell, fold-IsActive, fold-OwnRead}
use Rattle.sg_lower.proofs.SettingVars.{vars_kept}
use Rattle.sg_lower.proofs.TypingForms.{const_ok, var_typed, paren_typed, convert_typed, un_typed, bin_typed, mulq_typed, own_read_typed, cell_read_typed, read_form_typed, active_typed, active_form_typed, index_more}
use Rattle.sg_lower.proofs.Simulating.{values-more}
use Rattle.sg_lower.proofs.Turns.{item_holds, take_item, grows-trans, named-more}
use Rattle.sg_lower.proofs.Forms.{literal_ok, constant_ok, var_ok, paren_ok, convert_ok, un_ok, bin_ok, mulq_ok, active_form_ok}
use Rattle.sg_lower.specs.steps.Fitting.{can_be_lowered}
use Rattle.sg_lower.proofs.CellReads.{own_read_ok, read_ok, active_ok}
use Rattle.sg_lower.proofs.UsingForms.{uses-trans, all_uses-push, literal_uses, constant_uses, var_uses, paren_uses, convert_uses, un_uses, bin_uses, mulq_uses, read_form_uses, own_read_uses, cell_read_uses, active_form_uses, active_uses}
use Rattle.sg_lower.proofs.AskingForms.{quiet_asks, paren_asks, convert_asks, un_asks, bin_asks, mulq_asks, read_form_asks, cell_read_asks, active_form_asks, active_asks, asks_more}
use Rattle.sg_lower.proofs.lowering.Lowering.+expressions.Goals as goal

pub expr-returns-in-Literal-clause-values : goal.expr-returns-in-Literal-clause-values
expr-returns-in-Literal-clause-values t c = literal_ok (basis_of c.args.layouts.now c.args.self.now) _ _ _ _ c.constant.result c.args.expr.now c.in-Literal.word c.in-Literal.is c.constant.ensures.small c.constant.ensures.computes

pub expr-returns-in-Constant-clause-values : goal.expr-returns-in-Constant-clause-values
expr-returns-in-Constant-clause-values t c = constant_ok (basis_of c.args.layouts.now c.args.self.now) _ _ _ _ c.constant-in-Constant.result c.args.expr.now c.in-Constant.word c.in-Constant.is c.constant-in-Constant.ensures.small c.constant-in-Constant.ensures.computes

pub expr-returns-in-Var-clause-values : goal.expr-returns-in-Var-clause-values
expr-returns-in-Var-clause-values t c = var_ok (basis_of c.args.layouts.now c.args.self.now) _ _ _ _ c.variable.result c.args.expr.now c.in-Var.var c.in-Var.is c.variable.ensures.computes

pub expr-returns-in-Paren-clause-values : goal.expr-returns-in-Paren-clause-values
expr-returns-in-Paren-clause-values t c = paren_ok (basis_of c.args.layouts.now c.args.self.now) _ _ _ _ c.expr.result c.args.expr.now c.get.result.now (c.in-Paren.is ∙ ap form.Paren (sym c.get.ensures)) c.expr.ensures.values

pub expr-returns-in_ok-a-in-Un-clause-values : goal.expr-returns-in_ok-a-in-Un-clause-values
expr-returns-in_ok-a-in-Un-clause-values t c =
    un_ok (basis_of c.args.layouts.now c.args.self.now) _ _ _ _ c.unary.result c.args.expr.now c.in-Un.op c.get-of.result.now (c.in-Un.is ∙ ap (form.Un c.in-Un.op) (sym c.get-of.ensures))
    c.in_ok-a-in-Un.a _ _ c.in_ok-a-in-Un.ensures.values c.unary.ensures.computes

pub expr-returns-in_ok-b-in-Bin-clause-values : goal.expr-returns-in_ok-b-in-Bin-clause-values
expr-returns-in_ok-b-in-Bin-clause-values t c =
    let i = c.in-Bin in
    bin_ok (basis_of c.args.layouts.now c.args.self.now) _ _ _ _ c.binary.result c.args.expr.now i.op c.get-left.result.now c.get-right.result.now
    (i.is ∙ (ap (λ (x : TypedExpr). form.Bin i.op x i.right) (sym c.get-left.ensures) ∙ ap (λ (x : TypedExpr). form.Bin i.op c.get-left.result.now x) (sym c.get-right.ensures)))
    c.in_ok-a-in-Bin.a c.in_ok-b-in-Bin.b _ _ _ _ c.in_ok-a-in-Bin.ensures.values c.in_ok-b-in-Bin.ensures.values c.binary.ensures.computes

pub expr-returns-in_ok-s-in-Mulq-clause-values : goal.expr-returns-in_ok-s-in-Mulq-clause-values
expr-returns-in_ok-s-in-Mulq-clause-values t c =
    let i = c.in-Mulq in
    mulq_ok (basis_of c.args.layouts.now c.args.self.now) _ _ _ _ c.product.result c.args.expr.now c.get-in-Mulq.result.now c.get-in-Mulq-2.result.now c.get-in-Mulq-3.result.now
    (i.is ∙ (ap (λ (x : TypedExpr). form.Mulq x i.b i.s) (sym c.get-in-Mulq.ensures) ∙ (ap (λ (x : TypedExpr). form.Mulq c.get-in-Mulq.result.now x i.s) (sym c.get-in-Mulq-2.ensures) ∙ ap (λ (x : TypedExpr). form.Mulq c.get-in-Mulq.result.now c.get-in-Mulq-2.result.now x) (sym c.get-in-Mulq-3.ensures))))
    c.in_ok-a-in-Mulq.a c.in_ok-b-in-Mulq.b c.in_ok-s-in-Mulq.s _ _ _ _ _ _ c.in_ok-a-in-Mulq.ensures.values c.in_ok-b-in-Mulq.ensures.values c.in_ok-s-in-Mulq.ensures.values c.product.ensures.computes

pub expr-returns-in-Convert-clause-values : goal.expr-returns-in-Convert-clause-values
expr-returns-in-Convert-clause-values t c = convert_ok (basis_of c.args.layouts.now c.args.self.now) _ _ _ _ c.expr-in-Convert.result c.args.expr.now c.get-in-Convert.result.now (c.in-Convert.is ∙ ap form.Convert (sym c.get-in-Convert.ensures)) c.expr-in-Convert.ensures.values

pub indices-loop-part-preserved : goal.indices-loop-part-preserved
indices-loop-part-preserved t c =
    let basis = basis_of c.args.layouts.now c.args.self.now in
    let before = c.loop-part.invariant in
    let grows = c.in_ok-expr.ensures.grows in
    let pushed = c.in_ok-push.ensures.ok in
    let regs = c.loop-part.regs in
    let to = c.in_ok-expr.field-0 in
    record {
      grows = grows-trans c.args.names.now c.loop-part.names c.expr.new.names before.grows grows.0;
      named = subst (λ (all : List ℕ). All (λ r. r < length c.expr.new.names.regs) all) (sym pushed) (named-more c.loop-part.names c.expr.new.names regs to grows.0 grows.1 before.named);
      count = ap length pushed ∙ (length_push regs to ∙ ap (λ (n : ℕ). n + 1) before.count);
      values = λ h.
          let item = item_holds (can_be_lowered basis) c.args.index.now c.loop-part.part-index c.part-item.result c.loop-part-test.true c.part-item.is h in
          let more = values-more basis (take c.loop-part.part-index c.args.index.now) regs c.part-item.result to c.args.names.now c.loop-part.names c.expr.new.names c.args.block.now c.loop-part.block c.expr.new.block (before.values h) (c.in_ok-expr.ensures.values item) in
          subst (λ (all : List ℕ). AllValues basis (take (c.loop-part.part-index + 1) c.args.index.now) all c.args.names.now c.expr.new.names c.args.block.now c.expr.new.block) (sym pushed)
          (subst (λ (done : List TypedExpr). AllValues basis done (regs ++ to ∷ []) c.args.names.now c.expr.new.names c.args.block.now c.expr.new.block) (sym (take_item c.args.index.now c.loop-part.part-index c.part-item.result c.loop-part-test.true c.part-item.is)) more);
      uses = subst (λ (done : List TypedExpr). Uses (all_uses basis.owned done) c.args.block.now c.expr.new.block) (sym (take_item c.args.index.now c.loop-part.part-index c.part-item.result c.loop-part-test.true c.part-item.is))
          (subst (λ (us : List Use). Uses us c.args.block.now c.expr.new.block) (sym (all_uses-push basis.owned (take c.loop-part.part-index c.args.index.now) c.part-item.result))
          (uses-trans (all_uses basis.owned (take c.loop-part.part-index c.args.index.now)) (expr_uses basis.owned c.part-item.result) c.args.block.now c.loop-part.block c.expr.new.block before.uses c.in_ok-expr.ensures.uses));
      asks = subst (λ (done : List TypedExpr). AsksExprs done c.args.block.now c.expr.new.block) (sym (take_item c.args.index.now c.loop-part.part-index c.part-item.result c.loop-part-test.true c.part-item.is))
          (asks_more (take c.loop-part.part-index c.args.index.now) c.part-item.result c.args.block.now c.loop-part.block c.expr.new.block before.asks c.in_ok-expr.ensures.asks);
      typed = subst (λ (all : List ℕ). AddsIndex c.args.layouts.now.list (take (c.loop-part.part-index + 1) c.args.index.now) all c.args.names.now c.expr.new.names c.args.block.now c.expr.new.block) (sym pushed)
          (subst (λ (done : List TypedExpr). AddsIndex c.args.layouts.now.list done (regs ++ to ∷ []) c.args.names.now c.expr.new.names c.args.block.now c.expr.new.block) (sym (take_item c.args.index.now c.loop-part.part-index c.part-item.result c.loop-part-test.true c.part-item.is))
          (index_more c.args.layouts.now.list (take c.loop-part.part-index c.args.index.now) c.part-item.result regs to c.args.names.now c.loop-part.names c.expr.new.names c.args.block.now c.loop-part.block c.expr.new.block before.named before.typed c.in_ok-expr.ensures.typed));
      vars = c.in_ok-expr.ensures.vars ∙ before.vars;
    }

pub indices-returns-clause-grows : goal.indices-returns-clause-grows
indices-returns-clause-grows t c = (c.loop-part.invariant.grows, c.loop-part.invariant.named)

pub indices-returns-clause-count : goal.indices-returns-clause-count
indices-returns-clause-count t c =
    let count = c.loop-part.invariant.count in
    let below = c.loop-part.auto.part-index-end in
    let past = c.loop-part-test.false in
    omega (arith, count, below, past)

pub indices-returns-clause-values : goal.indices-returns-clause-values
indices-returns-clause-values t c = λ h.
    let basis = basis_of c.args.layouts.now c.args.self.now in
    subst (λ (done : List TypedExpr). AllValues basis done c.loop-part.regs c.args.names.now c.loop-part.names c.args.block.now c.loop-part.block)
    (take_all c.loop-part.part-index c.args.index.now c.loop-part-test.false) (c.loop-part.invariant.values h)

pub read-returns-then-is_owned-clause-values : goal.read-returns-then-is_owned-clause-values
read-returns-then-is_owned-clause-values t c =
    own_read_ok (basis_of c.args.layouts.now c.args.self.now) _ _ _ _ c.own_read.result c.args.ty c.args.layout c.args.place c.args.index.now (sym c.is_owned.ensures ∙ c.if-is_owned.true) c.own_read.ensures.computes

pub read-returns-clause-values : goal.read-returns-clause-values
read-returns-clause-values t c =
    let basis = basis_of c.args.layouts.now c.args.self.now in
    read_ok basis c.args.names.now _ c.args.block.now _ c.read_cell.result c.args.ty c.args.layout c.args.place c.args.index.now c.in_ok-regs.regs c.in_ok-at.at c.indices.new.names c.named_place.new.names c.indices.new.block c.named_place.new.block
    (sym c.is_owned.ensures ∙ c.if-is_owned.false) c.in_ok-regs.ensures.values c.in_ok-regs.ensures.count
    (subst (λ (regs : List ℕ). equals_some (axes_in basis.shapes c.args.layout) (length regs) ≡ true → LeadsToPlace basis.shapes regs (λ seen now. place_at basis.shapes c.args.layout (named_by regs now)) c.args.layout c.in_ok-at.at c.indices.new.names c.named_place.new.names c.indices.new.block c.named_place.new.block) c.as_slice.ensures c.in_ok-at.ensures.leads)
    c.read_cell.ensures.fetches

pub expr-returns-in-Literal-clause-uses : goal.expr-returns-in-Literal-clause-uses
expr-returns-in-Literal-clause-uses t c = literal_uses c.args.self.now.owned c.constant.result _ _ _ c.args.expr.now c.in-Literal.word _ _ c.in-Literal.is c.constant.ensures.puts

pub expr-returns-in-Constant-clause-uses : goal.expr-returns-in-Constant-clause-uses
expr-returns-in-Constant-clause-uses t c = constant_uses c.args.self.now.owned c.constant-in-Constant.result _ _ _ c.args.expr.now c.in-Constant.word _ _ c.in-Constant.is c.constant-in-Constant.ensures.puts

pub expr-returns-in-Var-clause-uses : goal.expr-returns-in-Var-clause-uses
expr-returns-in-Var-clause-uses t c = var_uses c.args.self.now.owned c.variable.result _ _ _ c.args.expr.now c.in-Var.var _ _ c.in-Var.is c.variable.ensures.puts

pub expr-returns-in-Read-clause-uses : goal.expr-returns-in-Read-clause-uses
expr-returns-in-Read-clause-uses t c = read_form_uses c.args.self.now.owned c.read.result c.args.names.now _ _ c.args.expr.now c.in-Read.layout c.in-Read.place c.in-Read.index c.as_slice.result.now c.in-Read.is c.as_slice.ensures c.read.ensures.uses

pub expr-returns-in-Paren-clause-uses : goal.expr-returns-in-Paren-clause-uses
expr-returns-in-Paren-clause-uses t c = paren_uses c.args.self.now.owned c.expr.result c.args.names.now _ _ c.args.expr.now c.get.result.now (c.in-Paren.is ∙ ap form.Paren (sym c.get.ensures)) c.expr.ensures.uses

pub expr-returns-in_ok-a-in-Un-clause-uses : goal.expr-returns-in_ok-a-in-Un-clause-uses
expr-returns-in_ok-a-in-Un-clause-uses t c =
    un_uses c.args.self.now.owned c.unary.result _ _ _ c.args.expr.now c.in-Un.op c.get-of.result.now _ _ c.in_ok-a-in-Un.a _ _ (c.in-Un.is ∙ ap (form.Un c.in-Un.op) (sym c.get-of.ensures)) c.in_ok-a-in-Un.ensures.uses c.unary.ensures.puts

pub expr-returns-in_ok-b-in-Bin-clause-uses : goal.expr-returns-in_ok-b-in-Bin-clause-uses
expr-returns-in_ok-b-in-Bin-clause-uses t c =
    let i = c.in-Bin in
    bin_uses c.args.self.now.owned c.binary.result _ _ _ c.args.expr.now i.op c.get-left.result.now c.get-right.result.now _ _ c.in_ok-a-in-Bin.a c.in_ok-b-in-Bin.b _ _ _
    (i.is ∙ (ap (λ (x : TypedExpr). form.Bin i.op x i.right) (sym c.get-left.ensures) ∙ ap (λ (x : TypedExpr). form.Bin i.op c.get-left.result.now x) (sym c.get-right.ensures)))
    c.in_ok-a-in-Bin.ensures.uses c.in_ok-b-in-Bin.ensures.uses c.binary.ensures.puts

pub expr-returns-in_ok-s-in-Mulq-clause-uses : goal.expr-returns-in_ok-s-in-Mulq-clause-uses
expr-returns-in_ok-s-in-Mulq-clause-uses t c =
    let i = c.in-Mulq in
    mulq_uses c.args.self.now.owned c.product.result _ _ _ c.args.expr.now c.get-in-Mulq.result.now c.get-in-Mulq-2.result.now c.get-in-Mulq-3.result.now _ c.in_ok-a-in-Mulq.a c.in_ok-b-in-Mulq.b c.in_ok-s-in-Mulq.s _ _ _ _
    (i.is ∙ (ap (λ (x : TypedExpr). form.Mulq x i.b i.s) (sym c.get-in-Mulq.ensures) ∙ (ap (λ (x : TypedExpr). form.Mulq c.get-in-Mulq.result.now x i.s) (sym c.get-in-Mulq-2.ensures) ∙ ap (λ (x : TypedExpr). form.Mulq c.get-in-Mulq.result.now c.get-in-Mulq-2.result.now x) (sym c.get-in-Mulq-3.ensures))))
    c.in_ok-a-in-Mulq.ensures.uses c.in_ok-b-in-Mulq.ensures.uses c.in_ok-s-in-Mulq.ensures.uses c.product.ensures.puts

pub expr-returns-in-Convert-clause-uses : goal.expr-returns-in-Convert-clause-uses
expr-returns-in-Convert-clause-uses t c = convert_uses c.args.self.now.owned c.expr-in-Convert.result c.args.names.now _ _ c.args.expr.now c.get-in-Convert.result.now (c.in-Convert.is ∙ ap form.Convert (sym c.get-in-Convert.ensures)) c.expr-in-Convert.ensures.uses

pub indices-returns-clause-uses : goal.indices-returns-clause-uses
indices-returns-clause-uses t c =
    subst (λ (done : List TypedExpr). Uses (all_uses c.args.self.now.owned done) c.args.block.now c.loop-part.block) (take_all c.loop-part.part-index c.args.index.now c.loop-part-test.false) c.loop-part.invariant.uses

pub read-returns-then-is_owned-clause-uses : goal.read-returns-then-is_owned-clause-uses
read-returns-then-is_owned-clause-uses t c =
    own_read_uses c.args.self.now.owned c.own_read.result _ _ _ c.args.ty c.args.layout c.args.place c.args.index.now _ (sym c.is_owned.ensures ∙ c.if-is_owned.true) c.own_read.ensures.puts

pub read-returns-clause-uses : goal.read-returns-clause-uses
read-returns-clause-uses t c =
    cell_read_uses c.args.self.now.owned c.read_cell.result _ _ _ c.args.ty c.args.layout c.args.place c.args.index.now c.in_ok-regs.regs c.in_ok-at.at _ c.indices.new.block c.named_place.new.block
    (sym c.is_owned.ensures ∙ c.if-is_owned.false) c.in_ok-regs.ensures.uses c.in_ok-at.ensures.uses c.read_cell.ensures.puts

-- ---- well typed

pub expr-returns-in-Literal-clause-typed : goal.expr-returns-in-Literal-clause-typed
expr-returns-in-Literal-clause-typed t c = const_ok c.args.layouts.now.list _ _ _ c.args.names.now c.constant.result c.args.expr.now c.in-Literal.word c.constant.ensures.puts

pub expr-returns-in-Constant-clause-typed : goal.expr-returns-in-Constant-clause-typed
expr-returns-in-Constant-clause-typed t c = const_ok c.args.layouts.now.list _ _ _ c.args.names.now c.constant-in-Constant.result c.args.expr.now c.in-Constant.word c.constant-in-Constant.ensures.puts

pub expr-returns-in-Var-clause-typed : goal.expr-returns-in-Var-clause-typed
expr-returns-in-Var-clause-typed t c = var_typed c.args.layouts.now.list _ _ _ c.args.names.now c.variable.result c.args.expr.now c.in-Var.var c.in-Var.is c.variable.ensures.puts

pub expr-returns-in-Read-clause-typed : goal.expr-returns-in-Read-clause-typed
expr-returns-in-Read-clause-typed t c = read_form_typed c.args.layouts.now.list _ _ _ c.args.names.now c.read.result c.args.expr.now c.in-Read.layout c.in-Read.place c.in-Read.index c.as_slice.result.now c.in-Read.is c.as_slice.ensures c.read.ensures.typed

pub expr-returns-in-Paren-clause-typed : goal.expr-returns-in-Paren-clause-typed
expr-returns-in-Paren-clause-typed t c = paren_typed c.args.layouts.now.list _ _ _ c.args.names.now c.expr.result c.args.expr.now c.get.result.now (c.in-Paren.is ∙ ap form.Paren (sym c.get.ensures)) c.expr.ensures.typed

pub expr-returns-in_ok-a-in-Un-clause-typed : goal.expr-returns-in_ok-a-in-Un-clause-typed
expr-returns-in_ok-a-in-Un-clause-typed t c =
    un_typed c.args.layouts.now.list _ _ _ c.args.names.now _ _ c.unary.result c.args.expr.now c.in-Un.op c.get-of.result.now _ c.in_ok-a-in-Un.a (c.in-Un.is ∙ ap (form.Un c.in-Un.op) (sym c.get-of.ensures)) c.in_ok-a-in-Un.ensures.typed c.unary.ensures.puts

pub expr-returns-in_ok-b-in-Bin-clause-typed : goal.expr-returns-in_ok-b-in-Bin-clause-typed
expr-returns-in_ok-b-in-Bin-clause-typed t c =
    let i = c.in-Bin in
    bin_typed c.args.layouts.now.list _ _ _ c.args.names.now _ _ _ _ c.binary.result c.args.expr.now i.op c.get-left.result.now c.get-right.result.now _ c.in_ok-a-in-Bin.a c.in_ok-b-in-Bin.b
    (i.is ∙ (ap (λ (x : TypedExpr). form.Bin i.op x i.right) (sym c.get-left.ensures) ∙ ap (λ (x : TypedExpr). form.Bin i.op c.get-left.result.now x) (sym c.get-right.ensures)))
    c.in_ok-a-in-Bin.ensures.grows.1 c.in_ok-a-in-Bin.ensures.typed c.in_ok-b-in-Bin.ensures.typed c.binary.ensures.puts

pub expr-returns-in_ok-s-in-Mulq-clause-typed : goal.expr-returns-in_ok-s-in-Mulq-clause-typed
expr-returns-in_ok-s-in-Mulq-clause-typed t c =
    let i = c.in-Mulq in
    mulq_typed c.args.layouts.now.list _ _ _ c.args.names.now _ _ _ _ _ _ c.product.result c.args.expr.now c.get-in-Mulq.result.now c.get-in-Mulq-2.result.now c.get-in-Mulq-3.result.now c.in_ok-a-in-Mulq.a c.in_ok-b-in-Mulq.b c.in_ok-s-in-Mulq.s
    (i.is ∙ (ap (λ (x : TypedExpr). form.Mulq x i.b i.s) (sym c.get-in-Mulq.ensures) ∙ (ap (λ (x : TypedExpr). form.Mulq c.get-in-Mulq.result.now x i.s) (sym c.get-in-Mulq-2.ensures) ∙ ap (λ (x : TypedExpr). form.Mulq c.get-in-Mulq.result.now c.get-in-Mulq-2.result.now x) (sym c.get-in-Mulq-3.ensures))))
    c.in_ok-a-in-Mulq.ensures.grows.1 c.in_ok-b-in-Mulq.ensures.grows.1 c.in_ok-b-in-Mulq.ensures.grows.0.regs c.in_ok-a-in-Mulq.ensures.typed c.in_ok-b-in-Mulq.ensures.typed c.in_ok-s-in-Mulq.ensures.typed c.product.ensures.puts

pub expr-returns-in-Convert-clause-typed : goal.expr-returns-in-Convert-clause-typed
expr-returns-in-Convert-clause-typed t c = convert_typed c.args.layouts.now.list _ _ _ c.args.names.now c.expr-in-Convert.result c.args.expr.now c.get-in-Convert.result.now (c.in-Convert.is ∙ ap form.Convert (sym c.get-in-Convert.ensures)) c.expr-in-Convert.ensures.typed

pub indices-returns-clause-typed : goal.indices-returns-clause-typed
indices-returns-clause-typed t c =
    subst (λ (done : List TypedExpr). AddsIndex c.args.layouts.now.list done c.loop-part.regs c.args.names.now c.loop-part.names c.args.block.now c.loop-part.block) (take_all c.loop-part.part-index c.args.index.now c.loop-part-test.false) c.loop-part.invariant.typed

pub indices-returns-clause-vars : goal.indices-returns-clause-vars
indices-returns-clause-vars t c = c.loop-part.invariant.vars

pub read-returns-then-is_owned-clause-typed : goal.read-returns-then-is_owned-clause-typed
read-returns-then-is_owned-clause-typed t c =
    own_read_typed c.args.layouts.now.list _ _ _ c.args.names.now c.own_read.result c.args.ty c.args.layout c.args.place c.args.index.now c.own_read.ensures.puts

pub read-returns-clause-typed : goal.read-returns-clause-typed
read-returns-clause-typed t c =
    let shapes = c.args.layouts.now.list in
    cell_read_typed shapes _ _ _ c.args.names.now c.indices.new.names c.named_place.new.names c.indices.new.block c.named_place.new.block c.read_cell.result c.args.ty c.args.layout c.args.place c.args.index.now c.in_ok-regs.regs c.in_ok-at.at
    c.in_ok-regs.ensures.count c.in_ok-regs.ensures.grows.1 c.in_ok-regs.ensures.typed
    (subst (λ (regs : List ℕ). equals_some (axes_in shapes c.args.layout) (length regs) ≡ true → Adds shapes (CanRead regs) (IsCell c.in_ok-at.at c.args.layout) c.indices.new.names c.named_place.new.names c.indices.new.block c.named_place.new.block) c.as_slice.ensures c.in_ok-at.ensures.typed)
    c.read_cell.ensures.puts

-- ---- no variable is set

pub expr-returns-in-Literal-clause-vars : goal.expr-returns-in-Literal-clause-vars
expr-returns-in-Literal-clause-vars t c = vars_kept c.constant.result _ _ _ _ _ _ _ (λ to. fold-Const sets_step to c.in-Literal.word) refl c.constant.ensures.puts

pub expr-returns-in-Constant-clause-vars : goal.expr-returns-in-Constant-clause-vars
expr-returns-in-Constant-clause-vars t c = vars_kept c.constant-in-Constant.result _ _ _ _ _ _ _ (λ to. fold-Const sets_step to c.in-Constant.word) refl c.constant-in-Constant.ensures.puts

pub expr-returns-in-Var-clause-vars : goal.expr-returns-in-Var-clause-vars
expr-returns-in-Var-clause-vars t c = vars_kept c.variable.result _ _ _ _ _ _ _ (λ to. fold-Var sets_step to c.in-Var.var) refl c.variable.ensures.puts

pub expr-returns-in_ok-a-in-Un-clause-vars : goal.expr-returns-in_ok-a-in-Un-clause-vars
expr-returns-in_ok-a-in-Un-clause-vars t c = vars_kept c.unary.result _ _ _ _ _ _ _ (λ to. fold-Un sets_step to c.in-Un.op _ c.in_ok-a-in-Un.a) c.in_ok-a-in-Un.ensures.vars c.unary.ensures.puts

pub expr-returns-in_ok-b-in-Bin-clause-vars : goal.expr-returns-in_ok-b-in-Bin-clause-vars
expr-returns-in_ok-b-in-Bin-clause-vars t c =
    vars_kept c.binary.result _ _ _ _ _ _ _ (λ to. fold-Bin sets_step to c.in-Bin.op _ c.in_ok-a-in-Bin.a c.in_ok-b-in-Bin.b) (c.in_ok-b-in-Bin.ensures.vars ∙ c.in_ok-a-in-Bin.ensures.vars) c.binary.ensures.puts

pub expr-returns-in_ok-s-in-Mulq-clause-vars : goal.expr-returns-in_ok-s-in-Mulq-clause-vars
expr-returns-in_ok-s-in-Mulq-clause-vars t c =
    vars_kept c.product.result _ _ _ _ _ _ _ (λ to. fold-Mulq sets_step to c.in_ok-a-in-Mulq.a c.in_ok-b-in-Mulq.b c.in_ok-s-in-Mulq.s)
    (c.in_ok-s-in-Mulq.ensures.vars ∙ (c.in_ok-b-in-Mulq.ensures.vars ∙ c.in_ok-a-in-Mulq.ensures.vars)) c.product.ensures.puts

pub read-returns-then-is_owned-clause-vars : goal.read-returns-then-is_owned-clause-vars
read-returns-then-is_owned-clause-vars t c = vars_kept c.own_read.result _ _ _ _ _ _ _ (λ to. fold-OwnRead sets_step to c.args.layout c.args.place) refl c.own_read.ensures.puts

pub read-returns-clause-vars : goal.read-returns-clause-vars
read-returns-clause-vars t c =
    vars_kept c.read_cell.result _ _ _ _ _ _ _ (λ to. fold-ReadCell sets_step to c.in_ok-at.at c.args.layout c.args.place c.in_ok-regs.regs) (c.in_ok-at.ensures.vars ∙ c.in_ok-regs.ensures.vars) c.read_cell.ensures.puts

-- ---- questions

pub expr-returns-in-Active-clause-values : goal.expr-returns-in-Active-clause-values
expr-returns-in-Active-clause-values t c =
    active_form_ok (basis_of c.args.layouts.now c.args.self.now) _ _ _ _ c.active.result c.args.expr.now c.in-Active.layout c.as_slice-in-Active.result.now (c.in-Active.is ∙ ap (form.Active c.in-Active.layout) (sym c.as_slice-in-Active.ensures)) c.active.ensures.values

pub expr-returns-in-Active-clause-uses : goal.expr-returns-in-Active-clause-uses
expr-returns-in-Active-clause-uses t c = active_form_uses c.args.self.now.owned c.active.result c.args.names.now _ _ c.args.expr.now c.in-Active.layout c.in-Active.index c.as_slice-in-Active.result.now c.in-Active.is c.as_slice-in-Active.ensures c.active.ensures.uses

pub expr-returns-in-Active-clause-typed : goal.expr-returns-in-Active-clause-typed
expr-returns-in-Active-clause-typed t c = active_form_typed c.args.layouts.now.list _ _ _ c.args.names.now c.active.result c.args.expr.now c.in-Active.layout c.in-Active.index c.as_slice-in-Active.result.now c.in-Active.is c.as_slice-in-Active.ensures c.active.ensures.typed

pub active-returns-clause-values : goal.active-returns-clause-values
active-returns-clause-values t c =
    let basis = basis_of c.args.layouts.now c.args.self.now in
    active_ok basis c.args.names.now _ c.args.block.now _ c.is_active.result c.args.ty c.args.layout c.args.index.now c.in_ok-regs.regs c.in_ok-at.at c.indices.new.names c.named_place.new.names c.indices.new.block c.named_place.new.block
    c.in_ok-regs.ensures.values c.in_ok-regs.ensures.count
    (subst (λ (regs : List ℕ). equals_some (axes_in basis.shapes c.args.layout) (length regs) ≡ true → LeadsToPlace basis.shapes regs (λ seen now. place_at basis.shapes c.args.layout (named_by regs now)) c.args.layout c.in_ok-at.at c.indices.new.names c.named_place.new.names c.indices.new.block c.named_place.new.block) c.as_slice.ensures c.in_ok-at.ensures.leads)
    c.is_active.ensures.fetches

pub active-returns-clause-uses : goal.active-returns-clause-uses
active-returns-clause-uses t c =
    active_uses c.args.self.now.owned c.is_active.result _ _ _ c.args.ty c.args.layout c.args.index.now c.in_ok-regs.regs c.in_ok-at.at _ c.indices.new.block c.named_place.new.block
    c.in_ok-regs.ensures.uses c.in_ok-at.ensures.uses c.is_active.ensures.puts

pub active-returns-clause-typed : goal.active-returns-clause-typed
active-returns-clause-typed t c =
    let shapes = c.args.layouts.now.list in
    active_typed shapes _ _ _ c.args.names.now c.indices.new.names c.named_place.new.names c.indices.new.block c.named_place.new.block c.is_active.result c.args.ty c.args.layout c.args.index.now c.in_ok-regs.regs c.in_ok-at.at
    c.in_ok-regs.ensures.count c.in_ok-regs.ensures.grows.1 c.in_ok-regs.ensures.typed
    (subst (λ (regs : List ℕ). equals_some (axes_in shapes c.args.layout) (length regs) ≡ true → Adds shapes (CanRead regs) (IsCell c.in_ok-at.at c.args.layout) c.indices.new.names c.named_place.new.names c.indices.new.block c.named_place.new.block) c.as_slice.ensures c.in_ok-at.ensures.typed)
    c.is_active.ensures.puts

pub active-returns-clause-vars : goal.active-returns-clause-vars
active-returns-clause-vars t c =
    vars_kept c.is_active.result _ _ _ _ _ _ _ (λ to. fold-IsActive sets_step to c.in_ok-at.at c.in_ok-regs.regs) (c.in_ok-at.ensures.vars ∙ c.in_ok-regs.ensures.vars) c.is_active.ensures.puts

-- ---- what is asked

pub expr-returns-in-Literal-clause-asks : goal.expr-returns-in-Literal-clause-asks
expr-returns-in-Literal-clause-asks t c = quiet_asks c.constant.result _ _ _ c.args.expr.now _ (λ to. v.Const to c.in-Literal.word) _ (λ to ways. ap (λ (t : List ℕ × Ways). t.0) (trail-Const to c.in-Literal.word ways)) c.constant.ensures.puts

pub expr-returns-in-Constant-clause-asks : goal.expr-returns-in-Constant-clause-asks
expr-returns-in-Constant-clause-asks t c = quiet_asks c.constant-in-Constant.result _ _ _ c.args.expr.now _ (λ to. v.Const to c.in-Constant.word) _ (λ to ways. ap (λ (t : List ℕ × Ways). t.0) (trail-Const to c.in-Constant.word ways)) c.constant-in-Constant.ensures.puts

pub expr-returns-in-Var-clause-asks : goal.expr-returns-in-Var-clause-asks
expr-returns-in-Var-clause-asks t c = quiet_asks c.variable.result _ _ _ c.args.expr.now _ (λ to. v.Var to c.in-Var.var) _ (λ to ways. ap (λ (t : List ℕ × Ways). t.0) (trail-Var to c.in-Var.var ways)) c.variable.ensures.puts

pub expr-returns-in-Read-clause-asks : goal.expr-returns-in-Read-clause-asks
expr-returns-in-Read-clause-asks t c = read_form_asks c.read.result c.args.names.now _ _ c.args.expr.now c.in-Read.layout c.in-Read.place c.in-Read.index c.as_slice.result.now c.in-Read.is c.as_slice.ensures c.read.ensures.asks

pub expr-returns-in-Paren-clause-asks : goal.expr-returns-in-Paren-clause-asks
expr-returns-in-Paren-clause-asks t c = paren_asks c.expr.result c.args.names.now _ _ c.args.expr.now c.get.result.now (c.in-Paren.is ∙ ap form.Paren (sym c.get.ensures)) c.expr.ensures.asks

pub expr-returns-in_ok-a-in-Un-clause-asks : goal.expr-returns-in_ok-a-in-Un-clause-asks
expr-returns-in_ok-a-in-Un-clause-asks t c =
    un_asks c.unary.result _ _ _ c.args.expr.now c.in-Un.op c.get-of.result.now _ _ c.in_ok-a-in-Un.a _ _ (c.in-Un.is ∙ ap (form.Un c.in-Un.op) (sym c.get-of.ensures)) c.in_ok-a-in-Un.ensures.asks c.unary.ensures.puts

pub expr-returns-in_ok-b-in-Bin-clause-asks : goal.expr-returns-in_ok-b-in-Bin-clause-asks
expr-returns-in_ok-b-in-Bin-clause-asks t c =
    let i = c.in-Bin in
    bin_asks c.binary.result _ _ _ c.args.expr.now i.op c.get-left.result.now c.get-right.result.now _ _ c.in_ok-a-in-Bin.a c.in_ok-b-in-Bin.b _ _ _
    (i.is ∙ (ap (λ (x : TypedExpr). form.Bin i.op x i.right) (sym c.get-left.ensures) ∙ ap (λ (x : TypedExpr). form.Bin i.op c.get-left.result.now x) (sym c.get-right.ensures)))
    c.in_ok-a-in-Bin.ensures.asks c.in_ok-b-in-Bin.ensures.asks c.binary.ensures.puts

pub expr-returns-in_ok-s-in-Mulq-clause-asks : goal.expr-returns-in_ok-s-in-Mulq-clause-asks
expr-returns-in_ok-s-in-Mulq-clause-asks t c =
    let i = c.in-Mulq in
    mulq_asks c.product.result _ _ _ c.args.expr.now c.get-in-Mulq.result.now c.get-in-Mulq-2.result.now c.get-in-Mulq-3.result.now _ c.in_ok-a-in-Mulq.a c.in_ok-b-in-Mulq.b c.in_ok-s-in-Mulq.s _ _ _ _
    (i.is ∙ (ap (λ (x : TypedExpr). form.Mulq x i.b i.s) (sym c.get-in-Mulq.ensures) ∙ (ap (λ (x : TypedExpr). form.Mulq c.get-in-Mulq.result.now x i.s) (sym c.get-in-Mulq-2.ensures) ∙ ap (λ (x : TypedExpr). form.Mulq c.get-in-Mulq.result.now c.get-in-Mulq-2.result.now x) (sym c.get-in-Mulq-3.ensures))))
    c.in_ok-a-in-Mulq.ensures.asks c.in_ok-b-in-Mulq.ensures.asks c.in_ok-s-in-Mulq.ensures.asks c.product.ensures.puts

pub expr-returns-in-Convert-clause-asks : goal.expr-returns-in-Convert-clause-asks
expr-returns-in-Convert-clause-asks t c = convert_asks c.expr-in-Convert.result c.args.names.now _ _ c.args.expr.now c.get-in-Convert.result.now (c.in-Convert.is ∙ ap form.Convert (sym c.get-in-Convert.ensures)) c.expr-in-Convert.ensures.asks

pub expr-returns-in-Active-clause-asks : goal.expr-returns-in-Active-clause-asks
expr-returns-in-Active-clause-asks t c = active_form_asks c.active.result c.args.names.now _ _ c.args.expr.now c.in-Active.layout c.in-Active.index c.as_slice-in-Active.result.now c.in-Active.is c.as_slice-in-Active.ensures c.active.ensures.asks

pub indices-returns-clause-asks : goal.indices-returns-clause-asks
indices-returns-clause-asks t c =
    subst (λ (done : List TypedExpr). AsksExprs done c.args.block.now c.loop-part.block) (take_all c.loop-part.part-index c.args.index.now c.loop-part-test.false) c.loop-part.invariant.asks

pub read-returns-then-is_owned-clause-asks : goal.read-returns-then-is_owned-clause-asks
read-returns-then-is_owned-clause-asks t c =
    quiet_asks c.own_read.result _ _ _ _ _ (λ to. v.OwnRead to c.args.layout c.args.place) _ (λ to ways. ap (λ (t : List ℕ × Ways). t.0) (trail-OwnRead to c.args.layout c.args.place ways)) c.own_read.ensures.puts

pub read-returns-clause-asks : goal.read-returns-clause-asks
read-returns-clause-asks t c =
    cell_read_asks c.read_cell.result _ _ _ c.args.ty c.args.layout c.args.place c.args.index.now c.in_ok-regs.regs c.in_ok-at.at _ c.indices.new.block c.named_place.new.block
    c.in_ok-regs.ensures.asks c.in_ok-at.ensures.asks c.read_cell.ensures.puts

pub active-returns-clause-asks : goal.active-returns-clause-asks
active-returns-clause-asks t c =
    active_asks c.is_active.result _ _ _ c.args.ty c.args.layout c.args.index.now c.in_ok-regs.regs c.in_ok-at.at _ c.indices.new.block c.named_place.new.block
    c.in_ok-regs.ensures.asks c.in_ok-at.ensures.asks c.in_ok-at.ensures.comes c.is_active.ensures.puts
