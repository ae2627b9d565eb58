-- The judgement of each instruction, one layer down, and judgements of longer blocks.
use Rattle.std.proofs.Common.{◌≡◌, ℕ, Bool, true, List, [], ◌∷◌, ◌++◌, map, refl, sym, ap, ◌∙◌, append_assoc, ℤ}
use Rattle.std.specs.List.{flat_map, fold}
use Rattle.sg_words.specs.declared.operators.Ty.{Ty}
use Rattle.sg_words.specs.declared.operators.BinOp.{BinOp}
use Rattle.sg_words.specs.declared.operators.UnOp.{UnOp}
use Rattle.sg_words.specs.declared.operators.AccOp.{AccOp}
use Rattle.sg_ir.specs.declared.code.Inst.{Inst, fold-Inst}
use Rattle.sg_ir.specs.declared.code.Inst.TheVariants as v
use Rattle.sg_ir.specs.declared.code.Inst.TheOpen as i
use Rattle.sg_ir.specs.WellTyped.{Frame, Scope, Judge, judge_step, judge_all, inst_fits, judges, judged, SetName, sets_step, settings, reg_number, place_number, var_number, set_regs, set_places, set_vars}
use Rattle.sg_ir.specs.Apt.{Use, uses_step, uses_in}
use Rattle.sg_ir.proofs.Folds.{fold-Const, fold-Var, fold-Set, fold-Bin, fold-Un, fold-Mulq, fold-Root, fold-Check, fold-Extract, fold-Offset, fold-Child, fold-HashChild, fold-MaskBit, fold-DynCell, fold-ReadCell, fold-IsActive, fold-OwnRead, fold-OwnWrite, fold-Acc, fold-Want, fold-If, fold-For}

module _ (at : Frame) where
  pub judges-Const : (to word : ℕ) (scope : Scope) → judges at (v.Const to word) scope ≡ inst_fits at (i.Const to word) scope
  judges-Const to word scope = ap (λ (judge : Judge). judge scope) (fold-Const (inst_fits at) to word)

  pub judges-Var : (to var : ℕ) (scope : Scope) → judges at (v.Var to var) scope ≡ inst_fits at (i.Var to var) scope
  judges-Var to var scope = ap (λ (judge : Judge). judge scope) (fold-Var (inst_fits at) to var)

  pub judges-Set : (var from : ℕ) (scope : Scope) → judges at (v.Set var from) scope ≡ inst_fits at (i.Set var from) scope
  judges-Set var from scope = ap (λ (judge : Judge). judge scope) (fold-Set (inst_fits at) var from)

  pub judges-Bin : (to : ℕ) (op : BinOp) (given : Ty) (a b : ℕ) (scope : Scope) → judges at (v.Bin to op given a b) scope ≡ inst_fits at (i.Bin to op given a b) scope
  judges-Bin to op given a b scope = ap (λ (judge : Judge). judge scope) (fold-Bin (inst_fits at) to op given a b)

  pub judges-Un : (to : ℕ) (op : UnOp) (given : Ty) (a : ℕ) (scope : Scope) → judges at (v.Un to op given a) scope ≡ inst_fits at (i.Un to op given a) scope
  judges-Un to op given a scope = ap (λ (judge : Judge). judge scope) (fold-Un (inst_fits at) to op given a)

  pub judges-Mulq : (to a b s : ℕ) (scope : Scope) → judges at (v.Mulq to a b s) scope ≡ inst_fits at (i.Mulq to a b s) scope
  judges-Mulq to a b s scope = ap (λ (judge : Judge). judge scope) (fold-Mulq (inst_fits at) to a b s)

  pub judges-Root : (to layout : ℕ) (scope : Scope) → judges at (v.Root to layout) scope ≡ inst_fits at (i.Root to layout) scope
  judges-Root to layout scope = ap (λ (judge : Judge). judge scope) (fold-Root (inst_fits at) to layout)

  pub judges-Check : (to place axis extent index : ℕ) (scope : Scope) → judges at (v.Check to place axis extent index) scope ≡ inst_fits at (i.Check to place axis extent index) scope
  judges-Check to place axis extent index scope = ap (λ (judge : Judge). judge scope) (fold-Check (inst_fits at) to place axis extent index)

  pub judges-Extract : (to div size from : ℕ) (scope : Scope) → judges at (v.Extract to div size from) scope ≡ inst_fits at (i.Extract to div size from) scope
  judges-Extract to div size from scope = ap (λ (judge : Judge). judge scope) (fold-Extract (inst_fits at) to div size from)

  pub judges-Offset : (to high size low : ℕ) (scope : Scope) → judges at (v.Offset to high size low) scope ≡ inst_fits at (i.Offset to high size low) scope
  judges-Offset to high size low scope = ap (λ (judge : Judge). judge scope) (fold-Offset (inst_fits at) to high size low)

  pub judges-Child : (to place node offset : ℕ) (scope : Scope) → judges at (v.Child to place node offset) scope ≡ inst_fits at (i.Child to place node offset) scope
  judges-Child to place node offset scope = ap (λ (judge : Judge). judge scope) (fold-Child (inst_fits at) to place node offset)

  pub judges-HashChild : (to place node offset : ℕ) (scope : Scope) → judges at (v.HashChild to place node offset) scope ≡ inst_fits at (i.HashChild to place node offset) scope
  judges-HashChild to place node offset scope = ap (λ (judge : Judge). judge scope) (fold-HashChild (inst_fits at) to place node offset)

  pub judges-MaskBit : (to place node offset : ℕ) (scope : Scope) → judges at (v.MaskBit to place node offset) scope ≡ inst_fits at (i.MaskBit to place node offset) scope
  judges-MaskBit to place node offset scope = ap (λ (judge : Judge). judge scope) (fold-MaskBit (inst_fits at) to place node offset)

  pub judges-DynCell : (to place node offset : ℕ) (scope : Scope) → judges at (v.DynCell to place node offset) scope ≡ inst_fits at (i.DynCell to place node offset) scope
  judges-DynCell to place node offset scope = ap (λ (judge : Judge). judge scope) (fold-DynCell (inst_fits at) to place node offset)

  pub judges-ReadCell : (to place layout field : ℕ) (index : List ℕ) (scope : Scope) → judges at (v.ReadCell to place layout field index) scope ≡ inst_fits at (i.ReadCell to place layout field index) scope
  judges-ReadCell to place layout field index scope = ap (λ (judge : Judge). judge scope) (fold-ReadCell (inst_fits at) to place layout field index)

  pub judges-IsActive : (to place : ℕ) (index : List ℕ) (scope : Scope) → judges at (v.IsActive to place index) scope ≡ inst_fits at (i.IsActive to place index) scope
  judges-IsActive to place index scope = ap (λ (judge : Judge). judge scope) (fold-IsActive (inst_fits at) to place index)

  pub judges-OwnRead : (to layout field : ℕ) (scope : Scope) → judges at (v.OwnRead to layout field) scope ≡ inst_fits at (i.OwnRead to layout field) scope
  judges-OwnRead to layout field scope = ap (λ (judge : Judge). judge scope) (fold-OwnRead (inst_fits at) to layout field)

  pub judges-OwnWrite : (layout field from stmt : ℕ) (scope : Scope) → judges at (v.OwnWrite layout field from stmt) scope ≡ inst_fits at (i.OwnWrite layout field from stmt) scope
  judges-OwnWrite layout field from stmt scope = ap (λ (judge : Judge). judge scope) (fold-OwnWrite (inst_fits at) layout field from stmt)

  pub judges-Acc : (op : AccOp) (layout field place from : ℕ) (index : List ℕ) (stmt : ℕ) (scope : Scope) → judges at (v.Acc op layout field place from index stmt) scope ≡ inst_fits at (i.Acc op layout field place from index stmt) scope
  judges-Acc op layout field place from index stmt scope = ap (λ (judge : Judge). judge scope) (fold-Acc (inst_fits at) op layout field place from index stmt)

  pub judges-Want : (layout : ℕ) (index : List ℕ) (stmt : ℕ) (scope : Scope) → judges at (v.Want layout index stmt) scope ≡ inst_fits at (i.Want layout index stmt) scope
  judges-Want layout index stmt scope = ap (λ (judge : Judge). judge scope) (fold-Want (inst_fits at) layout index stmt)

  pub judges-If : (cond : ℕ) (block otherwise : List Inst) (scope : Scope) → judges at (v.If cond block otherwise) scope ≡ inst_fits at (i.If cond (map (judges at) block) (map (judges at) otherwise)) scope
  judges-If cond block otherwise scope = ap (λ (judge : Judge). judge scope) (fold-If (inst_fits at) cond block otherwise)

  pub judges-For : (var : ℕ) (lo hi : ℤ) (body : List Inst) (scope : Scope) → judges at (v.For var lo hi body) scope ≡ inst_fits at (i.For var lo hi (map (judges at) body)) scope
  judges-For var lo hi body scope = ap (λ (judge : Judge). judge scope) (fold-For (inst_fits at) var lo hi body)

  -- a block and one more instruction: good if both are, and the scope after it
  fold-more : (judges_of : List Judge) (judge : Judge) (reached : Bool × Scope) → fold judge_step reached (judges_of ++ judge ∷ []) ≡ judge_step (fold judge_step reached judges_of) judge
  fold-more [] judge reached = refl
  fold-more (first ∷ more) judge reached = fold-more more judge (judge_step reached first)

  map-more : (block : List Inst) (inst : Inst) → map (judges at) (block ++ inst ∷ []) ≡ map (judges at) block ++ judges at inst ∷ []
  map-more [] inst = refl
  map-more (first ∷ block) inst = ap (λ more. judges at first ∷ more) (map-more block inst)

  pub judged-more : (block : List Inst) (inst : Inst) (scope : Scope) → judged at (block ++ inst ∷ []) scope ≡ judge_step (judged at block scope) (judges at inst)
  judged-more block inst scope = ap (λ all. judge_all all scope) (map-more block inst) ∙ fold-more (map (judges at) block) (judges at inst) (true, scope)

-- what longer blocks set and use
flat-append : {X Y : Type 0} (f : X → List Y) (xs ys : List X) → flat_map f (xs ++ ys) ≡ flat_map f xs ++ flat_map f ys
flat-append f [] ys = refl
flat-append f (x ∷ xs) ys = ap (λ more. f x ++ more) (flat-append f xs ys) ∙ sym (append_assoc (f x) (flat_map f xs) (flat_map f ys))

pub settings-append : (block more : List Inst) → settings (block ++ more) ≡ settings block ++ settings more
settings-append block more = flat-append (fold-Inst (List SetName) sets_step) block more

pub set_regs-append : (block more : List Inst) → set_regs (block ++ more) ≡ set_regs block ++ set_regs more
set_regs-append block more = ap (flat_map reg_number) (settings-append block more) ∙ flat-append reg_number (settings block) (settings more)

pub set_places-append : (block more : List Inst) → set_places (block ++ more) ≡ set_places block ++ set_places more
set_places-append block more = ap (flat_map place_number) (settings-append block more) ∙ flat-append place_number (settings block) (settings more)

pub set_vars-append : (block more : List Inst) → set_vars (block ++ more) ≡ set_vars block ++ set_vars more
set_vars-append block more = ap (flat_map var_number) (settings-append block more) ∙ flat-append var_number (settings block) (settings more)

pub uses-append : (block more : List Inst) → uses_in (block ++ more) ≡ uses_in block ++ uses_in more
uses-append block more = flat-append (fold-Inst (List Use) uses_step) block more
