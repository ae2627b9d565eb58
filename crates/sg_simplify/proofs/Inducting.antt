-- What holds of each instruction if it holds of the instructions in it holds of all.
use Rattle.std.specs.Prelude.{ℕ, zero, suc, ◌<◌, max, List, [], ◌∷◌, map, ℤ}
use Rattle.std.proofs.Common.{arith, subst}
use Rattle.sg_words.specs.declared.operators.Ty.{Ty}
use Rattle.sg_words.specs.declared.operators.BinOp.{BinOp}
use Rattle.sg_words.specs.declared.operators.UnOp.{UnOp}
use Rattle.sg_words.specs.declared.operators.AccOp.{AccOp}
use Rattle.sg_ir.specs.declared.code.Inst.{Inst}
use Rattle.sg_ir.specs.declared.code.Inst.TheVariants as v
use Rattle.sg_ir.proofs.Uses.{by_inst}
use Rattle.sg_ir.proofs.Uses.{largest, depth_step, depth}
use Rattle.sg_ir.proofs.Uses.{fold-If, fold-For}
use Rattle.sg_simplify.specs.steps.Serves.{EachByRecursion}

module _ (P : Inst → Type 0)
    (on_const : (to word : ℕ) → P (v.Const to word))
    (on_var : (to var : ℕ) → P (v.Var to var))
    (on_set : (var from : ℕ) → P (v.Set var from))
    (on_bin : (to : ℕ) (how : BinOp) (kind : Ty) (a b : ℕ) → P (v.Bin to how kind a b))
    (on_un : (to : ℕ) (how : UnOp) (kind : Ty) (a : ℕ) → P (v.Un to how kind a))
    (on_mulq : (to a b s : ℕ) → P (v.Mulq to a b s))
    (on_root : (to layout : ℕ) → P (v.Root to layout))
    (on_check : (to place axis extent index : ℕ) → P (v.Check to place axis extent index))
    (on_extract : (to div size from : ℕ) → P (v.Extract to div size from))
    (on_offset : (to high size low : ℕ) → P (v.Offset to high size low))
    (on_child : (to place node offset : ℕ) → P (v.Child to place node offset))
    (on_hashchild : (to place node offset : ℕ) → P (v.HashChild to place node offset))
    (on_maskbit : (to place node offset : ℕ) → P (v.MaskBit to place node offset))
    (on_dyncell : (to place node offset : ℕ) → P (v.DynCell to place node offset))
    (on_readcell : (to place layout field : ℕ) (index : List ℕ) → P (v.ReadCell to place layout field index))
    (on_isactive : (to place : ℕ) (index : List ℕ) → P (v.IsActive to place index))
    (on_ownread : (to layout field : ℕ) → P (v.OwnRead to layout field))
    (on_ownwrite : (layout field from stmt : ℕ) → P (v.OwnWrite layout field from stmt))
    (on_acc : (how : AccOp) (layout field place from : ℕ) (index : List ℕ) (stmt : ℕ) → P (v.Acc how layout field place from index stmt))
    (on_want : (layout : ℕ) (index : List ℕ) (stmt : ℕ) → P (v.Want layout index stmt))
    (on_if : (cond : ℕ) (block otherwise : List Inst) → EachByRecursion P block → EachByRecursion P otherwise → P (v.If cond block otherwise))
    (on_for : (var : ℕ) (lo hi : ℤ) (body : List Inst) → EachByRecursion P body → P (v.For var lo hi body)) where
  each_below : (n : ℕ) → ((inst : Inst) → depth inst < n → P inst) → (insts : List Inst) → largest (map depth insts) < n → EachByRecursion P insts
  each_below n each [] below = tt
  each_below n each (inst ∷ insts) below = (each inst (omega (arith, below)), each_below n each insts (omega (arith, below)))

  by_depth : (n : ℕ) (inst : Inst) → depth inst < n → P inst
  by_depth zero inst below = absurd (omega (arith, below))
  by_depth (suc n) inst below = by_inst (λ it. depth it < suc n → P it)
      (λ to word below. on_const to word)
      (λ to var below. on_var to var)
      (λ var from below. on_set var from)
      (λ to how kind a b below. on_bin to how kind a b)
      (λ to how kind a below. on_un to how kind a)
      (λ to a b s below. on_mulq to a b s)
      (λ to layout below. on_root to layout)
      (λ to place axis extent index below. on_check to place axis extent index)
      (λ to div size from below. on_extract to div size from)
      (λ to high size low below. on_offset to high size low)
      (λ to place node offset below. on_child to place node offset)
      (λ to place node offset below. on_hashchild to place node offset)
      (λ to place node offset below. on_maskbit to place node offset)
      (λ to place node offset below. on_dyncell to place node offset)
      (λ to place layout field index below. on_readcell to place layout field index)
      (λ to place index below. on_isactive to place index)
      (λ to layout field below. on_ownread to layout field)
      (λ layout field from stmt below. on_ownwrite layout field from stmt)
      (λ how layout field place from index stmt below. on_acc how layout field place from index stmt)
      (λ layout index stmt below. on_want layout index stmt)
      (λ cond block otherwise below.
      let deep : max (largest (map depth block)) (largest (map depth otherwise)) < n = let h = subst (λ d. d < suc n) (fold-If depth_step cond block otherwise) below in omega arith in
      on_if cond block otherwise (each_below n (by_depth n) block (omega arith)) (each_below n (by_depth n) otherwise (omega arith)))
      (λ var lo hi body below.
      let deep : largest (map depth body) < n = let h = subst (λ d. d < suc n) (fold-For depth_step var lo hi body) below in omega arith in
      on_for var lo hi body (each_below n (by_depth n) body deep))
      inst below

  pub inductively : (inst : Inst) → P inst
  inductively inst = by_depth (suc (depth inst)) inst (omega arith)

  pub of_each : (insts : List Inst) → EachByRecursion P insts
  of_each [] = tt
  of_each (inst ∷ insts) = (inductively inst, of_each insts)
