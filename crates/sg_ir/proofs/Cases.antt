-- Each instruction is one of the variants.
use Rattle.std.proofs.Common.{ℕ, List, ℤ}
use Rattle.sg_words.specs.declared.operators.Ty.{Ty}
use Rattle.sg_words.specs.declared.operators.BinOp.{BinOp}
use Rattle.sg_words.specs.declared.operators.UnOp.{UnOp}
use Rattle.sg_words.specs.declared.operators.AccOp.{AccOp}
use Rattle.sg_ir.specs.declared.code.Inst.{Inst, out-Inst, roll-Inst, roll-out-Inst}
use Rattle.sg_ir.specs.declared.code.Inst.TheVariants as v
use Rattle.sg_ir.specs.declared.code.Inst.TheVariants.{rolls-Const, rolls-Var, rolls-Set, rolls-Bin, rolls-Un, rolls-Mulq, rolls-Root, rolls-Check, rolls-Extract, rolls-Offset, rolls-Child, rolls-HashChild, rolls-MaskBit, rolls-DynCell, rolls-ReadCell, rolls-IsActive, rolls-OwnRead, rolls-OwnWrite, rolls-Acc, rolls-Want, rolls-If, rolls-For}
use Rattle.sg_ir.specs.declared.code.Inst.TheOpen as i
use Rattle.sg_ir.specs.declared.code.Inst.TheOpen.{Inst-F}

module _ (P : Inst → Type 0)
    (on_const : (to word : ℕ) → P (v.Const to word))
    (on_var : (to var : ℕ) → P (v.Var to var))
    (on_set : (var from : ℕ) → P (v.Set var from))
    (on_bin : (to : ℕ) (op : BinOp) (given : Ty) (a b : ℕ) → P (v.Bin to op given a b))
    (on_un : (to : ℕ) (op : UnOp) (given : Ty) (a : ℕ) → P (v.Un to op given a))
    (on_mulq : (to a b s : ℕ) → P (v.Mulq to a b s))
    (on_root : (to layout : ℕ) → P (v.Root to layout))
    (on_check : (to place axis extent index : ℕ) → P (v.Check to place axis extent index))
    (on_extract : (to div size from : ℕ) → P (v.Extract to div size from))
    (on_offset : (to high size low : ℕ) → P (v.Offset to high size low))
    (on_child : (to place node offset : ℕ) → P (v.Child to place node offset))
    (on_hashchild : (to place node offset : ℕ) → P (v.HashChild to place node offset))
    (on_maskbit : (to place node offset : ℕ) → P (v.MaskBit to place node offset))
    (on_dyncell : (to place node offset : ℕ) → P (v.DynCell to place node offset))
    (on_readcell : (to place layout field : ℕ) (index : List ℕ) → P (v.ReadCell to place layout field index))
    (on_isactive : (to place : ℕ) (index : List ℕ) → P (v.IsActive to place index))
    (on_ownread : (to layout field : ℕ) → P (v.OwnRead to layout field))
    (on_ownwrite : (layout field from stmt : ℕ) → P (v.OwnWrite layout field from stmt))
    (on_acc : (op : AccOp) (layout field place from : ℕ) (index : List ℕ) (stmt : ℕ) → P (v.Acc op layout field place from index stmt))
    (on_want : (layout : ℕ) (index : List ℕ) (stmt : ℕ) → P (v.Want layout index stmt))
    (on_if : (cond : ℕ) (block otherwise : List Inst) → P (v.If cond block otherwise))
    (on_for : (var : ℕ) (lo hi : ℤ) (body : List Inst) → P (v.For var lo hi body)) where
  by_layer : (layer : Inst-F Inst) → P (roll-Inst layer)
  by_layer (i.Const to word) = rw (rolls-Const to word) (on_const to word)
  by_layer (i.Var to var) = rw (rolls-Var to var) (on_var to var)
  by_layer (i.Set var from) = rw (rolls-Set var from) (on_set var from)
  by_layer (i.Bin to op given a b) = rw (rolls-Bin to op given a b) (on_bin to op given a b)
  by_layer (i.Un to op given a) = rw (rolls-Un to op given a) (on_un to op given a)
  by_layer (i.Mulq to a b s) = rw (rolls-Mulq to a b s) (on_mulq to a b s)
  by_layer (i.Root to layout) = rw (rolls-Root to layout) (on_root to layout)
  by_layer (i.Check to place axis extent index) = rw (rolls-Check to place axis extent index) (on_check to place axis extent index)
  by_layer (i.Extract to div size from) = rw (rolls-Extract to div size from) (on_extract to div size from)
  by_layer (i.Offset to high size low) = rw (rolls-Offset to high size low) (on_offset to high size low)
  by_layer (i.Child to place node offset) = rw (rolls-Child to place node offset) (on_child to place node offset)
  by_layer (i.HashChild to place node offset) = rw (rolls-HashChild to place node offset) (on_hashchild to place node offset)
  by_layer (i.MaskBit to place node offset) = rw (rolls-MaskBit to place node offset) (on_maskbit to place node offset)
  by_layer (i.DynCell to place node offset) = rw (rolls-DynCell to place node offset) (on_dyncell to place node offset)
  by_layer (i.ReadCell to place layout field index) = rw (rolls-ReadCell to place layout field index) (on_readcell to place layout field index)
  by_layer (i.IsActive to place index) = rw (rolls-IsActive to place index) (on_isactive to place index)
  by_layer (i.OwnRead to layout field) = rw (rolls-OwnRead to layout field) (on_ownread to layout field)
  by_layer (i.OwnWrite layout field from stmt) = rw (rolls-OwnWrite layout field from stmt) (on_ownwrite layout field from stmt)
  by_layer (i.Acc op layout field place from index stmt) = rw (rolls-Acc op layout field place from index stmt) (on_acc op layout field place from index stmt)
  by_layer (i.Want layout index stmt) = rw (rolls-Want layout index stmt) (on_want layout index stmt)
  by_layer (i.If cond block otherwise) = rw (rolls-If cond block otherwise) (on_if cond block otherwise)
  by_layer (i.For var lo hi body) = rw (rolls-For var lo hi body) (on_for var lo hi body)

  pub by_inst : (inst : Inst) → P inst
  by_inst inst = rw (← roll-out-Inst inst) (by_layer (out-Inst inst))
