-- What each instruction does, one layer down, and runs of longer blocks.
use Rattle.std.proofs.Common.{◌≡◌, ℕ, List, [], ◌∷◌, ◌++◌, map, refl, ap, ◌∙◌, ℤ}
use Rattle.sg_words.specs.declared.operators.Ty.{Ty}
use Rattle.sg_words.specs.declared.operators.BinOp.{BinOp}
use Rattle.sg_words.specs.declared.operators.UnOp.{UnOp}
use Rattle.sg_words.specs.declared.operators.AccOp.{AccOp}
use Rattle.sg_ir.specs.declared.code.Inst.{Inst}
use Rattle.sg_ir.specs.declared.code.Inst.TheVariants as v
use Rattle.sg_ir.specs.declared.code.Inst.TheOpen as i
use Rattle.sg_ir.specs.Runs.{Seen, Moved, InstAction, actions_in_turn, inst_step, does, runs}
use Rattle.sg_ir.proofs.Folds.{fold-Const, fold-Var, fold-Set, fold-Bin, fold-Un, fold-Mulq, fold-Root, fold-Check, fold-Extract, fold-Offset, fold-Child, fold-HashChild, fold-MaskBit, fold-DynCell, fold-ReadCell, fold-IsActive, fold-OwnRead, fold-OwnWrite, fold-Acc, fold-Want, fold-If, fold-For}

module _ (seen : Seen) where
  pub does-Const : (to word : ℕ) (now : Moved) → does seen (v.Const to word) now ≡ inst_step seen (i.Const to word) now
  does-Const to word now = ap (λ (act : InstAction). act now) (fold-Const (inst_step seen) to word)

  pub does-Var : (to var : ℕ) (now : Moved) → does seen (v.Var to var) now ≡ inst_step seen (i.Var to var) now
  does-Var to var now = ap (λ (act : InstAction). act now) (fold-Var (inst_step seen) to var)

  pub does-Set : (var from : ℕ) (now : Moved) → does seen (v.Set var from) now ≡ inst_step seen (i.Set var from) now
  does-Set var from now = ap (λ (act : InstAction). act now) (fold-Set (inst_step seen) var from)

  pub does-Bin : (to : ℕ) (op : BinOp) (given : Ty) (a b : ℕ) (now : Moved) → does seen (v.Bin to op given a b) now ≡ inst_step seen (i.Bin to op given a b) now
  does-Bin to op given a b now = ap (λ (act : InstAction). act now) (fold-Bin (inst_step seen) to op given a b)

  pub does-Un : (to : ℕ) (op : UnOp) (given : Ty) (a : ℕ) (now : Moved) → does seen (v.Un to op given a) now ≡ inst_step seen (i.Un to op given a) now
  does-Un to op given a now = ap (λ (act : InstAction). act now) (fold-Un (inst_step seen) to op given a)

  pub does-Mulq : (to a b s : ℕ) (now : Moved) → does seen (v.Mulq to a b s) now ≡ inst_step seen (i.Mulq to a b s) now
  does-Mulq to a b s now = ap (λ (act : InstAction). act now) (fold-Mulq (inst_step seen) to a b s)

  pub does-Root : (to layout : ℕ) (now : Moved) → does seen (v.Root to layout) now ≡ inst_step seen (i.Root to layout) now
  does-Root to layout now = ap (λ (act : InstAction). act now) (fold-Root (inst_step seen) to layout)

  pub does-Check : (to place axis extent index : ℕ) (now : Moved) → does seen (v.Check to place axis extent index) now ≡ inst_step seen (i.Check to place axis extent index) now
  does-Check to place axis extent index now = ap (λ (act : InstAction). act now) (fold-Check (inst_step seen) to place axis extent index)

  pub does-Extract : (to div size from : ℕ) (now : Moved) → does seen (v.Extract to div size from) now ≡ inst_step seen (i.Extract to div size from) now
  does-Extract to div size from now = ap (λ (act : InstAction). act now) (fold-Extract (inst_step seen) to div size from)

  pub does-Offset : (to high size low : ℕ) (now : Moved) → does seen (v.Offset to high size low) now ≡ inst_step seen (i.Offset to high size low) now
  does-Offset to high size low now = ap (λ (act : InstAction). act now) (fold-Offset (inst_step seen) to high size low)

  pub does-Child : (to place node offset : ℕ) (now : Moved) → does seen (v.Child to place node offset) now ≡ inst_step seen (i.Child to place node offset) now
  does-Child to place node offset now = ap (λ (act : InstAction). act now) (fold-Child (inst_step seen) to place node offset)

  pub does-HashChild : (to place node offset : ℕ) (now : Moved) → does seen (v.HashChild to place node offset) now ≡ inst_step seen (i.HashChild to place node offset) now
  does-HashChild to place node offset now = ap (λ (act : InstAction). act now) (fold-HashChild (inst_step seen) to place node offset)

  pub does-MaskBit : (to place node offset : ℕ) (now : Moved) → does seen (v.MaskBit to place node offset) now ≡ inst_step seen (i.MaskBit to place node offset) now
  does-MaskBit to place node offset now = ap (λ (act : InstAction). act now) (fold-MaskBit (inst_step seen) to place node offset)

  pub does-DynCell : (to place node offset : ℕ) (now : Moved) → does seen (v.DynCell to place node offset) now ≡ inst_step seen (i.DynCell to place node offset) now
  does-DynCell to place node offset now = ap (λ (act : InstAction). act now) (fold-DynCell (inst_step seen) to place node offset)

  pub does-ReadCell : (to place layout field : ℕ) (index : List ℕ) (now : Moved) → does seen (v.ReadCell to place layout field index) now ≡ inst_step seen (i.ReadCell to place layout field index) now
  does-ReadCell to place layout field index now = ap (λ (act : InstAction). act now) (fold-ReadCell (inst_step seen) to place layout field index)

  pub does-IsActive : (to place : ℕ) (index : List ℕ) (now : Moved) → does seen (v.IsActive to place index) now ≡ inst_step seen (i.IsActive to place index) now
  does-IsActive to place index now = ap (λ (act : InstAction). act now) (fold-IsActive (inst_step seen) to place index)

  pub does-OwnRead : (to layout field : ℕ) (now : Moved) → does seen (v.OwnRead to layout field) now ≡ inst_step seen (i.OwnRead to layout field) now
  does-OwnRead to layout field now = ap (λ (act : InstAction). act now) (fold-OwnRead (inst_step seen) to layout field)

  pub does-OwnWrite : (layout field from stmt : ℕ) (now : Moved) → does seen (v.OwnWrite layout field from stmt) now ≡ inst_step seen (i.OwnWrite layout field from stmt) now
  does-OwnWrite layout field from stmt now = ap (λ (act : InstAction). act now) (fold-OwnWrite (inst_step seen) layout field from stmt)

  pub does-Acc : (op : AccOp) (layout field place from : ℕ) (index : List ℕ) (stmt : ℕ) (now : Moved) → does seen (v.Acc op layout field place from index stmt) now ≡ inst_step seen (i.Acc op layout field place from index stmt) now
  does-Acc op layout field place from index stmt now = ap (λ (act : InstAction). act now) (fold-Acc (inst_step seen) op layout field place from index stmt)

  pub does-Want : (layout : ℕ) (index : List ℕ) (stmt : ℕ) (now : Moved) → does seen (v.Want layout index stmt) now ≡ inst_step seen (i.Want layout index stmt) now
  does-Want layout index stmt now = ap (λ (act : InstAction). act now) (fold-Want (inst_step seen) layout index stmt)

  pub does-If : (cond : ℕ) (block otherwise : List Inst) (now : Moved) → does seen (v.If cond block otherwise) now ≡ inst_step seen (i.If cond (map (does seen) block) (map (does seen) otherwise)) now
  does-If cond block otherwise now = ap (λ (act : InstAction). act now) (fold-If (inst_step seen) cond block otherwise)

  pub does-For : (var : ℕ) (lo hi : ℤ) (body : List Inst) (now : Moved) → does seen (v.For var lo hi body) now ≡ inst_step seen (i.For var lo hi (map (does seen) body)) now
  does-For var lo hi body now = ap (λ (act : InstAction). act now) (fold-For (inst_step seen) var lo hi body)

  -- a block and one more instruction
  in_turn-more : (acts : List InstAction) (act : InstAction) (now : Moved) → actions_in_turn (acts ++ act ∷ []) now ≡ act (actions_in_turn acts now)
  in_turn-more [] act now = refl
  in_turn-more (first ∷ acts) act now = in_turn-more acts act (first now)

  map-more : (block : List Inst) (inst : Inst) → map (does seen) (block ++ inst ∷ []) ≡ map (does seen) block ++ does seen inst ∷ []
  map-more [] inst = refl
  map-more (first ∷ block) inst = ap (λ acts. does seen first ∷ acts) (map-more block inst)

  pub runs-more : (block : List Inst) (inst : Inst) (now : Moved) → runs seen (block ++ inst ∷ []) now ≡ does seen inst (runs seen block now)
  runs-more block inst now = ap (λ acts. actions_in_turn acts now) (map-more block inst) ∙ in_turn-more (map (does seen) block) (does seen inst) now

  -- one block after another
  pub runs-append : (block more : List Inst) (now : Moved) → runs seen (block ++ more) now ≡ runs seen more (runs seen block now)
  runs-append [] more now = refl
  runs-append (first ∷ block) more now = runs-append block more (does seen first now)
