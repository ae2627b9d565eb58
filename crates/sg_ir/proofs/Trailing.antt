-- What instructions ask and which ways they make, one by one and one after the other, and along chains.
use Rattle.std.proofs.Common.{◌≡◌, ℕ, zero, suc, ◌<◌, max, List, [], ◌∷◌, ◌++◌, map, ℤ, refl, sym, ap, subst, ◌∙◌, arith, append_assoc}
use Rattle.std.proofs.lemmas.List.{append-nil}
use Rattle.sg_words.specs.declared.operators.Ty.{Ty}
use Rattle.sg_words.specs.declared.operators.BinOp.{BinOp}
use Rattle.sg_words.specs.declared.operators.UnOp.{UnOp}
use Rattle.sg_words.specs.declared.operators.AccOp.{AccOp}
use Rattle.sg_layout.specs.declared.shape.Kind.{Kind}
use Rattle.sg_layout.specs.declared.shape.Kind.TheVariants.{Dense, Bitmasked, Pointer, Hash, Dynamic}
use Rattle.sg_ir.specs.declared.code.Code.{Code}
use Rattle.sg_ir.specs.declared.code.Inst.{Inst, out-Inst, roll-Inst, roll-out-Inst}
use Rattle.sg_ir.specs.declared.code.Inst.TheVariants as v
use Rattle.sg_ir.specs.declared.code.Inst.TheVariants.{rolls-Const, rolls-Var, rolls-Set, rolls-Bin, rolls-Un, rolls-Mulq, rolls-Root, rolls-Check, rolls-Extract, rolls-Offset, rolls-Child, rolls-HashChild, rolls-MaskBit, rolls-DynCell, rolls-ReadCell, rolls-IsActive, rolls-OwnRead, rolls-OwnWrite, rolls-Acc, rolls-Want, rolls-If, rolls-For}
use Rattle.sg_ir.specs.declared.code.Inst.TheOpen as i
use Rattle.sg_ir.specs.declared.code.Inst.TheOpen.{Inst-F}
use Rattle.sg_ir.specs.Blocks.{Block, End, Link, chained, link_step, link, block_of, block_in}
use Rattle.sg_ir.specs.StepDown.{child_inst}
use Rattle.sg_ir.specs.Trimmed.{Ways, way_of, asked, asked_in}
use Rattle.sg_ir.specs.Trails.{Trail, trail_step, trail, asked_by, ways_after}
use Rattle.sg_ir.proofs.Chained.{largest, depth_step, depth}
use Rattle.sg_ir.proofs.Folds.{fold-Const, fold-Var, fold-Set, fold-Bin, fold-Un, fold-Mulq, fold-Root, fold-Check, fold-Extract, fold-Offset, fold-Child, fold-HashChild, fold-MaskBit, fold-DynCell, fold-ReadCell, fold-IsActive, fold-OwnRead, fold-OwnWrite, fold-Acc, fold-Want, fold-If, fold-For}

pub trail-Const : (to word : ℕ) (ways : Ways) → trail (v.Const to word) ways ≡ trail_step (i.Const to word) ways
trail-Const to word ways = ap (λ (it : Trail). it ways) (fold-Const trail_step to word)

pub trail-Var : (to var : ℕ) (ways : Ways) → trail (v.Var to var) ways ≡ trail_step (i.Var to var) ways
trail-Var to var ways = ap (λ (it : Trail). it ways) (fold-Var trail_step to var)

pub trail-Set : (var from : ℕ) (ways : Ways) → trail (v.Set var from) ways ≡ trail_step (i.Set var from) ways
trail-Set var from ways = ap (λ (it : Trail). it ways) (fold-Set trail_step var from)

pub trail-Bin : (to : ℕ) (op : BinOp) (given : Ty) (a b : ℕ) (ways : Ways) → trail (v.Bin to op given a b) ways ≡ trail_step (i.Bin to op given a b) ways
trail-Bin to op given a b ways = ap (λ (it : Trail). it ways) (fold-Bin trail_step to op given a b)

pub trail-Un : (to : ℕ) (op : UnOp) (given : Ty) (a : ℕ) (ways : Ways) → trail (v.Un to op given a) ways ≡ trail_step (i.Un to op given a) ways
trail-Un to op given a ways = ap (λ (it : Trail). it ways) (fold-Un trail_step to op given a)

pub trail-Mulq : (to a b s : ℕ) (ways : Ways) → trail (v.Mulq to a b s) ways ≡ trail_step (i.Mulq to a b s) ways
trail-Mulq to a b s ways = ap (λ (it : Trail). it ways) (fold-Mulq trail_step to a b s)

pub trail-Root : (to layout : ℕ) (ways : Ways) → trail (v.Root to layout) ways ≡ trail_step (i.Root to layout) ways
trail-Root to layout ways = ap (λ (it : Trail). it ways) (fold-Root trail_step to layout)

pub trail-Check : (to place axis extent index : ℕ) (ways : Ways) → trail (v.Check to place axis extent index) ways ≡ trail_step (i.Check to place axis extent index) ways
trail-Check to place axis extent index ways = ap (λ (it : Trail). it ways) (fold-Check trail_step to place axis extent index)

pub trail-Extract : (to div size from : ℕ) (ways : Ways) → trail (v.Extract to div size from) ways ≡ trail_step (i.Extract to div size from) ways
trail-Extract to div size from ways = ap (λ (it : Trail). it ways) (fold-Extract trail_step to div size from)

pub trail-Offset : (to high size low : ℕ) (ways : Ways) → trail (v.Offset to high size low) ways ≡ trail_step (i.Offset to high size low) ways
trail-Offset to high size low ways = ap (λ (it : Trail). it ways) (fold-Offset trail_step to high size low)

pub trail-Child : (to place node offset : ℕ) (ways : Ways) → trail (v.Child to place node offset) ways ≡ trail_step (i.Child to place node offset) ways
trail-Child to place node offset ways = ap (λ (it : Trail). it ways) (fold-Child trail_step to place node offset)

pub trail-HashChild : (to place node offset : ℕ) (ways : Ways) → trail (v.HashChild to place node offset) ways ≡ trail_step (i.HashChild to place node offset) ways
trail-HashChild to place node offset ways = ap (λ (it : Trail). it ways) (fold-HashChild trail_step to place node offset)

pub trail-MaskBit : (to place node offset : ℕ) (ways : Ways) → trail (v.MaskBit to place node offset) ways ≡ trail_step (i.MaskBit to place node offset) ways
trail-MaskBit to place node offset ways = ap (λ (it : Trail). it ways) (fold-MaskBit trail_step to place node offset)

pub trail-DynCell : (to place node offset : ℕ) (ways : Ways) → trail (v.DynCell to place node offset) ways ≡ trail_step (i.DynCell to place node offset) ways
trail-DynCell to place node offset ways = ap (λ (it : Trail). it ways) (fold-DynCell trail_step to place node offset)

pub trail-ReadCell : (to place layout field : ℕ) (index : List ℕ) (ways : Ways) → trail (v.ReadCell to place layout field index) ways ≡ trail_step (i.ReadCell to place layout field index) ways
trail-ReadCell to place layout field index ways = ap (λ (it : Trail). it ways) (fold-ReadCell trail_step to place layout field index)

pub trail-IsActive : (to place : ℕ) (index : List ℕ) (ways : Ways) → trail (v.IsActive to place index) ways ≡ trail_step (i.IsActive to place index) ways
trail-IsActive to place index ways = ap (λ (it : Trail). it ways) (fold-IsActive trail_step to place index)

pub trail-OwnRead : (to layout field : ℕ) (ways : Ways) → trail (v.OwnRead to layout field) ways ≡ trail_step (i.OwnRead to layout field) ways
trail-OwnRead to layout field ways = ap (λ (it : Trail). it ways) (fold-OwnRead trail_step to layout field)

pub trail-OwnWrite : (layout field from stmt : ℕ) (ways : Ways) → trail (v.OwnWrite layout field from stmt) ways ≡ trail_step (i.OwnWrite layout field from stmt) ways
trail-OwnWrite layout field from stmt ways = ap (λ (it : Trail). it ways) (fold-OwnWrite trail_step layout field from stmt)

pub trail-Acc : (op : AccOp) (layout field place from : ℕ) (index : List ℕ) (stmt : ℕ) (ways : Ways) → trail (v.Acc op layout field place from index stmt) ways ≡ trail_step (i.Acc op layout field place from index stmt) ways
trail-Acc op layout field place from index stmt ways = ap (λ (it : Trail). it ways) (fold-Acc trail_step op layout field place from index stmt)

pub trail-Want : (layout : ℕ) (index : List ℕ) (stmt : ℕ) (ways : Ways) → trail (v.Want layout index stmt) ways ≡ trail_step (i.Want layout index stmt) ways
trail-Want layout index stmt ways = ap (λ (it : Trail). it ways) (fold-Want trail_step layout index stmt)

pub trail-If : (cond : ℕ) (block otherwise : List Inst) (ways : Ways) → trail (v.If cond block otherwise) ways ≡ (asked_by block ways ++ asked_by otherwise ways, ways)
trail-If cond block otherwise ways = ap (λ (it : Trail). it ways) (fold-If trail_step cond block otherwise)

pub trail-For : (var : ℕ) (lo hi : ℤ) (body : List Inst) (ways : Ways) → trail (v.For var lo hi body) ways ≡ (asked_by body ways, ways)
trail-For var lo hi body ways = ap (λ (it : Trail). it ways) (fold-For trail_step var lo hi body)

-- a step down asks nothing, and the place that it sets comes from the same root
pub trail-step : (kind : Kind) (to place node offset : ℕ) (ways : Ways) → trail (child_inst kind to place node offset) ways ≡ ([], (to, way_of ways place) ∷ ways)
trail-step Dense to place node offset ways = trail-Child to place node offset ways
trail-step Pointer to place node offset ways = trail-Child to place node offset ways
trail-step Hash to place node offset ways = trail-HashChild to place node offset ways
trail-step Bitmasked to place node offset ways = trail-MaskBit to place node offset ways
trail-step Dynamic to place node offset ways = trail-DynCell to place node offset ways

-- one instruction more
pub asked-more : (block : List Inst) (inst : Inst) (ways : Ways) → asked_by (block ++ inst ∷ []) ways ≡ asked_by block ways ++ (trail inst (ways_after block ways)).0
asked-more [] inst ways = append-nil (trail inst ways).0
asked-more (first ∷ block) inst ways =
    ap (λ (more : List ℕ). (trail first ways).0 ++ more) (asked-more block inst (trail first ways).1)
    ∙ sym (append_assoc (trail first ways).0 (asked_by block (trail first ways).1) (trail inst (ways_after block (trail first ways).1)).0)

pub ways-more : (block : List Inst) (inst : Inst) (ways : Ways) → ways_after (block ++ inst ∷ []) ways ≡ (trail inst (ways_after block ways)).1
ways-more [] inst ways = refl
ways-more (first ∷ block) inst ways = ways-more block inst (trail first ways).1

-- along a chain the same is asked
module _ (regs : List Ty) where
  abbrev Trails : Inst → Type 0
  Trails inst = (rest : Block) (ways : Ways) → asked ways (link regs inst rest) ≡ (trail inst ways).0 ++ asked (trail inst ways).1 rest

  leaf : (inst : Inst) (l : Link) (it : Trail) → link regs inst ≡ l → trail inst ≡ it → ((rest : Block) (ways : Ways) → asked ways (l rest) ≡ (it ways).0 ++ asked (it ways).1 rest) → Trails inst
  leaf inst l it e f h rest ways =
      ap (λ (other : Link). asked ways (other rest)) e ∙ (h rest ways ∙ ap (λ (other : Trail). (other ways).0 ++ asked (other ways).1 rest) (sym f))

  abbrev Listed : List Inst → Type 0
  Listed insts = (rest : Block) (ways : Ways) → asked ways (chained (map (link regs) insts) rest) ≡ asked_by insts ways ++ asked (ways_after insts ways) rest

  by_list : (n : ℕ) → ((inst : Inst) → depth inst < n → Trails inst) → (insts : List Inst) → largest (map depth insts) < n → Listed insts
  by_list n each [] below rest ways = refl
  by_list n each (inst ∷ insts) below rest ways =
      each inst (omega (arith, below)) (chained (map (link regs) insts) rest) ways
      ∙ (ap (λ (more : List ℕ). (trail inst ways).0 ++ more) (by_list n each insts (omega (arith, below)) rest (trail inst ways).1)
      ∙ sym (append_assoc (trail inst ways).0 (asked_by insts (trail inst ways).1) (asked (ways_after insts (trail inst ways).1) rest)))

  alone : (insts : List Inst) → Listed insts → (ways : Ways) → asked ways (chained (map (link regs) insts) End) ≡ asked_by insts ways
  alone insts all ways = all End ways ∙ append-nil (asked_by insts ways)

  by_if : (cond : ℕ) (block otherwise : List Inst) → Listed block → Listed otherwise → (rest : Block) (ways : Ways)
      → asked ways (link_step regs (i.If cond (map (link regs) block) (map (link regs) otherwise)) rest) ≡ (asked_by block ways ++ asked_by otherwise ways) ++ asked ways rest
  by_if cond block otherwise first second rest ways =
      ap (λ (xs : List ℕ). xs ++ (asked ways (chained (map (link regs) otherwise) End) ++ asked ways rest)) (alone block first ways)
      ∙ (ap (λ (xs : List ℕ). asked_by block ways ++ (xs ++ asked ways rest)) (alone otherwise second ways)
      ∙ sym (append_assoc (asked_by block ways) (asked_by otherwise ways) (asked ways rest)))

  by_for : (var : ℕ) (lo hi : ℤ) (body : List Inst) → Listed body → (rest : Block) (ways : Ways)
      → asked ways (link_step regs (i.For var lo hi (map (link regs) body)) rest) ≡ asked_by body ways ++ asked ways rest
  by_for var lo hi body each rest ways = ap (λ (xs : List ℕ). xs ++ asked ways rest) (alone body each ways)

  module _ (n : ℕ) (each : (insts : List Inst) → largest (map depth insts) < n → Listed insts) where
    abbrev Deep : Inst → Type 0
    Deep inst = depth inst < suc n → Trails inst

    by_layer : (layer : Inst-F Inst) → Deep (roll-Inst layer)
    by_layer (i.Const to word) = rw (rolls-Const to word) (λ below. leaf _ _ _ (fold-Const (link_step regs) to word) (fold-Const trail_step to word) (λ rest ways. refl))
    by_layer (i.Var to var) = rw (rolls-Var to var) (λ below. leaf _ _ _ (fold-Var (link_step regs) to var) (fold-Var trail_step to var) (λ rest ways. refl))
    by_layer (i.Set var from) = rw (rolls-Set var from) (λ below. leaf _ _ _ (fold-Set (link_step regs) var from) (fold-Set trail_step var from) (λ rest ways. refl))
    by_layer (i.Bin to op given a b) = rw (rolls-Bin to op given a b) (λ below. leaf _ _ _ (fold-Bin (link_step regs) to op given a b) (fold-Bin trail_step to op given a b) (λ rest ways. refl))
    by_layer (i.Un to op given a) = rw (rolls-Un to op given a) (λ below. leaf _ _ _ (fold-Un (link_step regs) to op given a) (fold-Un trail_step to op given a) (λ rest ways. refl))
    by_layer (i.Mulq to a b s) = rw (rolls-Mulq to a b s) (λ below. leaf _ _ _ (fold-Mulq (link_step regs) to a b s) (fold-Mulq trail_step to a b s) (λ rest ways. refl))
    by_layer (i.Root to layout) = rw (rolls-Root to layout) (λ below. leaf _ _ _ (fold-Root (link_step regs) to layout) (fold-Root trail_step to layout) (λ rest ways. refl))
    by_layer (i.Check to place axis extent index) = rw (rolls-Check to place axis extent index) (λ below. leaf _ _ _ (fold-Check (link_step regs) to place axis extent index) (fold-Check trail_step to place axis extent index) (λ rest ways. refl))
    by_layer (i.Extract to div size from) = rw (rolls-Extract to div size from) (λ below. leaf _ _ _ (fold-Extract (link_step regs) to div size from) (fold-Extract trail_step to div size from) (λ rest ways. refl))
    by_layer (i.Offset to high size low) = rw (rolls-Offset to high size low) (λ below. leaf _ _ _ (fold-Offset (link_step regs) to high size low) (fold-Offset trail_step to high size low) (λ rest ways. refl))
    by_layer (i.Child to place node offset) = rw (rolls-Child to place node offset) (λ below. leaf _ _ _ (fold-Child (link_step regs) to place node offset) (fold-Child trail_step to place node offset) (λ rest ways. refl))
    by_layer (i.HashChild to place node offset) = rw (rolls-HashChild to place node offset) (λ below. leaf _ _ _ (fold-HashChild (link_step regs) to place node offset) (fold-HashChild trail_step to place node offset) (λ rest ways. refl))
    by_layer (i.MaskBit to place node offset) = rw (rolls-MaskBit to place node offset) (λ below. leaf _ _ _ (fold-MaskBit (link_step regs) to place node offset) (fold-MaskBit trail_step to place node offset) (λ rest ways. refl))
    by_layer (i.DynCell to place node offset) = rw (rolls-DynCell to place node offset) (λ below. leaf _ _ _ (fold-DynCell (link_step regs) to place node offset) (fold-DynCell trail_step to place node offset) (λ rest ways. refl))
    by_layer (i.ReadCell to place layout field index) = rw (rolls-ReadCell to place layout field index) (λ below. leaf _ _ _ (fold-ReadCell (link_step regs) to place layout field index) (fold-ReadCell trail_step to place layout field index) (λ rest ways. refl))
    by_layer (i.IsActive to place index) = rw (rolls-IsActive to place index) (λ below. leaf _ _ _ (fold-IsActive (link_step regs) to place index) (fold-IsActive trail_step to place index) (λ rest ways. refl))
    by_layer (i.OwnRead to layout field) = rw (rolls-OwnRead to layout field) (λ below. leaf _ _ _ (fold-OwnRead (link_step regs) to layout field) (fold-OwnRead trail_step to layout field) (λ rest ways. refl))
    by_layer (i.OwnWrite layout field from stmt) = rw (rolls-OwnWrite layout field from stmt) (λ below. leaf _ _ _ (fold-OwnWrite (link_step regs) layout field from stmt) (fold-OwnWrite trail_step layout field from stmt) (λ rest ways. refl))
    by_layer (i.Acc op layout field place from index stmt) = rw (rolls-Acc op layout field place from index stmt) (λ below. leaf _ _ _ (fold-Acc (link_step regs) op layout field place from index stmt) (fold-Acc trail_step op layout field place from index stmt) (λ rest ways. refl))
    by_layer (i.Want layout index stmt) = rw (rolls-Want layout index stmt) (λ below. leaf _ _ _ (fold-Want (link_step regs) layout index stmt) (fold-Want trail_step layout index stmt) (λ rest ways. refl))
    by_layer (i.If cond block otherwise) = rw (rolls-If cond block otherwise) (λ below.
        let under : suc (max (largest (map depth block)) (largest (map depth otherwise))) < suc n = subst (λ (k : ℕ). k < suc n) (fold-If depth_step cond block otherwise) below in
        leaf _ _ _ (fold-If (link_step regs) cond block otherwise) (fold-If trail_step cond block otherwise)
        (by_if cond block otherwise (each block (omega (arith, under))) (each otherwise (omega (arith, under)))))
    by_layer (i.For var lo hi body) = rw (rolls-For var lo hi body) (λ below.
        let under : suc (largest (map depth body)) < suc n = subst (λ (k : ℕ). k < suc n) (fold-For depth_step var lo hi body) below in
        leaf _ _ _ (fold-For (link_step regs) var lo hi body) (fold-For trail_step var lo hi body) (by_for var lo hi body (each body (omega (arith, under)))))

    deeper : (inst : Inst) → Deep inst
    deeper inst = rw (← roll-out-Inst inst) (by_layer (out-Inst inst))

  by_depth : (n : ℕ) (inst : Inst) → depth inst < n → Trails inst
  by_depth zero inst below = absurd (omega (arith, below))
  by_depth (suc n) inst below = deeper n (by_list n (by_depth n)) inst below

  each_list : (insts : List Inst) → Listed insts
  each_list insts = by_list (suc (largest (map depth insts))) (by_depth (suc (largest (map depth insts)))) insts (omega arith)

-- what a list of instructions asks, as its chain and one by one
asked-along : (regs : List Ty) (insts : List Inst) → asked [] (block_of regs insts) ≡ asked_by insts []
asked-along regs insts = alone regs insts (each_list regs insts) []

pub asked-row : (insts : List Inst) → asked_in insts ≡ asked_by insts []
asked-row = asked-along []

-- the types of registers are of no account
pub asked-code : (code : Code) → asked [] (block_in code) ≡ asked_in code.body
asked-code code = asked-along code.regs code.body ∙ sym (asked-row code.body)
