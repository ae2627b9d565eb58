-- A run of a chain is that of its instructions.
use Rattle.std.specs.Prelude.{◌≡◌, refl, ℕ, zero, suc, ◌<◌, max, ◌==◌, Bool, true, false, if◌then◌else◌, List, [], ◌∷◌, map, fold, ℤ}
use Rattle.std.proofs.Common.{arith, sym, ap, subst, ◌∙◌}
use Rattle.sg_words.specs.declared.operators.Ty.{Ty}
use Rattle.sg_words.specs.Words.{word_of}
use Rattle.sg_flat.specs.Domain.{numbers}
use Rattle.sg_ir.specs.declared.code.Inst.{Inst, fold-Inst, out-Inst, roll-Inst, roll-out-Inst}
use Rattle.sg_ir.specs.declared.code.Inst.TheVariants.{rolls-Const, rolls-Var, rolls-Set, rolls-Bin, rolls-Un, rolls-Mulq, rolls-Root, rolls-Check, rolls-Extract, rolls-Offset, rolls-Child, rolls-HashChild, rolls-MaskBit, rolls-DynCell, rolls-ReadCell, rolls-IsActive, rolls-OwnRead, rolls-OwnWrite, rolls-Acc, rolls-Want, rolls-If, rolls-For}
use Rattle.sg_ir.specs.declared.code.Inst.TheOpen as i
use Rattle.sg_ir.specs.declared.code.Inst.TheOpen.{Inst-F}
use Rattle.sg_ir.specs.Runs.{Seen, Moved, InstAction, set_var_word, actions_in_turn, inst_step, does, runs}
use Rattle.sg_ir.specs.Blocks.{Block, End, Link, chained, link_step, link, block_of}
use Rattle.sg_ir.specs.Flat.{goes}
use Rattle.sg_ir.proofs.Folds.{fold-Const, fold-Var, fold-Set, fold-Bin, fold-Un, fold-Mulq, fold-Root, fold-Check, fold-Extract, fold-Offset, fold-Child, fold-HashChild, fold-MaskBit, fold-DynCell, fold-ReadCell, fold-IsActive, fold-OwnRead, fold-OwnWrite, fold-Acc, fold-Want, fold-If, fold-For}

-- how deep blocks nest in an instruction
abbrev pub largest : List ℕ → ℕ
largest [] = 0
largest (n ∷ ns) = max n (largest ns)

abbrev pub depth_step : Inst-F ℕ → ℕ
depth_step (i.If cond block otherwise) = suc (max (largest block) (largest otherwise))
depth_step (i.For var lo hi body) = suc (largest body)
depth_step _ = 0

abbrev pub depth : Inst → ℕ
depth = fold-Inst ℕ depth_step

fold_same : {A X : Type 0} (f g : A → X → A) → ((a : A) (x : X) → f a x ≡ g a x) → (a : A) (xs : List X) → fold f a xs ≡ fold g a xs
fold_same f g same a [] = refl
fold_same f g same a (x ∷ xs) = ap (λ b. fold f b xs) (same a x) ∙ fold_same f g same (g a x) xs

module _ (seen : Seen) (regs : List Ty) where
  -- one instruction in front of a chain
  abbrev Goes : Inst → Type 0
  Goes inst = (rest : Block) (now : Moved) → goes seen (link regs inst rest) now ≡ goes seen rest (does seen inst now)

  leaf : (inst : Inst) (l : Link) (act : InstAction) → link regs inst ≡ l → does seen inst ≡ act → ((rest : Block) (now : Moved) → goes seen (l rest) now ≡ goes seen rest (act now)) → Goes inst
  leaf inst l act e f h rest now = ap (λ (other : Link). goes seen (other rest) now) e ∙ (h rest now ∙ ap (λ (other : InstAction). goes seen rest (other now)) (sym f))

  abbrev Listed : List Inst → Type 0
  Listed insts = (rest : Block) (now : Moved) → goes seen (chained (map (link regs) insts) rest) now ≡ goes seen rest (actions_in_turn (map (does seen) insts) now)

  by_list : (n : ℕ) → ((inst : Inst) → depth inst < n → Goes inst) → (insts : List Inst) → largest (map depth insts) < n → Listed insts
  by_list n each [] below rest now = refl
  by_list n each (inst ∷ insts) below rest now =
      each inst (omega (arith, below)) (chained (map (link regs) insts) rest) now ∙ by_list n each insts (omega (arith, below)) rest (does seen inst now)

  by_if : (cond : ℕ) (block otherwise : List Inst) → Listed block → Listed otherwise → (rest : Block) (now : Moved) →
      goes seen (link_step regs (i.If cond (map (link regs) block) (map (link regs) otherwise)) rest) now ≡ goes seen rest (inst_step seen (i.If cond (map (does seen) block) (map (does seen) otherwise)) now)
  by_if cond block otherwise first second rest now = ap (goes seen rest) (by_test (now.regs cond == 0))
    where
      by_test : (test : Bool) → (if test then goes seen (chained (map (link regs) otherwise) End) now else goes seen (chained (map (link regs) block) End) now) ≡ actions_in_turn (if test then map (does seen) otherwise else map (does seen) block) now
      by_test true = second End now
      by_test false = first End now

  by_for : (var : ℕ) (lo hi : ℤ) (body : List Inst) → Listed body → (rest : Block) (now : Moved) →
      goes seen (link_step regs (i.For var lo hi (map (link regs) body)) rest) now ≡ goes seen rest (inst_step seen (i.For var lo hi (map (does seen) body)) now)
  by_for var lo hi body each rest now =
      ap (goes seen rest) (fold_same (λ (reached : Moved) (turn : ℤ). goes seen (chained (map (link regs) body) End) (set_var_word var (word_of turn) reached)) (λ (reached : Moved) (turn : ℤ). actions_in_turn (map (does seen) body) (set_var_word var (word_of turn) reached))
      (λ reached turn. each End (set_var_word var (word_of turn) reached)) now (numbers lo hi))

  module _ (n : ℕ) (each : (insts : List Inst) → largest (map depth insts) < n → Listed insts) where
    abbrev Deep : Inst → Type 0
    Deep inst = depth inst < suc n → Goes inst

    by_layer : (layer : Inst-F Inst) → Deep (roll-Inst layer)
    by_layer (i.Const to word) = rw (rolls-Const to word) (λ below. leaf _ _ _ (fold-Const (link_step regs) to word) (fold-Const (inst_step seen) to word) (λ rest now. refl))
    by_layer (i.Var to var) = rw (rolls-Var to var) (λ below. leaf _ _ _ (fold-Var (link_step regs) to var) (fold-Var (inst_step seen) to var) (λ rest now. refl))
    by_layer (i.Set var from) = rw (rolls-Set var from) (λ below. leaf _ _ _ (fold-Set (link_step regs) var from) (fold-Set (inst_step seen) var from) (λ rest now. refl))
    by_layer (i.Bin to how given a b) = rw (rolls-Bin to how given a b) (λ below. leaf _ _ _ (fold-Bin (link_step regs) to how given a b) (fold-Bin (inst_step seen) to how given a b) (λ rest now. refl))
    by_layer (i.Un to how given a) = rw (rolls-Un to how given a) (λ below. leaf _ _ _ (fold-Un (link_step regs) to how given a) (fold-Un (inst_step seen) to how given a) (λ rest now. refl))
    by_layer (i.Mulq to a b s) = rw (rolls-Mulq to a b s) (λ below. leaf _ _ _ (fold-Mulq (link_step regs) to a b s) (fold-Mulq (inst_step seen) to a b s) (λ rest now. refl))
    by_layer (i.Root to layout) = rw (rolls-Root to layout) (λ below. leaf _ _ _ (fold-Root (link_step regs) to layout) (fold-Root (inst_step seen) to layout) (λ rest now. refl))
    by_layer (i.Check to place axis extent index) = rw (rolls-Check to place axis extent index) (λ below. leaf _ _ _ (fold-Check (link_step regs) to place axis extent index) (fold-Check (inst_step seen) to place axis extent index) (λ rest now. refl))
    by_layer (i.Extract to div size from) = rw (rolls-Extract to div size from) (λ below. leaf _ _ _ (fold-Extract (link_step regs) to div size from) (fold-Extract (inst_step seen) to div size from) (λ rest now. refl))
    by_layer (i.Offset to high size low) = rw (rolls-Offset to high size low) (λ below. leaf _ _ _ (fold-Offset (link_step regs) to high size low) (fold-Offset (inst_step seen) to high size low) (λ rest now. refl))
    by_layer (i.Child to place node offset) = rw (rolls-Child to place node offset) (λ below. leaf _ _ _ (fold-Child (link_step regs) to place node offset) (fold-Child (inst_step seen) to place node offset) (λ rest now. refl))
    by_layer (i.HashChild to place node offset) = rw (rolls-HashChild to place node offset) (λ below. leaf _ _ _ (fold-HashChild (link_step regs) to place node offset) (fold-HashChild (inst_step seen) to place node offset) (λ rest now. refl))
    by_layer (i.MaskBit to place node offset) = rw (rolls-MaskBit to place node offset) (λ below. leaf _ _ _ (fold-MaskBit (link_step regs) to place node offset) (fold-MaskBit (inst_step seen) to place node offset) (λ rest now. refl))
    by_layer (i.DynCell to place node offset) = rw (rolls-DynCell to place node offset) (λ below. leaf _ _ _ (fold-DynCell (link_step regs) to place node offset) (fold-DynCell (inst_step seen) to place node offset) (λ rest now. refl))
    by_layer (i.ReadCell to place layout field index) = rw (rolls-ReadCell to place layout field index) (λ below. leaf _ _ _ (fold-ReadCell (link_step regs) to place layout field index) (fold-ReadCell (inst_step seen) to place layout field index) (λ rest now. refl))
    by_layer (i.IsActive to place index) = rw (rolls-IsActive to place index) (λ below. leaf _ _ _ (fold-IsActive (link_step regs) to place index) (fold-IsActive (inst_step seen) to place index) (λ rest now. refl))
    by_layer (i.OwnRead to layout field) = rw (rolls-OwnRead to layout field) (λ below. leaf _ _ _ (fold-OwnRead (link_step regs) to layout field) (fold-OwnRead (inst_step seen) to layout field) (λ rest now. refl))
    by_layer (i.OwnWrite layout field from stmt) = rw (rolls-OwnWrite layout field from stmt) (λ below. leaf _ _ _ (fold-OwnWrite (link_step regs) layout field from stmt) (fold-OwnWrite (inst_step seen) layout field from stmt) (λ rest now. refl))
    by_layer (i.Acc how layout field place from index stmt) = rw (rolls-Acc how layout field place from index stmt) (λ below. leaf _ _ _ (fold-Acc (link_step regs) how layout field place from index stmt) (fold-Acc (inst_step seen) how layout field place from index stmt) (λ rest now. refl))
    by_layer (i.Want layout index stmt) = rw (rolls-Want layout index stmt) (λ below. leaf _ _ _ (fold-Want (link_step regs) layout index stmt) (fold-Want (inst_step seen) layout index stmt) (λ rest now. refl))
    by_layer (i.If cond block otherwise) = rw (rolls-If cond block otherwise) (λ below.
        let under : suc (max (largest (map depth block)) (largest (map depth otherwise))) < suc n = subst (λ (k : ℕ). k < suc n) (fold-If depth_step cond block otherwise) below in
        leaf _ _ _ (fold-If (link_step regs) cond block otherwise) (fold-If (inst_step seen) cond block otherwise)
        (by_if cond block otherwise (each block (omega (arith, under))) (each otherwise (omega (arith, under)))))
    by_layer (i.For var lo hi body) = rw (rolls-For var lo hi body) (λ below.
        let under : suc (largest (map depth body)) < suc n = subst (λ (k : ℕ). k < suc n) (fold-For depth_step var lo hi body) below in
        leaf _ _ _ (fold-For (link_step regs) var lo hi body) (fold-For (inst_step seen) var lo hi body) (by_for var lo hi body (each body (omega (arith, under)))))

    by_inst : (inst : Inst) → Deep inst
    by_inst inst = rw (← roll-out-Inst inst) (by_layer (out-Inst inst))

  goes-inst : (n : ℕ) (inst : Inst) → depth inst < n → Goes inst
  goes-inst zero inst below = absurd (omega (arith, below))
  goes-inst (suc n) inst below = by_inst n (by_list n (goes-inst n)) inst below

  -- a run of a code's chain is the run of its instructions
  pub goes-runs : (insts : List Inst) (now : Moved) → goes seen (block_of regs insts) now ≡ runs seen insts now
  goes-runs insts now = by_list (suc (largest (map depth insts))) (goes-inst (suc (largest (map depth insts)))) insts (omega arith) End now
