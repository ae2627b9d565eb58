-- What a run accesses begins with what was accessed before: where all of it is named, so is what came before.
use Rattle.std.proofs.lemmas.List.Elements.{All-cons, All-nil, All-head, All-tail}
use Rattle.std.proofs.Common.{◌≡◌, ℕ, zero, suc, ◌<◌, max, Bool, true, false, ◌==◌, List, [], ◌∷◌, ◌++◌, map, ℤ, subst, arith}
use Rattle.std.specs.Prelude.{if◌then◌else◌, fold}
use Rattle.sg_words.specs.Words.{word_of}
use Rattle.sg_flat.specs.Domain.{numbers}
use Rattle.sg_store.specs.StoreWords.{StoreWords}
use Rattle.sg_ir.specs.declared.code.Inst.{Inst, fold-Inst, out-Inst, roll-Inst, roll-out-Inst}
use Rattle.sg_ir.specs.declared.code.Inst.TheVariants.{rolls-Const, rolls-Var, rolls-Set, rolls-Bin, rolls-Un, rolls-Mulq, rolls-Root, rolls-Check, rolls-Extract, rolls-Offset, rolls-Child, rolls-HashChild, rolls-MaskBit, rolls-DynCell, rolls-ReadCell, rolls-IsActive, rolls-OwnRead, rolls-OwnWrite, rolls-Acc, rolls-Want, rolls-If, rolls-For}
use Rattle.sg_ir.specs.declared.code.Inst.TheOpen as i
use Rattle.sg_ir.specs.declared.code.Inst.TheOpen.{Inst-F}
use Rattle.sg_ir.specs.Runs.{Seen, Moved, Access, InstAction, set_var_word, actions_in_turn, inst_step, does, named_by}
use Rattle.sg_ir.specs.Named.{IsNamedAccess, AreNamed}
use Rattle.sg_ir.proofs.Uses.{fold-Const, fold-Var, fold-Set, fold-Bin, fold-Un, fold-Mulq, fold-Root, fold-Check, fold-Extract, fold-Offset, fold-Child, fold-HashChild, fold-MaskBit, fold-DynCell, fold-ReadCell, fold-IsActive, fold-OwnRead, fold-OwnWrite, fold-Acc, fold-Want, fold-If, fold-For}
use Rattle.sg_exec.specs.Standing.{shapes_of}

-- all accesses but the last are named, and the last is
pub named_before : (stores : List StoreWords) (accesses : List Access) (access : Access) → AreNamed (shapes_of stores) (accesses ++ access ∷ []) → AreNamed (shapes_of stores) accesses × IsNamedAccess (shapes_of stores) access
named_before stores [] access named = (All-nil _, All-head (IsNamedAccess (shapes_of stores)) access [] named)
named_before stores (first ∷ accesses) access named =
    let later = named_before stores accesses access (All-tail (IsNamedAccess (shapes_of stores)) first (accesses ++ access ∷ []) named) in
    (All-cons (IsNamedAccess (shapes_of stores)) first accesses (All-head (IsNamedAccess (shapes_of stores)) first (accesses ++ access ∷ []) named) later.0, later.1)

-- how deep blocks nest in an instruction
abbrev largest : List ℕ → ℕ
largest [] = 0
largest (n ∷ ns) = max n (largest ns)

abbrev depth_step : Inst-F ℕ → ℕ
depth_step (i.If cond block otherwise) = suc (max (largest block) (largest otherwise))
depth_step (i.For var lo hi body) = suc (largest body)
depth_step _ = 0

abbrev depth : Inst → ℕ
depth = fold-Inst ℕ depth_step

module _ (stores : List StoreWords) (seen : Seen) where
  -- if all is named after an action, it was before
  abbrev Kept : InstAction → Type 0
  Kept act = (now : Moved) → AreNamed (shapes_of stores) (act now).accesses → AreNamed (shapes_of stores) now.accesses

  abbrev Keeps : Inst → Type 0
  Keeps inst = Kept (does seen inst)

  leaf : (inst : Inst) (act : InstAction) → does seen inst ≡ act → Kept act → Keeps inst
  leaf inst act is kept now named = kept now (subst (λ (other : InstAction). AreNamed (shapes_of stores) (other now).accesses) is named)

  abbrev Listed : List Inst → Type 0
  Listed insts = Kept (actions_in_turn (map (does seen) insts))

  by_list : (n : ℕ) → ((inst : Inst) → depth inst < n → Keeps inst) → (insts : List Inst) → largest (map depth insts) < n → Listed insts
  by_list n each [] below now named = named
  by_list n each (inst ∷ insts) below now named =
      each inst (omega (arith, below)) now (by_list n each insts (omega (arith, below)) (does seen inst now) named)

  by_if : (cond : ℕ) (block otherwise : List Inst) → Listed block → Listed otherwise → Kept (inst_step seen (i.If cond (map (does seen) block) (map (does seen) otherwise)))
  by_if cond block otherwise first second now = by_test (now.regs cond == 0)
    where
      by_test : (test : Bool) → AreNamed (shapes_of stores) (actions_in_turn (if test then map (does seen) otherwise else map (does seen) block) now).accesses → AreNamed (shapes_of stores) now.accesses
      by_test true = second now
      by_test false = first now

  by_for : (var : ℕ) (lo hi : ℤ) (body : List Inst) → Listed body → Kept (inst_step seen (i.For var lo hi (map (does seen) body)))
  by_for var lo hi body each now named = turns (numbers lo hi) now named
    where
      turns : (zs : List ℤ) (from : Moved) → AreNamed (shapes_of stores) (fold (λ reached turn. actions_in_turn (map (does seen) body) (set_var_word var (word_of turn) reached)) from zs).accesses → AreNamed (shapes_of stores) from.accesses
      turns [] from all = all
      turns (z ∷ zs) from all = each (set_var_word var (word_of z) from) (turns zs (actions_in_turn (map (does seen) body) (set_var_word var (word_of z) from)) all)

  module _ (n : ℕ) (each : (insts : List Inst) → largest (map depth insts) < n → Listed insts) where
    abbrev Deep : Inst → Type 0
    Deep inst = depth inst < suc n → Keeps inst

    by_layer : (layer : Inst-F Inst) → Deep (roll-Inst layer)
    by_layer (i.Const to word) = rw (rolls-Const to word) (λ below. leaf _ _ (fold-Const (inst_step seen) to word) (λ now named. named))
    by_layer (i.Var to var) = rw (rolls-Var to var) (λ below. leaf _ _ (fold-Var (inst_step seen) to var) (λ now named. named))
    by_layer (i.Set var from) = rw (rolls-Set var from) (λ below. leaf _ _ (fold-Set (inst_step seen) var from) (λ now named. named))
    by_layer (i.Bin to how given a b) = rw (rolls-Bin to how given a b) (λ below. leaf _ _ (fold-Bin (inst_step seen) to how given a b) (λ now named. named))
    by_layer (i.Un to how given a) = rw (rolls-Un to how given a) (λ below. leaf _ _ (fold-Un (inst_step seen) to how given a) (λ now named. named))
    by_layer (i.Mulq to a b s) = rw (rolls-Mulq to a b s) (λ below. leaf _ _ (fold-Mulq (inst_step seen) to a b s) (λ now named. named))
    by_layer (i.Root to layout) = rw (rolls-Root to layout) (λ below. leaf _ _ (fold-Root (inst_step seen) to layout) (λ now named. named))
    by_layer (i.Check to place axis extent index) = rw (rolls-Check to place axis extent index) (λ below. leaf _ _ (fold-Check (inst_step seen) to place axis extent index) (λ now named. named))
    by_layer (i.Extract to div size from) = rw (rolls-Extract to div size from) (λ below. leaf _ _ (fold-Extract (inst_step seen) to div size from) (λ now named. named))
    by_layer (i.Offset to high size low) = rw (rolls-Offset to high size low) (λ below. leaf _ _ (fold-Offset (inst_step seen) to high size low) (λ now named. named))
    by_layer (i.Child to place node offset) = rw (rolls-Child to place node offset) (λ below. leaf _ _ (fold-Child (inst_step seen) to place node offset) (λ now named. named))
    by_layer (i.HashChild to place node offset) = rw (rolls-HashChild to place node offset) (λ below. leaf _ _ (fold-HashChild (inst_step seen) to place node offset) (λ now named. named))
    by_layer (i.MaskBit to place node offset) = rw (rolls-MaskBit to place node offset) (λ below. leaf _ _ (fold-MaskBit (inst_step seen) to place node offset) (λ now named. named))
    by_layer (i.DynCell to place node offset) = rw (rolls-DynCell to place node offset) (λ below. leaf _ _ (fold-DynCell (inst_step seen) to place node offset) (λ now named. named))
    by_layer (i.ReadCell to place layout field index) = rw (rolls-ReadCell to place layout field index) (λ below. leaf _ _ (fold-ReadCell (inst_step seen) to place layout field index)
        (λ now named. (named_before stores now.accesses (record { asks = false; layout = layout; place = now.places place; at = named_by index now }) named).0))
    by_layer (i.IsActive to place index) = rw (rolls-IsActive to place index) (λ below. leaf _ _ (fold-IsActive (inst_step seen) to place index)
        (λ now named. (named_before stores now.accesses (record { asks = true; layout = now.roots place; place = now.places place; at = named_by index now }) named).0))
    by_layer (i.OwnRead to layout field) = rw (rolls-OwnRead to layout field) (λ below. leaf _ _ (fold-OwnRead (inst_step seen) to layout field) (λ now named. named))
    by_layer (i.OwnWrite layout field from stmt) = rw (rolls-OwnWrite layout field from stmt) (λ below. leaf _ _ (fold-OwnWrite (inst_step seen) layout field from stmt) (λ now named. named))
    by_layer (i.Acc how layout field place from index stmt) = rw (rolls-Acc how layout field place from index stmt) (λ below. leaf _ _ (fold-Acc (inst_step seen) how layout field place from index stmt)
        (λ now named. (named_before stores now.accesses (record { asks = false; layout = layout; place = now.places place; at = named_by index now }) named).0))
    by_layer (i.Want layout index stmt) = rw (rolls-Want layout index stmt) (λ below. leaf _ _ (fold-Want (inst_step seen) layout index stmt) (λ now named. named))
    by_layer (i.If cond block otherwise) = rw (rolls-If cond block otherwise) (λ below.
        let under : suc (max (largest (map depth block)) (largest (map depth otherwise))) < suc n = subst (λ (k : ℕ). k < suc n) (fold-If depth_step cond block otherwise) below in
        leaf _ _ (fold-If (inst_step seen) cond block otherwise)
        (by_if cond block otherwise (each block (omega (arith, under))) (each otherwise (omega (arith, under)))))
    by_layer (i.For var lo hi body) = rw (rolls-For var lo hi body) (λ below.
        let under : suc (largest (map depth body)) < suc n = subst (λ (k : ℕ). k < suc n) (fold-For depth_step var lo hi body) below in
        leaf _ _ (fold-For (inst_step seen) var lo hi body) (by_for var lo hi body (each body (omega (arith, under)))))

    deeper : (inst : Inst) → Deep inst
    deeper inst = rw (← roll-out-Inst inst) (by_layer (out-Inst inst))

  by_depth : (n : ℕ) (inst : Inst) → depth inst < n → Keeps inst
  by_depth zero inst below = absurd (omega (arith, below))
  by_depth (suc n) inst below = deeper n (by_list n (by_depth n)) inst below

  pub named_earlier : (inst : Inst) (now : Moved) → AreNamed (shapes_of stores) (does seen inst now).accesses → AreNamed (shapes_of stores) now.accesses
  named_earlier inst = by_depth (suc (depth inst)) inst (omega arith)
