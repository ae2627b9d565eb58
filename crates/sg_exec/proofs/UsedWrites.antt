-- Each write of a run is by a use of its field in the text of the code.
use Rattle.std.proofs.Common.{◌≡◌, ℕ, zero, suc, ◌<◌, max, Bool, true, false, ◌==◌, inl, inr, ◌⊎◌, List, [], ◌∷◌, ◌++◌, map, ℤ, Some, refl, sym, ap, ◌∙◌, subst, arith}
use Rattle.std.specs.Prelude.{if◌then◌else◌, fold, Contains}
use Rattle.std.specs.List.{flat_map}
use Rattle.std.proofs.lemmas.List.Elements.{Contains-append_left, Contains-append_right, Contains-append_cases}
use Rattle.sg_words.specs.Words.{word_of}
use Rattle.sg_words.proofs.Uses.{contains_none, contains_head, contains_cases}
use Rattle.sg_flat.specs.declared.effects.Way.TheVariants.{Own, Acc}
use Rattle.sg_flat.specs.Domain.{numbers}
use Rattle.sg_ir.specs.declared.code.Inst.{Inst, out-Inst, roll-Inst, roll-out-Inst}
use Rattle.sg_ir.specs.declared.code.Inst.TheVariants.{rolls-Const, rolls-Var, rolls-Set, rolls-Bin, rolls-Un, rolls-Mulq, rolls-Root, rolls-Check, rolls-Extract, rolls-Offset, rolls-Child, rolls-HashChild, rolls-MaskBit, rolls-DynCell, rolls-ReadCell, rolls-IsActive, rolls-OwnRead, rolls-OwnWrite, rolls-Acc, rolls-Want, rolls-If, rolls-For}
use Rattle.sg_ir.specs.declared.code.Inst.TheOpen as i
use Rattle.sg_ir.specs.declared.code.Inst.TheOpen.{Inst-F}
use Rattle.sg_ir.specs.Runs.{Seen, Moved, InstAction, CodeWrite, set_var_word, actions_in_turn, inst_step, does, iteration, iteration_start, at_of}
use Rattle.sg_ir.specs.Apt.{Use, Writes, Reads, ReadsOwn, uses_step, uses_in}
use Rattle.sg_ir.proofs.Uses.{fold-Const, fold-Var, fold-Set, fold-Bin, fold-Un, fold-Mulq, fold-Root, fold-Check, fold-Extract, fold-Offset, fold-Child, fold-HashChild, fold-MaskBit, fold-DynCell, fold-ReadCell, fold-IsActive, fold-OwnRead, fold-OwnWrite, fold-Acc, fold-Want, fold-If, fold-For, largest, depth_step, depth}
use Rattle.sg_exec.specs.steps.Machines.{IsAtLoop}
use Rattle.sg_exec.specs.steps.Passes.{uses_of}

-- by which use a write is
abbrev pub use_of : CodeWrite → Use
use_of write = Writes write.layout write.field write.way

pub flat_of_map : {X Y : Type 0} (f : X → List Y) (xs : List X) → flat_map (λ (ys : List Y). ys) (map f xs) ≡ flat_map f xs
flat_of_map f [] = refl
flat_of_map {X} {Y} f (x ∷ xs) = ap (λ (ys : List Y). f x ++ ys) (flat_of_map f xs)

module _ (seen : Seen) where
  -- a write is by one of these uses, and at the loop's coordinate if it is an own one
  abbrev IsBy : List Use → CodeWrite → Type 0
  IsBy uses write = Contains uses (use_of write) × IsAtLoop seen.at write

  -- what an action writes is used, or was written before
  abbrev Used : List Use → InstAction → Type 0
  Used uses act = (now : Moved) (write : CodeWrite) → Contains (act now).writes write → Contains now.writes write ⊎ IsBy uses write

  abbrev UsesIts : Inst → Type 0
  UsesIts inst = Used (uses_of inst) (does seen inst)

  leaf : (inst : Inst) (uses : List Use) (act : InstAction) → uses_of inst ≡ uses → does seen inst ≡ act → Used uses act → UsesIts inst
  leaf inst uses act same is used =
      subst (λ (them : List Use). Used them (does seen inst)) (sym same) (subst (λ (other : InstAction). Used uses other) (sym is) used)

  one : (now : List CodeWrite) (added write : CodeWrite) → IsAtLoop seen.at added → Contains (now ++ added ∷ []) write → Contains now write ⊎ IsBy (use_of added ∷ []) write
  one now added write at has = by (Contains-append_cases now (added ∷ []) write has)
    where
      single : (added ≡ write) ⊎ Contains [] write → IsBy (use_of added ∷ []) write
      single (inl same) = (contains_head (use_of write) (use_of added) [] (ap use_of same), subst (λ (w : CodeWrite). IsAtLoop seen.at w) same at)
      single (inr none) = absurd (contains_none write none)

      by : Contains now write ⊎ Contains (added ∷ []) write → Contains now write ⊎ IsBy (use_of added ∷ []) write
      by (inl before) = inl before
      by (inr new) = inr (single (contains_cases write added [] new))

  abbrev Listed : List Inst → Type 0
  Listed insts = Used (flat_map uses_of insts) (actions_in_turn (map (does seen) insts))

  by_list : (n : ℕ) → ((inst : Inst) → depth inst < n → UsesIts inst) → (insts : List Inst) → largest (map depth insts) < n → Listed insts
  by_list n each [] below now write has = inl has
  by_list n each (inst ∷ insts) below now write has = later (by_list n each insts (omega (arith, below)) (does seen inst now) write has)
    where
      here : Contains now.writes write ⊎ IsBy (uses_of inst) write → Contains now.writes write ⊎ IsBy (uses_of inst ++ flat_map uses_of insts) write
      here (inl before) = inl before
      here (inr used) = inr (Contains-append_left (uses_of inst) (flat_map uses_of insts) (use_of write) used.0, used.1)

      later : Contains (does seen inst now).writes write ⊎ IsBy (flat_map uses_of insts) write → Contains now.writes write ⊎ IsBy (uses_of inst ++ flat_map uses_of insts) write
      later (inl before) = here (each inst (omega (arith, below)) now write before)
      later (inr used) = inr (Contains-append_right (uses_of inst) (flat_map uses_of insts) (use_of write) used.0, used.1)

  by_if : (cond : ℕ) (block otherwise : List Inst) → Listed block → Listed otherwise
      → Used (flat_map uses_of block ++ flat_map uses_of otherwise) (inst_step seen (i.If cond (map (does seen) block) (map (does seen) otherwise)))
  by_if cond block otherwise first second now write = by_test (now.regs cond == 0)
    where
      left : Contains now.writes write ⊎ IsBy (flat_map uses_of block) write → Contains now.writes write ⊎ IsBy (flat_map uses_of block ++ flat_map uses_of otherwise) write
      left (inl before) = inl before
      left (inr used) = inr (Contains-append_left (flat_map uses_of block) (flat_map uses_of otherwise) (use_of write) used.0, used.1)

      right : Contains now.writes write ⊎ IsBy (flat_map uses_of otherwise) write → Contains now.writes write ⊎ IsBy (flat_map uses_of block ++ flat_map uses_of otherwise) write
      right (inl before) = inl before
      right (inr used) = inr (Contains-append_right (flat_map uses_of block) (flat_map uses_of otherwise) (use_of write) used.0, used.1)

      by_test : (test : Bool) → Contains (actions_in_turn (if test then map (does seen) otherwise else map (does seen) block) now).writes write
          → Contains now.writes write ⊎ IsBy (flat_map uses_of block ++ flat_map uses_of otherwise) write
      by_test true has = right (second now write has)
      by_test false has = left (first now write has)

  by_for : (var : ℕ) (lo hi : ℤ) (body : List Inst) → Listed body → Used (flat_map uses_of body) (inst_step seen (i.For var lo hi (map (does seen) body)))
  by_for var lo hi body each now write has = turns (numbers lo hi) now has
    where
      earlier : (z : ℤ) (from : Moved) → Contains (actions_in_turn (map (does seen) body) (set_var_word var (word_of z) from)).writes write ⊎ IsBy (flat_map uses_of body) write
          → Contains from.writes write ⊎ IsBy (flat_map uses_of body) write
      earlier z from (inl before) = each (set_var_word var (word_of z) from) write before
      earlier z from (inr used) = inr used

      turns : (zs : List ℤ) (from : Moved) → Contains (fold (λ reached turn. actions_in_turn (map (does seen) body) (set_var_word var (word_of turn) reached)) from zs).writes write
          → Contains from.writes write ⊎ IsBy (flat_map uses_of body) write
      turns [] from all = inl all
      turns (z ∷ zs) from all = earlier z from (turns zs (actions_in_turn (map (does seen) body) (set_var_word var (word_of z) from)) all)

  module _ (n : ℕ) (each : (insts : List Inst) → largest (map depth insts) < n → Listed insts) where
    abbrev Deep : Inst → Type 0
    Deep inst = depth inst < suc n → UsesIts inst

    by_layer : (layer : Inst-F Inst) → Deep (roll-Inst layer)
    by_layer (i.Const to word) = rw (rolls-Const to word) (λ below. leaf _ [] _ (fold-Const uses_step to word) (fold-Const (inst_step seen) to word) (λ now write has. inl has))
    by_layer (i.Var to var) = rw (rolls-Var to var) (λ below. leaf _ [] _ (fold-Var uses_step to var) (fold-Var (inst_step seen) to var) (λ now write has. inl has))
    by_layer (i.Set var from) = rw (rolls-Set var from) (λ below. leaf _ [] _ (fold-Set uses_step var from) (fold-Set (inst_step seen) var from) (λ now write has. inl has))
    by_layer (i.Bin to how given a b) = rw (rolls-Bin to how given a b) (λ below. leaf _ [] _ (fold-Bin uses_step to how given a b) (fold-Bin (inst_step seen) to how given a b) (λ now write has. inl has))
    by_layer (i.Un to how given a) = rw (rolls-Un to how given a) (λ below. leaf _ [] _ (fold-Un uses_step to how given a) (fold-Un (inst_step seen) to how given a) (λ now write has. inl has))
    by_layer (i.Mulq to a b s) = rw (rolls-Mulq to a b s) (λ below. leaf _ [] _ (fold-Mulq uses_step to a b s) (fold-Mulq (inst_step seen) to a b s) (λ now write has. inl has))
    by_layer (i.Root to layout) = rw (rolls-Root to layout) (λ below. leaf _ [] _ (fold-Root uses_step to layout) (fold-Root (inst_step seen) to layout) (λ now write has. inl has))
    by_layer (i.Check to place axis extent index) = rw (rolls-Check to place axis extent index)
        (λ below. leaf _ [] _ (fold-Check uses_step to place axis extent index) (fold-Check (inst_step seen) to place axis extent index) (λ now write has. inl has))
    by_layer (i.Extract to div size from) = rw (rolls-Extract to div size from) (λ below. leaf _ [] _ (fold-Extract uses_step to div size from) (fold-Extract (inst_step seen) to div size from) (λ now write has. inl has))
    by_layer (i.Offset to high size low) = rw (rolls-Offset to high size low) (λ below. leaf _ [] _ (fold-Offset uses_step to high size low) (fold-Offset (inst_step seen) to high size low) (λ now write has. inl has))
    by_layer (i.Child to place node offset) = rw (rolls-Child to place node offset) (λ below. leaf _ [] _ (fold-Child uses_step to place node offset) (fold-Child (inst_step seen) to place node offset) (λ now write has. inl has))
    by_layer (i.HashChild to place node offset) = rw (rolls-HashChild to place node offset)
        (λ below. leaf _ [] _ (fold-HashChild uses_step to place node offset) (fold-HashChild (inst_step seen) to place node offset) (λ now write has. inl has))
    by_layer (i.MaskBit to place node offset) = rw (rolls-MaskBit to place node offset)
        (λ below. leaf _ [] _ (fold-MaskBit uses_step to place node offset) (fold-MaskBit (inst_step seen) to place node offset) (λ now write has. inl has))
    by_layer (i.DynCell to place node offset) = rw (rolls-DynCell to place node offset)
        (λ below. leaf _ [] _ (fold-DynCell uses_step to place node offset) (fold-DynCell (inst_step seen) to place node offset) (λ now write has. inl has))
    by_layer (i.ReadCell to place layout field index) = rw (rolls-ReadCell to place layout field index)
        (λ below. leaf _ (Reads layout field ∷ []) _ (fold-ReadCell uses_step to place layout field index) (fold-ReadCell (inst_step seen) to place layout field index) (λ now write has. inl has))
    by_layer (i.IsActive to place index) = rw (rolls-IsActive to place index)
        (λ below. leaf _ [] _ (fold-IsActive uses_step to place index) (fold-IsActive (inst_step seen) to place index) (λ now write has. inl has))
    by_layer (i.OwnRead to layout field) = rw (rolls-OwnRead to layout field)
        (λ below. leaf _ (ReadsOwn layout field ∷ []) _ (fold-OwnRead uses_step to layout field) (fold-OwnRead (inst_step seen) to layout field) (λ now write has. inl has))
    by_layer (i.OwnWrite layout field from stmt) = rw (rolls-OwnWrite layout field from stmt)
        (λ below. leaf _ (Writes layout field Own ∷ []) _ (fold-OwnWrite uses_step layout field from stmt) (fold-OwnWrite (inst_step seen) layout field from stmt)
        (λ now write has. one now.writes (record { layout = layout; field = field; stmt = stmt; at = Some seen.at; way = Own; value = now.regs from }) write (λ own. refl) has))
    by_layer (i.Acc how layout field place from index stmt) = rw (rolls-Acc how layout field place from index stmt)
        (λ below. leaf _ (Writes layout field (Acc how) ∷ []) _ (fold-Acc uses_step how layout field place from index stmt) (fold-Acc (inst_step seen) how layout field place from index stmt)
        (λ now write has. one now.writes (record { layout = layout; field = field; stmt = stmt; at = at_of seen.shapes (now.places place); way = Acc how; value = now.regs from }) write (λ own. absurd (cc (own))) has))
    by_layer (i.Want layout index stmt) = rw (rolls-Want layout index stmt) (λ below. leaf _ [] _ (fold-Want uses_step layout index stmt) (fold-Want (inst_step seen) layout index stmt) (λ now write has. inl has))
    by_layer (i.If cond block otherwise) = rw (rolls-If cond block otherwise) (λ below.
        let under : suc (max (largest (map depth block)) (largest (map depth otherwise))) < suc n = subst (λ (k : ℕ). k < suc n) (fold-If depth_step cond block otherwise) below in
        leaf _ (flat_map uses_of block ++ flat_map uses_of otherwise) _
        (fold-If uses_step cond block otherwise ∙ ap (λ (us : List Use). us ++ flat_map (λ (vs : List Use). vs) (map uses_of otherwise)) (flat_of_map uses_of block) ∙ ap (λ (us : List Use). flat_map uses_of block ++ us) (flat_of_map uses_of otherwise))
        (fold-If (inst_step seen) cond block otherwise)
        (by_if cond block otherwise (each block (omega (arith, under))) (each otherwise (omega (arith, under)))))
    by_layer (i.For var lo hi body) = rw (rolls-For var lo hi body) (λ below.
        let under : suc (largest (map depth body)) < suc n = subst (λ (k : ℕ). k < suc n) (fold-For depth_step var lo hi body) below in
        leaf _ (flat_map uses_of body) _ (fold-For uses_step var lo hi body ∙ flat_of_map uses_of body) (fold-For (inst_step seen) var lo hi body) (by_for var lo hi body (each body (omega (arith, under)))))

    deeper : (inst : Inst) → Deep inst
    deeper inst = rw (← roll-out-Inst inst) (by_layer (out-Inst inst))

  by_depth : (n : ℕ) (inst : Inst) → depth inst < n → UsesIts inst
  by_depth zero inst below = absurd (omega (arith, below))
  by_depth (suc n) inst below = deeper n (by_list n (by_depth n)) inst below

  -- each write of an iteration is by a use of the block, and at the loop's coordinate if it is an own one
  pub write_used : (block : List Inst) (write : CodeWrite) → Contains (iteration seen block).writes write → Contains (uses_in block) (use_of write) × IsAtLoop seen.at write
  write_used block write has =
      by (by_list (suc (largest (map depth block))) (by_depth (suc (largest (map depth block)))) block (omega arith) (iteration_start seen) write has)
    where
      by : Contains [] write ⊎ IsBy (uses_in block) write → IsBy (uses_in block) write
      by (inl none) = absurd (contains_none write none)
      by (inr used) = used
