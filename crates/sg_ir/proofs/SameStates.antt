-- Two states with the same values, and the same activity where code asks, have the same iteration.
use Rattle.std.proofs.lemmas.List.Elements.{All-cons, All-nil, All-head, All-tail}
use Rattle.std.proofs.Common.{◌≡◌, ℕ, zero, suc, ◌<◌, max, Bool, true, false, ◌==◌, List, [], ◌∷◌, ◌++◌, map, ℤ, refl, sym, ap, ◌∙◌, subst, arith}
use Rattle.std.specs.Prelude.{if◌then◌else◌, fold, Option, Some, None, All, slice_get}
use Rattle.std.proofs.lemmas.Option.{same_Some}
use Rattle.sg_words.specs.Words.{word_of, flag}
use Rattle.sg_coord.specs.declared.coord.Coord.{Coord}
use Rattle.sg_coord.specs.Coord.{is_inside}
use Rattle.sg_layout.specs.declared.shape.Shape.{Shape}
use Rattle.sg_layout.specs.Axes.{bounds_of_shape}
use Rattle.sg_layout.specs.Path.{offsets}
use Rattle.sg_flat.specs.declared.state.FlatState.{FlatState}
use Rattle.sg_flat.specs.State.{value_of}
use Rattle.sg_flat.specs.Domain.{numbers, is_active}
use Rattle.sg_ir.specs.declared.code.Inst.{Inst, out-Inst, roll-Inst, roll-out-Inst}
use Rattle.sg_ir.specs.declared.code.Inst.TheVariants.{rolls-Const, rolls-Var, rolls-Set, rolls-Bin, rolls-Un, rolls-Mulq, rolls-Root, rolls-Check, rolls-Extract, rolls-Offset, rolls-Child, rolls-HashChild, rolls-MaskBit, rolls-DynCell, rolls-ReadCell, rolls-IsActive, rolls-OwnRead, rolls-OwnWrite, rolls-Acc, rolls-Want, rolls-If, rolls-For}
use Rattle.sg_ir.specs.declared.code.Inst.TheOpen as i
use Rattle.sg_ir.specs.declared.code.Inst.TheOpen.{Inst-F}
use Rattle.sg_ir.specs.Runs.{Seen, Place, Moved, Access, InstAction, set_reg, set_var_word, add_access, actions_in_turn, inst_step, does, iteration, iteration_start, named_by, at_of, cell_value, is_active_place, own_write, value_or_own}
use Rattle.sg_ir.specs.Places.{place_of_coord, place_at}
use Rattle.sg_ir.specs.Named.{IsNamedAccess}
use Rattle.sg_ir.proofs.Chained.{largest, depth_step, depth}
use Rattle.sg_ir.proofs.Folds.{fold-Const, fold-Var, fold-Set, fold-Bin, fold-Un, fold-Mulq, fold-Root, fold-Check, fold-Extract, fold-Offset, fold-Child, fold-HashChild, fold-MaskBit, fold-DynCell, fold-ReadCell, fold-IsActive, fold-OwnRead, fold-OwnWrite, fold-Acc, fold-Want, fold-If, fold-For}

-- the place of a coordinate is in its layout
in_layout : (layout : ℕ) (at : Coord) (there : Place) (shape : Option Shape) → Some there ≡ place_of_coord layout at shape → there.layout ≡ layout
in_layout layout at there None is = absurd (cc)
in_layout layout at there (Some shape) is = by_test (is_inside (bounds_of_shape shape) at) is
  where
    by_test : (inside : Bool) → Some there ≡ (if inside then Some (record { layout = layout; path = offsets shape.nodes at }) else None) → there.layout ≡ layout
    by_test true same = ap (λ (p : Place). p.layout) (same_Some _ _ same)
    by_test false same = absurd (cc)

module _ (shapes : List Shape) (state reached : FlatState) (loop : Coord) (same : (layout field : ℕ) (at : Coord) → value_of shapes state layout field at ≡ value_of shapes reached layout field at) where
  abbrev one : Seen
  one = record { shapes = shapes; state = state; at = loop }

  abbrev other : Seen
  other = record { shapes = shapes; state = reached; at = loop }

  -- an access goes where its registers say, and where it asks, both states have the same activity in its layout
  abbrev pub IsGood : Access → Type 0
  IsGood access = IsNamedAccess shapes access × (access.asks ≡ true → (at : Coord) → is_active state access.layout at ≡ is_active reached access.layout at)

  good_before : (accesses : List Access) (access : Access) → All IsGood (accesses ++ access ∷ []) → All IsGood accesses × IsGood access
  good_before [] access good = (All-nil IsGood, All-head IsGood access [] good)
  good_before (first ∷ accesses) access good =
      let later = good_before accesses access (All-tail IsGood first (accesses ++ access ∷ []) good) in
      (All-cons IsGood first accesses (All-head IsGood first (accesses ++ access ∷ []) good) later.0, later.1)

  -- both actions make the same of a moment, where all accesses behind it are good; then those before it are too
  abbrev Alike : InstAction → InstAction → Type 0
  Alike act act' = (now : Moved) → All IsGood (act now).accesses → (act now ≡ act' now) × All IsGood now.accesses

  abbrev Same : Inst → Type 0
  Same inst = Alike (does one inst) (does other inst)

  leaf : (inst : Inst) (act act' : InstAction) → does one inst ≡ act → does other inst ≡ act' → Alike act act' → Same inst
  leaf inst act act' is is' alike now good =
      let made = alike now (subst (λ (a : InstAction). All IsGood (a now).accesses) is good) in
      (ap (λ (a : InstAction). a now) is ∙ made.0 ∙ sym (ap (λ (a : InstAction). a now) is'), made.1)

  abbrev Listed : List Inst → Type 0
  Listed insts = Alike (actions_in_turn (map (does one) insts)) (actions_in_turn (map (does other) insts))

  by_list : (n : ℕ) → ((inst : Inst) → depth inst < n → Same inst) → (insts : List Inst) → largest (map depth insts) < n → Listed insts
  by_list n each [] below now good = (refl, good)
  by_list n each (inst ∷ insts) below now good =
      let rest = by_list n each insts (omega (arith, below)) (does one inst now) good in
      let first = each inst (omega (arith, below)) now rest.1 in
      (rest.0 ∙ ap (actions_in_turn (map (does other) insts)) first.0, first.1)

  by_if : (cond : ℕ) (block otherwise : List Inst) → Listed block → Listed otherwise
      → Alike (inst_step one (i.If cond (map (does one) block) (map (does one) otherwise))) (inst_step other (i.If cond (map (does other) block) (map (does other) otherwise)))
  by_if cond block otherwise first second now = by_test (now.regs cond == 0)
    where
      by_test : (test : Bool) → All IsGood (actions_in_turn (if test then map (does one) otherwise else map (does one) block) now).accesses
          → (actions_in_turn (if test then map (does one) otherwise else map (does one) block) now ≡ actions_in_turn (if test then map (does other) otherwise else map (does other) block) now) × All IsGood now.accesses
      by_test true = second now
      by_test false = first now

  by_for : (var : ℕ) (lo hi : ℤ) (body : List Inst) → Listed body → Alike (inst_step one (i.For var lo hi (map (does one) body))) (inst_step other (i.For var lo hi (map (does other) body)))
  by_for var lo hi body each now good = turns (numbers lo hi) now good
    where
      turns : (zs : List ℤ) (from : Moved) → All IsGood (fold (λ reached turn. actions_in_turn (map (does one) body) (set_var_word var (word_of turn) reached)) from zs).accesses
          → (fold (λ reached turn. actions_in_turn (map (does one) body) (set_var_word var (word_of turn) reached)) from zs ≡ fold (λ reached turn. actions_in_turn (map (does other) body) (set_var_word var (word_of turn) reached)) from zs) × All IsGood from.accesses
      turns [] from all = (refl, all)
      turns (z ∷ zs) from all =
          let rest = turns zs (actions_in_turn (map (does one) body) (set_var_word var (word_of z) from)) all in
          let first = each (set_var_word var (word_of z) from) rest.1 in
          (rest.0 ∙ ap (λ (m : Moved). fold (λ reached turn. actions_in_turn (map (does other) body) (set_var_word var (word_of turn) reached)) m zs) first.0, first.1)

  cell_same : (layout field : ℕ) (at : Option Coord) → cell_value one layout field at ≡ cell_value other layout field at
  cell_same layout field None = refl
  cell_same layout field (Some at) = same layout field at

  asked_same : (at : Option Coord) (there : Option Place) (layout : ℕ) (named : Coord) → there ≡ place_at shapes layout named → ((c : Coord) → is_active state layout c ≡ is_active reached layout c)
      → is_active_place one at there ≡ is_active_place other at there
  asked_same None there layout named is active = refl
  asked_same (Some at) None layout named is active = refl
  asked_same (Some at) (Some there) layout named is active =
      subst (λ (l : ℕ). is_active state l at ≡ is_active reached l at) (sym (in_layout layout named there (slice_get shapes layout) is)) (active at)

  module _ (n : ℕ) (each : (insts : List Inst) → largest (map depth insts) < n → Listed insts) where
    abbrev Deep : Inst → Type 0
    Deep inst = depth inst < suc n → Same inst

    by_layer : (layer : Inst-F Inst) → Deep (roll-Inst layer)
    by_layer (i.Const to word) = rw (rolls-Const to word) (λ below. leaf _ _ _ (fold-Const (inst_step one) to word) (fold-Const (inst_step other) to word) (λ now good. (refl, good)))
    by_layer (i.Var to var) = rw (rolls-Var to var) (λ below. leaf _ _ _ (fold-Var (inst_step one) to var) (fold-Var (inst_step other) to var) (λ now good. (refl, good)))
    by_layer (i.Set var from) = rw (rolls-Set var from) (λ below. leaf _ _ _ (fold-Set (inst_step one) var from) (fold-Set (inst_step other) var from) (λ now good. (refl, good)))
    by_layer (i.Bin to how given a b) = rw (rolls-Bin to how given a b) (λ below. leaf _ _ _ (fold-Bin (inst_step one) to how given a b) (fold-Bin (inst_step other) to how given a b) (λ now good. (refl, good)))
    by_layer (i.Un to how given a) = rw (rolls-Un to how given a) (λ below. leaf _ _ _ (fold-Un (inst_step one) to how given a) (fold-Un (inst_step other) to how given a) (λ now good. (refl, good)))
    by_layer (i.Mulq to a b s) = rw (rolls-Mulq to a b s) (λ below. leaf _ _ _ (fold-Mulq (inst_step one) to a b s) (fold-Mulq (inst_step other) to a b s) (λ now good. (refl, good)))
    by_layer (i.Root to layout) = rw (rolls-Root to layout) (λ below. leaf _ _ _ (fold-Root (inst_step one) to layout) (fold-Root (inst_step other) to layout) (λ now good. (refl, good)))
    by_layer (i.Check to place axis extent index) = rw (rolls-Check to place axis extent index) (λ below. leaf _ _ _ (fold-Check (inst_step one) to place axis extent index) (fold-Check (inst_step other) to place axis extent index) (λ now good. (refl, good)))
    by_layer (i.Extract to div size from) = rw (rolls-Extract to div size from) (λ below. leaf _ _ _ (fold-Extract (inst_step one) to div size from) (fold-Extract (inst_step other) to div size from) (λ now good. (refl, good)))
    by_layer (i.Offset to high size low) = rw (rolls-Offset to high size low) (λ below. leaf _ _ _ (fold-Offset (inst_step one) to high size low) (fold-Offset (inst_step other) to high size low) (λ now good. (refl, good)))
    by_layer (i.Child to place node offset) = rw (rolls-Child to place node offset) (λ below. leaf _ _ _ (fold-Child (inst_step one) to place node offset) (fold-Child (inst_step other) to place node offset) (λ now good. (refl, good)))
    by_layer (i.HashChild to place node offset) = rw (rolls-HashChild to place node offset) (λ below. leaf _ _ _ (fold-HashChild (inst_step one) to place node offset) (fold-HashChild (inst_step other) to place node offset) (λ now good. (refl, good)))
    by_layer (i.MaskBit to place node offset) = rw (rolls-MaskBit to place node offset) (λ below. leaf _ _ _ (fold-MaskBit (inst_step one) to place node offset) (fold-MaskBit (inst_step other) to place node offset) (λ now good. (refl, good)))
    by_layer (i.DynCell to place node offset) = rw (rolls-DynCell to place node offset) (λ below. leaf _ _ _ (fold-DynCell (inst_step one) to place node offset) (fold-DynCell (inst_step other) to place node offset) (λ now good. (refl, good)))
    by_layer (i.OwnWrite layout field from stmt) = rw (rolls-OwnWrite layout field from stmt) (λ below. leaf _ _ _ (fold-OwnWrite (inst_step one) layout field from stmt) (fold-OwnWrite (inst_step other) layout field from stmt) (λ now good. (refl, good)))
    by_layer (i.Want layout index stmt) = rw (rolls-Want layout index stmt) (λ below. leaf _ _ _ (fold-Want (inst_step one) layout index stmt) (fold-Want (inst_step other) layout index stmt) (λ now good. (refl, good)))
    by_layer (i.ReadCell to place layout field index) = rw (rolls-ReadCell to place layout field index) (λ below. leaf _ _ _ (fold-ReadCell (inst_step one) to place layout field index) (fold-ReadCell (inst_step other) to place layout field index)
        (λ now good. (
          ap (λ (word : ℕ). set_reg to word (add_access (record { asks = false; layout = layout; place = now.places place; at = named_by index now }) now)) (cell_same layout field (at_of shapes (now.places place))),
          (good_before now.accesses (record { asks = false; layout = layout; place = now.places place; at = named_by index now }) good).0,
        )))
    by_layer (i.IsActive to place index) = rw (rolls-IsActive to place index) (λ below. leaf _ _ _ (fold-IsActive (inst_step one) to place index) (fold-IsActive (inst_step other) to place index)
        (λ now good.
        let parts = good_before now.accesses (record { asks = true; layout = now.roots place; place = now.places place; at = named_by index now }) good in (
          ap (λ (active : Bool). set_reg to (flag active) (add_access (record { asks = true; layout = now.roots place; place = now.places place; at = named_by index now }) now))
              (asked_same (at_of shapes (now.places place)) (now.places place) (now.roots place) (named_by index now) parts.1.0 (parts.1.1 refl)),
          parts.0,
        )))
    by_layer (i.OwnRead to layout field) = rw (rolls-OwnRead to layout field) (λ below. leaf _ _ _ (fold-OwnRead (inst_step one) to layout field) (fold-OwnRead (inst_step other) to layout field)
        (λ now good. (ap (λ (word : ℕ). set_reg to (value_or_own (own_write layout field now.writes) word) now) (same layout field loop), good)))
    by_layer (i.Acc how layout field place from index stmt) = rw (rolls-Acc how layout field place from index stmt) (λ below. leaf _ _ _ (fold-Acc (inst_step one) how layout field place from index stmt) (fold-Acc (inst_step other) how layout field place from index stmt)
        (λ now good. (refl, (good_before now.accesses (record { asks = false; layout = layout; place = now.places place; at = named_by index now }) good).0)))
    by_layer (i.If cond block otherwise) = rw (rolls-If cond block otherwise) (λ below.
        let under : suc (max (largest (map depth block)) (largest (map depth otherwise))) < suc n = subst (λ (k : ℕ). k < suc n) (fold-If depth_step cond block otherwise) below in
        leaf _ _ _ (fold-If (inst_step one) cond block otherwise) (fold-If (inst_step other) cond block otherwise)
        (by_if cond block otherwise (each block (omega (arith, under))) (each otherwise (omega (arith, under)))))
    by_layer (i.For var lo hi body) = rw (rolls-For var lo hi body) (λ below.
        let under : suc (largest (map depth body)) < suc n = subst (λ (k : ℕ). k < suc n) (fold-For depth_step var lo hi body) below in
        leaf _ _ _ (fold-For (inst_step one) var lo hi body) (fold-For (inst_step other) var lo hi body) (by_for var lo hi body (each body (omega (arith, under)))))

    deeper : (inst : Inst) → Deep inst
    deeper inst = rw (← roll-out-Inst inst) (by_layer (out-Inst inst))

  by_depth : (n : ℕ) (inst : Inst) → depth inst < n → Same inst
  by_depth zero inst below = absurd (omega (arith, below))
  by_depth (suc n) inst below = deeper n (by_list n (by_depth n)) inst below

  pub same_iteration : (block : List Inst) → All IsGood (iteration one block).accesses → iteration one block ≡ iteration other block
  same_iteration block good = (by_list (suc (largest (map depth block))) (by_depth (suc (largest (map depth block)))) block (omega arith) (iteration_start one) good).0
