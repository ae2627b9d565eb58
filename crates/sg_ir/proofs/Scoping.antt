-- The scope after instructions, by what each leaves set.
use Rattle.std.proofs.Common.{zero, suc, take, slice_get, ◌++◌, Bor, ◌≡◌, ℕ, Bool, true, false, ◌&&◌, ◌||◌, ◌==◌, List, [], ◌∷◌, map, Option, Some, None, refl, sym, ap, ◌∙◌, ℤ, arith}
use Rattle.std.specs.List.{list_any, fold}
use Rattle.std.specs.Prelude.{if◌then◌else◌}
use Rattle.std.proofs.lemmas.Bool.Decides.{nat_tests}
use mathlib.Core.Path.{fun_ext}
use Rattle.sg_words.specs.declared.operators.Ty.{Ty}
use Rattle.sg_words.specs.declared.operators.BinOp.{BinOp}
use Rattle.sg_words.specs.declared.operators.UnOp.{UnOp}
use Rattle.sg_words.specs.declared.operators.AccOp.{AccOp}
use Rattle.sg_ir.specs.declared.code.Inst.{Inst}
use Rattle.sg_ir.specs.declared.code.Inst.TheVariants as v
use Rattle.sg_ir.specs.declared.settings.Target.{Target}
use Rattle.sg_ir.specs.declared.settings.Target.TheVariants as t
use Rattle.sg_ir.specs.declared.before.Before.{Before, fold-roll-Before}
use Rattle.sg_ir.specs.declared.before.Before.TheOpen as b
use Rattle.sg_ir.specs.declared.before.Before.TheOpen.{Before-F}
use Rattle.sg_ir.specs.declared.before.Before.TheVariants as bv
use Rattle.sg_ir.specs.declared.before.Before.TheVariants.{rolls-Block, rolls-Loop, rolls-Start}
use Rattle.sg_ir.specs.declared.before.Origin.{Origin}
use Rattle.sg_ir.specs.declared.before.Origin.TheVariants as o
use Rattle.sg_ir.specs.declared.before.Passed.{Passed}
use Rattle.sg_ir.specs.Runs.{put}
use Rattle.sg_ir.specs.WellTyped.{Frame, Scope, KnownPlace, Judge, judge_step, judges, judged, with_reg, with_place, with_var, goes_on, holds_of, is_i32}
use Rattle.sg_ir.specs.steps.Targets.{is_setting, set_name_of, settings_of, left_step, left, leaves}
use Rattle.sg_ir.specs.steps.Scopes.{KnownPlaces, origin_step, origin, known_from, settled, passed_on, places_then, place_step, places_after, known_by_check, scope_with, scope_at, set_step, set_before, before_step, places_before}
use Rattle.sg_ir.proofs.Folds.{fold-Const, fold-Var, fold-Set, fold-Bin, fold-Un, fold-Mulq, fold-Root, fold-Check, fold-Extract, fold-Offset, fold-Child, fold-HashChild, fold-MaskBit, fold-DynCell, fold-ReadCell, fold-IsActive, fold-OwnRead, fold-OwnWrite, fold-Acc, fold-Want, fold-If, fold-For}
use Rattle.sg_ir.proofs.Judging.{judged-more, judges-Const, judges-Var, judges-Set, judges-Bin, judges-Un, judges-Mulq, judges-Root, judges-Check, judges-Extract, judges-Offset, judges-Child, judges-HashChild, judges-MaskBit, judges-DynCell, judges-ReadCell, judges-IsActive, judges-OwnRead, judges-OwnWrite, judges-Acc, judges-Want, judges-If, judges-For}
use Rattle.sg_ir.proofs.Cases.{by_inst}

-- the scope after an instruction that leaves this, where a place comes from there
abbrev after : (ℕ → Bool) → KnownPlaces → (ℕ → Bool) → Option Target → Option Origin → Scope
after regs places vars set from = scope_with
    (λ r. list_any (is_setting (t.Reg r)) (settings_of set) || regs r)
    (places_then set (known_from places from) places)
    (λ v. list_any (is_setting (t.Var v)) (settings_of set) || vars v)

put-one : (to : ℕ) (set : ℕ → Bool) (x : ℕ) → put to true set x ≡ (((to == x) || false) || set x)
put-one to set x = one (x == to) (to == x) (set x) (swap x to)
  where
    swap : (a b : ℕ) → (a == b) ≡ (b == a)
    swap a b = grind (arith, nat_tests)

    one : (a b s : Bool) → a ≡ b → (if a then true else s) ≡ ((b || false) || s)
    one true true s e = refl
    one true false s e = absurd cc
    one false true s e = absurd cc
    one false false s e = refl

put-known : (to : ℕ) (known : Passed) (places : KnownPlaces) (p : ℕ) → put to (known_by_check (Some known)) (λ q. known_by_check (places q)) p ≡ known_by_check (put to (Some known) places p)
put-known to known places p = one (p == to)
  where
    one : (b : Bool) → (if b then known_by_check (Some known) else known_by_check (places p)) ≡ known_by_check (if b then Some known else places p)
    one true = refl
    one false = refl

abbrev scope_of_places : (ℕ → Bool) → (ℕ → Bool) → (ℕ → Option KnownPlace) → Scope
scope_of_places regs vars set = record { regs = regs; places = set; vars = vars }

module _ (regs : ℕ → Bool) (places : KnownPlaces) (vars : ℕ → Bool) where
  after-reg : (to : ℕ) → with_reg to (scope_with regs places vars) ≡ after regs places vars (Some (t.Reg to)) None
  after-reg to = ap (λ (set : ℕ → Bool). scope_with set places vars) (fun_ext (put-one to regs))

  after-var : (to : ℕ) → with_var to (scope_with regs places vars) ≡ after regs places vars (Some (t.Var to)) None
  after-var to = ap (λ (set : ℕ → Bool). scope_with regs places set) (fun_ext (put-one to vars))

  after-known : (to : ℕ) (known : Passed) → with_place to (record { layout = known.layout; passed = known.passed }) (scope_with regs places vars) ≡ scope_with regs (put to (Some known) places) vars
  after-known to known = ap (scope_of_places regs vars) (fun_ext (put-known to known places))

  after-root : (to layout : ℕ) → with_place to (record { layout = layout; passed = 0 }) (scope_with regs places vars) ≡ after regs places vars (Some (t.Place to)) (Some (o.Root layout))
  after-root to layout = after-known to (record { layout = layout; passed = 0 })

  after-place : (to from passed : ℕ) → goes_on to passed (known_by_check (places from)) (scope_with regs places vars) ≡ after regs places vars (Some (t.Place to)) (Some (o.Place from passed))
  after-place to from passed = on (places from)
    where
      on : (known : Option Passed) → goes_on to passed (known_by_check known) (scope_with regs places vars) ≡ scope_with regs (settled to (passed_on passed known) places) vars
      on None = refl
      on (Some known) = after-known to (record { layout = known.layout; passed = passed })

module _ (at : Frame) (regs : ℕ → Bool) (places : KnownPlaces) (vars : ℕ → Bool) where
  abbrev Behind : Inst → Type 0
  Behind inst = (judges at inst (scope_with regs places vars)).1 ≡ after regs places vars (left inst) (origin inst)

  on_const : (to word : ℕ) → Behind (v.Const to word)
  on_const to word = ap (λ (reached : Bool × Scope). reached.1) (judges-Const at to word (scope_with regs places vars)) ∙ after-reg regs places vars to
      ∙ ap (λ (set : Option Target). after regs places vars set None) (sym (fold-Const {A = Option Target} left_step to word))
      ∙ ap (λ (came : Option Origin). after regs places vars (left (v.Const to word)) came) (sym (fold-Const {A = Option Origin} origin_step to word))

  on_var : (to var : ℕ) → Behind (v.Var to var)
  on_var to var = ap (λ (reached : Bool × Scope). reached.1) (judges-Var at to var (scope_with regs places vars)) ∙ after-reg regs places vars to
      ∙ ap (λ (set : Option Target). after regs places vars set None) (sym (fold-Var {A = Option Target} left_step to var))
      ∙ ap (λ (came : Option Origin). after regs places vars (left (v.Var to var)) came) (sym (fold-Var {A = Option Origin} origin_step to var))

  on_set : (var from : ℕ) → Behind (v.Set var from)
  on_set var from = ap (λ (reached : Bool × Scope). reached.1) (judges-Set at var from (scope_with regs places vars)) ∙ after-var regs places vars var
      ∙ ap (λ (set : Option Target). after regs places vars set None) (sym (fold-Set {A = Option Target} left_step var from))
      ∙ ap (λ (came : Option Origin). after regs places vars (left (v.Set var from)) came) (sym (fold-Set {A = Option Origin} origin_step var from))

  on_bin : (to : ℕ) (op : BinOp) (given : Ty) (a b : ℕ) → Behind (v.Bin to op given a b)
  on_bin to op given a b = ap (λ (reached : Bool × Scope). reached.1) (judges-Bin at to op given a b (scope_with regs places vars)) ∙ after-reg regs places vars to
      ∙ ap (λ (set : Option Target). after regs places vars set None) (sym (fold-Bin {A = Option Target} left_step to op given a b))
      ∙ ap (λ (came : Option Origin). after regs places vars (left (v.Bin to op given a b)) came) (sym (fold-Bin {A = Option Origin} origin_step to op given a b))

  on_un : (to : ℕ) (op : UnOp) (given : Ty) (a : ℕ) → Behind (v.Un to op given a)
  on_un to op given a = ap (λ (reached : Bool × Scope). reached.1) (judges-Un at to op given a (scope_with regs places vars)) ∙ after-reg regs places vars to
      ∙ ap (λ (set : Option Target). after regs places vars set None) (sym (fold-Un {A = Option Target} left_step to op given a))
      ∙ ap (λ (came : Option Origin). after regs places vars (left (v.Un to op given a)) came) (sym (fold-Un {A = Option Origin} origin_step to op given a))

  on_mulq : (to a b s : ℕ) → Behind (v.Mulq to a b s)
  on_mulq to a b s = ap (λ (reached : Bool × Scope). reached.1) (judges-Mulq at to a b s (scope_with regs places vars)) ∙ after-reg regs places vars to
      ∙ ap (λ (set : Option Target). after regs places vars set None) (sym (fold-Mulq {A = Option Target} left_step to a b s))
      ∙ ap (λ (came : Option Origin). after regs places vars (left (v.Mulq to a b s)) came) (sym (fold-Mulq {A = Option Origin} origin_step to a b s))

  on_root : (to layout : ℕ) → Behind (v.Root to layout)
  on_root to layout = ap (λ (reached : Bool × Scope). reached.1) (judges-Root at to layout (scope_with regs places vars)) ∙ after-root regs places vars to layout
      ∙ ap (λ (set : Option Target). after regs places vars set (Some (o.Root layout))) (sym (fold-Root {A = Option Target} left_step to layout))
      ∙ ap (λ (came : Option Origin). after regs places vars (left (v.Root to layout)) came) (sym (fold-Root {A = Option Origin} origin_step to layout))

  on_check : (to place axis extent index : ℕ) → Behind (v.Check to place axis extent index)
  on_check to place axis extent index = ap (λ (reached : Bool × Scope). reached.1) (judges-Check at to place axis extent index (scope_with regs places vars)) ∙ after-place regs places vars to place 0
      ∙ ap (λ (set : Option Target). after regs places vars set (Some (o.Place place 0))) (sym (fold-Check {A = Option Target} left_step to place axis extent index))
      ∙ ap (λ (came : Option Origin). after regs places vars (left (v.Check to place axis extent index)) came) (sym (fold-Check {A = Option Origin} origin_step to place axis extent index))

  on_extract : (to div size from : ℕ) → Behind (v.Extract to div size from)
  on_extract to div size from = ap (λ (reached : Bool × Scope). reached.1) (judges-Extract at to div size from (scope_with regs places vars)) ∙ after-reg regs places vars to
      ∙ ap (λ (set : Option Target). after regs places vars set None) (sym (fold-Extract {A = Option Target} left_step to div size from))
      ∙ ap (λ (came : Option Origin). after regs places vars (left (v.Extract to div size from)) came) (sym (fold-Extract {A = Option Origin} origin_step to div size from))

  on_offset : (to high size low : ℕ) → Behind (v.Offset to high size low)
  on_offset to high size low = ap (λ (reached : Bool × Scope). reached.1) (judges-Offset at to high size low (scope_with regs places vars)) ∙ after-reg regs places vars to
      ∙ ap (λ (set : Option Target). after regs places vars set None) (sym (fold-Offset {A = Option Target} left_step to high size low))
      ∙ ap (λ (came : Option Origin). after regs places vars (left (v.Offset to high size low)) came) (sym (fold-Offset {A = Option Origin} origin_step to high size low))

  on_child : (to place node offset : ℕ) → Behind (v.Child to place node offset)
  on_child to place node offset = ap (λ (reached : Bool × Scope). reached.1) (judges-Child at to place node offset (scope_with regs places vars)) ∙ after-place regs places vars to place node
      ∙ ap (λ (set : Option Target). after regs places vars set (Some (o.Place place node))) (sym (fold-Child {A = Option Target} left_step to place node offset))
      ∙ ap (λ (came : Option Origin). after regs places vars (left (v.Child to place node offset)) came) (sym (fold-Child {A = Option Origin} origin_step to place node offset))

  on_hashchild : (to place node offset : ℕ) → Behind (v.HashChild to place node offset)
  on_hashchild to place node offset = ap (λ (reached : Bool × Scope). reached.1) (judges-HashChild at to place node offset (scope_with regs places vars)) ∙ after-place regs places vars to place node
      ∙ ap (λ (set : Option Target). after regs places vars set (Some (o.Place place node))) (sym (fold-HashChild {A = Option Target} left_step to place node offset))
      ∙ ap (λ (came : Option Origin). after regs places vars (left (v.HashChild to place node offset)) came) (sym (fold-HashChild {A = Option Origin} origin_step to place node offset))

  on_maskbit : (to place node offset : ℕ) → Behind (v.MaskBit to place node offset)
  on_maskbit to place node offset = ap (λ (reached : Bool × Scope). reached.1) (judges-MaskBit at to place node offset (scope_with regs places vars)) ∙ after-place regs places vars to place node
      ∙ ap (λ (set : Option Target). after regs places vars set (Some (o.Place place node))) (sym (fold-MaskBit {A = Option Target} left_step to place node offset))
      ∙ ap (λ (came : Option Origin). after regs places vars (left (v.MaskBit to place node offset)) came) (sym (fold-MaskBit {A = Option Origin} origin_step to place node offset))

  on_dyncell : (to place node offset : ℕ) → Behind (v.DynCell to place node offset)
  on_dyncell to place node offset = ap (λ (reached : Bool × Scope). reached.1) (judges-DynCell at to place node offset (scope_with regs places vars)) ∙ after-place regs places vars to place node
      ∙ ap (λ (set : Option Target). after regs places vars set (Some (o.Place place node))) (sym (fold-DynCell {A = Option Target} left_step to place node offset))
      ∙ ap (λ (came : Option Origin). after regs places vars (left (v.DynCell to place node offset)) came) (sym (fold-DynCell {A = Option Origin} origin_step to place node offset))

  on_readcell : (to place layout field : ℕ) (index : List ℕ) → Behind (v.ReadCell to place layout field index)
  on_readcell to place layout field index = ap (λ (reached : Bool × Scope). reached.1) (judges-ReadCell at to place layout field index (scope_with regs places vars)) ∙ after-reg regs places vars to
      ∙ ap (λ (set : Option Target). after regs places vars set None) (sym (fold-ReadCell {A = Option Target} left_step to place layout field index))
      ∙ ap (λ (came : Option Origin). after regs places vars (left (v.ReadCell to place layout field index)) came) (sym (fold-ReadCell {A = Option Origin} origin_step to place layout field index))

  on_isactive : (to place : ℕ) (index : List ℕ) → Behind (v.IsActive to place index)
  on_isactive to place index = ap (λ (reached : Bool × Scope). reached.1) (judges-IsActive at to place index (scope_with regs places vars)) ∙ after-reg regs places vars to
      ∙ ap (λ (set : Option Target). after regs places vars set None) (sym (fold-IsActive {A = Option Target} left_step to place index))
      ∙ ap (λ (came : Option Origin). after regs places vars (left (v.IsActive to place index)) came) (sym (fold-IsActive {A = Option Origin} origin_step to place index))

  on_ownread : (to layout field : ℕ) → Behind (v.OwnRead to layout field)
  on_ownread to layout field = ap (λ (reached : Bool × Scope). reached.1) (judges-OwnRead at to layout field (scope_with regs places vars)) ∙ after-reg regs places vars to
      ∙ ap (λ (set : Option Target). after regs places vars set None) (sym (fold-OwnRead {A = Option Target} left_step to layout field))
      ∙ ap (λ (came : Option Origin). after regs places vars (left (v.OwnRead to layout field)) came) (sym (fold-OwnRead {A = Option Origin} origin_step to layout field))

  on_ownwrite : (layout field from stmt : ℕ) → Behind (v.OwnWrite layout field from stmt)
  on_ownwrite layout field from stmt = ap (λ (reached : Bool × Scope). reached.1) (judges-OwnWrite at layout field from stmt (scope_with regs places vars))
      ∙ ap (λ (set : Option Target). after regs places vars set None) (sym (fold-OwnWrite {A = Option Target} left_step layout field from stmt))
      ∙ ap (λ (came : Option Origin). after regs places vars (left (v.OwnWrite layout field from stmt)) came) (sym (fold-OwnWrite {A = Option Origin} origin_step layout field from stmt))

  on_acc : (op : AccOp) (layout field place from : ℕ) (index : List ℕ) (stmt : ℕ) → Behind (v.Acc op layout field place from index stmt)
  on_acc op layout field place from index stmt = ap (λ (reached : Bool × Scope). reached.1) (judges-Acc at op layout field place from index stmt (scope_with regs places vars))
      ∙ ap (λ (set : Option Target). after regs places vars set None) (sym (fold-Acc {A = Option Target} left_step op layout field place from index stmt))
      ∙ ap (λ (came : Option Origin). after regs places vars (left (v.Acc op layout field place from index stmt)) came) (sym (fold-Acc {A = Option Origin} origin_step op layout field place from index stmt))

  on_want : (layout : ℕ) (index : List ℕ) (stmt : ℕ) → Behind (v.Want layout index stmt)
  on_want layout index stmt = ap (λ (reached : Bool × Scope). reached.1) (judges-Want at layout index stmt (scope_with regs places vars))
      ∙ ap (λ (set : Option Target). after regs places vars set None) (sym (fold-Want {A = Option Target} left_step layout index stmt))
      ∙ ap (λ (came : Option Origin). after regs places vars (left (v.Want layout index stmt)) came) (sym (fold-Want {A = Option Origin} origin_step layout index stmt))

  on_if : (cond : ℕ) (block otherwise : List Inst) → Behind (v.If cond block otherwise)
  on_if cond block otherwise = ap (λ (reached : Bool × Scope). reached.1) (judges-If at cond block otherwise (scope_with regs places vars))
      ∙ ap (λ (set : Option Target). after regs places vars set None) (sym (fold-If {A = Option Target} left_step cond block otherwise))
      ∙ ap (λ (came : Option Origin). after regs places vars (left (v.If cond block otherwise)) came) (sym (fold-If {A = Option Origin} origin_step cond block otherwise))

  on_for : (var : ℕ) (lo hi : ℤ) (body : List Inst) → Behind (v.For var lo hi body)
  on_for var lo hi body = ap (λ (reached : Bool × Scope). reached.1) (judges-For at var lo hi body (scope_with regs places vars))
      ∙ ap (λ (set : Option Target). after regs places vars set None) (sym (fold-For {A = Option Target} left_step var lo hi body))
      ∙ ap (λ (came : Option Origin). after regs places vars (left (v.For var lo hi body)) came) (sym (fold-For {A = Option Origin} origin_step var lo hi body))

  pub behind : (inst : Inst) → Behind inst
  behind inst = by_inst Behind on_const on_var on_set on_bin on_un on_mulq on_root on_check on_extract on_offset on_child on_hashchild on_maskbit on_dyncell on_readcell on_isactive on_ownread on_ownwrite on_acc on_want on_if on_for inst

-- the scope after a block, and after what stands before a point of code
fold-scope : (judges_of : List Judge) (good other : Bool) (scope : Scope) → (fold judge_step (good, scope) judges_of).1 ≡ (fold judge_step (other, scope) judges_of).1
fold-scope [] good other scope = refl
fold-scope (first ∷ more) good other scope = fold-scope more (good && (first scope).0) (other && (first scope).0) (first scope).1

turn-or : (a b c : Bool) → (b || (a || c)) ≡ ((a || b) || c)
turn-or true true c = refl
turn-or true false c = refl
turn-or false true c = refl
turn-or false false c = refl

swap-or : (a b c : Bool) → (a || (b || c)) ≡ (b || (a || c))
swap-or true true c = refl
swap-or true false c = refl
swap-or false true c = refl
swap-or false false c = refl

scope-eq : (regs other : ℕ → Bool) (places places_2 : KnownPlaces) (vars vars_2 : ℕ → Bool) → ((r : ℕ) → regs r ≡ other r) → places ≡ places_2 → ((v : ℕ) → vars v ≡ vars_2 v) →
    scope_with regs places vars ≡ scope_with other places_2 vars_2
scope-eq regs other places places_2 vars vars_2 same_regs same_places same_vars =
    ap (λ (set : ℕ → Bool). scope_with set places vars) (fun_ext same_regs)
    ∙ ap (λ (set : KnownPlaces). scope_with other set vars) same_places
    ∙ ap (λ (set : ℕ → Bool). scope_with other places_2 set) (fun_ext same_vars)

pub block-behind : (at : Frame) (done : List Inst) (regs : ℕ → Bool) (places : KnownPlaces) (vars : ℕ → Bool) →
    (judged at done (scope_with regs places vars)).1
    ≡ scope_with (λ r. list_any (leaves (t.Reg r)) done || regs r) (places_after places done) (λ v. list_any (leaves (t.Var v)) done || vars v)
block-behind at [] regs places vars = refl
block-behind at (x ∷ xs) regs places vars =
    fold-scope (map (judges at) xs) (true && (judges at x (scope_with regs places vars)).0) true (judges at x (scope_with regs places vars)).1
    ∙ ap (λ (scope : Scope). (judged at xs scope).1) (behind at regs places vars x)
    ∙ block-behind at xs (λ r. leaves (t.Reg r) x || regs r) (place_step places x) (λ v. leaves (t.Var v) x || vars v)
    ∙ scope-eq _ _ _ _ _ _ (λ r. turn-or (leaves (t.Reg r) x) (list_any (leaves (t.Reg r)) xs) (regs r)) refl (λ v. turn-or (leaves (t.Var v) x) (list_any (leaves (t.Var v)) xs) (vars v))

see-Block : (what : Target) (done : Bor (List Inst)) (outer : Bor Before) → set_before what (bv.Block done outer) ≡ (list_any (leaves what) done.now || set_before what outer.now)
see-Block what done outer = ap (set_before what) (sym (rolls-Block done outer)) ∙ fold-roll-Before Bool (set_step what) (b.Block done outer)

see-Loop : (what : Target) (var : ℕ) (outer : Bor Before) → set_before what (bv.Loop var outer) ≡ (is_setting what (set_name_of (t.Var var)) || set_before what outer.now)
see-Loop what var outer = ap (set_before what) (sym (rolls-Loop var outer)) ∙ fold-roll-Before Bool (set_step what) (b.Loop var outer)

see-Start : (what : Target) → set_before what bv.Start ≡ false
see-Start what = ap (set_before what) (sym rolls-Start) ∙ fold-roll-Before Bool (set_step what) b.Start

pub scope-Block : (at : Frame) (free : ℕ → Bool) (done : Bor (List Inst)) (outer : Bor Before) → (judged at done.now (scope_at free outer.now)).1 ≡ scope_at free (bv.Block done outer)
scope-Block at free done outer =
    block-behind at done.now (λ r. set_before (t.Reg r) outer.now) (places_before outer.now) (λ v. free v || set_before (t.Var v) outer.now)
    ∙ scope-eq _ _ _ _ _ _
    (λ r. sym (see-Block (t.Reg r) done outer))
    (sym (ap places_before (sym (rolls-Block done outer)) ∙ fold-roll-Before KnownPlaces before_step (b.Block done outer)))
    (λ v. swap-or (list_any (leaves (t.Var v)) done.now) (free v) (set_before (t.Var v) outer.now) ∙ ap (λ (s : Bool). free v || s) (sym (see-Block (t.Var v) done outer)))

pub scope-Loop : (free : ℕ → Bool) (var : ℕ) (outer : Bor Before) → with_var var (scope_at free outer.now) ≡ scope_at free (bv.Loop var outer)
scope-Loop free var outer =
    scope-eq _ _ _ _ _ _
    (λ r. sym (see-Loop (t.Reg r) var outer))
    (sym (ap places_before (sym (rolls-Loop var outer)) ∙ fold-roll-Before KnownPlaces before_step (b.Loop var outer)))
    (λ v. put-one var (λ w. free w || set_before (t.Var w) outer.now) v ∙ loop-or (var == v) (free v) (set_before (t.Var v) outer.now) ∙ ap (λ (s : Bool). free v || s) (sym (see-Loop (t.Var v) var outer)))
  where
    loop-or : (a f c : Bool) → ((a || false) || (f || c)) ≡ (f || (a || c))
    loop-or true true c = refl
    loop-or true false c = refl
    loop-or false f c = refl

pub scope-Start : (free : ℕ → Bool) → scope_at free bv.Start ≡ record { regs = λ r. false; places = λ p. None; vars = free }
scope-Start free =
    scope-eq _ (λ r. false) _ (λ p. None) _ free
    (λ r. see-Start (t.Reg r))
    (ap places_before (sym rolls-Start) ∙ fold-roll-Before KnownPlaces before_step b.Start)
    (λ v. ap (λ (s : Bool). free v || s) (see-Start (t.Var v)) ∙ or-no (free v))
  where
    or-no : (f : Bool) → (f || false) ≡ f
    or-no true = refl
    or-no false = refl

-- a block is good as far as it goes, if it is good
bad-stays : (judges_of : List Judge) (scope : Scope) → (fold judge_step (false, scope) judges_of).0 ≡ false
bad-stays [] scope = refl
bad-stays (first ∷ more) scope = bad-stays more (first scope).1

pub judged-bad : (at : Frame) (block : List Inst) (n : ℕ) (scope : Scope) → (judged at (take n block) scope).0 ≡ false → (judged at block scope).0 ≡ false
judged-bad at block n scope h = cut block n true scope h
  where
    cut : (block : List Inst) (n : ℕ) (good : Bool) (scope : Scope) → (fold judge_step (good, scope) (map (judges at) (take n block))).0 ≡ false → (fold judge_step (good, scope) (map (judges at) block)).0 ≡ false
    cut [] zero good scope h = h
    cut [] (suc n) good scope h = h
    cut (x ∷ xs) zero good scope h = bad (map (judges at) (x ∷ xs)) good scope h
      where
        bad : (js : List Judge) (good : Bool) (scope : Scope) → good ≡ false → (fold judge_step (good, scope) js).0 ≡ false
        bad js true scope h = absurd cc
        bad js false scope h = bad-stays js scope
    cut (x ∷ xs) (suc n) good scope h = cut xs n (good && (judges at x scope).0) (judges at x scope).1 h

-- a block and one more instruction, and a `for`
pub next-good : (at : Frame) (free : ℕ → Bool) (done : Bor (List Inst)) (outer : Bor Before) (inst : Inst) →
    (judged at (done.now ++ inst ∷ []) (scope_at free outer.now)).0
    ≡ ((judged at done.now (scope_at free outer.now)).0 && (judges at inst (scope_at free (bv.Block done outer))).0)
next-good at free done outer inst =
    ap (λ (reached : Bool × Scope). reached.0) (judged-more at done.now inst (scope_at free outer.now))
    ∙ ap (λ (scope : Scope). (judged at done.now (scope_at free outer.now)).0 && (judges at inst scope).0) (scope-Block at free done outer)

pub for-good : (at : Frame) (free : ℕ → Bool) (var : ℕ) (lo hi : ℤ) (body : List Inst) (outer : Bor Before) →
    (judges at (v.For var lo hi body) (scope_at free outer.now)).0
    ≡ ((holds_of is_i32 (slice_get at.vars var) && (at.setters var == 1)) && (judged at body (scope_at free (bv.Loop var outer))).0)
for-good at free var lo hi body outer =
    ap (λ (reached : Bool × Scope). reached.0) (judges-For at var lo hi body (scope_at free outer.now))
    ∙ ap (λ (scope : Scope). holds_of is_i32 (slice_get at.vars var) && ((at.setters var == 1) && (judged at body scope).0)) (scope-Loop free var outer)
    ∙ regroup (holds_of is_i32 (slice_get at.vars var)) (at.setters var == 1) (judged at body (scope_at free (bv.Loop var outer))).0
  where
    regroup : (a b c : Bool) → (a && (b && c)) ≡ ((a && b) && c)
    regroup true b c = refl
    regroup false b c = refl
