-- What a run of well-typed code asks is asked in its text.
use Rattle.std.proofs.Common.{◌≡◌, ℕ, zero, suc, ◌<◌, max, Bool, true, false, ◌&&◌, ◌==◌, List, [], ◌∷◌, ◌++◌, map, ℤ, Option, Some, None, refl, sym, ap, ◌∙◌, subst, arith, eq-eqb}
use Rattle.std.specs.Prelude.{if◌then◌else◌, nat_lt, fold, slice_get, All, Contains}
use Rattle.std.proofs.lemmas.Bool.{both_ways, and_parts, eqb-true}
use Rattle.std.proofs.lemmas.List.Elements.{All-append, All-cons, All-nil, Contains-append_left, Contains-append_right}
use Rattle.sg_words.specs.Words.{word_of}
use Rattle.sg_words.proofs.Uses.{contains_head}
use Rattle.sg_layout.specs.declared.shape.Shape.{Shape}
use Rattle.sg_flat.specs.Domain.{numbers}
use Rattle.sg_ir.specs.declared.code.Code.{Code}
use Rattle.sg_ir.specs.declared.code.Inst.{Inst, out-Inst, roll-Inst, roll-out-Inst}
use Rattle.sg_ir.specs.declared.code.Inst.TheVariants.{rolls-Const, rolls-Var, rolls-Set, rolls-Bin, rolls-Un, rolls-Mulq, rolls-Root, rolls-Check, rolls-Extract, rolls-Offset, rolls-Child, rolls-HashChild, rolls-MaskBit, rolls-DynCell, rolls-ReadCell, rolls-IsActive, rolls-OwnRead, rolls-OwnWrite, rolls-Acc, rolls-Want, rolls-If, rolls-For}
use Rattle.sg_ir.specs.declared.code.Inst.TheOpen as i
use Rattle.sg_ir.specs.declared.code.Inst.TheOpen.{Inst-F}
use Rattle.sg_ir.specs.Runs.{Seen, Moved, Place, Access, InstAction, actions_in_turn, check, does, down, inst_step, iteration, iteration_start, named_by, set_place, set_var_word}
use Rattle.sg_ir.specs.Trimmed.{Way, Ways, way_of, way_to, listed, asked_in}
use Rattle.sg_ir.specs.Trails.{Trail, in_a_row, trail_step, trail, asked_by}
use Rattle.sg_ir.specs.WellTyped.{KnownPlace, Scope, Frame, Judge, judge_step, judge_all, judges, judged, inst_fits, step_fits, with_place, with_var, goes_on, holds_of, is_i32, checkable, descends, reads, indexes, is_cell, is_truth_as, Way_down, ByChild, ByKey, ByBit, ByLength, SetName, SetsPlace, SetsVar, sets_step, settings, set_regs, set_places, has_no_twice, frame_of, first_scope, is_well_typed}
use Rattle.sg_ir.specs.steps.Targets.{inst_settings}
use Rattle.sg_ir.proofs.Chained.{largest, depth_step, depth}
use Rattle.sg_ir.proofs.Counting.{settings-If, settings-For}
use Rattle.sg_ir.proofs.Trailing.{asked-row}
use Rattle.sg_ir.proofs.PlacesSet.{times, times-append, Once, is_once, sets_it, none_front, none_behind, once_front, once_behind}
use Rattle.sg_ir.proofs.Folds.{fold-Const, fold-Var, fold-Set, fold-Bin, fold-Un, fold-Mulq, fold-Root, fold-Check, fold-Extract, fold-Offset, fold-Child, fold-HashChild, fold-MaskBit, fold-DynCell, fold-ReadCell, fold-IsActive, fold-OwnRead, fold-OwnWrite, fold-Acc, fold-Want, fold-If, fold-For}

-- a place of which something is known isn't set
abbrev Apart : Scope → List SetName → Type 0
Apart scope set = (p : ℕ) (known : KnownPlace) → scope.places p ≡ Some known → times p set ≡ 0

-- ---- judgements one after the other

and_regrouped : (a b c : Bool) → ((a && b) && c) ≡ (a && (b && c))
and_regrouped true b c = refl
and_regrouped false b c = refl

and_end : (b : Bool) → (b && true) ≡ b
and_end true = refl
and_end false = refl

fold_from : (judges_of : List Judge) (b : Bool) (scope : Scope) → fold judge_step (b, scope) judges_of ≡ (b && (judge_all judges_of scope).0, (judge_all judges_of scope).1)
fold_from [] b scope = ap (λ (x : Bool). (x, scope)) (sym (and_end b))
fold_from (judge ∷ more) b scope =
    fold_from more (b && (judge scope).0) (judge scope).1
    ∙ (ap (λ (x : Bool). (x, (judge_all more (judge scope).1).1)) (and_regrouped b (judge scope).0 (judge_all more (judge scope).1).0)
    ∙ ap (λ (all : Bool × Scope). (b && all.0, all.1)) (sym (fold_from more (judge scope).0 (judge scope).1)))

-- ---- ways

way_here : (ways : Ways) (to p : ℕ) (way : Way) → to ≡ p → way_of ((to, way) ∷ ways) p ≡ way
way_here ways to p way same = by_test (to == p) (eq-eqb to p same)
  where
    by_test : (test : Bool) → test ≡ true → (if test then way else way_of ways p) ≡ way
    by_test true e = refl
    by_test false e = absurd (both_ways false refl e)

way_kept : (ways : Ways) (to p : ℕ) (way : Way) → (p == to) ≡ false → way_of ((to, way) ∷ ways) p ≡ way_of ways p
way_kept ways to p way differ = by_test (to == p) refl
  where
    by_test : (test : Bool) → (to == p) ≡ test → (if test then way else way_of ways p) ≡ way_of ways p
    by_test true e = absurd (both_ways (p == to) differ (eq-eqb p to (sym (eqb-true to p e))))
    by_test false e = refl

known_is : (known it : KnownPlace) → Some known ≡ Some it → known ≡ it
known_is known it e = cc

module _ (seen : Seen) (at : Frame) (layouts : List ℕ) where
  -- an access that asks, asks one of these layouts
  abbrev IsAsked : Access → Type 0
  IsAsked access = access.asks ≡ true → Contains layouts access.layout

  abbrev Within : List ℕ → Type 0
  Within asked = (layout : ℕ) → Contains asked layout → Contains layouts layout

  -- a place of which something is known comes from the root of its layout, along its way and in the run; and only these layouts were asked
  record Tied (scope : Scope) (ways : Ways) (now : Moved) : Type 0 where
    rooted : (p : ℕ) (known : KnownPlace) → scope.places p ≡ Some known → (way_of ways p).root ≡ Some known.layout
    comes : (p : ℕ) (known : KnownPlace) → scope.places p ≡ Some known → now.roots p ≡ known.layout
    only : All IsAsked now.accesses

  -- so it is behind what sets these; and a place that isn't set is as it was
  record Goes (set : List SetName) (scope : Scope) (now : Moved) (after : Scope) (ways : Ways) (last : Moved) : Type 0 where
    tied : Tied after ways last
    roots : (p : ℕ) → times p set ≡ 0 → last.roots p ≡ now.roots p
    places : (p : ℕ) → times p set ≡ 0 → after.places p ≡ scope.places p

  abbrev Keeps : Judge → Trail → List SetName → InstAction → Type 0
  Keeps judge asks set act = (scope : Scope) (ways : Ways) (now : Moved) → (judge scope).0 ≡ true → Within (asks ways).0 → Apart scope set → Once set → Tied scope ways now
      → Goes set scope now (judge scope).1 (asks ways).1 (act now)

  abbrev KeepsInst : Inst → Type 0
  KeepsInst inst = Keeps (judges at inst) (trail inst) (inst_settings inst) (does seen inst)

  leaf : (inst : Inst) (judge : Judge) (asks : Trail) (set : List SetName) (act : InstAction) → judges at inst ≡ judge → trail inst ≡ asks → inst_settings inst ≡ set → does seen inst ≡ act → Keeps judge asks set act → KeepsInst inst
  leaf inst judge asks set act e f g h keep =
      subst (λ (j : Judge). Keeps j (trail inst) (inst_settings inst) (does seen inst)) (sym e)
      (subst (λ (t : Trail). Keeps judge t (inst_settings inst) (does seen inst)) (sym f)
      (subst (λ (s : List SetName). Keeps judge asks s (does seen inst)) (sym g) (subst (λ (a : InstAction). Keeps judge asks set a) (sym h) keep)))

  one_access : (accesses : List Access) (access : Access) → All IsAsked accesses → IsAsked access → All IsAsked (accesses ++ access ∷ [])
  one_access accesses access all one = All-append IsAsked accesses (access ∷ []) all (All-cons IsAsked access [] one (All-nil IsAsked))

  -- a place that is set
  placed : (set : List SetName) (scope : Scope) (ways : Ways) (now : Moved) (to : ℕ) (known : KnownPlace) (way : Way) (root : ℕ) (there : Option Place) → (times to set ≡ 0 → ⊥) → way.root ≡ Some known.layout → root ≡ known.layout
      → Tied scope ways now → Goes set scope now (with_place to known scope) ((to, way) ∷ ways) (set_place to root there now)
  placed set scope ways now to known way root there sets way_is root_is h = record {
    tied = record {
      rooted = λ p it e. by_way p it (p == to) refl e;
      comes = λ p it e. by_root p it (p == to) e;
      only = h.only;
    };
    roots = λ p none. kept root now.roots p none (p == to) refl;
    places = λ p none. kept (Some known) scope.places p none (p == to) refl;
  }
    where
      by_way : (p : ℕ) (it : KnownPlace) (test : Bool) → (p == to) ≡ test → (if test then Some known else scope.places p) ≡ Some it → (way_of ((to, way) ∷ ways) p).root ≡ Some it.layout
      by_way p it true e is = ap (λ (w : Way). w.root) (way_here ways to p way (sym (eqb-true p to e))) ∙ (way_is ∙ ap (λ (k : KnownPlace). Some k.layout) (known_is known it is))
      by_way p it false e is = ap (λ (w : Way). w.root) (way_kept ways to p way e) ∙ h.rooted p it is

      by_root : (p : ℕ) (it : KnownPlace) (test : Bool) → (if test then Some known else scope.places p) ≡ Some it → (if test then root else now.roots p) ≡ it.layout
      by_root p it true is = root_is ∙ ap (λ (k : KnownPlace). k.layout) (known_is known it is)
      by_root p it false is = h.comes p it is

      kept : {A : Type 0} (x : A) (f : ℕ → A) (p : ℕ) → times p set ≡ 0 → (test : Bool) → (p == to) ≡ test → (if test then x else f p) ≡ f p
      kept x f p none true e = absurd (sets (subst (λ (n : ℕ). times n set ≡ 0) (eqb-true p to e) none))
      kept x f p none false e = refl

  -- one that goes on from another
  followed : (set : List SetName) (scope : Scope) (ways : Ways) (now : Moved) (to place passed : ℕ) (test : KnownPlace → Bool) (found : Option KnownPlace) (way : Way) (there : Option Place) → (times to set ≡ 0 → ⊥)
      → scope.places place ≡ found → holds_of test found ≡ true → way.root ≡ (way_of ways place).root → Tied scope ways now → Goes set scope now (goes_on to passed found scope) ((to, way) ∷ ways) (set_place to (now.roots place) there now)
  followed set scope ways now to place passed test None way there sets e good same h = absurd (both_ways false refl good)
  followed set scope ways now to place passed test (Some known) way there sets e good same h =
      placed set scope ways now to (record { layout = known.layout; passed = passed }) way (now.roots place) there sets (same ∙ h.rooted place known e) (h.comes place known e) h

  stepped : (how : Way_down) (to place node offset : ℕ)
      → Keeps (step_fits at how to place node offset) (λ ways. ([], (to, way_of ways place) ∷ ways)) (SetsPlace to ∷ []) (λ now. set_place to (now.roots place) (down seen.shapes node (now.regs offset) (now.places place)) now)
  stepped how to place node offset scope ways now good within apart once h =
      let parts = and_parts (nat_lt to at.places) (holds_of (descends at how node) (scope.places place) && reads at scope false offset) good in
      let known = and_parts (holds_of (descends at how node) (scope.places place)) (reads at scope false offset) parts.1 in
      followed (SetsPlace to ∷ []) scope ways now to place node (descends at how node) (scope.places place) (way_of ways place) (down seen.shapes node (now.regs offset) (now.places place)) (sets_it to) refl known.0 refl h

  checked : (to place axis extent index : ℕ) → Keeps (inst_fits at (i.Check to place axis extent index)) (trail_step (i.Check to place axis extent index)) (SetsPlace to ∷ []) (inst_step seen (i.Check to place axis extent index))
  checked to place axis extent index scope ways now good within apart once h =
      let first = and_parts (nat_lt to at.places) (nat_lt 0 extent && (holds_of (checkable at axis extent) (scope.places place) && reads at scope false index)) good in
      let second = and_parts (nat_lt 0 extent) (holds_of (checkable at axis extent) (scope.places place) && reads at scope false index) first.1 in
      let known = and_parts (holds_of (checkable at axis extent) (scope.places place)) (reads at scope false index) second.1 in
      followed (SetsPlace to ∷ []) scope ways now to place 0 (checkable at axis extent) (scope.places place)
      (record { root = (way_of ways place).root; checks = way_to ways place ++ record { axis = axis; index = index; place = to } ∷ [] })
      (check extent (now.regs index) (now.places place)) (sets_it to) refl known.0 refl h

  -- a question is put to the layout of its place
  asked_here : (scope : Scope) (ways : Ways) (now : Moved) (place : ℕ) (test : KnownPlace → Bool) (found : Option KnownPlace) → scope.places place ≡ found → holds_of test found ≡ true → Within (listed (way_of ways place).root)
      → Tied scope ways now → Contains layouts (now.roots place)
  asked_here scope ways now place test None e good within h = absurd (both_ways false refl good)
  asked_here scope ways now place test (Some known) e good within h =
      subst (λ (l : ℕ). Contains layouts l) (sym (h.comes place known e))
      (within known.layout (subst (λ (root : Option ℕ). Contains (listed root) known.layout) (sym (h.rooted place known e)) (contains_head known.layout known.layout [] refl)))

  -- what is read or added is no question
  no_question : (layout : ℕ) → false ≡ true → Contains layouts layout
  no_question layout e = absurd (both_ways false refl e)

  -- ---- one after the other

  abbrev Listed : List Inst → Type 0
  Listed insts = Keeps (judge_all (map (judges at) insts)) (in_a_row (map trail insts)) (settings insts) (actions_in_turn (map (does seen) insts))

  joined : (set more : List SetName) (scope mid after : Scope) (now half last : Moved) (there ways : Ways) → Goes set scope now mid there half → Goes more mid half after ways last → Goes (set ++ more) scope now after ways last
  joined set more scope mid after now half last there ways first second = record {
    tied = second.tied;
    roots = λ p none. second.roots p (none_behind p set more none) ∙ first.roots p (none_front p set more none);
    places = λ p none. second.places p (none_behind p set more none) ∙ first.places p (none_front p set more none);
  }

  apart_next : (set more : List SetName) (scope mid : Scope) (now half : Moved) (there : Ways) → Apart scope (set ++ more) → Once (set ++ more) → Goes set scope now mid there half → Apart mid more
  apart_next set more scope mid now half there apart once goes p known e = by_count (times p set) refl
    where
      by_count : (n : ℕ) → times p set ≡ n → times p more ≡ 0
      by_count zero none = none_behind p set more (apart p known (sym (goes.places p none) ∙ e))
      by_count (suc n) some = let both = times-append p set more in let few = once p in omega (arith, both, few, some)

  by_list : (n : ℕ) → ((inst : Inst) → depth inst < n → KeepsInst inst) → (insts : List Inst) → largest (map depth insts) < n → Listed insts
  by_list n each [] below scope ways now good within apart once h = record { tied = record { rooted = h.rooted; comes = h.comes; only = h.only }; roots = λ p none. refl; places = λ p none. refl }
  by_list n each (inst ∷ insts) below scope ways now good within apart once h =
      let set = inst_settings inst in
      let more = settings insts in
      let mid = (judges at inst scope).1 in
      let there = (trail inst ways).1 in
      let half = does seen inst now in
      let all : judge_all (map (judges at) (inst ∷ insts)) scope ≡ ((judges at inst scope).0 && (judge_all (map (judges at) insts) mid).0, (judge_all (map (judges at) insts) mid).1) =
      fold_from (map (judges at) insts) (judges at inst scope).0 mid in
      let goods = and_parts (judges at inst scope).0 (judge_all (map (judges at) insts) mid).0 (sym (ap (λ (pair : Bool × Scope). pair.0) all) ∙ good) in
      let first : Goes set scope now mid there half =
      each inst (omega (arith, below)) scope ways now goods.0 (λ layout has. within layout (Contains-append_left (trail inst ways).0 (in_a_row (map trail insts) there).0 layout has))
      (λ p known e. none_front p set more (apart p known e)) (once_front set more once) h in
      let second : Goes more mid half (judge_all (map (judges at) insts) mid).1 (in_a_row (map trail insts) there).1 (actions_in_turn (map (does seen) insts) half) =
      by_list n each insts (omega (arith, below)) mid there half goods.1 (λ layout has. within layout (Contains-append_right (trail inst ways).0 (in_a_row (map trail insts) there).0 layout has))
      (apart_next set more scope mid now half there apart once first) (once_behind set more once) first.tied in
      subst (λ (after : Scope). Goes (set ++ more) scope now after (in_a_row (map trail insts) there).1 (actions_in_turn (map (does seen) insts) half)) (sym (ap (λ (pair : Bool × Scope). pair.1) all))
      (joined set more scope mid (judge_all (map (judges at) insts) mid).1 now half (actions_in_turn (map (does seen) insts) half) there (in_a_row (map trail insts) there).1 first second)

  -- behind a block all is known that was before
  inside : (set whole : List SetName) (scope after : Scope) (ways there : Ways) (now last : Moved) → ((p : ℕ) → times p whole ≡ 0 → times p set ≡ 0) → Apart scope whole → Tied scope ways now → Goes set scope now after there last
      → Goes whole scope now scope ways last
  inside set whole scope after ways there now last less apart h goes = record {
    tied = record {
      rooted = h.rooted;
      comes = λ p known e. goes.roots p (less p (apart p known e)) ∙ h.comes p known e;
      only = goes.tied.only;
    };
    roots = λ p none. goes.roots p (less p none);
    places = λ p none. refl;
  }

  by_if : (cond : ℕ) (block otherwise : List Inst) → Listed block → Listed otherwise
      → Keeps (inst_fits at (i.If cond (map (judges at) block) (map (judges at) otherwise))) (trail_step (i.If cond (map trail block) (map trail otherwise))) (settings block ++ settings otherwise)
      (inst_step seen (i.If cond (map (does seen) block) (map (does seen) otherwise)))
  by_if cond block otherwise taken left_out scope ways now good within apart once h =
      let set = settings block in
      let more = settings otherwise in
      let parts = and_parts (reads at scope true cond) ((judge_all (map (judges at) block) scope).0 && (judge_all (map (judges at) otherwise) scope).0) good in
      let goods = and_parts (judge_all (map (judges at) block) scope).0 (judge_all (map (judges at) otherwise) scope).0 parts.1 in
      let asks = (in_a_row (map trail block) ways).0 in
      let others = (in_a_row (map trail otherwise) ways).0 in
      by_test (now.regs cond == 0)
      (inside set (set ++ more) scope (judge_all (map (judges at) block) scope).1 ways (in_a_row (map trail block) ways).1 now (actions_in_turn (map (does seen) block) now) (λ p none. none_front p set more none) apart h
      (taken scope ways now goods.0 (λ layout has. within layout (Contains-append_left asks others layout has)) (λ p known e. none_front p set more (apart p known e)) (once_front set more once) h))
      (inside more (set ++ more) scope (judge_all (map (judges at) otherwise) scope).1 ways (in_a_row (map trail otherwise) ways).1 now (actions_in_turn (map (does seen) otherwise) now) (λ p none. none_behind p set more none) apart h
      (left_out scope ways now goods.1 (λ layout has. within layout (Contains-append_right asks others layout has)) (λ p known e. none_behind p set more (apart p known e)) (once_behind set more once) h))
    where
      by_test : (test : Bool) → Goes (settings block ++ settings otherwise) scope now scope ways (actions_in_turn (map (does seen) block) now) → Goes (settings block ++ settings otherwise) scope now scope ways (actions_in_turn (map (does seen) otherwise) now)
          → Goes (settings block ++ settings otherwise) scope now scope ways (actions_in_turn (if test then map (does seen) otherwise else map (does seen) block) now)
      by_test true first second = second
      by_test false first second = first

  by_for : (var : ℕ) (lo hi : ℤ) (body : List Inst) → Listed body
      → Keeps (inst_fits at (i.For var lo hi (map (judges at) body))) (trail_step (i.For var lo hi (map trail body))) (SetsVar var ∷ settings body) (inst_step seen (i.For var lo hi (map (does seen) body)))
  by_for var lo hi body each scope ways now good within apart once h =
      let ran = turns (numbers lo hi) now h in
      record { tied = ran.tied; roots = ran.roots; places = ran.places }
    where
      body_good : (judge_all (map (judges at) body) (with_var var scope)).0 ≡ true
      body_good =
          let first = and_parts (holds_of is_i32 (slice_get at.vars var)) ((at.setters var == 1) && (judge_all (map (judges at) body) (with_var var scope)).0) good in
          (and_parts (at.setters var == 1) (judge_all (map (judges at) body) (with_var var scope)).0 first.1).1

      turn_of : (turn : ℤ) (from : Moved) → Tied scope ways from → Goes (settings body) scope from scope ways (actions_in_turn (map (does seen) body) (set_var_word var (word_of turn) from))
      turn_of turn from tied =
          let mid = set_var_word var (word_of turn) from in
          let started : Tied (with_var var scope) ways mid = record { rooted = tied.rooted; comes = tied.comes; only = tied.only } in
          let ran = each (with_var var scope) ways mid body_good within apart once started in
          record {
            tied = record { rooted = tied.rooted; comes = λ p known e. ran.roots p (apart p known e) ∙ tied.comes p known e; only = ran.tied.only };
            roots = λ p none. ran.roots p none;
            places = λ p none. refl;
          }

      turns : (zs : List ℤ) (from : Moved) → Tied scope ways from
          → Goes (settings body) scope from scope ways (fold (λ (reached : Moved) (turn : ℤ). actions_in_turn (map (does seen) body) (set_var_word var (word_of turn) reached)) from zs)
      turns [] from tied = record { tied = tied; roots = λ p none. refl; places = λ p none. refl }
      turns (turn ∷ zs) from tied =
          let first = turn_of turn from tied in
          let more = turns zs (actions_in_turn (map (does seen) body) (set_var_word var (word_of turn) from)) first.tied in
          record {
            tied = more.tied;
            roots = λ p none. more.roots p none ∙ first.roots p none;
            places = λ p none. refl;
          }

  -- ---- by depth

  module _ (n : ℕ) (each : (insts : List Inst) → largest (map depth insts) < n → Listed insts) where
    abbrev Deep : Inst → Type 0
    Deep inst = depth inst < suc n → KeepsInst inst

    by_layer : (layer : Inst-F Inst) → Deep (roll-Inst layer)
    by_layer (i.Const to word) = rw (rolls-Const to word) (λ below. leaf _ _ _ _ _ (fold-Const (inst_fits at) to word) (fold-Const trail_step to word) (fold-Const sets_step to word) (fold-Const (inst_step seen) to word)
        (λ scope ways now good within apart once h. record { tied = record { rooted = h.rooted; comes = h.comes; only = h.only }; roots = λ p none. refl; places = λ p none. refl }))
    by_layer (i.Var to var) = rw (rolls-Var to var) (λ below. leaf _ _ _ _ _ (fold-Var (inst_fits at) to var) (fold-Var trail_step to var) (fold-Var sets_step to var) (fold-Var (inst_step seen) to var)
        (λ scope ways now good within apart once h. record { tied = record { rooted = h.rooted; comes = h.comes; only = h.only }; roots = λ p none. refl; places = λ p none. refl }))
    by_layer (i.Set var from) = rw (rolls-Set var from) (λ below. leaf _ _ _ _ _ (fold-Set (inst_fits at) var from) (fold-Set trail_step var from) (fold-Set sets_step var from) (fold-Set (inst_step seen) var from)
        (λ scope ways now good within apart once h. record { tied = record { rooted = h.rooted; comes = h.comes; only = h.only }; roots = λ p none. refl; places = λ p none. refl }))
    by_layer (i.Bin to op given a b) = rw (rolls-Bin to op given a b) (λ below. leaf _ _ _ _ _ (fold-Bin (inst_fits at) to op given a b) (fold-Bin trail_step to op given a b) (fold-Bin sets_step to op given a b) (fold-Bin (inst_step seen) to op given a b)
        (λ scope ways now good within apart once h. record { tied = record { rooted = h.rooted; comes = h.comes; only = h.only }; roots = λ p none. refl; places = λ p none. refl }))
    by_layer (i.Un to op given a) = rw (rolls-Un to op given a) (λ below. leaf _ _ _ _ _ (fold-Un (inst_fits at) to op given a) (fold-Un trail_step to op given a) (fold-Un sets_step to op given a) (fold-Un (inst_step seen) to op given a)
        (λ scope ways now good within apart once h. record { tied = record { rooted = h.rooted; comes = h.comes; only = h.only }; roots = λ p none. refl; places = λ p none. refl }))
    by_layer (i.Mulq to a b s) = rw (rolls-Mulq to a b s) (λ below. leaf _ _ _ _ _ (fold-Mulq (inst_fits at) to a b s) (fold-Mulq trail_step to a b s) (fold-Mulq sets_step to a b s) (fold-Mulq (inst_step seen) to a b s)
        (λ scope ways now good within apart once h. record { tied = record { rooted = h.rooted; comes = h.comes; only = h.only }; roots = λ p none. refl; places = λ p none. refl }))
    by_layer (i.Root to layout) = rw (rolls-Root to layout) (λ below. leaf _ _ _ _ _ (fold-Root (inst_fits at) to layout) (fold-Root trail_step to layout) (fold-Root sets_step to layout) (fold-Root (inst_step seen) to layout)
        (λ scope ways now good within apart once h.
        placed (SetsPlace to ∷ []) scope ways now to (record { layout = layout; passed = 0 }) (record { root = Some layout; checks = [] }) layout (Some (record { layout = layout; path = [] })) (sets_it to) refl refl h))
    by_layer (i.Check to place axis extent index) = rw (rolls-Check to place axis extent index) (λ below. leaf _ _ _ _ _ (fold-Check (inst_fits at) to place axis extent index) (fold-Check trail_step to place axis extent index) (fold-Check sets_step to place axis extent index) (fold-Check (inst_step seen) to place axis extent index)
        (checked to place axis extent index))
    by_layer (i.Extract to div size from) = rw (rolls-Extract to div size from) (λ below. leaf _ _ _ _ _ (fold-Extract (inst_fits at) to div size from) (fold-Extract trail_step to div size from) (fold-Extract sets_step to div size from) (fold-Extract (inst_step seen) to div size from)
        (λ scope ways now good within apart once h. record { tied = record { rooted = h.rooted; comes = h.comes; only = h.only }; roots = λ p none. refl; places = λ p none. refl }))
    by_layer (i.Offset to high size low) = rw (rolls-Offset to high size low) (λ below. leaf _ _ _ _ _ (fold-Offset (inst_fits at) to high size low) (fold-Offset trail_step to high size low) (fold-Offset sets_step to high size low) (fold-Offset (inst_step seen) to high size low)
        (λ scope ways now good within apart once h. record { tied = record { rooted = h.rooted; comes = h.comes; only = h.only }; roots = λ p none. refl; places = λ p none. refl }))
    by_layer (i.Child to place node offset) = rw (rolls-Child to place node offset) (λ below. leaf _ _ _ _ _ (fold-Child (inst_fits at) to place node offset) (fold-Child trail_step to place node offset) (fold-Child sets_step to place node offset) (fold-Child (inst_step seen) to place node offset)
        (stepped ByChild to place node offset))
    by_layer (i.HashChild to place node offset) = rw (rolls-HashChild to place node offset) (λ below. leaf _ _ _ _ _ (fold-HashChild (inst_fits at) to place node offset) (fold-HashChild trail_step to place node offset) (fold-HashChild sets_step to place node offset) (fold-HashChild (inst_step seen) to place node offset)
        (stepped ByKey to place node offset))
    by_layer (i.MaskBit to place node offset) = rw (rolls-MaskBit to place node offset) (λ below. leaf _ _ _ _ _ (fold-MaskBit (inst_fits at) to place node offset) (fold-MaskBit trail_step to place node offset) (fold-MaskBit sets_step to place node offset) (fold-MaskBit (inst_step seen) to place node offset)
        (stepped ByBit to place node offset))
    by_layer (i.DynCell to place node offset) = rw (rolls-DynCell to place node offset) (λ below. leaf _ _ _ _ _ (fold-DynCell (inst_fits at) to place node offset) (fold-DynCell trail_step to place node offset) (fold-DynCell sets_step to place node offset) (fold-DynCell (inst_step seen) to place node offset)
        (stepped ByLength to place node offset))
    by_layer (i.ReadCell to place layout field index) = rw (rolls-ReadCell to place layout field index) (λ below. leaf _ _ _ _ _ (fold-ReadCell (inst_fits at) to place layout field index) (fold-ReadCell trail_step to place layout field index) (fold-ReadCell sets_step to place layout field index) (fold-ReadCell (inst_step seen) to place layout field index)
        (λ scope ways now good within apart once h. record {
          tied = record { rooted = h.rooted; comes = h.comes; only = one_access now.accesses (record { asks = false; layout = layout; place = now.places place; at = named_by index now }) h.only (no_question layout) };
          roots = λ p none. refl;
          places = λ p none. refl;
        }))
    by_layer (i.IsActive to place index) = rw (rolls-IsActive to place index) (λ below. leaf _ _ _ _ _ (fold-IsActive (inst_fits at) to place index) (fold-IsActive trail_step to place index) (fold-IsActive sets_step to place index) (fold-IsActive (inst_step seen) to place index)
        (λ scope ways now good within apart once h. record {
          tied = record {
            rooted = h.rooted;
            comes = h.comes;
            only = one_access now.accesses (record { asks = true; layout = now.roots place; place = now.places place; at = named_by index now }) h.only
                (λ asks. asked_here scope ways now place
                (λ known. is_cell at known.layout known && (holds_of (λ shape. indexes at scope shape index) (slice_get at.shapes known.layout) && is_truth_as true (slice_get at.regs to)))
                (scope.places place) refl good within h);
          };
          roots = λ p none. refl;
          places = λ p none. refl;
        }))
    by_layer (i.OwnRead to layout field) = rw (rolls-OwnRead to layout field) (λ below. leaf _ _ _ _ _ (fold-OwnRead (inst_fits at) to layout field) (fold-OwnRead trail_step to layout field) (fold-OwnRead sets_step to layout field) (fold-OwnRead (inst_step seen) to layout field)
        (λ scope ways now good within apart once h. record { tied = record { rooted = h.rooted; comes = h.comes; only = h.only }; roots = λ p none. refl; places = λ p none. refl }))
    by_layer (i.OwnWrite layout field from stmt) = rw (rolls-OwnWrite layout field from stmt) (λ below. leaf _ _ _ _ _ (fold-OwnWrite (inst_fits at) layout field from stmt) (fold-OwnWrite trail_step layout field from stmt) (fold-OwnWrite sets_step layout field from stmt) (fold-OwnWrite (inst_step seen) layout field from stmt)
        (λ scope ways now good within apart once h. record { tied = record { rooted = h.rooted; comes = h.comes; only = h.only }; roots = λ p none. refl; places = λ p none. refl }))
    by_layer (i.Acc op layout field place from index stmt) = rw (rolls-Acc op layout field place from index stmt) (λ below. leaf _ _ _ _ _ (fold-Acc (inst_fits at) op layout field place from index stmt) (fold-Acc trail_step op layout field place from index stmt) (fold-Acc sets_step op layout field place from index stmt) (fold-Acc (inst_step seen) op layout field place from index stmt)
        (λ scope ways now good within apart once h. record {
          tied = record { rooted = h.rooted; comes = h.comes; only = one_access now.accesses (record { asks = false; layout = layout; place = now.places place; at = named_by index now }) h.only (no_question layout) };
          roots = λ p none. refl;
          places = λ p none. refl;
        }))
    by_layer (i.Want layout index stmt) = rw (rolls-Want layout index stmt) (λ below. leaf _ _ _ _ _ (fold-Want (inst_fits at) layout index stmt) (fold-Want trail_step layout index stmt) (fold-Want sets_step layout index stmt) (fold-Want (inst_step seen) layout index stmt)
        (λ scope ways now good within apart once h. record { tied = record { rooted = h.rooted; comes = h.comes; only = h.only }; roots = λ p none. refl; places = λ p none. refl }))
    by_layer (i.If cond block otherwise) = rw (rolls-If cond block otherwise) (λ below.
        let under : suc (max (largest (map depth block)) (largest (map depth otherwise))) < suc n = subst (λ (k : ℕ). k < suc n) (fold-If depth_step cond block otherwise) below in
        leaf _ _ _ _ _ (fold-If (inst_fits at) cond block otherwise) (fold-If trail_step cond block otherwise) (settings-If cond block otherwise) (fold-If (inst_step seen) cond block otherwise)
        (by_if cond block otherwise (each block (omega (arith, under))) (each otherwise (omega (arith, under)))))
    by_layer (i.For var lo hi body) = rw (rolls-For var lo hi body) (λ below.
        let under : suc (largest (map depth body)) < suc n = subst (λ (k : ℕ). k < suc n) (fold-For depth_step var lo hi body) below in
        leaf _ _ _ _ _ (fold-For (inst_fits at) var lo hi body) (fold-For trail_step var lo hi body) (settings-For var lo hi body) (fold-For (inst_step seen) var lo hi body)
        (by_for var lo hi body (each body (omega (arith, under)))))

    deeper : (inst : Inst) → Deep inst
    deeper inst = rw (← roll-out-Inst inst) (by_layer (out-Inst inst))

  by_depth : (n : ℕ) (inst : Inst) → depth inst < n → KeepsInst inst
  by_depth zero inst below = absurd (omega (arith, below))
  by_depth (suc n) inst below = deeper n (by_list n (by_depth n)) inst below

  each_list : (insts : List Inst) → Listed insts
  each_list insts = by_list (suc (largest (map depth insts))) (by_depth (suc (largest (map depth insts)))) insts (omega arith)

  started : (block : List Inst) → Tied (first_scope block) [] (iteration_start seen)
  started block = record { rooted = λ p known e. absurd (cc); comes = λ p known e. absurd (cc); only = All-nil IsAsked }

-- each access of an iteration that asks, asks a layout that the text of the code asks
pub well_typed_asks : (shapes : List Shape) (code : Code) → is_well_typed shapes code ≡ true → (seen : Seen)
    → All (λ (access : Access). access.asks ≡ true → Contains (asked_in code.body) access.layout) (iteration seen code.body).accesses
well_typed_asks shapes code good seen =
    let at = frame_of shapes code in
    let parts = and_parts (judged at code.body (first_scope code.body)).0 (has_no_twice (set_regs code.body) && has_no_twice (set_places code.body)) good in
    let once = and_parts (has_no_twice (set_regs code.body)) (has_no_twice (set_places code.body)) parts.1 in
    let text = asked_by code.body [] in
    let ran = each_list seen at text code.body (first_scope code.body) [] (iteration_start seen) parts.0 (λ layout has. has) (λ p known e. absurd (cc)) (is_once (settings code.body) once.1) (started seen at text code.body) in
    subst (λ (layouts : List ℕ). All (λ (access : Access). access.asks ≡ true → Contains layouts access.layout) (iteration seen code.body).accesses) (sym (asked-row code.body)) ran.tied.only
