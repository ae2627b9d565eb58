-- What the pass asks of given code follows from its judgement: over all instructions.
use Rattle.std.specs.Prelude.{◌≡◌, refl, ℕ, ◌+◌, ◌^◌, ◌==◌, nat_lt, Bool, true, false, ◌&&◌, List, [], ◌∷◌, length, map, fold, get_or, slice_get, Option, Some, None, ℤ}
use Rattle.std.specs.List.{list_all}
use Rattle.std.proofs.Common.{arith, sym, ap, subst, ◌∙◌}
use Rattle.std.proofs.lemmas.Bool.{eqb-true, ltb-true, and_parts}
use Rattle.sg_words.specs.declared.operators.Ty.{Ty}
use Rattle.sg_words.specs.declared.operators.Ty.TheVariants as ty
use Rattle.sg_words.specs.declared.operators.BinOp.{BinOp}
use Rattle.sg_words.specs.declared.operators.UnOp.{UnOp}
use Rattle.sg_words.specs.declared.operators.AccOp.{AccOp}
use Rattle.sg_words.specs.WordLaws.{IsWord}
use Rattle.sg_layout.specs.declared.shape.Shape.{Shape}
use Rattle.sg_ir.specs.declared.code.Inst.{Inst}
use Rattle.sg_ir.specs.declared.code.Inst.TheOpen as i
use Rattle.sg_ir.specs.declared.op.Op.TheVariants as op
use Rattle.sg_ir.specs.declared.op.Step.{Step}
use Rattle.sg_ir.specs.declared.op.Step.TheVariants as step
use Rattle.sg_ir.specs.declared.op.Descent.{Descent}
use Rattle.sg_ir.specs.declared.op.Descent.TheVariants as by
use Rattle.sg_ir.specs.Blocks.{Value, Activity, Block, End, Spot, Link, chained, link_step, link, Cell}
use Rattle.sg_ir.specs.declared.span.Span.{Span}
use Rattle.sg_ir.specs.Span.{range_span, sets}
use Rattle.sg_ir.specs.WellTyped.{KnownPlace, Scope, Frame, with_var, is_truth, is_truth_as, joins, reads, indexes, is_i32, takes_truth, is_lnot, Way_down, ByChild, ByKey, ByBit, ByLength, holds_of, Judge, judge_step, judge_all, checkable, descends, is_cell, field_type_at, goes_on, step_fits, inst_fits, judges}
use Rattle.sg_ir.specs.InScope.{InScope, AreSet, step_regs, step_places}
use Rattle.sg_ir.proofs.Uses.{fold-Const, fold-Var, fold-Set, fold-Bin, fold-Un, fold-Mulq, fold-Root, fold-Check, fold-Extract, fold-Offset, fold-Child, fold-HashChild, fold-MaskBit, fold-DynCell, fold-ReadCell, fold-IsActive, fold-OwnRead, fold-OwnWrite, fold-Acc, fold-Want, fold-If, fold-For}
use Rattle.sg_simplify.specs.steps.Serves.{EachByRecursion}
use Rattle.sg_simplify.specs.steps.Counted.{Counts, AddsUp, IsWhole, Meets, Rules, words_step, has_words, Rule}
use Rattle.sg_simplify.proofs.Ruling.{word_rules, spot_rules, cell_rules, set_rules, branch_rules, loop_rules, settles}
use Rattle.sg_simplify.proofs.Inducting.{inductively}

and_assoc : (a b c : Bool) → ((a && b) && c) ≡ (a && (b && c))
and_assoc true b c = refl
and_assoc false b c = refl

no_more : (a b : ℕ) → a + (0 + b) ≡ a + b
no_more a b = omega arith

-- judgements one after the other
folded : (judges : List Judge) (good : Bool) (scope : Scope) → fold judge_step (good, scope) judges ≡ (good && (judge_all judges scope).0, (judge_all judges scope).1)
folded [] true scope = refl
folded [] false scope = refl
folded (judge ∷ judges) good scope =
    let here = folded judges (good && (judge scope).0) (judge scope).1 in
    let first = folded judges (judge scope).0 (judge scope).1 in
    here ∙ (ap (λ b. (b, (judge_all judges (judge scope).1).1)) (and_assoc good (judge scope).0 (judge_all judges (judge scope).1).0)
    ∙ ap (λ (pair : Bool × Scope). (good && pair.0, pair.1)) (sym first))

module _ (single : ℕ → Bool) (others : ℕ → Span) (totals : Counts) (at : Frame) (regs : List Ty) (entire : IsWhole at single others totals) where
  abbrev Ruling : Judge → Link → Type 0
  Ruling judge l = Rule single others totals judge l

  abbrev RulesFor : Inst → Type 0
  RulesFor inst = has_words inst ≡ true → Ruling (judges at inst) (link regs inst)

  carry : (judge other : Judge) (l k : Link) → judge ≡ other → l ≡ k → Ruling other k → Ruling judge l
  carry judge other l k e f h = subst (λ (j : Judge). Ruling j l) (sym e) (subst (λ (m : Link). Ruling other m) (sym f) h)

  -- what a judgement says of a register, a place and index registers
  used : (scope : Scope) (inner : InScope) (outside : Counts) (loops : List (ℕ × Span)) → Meets totals scope inner outside loops → (truth : Bool) (r : ℕ) → reads at scope truth r ≡ true → inner.regs r ≡ true
  used scope inner outside loops meets truth r h = meets.regs r (and_parts (scope.regs r) (is_truth_as truth (slice_get at.regs r)) h).0

  there : (scope : Scope) (inner : InScope) (outside : Counts) (loops : List (ℕ × Span)) → Meets totals scope inner outside loops → (place : ℕ) (test : KnownPlace → Bool) → holds_of test (scope.places place) ≡ true → inner.places place ≡ true
  there scope inner outside loops meets place test h = by_place (scope.places place) refl h
    where
      by_place : (o : Option KnownPlace) → scope.places place ≡ o → holds_of test o ≡ true → inner.places place ≡ true
      by_place None e g = absurd (cc)
      by_place (Some known) e g = meets.places place known e

  all_used : (scope : Scope) (inner : InScope) (outside : Counts) (loops : List (ℕ × Span)) → Meets totals scope inner outside loops → (index : List ℕ) → list_all (reads at scope false) index ≡ true → AreSet inner.regs index
  all_used scope inner outside loops meets [] h = tt
  all_used scope inner outside loops meets (r ∷ index) h = let parts = and_parts (reads at scope false r) (list_all (reads at scope false) index) h in
      (used scope inner outside loops meets false r parts.0, all_used scope inner outside loops meets index parts.1)

  -- index registers of an access
  index_is : (scope : Scope) (inner : InScope) (outside : Counts) (loops : List (ℕ × Span)) → Meets totals scope inner outside loops → (layout : ℕ) (index : List ℕ)
      → holds_of (λ shape. indexes at scope shape index) (slice_get at.shapes layout) ≡ true → AreSet inner.regs index
  index_is scope inner outside loops meets layout index h = by_shape (slice_get at.shapes layout) h
    where
      by_shape : (o : Option Shape) → holds_of (λ shape. indexes at scope shape index) o ≡ true → AreSet inner.regs index
      by_shape None g = absurd (cc)
      by_shape (Some shape) g = all_used scope inner outside loops meets index (and_parts (length index == shape.axes) (list_all (reads at scope false) index) g).1

  -- ---- single instructions
  const_fits : (to word : ℕ) → IsWord word → Ruling (inst_fits at (i.Const to word)) (link_step regs (i.Const to word))
  const_fits to word has scope inner outside loops rest good meets adds more = word_rules single others totals at entire scope inner outside loops to (op.Const word (is_truth (get_or regs to ty.U32))) rest tt tt has tt meets adds more

  var_fits : (to var : ℕ) → Ruling (inst_fits at (i.Var to var)) (link_step regs (i.Var to var))
  var_fits to var scope inner outside loops rest good meets adds more =
      let set = (and_parts (scope.vars var) _ good).0 in
      word_rules single others totals at entire scope inner outside loops to (op.Var var) rest tt tt tt (settles single others totals at entire scope inner outside loops var (sets var rest) meets set (adds.vars var)) meets adds more

  set_fits : (var from : ℕ) → Ruling (inst_fits at (i.Set var from)) (link_step regs (i.Set var from))
  set_fits var from scope inner outside loops rest good meets adds more =
      set_rules single others totals at entire scope inner outside loops var from rest (meets.regs from (and_parts (scope.regs from) _ good).0) meets adds more

  bin_fits : (to : ℕ) (how : BinOp) (kind : Ty) (a b : ℕ) → Ruling (inst_fits at (i.Bin to how kind a b)) (link_step regs (i.Bin to how kind a b))
  bin_fits to how kind a b scope inner outside loops rest good meets adds more =
      let first = and_parts (reads at scope (takes_truth how) a) _ good in
      let second = and_parts (reads at scope (takes_truth how) b) _ first.1 in
      word_rules single others totals at entire scope inner outside loops to (op.Bin how kind a b) rest (used scope inner outside loops meets (takes_truth how) a first.0, (used scope inner outside loops meets (takes_truth how) b second.0, tt)) tt tt tt meets adds more

  un_fits : (to : ℕ) (how : UnOp) (kind : Ty) (a : ℕ) → Ruling (inst_fits at (i.Un to how kind a)) (link_step regs (i.Un to how kind a))
  un_fits to how kind a scope inner outside loops rest good meets adds more =
      word_rules single others totals at entire scope inner outside loops to (op.Un how kind a) rest (used scope inner outside loops meets (is_lnot how) a (and_parts (reads at scope (is_lnot how) a) _ good).0, tt) tt tt tt meets adds more

  mulq_fits : (to a b s : ℕ) → Ruling (inst_fits at (i.Mulq to a b s)) (link_step regs (i.Mulq to a b s))
  mulq_fits to a b s scope inner outside loops rest good meets adds more =
      let first = and_parts (reads at scope false a) _ good in
      let second = and_parts (reads at scope false b) _ first.1 in
      let third = and_parts (reads at scope false s) _ second.1 in
      word_rules single others totals at entire scope inner outside loops to (op.Mulq a b s) rest (used scope inner outside loops meets false a first.0, (used scope inner outside loops meets false b second.0, (used scope inner outside loops meets false s third.0, tt))) tt tt tt meets adds more

  extract_fits : (to div size from : ℕ) → Ruling (inst_fits at (i.Extract to div size from)) (link_step regs (i.Extract to div size from))
  extract_fits to div size from scope inner outside loops rest good meets adds more =
      let first = and_parts (nat_lt 0 div) _ good in
      let second = and_parts (nat_lt 0 size) _ first.1 in
      let third = and_parts (reads at scope false from) _ second.1 in
      word_rules single others totals at entire scope inner outside loops to (op.Extract div size from) rest (used scope inner outside loops meets false from third.0, tt) tt tt tt meets adds more

  offset_fits : (to high size low : ℕ) → Ruling (inst_fits at (i.Offset to high size low)) (link_step regs (i.Offset to high size low))
  offset_fits to high size low scope inner outside loops rest good meets adds more =
      let first = and_parts (nat_lt 0 size) _ good in
      let second = and_parts (reads at scope false high) _ first.1 in
      let third = and_parts (reads at scope false low) _ second.1 in
      word_rules single others totals at entire scope inner outside loops to (op.Offset high size low) rest (used scope inner outside loops meets false high second.0, (used scope inner outside loops meets false low third.0, tt)) tt tt tt meets adds more

  ownread_fits : (to layout field : ℕ) → Ruling (inst_fits at (i.OwnRead to layout field)) (link_step regs (i.OwnRead to layout field))
  ownread_fits to layout field scope inner outside loops rest good meets adds more = word_rules single others totals at entire scope inner outside loops to (op.OwnRead layout field) rest tt tt tt tt meets adds more

  root_fits : (to layout : ℕ) → Ruling (inst_fits at (i.Root to layout)) (link_step regs (i.Root to layout))
  root_fits to layout scope inner outside loops rest good meets adds more =
      spot_rules single others totals at entire scope inner outside loops to (step.Root layout) (record { layout = layout; passed = 0 }) rest tt tt meets adds more

  -- a place that goes on from another
  on_fits : (to place passed r : ℕ) (how : Step) (test : KnownPlace → Bool) (scope : Scope) (inner : InScope) (outside : Counts) (loops : List (ℕ × Span)) (rest : Block)
      → holds_of test (scope.places place) ≡ true → AreSet inner.regs (step_regs how) → AreSet inner.places (step_places how)
      → Meets totals scope inner outside loops → AddsUp totals outside (Spot to how rest)
      → ((inside : InScope) (beside : Counts) → Meets totals (goes_on to passed (scope.places place) scope) inside beside loops → AddsUp totals beside rest → Rules single others inside loops rest)
      → Rules single others inner loops (Spot to how rest)
  on_fits to place passed r how test scope inner outside loops rest holds regs_set places_set meets adds more = by_place (scope.places place) refl holds
    where
      by_place : (o : Option KnownPlace) → scope.places place ≡ o → holds_of test o ≡ true → Rules single others inner loops (Spot to how rest)
      by_place None e g = absurd (cc)
      by_place (Some known) e g =
          spot_rules single others totals at entire scope inner outside loops to how (record { layout = known.layout; passed = passed }) rest regs_set places_set meets adds
          (λ inside beside m. more inside beside (subst (λ (o : Option KnownPlace). Meets totals (goes_on to passed o scope) inside beside loops) (sym e) m))

  check_fits : (to place axis extent index : ℕ) → Ruling (inst_fits at (i.Check to place axis extent index)) (link_step regs (i.Check to place axis extent index))
  check_fits to place axis extent index scope inner outside loops rest good meets adds more =
      let first = and_parts (nat_lt to at.places) _ good in
      let second = and_parts (nat_lt 0 extent) _ first.1 in
      let third = and_parts (holds_of (checkable at axis extent) (scope.places place)) (reads at scope false index) second.1 in
      on_fits to place 0 index (step.Check place axis extent index) (checkable at axis extent) scope inner outside loops rest third.0
      (used scope inner outside loops meets false index third.1, tt) (there scope inner outside loops meets place (checkable at axis extent) third.0, tt) meets adds more

  down_fits : (way : Way_down) (descent : Descent) (to place node offset : ℕ) (scope : Scope) (inner : InScope) (outside : Counts) (loops : List (ℕ × Span)) (rest : Block)
      → (step_fits at way to place node offset scope).0 ≡ true → Meets totals scope inner outside loops → AddsUp totals outside (Spot to (step.Down descent place node offset) rest)
      → ((inside : InScope) (beside : Counts) → Meets totals (step_fits at way to place node offset scope).1 inside beside loops → AddsUp totals beside rest → Rules single others inside loops rest)
      → Rules single others inner loops (Spot to (step.Down descent place node offset) rest)
  down_fits way descent to place node offset scope inner outside loops rest good meets adds more =
      let first = and_parts (nat_lt to at.places) _ good in
      let second = and_parts (holds_of (descends at way node) (scope.places place)) (reads at scope false offset) first.1 in
      on_fits to place node offset (step.Down descent place node offset) (descends at way node) scope inner outside loops rest second.0
      (used scope inner outside loops meets false offset second.1, tt) (there scope inner outside loops meets place (descends at way node) second.0, tt) meets adds more

  readcell_fits : (to place layout field : ℕ) (index : List ℕ) → Ruling (inst_fits at (i.ReadCell to place layout field index)) (link_step regs (i.ReadCell to place layout field index))
  readcell_fits to place layout field index scope inner outside loops rest good meets adds more =
      let first = and_parts (holds_of (is_cell at layout) (scope.places place)) _ good in
      let second = and_parts (joins (field_type_at at layout field) (slice_get at.regs to)) _ first.1 in
      let is = index_is scope inner outside loops meets layout index second.1 in
      cell_rules single others totals at entire scope inner outside loops to place (Value layout field) index rest (there scope inner outside loops meets place (is_cell at layout) first.0) is meets adds more

  isactive_fits : (to place : ℕ) (index : List ℕ) → Ruling (inst_fits at (i.IsActive to place index)) (link_step regs (i.IsActive to place index))
  isactive_fits to place index scope inner outside loops rest good meets adds more = by_known (scope.places place) refl good
    where
      by_known : (found : Option KnownPlace) → scope.places place ≡ found
          → holds_of (λ known. is_cell at known.layout known && (holds_of (λ shape. indexes at scope shape index) (slice_get at.shapes known.layout) && is_truth_as true (slice_get at.regs to))) found ≡ true
          → Rules single others inner loops (Cell to place Activity index rest)
      by_known None is h = absurd (cc)
      by_known (Some known) is h =
          let first = and_parts (is_cell at known.layout known) _ h in
          let second = and_parts (holds_of (λ shape. indexes at scope shape index) (slice_get at.shapes known.layout)) _ first.1 in
          cell_rules single others totals at entire scope inner outside loops to place Activity index rest
          (meets.places place known is) (index_is scope inner outside loops meets known.layout index second.0) meets adds more

  ownwrite_fits : (layout field from stmt : ℕ) → Ruling (inst_fits at (i.OwnWrite layout field from stmt)) (link_step regs (i.OwnWrite layout field from stmt))
  ownwrite_fits layout field from stmt scope inner outside loops rest good meets adds more =
      let behind = more inner outside meets (record { vars = λ x. adds.vars x ∙ no_more (outside.vars x) (sets x rest); regs = adds.regs; places = adds.places }) in
      record {
        scoped = ((meets.regs from (and_parts (scope.regs from) _ good).0, tt), tt, behind.scoped);
        settled = behind.settled;
        spanned = (tt, behind.spanned);
      }

  acc_fits : (how : AccOp) (layout field place from : ℕ) (index : List ℕ) (stmt : ℕ) → Ruling (inst_fits at (i.Acc how layout field place from index stmt)) (link_step regs (i.Acc how layout field place from index stmt))
  acc_fits how layout field place from index stmt scope inner outside loops rest good meets adds more =
      let first = and_parts (holds_of (is_cell at layout) (scope.places place)) _ good in
      let second = and_parts (scope.regs from) _ first.1 in
      let third = and_parts (joins (field_type_at at layout field) (slice_get at.regs from)) _ second.1 in
      let is = index_is scope inner outside loops meets layout index third.1 in
      let behind = more inner outside meets (record { vars = λ x. adds.vars x ∙ no_more (outside.vars x) (sets x rest); regs = adds.regs; places = adds.places }) in
      record {
        scoped = ((meets.regs from second.0, is), (there scope inner outside loops meets place (is_cell at layout) first.0, tt), behind.scoped);
        settled = behind.settled;
        spanned = (tt, behind.spanned);
      }

  want_fits : (layout : ℕ) (index : List ℕ) (stmt : ℕ) → Ruling (inst_fits at (i.Want layout index stmt)) (link_step regs (i.Want layout index stmt))
  want_fits layout index stmt scope inner outside loops rest good meets adds more =
      let is = index_is scope inner outside loops meets layout index good in
      let behind = more inner outside meets (record { vars = λ x. adds.vars x ∙ no_more (outside.vars x) (sets x rest); regs = adds.regs; places = adds.places }) in
      record {
        scoped = (is, tt, behind.scoped);
        settled = behind.settled;
        spanned = (tt, behind.spanned);
      }

  -- ---- blocks
  list_rules : (insts : List Inst) → EachByRecursion RulesFor insts → list_all (λ b. b) (map has_words insts) ≡ true → Ruling (judge_all (map (judges at) insts)) (chained (map (link regs) insts))
  list_rules [] each has scope inner outside loops rest good meets adds more = more inner outside meets adds
  list_rules (inst ∷ insts) each has scope inner outside loops rest good meets adds more =
      let words = and_parts (has_words inst) (list_all (λ b. b) (map has_words insts)) has in
      let all = folded (map (judges at) insts) (judges at inst scope).0 (judges at inst scope).1 in
      let goods = and_parts (judges at inst scope).0 (judge_all (map (judges at) insts) (judges at inst scope).1).0 (sym (ap (λ (pair : Bool × Scope). pair.0) all) ∙ good) in
      each.0 words.0 scope inner outside loops (chained (map (link regs) insts) rest) goods.0 meets adds
      (λ inside beside m a. list_rules insts each.1 words.1 (judges at inst scope).1 inside beside loops rest goods.1 m a
      (λ inside' beside' m'. more inside' beside' (subst (λ (s : Scope). Meets totals s inside' beside' loops) (sym (ap (λ (pair : Bool × Scope). pair.1) all)) m')))

  ends : (inner : InScope) (loops : List (ℕ × Span)) → Rules single others inner loops End
  ends inner loops = record { scoped = tt; settled = tt; spanned = tt }

  if_fits : (cond : ℕ) (block otherwise : List Inst) → Ruling (judge_all (map (judges at) block)) (chained (map (link regs) block)) → Ruling (judge_all (map (judges at) otherwise)) (chained (map (link regs) otherwise))
      → Ruling (inst_fits at (i.If cond (map (judges at) block) (map (judges at) otherwise))) (link_step regs (i.If cond (map (link regs) block) (map (link regs) otherwise)))
  if_fits cond block otherwise yes_law no_law scope inner outside loops rest good meets adds more =
      let first = and_parts (reads at scope true cond) _ good in
      let second = and_parts (judge_all (map (judges at) block) scope).0 (judge_all (map (judges at) otherwise) scope).0 first.1 in
      branch_rules single others totals at entire scope inner outside loops cond (chained (map (link regs) block) End) (chained (map (link regs) otherwise) End) rest
      (used scope inner outside loops meets true cond first.0) meets adds
      (λ beside m a. yes_law scope inner beside loops End second.0 m a (λ inside beside' m' a'. ends inside loops))
      (λ beside m a. no_law scope inner beside loops End second.1 m a (λ inside beside' m' a'. ends inside loops))
      more

  for_fits : (var : ℕ) (lo hi : ℤ) (body : List Inst) → Ruling (judge_all (map (judges at) body)) (chained (map (link regs) body))
      → Ruling (inst_fits at (i.For var lo hi (map (judges at) body))) (link_step regs (i.For var lo hi (map (link regs) body)))
  for_fits var lo hi body law scope inner outside loops rest good meets adds more =
      let first = and_parts (holds_of is_i32 (slice_get at.vars var)) _ good in
      let second = and_parts (at.setters var == 1) (judge_all (map (judges at) body) (with_var var scope)).0 first.1 in
      let once : totals.vars var ≡ 1 = sym (entire.setters var) ∙ eqb-true (at.setters var) 1 second.0 in
      loop_rules single others totals at entire scope inner outside loops var lo hi (chained (map (link regs) body) End) rest once meets adds
      (λ beside m a. law (with_var var scope) inner beside ((var, range_span lo hi) ∷ loops) End second.1 m a (λ inside beside' m' a'. ends inside ((var, range_span lo hi) ∷ loops)))
      more

  every_rules : (inst : Inst) → RulesFor inst
  every_rules = inductively RulesFor
      (λ to word has. carry _ _ _ _ (fold-Const (inst_fits at) to word) (fold-Const (link_step regs) to word) (const_fits to word (ltb-true word (2 ^ 32) (sym (fold-Const words_step to word) ∙ has))))
      (λ to var has. carry _ _ _ _ (fold-Var (inst_fits at) to var) (fold-Var (link_step regs) to var) (var_fits to var))
      (λ var from has. carry _ _ _ _ (fold-Set (inst_fits at) var from) (fold-Set (link_step regs) var from) (set_fits var from))
      (λ to how kind a b has. carry _ _ _ _ (fold-Bin (inst_fits at) to how kind a b) (fold-Bin (link_step regs) to how kind a b) (bin_fits to how kind a b))
      (λ to how kind a has. carry _ _ _ _ (fold-Un (inst_fits at) to how kind a) (fold-Un (link_step regs) to how kind a) (un_fits to how kind a))
      (λ to a b s has. carry _ _ _ _ (fold-Mulq (inst_fits at) to a b s) (fold-Mulq (link_step regs) to a b s) (mulq_fits to a b s))
      (λ to layout has. carry _ _ _ _ (fold-Root (inst_fits at) to layout) (fold-Root (link_step regs) to layout) (root_fits to layout))
      (λ to place axis extent index has. carry _ _ _ _ (fold-Check (inst_fits at) to place axis extent index) (fold-Check (link_step regs) to place axis extent index) (check_fits to place axis extent index))
      (λ to div size from has. carry _ _ _ _ (fold-Extract (inst_fits at) to div size from) (fold-Extract (link_step regs) to div size from) (extract_fits to div size from))
      (λ to high size low has. carry _ _ _ _ (fold-Offset (inst_fits at) to high size low) (fold-Offset (link_step regs) to high size low) (offset_fits to high size low))
      (λ to place node offset has. carry _ _ _ _ (fold-Child (inst_fits at) to place node offset) (fold-Child (link_step regs) to place node offset) (down_fits ByChild by.Child to place node offset))
      (λ to place node offset has. carry _ _ _ _ (fold-HashChild (inst_fits at) to place node offset) (fold-HashChild (link_step regs) to place node offset) (down_fits ByKey by.HashChild to place node offset))
      (λ to place node offset has. carry _ _ _ _ (fold-MaskBit (inst_fits at) to place node offset) (fold-MaskBit (link_step regs) to place node offset) (down_fits ByBit by.MaskBit to place node offset))
      (λ to place node offset has. carry _ _ _ _ (fold-DynCell (inst_fits at) to place node offset) (fold-DynCell (link_step regs) to place node offset) (down_fits ByLength by.DynCell to place node offset))
      (λ to place layout field index has. carry _ _ _ _ (fold-ReadCell (inst_fits at) to place layout field index) (fold-ReadCell (link_step regs) to place layout field index) (readcell_fits to place layout field index))
      (λ to place index has. carry _ _ _ _ (fold-IsActive (inst_fits at) to place index) (fold-IsActive (link_step regs) to place index) (isactive_fits to place index))
      (λ to layout field has. carry _ _ _ _ (fold-OwnRead (inst_fits at) to layout field) (fold-OwnRead (link_step regs) to layout field) (ownread_fits to layout field))
      (λ layout field from stmt has. carry _ _ _ _ (fold-OwnWrite (inst_fits at) layout field from stmt) (fold-OwnWrite (link_step regs) layout field from stmt) (ownwrite_fits layout field from stmt))
      (λ how layout field place from index stmt has. carry _ _ _ _ (fold-Acc (inst_fits at) how layout field place from index stmt) (fold-Acc (link_step regs) how layout field place from index stmt) (acc_fits how layout field place from index stmt))
      (λ layout index stmt has. carry _ _ _ _ (fold-Want (inst_fits at) layout index stmt) (fold-Want (link_step regs) layout index stmt) (want_fits layout index stmt))
      (λ cond block otherwise first second has.
      let words = and_parts (list_all (λ b. b) (map has_words block)) (list_all (λ b. b) (map has_words otherwise)) (sym (fold-If words_step cond block otherwise) ∙ has) in
      carry _ _ _ _ (fold-If (inst_fits at) cond block otherwise) (fold-If (link_step regs) cond block otherwise)
      (if_fits cond block otherwise (list_rules block first words.0) (list_rules otherwise second words.1)))
      (λ var lo hi body each has.
      carry _ _ _ _ (fold-For (inst_fits at) var lo hi body) (fold-For (link_step regs) var lo hi body)
      (for_fits var lo hi body (list_rules body each (sym (fold-For words_step var lo hi body) ∙ has))))

  pub code_rules : (insts : List Inst) → list_all (λ b. b) (map has_words insts) ≡ true → Ruling (judge_all (map (judges at) insts)) (chained (map (link regs) insts))
  code_rules insts has = list_rules insts (of_every insts) has
    where
      of_every : (all : List Inst) → EachByRecursion RulesFor all
      of_every [] = tt
      of_every (inst ∷ all) = (every_rules inst, of_every all)
