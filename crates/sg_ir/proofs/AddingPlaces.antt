-- What the instructions of a place add to judgements, one by one and one after another.
use Rattle.std.proofs.Common.{◌≡◌, ℕ, zero, suc, ◌+◌, ◌-◌, ◌<◌, ◌≤◌, true, false, ◌&&◌, ltb, eqb, List, [], ◌∷◌, ◌++◌, length, take, drop, All, get_or, refl, sym, ap, ◌∙◌, subst, append_assoc, arith, Option, Some, None}
use Rattle.std.specs.Prelude.{slice_get}
use Rattle.std.specs.List.{flat_map}
use Rattle.std.proofs.lemmas.Bool.{and_from, lt-ltb, eq-eqb}
use Rattle.std.proofs.lemmas.List.{append-nil, length_push}
use Rattle.std.proofs.lemmas.Option.{slice_get_within}
use Rattle.sg_words.specs.declared.operators.Ty.TheVariants as ty
use Rattle.sg_coord.specs.Bounds.{Bounds}
use Rattle.sg_layout.specs.declared.shape.Kind.{Kind}
use Rattle.sg_layout.specs.declared.shape.Kind.TheVariants.{Dense, Bitmasked, Pointer, Hash, Dynamic}
use Rattle.sg_layout.specs.declared.shape.NodeShape.{NodeShape}
use Rattle.sg_layout.specs.declared.shape.Shape.{Shape}
use Rattle.sg_layout.specs.Axes.{bounds_of_shape}
use Rattle.sg_ir.specs.declared.code.Inst.{Inst, fold-Inst}
use Rattle.sg_ir.specs.declared.code.Inst.TheVariants as v
use Rattle.sg_ir.specs.declared.names.Names.{Names}
use Rattle.sg_ir.specs.Runs.{put, node_in}
use Rattle.sg_ir.specs.WellTyped.{KnownPlace, Scope, Frame, Way_down, ByChild, ByKey, ByBit, ByLength, goes_down, reads, is_truth_as, holds_of, checkable, descends, goes_on, step_fits, judges, judged, SetName, SetsPlace, sets_step, set_vars, var_number, with_place}
use Rattle.sg_ir.specs.Apt.{Use, uses_step, uses_in}
use Rattle.sg_ir.specs.Emits.{NamesGrow, PutsReg, PutsPlace}
use Rattle.sg_ir.specs.StepDown.{child_inst}
use Rattle.sg_ir.specs.Trimmed.{Ways}
use Rattle.sg_ir.specs.Trails.{trail, asked_by, ways_after}
use Rattle.sg_ir.specs.EmitTypes.{KeepsVarsAndUses, AddsSteps, KeepsScope, CanRead, HasPassed, AddsWord, AddsChecks, AddsDescent}
use Rattle.sg_ir.specs.Places.{extents_in}
use Rattle.sg_ir.proofs.Folds.{fold-Root, fold-Check, fold-Extract, fold-Offset, fold-Child, fold-HashChild, fold-MaskBit, fold-DynCell}
use Rattle.sg_ir.proofs.Judging.{judges-Root, judges-Check, judges-Extract, judges-Offset, judges-Child, judges-HashChild, judges-MaskBit, judges-DynCell, set_vars-append, uses-append}
use Rattle.sg_ir.proofs.Trailing.{trail-Extract, trail-Offset, trail-Root, trail-Check, trail-step, asked-more}
use Rattle.sg_ir.proofs.Emitting.{put-same, put-other}
use Rattle.sg_ir.proofs.Extending.{rest-whole, rest-shorter, all_rest, empty_from}
use Rattle.sg_ir.proofs.Leading.{slice_get-past}
use Rattle.sg_ir.proofs.Adding.{adds-reg, adds-place, adds-same, adds-trans, can_read-kept}

plain-one : (inst : Inst) (before after : List Inst) → after ≡ before ++ inst ∷ [] → set_vars (inst ∷ []) ≡ [] → uses_in (inst ∷ []) ≡ [] → ((ways : Ways) → (trail inst ways).0 ≡ []) → KeepsVarsAndUses before after
plain-one inst before after more vars uses asks = record {
  vars = ap set_vars more ∙ set_vars-append before (inst ∷ []) ∙ ap (λ l. set_vars before ++ l) vars ∙ append-nil (set_vars before);
  uses = ap uses_in more ∙ uses-append before (inst ∷ []) ∙ ap (λ l. uses_in before ++ l) uses ∙ append-nil (uses_in before);
  asks = λ ways. ap (λ block. asked_by block ways) more ∙ asked-more before inst ways ∙ ap (λ l. asked_by before ways ++ l) (asks (ways_after before ways)) ∙ append-nil (asked_by before ways);
}

pub steps-trans : (shapes : List Shape) (needs middle asks gains : Frame → Scope → Type 0) (old mid new : Names) (a b c : List Inst) →
    AddsSteps shapes needs middle old mid a b → AddsSteps shapes asks gains mid new b c →
    ((at : Frame) (first second : Scope) → needs at first → middle at second → KeepsScope old first second → asks at second) →
    AddsSteps shapes needs gains old new a c
steps-trans shapes needs middle asks gains old mid new a b c first second bridge = record {
  adds = adds-trans shapes needs middle asks gains old mid new a b c first.adds second.adds bridge;
  plain = record { vars = second.plain.vars ∙ first.plain.vars; uses = second.plain.uses ∙ first.plain.uses; asks = λ ways. second.plain.asks ways ∙ first.plain.asks ways };
}

pub steps-same : (shapes : List Shape) (needs gains : Frame → Scope → Type 0) (names : Names) (block : List Inst) →
    ((at : Frame) (scope : Scope) → needs at scope → gains at scope) → AddsSteps shapes needs gains names names block block
steps-same shapes needs gains names block gained = record {
  adds = adds-same shapes needs gains names block gained;
  plain = record { vars = refl; uses = refl; asks = λ ways. refl };
}

pub extract-adds : (shapes : List Shape) (div size from to : ℕ) (old new : Names) (a b : List Inst) → PutsReg ty.U32 (λ r. v.Extract r div size from) to old new a b → 1 ≤ div → 1 ≤ size →
    AddsSteps shapes (λ at scope. reads at scope false from ≡ true) (λ at scope. reads at scope false to ≡ true) old new a b
extract-adds shapes div size from to old new a b puts div_some size_some = record {
  adds = adds-reg shapes _ _ ty.U32 (λ r. v.Extract r div size from) (λ at scope. ltb 0 div && (ltb 0 size && (reads at scope false from && is_truth_as false (slice_get at.regs to)))) to old new a b puts
      (fold-Extract sets_step to div size from) (λ at scope. judges-Extract at to div size from scope)
      (λ at scope same typed need. and_from (ltb 0 div) _ (lt-ltb 0 div (omega arith)) (and_from (ltb 0 size) _ (lt-ltb 0 size (omega arith)) (and_from (reads at scope false from) _ need (ap (is_truth_as false) typed))))
      (λ at scope same typed need. and_from (put to true scope.regs to) _ (put-same to true scope.regs) (ap (is_truth_as false) typed));
  plain = plain-one (v.Extract to div size from) a b puts.block
      (ap (λ ss. flat_map var_number (ss ++ [])) (fold-Extract sets_step to div size from)) (ap (λ us. us ++ []) (fold-Extract uses_step to div size from))
      (λ ways. ap (λ (t : List ℕ × Ways). t.0) (trail-Extract to div size from ways));
}

pub offset-adds : (shapes : List Shape) (high size low to : ℕ) (old new : Names) (a b : List Inst) → PutsReg ty.U32 (λ r. v.Offset r high size low) to old new a b → 1 ≤ size →
    AddsSteps shapes (λ at scope. (reads at scope false high ≡ true) × (reads at scope false low ≡ true)) (λ at scope. reads at scope false to ≡ true) old new a b
offset-adds shapes high size low to old new a b puts size_some = record {
  adds = adds-reg shapes _ _ ty.U32 (λ r. v.Offset r high size low) (λ at scope. ltb 0 size && (reads at scope false high && (reads at scope false low && is_truth_as false (slice_get at.regs to)))) to old new a b puts
      (fold-Offset sets_step to high size low) (λ at scope. judges-Offset at to high size low scope)
      (λ at scope same typed need. and_from (ltb 0 size) _ (lt-ltb 0 size (omega arith)) (and_from (reads at scope false high) _ need.0 (and_from (reads at scope false low) _ need.1 (ap (is_truth_as false) typed))))
      (λ at scope same typed need. and_from (put to true scope.regs to) _ (put-same to true scope.regs) (ap (is_truth_as false) typed));
  plain = plain-one (v.Offset to high size low) a b puts.block
      (ap (λ ss. flat_map var_number (ss ++ [])) (fold-Offset sets_step to high size low)) (ap (λ us. us ++ []) (fold-Offset uses_step to high size low))
      (λ ways. ap (λ (t : List ℕ × Ways). t.0) (trail-Offset to high size low ways));
}

pub root-adds : (shapes : List Shape) (layout to : ℕ) (old new : Names) (a b : List Inst) → PutsPlace (λ p. v.Root p layout) to old new a b → layout < length shapes →
    AddsSteps shapes (λ at scope. Unit {0}) (HasPassed to layout 0) old new a b
root-adds shapes layout to old new a b puts there = record {
  adds = adds-place shapes _ _ (λ p. v.Root p layout) (λ at scope. ltb to at.places && ltb layout (length at.shapes)) (with_place to (record { layout = layout; passed = 0 })) to old new a b puts
      (fold-Root sets_step to layout) (λ at scope. judges-Root at to layout scope)
      (λ scope. ((λ p below. put-other to p (Some (record { layout = layout; passed = 0 })) scope.places below), (refl, refl)))
      (λ at scope same room need. and_from (ltb to at.places) _ (lt-ltb to at.places room) (ap (λ ss. ltb layout (length ss)) same ∙ lt-ltb layout (length shapes) there))
      (λ at scope same need. put-same to (Some (record { layout = layout; passed = 0 })) scope.places);
  plain = plain-one (v.Root to layout) a b puts.block
      (ap (λ ss. flat_map var_number (ss ++ [])) (fold-Root sets_step to layout)) (ap (λ us. us ++ []) (fold-Root uses_step to layout))
      (λ ways. ap (λ (t : List ℕ × Ways). t.0) (trail-Root to layout ways));
}

-- what comes after a place that goes on from one that is known
goes_on-kept : (to passed : ℕ) (from : Option KnownPlace) (scope : Scope) → ((p : ℕ) → p < to → (goes_on to passed from scope).places p ≡ scope.places p) × (((goes_on to passed from scope).regs ≡ scope.regs) × ((goes_on to passed from scope).vars ≡ scope.vars))
goes_on-kept to passed None scope = ((λ p below. refl), (refl, refl))
goes_on-kept to passed (Some known) scope = ((λ p below. put-other to p (Some (record { layout = known.layout; passed = passed })) scope.places below), (refl, refl))

goes_on-known : (to passed layout before : ℕ) (from : Option KnownPlace) (scope : Scope) → from ≡ Some (record { layout = layout; passed = before }) → (goes_on to passed from scope).places to ≡ Some (record { layout = layout; passed = passed })
goes_on-known to passed layout before from scope there =
    ap (λ k. (goes_on to passed k scope).places to) there ∙ put-same to (Some (record { layout = layout; passed = passed })) scope.places

is_checkable : (at : Frame) (shape : Shape) (layout axis extent : ℕ) → slice_get at.shapes layout ≡ Some shape → axis < shape.axes → Some extent ≡ slice_get (extents_in (bounds_of_shape shape)) axis → checkable at axis extent (record { layout = layout; passed = 0 }) ≡ true
is_checkable at shape layout axis extent there below is =
    ap (holds_of (λ (s : Shape). ltb axis s.axes && holds_of (λ e. eqb e extent) (slice_get (extents_in (bounds_of_shape s)) axis))) there
    ∙ and_from (ltb axis shape.axes) _ (lt-ltb axis shape.axes below) (ap (holds_of (λ e. eqb e extent)) (sym is) ∙ eq-eqb extent extent refl)

pub check-adds : (shapes : List Shape) (shape : Shape) (layout place axis extent index to : ℕ) (old new : Names) (a b : List Inst) → PutsPlace (λ p. v.Check p place axis extent index) to old new a b →
    slice_get shapes layout ≡ Some shape → 1 ≤ extent → axis < shape.axes → Some extent ≡ slice_get (extents_in (bounds_of_shape shape)) axis →
    AddsSteps shapes (λ at scope. HasPassed place layout 0 at scope × (reads at scope false index ≡ true)) (HasPassed to layout 0) old new a b
check-adds shapes shape layout place axis extent index to old new a b puts there some below is = record {
  adds = adds-place shapes _ _ (λ p. v.Check p place axis extent index)
      (λ at scope. ltb to at.places && (ltb 0 extent && (holds_of (checkable at axis extent) (scope.places place) && reads at scope false index))) (λ scope. goes_on to 0 (scope.places place) scope) to old new a b puts
      (fold-Check sets_step to place axis extent index) (λ at scope. judges-Check at to place axis extent index scope)
      (λ scope. goes_on-kept to 0 (scope.places place) scope)
      (λ at scope same room need. and_from (ltb to at.places) _ (lt-ltb to at.places room) (and_from (ltb 0 extent) _ (lt-ltb 0 extent (omega arith))
      (and_from (holds_of (checkable at axis extent) (scope.places place)) _
      (ap (holds_of (checkable at axis extent)) need.0 ∙ is_checkable at shape layout axis extent (ap (λ ss. slice_get ss layout) same ∙ there) below is) need.1)))
      (λ at scope same need. goes_on-known to 0 layout 0 (scope.places place) scope need.0);
  plain = plain-one (v.Check to place axis extent index) a b puts.block
      (ap (λ ss. flat_map var_number (ss ++ [])) (fold-Check sets_step to place axis extent index)) (ap (λ us. us ++ []) (fold-Check uses_step to place axis extent index))
      (λ ways. ap (λ (t : List ℕ × Ways). t.0) (trail-Check to place axis extent index ways));
}

-- the instruction for one step down, whatever the node's kind
way_of : Kind → Way_down
way_of Dense = ByChild
way_of Pointer = ByChild
way_of Hash = ByKey
way_of Bitmasked = ByBit
way_of Dynamic = ByLength

right_way : (kind : Kind) → goes_down (way_of kind) kind ≡ true
unfolding way_of
right_way Dense = refl
right_way Pointer = refl
right_way Hash = refl
right_way Bitmasked = refl
right_way Dynamic = refl

judges-step : (at : Frame) (kind : Kind) (to place node offset : ℕ) (scope : Scope) → judges at (child_inst kind to place node offset) scope ≡ step_fits at (way_of kind) to place node offset scope
unfolding way_of
judges-step at Dense to place node offset scope = judges-Child at to place node offset scope
judges-step at Pointer to place node offset scope = judges-Child at to place node offset scope
judges-step at Hash to place node offset scope = judges-HashChild at to place node offset scope
judges-step at Bitmasked to place node offset scope = judges-MaskBit at to place node offset scope
judges-step at Dynamic to place node offset scope = judges-DynCell at to place node offset scope

sets-step : (kind : Kind) (to place node offset : ℕ) → fold-Inst (List SetName) sets_step (child_inst kind to place node offset) ≡ SetsPlace to ∷ []
sets-step Dense to place node offset = fold-Child sets_step to place node offset
sets-step Pointer to place node offset = fold-Child sets_step to place node offset
sets-step Hash to place node offset = fold-HashChild sets_step to place node offset
sets-step Bitmasked to place node offset = fold-MaskBit sets_step to place node offset
sets-step Dynamic to place node offset = fold-DynCell sets_step to place node offset

uses-step : (kind : Kind) (to place node offset : ℕ) → fold-Inst (List Use) uses_step (child_inst kind to place node offset) ≡ []
uses-step Dense to place node offset = fold-Child uses_step to place node offset
uses-step Pointer to place node offset = fold-Child uses_step to place node offset
uses-step Hash to place node offset = fold-HashChild uses_step to place node offset
uses-step Bitmasked to place node offset = fold-MaskBit uses_step to place node offset
uses-step Dynamic to place node offset = fold-DynCell uses_step to place node offset

may_descend : (at : Frame) (kind : Kind) (shape : Shape) (node : NodeShape) (layout number passed : ℕ) → slice_get at.shapes layout ≡ Some shape → node_in shape.nodes number ≡ Some node → node.kind ≡ kind → number ≡ suc passed →
    descends at (way_of kind) number (record { layout = layout; passed = passed }) ≡ true
may_descend at kind shape node layout number passed there found same next =
    and_from (eqb number (suc passed)) _ (eq-eqb number (suc passed) next)
    (ap (holds_of (λ (s : Shape). holds_of (λ (n : NodeShape). goes_down (way_of kind) n.kind) (node_in s.nodes number))) there
    ∙ ap (holds_of (λ (n : NodeShape). goes_down (way_of kind) n.kind)) found
    ∙ ap (goes_down (way_of kind)) same ∙ right_way kind)

pub step-adds : (shapes : List Shape) (kind : Kind) (shape : Shape) (node : NodeShape) (layout place number passed offset to : ℕ) (old new : Names) (a b : List Inst) → PutsPlace (λ p. child_inst kind p place number offset) to old new a b →
    slice_get shapes layout ≡ Some shape → node_in shape.nodes number ≡ Some node → node.kind ≡ kind → number ≡ suc passed →
    AddsSteps shapes (λ at scope. HasPassed place layout passed at scope × (reads at scope false offset ≡ true)) (HasPassed to layout number) old new a b
step-adds shapes kind shape node layout place number passed offset to old new a b puts there found kinds next = record {
  adds = adds-place shapes _ _ (λ p. child_inst kind p place number offset)
      (λ at scope. ltb to at.places && (holds_of (descends at (way_of kind) number) (scope.places place) && reads at scope false offset)) (λ scope. goes_on to number (scope.places place) scope) to old new a b puts
      (sets-step kind to place number offset) (λ at scope. judges-step at kind to place number offset scope)
      (λ scope. goes_on-kept to number (scope.places place) scope)
      (λ at scope same room need. and_from (ltb to at.places) _ (lt-ltb to at.places room)
      (and_from (holds_of (descends at (way_of kind) number) (scope.places place)) _
      (ap (holds_of (descends at (way_of kind) number)) need.0 ∙ may_descend at kind shape node layout number passed (ap (λ ss. slice_get ss layout) same ∙ there) found kinds next) need.1))
      (λ at scope same need. goes_on-known to number layout passed (scope.places place) scope need.0);
  plain = plain-one (child_inst kind to place number offset) a b puts.block
      (ap (λ ss. flat_map var_number (ss ++ [])) (sets-step kind to place number offset)) (ap (λ us. us ++ []) (uses-step kind to place number offset))
      (λ ways. ap (λ (t : List ℕ × Ways). t.0) (trail-step kind to place number offset ways));
}

-- ---- one after another
weaken : (shapes : List Shape) (needs asks gains : Frame → Scope → Type 0) (old new : Names) (a b : List Inst) → ((at : Frame) (scope : Scope) → asks at scope → needs at scope) → AddsSteps shapes needs gains old new a b → AddsSteps shapes asks gains old new a b
weaken shapes needs asks gains old new a b weaker steps = record {
  adds = record {
    begins = steps.adds.begins;
    set_regs = steps.adds.set_regs;
    set_places = steps.adds.set_places;
    keeps = steps.adds.keeps;
    good = λ at same final scope good need. steps.adds.good at same final scope good (weaker at (judged at a scope).1 need);
  };
  plain = steps.plain;
}

-- what is left of index registers may be read
rest-readable : (at : Frame) (scope : Scope) (index : List ℕ) → CanRead index at scope → CanRead (take (length index - 1) (drop 1 index)) at scope
rest-readable at scope index can =
    let P : ℕ → Type 0 = λ r. reads at scope false r ≡ true in
    subst (All P) (sym (rest-whole index)) (all_rest P index can)

rest-named : (names : Names) (index : List ℕ) → All (λ r. r < length names.regs) index → All (λ r. r < length names.regs) (take (length index - 1) (drop 1 index))
rest-named names index named = let P : ℕ → Type 0 = λ r. r < length names.regs in subst (All P) (sym (rest-whole index)) (all_rest P index named)

read-kept : (old : Names) (at : Frame) (first second : Scope) (r : ℕ) → r < length old.regs → KeepsScope old first second → reads at first false r ≡ true → reads at second false r ≡ true
read-kept old at first second r named keeps can = ap (λ b. b && is_truth_as false (slice_get at.regs r)) (keeps.regs r named) ∙ can

extent-some : (bounds : Bounds) (axis extent : ℕ) → 1 ≤ bounds.a → 1 ≤ bounds.b → 1 ≤ bounds.c → Some extent ≡ slice_get (extents_in bounds) axis → 1 ≤ extent
extent-some bounds zero extent a b c is = let same : extent ≡ bounds.a = cc in omega arith
extent-some bounds (suc zero) extent a b c is = let same : extent ≡ bounds.b = cc in omega arith
extent-some bounds (suc (suc zero)) extent a b c is = let same : extent ≡ bounds.c = cc in omega arith
extent-some bounds (suc (suc (suc k))) extent a b c is = absurd (cc)

pub checks-added-done : (shapes : List Shape) (bounds : Bounds) (axis : ℕ) (index : List ℕ) (place : ℕ) (names : Names) (block : List Inst) → AddsChecks shapes bounds axis index place place names names block block
checks-added-done shapes bounds axis index place names block = λ layout shape there same few. steps-same shapes _ _ names block (λ at scope need. need.0)

pub checks-added : (shapes : List Shape) (bounds : Bounds) (axis extent : ℕ) (index : List ℕ) (place next to : ℕ) (old mid new : Names) (a b c : List Inst) →
    1 ≤ bounds.a → 1 ≤ bounds.b → 1 ≤ bounds.c → Some extent ≡ slice_get (extents_in bounds) axis → 1 ≤ length index → All (λ r. r < length old.regs) index →
    PutsPlace (λ p. v.Check p place axis extent (get_or index 0 0)) next old mid a b →
    AddsChecks shapes bounds (axis + 1) (take (length index - 1) (drop 1 index)) next to mid new b c →
    AddsChecks shapes bounds axis index place to old new a c
checks-added shapes bounds axis extent index place next to old mid new a b c a_some b_some c_some is some named puts second = λ layout shape there same few.
    let shorter = rest-shorter index some in
    let whole = ap length (rest-whole index) in
    steps-trans shapes (λ at scope. HasPassed place layout 0 at scope × CanRead index at scope) (HasPassed next layout 0) _ _ old mid new a b c
    (weaken shapes _ _ _ old mid a b (λ at scope need. (need.0, need.1 0 0 (omega arith)))
    (check-adds shapes shape layout place axis extent (get_or index 0 0) next old mid a b puts there (extent-some bounds axis extent a_some b_some c_some is) (omega arith) (is ∙ ap (λ bs. slice_get (extents_in bs) axis) same)))
    (second layout shape there same (omega (arith, shorter, whole)))
    (λ at first second need reached keeps. (reached, can_read-kept old at first second (take (length index - 1) (drop 1 index)) (rest-named old index named) keeps (rest-readable at first index need.1)))

pub offset-added-done : (shapes : List Shape) (index : List ℕ) (high : ℕ) (names : Names) (block : List Inst) →
    AddsSteps shapes (λ at scope. (reads at scope false high ≡ true) × CanRead index at scope) (λ at scope. reads at scope false high ≡ true) names names block block
offset-added-done shapes index high names block = steps-same shapes _ _ names block (λ at scope need. need.0)

pub offset-added : (shapes : List Shape) (size : ℕ) (index : List ℕ) (high low next to : ℕ) (old mid1 mid2 new : Names) (a b c d : List Inst) →
    1 ≤ size → 1 ≤ length index → high < length old.regs → All (λ r. r < length old.regs) index → NamesGrow old mid1 →
    AddsSteps shapes (λ at scope. reads at scope false (get_or index 0 0) ≡ true) (λ at scope. reads at scope false low ≡ true) old mid1 a b →
    PutsReg ty.U32 (λ r. v.Offset r high size low) next mid1 mid2 b c →
    AddsSteps shapes (λ at scope. (reads at scope false next ≡ true) × CanRead (take (length index - 1) (drop 1 index)) at scope) (λ at scope. reads at scope false to ≡ true) mid2 new c d →
    AddsSteps shapes (λ at scope. (reads at scope false high ≡ true) × CanRead index at scope) (λ at scope. reads at scope false to ≡ true) old new a d
offset-added shapes size index high low next to old mid1 mid2 new a b c d size_some some high_named named grows first puts third =
    let needs : Frame → Scope → Type 0 = λ at scope. (reads at scope false high ≡ true) × CanRead index at scope in
    let both : AddsSteps shapes needs (λ at scope. reads at scope false next ≡ true) old mid2 a c =
    steps-trans shapes needs (λ at scope. reads at scope false low ≡ true) _ _ old mid1 mid2 a b c
    (weaken shapes _ _ _ old mid1 a b (λ at scope need. need.1 0 0 (omega arith)) first)
    (offset-adds shapes high size low next mid1 mid2 b c puts size_some)
    (λ at one two need reached keeps. (read-kept old at one two high high_named keeps need.0, reached)) in
    steps-trans shapes needs (λ at scope. reads at scope false next ≡ true) _ _ old mid2 new a c d both third
    (λ at one two need reached keeps. (reached, can_read-kept old at one two (take (length index - 1) (drop 1 index)) (rest-named old index named) keeps (rest-readable at one index need.1)))

pub offset-added-first : (shapes : List Shape) (index : List ℕ) (high to : ℕ) (old mid new : Names) (a b c : List Inst) →
    1 ≤ length index → All (λ r. r < length old.regs) index →
    AddsSteps shapes (λ at scope. reads at scope false (get_or index 0 0) ≡ true) (λ at scope. reads at scope false high ≡ true) old mid a b →
    AddsSteps shapes (λ at scope. (reads at scope false high ≡ true) × CanRead (take (length index - 1) (drop 1 index)) at scope) (λ at scope. reads at scope false to ≡ true) mid new b c →
    AddsWord shapes index to old new a c
offset-added-first shapes index high to old mid new a b c some named first second =
    steps-trans shapes (CanRead index) (λ at scope. reads at scope false high ≡ true) _ _ old mid new a b c
    (weaken shapes _ _ _ old mid a b (λ at scope need. need 0 0 (omega arith)) first) second
    (λ at one two need reached keeps. (reached, can_read-kept old at one two (take (length index - 1) (drop 1 index)) (rest-named old index named) keeps (rest-readable at one index need)))

pub descent-added-done : (shapes : List Shape) (number : ℕ) (nodes : List NodeShape) (index : List ℕ) (place : ℕ) (names : Names) (block : List Inst) → length nodes < 1 → AddsDescent shapes number nodes index place place names names block block
descent-added-done shapes number nodes index place names block none = λ layout shape done there split next.
    let all : length shape.nodes ≡ length done = ap length split ∙ ap (λ ns. length (done ++ ns)) (empty_from nodes none) ∙ ap length (append-nil done) in
    steps-same shapes _ _ names block (λ at scope need. need.0 ∙ ap (λ n. Some (record { layout = layout; passed = n })) (sym all))

pub descent-added : (shapes : List Shape) (number : ℕ) (nodes : List NodeShape) (node : NodeShape) (index : List ℕ) (place offset next to : ℕ) (old mid1 mid2 new : Names) (a b c d : List Inst) →
    nodes ≡ node ∷ drop 1 nodes → place < old.places → All (λ r. r < length old.regs) index →
    AddsWord shapes index offset old mid1 a b →
    PutsPlace (λ p. child_inst node.kind p place number offset) next mid1 mid2 b c →
    AddsDescent shapes (number + 1) (take (length nodes - 1) (drop 1 nodes)) index next to mid2 new c d →
    AddsDescent shapes number nodes index place to old new a d
descent-added shapes number nodes node index place offset next to old mid1 mid2 new a b c d split place_named named first puts third = λ layout shape done there whole is.
    let passed : ℕ = length done in
    let after : List NodeShape = done ++ node ∷ [] in
    let longer : length after ≡ passed + 1 = length_push done node in
    let here : shape.nodes ≡ done ++ node ∷ drop 1 nodes = whole ∙ ap (λ ns. done ++ ns) split in
    let follows : number ≡ suc passed = omega arith in
    let found : node_in shape.nodes number ≡ Some node =
    ap (node_in shape.nodes) follows ∙ ap (λ ns. slice_get ns passed) here ∙ slice_get-past done node (drop 1 nodes) in
    let later : shape.nodes ≡ after ++ take (length nodes - 1) (drop 1 nodes) =
    here ∙ sym (append_assoc done (node ∷ []) (drop 1 nodes)) ∙ ap (λ ns. after ++ ns) (sym (rest-whole nodes)) in
    let needs : Frame → Scope → Type 0 = λ at scope. HasPassed place layout passed at scope × CanRead index at scope in
    let both : AddsSteps shapes needs (HasPassed next layout number) old mid2 a c =
    steps-trans shapes needs (λ at scope. reads at scope false offset ≡ true) _ _ old mid1 mid2 a b c
    (weaken shapes _ _ _ old mid1 a b (λ at scope need. need.1) first)
    (step-adds shapes node.kind shape node layout place number passed offset next mid1 mid2 b c puts there found refl follows)
    (λ at one two need reached keeps. (keeps.places place place_named ∙ need.0, reached)) in
    steps-trans shapes needs (HasPassed next layout number) _ _ old mid2 new a c d both
    (third layout shape after there later (omega arith))
    (λ at one two need reached keeps. (reached ∙ ap (λ n. Some (record { layout = layout; passed = n })) (let same : number ≡ length after = omega arith in same), can_read-kept old at one two index named keeps need.1))

-- root, checks and steps down
pub place-added : (shapes : List Shape) (layout : ℕ) (shape : Shape) (bounds : Bounds) (nodes : List NodeShape) (index : List ℕ) (start inside to : ℕ) (old mid1 mid2 new : Names) (a b c d : List Inst) →
    bounds ≡ bounds_of_shape shape → nodes ≡ shape.nodes → length index ≡ shape.axes → All (λ r. r < length old.regs) index → slice_get shapes layout ≡ Some shape →
    PutsPlace (λ p. v.Root p layout) start old mid1 a b →
    AddsChecks shapes bounds 0 index start inside mid1 mid2 b c →
    AddsDescent shapes 1 nodes index inside to mid2 new c d →
    AddsSteps shapes (CanRead index) (HasPassed to layout (length shape.nodes)) old new a d
place-added shapes layout shape bounds nodes index start inside to old mid1 mid2 new a b c d same_bounds same_nodes long named there puts second third =
    let both : AddsSteps shapes (CanRead index) (HasPassed inside layout 0) old mid2 a c =
    steps-trans shapes (CanRead index) (HasPassed start layout 0) _ _ old mid1 mid2 a b c
    (weaken shapes _ _ _ old mid1 a b (λ at scope need. tt) (root-adds shapes layout start old mid1 a b puts (slice_get_within shapes layout shape there)))
    (second layout shape there same_bounds (omega arith))
    (λ at one two need reached keeps. (reached, can_read-kept old at one two index named keeps need)) in
    steps-trans shapes (CanRead index) (HasPassed inside layout 0) _ _ old mid2 new a c d both
    (third layout shape [] there (sym same_nodes) (omega arith))
    (λ at one two need reached keeps. (reached, can_read-kept old at one two index named keeps need))
