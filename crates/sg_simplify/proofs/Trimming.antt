-- Each access that the pass puts out has passed exactly the checks that it needs.
use Rattle.std.specs.Prelude.{◌≡◌, refl, ℕ, suc, ◌==◌, Bool, true, false, ◌&&◌, if◌then◌else◌, List, [], ◌∷◌, ◌++◌, length, map, get_or, slice_get, Option, Some, None}
use Rattle.std.specs.List.{list_all}
use Rattle.std.specs.Map.{lookup}
use Rattle.std.proofs.Common.{arith, sym, ap, subst, ◌∙◌, append_assoc}
use Rattle.std.proofs.lemmas.Bool.{eqb-true}
use Rattle.std.proofs.lemmas.List.{append-nil}
use Rattle.sg_words.specs.declared.operators.Ty.{Ty}
use Rattle.sg_words.specs.declared.operators.Ty.TheVariants as ty
use Rattle.sg_layout.specs.declared.shape.NodeShape.{NodeShape}
use Rattle.sg_layout.specs.declared.shape.Shape.{Shape}
use Rattle.sg_layout.specs.Axes.{bounds_of_shape, extent_in, extent_over}
use Rattle.sg_ir.specs.declared.op.Op.{Op}
use Rattle.sg_ir.specs.declared.op.Op.TheVariants as op
use Rattle.sg_ir.specs.declared.op.Step.{Step}
use Rattle.sg_ir.specs.declared.op.Step.TheVariants as step
use Rattle.sg_ir.specs.Runs.{put}
use Rattle.sg_ir.specs.Blocks.{sight_op, Block, End, Word, Spot, Cell, Do, Branch, Loop, SetVar, WriteOwn, Contribute, Wish, Sight, Value, Activity}
use Rattle.sg_ir.specs.declared.span.Span.{Span}
use Rattle.sg_ir.specs.Span.{whole_i32, Spans, range_span, bin_span, reg_span, op_span, with_span, in_loop}
use Rattle.sg_ir.specs.Shared.{same_op, same_step, is_pure}
use Rattle.sg_ir.specs.Trimmed.{is_within, AxisCheck, Ways, way_to, way_behind, and_check, needed, needed_in, are_checks, is_trim, Way, way_of, is_trim_in, listed}
use Rattle.sg_ir.specs.InScope.{InScope, and_reg, and_place, op_regs, step_places, AreSet, IsScoped}
use Rattle.sg_ir.specs.Places.{extents_in}
use Rattle.sg_ir.proofs.Uses.{step_exact}
use Rattle.sg_simplify.specs.steps.Pass.{Given, Pass, Next, Making, made_name, with_name, next_with_reg, next_with_place, given_type, span_in, span_of, renamed, and_op, and_step, put_in_front, set_word, fresh, taken_at, looked_up, operand_again, plainest, taken_or, taken, numbered, stepped_at, stepped, check_at, checks_made, offset_made, offset, descent_of, descended, placed_in, place_made, looped, simplified, layout_seen}
use Rattle.sg_simplify.specs.steps.Ruled.{IsNotRead, HasAccessLayouts, HasLayout, Grown}
use Rattle.sg_simplify.specs.steps.Sets.{Sets, AllNamed}
use Rattle.sg_simplify.specs.steps.Trims.{StepTrims, Trims, Onward, asked, SightIsGood, AsksGood, answers, GoesTrim, GoesTrimAt, GoesOnBy, OpIsTrim}
use Rattle.sg_simplify.proofs.Sights.{sight_regs}
use Rattle.sg_simplify.proofs.Tables.{each_push, each_map, IsFound, each_found, get_last, get_kept}
use Rattle.sg_simplify.proofs.Setting.{put_still, put_now, and_reg_wider, and_place_wider, set_wider, sets_reg, sets_place, named_put, named_by, named_grown, index_named, op_named, sets_grown, sets_named}
use Rattle.sg_simplify.proofs.Growing.{grown_on, simplified_grows}
use Rattle.sg_simplify.proofs.Onward.{behind_kept, both_true, given_before, onward_on, onward_same, other_place, places_wider, way_here, way_kept}
use Rattle.sg_simplify.proofs.Plainest.{operand_is_set, plainest_regs, plainest_trim}

-- a way with these checks in place of its own, and that to a root
abbrev checked_by : Way → List AxisCheck → Way
checked_by way checks = record { root = way.root; checks = checks }

abbrev from_root : ℕ → Way
from_root layout = record { root = Some layout; checks = [] }

module _ (good : ℕ → Bool) (given : Given) where
  -- the span of an operation
  span_same : (scope : InScope) (known : Pass) (next : Next) (spans : Spans) (ways : Ways) → Trims given scope known next spans ways → (how : Op) → AreSet scope.regs (op_regs how) → op_span spans how ≡ span_of given known next how
  span_same scope known next spans ways h (op.Const word truth) set = refl
  span_same scope known next spans ways h (op.Var var) set = h.vars var
  span_same scope known next spans ways h (op.Bin how kind a b) set = ap (λ (x : Span). bin_span how kind x (reg_span spans b)) (h.regs a set.0) ∙ ap (bin_span how kind (span_in next a)) (h.regs b set.1.0)
  span_same scope known next spans ways h (op.Un how kind a) set = refl
  span_same scope known next spans ways h (op.Mulq a b s) set = refl
  span_same scope known next spans ways h (op.Extract div size from) set = refl
  span_same scope known next spans ways h (op.Offset high size low) set = refl
  span_same scope known next spans ways h (op.Read place layout field) set = refl
  span_same scope known next spans ways h (op.Active place) set = refl
  span_same scope known next spans ways h (op.OwnRead layout field) set = refl

  -- after a register that is put out
  trims_reg : (scope : InScope) (known : Pass) (next : Next) (spans : Spans) (ways : Ways) (type : Ty) (span other : Span) → other ≡ span → Trims given scope known next spans ways
      → Trims given (and_reg (length next.spans) scope) known (next_with_reg type span next) (with_span (length next.spans) other spans) ways
  trims_reg scope known next spans ways type span other same h = let n = length next.spans in record {
    sets = sets_reg scope known next type span h.sets;
    regs = λ r is. by_test r (r == n) refl is;
    vars = h.vars;
    steps = each_map (StepTrims scope ways) (StepTrims (and_reg n scope) ways) (λ entry e. record { named = e.named; places = e.places; way = e.way }) known.steps h.steps;
  }
    where
      by_test : (r : ℕ) (test : Bool) → (r == length next.spans) ≡ test → (if test then true else scope.regs r) ≡ true
          → reg_span (with_span (length next.spans) other spans) r ≡ get_or (next.spans ++ span ∷ []) r whole_i32
      by_test r true e is =
          ap (λ (test : Bool). if test then other else reg_span spans r) e
          ∙ (same ∙ sym (ap (λ k. get_or (next.spans ++ span ∷ []) k whole_i32) (eqb-true r (length next.spans) e) ∙ get_last next.spans span whole_i32))
      by_test r false e is =
          ap (λ (test : Bool). if test then other else reg_span spans r) e
          ∙ (h.regs r is ∙ sym (get_kept next.spans span whole_i32 r (given_before scope known next h.sets r is)))

  onward_reg : (scope : InScope) (known : Pass) (next : Next) (ways : Ways) (type : Ty) (span : Span) → Sets scope known next → Onward scope next ways (and_reg (length next.spans) scope) (next_with_reg type span next) ways
  onward_reg scope known next ways type span h = record {
    wider = and_reg_wider (length next.spans) scope;
    names = refl;
    spans = λ r is. get_kept next.spans span whole_i32 r (given_before scope known next h r is);
    kept = λ p is. refl;
  }

  -- the instruction that sets a register
  set_trims : (spans : Spans) (ways : Ways) (n : ℕ) (how : Op) (index : List ℕ) (rest : Block) → OpIsTrim good given spans ways how index
      → answers good given.shapes (with_span n (op_span spans how) spans) ways rest ≡ true → answers good given.shapes spans ways (set_word n how index rest) ≡ true
  set_trims spans ways n (op.Const word truth) index rest at more = more
  set_trims spans ways n (op.Var var) index rest at more = more
  set_trims spans ways n (op.Bin how kind a b) index rest at more = more
  set_trims spans ways n (op.Un how kind a) index rest at more = more
  set_trims spans ways n (op.Mulq a b s) index rest at more = more
  set_trims spans ways n (op.Extract div size from) index rest at more = more
  set_trims spans ways n (op.Offset high size low) index rest at more = more
  set_trims spans ways n (op.Read place layout field) index rest at more = both_true _ _ at more
  set_trims spans ways n (op.Active place) index rest at more = both_true _ _ at more
  set_trims spans ways n (op.OwnRead layout field) index rest at more = more

  put_out : (type : Ty) (how : Op) (index : List ℕ) (go : ℕ → Making) (scope : InScope) (known after_it : Pass) (next : Next) (spans : Spans) (ways : Ways) → Trims given scope known next spans ways → AreSet scope.regs (op_regs how) → OpIsTrim good given spans ways how index
      → (Trims given (and_reg (length next.spans) scope) known (next_with_reg type (span_of given known next how) next) (with_span (length next.spans) (op_span spans how) spans) ways
      → Trims given (and_reg (length next.spans) scope) after_it (next_with_reg type (span_of given known next how) next) (with_span (length next.spans) (op_span spans how) spans) ways)
      → GoesTrim good given scope next ways go
      → answers good given.shapes spans ways (set_word (length next.spans) how index (go (length next.spans) after_it (next_with_reg type (span_of given known next how) next)).0) ≡ true
  put_out type how index go scope known after_it next spans ways h set at more goes =
      let n = length next.spans in
      let mid = trims_reg scope known next spans ways type (span_of given known next how) (op_span spans how) (span_same scope known next spans ways h how set) h in
      set_trims spans ways n how index _ at
      (goes n after_it (next_with_reg type (span_of given known next how) next) (and_reg n scope) (with_span n (op_span spans how) spans) ways
      (onward_reg scope known next ways type (span_of given known next how) h.sets) (more mid) (put_now n scope.regs))

  fresh_trims : (type : Ty) (how : Op) (index : List ℕ) (go : ℕ → Making) (scope : InScope) (known : Pass) (next : Next) (spans : Spans) (ways : Ways) → Trims given scope known next spans ways → AreSet scope.regs (op_regs how) → OpIsTrim good given spans ways how index
      → GoesTrim good given scope next ways go → answers good given.shapes spans ways (fresh given type how index go known next).0 ≡ true
  fresh_trims type how index go scope known next spans ways h set at goes = put_out type how index go scope known known next spans ways h set at (λ mid. mid) goes

  looked_up_trims : (type : Ty) (how : Op) (index : List ℕ) (go : ℕ → Making) (scope : InScope) (known : Pass) (next : Next) (spans : Spans) (ways : Ways) → Trims given scope known next spans ways → AreSet scope.regs (op_regs how) → OpIsTrim good given spans ways how index
      → GoesTrim good given scope next ways go → answers good given.shapes spans ways (looked_up given type how index go known next).0 ≡ true
  looked_up_trims type how index go scope known next spans ways h set at goes = by_found (lookup (same_op how) known.ops) refl
    where
      by_found : (o : Option ℕ) → lookup (same_op how) known.ops ≡ o → answers good given.shapes spans ways (taken_at given type how index go o known next).0 ≡ true
      by_found (Some t) e = let found : IsFound same_op how (λ entry. scope.regs entry.1 ≡ true) t = each_found same_op how (λ entry. scope.regs entry.1 ≡ true) known.ops t h.sets.ops e in
          goes t known next scope spans ways (onward_same scope next ways) h found.holds
      by_found None e = put_out type how index go scope known (and_op how (length next.spans) known) next spans ways h set at
          (λ mid. let s = mid.sets in record {
            sets = record { ops = each_push (λ entry. put (length next.spans) true scope.regs entry.1 ≡ true) known.ops (how, length next.spans) s.ops (put_now (length next.spans) scope.regs); steps = s.steps; free_regs = s.free_regs; free_places = s.free_places };
            regs = mid.regs;
            vars = mid.vars;
            steps = mid.steps;
          }) goes

  taken_trims : (type : Ty) (how : Op) (index : List ℕ) (go : ℕ → Making) (scope : InScope) (known : Pass) (next : Next) (spans : Spans) (ways : Ways) → Trims given scope known next spans ways → AreSet scope.regs (op_regs how) → OpIsTrim good given spans ways how index
      → GoesTrim good given scope next ways go → answers good given.shapes spans ways (taken given type how index go known next).0 ≡ true
  taken_trims type how index go scope known next spans ways h set at goes = by_operand (operand_again next how) refl
    where
      by_operand : (o : Option ℕ) → operand_again next how ≡ o → answers good given.shapes spans ways (taken_or given type how index go o known next).0 ≡ true
      by_operand (Some t) e = goes t known next scope spans ways (onward_same scope next ways) h (operand_is_set scope.regs next how t set e)
      by_operand None e = looked_up_trims type (plainest type how) index go scope known next spans ways h (plainest_regs scope.regs type how set) (plainest_trim good given spans ways type how index at) goes

  numbered_trims : (pure : Bool) (type : Ty) (how : Op) (go : ℕ → Making) (scope : InScope) (known : Pass) (next : Next) (spans : Spans) (ways : Ways) → Trims given scope known next spans ways → AreSet scope.regs (op_regs how) → OpIsTrim good given spans ways how []
      → GoesTrim good given scope next ways go → answers good given.shapes spans ways (numbered pure given type how go known next).0 ≡ true
  numbered_trims true type how go scope known next spans ways h set at goes = taken_trims type how [] go scope known next spans ways h set at goes
  numbered_trims false type how go scope known next spans ways h set at goes = fresh_trims type how [] go scope known next spans ways h set at goes

  -- a place that a step gives has the way after the step
  stepped_trims : (how : Step) (is_way : Way → Type 0) (go : ℕ → Making) (scope : InScope) (known : Pass) (next : Next) (spans : Spans) (ways : Ways) → Trims given scope known next spans ways → AreSet scope.places (step_places how)
      → ((to : ℕ) → is_way (way_behind ways to how)) → GoesTrimAt good given scope next ways is_way go → answers good given.shapes spans ways (stepped how go known next).0 ≡ true
  stepped_trims how is_way go scope known next spans ways h set way goes = by_found (lookup (same_step how) known.steps) refl
    where
      by_found : (o : Option ℕ) → lookup (same_step how) known.steps ≡ o → answers good given.shapes spans ways (stepped_at how go o known next).0 ≡ true
      by_found (Some t) e =
          let found : IsFound same_step how (λ entry. scope.places entry.1 ≡ true) t = each_found same_step how (λ entry. scope.places entry.1 ≡ true) known.steps t h.sets.steps e in
          let there : IsFound same_step how (StepTrims scope ways) t = each_found same_step how (StepTrims scope ways) known.steps t h.steps e in
          let is : how ≡ there.other = step_exact how there.other there.alike in
          goes t known next scope spans ways (onward_same scope next ways) h found.holds (subst is_way (sym (there.holds.way ∙ ap (way_behind ways t) (sym is))) (way t))
      by_found None e =
          let n = next.places in
          let free = h.sets.free_places n (omega arith) in
          let behind = way_behind ways n how in
          let mid = sets_place scope known next h.sets in
          let kept = each_map (StepTrims scope ways) (StepTrims (and_place n scope) ((n, behind) ∷ ways))
          (λ entry t. record {
            named = put_still n scope.places entry.1 t.named;
            places = places_wider n scope (step_places entry.0) t.places;
            way = way_kept ways n entry.1 behind (other_place scope n entry.1 free t.named) ∙ (t.way ∙ sym (behind_kept scope ways n entry.1 behind entry.0 free t.places));
          }) known.steps h.steps in
          goes n (and_step how n known) (next_with_place next) (and_place n scope) spans ((n, behind) ∷ ways)
          (record { wider = and_place_wider n scope; names = refl; spans = λ r is. refl; kept = λ p is. way_kept ways n p behind (other_place scope n p free is) })
          (record {
            sets = record { ops = mid.ops; steps = each_push (λ entry. put n true scope.places entry.1 ≡ true) known.steps (how, n) mid.steps (put_now n scope.places); free_regs = mid.free_regs; free_places = mid.free_places };
            regs = h.regs;
            vars = h.vars;
            steps = each_push (StepTrims (and_place n scope) ((n, behind) ∷ ways)) known.steps (how, n) kept
                (record { named = put_now n scope.places; places = places_wider n scope (step_places how) set; way = way_here ways n behind ∙ sym (behind_kept scope ways n n behind how free set) });
          })
          (put_now n scope.places) (subst is_way (sym (way_here ways n behind)) (way n))

  -- ---- the place of an access
  goes_later : (scope : InScope) (next : Next) (ways : Ways) (wide : InScope) (further : Next) (beyond : Ways) (go : ℕ → Making) → Onward scope next ways wide further beyond → GoesTrim good given scope next ways go → GoesTrim good given wide further beyond go
  goes_later scope next ways wide further beyond go onward goes t known further' wide' spans beyond' more = goes t known further' wide' spans beyond' (onward_on scope next ways wide further beyond wide' further' beyond' onward more)

  goes_at_later : (scope : InScope) (next : Next) (ways : Ways) (wide : InScope) (further : Next) (beyond : Ways) (is_way : Way → Type 0) (go : ℕ → Making) → Onward scope next ways wide further beyond
      → GoesTrimAt good given scope next ways is_way go → GoesTrimAt good given wide further beyond is_way go
  goes_at_later scope next ways wide further beyond is_way go onward goes t known further' wide' spans beyond' more = goes t known further' wide' spans beyond' (onward_on scope next ways wide further beyond wide' further' beyond' onward more)

  joined_trims : (node : NodeShape) (later : List NodeShape) (index : List ℕ) (axis high : ℕ) (go : ℕ → Making) (scope : InScope) (known : Pass) (next : Next) (spans : Spans) (ways : Ways) → Trims given scope known next spans ways → scope.regs high ≡ true → AreSet scope.regs index
      → GoesTrim good given scope next ways go → answers good given.shapes spans ways (offset_made given node later axis index high go known next).0 ≡ true
  joined_trims node later [] axis high go scope known next spans ways h is set goes = goes high known next scope spans ways (onward_same scope next ways) h is
  joined_trims node later (r ∷ index) axis high go scope known next spans ways h is set goes =
      taken_trims ty.U32 (op.Extract (extent_over later axis) (extent_in node.sizes axis) r) [] (λ low. taken given ty.U32 (op.Offset high (extent_in node.sizes axis) low) [] (λ o. offset_made given node later (suc axis) index o go))
      scope known next spans ways h (set.0, tt) tt
      (λ low known' further wide spans' beyond onward holds low_is. taken_trims ty.U32 (op.Offset high (extent_in node.sizes axis) low) [] (λ o. offset_made given node later (suc axis) index o go) wide known' further spans' beyond holds
      (onward.wider.regs high is, (low_is, tt)) tt
      (λ o known'' further' wide' spans'' beyond' onward' holds' o_is.
      let whole_way = onward_on scope next ways wide further beyond wide' further' beyond' onward onward' in
      joined_trims node later index (suc axis) o go wide' known'' further' spans'' beyond' holds' o_is (set_wider scope wide' whole_way.wider index set.1) (goes_later scope next ways wide' further' beyond' go whole_way goes)))

  offset_trims : (node : NodeShape) (later : List NodeShape) (r : ℕ) (index : List ℕ) (go : ℕ → Making) (scope : InScope) (known : Pass) (next : Next) (spans : Spans) (ways : Ways) → Trims given scope known next spans ways → AreSet scope.regs (r ∷ index)
      → GoesTrim good given scope next ways go → answers good given.shapes spans ways (offset given node later (r ∷ index) go known next).0 ≡ true
  offset_trims node later r index go scope known next spans ways h set goes =
      taken_trims ty.U32 (op.Extract (extent_over later 1) (extent_in node.sizes 1) r) [] (λ high. offset_made given node later 2 index high go) scope known next spans ways h (set.0, tt) tt
      (λ high known' further wide spans' beyond onward holds high_is.
      joined_trims node later index 2 high go wide known' further spans' beyond holds high_is (set_wider scope wide onward.wider index set.1) (goes_later scope next ways wide further beyond go onward goes))

  -- steps down pass no checks
  descended_trims : (nodes : List NodeShape) (number r : ℕ) (index : List ℕ) (place : ℕ) (is_way : Way → Type 0) (go : ℕ → Making) (scope : InScope) (known : Pass) (next : Next) (spans : Spans) (ways : Ways) → Trims given scope known next spans ways
      → scope.places place ≡ true → is_way (way_of ways place) → AreSet scope.regs (r ∷ index)
      → GoesTrimAt good given scope next ways is_way go → answers good given.shapes spans ways (descended given nodes number (r ∷ index) place go known next).0 ≡ true
  descended_trims [] number r index place is_way go scope known next spans ways h is way set goes = goes place known next scope spans ways (onward_same scope next ways) h is way
  descended_trims (node ∷ later) number r index place is_way go scope known next spans ways h is way set goes =
      offset_trims node later r index (λ o. stepped (step.Down (descent_of node.kind) place number o) (λ p. descended given later (suc number) (r ∷ index) p go)) scope known next spans ways h set
      (λ o known' further wide spans' beyond onward holds o_is.
      stepped_trims (step.Down (descent_of node.kind) place number o) is_way (λ p. descended given later (suc number) (r ∷ index) p go) wide known' further spans' beyond holds (onward.wider.places place is, tt)
      (λ to. subst is_way (sym (onward.kept place is)) way)
      (λ p known'' further' wide' spans'' beyond' onward' holds' p_is p_way.
      let whole_way = onward_on scope next ways wide further beyond wide' further' beyond' onward onward' in
      descended_trims later (suc number) r index p is_way go wide' known'' further' spans'' beyond' holds' p_is p_way (set_wider scope wide' whole_way.wider (r ∷ index) set) (goes_at_later scope next ways wide' further' beyond' is_way go whole_way goes)))

  -- the checks that are asked for, later
  asked_later : (scope : InScope) (next further : Next) → ((r : ℕ) → scope.regs r ≡ true → span_in further r ≡ span_in next r) → (axis : ℕ) (extents index : List ℕ) → AreSet scope.regs index → asked further axis extents index ≡ asked next axis extents index
  asked_later scope next further same axis [] index set = refl
  asked_later scope next further same axis (extent ∷ extents) [] set = refl
  asked_later scope next further same axis (extent ∷ extents) (r ∷ index) set =
      ap (λ (span : Span). and_check (is_within extent span) axis r (asked further (suc axis) extents index)) (same r set.0)
      ∙ ap (and_check (is_within extent (span_in next r)) axis r) (asked_later scope next further same (suc axis) extents index set.1)

  one_check : (axis r place : ℕ) (checks : List (ℕ × ℕ)) (way : List AxisCheck) → are_checks checks way ≡ true → are_checks ((axis, r) ∷ checks) (record { axis = axis; index = r; place = place } ∷ way) ≡ true
  one_check axis r place checks way h = both_true ((axis == axis) && (r == r)) (are_checks checks way) (both_true (axis == axis) (r == r) (grind arith) (grind arith)) h

  checked_trims : (extents : List ℕ) (axis : ℕ) (index : List ℕ) (place : ℕ) (before : Way) (go : ℕ → Making) (scope : InScope) (known : Pass) (next : Next) (spans : Spans) (ways : Ways) → Trims given scope known next spans ways
      → scope.places place ≡ true → way_of ways place ≡ before → AreSet scope.regs index
      → GoesTrimAt good given scope next ways (GoesOnBy before (asked next axis extents index)) go → answers good given.shapes spans ways (checks_made axis extents index place go known next).0 ≡ true
  checked_trims [] axis index place before go scope known next spans ways h is way set goes =
      goes place known next scope spans ways (onward_same scope next ways) h is (record { more = []; is = way ∙ ap (checked_by before) (sym (append-nil before.checks)); pass = refl })
  checked_trims (extent ∷ extents) axis [] place before go scope known next spans ways h is way set goes =
      goes place known next scope spans ways (onward_same scope next ways) h is (record { more = []; is = way ∙ ap (checked_by before) (sym (append-nil before.checks)); pass = refl })
  checked_trims (extent ∷ extents) axis (r ∷ index) place before go scope known next spans ways h is way set goes =
      by_test (is_within extent (span_in next r)) refl
      (checked_trims extents (suc axis) index place before go scope known next spans ways h is way set.1)
      (λ p passed known' further wide spans' beyond onward holds p_is p_way. checked_trims extents (suc axis) index p (checked_by before (before.checks ++ passed ∷ [])) go wide known' further spans' beyond holds p_is p_way (set_wider scope wide onward.wider index set.1))
    where
      rest_asked : List (ℕ × ℕ)
      rest_asked = asked next (suc axis) extents index

      by_test : (test : Bool) → is_within extent (span_in next r) ≡ test
          → (GoesTrimAt good given scope next ways (GoesOnBy before rest_asked) go → answers good given.shapes spans ways (checks_made (suc axis) extents index place go known next).0 ≡ true)
          → ((p : ℕ) (passed : AxisCheck) (known' : Pass) (further : Next) (wide : InScope) (spans' : Spans) (beyond : Ways) → Onward scope next ways wide further beyond → Trims given wide known' further spans' beyond → wide.places p ≡ true → way_of beyond p ≡ checked_by before (before.checks ++ passed ∷ [])
          → GoesTrimAt good given wide further beyond (GoesOnBy (checked_by before (before.checks ++ passed ∷ [])) (asked further (suc axis) extents index)) go → answers good given.shapes spans' beyond (checks_made (suc axis) extents index p go known' further).0 ≡ true)
          → answers good given.shapes spans ways (check_at test (step.Check place axis extent r) place (λ p. checks_made (suc axis) extents index p go) known next).0 ≡ true
      by_test true e same more = same (λ t known' further wide spans' beyond onward holds t_is t_way. goes t known' further wide spans' beyond onward holds t_is
          (record { more = t_way.more; is = t_way.is; pass = subst (λ (b : Bool). are_checks (and_check b axis r rest_asked) t_way.more ≡ true) (sym e) t_way.pass }))
      by_test false e same more =
          stepped_trims (step.Check place axis extent r) (λ way'. (to : ℕ) × (way' ≡ checked_by before (before.checks ++ record { axis = axis; index = r; place = to } ∷ []))) (λ p. checks_made (suc axis) extents index p go) scope known next spans ways h (is, tt)
          (λ to. (to, ap (λ (w : Way). checked_by w (w.checks ++ record { axis = axis; index = r; place = to } ∷ [])) way))
          (λ p known' further wide spans' beyond onward holds p_is p_way.
          more p (record { axis = axis; index = r; place = p_way.0 }) known' further wide spans' beyond onward holds p_is p_way.1
          (λ t known'' further' wide' spans'' beyond' onward' holds' t_is t_way.
          let one : AxisCheck = record { axis = axis; index = r; place = p_way.0 } in
          goes t known'' further' wide' spans'' beyond' (onward_on scope next ways wide further beyond wide' further' beyond' onward onward') holds' t_is
          (record {
            more = one ∷ t_way.more;
            is = t_way.is ∙ ap (checked_by before) (append_assoc before.checks (one ∷ []) t_way.more);
            pass = subst (λ (b : Bool). are_checks (and_check b axis r rest_asked) (one ∷ t_way.more) ≡ true) (sym e)
                (one_check axis r p_way.0 rest_asked t_way.more (subst (λ (cs : List (ℕ × ℕ)). are_checks cs t_way.more ≡ true) (asked_later scope next further onward.spans (suc axis) extents index set.1) t_way.pass));
          })))

  -- the place of an access comes from the root of its layout, and has passed the checks that are asked for
  placed_trims : (shape : Shape) (layout r : ℕ) (index : List ℕ) (go : ℕ → Making) (scope : InScope) (known : Pass) (next : Next) (spans : Spans) (ways : Ways) → slice_get given.shapes layout ≡ Some shape → Trims given scope known next spans ways → AreSet scope.regs (r ∷ index)
      → GoesTrimAt good given scope next ways (λ way. (way.root ≡ Some layout) × (are_checks (asked next 0 (extents_in (bounds_of_shape shape)) (r ∷ index)) way.checks ≡ true)) go → answers good given.shapes spans ways (place_made given layout (r ∷ index) go known next).0 ≡ true
  placed_trims shape layout r index go scope known next spans ways there h set goes =
      subst (λ (found : Option Shape). answers good given.shapes spans ways (placed_in given found layout (r ∷ index) go known next).0 ≡ true) (sym there)
      (stepped_trims (step.Root layout) (λ way. way ≡ from_root layout) (λ k. checks_made 0 (extents_in (bounds_of_shape shape)) (r ∷ index) k (λ p. descended given shape.nodes 1 (r ∷ index) p go)) scope known next spans ways h tt (λ to. refl)
      (λ k known' further wide spans' beyond onward holds k_is k_way.
      checked_trims (extents_in (bounds_of_shape shape)) 0 (r ∷ index) k (from_root layout) (λ p. descended given shape.nodes 1 (r ∷ index) p go) wide known' further spans' beyond holds k_is k_way (set_wider scope wide onward.wider (r ∷ index) set)
      (λ p known'' further' wide' spans'' beyond' onward' holds' p_is p_way.
      let whole_way = onward_on scope next ways wide further beyond wide' further' beyond' onward onward' in
      let passed : ((way_of beyond' p).root ≡ Some layout) × (are_checks (asked next 0 (extents_in (bounds_of_shape shape)) (r ∷ index)) (way_to beyond' p) ≡ true) = (
        ap (λ (w : Way). w.root) p_way.is,
        subst (λ (w : Way). are_checks (asked next 0 (extents_in (bounds_of_shape shape)) (r ∷ index)) w.checks ≡ true) (sym p_way.is)
            (subst (λ (cs : List (ℕ × ℕ)). are_checks cs p_way.more ≡ true) (asked_later scope next further onward.spans 0 (extents_in (bounds_of_shape shape)) (r ∷ index) set) p_way.pass),
      ) in
      descended_trims shape.nodes 1 r index p (λ way. (way.root ≡ Some layout) × (are_checks (asked next 0 (extents_in (bounds_of_shape shape)) (r ∷ index)) way.checks ≡ true)) go wide' known'' further' spans'' beyond' holds' p_is passed
      (set_wider scope wide' whole_way.wider (r ∷ index) set) (goes_at_later scope next ways wide' further' beyond' (λ way. (way.root ≡ Some layout) × (are_checks (asked next 0 (extents_in (bounds_of_shape shape)) (r ∷ index)) way.checks ≡ true)) go whole_way goes))))

  -- what is asked for is what the walk over the output needs
  asked_needed : (scope : InScope) (next further : Next) (spans : Spans) → ((r : ℕ) → scope.regs r ≡ true → reg_span spans r ≡ span_in further r) → (axis : ℕ) (extents index : List ℕ) → AreSet scope.regs index
      → ((r : ℕ) → scope.regs r ≡ true → span_in further r ≡ span_in next r) → needed spans axis extents index ≡ asked next axis extents index
  asked_needed scope next further spans regs axis [] index set same = refl
  asked_needed scope next further spans regs axis (extent ∷ extents) [] set same = refl
  asked_needed scope next further spans regs axis (extent ∷ extents) (r ∷ index) set same =
      ap (λ (span : Span). and_check (is_within extent span) axis r (needed spans (suc axis) extents index)) (regs r set.0 ∙ same r set.0)
      ∙ ap (and_check (is_within extent (span_in next r)) axis r) (asked_needed scope next further spans regs (suc axis) extents index set.1 same)

  -- an access at a place that is built anew is trim
  access_trims : (scope : InScope) (next : Next) (ways : Ways) (wide : InScope) (known : Pass) (further : Next) (spans : Spans) (beyond : Ways) (shape : Shape) (layout p r : ℕ) (index : List ℕ) → slice_get given.shapes layout ≡ Some shape
      → Onward scope next ways wide further beyond → Trims given wide known further spans beyond → AreSet scope.regs (r ∷ index)
      → are_checks (asked next 0 (extents_in (bounds_of_shape shape)) (r ∷ index)) (way_to beyond p) ≡ true → is_trim given.shapes spans beyond layout p (r ∷ index) ≡ true
  access_trims scope next ways wide known further spans beyond shape layout p r index there onward holds set passed =
      ap (λ (found : Option Shape). are_checks (needed_in spans found (r ∷ index)) (way_to beyond p)) there
      ∙ (ap (λ (cs : List (ℕ × ℕ)). are_checks cs (way_to beyond p)) (asked_needed scope next further spans (λ k is. holds.regs k (onward.wider.regs k is)) 0 (extents_in (bounds_of_shape shape)) (r ∷ index) set onward.spans)
      ∙ passed)

  -- and so is what sees something at such a place
  sight_trims : (scope : InScope) (next : Next) (ways : Ways) (wide : InScope) (known : Pass) (further : Next) (spans : Spans) (beyond : Ways) (shape : Shape) (place p r : ℕ) (sight : Sight) (index : List ℕ)
      → slice_get given.shapes (layout_seen given place sight) ≡ Some shape → SightIsGood good given.roots place sight → Onward scope next ways wide further beyond → Trims given wide known further spans beyond → AreSet scope.regs (r ∷ index)
      → (way_of beyond p).root ≡ Some (layout_seen given place sight) → are_checks (asked next 0 (extents_in (bounds_of_shape shape)) (r ∷ index)) (way_to beyond p) ≡ true → OpIsTrim good given spans beyond (sight_op p sight) (r ∷ index)
  sight_trims scope next ways wide known further spans beyond shape place p r (Value layout field) index there asks onward holds set root passed =
      access_trims scope next ways wide known further spans beyond shape layout p r index there onward holds set passed
  sight_trims scope next ways wide known further spans beyond shape place p r Activity index there asks onward holds set root passed =
      ap (λ (found : Option ℕ). is_trim_in given.shapes spans beyond found p (r ∷ index) && list_all good (listed found)) root
      ∙ both_true (is_trim given.shapes spans beyond (layout_seen given place Activity) p (r ∷ index)) (good (layout_seen given place Activity) && true)
      (access_trims scope next ways wide known further spans beyond shape (layout_seen given place Activity) p r index there onward holds set passed) (both_true (good (layout_seen given place Activity)) true asks refl)

  plain_is_trim : (spans : Spans) (ways : Ways) (next : Next) (how : Op) → IsNotRead how → OpIsTrim good given spans ways (renamed next how) []
  plain_is_trim spans ways next (op.Const word truth) plain = tt
  plain_is_trim spans ways next (op.Var var) plain = tt
  plain_is_trim spans ways next (op.Bin how kind a b) plain = tt
  plain_is_trim spans ways next (op.Un how kind a) plain = tt
  plain_is_trim spans ways next (op.Mulq a b s) plain = tt
  plain_is_trim spans ways next (op.Extract div size from) plain = tt
  plain_is_trim spans ways next (op.Offset high size low) plain = tt
  plain_is_trim spans ways next (op.Read place layout field) plain = absurd plain
  plain_is_trim spans ways next (op.Active place) plain = absurd plain
  plain_is_trim spans ways next (op.OwnRead layout field) plain = tt

  trims_named : (scope : InScope) (known : Pass) (next : Next) (spans : Spans) (ways : Ways) (to t : ℕ) → Trims given scope known next spans ways → Trims given scope known (with_name to t next) spans ways
  trims_named scope known next spans ways to t h = record { sets = sets_named given scope known next to t h.sets; regs = h.regs; vars = h.vars; steps = h.steps }

  trims_grown : (inner scope : InScope) (known : Pass) (next further : Next) (spans : Spans) (ways : Ways) → Grown inner next further → Trims given scope known next spans ways → Trims given scope known further spans ways
  trims_grown inner scope known next further spans ways grown h = record {
    sets = sets_grown given inner scope known next further grown h.sets;
    regs = λ r is. h.regs r is ∙ sym (grown.spans r (given_before scope known next h.sets r is));
    vars = h.vars;
    steps = h.steps;
  }

module _ (good : ℕ → Bool) (given : Given) where
  pub simplified_trims : (block : Block) (inner scope : InScope) (known : Pass) (next : Next) (spans : Spans) (ways : Ways) → IsScoped inner block → HasAccessLayouts given.shapes given.roots block → AsksGood good given.roots block → Trims given scope known next spans ways → AllNamed inner scope next
      → answers good given.shapes spans ways (simplified given block known next).0 ≡ true
  simplified_trims End inner scope known next spans ways scoped fitted asks h all = refl
  simplified_trims (Word to how rest) inner scope known next spans ways scoped fitted asks h all =
      numbered_trims good given (is_pure given.single how) (given_type given to) (renamed next how) (λ t now later. simplified given rest now (with_name to t later)) scope known next spans ways h
      (op_named given inner scope next all how fitted.0 scoped.0) (plain_is_trim good given spans ways next how fitted.0)
      (λ t known' further wide spans' beyond onward holds t_is. simplified_trims rest (and_reg to inner) wide known' (with_name to t further) spans' beyond scoped.3 fitted.1 asks (trims_named good given wide known' further spans' beyond to t holds)
      (named_put given inner wide further to t t_is (named_by given inner scope wide next further onward.names onward.wider all)))
  simplified_trims (Spot to how rest) inner scope known next spans ways scoped fitted asks h all = simplified_trims rest (and_place to inner) scope known next spans ways scoped.3 fitted asks h all
  simplified_trims (Cell to place sight [] rest) inner scope known next spans ways scoped fitted asks h all = absurd fitted.0
  simplified_trims (Cell to place sight (r ∷ index) rest) inner scope known next spans ways scoped fitted asks h all =
      let fresh_index = map (made_name next) (r ∷ index) in
      let layout = layout_seen given place sight in
      let has : HasLayout given.shapes layout (length (r ∷ index)) = fitted.0 in
      let set = index_named given inner scope next all (r ∷ index) scoped.3 in
      placed_trims good given has.shape layout (made_name next r) (map (made_name next) index)
      (λ p. taken given (given_type given to) (sight_op p sight) fresh_index (λ t now later. simplified given rest now (with_name to t later))) scope known next spans ways has.there h set
      (λ p known' further wide spans' beyond onward holds p_is passed.
      taken_trims good given (given_type given to) (sight_op p sight) fresh_index (λ t now later. simplified given rest now (with_name to t later)) wide known' further spans' beyond holds (sight_regs wide.regs p sight)
      (sight_trims good given scope next ways wide known' further spans' beyond has.shape place p (made_name next r) sight (map (made_name next) index) has.there asks.0 onward holds set passed.0 passed.1)
      (λ t known'' further' wide' spans'' beyond' onward' holds' t_is.
      let whole_way = onward_on scope next ways wide further beyond wide' further' beyond' onward onward' in
      simplified_trims rest (and_reg to inner) wide' known'' (with_name to t further') spans'' beyond' scoped.2 fitted.1 asks.1 (trims_named good given wide' known'' further' spans'' beyond' to t holds')
      (named_put given inner wide' further' to t t_is (named_by given inner scope wide' next further' whole_way.names whole_way.wider all))))
  simplified_trims (Do (SetVar var reg) rest) inner scope known next spans ways scoped fitted asks h all = simplified_trims rest inner scope known next spans ways scoped.2 fitted.1 asks h all
  simplified_trims (Do (WriteOwn layout field reg stmt) rest) inner scope known next spans ways scoped fitted asks h all = simplified_trims rest inner scope known next spans ways scoped.2 fitted.1 asks h all
  simplified_trims (Do (Contribute how layout field place reg [] stmt) rest) inner scope known next spans ways scoped fitted asks h all = absurd fitted.0
  simplified_trims (Do (Contribute how layout field place reg (r ∷ index) stmt) rest) inner scope known next spans ways scoped fitted asks h all =
      let fresh_index = map (made_name next) (r ∷ index) in
      let has : HasLayout given.shapes layout (length (r ∷ index)) = fitted.0 in
      let set = index_named given inner scope next all (r ∷ index) scoped.0.1 in
      placed_trims good given has.shape layout (made_name next r) (map (made_name next) index)
      (λ p now later. put_in_front (Do (Contribute how layout field p (made_name next reg) fresh_index stmt)) (simplified given rest now later)) scope known next spans ways has.there h set
      (λ p known' further wide spans' beyond onward holds p_is passed. both_true _ _
      (access_trims good given scope next ways wide known' further spans' beyond has.shape layout p (made_name next r) (map (made_name next) index) has.there onward holds set passed.1)
      (simplified_trims rest inner wide known' further spans' beyond scoped.2 fitted.1 asks holds (named_by given inner scope wide next further onward.names onward.wider all)))
  simplified_trims (Do (Wish layout index stmt) rest) inner scope known next spans ways scoped fitted asks h all = simplified_trims rest inner scope known next spans ways scoped.2 fitted.1 asks h all
  simplified_trims (Branch cond block otherwise rest) inner scope known next spans ways scoped fitted asks h all =
      let first = simplified given block known next in
      let second = simplified given otherwise known first.1 in
      let grown = simplified_grows given block inner scoped.1 known next in
      let grown' = grown_on inner next first.1 second.1 grown (simplified_grows given otherwise inner scoped.2 known first.1) in
      both_true _ _ (simplified_trims block inner scope known next spans ways scoped.1 fitted.0 asks.0 h all)
      (both_true _ _ (simplified_trims otherwise inner scope known first.1 spans ways scoped.2 fitted.1 asks.1 (trims_grown good given inner scope known next first.1 spans ways grown h) (named_grown given inner scope next first.1 grown all))
      (simplified_trims rest inner scope known second.1 spans ways scoped.3 fitted.2 asks.2 (trims_grown good given inner scope known next second.1 spans ways grown' h) (named_grown given inner scope next second.1 grown' all)))
  simplified_trims (Loop var lo hi body rest) inner scope known next spans ways scoped fitted asks h all =
      let turn = simplified given body (looped var lo hi known) next in
      let grown = simplified_grows given body inner scoped.0 (looped var lo hi known) next in
      both_true _ _
      (simplified_trims body inner scope (looped var lo hi known) next (in_loop var lo hi spans) ways scoped.0 fitted.0 asks.0
      (record {
        sets = record { ops = h.sets.ops; steps = h.sets.steps; free_regs = h.sets.free_regs; free_places = h.sets.free_places };
        regs = h.regs;
        vars = λ v. ap (λ (span : Span). if v == var then range_span lo hi else span) (h.vars v);
        steps = h.steps;
      }) all)
      (simplified_trims rest inner scope known turn.1 spans ways scoped.1 fitted.1 asks.1 (trims_grown good given inner scope known next turn.1 spans ways grown h) (named_grown given inner scope next turn.1 grown all))
