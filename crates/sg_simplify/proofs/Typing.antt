-- What a step of the pass puts out is judged good where what follows is.
use Rattle.std.specs.Prelude.{◌≡◌, refl, ℕ, suc, ◌+◌, ◌<◌, ◌==◌, nat_lt, Bool, true, false, ◌&&◌, List, [], ◌∷◌, length, slice_get, Option, Some, None, option_map}
use Rattle.std.specs.Map.{lookup}
use Rattle.std.proofs.Common.{arith, sym, ap, subst, ◌∙◌}
use Rattle.std.proofs.lemmas.Bool.{and_parts}
use Rattle.std.proofs.lemmas.Bool.Decides.{nat_tests}
use Rattle.sg_words.specs.declared.operators.Ty.{Ty}
use Rattle.sg_words.specs.declared.operators.Ty.TheVariants as ty
use Rattle.sg_layout.specs.declared.shape.Kind.{Kind}
use Rattle.sg_layout.specs.declared.shape.Kind.TheVariants.{Dense, Bitmasked, Pointer, Hash, Dynamic}
use Rattle.sg_layout.specs.declared.shape.NodeShape.{NodeShape}
use Rattle.sg_layout.specs.declared.shape.Shape.{Shape}
use Rattle.sg_layout.specs.Axes.{bounds_of_shape, extent_in, extent_over}
use Rattle.sg_ir.specs.declared.op.Op.{Op}
use Rattle.sg_ir.specs.declared.op.Op.TheVariants as op
use Rattle.sg_ir.specs.declared.op.Step.{Step}
use Rattle.sg_ir.specs.declared.op.Step.TheVariants as step
use Rattle.sg_ir.specs.declared.span.Span.{Span}
use Rattle.sg_ir.specs.Runs.{node_in}
use Rattle.sg_ir.specs.Places.{extents_in}
use Rattle.sg_ir.specs.Blocks.{Block, Do, Act}
use Rattle.sg_ir.specs.Shared.{same_op, same_step}
use Rattle.sg_ir.specs.Trimmed.{is_within}
use Rattle.sg_ir.specs.WellTyped as well
use Rattle.sg_ir.specs.WellTyped.{KnownPlace, Scope, Frame, is_truth_as, reads, holds_of, goes_down, checkable, descends}
use Rattle.sg_ir.proofs.Uses.{op_exact, step_exact}
use Rattle.sg_simplify.specs.steps.Pass.{Given, Pass, Next, Making, next_with_reg, next_with_place, span_in, span_of, and_op, and_step, put_in_front, set_word, fresh, taken_at, looked_up, operand_again, plainest, taken_or, taken, numbered, stepped_at, stepped, check_at, checks_made, offset_made, offset, descent_of, descended, placed_in, place_made}
use Rattle.sg_simplify.specs.steps.Judged.{gives_type, truth_of, operands_fit, IndexIsGood, way_by, step_reads, step_known, and_known, act_fits, behind_act, fits_scope}
use Rattle.sg_simplify.specs.steps.Typed.{Fixed, frame_by, Starts, OpTyped, StepTyped, Types, Typed, GoesTyped, GoesDown, AllRead, ChecksFit, NodesFit}
use Rattle.sg_simplify.proofs.Tables.{each_push, IsFound, each_found, length_push}
use Rattle.sg_simplify.proofs.Setting.{put_now}
use Rattle.sg_simplify.proofs.TypingSteps.{both, eq_same, get_end, get_below, widens_same, widens_on, widens_reg, widens_place, starts_same, starts_on, starts_reg, starts_place, reads_on, all_read_on, operands_on, good_index_on, step_reads_on, known_on, word_fits, put_here, types_reg, types_place}
use Rattle.sg_simplify.proofs.Plainest.{operand_fits, plainest_fits, plainest_type, plainest_good, plainest_truth}

-- a number below another
below_test : (n k : ℕ) → n < k → nat_lt n k ≡ true
below_test n k h = grind (arith, nat_tests)

module _ (given : Given) (vars : List Ty) (setters : ℕ → ℕ) where
  abbrev fixed : Fixed
  fixed = record { shapes = given.shapes; vars = vars; setters = setters }

  abbrev truth : Op → Option Bool
  truth how = truth_of given.shapes vars how

  -- ---- registers
  -- an instruction that sets a new register, in front of what is good after it
  emitted : (type : Ty) (span : Span) (how : Op) (index : List ℕ) (scope : Scope) (next : Next) (body : Block × Next) → length next.types ≡ length next.spans
      → operands_fit (frame_by fixed next) scope how ≡ true → gives_type (truth how) (Some type) ≡ true → IndexIsGood (frame_by fixed next) scope how index
      → Typed fixed (well.with_reg (length next.spans) scope) (next_with_reg type span next) body → Typed fixed scope next (put_in_front (set_word (length next.spans) how index) body)
  emitted type span how index scope next body even operands type_ok index_ok inner =
      let further = next_with_reg type span next in
      let n = length next.spans in
      let same = widens_same scope in
      record {
        grows = λ final s. starts_on next further final (starts_reg type span next) (inner.grows final s);
        even = inner.even;
        longer = let more = inner.longer in let one : length further.spans ≡ suc n = length_push next.spans span in omega arith;
        good = λ final s.
            let later = inner.grows final s in
            let starts = starts_on next further final (starts_reg type span next) later in
            let there = later.regs n type (get_end next.types type n even) in
            word_fits (frame_by fixed final) scope n how index body.0 (operands_on fixed next final scope scope starts same how operands)
            (subst (λ (o : Option Ty). gives_type (truth how) o ≡ true) (sym there) type_ok) (good_index_on fixed next final scope scope starts same how index index_ok) (inner.good final s);
      }

  pub fresh_typed : (type : Ty) (how : Op) (index : List ℕ) (go : ℕ → Making) (scope : Scope) (known : Pass) (next : Next) → Types fixed scope known next
      → operands_fit (frame_by fixed next) scope how ≡ true → gives_type (truth how) (Some type) ≡ true → IndexIsGood (frame_by fixed next) scope how index → GoesTyped fixed scope next (truth how) go
      → Typed fixed scope next (fresh given type how index go known next)
  fresh_typed type how index go scope known next h operands type_ok index_ok goes =
      let n = length next.spans in
      let span = span_of given known next how in
      let further = next_with_reg type span next in
      let last = get_end next.types type n h.even in
      emitted type span how index scope next (go n known further) h.even operands type_ok index_ok
      (goes n known further (well.with_reg n scope) (widens_reg n scope) refl (starts_reg type span next) (types_reg fixed scope known next type span h) (put_now n scope.regs)
      (subst (λ (o : Option Ty). gives_type (truth how) o ≡ true) (sym last) type_ok))

  looked_up_typed : (type : Ty) (how : Op) (index : List ℕ) (go : ℕ → Making) (scope : Scope) (known : Pass) (next : Next) → Types fixed scope known next
      → operands_fit (frame_by fixed next) scope how ≡ true → gives_type (truth how) (Some type) ≡ true → IndexIsGood (frame_by fixed next) scope how index → GoesTyped fixed scope next (truth how) go
      → Typed fixed scope next (looked_up given type how index go known next)
  looked_up_typed type how index go scope known next h operands type_ok index_ok goes = by_found (lookup (same_op how) known.ops) refl
    where
      by_found : (o : Option ℕ) → lookup (same_op how) known.ops ≡ o → Typed fixed scope next (taken_at given type how index go o known next)
      by_found (Some t) e =
          let found : IsFound same_op how (OpTyped fixed scope next) t = each_found same_op how (OpTyped fixed scope next) known.ops t h.ops e in
          let it : OpTyped fixed scope next (how, t) = subst (λ (other : Op). OpTyped fixed scope next (other, t)) (sym (op_exact how found.other found.alike)) found.holds in
          goes t known next scope (widens_same scope) refl (starts_same next) h it.set it.type
      by_found None e =
          let n = length next.spans in
          let span = span_of given known next how in
          let further = next_with_reg type span next in
          let wide = well.with_reg n scope in
          let last = subst (λ (o : Option Ty). gives_type (truth how) o ≡ true) (sym (get_end next.types type n h.even)) type_ok in
          let mid = types_reg fixed scope known next type span h in
          let one : OpTyped fixed wide further (how, n) = record { set = put_now n scope.regs; type = last } in
          emitted type span how index scope next (go n (and_op how n known) further) h.even operands type_ok index_ok
          (goes n (and_op how n known) further wide (widens_reg n scope) refl (starts_reg type span next)
          (record { even = mid.even; ops = each_push (OpTyped fixed wide further) known.ops (how, n) mid.ops one; steps = mid.steps; free_regs = mid.free_regs; free_places = mid.free_places })
          (put_now n scope.regs) last)

  pub taken_typed : (type : Ty) (how : Op) (index : List ℕ) (go : ℕ → Making) (scope : Scope) (known : Pass) (next : Next) → Types fixed scope known next
      → operands_fit (frame_by fixed next) scope how ≡ true → gives_type (truth how) (Some type) ≡ true → IndexIsGood (frame_by fixed next) scope how index → GoesTyped fixed scope next (truth how) go
      → Typed fixed scope next (taken given type how index go known next)
  taken_typed type how index go scope known next h operands type_ok index_ok goes = by_operand (operand_again next how) refl
    where
      by_operand : (o : Option ℕ) → operand_again next how ≡ o → Typed fixed scope next (taken_or given type how index go o known next)
      by_operand (Some t) e =
          let fits = operand_fits given.shapes vars (frame_by fixed next) scope next how t operands e in
          goes t known next scope (widens_same scope) refl (starts_same next) h fits.0 fits.1
      by_operand None e =
          looked_up_typed type (plainest type how) index go scope known next h (plainest_fits (frame_by fixed next) scope type how operands) (plainest_type given.shapes vars type how type_ok) (plainest_good (frame_by fixed next) scope type how index index_ok)
          (subst (λ (o : Option Bool). GoesTyped fixed scope next o go) (sym (plainest_truth given.shapes vars type how type_ok)) goes)

  pub numbered_typed : (pure : Bool) (type : Ty) (how : Op) (go : ℕ → Making) (scope : Scope) (known : Pass) (next : Next) → Types fixed scope known next
      → operands_fit (frame_by fixed next) scope how ≡ true → gives_type (truth how) (Some type) ≡ true → IndexIsGood (frame_by fixed next) scope how [] → GoesTyped fixed scope next (truth how) go
      → Typed fixed scope next (numbered pure given type how go known next)
  numbered_typed true type how go = taken_typed type how [] go
  numbered_typed false type how go = fresh_typed type how [] go

  -- ---- places
  pub stepped_typed : (how : Step) (go : ℕ → Making) (scope : Scope) (known : Pass) (next : Next) (place : KnownPlace) → Types fixed scope known next
      → step_reads (frame_by fixed next) scope how ≡ true → step_known scope how ≡ Some place → GoesDown fixed scope next place go
      → Typed fixed scope next (stepped how go known next)
  stepped_typed how go scope known next place h reads_ok is goes = by_found (lookup (same_step how) known.steps) refl
    where
      by_found : (o : Option ℕ) → lookup (same_step how) known.steps ≡ o → Typed fixed scope next (stepped_at how go o known next)
      by_found (Some t) e =
          let found : IsFound same_step how (StepTyped scope) t = each_found same_step how (StepTyped scope) known.steps t h.steps e in
          let it : StepTyped scope (how, t) = subst (λ (other : Step). StepTyped scope (other, t)) (sym (step_exact how found.other found.alike)) found.holds in
          goes t known next scope (widens_same scope) refl (starts_same next) h (it.here ∙ (sym it.comes ∙ is))
      by_found None e =
          let n = next.places in
          let wide = well.with_place n place scope in
          let widens = widens_place n place scope (h.free_places n (omega arith)) in
          let mid = types_place fixed scope known next place h in
          let one : StepTyped wide (how, n) = record { known = place; comes = known_on scope wide widens how place is; here = put_here n (Some place) scope.places } in
          let inner = goes n (and_step how n known) (next_with_place next) wide widens refl (starts_place next)
          (record { even = mid.even; ops = mid.ops; steps = each_push (StepTyped wide) known.steps (how, n) mid.steps one; free_regs = mid.free_regs; free_places = mid.free_places })
          (put_here n (Some place) scope.places) in
          let body = go n (and_step how n known) (next_with_place next) in
          record {
            grows = λ final s. starts_on next (next_with_place next) final (starts_place next) (inner.grows final s);
            even = inner.even;
            longer = inner.longer;
            good = λ final s.
                let later = inner.grows final s in
                let room = later.places in
                let there : n < final.places = omega arith in
                both _ _ (both _ _ (below_test n final.places there) (step_reads_on fixed next final scope scope (starts_on next (next_with_place next) final (starts_place next) later) (widens_same scope) how reads_ok))
                (subst (λ (o : Option KnownPlace). fits_scope (frame_by fixed final) (and_known n o scope) body.0 ≡ true) (sym is) (inner.good final s));
          }

  -- the place in front of its checks
  abbrev whole_of : ℕ → KnownPlace
  whole_of layout = record { layout = layout; passed = 0 }

  checked_typed : (extents : List ℕ) (axis : ℕ) (index : List ℕ) (place : ℕ) (go : ℕ → Making) (scope : Scope) (known : Pass) (next : Next) (layout : ℕ) → Types fixed scope known next
      → scope.places place ≡ Some (whole_of layout) → AllRead fixed scope next index → ChecksFit (frame_by fixed next) layout axis extents index → GoesDown fixed scope next (whole_of layout) go
      → Typed fixed scope next (checks_made axis extents index place go known next)
  checked_typed [] axis index place go scope known next layout h is all checks goes = goes place known next scope (widens_same scope) refl (starts_same next) h is
  checked_typed (extent ∷ extents) axis [] place go scope known next layout h is all checks goes = goes place known next scope (widens_same scope) refl (starts_same next) h is
  checked_typed (extent ∷ extents) axis (r ∷ index) place go scope known next layout h is all checks goes = by_test (is_within extent (span_in next r))
      (checked_typed extents (suc axis) index place go scope known next layout h is all.1 checks.2 goes)
      (λ p known' further wide widens names starts holds p_is. checked_typed extents (suc axis) index p go wide known' further layout holds p_is (all_read_on fixed next further scope wide starts widens index all.1) checks.2
      (λ t known'' further' wide' widens' names' starts' holds' t_is. goes t known'' further' wide' (widens_on scope wide wide' widens widens') (names' ∙ names) (starts_on next further further' starts starts') holds' t_is))
    where
      there : holds_of (checkable (frame_by fixed next) axis extent) (scope.places place) ≡ true
      there = subst (λ (o : Option KnownPlace). holds_of (checkable (frame_by fixed next) axis extent) o ≡ true) (sym is) checks.1

      by_test : (test : Bool) → Typed fixed scope next (checks_made (suc axis) extents index place go known next) → GoesDown fixed scope next (whole_of layout) (λ p. checks_made (suc axis) extents index p go)
          → Typed fixed scope next (check_at test (step.Check place axis extent r) place (λ p. checks_made (suc axis) extents index p go) known next)
      by_test true same more = same
      by_test false same more =
          stepped_typed (step.Check place axis extent r) (λ p. checks_made (suc axis) extents index p go) scope known next (whole_of layout) h (both _ _ checks.0 (both _ _ there all.0))
          (ap (option_map (λ (it : KnownPlace). record { layout = it.layout; passed = 0 })) is) more

  -- ---- offsets
  joined_typed : (node : NodeShape) (later : List NodeShape) (index : List ℕ) (axis high : ℕ) (go : ℕ → Making) (scope : Scope) (known : Pass) (next : Next) → Types fixed scope known next
      → ((axis : ℕ) → (nat_lt 0 (extent_over later axis) ≡ true) × (nat_lt 0 (extent_in node.sizes axis) ≡ true)) → reads (frame_by fixed next) scope false high ≡ true → AllRead fixed scope next index
      → GoesTyped fixed scope next (Some false) go → Typed fixed scope next (offset_made given node later axis index high go known next)
  joined_typed node later [] axis high go scope known next h sizes is all goes =
      let parts = and_parts (scope.regs high) (is_truth_as false (slice_get next.types high)) is in
      goes high known next scope (widens_same scope) refl (starts_same next) h parts.0 parts.1
  joined_typed node later (r ∷ index) axis high go scope known next h sizes is all goes =
      taken_typed ty.U32 (op.Extract (extent_over later axis) (extent_in node.sizes axis) r) [] (λ low. taken given ty.U32 (op.Offset high (extent_in node.sizes axis) low) [] (λ o. offset_made given node later (suc axis) index o go))
      scope known next h (both _ _ (sizes axis).0 (both _ _ (sizes axis).1 all.0)) refl tt
      (λ low known' further wide widens names starts holds low_is low_type.
      taken_typed ty.U32 (op.Offset high (extent_in node.sizes axis) low) [] (λ o. offset_made given node later (suc axis) index o go) wide known' further holds
      (both _ _ (sizes axis).1 (both _ _ (reads_on fixed next further scope wide starts widens false high is) (both _ _ low_is low_type))) refl tt
      (λ o known'' further' wide' widens' names' starts' holds' o_is o_type.
      joined_typed node later index (suc axis) o go wide' known'' further' holds' sizes (both _ _ o_is o_type) (all_read_on fixed next further' scope wide' (starts_on next further further' starts starts') (widens_on scope wide wide' widens widens') index all.1)
      (λ t known''' further'' wide'' widens'' names'' starts'' holds'' t_is t_type.
      goes t known''' further'' wide'' (widens_on scope wide' wide'' (widens_on scope wide wide' widens widens') widens'') (names'' ∙ (names' ∙ names))
      (starts_on next further' further'' (starts_on next further further' starts starts') starts'') holds'' t_is t_type)))

  offset_typed : (node : NodeShape) (later : List NodeShape) (r : ℕ) (index : List ℕ) (go : ℕ → Making) (scope : Scope) (known : Pass) (next : Next) → Types fixed scope known next
      → ((axis : ℕ) → (nat_lt 0 (extent_over later axis) ≡ true) × (nat_lt 0 (extent_in node.sizes axis) ≡ true)) → AllRead fixed scope next (r ∷ index)
      → GoesTyped fixed scope next (Some false) go → Typed fixed scope next (offset given node later (r ∷ index) go known next)
  offset_typed node later r index go scope known next h sizes all goes =
      taken_typed ty.U32 (op.Extract (extent_over later 1) (extent_in node.sizes 1) r) [] (λ high. offset_made given node later 2 index high go)
      scope known next h (both _ _ (sizes 1).0 (both _ _ (sizes 1).1 all.0)) refl tt
      (λ high known' further wide widens names starts holds high_is high_type.
      joined_typed node later index 2 high go wide known' further holds sizes (both _ _ high_is high_type) (all_read_on fixed next further scope wide starts widens index all.1)
      (λ t known'' further' wide' widens' names' starts' holds' t_is t_type.
      goes t known'' further' wide' (widens_on scope wide wide' widens widens') (names' ∙ names) (starts_on next further further' starts starts') holds' t_is t_type))

  -- ---- down the nodes
  down_kind : (kind : Kind) → goes_down (way_by (descent_of kind)) kind ≡ true
  down_kind Dense = refl
  down_kind Pointer = refl
  down_kind Hash = refl
  down_kind Bitmasked = refl
  down_kind Dynamic = refl

  abbrev past : ℕ → ℕ → KnownPlace
  past layout passed = record { layout = layout; passed = passed }

  descended_typed : (nodes : List NodeShape) (passed r : ℕ) (index : List ℕ) (place : ℕ) (go : ℕ → Making) (scope : Scope) (known : Pass) (next : Next) (layout : ℕ) (shape : Shape)
      → slice_get given.shapes layout ≡ Some shape → ((k : ℕ) → slice_get shape.nodes (passed + k) ≡ slice_get nodes k) → Types fixed scope known next → scope.places place ≡ Some (past layout passed)
      → AllRead fixed scope next (r ∷ index) → NodesFit nodes → GoesDown fixed scope next (past layout (passed + length nodes)) go
      → Typed fixed scope next (descended given nodes (suc passed) (r ∷ index) place go known next)
  descended_typed [] passed r index place go scope known next layout shape there left h is all sizes goes =
      goes place known next scope (widens_same scope) refl (starts_same next) h (is ∙ ap (λ n. Some (past layout n)) (no_more passed))
    where
      no_more : (n : ℕ) → n ≡ n + 0
      no_more n = omega arith
  descended_typed (node ∷ later) passed r index place go scope known next layout shape there left h is all sizes goes =
      offset_typed node later r index (λ o. stepped (step.Down (descent_of node.kind) place (suc passed) o) (λ p. descended given later (suc (suc passed)) (r ∷ index) p go)) scope known next h sizes.0 all
      (λ o known' further wide widens names starts holds o_is o_type.
      stepped_typed (step.Down (descent_of node.kind) place (suc passed) o) (λ p. descended given later (suc (suc passed)) (r ∷ index) p go) wide known' further (past layout (suc passed)) holds
      (both _ _ (subst (λ (q : Option KnownPlace). holds_of (descends (frame_by fixed further) (way_by (descent_of node.kind)) (suc passed)) q ≡ true) (sym (widens.places place (past layout passed) is)) down_ok) (both _ _ o_is o_type))
      (ap (option_map (λ (it : KnownPlace). record { layout = it.layout; passed = suc passed })) (widens.places place (past layout passed) is))
      (λ p known'' further' wide' widens' names' starts' holds' p_is.
      descended_typed later (suc passed) r index p go wide' known'' further' layout shape there onward holds' p_is
      (all_read_on fixed next further' scope wide' (starts_on next further further' starts starts') (widens_on scope wide wide' widens widens') (r ∷ index) all) sizes.1
      (λ t known''' further'' wide'' widens'' names'' starts'' holds'' t_is.
      goes t known''' further'' wide'' (widens_on scope wide' wide'' (widens_on scope wide wide' widens widens') widens'') (names'' ∙ (names' ∙ names))
      (starts_on next further' further'' (starts_on next further further' starts starts') starts'') holds'' (t_is ∙ ap (λ n. Some (past layout n)) (shifted passed (length later))))))
    where
      shifted : (a b : ℕ) → suc a + b ≡ a + suc b
      shifted a b = omega arith

      no_more : (n : ℕ) → n ≡ n + 0
      no_more n = omega arith

      onward : (k : ℕ) → slice_get shape.nodes (suc passed + k) ≡ slice_get later k
      onward k = ap (slice_get shape.nodes) (shifted passed k) ∙ left (suc k)

      here : node_in shape.nodes (suc passed) ≡ Some node
      here = ap (slice_get shape.nodes) (no_more passed) ∙ left 0

      down_ok : ((suc passed == suc passed) && holds_of (λ (it : Shape). holds_of (λ (n : NodeShape). goes_down (way_by (descent_of node.kind)) n.kind) (node_in it.nodes (suc passed))) (slice_get given.shapes layout)) ≡ true
      down_ok = both _ _ (eq_same (suc passed))
          (subst (λ (o : Option Shape). holds_of (λ (it : Shape). holds_of (λ (n : NodeShape). goes_down (way_by (descent_of node.kind)) n.kind) (node_in it.nodes (suc passed))) o ≡ true) (sym there)
          (subst (λ (o : Option NodeShape). holds_of (λ (n : NodeShape). goes_down (way_by (descent_of node.kind)) n.kind) o ≡ true) (sym here) (down_kind node.kind)))

  pub placed_typed : (shape : Shape) (layout r : ℕ) (index : List ℕ) (go : ℕ → Making) (scope : Scope) (known : Pass) (next : Next) → slice_get given.shapes layout ≡ Some shape → Types fixed scope known next
      → AllRead fixed scope next (r ∷ index) → ChecksFit (frame_by fixed next) layout 0 (extents_in (bounds_of_shape shape)) (r ∷ index) → NodesFit shape.nodes
      → GoesDown fixed scope next (past layout (length shape.nodes)) go → Typed fixed scope next (place_made given layout (r ∷ index) go known next)
  placed_typed shape layout r index go scope known next there h all checks sizes goes =
      subst (λ (found : Option Shape). Typed fixed scope next (placed_in given found layout (r ∷ index) go known next)) (sym there)
      (stepped_typed (step.Root layout) (λ k. checks_made 0 (extents_in (bounds_of_shape shape)) (r ∷ index) k (λ p. descended given shape.nodes 1 (r ∷ index) p go)) scope known next (whole_of layout) h
      (below_test layout (length given.shapes) (get_below given.shapes layout shape there)) refl
      (λ k known' further wide widens names starts holds k_is.
      checked_typed (extents_in (bounds_of_shape shape)) 0 (r ∷ index) k (λ p. descended given shape.nodes 1 (r ∷ index) p go) wide known' further layout holds k_is
      (all_read_on fixed next further scope wide starts widens (r ∷ index) all) checks
      (λ p known'' further' wide' widens' names' starts' holds' p_is.
      descended_typed shape.nodes 0 r index p go wide' known'' further' layout shape there (λ i. ap (slice_get shape.nodes) (from_zero i)) holds' p_is
      (all_read_on fixed next further' scope wide' (starts_on next further further' starts starts') (widens_on scope wide wide' widens widens') (r ∷ index) all) sizes
      (λ t known''' further'' wide'' widens'' names'' starts'' holds'' t_is.
      goes t known''' further'' wide'' (widens_on scope wide' wide'' (widens_on scope wide wide' widens widens') widens'') (names'' ∙ (names' ∙ names))
      (starts_on next further' further'' (starts_on next further further' starts starts') starts'') holds'' (t_is ∙ ap (λ n. Some (past layout n)) (from_zero (length shape.nodes)))))))
    where
      from_zero : (n : ℕ) → 0 + n ≡ n
      from_zero n = omega arith

  -- ---- acts
  pub act_typed : (what : Act) (scope : Scope) (next : Next) (body : Block × Next) → ((final : Next) → Starts next final → act_fits (frame_by fixed final) scope what ≡ true)
      → Typed fixed (behind_act what scope) next body → Typed fixed scope next (put_in_front (Do what) body)
  act_typed what scope next body ok inner = record {
    grows = inner.grows;
    even = inner.even;
    longer = inner.longer;
    good = λ final s. both _ _ (ok final (inner.grows final s)) (inner.good final s);
  }
