-- The code of an admitted kernel is apt.
use Rattle.std.proofs.Common.{◌≡◌, ℕ, ◌<◌, ◌≤◌, ℤ, true, false, ◌==◌, List, [], map, length, Option, Some, None, Ok, refl, sym, ap, subst, ◌∙◌, arith}
use Rattle.std.specs.Prelude.{slice_get, option_map, Contains}
use Rattle.std.specs.List.{filter, list_all, AllZip}
use Rattle.std.proofs.lemmas.Bool.{and_parts, both_ways, eqb-true}
use Rattle.std.proofs.lemmas.List.{length-map}
use Rattle.std.proofs.lemmas.Option.{slice_get_within}
use Rattle.sg_words.specs.declared.operators.Ty.TheVariants as ty
use Rattle.sg_words.specs.WordLaws.{NumberHasWord}
use Rattle.sg_coord.specs.declared.coord.Coord.{Coord}
use Rattle.sg_coord.specs.Bounds.{IsBounds}
use Rattle.sg_layout.specs.declared.shape.Shape.{Shape}
use Rattle.sg_layout.specs.Axes.{bounds_of_shape}
use Rattle.sg_layout.specs.ClosureLaws.{ClosureIsInside}
use Rattle.sg_flat.specs.declared.effects.Domain.{Domain}
use Rattle.sg_flat.specs.declared.effects.Domain.TheVariants.{Walk, Range}
use Rattle.sg_flat.specs.Domain.{box_points, domain_points}
use Rattle.sg_types.specs.declared.typed.TypedDomain.{TypedDomain}
use Rattle.sg_types.specs.declared.typed.TypedDomain.TheVariants as domain
use Rattle.sg_types.specs.declared.typed.TypedRange.{TypedRange}
use Rattle.sg_types.specs.declared.typed.TypedStmt.{TypedStmt}
use Rattle.sg_types.specs.Expressions.{equals_some}
use Rattle.sg_types.specs.WellTyped.{setting, axes_in, is_well_typed_range, is_well_typed_domain, is_well_typed_kernel}
use Rattle.sg_types.specs.Values.{coord_of, expr_word}
use Rattle.sg_types.specs.Iterations.{part_words, before_all, domain_of, writes_at}
use Rattle.sg_admit.specs.declared.admitted.Admitted.{Admitted}
use Rattle.sg_admit.specs.Admission.{admission}
use Rattle.sg_admit.specs.Limits.{most_box_points}
use Rattle.sg_admit.specs.Lines.{Around, nothing_round, block_lines, kernel_lines}
use Rattle.sg_admit.specs.Slices as admit
use Rattle.sg_admit.specs.Slices.{walked_by}
use Rattle.sg_admit.specs.Bounds.{nowhere, box_size}
use Rattle.sg_admit.specs.Rules.{facts_of, ways_in, has_own, writes_layout, is_unwritten}
use Rattle.sg_admit.specs.Laws.{Says, FaultsAreFirst, BoxHasItsSize}
use Rattle.sg_ir.specs.declared.code.Code.{Code}
use Rattle.sg_ir.specs.declared.code.Inst.{Inst}
use Rattle.sg_ir.specs.Runs.{CodeWrite, CodeWant, Seen, iteration}
use Rattle.sg_ir.specs.Named.{IsNamed}
use Rattle.sg_ir.specs.Apt as apt
use Rattle.sg_ir.specs.Apt.{Use, Writes, uses_in, IsDomain, loop_vars, IsWantOf, WantsItsWrites, KeepsItsWays, AsksUnwritten, IsApt}
use Rattle.sg_ir.specs.Trimmed.{asked_in}
use Rattle.sg_ir.specs.Trails.{asked_by}
use Rattle.sg_ir.proofs.Uses.{asked-row}
use Rattle.sg_lower.specs.declared.lowering.Field.{Field}
use Rattle.sg_lower.specs.Lowered.{PointsAreWhole, want_of, WritesAsKernel, WantsAsKernel, NamesItsAccesses}
use Rattle.sg_lower.specs.steps.Basis.{Basis, is_owned, IsSmall}
use Rattle.sg_lower.specs.steps.Fitting.{stmt_fits}
use Rattle.sg_lower.specs.steps.Using.{line_uses, UsesBlock}
use Rattle.sg_lower.specs.steps.Asking.{AsksBlock}
use Rattle.sg_lower.proofs.Points.{box_whole, walk_whole}
use Rattle.sg_lower.proofs.Wanting.{wants_stand}
use Rattle.sg_lower.proofs.Ways.{use_of, keeps_ways}
use Rattle.sg_lower.proofs.AskingLines.{lines_ask, has_written, each_good, not_both}
use Rattle.sg_lower.proofs.Written.{uses_good}

some_axes : (found : Option ℕ) (vars : ℕ) → equals_some found vars ≡ true → found ≡ Some vars
some_axes None vars h = absurd (both_ways false refl h)
some_axes (Some n) vars h = ap Some (eqb-true n vars h)

-- the loop of a well-typed kernel is numbered by its domain
loop_is : (shapes : List Shape) (vars : ℕ) (d : TypedDomain) → is_well_typed_domain shapes vars d ≡ true → loop_vars shapes (domain_of nowhere d) ≡ Some vars
loop_is shapes vars (domain.Walk layout) typed = some_axes (axes_in shapes layout) vars typed
loop_is shapes vars (domain.Ranges ranges) typed =
    let p = and_parts (length ranges == vars) (list_all (is_well_typed_range (setting shapes [] [])) ranges) typed in
    ap Some (length-map ranges (λ (range : TypedRange). expr_word nowhere before_all range.lo) ∙ eqb-true (length ranges) vars p.0)

module _ (numbers_have_words : (z : ℤ) → NumberHasWord ty.I32 z) (closures : (shape : Shape) → ClosureIsInside shape) (sizes : BoxHasItsSize) (faults : FaultsAreFirst) (shapes : List Shape) (kept : Admitted)
    (admitted : admission kept.kernel ≡ Ok kept) (typed : is_well_typed_kernel shapes kept.kernel ≡ true) (few : kept.kernel.vars ≤ 3)
    (walked : (layout : ℕ) (shape : Shape) → kept.domain ≡ Walk layout → slice_get shapes layout ≡ Some shape → IsBounds (bounds_of_shape shape))
    (boxed : (lo hi : Coord) → kept.domain ≡ Range lo hi → IsSmall lo × IsSmall hi) where
  says : Says kept.kernel (Ok kept)
  says = subst (Says kept.kernel) admitted (faults kept.kernel)

  domain_is : kept.domain ≡ domain_of nowhere kept.kernel.domain
  domain_is = ap (λ (it : Admitted). it.domain) says.0

  typed_domain : is_well_typed_domain shapes kept.kernel.vars kept.kernel.domain ≡ true
  typed_domain = (and_parts _ _ (and_parts _ _ typed).0).0

  there_below : (layout : ℕ) → equals_some (axes_in shapes layout) kept.kernel.vars ≡ true → layout < length shapes
  there_below layout h = by_found (slice_get shapes layout) refl
    where
      by_found : (found : Option Shape) → slice_get shapes layout ≡ found → layout < length shapes
      by_found (Some shape) there = slice_get_within shapes layout shape there
      by_found None there = absurd (both_ways false refl (ap (λ (f : Option Shape). equals_some (option_map (λ (s : Shape). s.axes) f) kept.kernel.vars) (sym there) ∙ h))

  good_domain : (d : TypedDomain) → is_well_typed_domain shapes kept.kernel.vars d ≡ true → box_size (domain_of nowhere d) ≤ most_box_points → IsDomain shapes (domain_of nowhere d)
  good_domain (domain.Walk layout) typed size = there_below layout typed
  good_domain (domain.Ranges ranges) typed size =
      let lo = coord_of (map (λ range. expr_word nowhere before_all range.lo) ranges) in
      let hi = coord_of (map (λ range. expr_word nowhere before_all range.hi) ranges) in
      subst (λ (n : ℕ). n ≤ most_box_points) (sym (sizes lo hi)) size

  pub point : PointsAreWhole shapes kept
  point state fine at has = by_domain kept.kernel.domain refl
    where
      by_domain : (d : TypedDomain) → kept.kernel.domain ≡ d → (length (part_words at) ≡ kept.kernel.vars) × (coord_of (part_words at) ≡ at)
      by_domain (domain.Walk layout) e =
          let walks : kept.domain ≡ Walk layout = domain_is ∙ ap (domain_of nowhere) e in
          let here = subst (λ (d : Domain). Contains (domain_points state d) at) walks has in
          let it = walk_whole numbers_have_words shapes state layout at fine closures (λ shape there. walked layout shape walks there) here in
          let axes : equals_some (axes_in shapes layout) kept.kernel.vars ≡ true = ap (is_well_typed_domain shapes kept.kernel.vars) (sym e) ∙ typed_domain in
          let same : it.0.axes ≡ kept.kernel.vars = eqb-true it.0.axes kept.kernel.vars (ap (λ (f : Option Shape). equals_some (option_map (λ (s : Shape). s.axes) f) kept.kernel.vars) (sym it.1) ∙ axes) in
          (it.2.0 ∙ (it.3 ∙ same), it.2.1)
      by_domain (domain.Ranges ranges) e =
          let lo = coord_of (map (λ range. expr_word nowhere before_all range.lo) ranges) in
          let hi = coord_of (map (λ range. expr_word nowhere before_all range.hi) ranges) in
          let box : kept.domain ≡ Range lo hi = domain_is ∙ ap (domain_of nowhere) e in
          let here : Contains (box_points lo hi) at = subst (λ (d : Domain). Contains (domain_points state d) at) box has in
          let count = and_parts (length ranges == kept.kernel.vars) (list_all (is_well_typed_range (setting shapes [] [])) ranges) (ap (is_well_typed_domain shapes kept.kernel.vars) (sym e) ∙ typed_domain) in
          let axes : lo.n ≡ kept.kernel.vars = length-map ranges (λ range. expr_word nowhere before_all range.lo) ∙ eqb-true (length ranges) kept.kernel.vars count.0 in
          let small = boxed lo hi box in
          let it = box_whole numbers_have_words lo hi at (omega (arith, axes, few)) small.0 small.1 here in
          (it.0.0 ∙ (it.1 ∙ axes), it.0.1)

  named : (block : List Inst) → NamesItsAccesses shapes kept.kernel block → IsNamed shapes kept.domain block
  named block names state fine at has = let is = point state fine at has in names state fine at is.0 is.1

  wants : (slice block : List Inst) → WritesAsKernel shapes kept.kernel block → WantsAsKernel shapes kept.kernel slice → WantsItsWrites shapes kept.domain slice block
  wants slice block writes wanted state fine at has =
      let is = point state fine at has in
      let seen : Seen = record { shapes = shapes; state = state; at = at } in
      let all = writes_at (record { shapes = shapes; state = state }) kept.kernel at in
      subst (λ (d : Domain). AllZip (IsWantOf shapes) (iteration seen slice).wants (filter (apt.may_activate d) (iteration seen block).writes)) (sym domain_is)
      (subst (λ (ws : List CodeWant). AllZip (IsWantOf shapes) ws (filter (apt.may_activate (domain_of nowhere kept.kernel.domain)) (iteration seen block).writes)) (sym (wanted state fine at is.0 is.1))
      (subst (λ (cs : List CodeWrite). AllZip (IsWantOf shapes) (map want_of (filter (λ write. admit.may_activate (walked_by kept.kernel.domain) write.layout write.way) all)) (filter (apt.may_activate (domain_of nowhere kept.kernel.domain)) cs)) (sym (writes state fine at is.0 is.1))
      (wants_stand shapes kept.kernel.domain all)))

  module _ (owned : List Field) (given : List TypedStmt) (same : given ≡ kept.kernel.body)
      (noted : (around : Around) (layout place : ℕ) → is_owned owned layout place ≡ has_own (ways_in (block_lines given around)) layout place) where
    abbrev body : Basis
    body = record { shapes = shapes; owned = owned; vars = kept.kernel.vars; slicing = false }

    owned_is : (layout place : ℕ) → is_owned owned layout place ≡ has_own (ways_in (kernel_lines kept.kernel)) layout place
    owned_is layout place = noted nothing_round layout place ∙ ap (λ (body : List TypedStmt). has_own (ways_in (block_lines body nothing_round)) layout place) same

    ways : (block : List Inst) → list_all (stmt_fits body) kept.kernel.body ≡ true → UsesBlock body kept.kernel.body [] block → KeepsItsWays shapes kept.domain (uses_in block)
    ways block fit uses =
        subst (λ (us : List Use). KeepsItsWays shapes kept.domain us) (sym (uses nothing_round))
        (keeps_ways shapes (facts_of kept.kernel) owned owned_is kept.domain (line_uses body (block_lines kept.kernel.body nothing_round))
        (ap (loop_vars shapes) domain_is ∙ loop_is shapes kept.kernel.vars kept.kernel.domain typed_domain) (uses_good kept.kernel body owned owned_is says.1.0 fit))

    asks : (block : List Inst) → list_all (stmt_fits body) kept.kernel.body ≡ true → UsesBlock body kept.kernel.body [] block → AsksBlock kept.kernel.body [] block → AsksUnwritten (uses_in block) (asked_in block)
    asks block fit uses asked layout field way writes there =
        let facts = facts_of kept.kernel in
        let lines = block_lines kept.kernel.body nothing_round in
        let good = asked (is_unwritten facts) nothing_round (lines_ask facts lines says.1.0.1) [] refl in
        let unwritten = each_good (is_unwritten facts) (asked_by block []) good layout (subst (λ (layouts : List ℕ). Contains layouts layout) (asked-row block) there) in
        let used : Contains (line_uses body lines) (Writes layout field way) = subst (λ (us : List Use). Contains us (Writes layout field way)) (uses nothing_round) writes in
        let first = (use_of shapes facts owned owned_is (line_uses body lines) (uses_good kept.kernel body owned owned_is says.1.0 fit) (Writes layout field way) used).0 in
        not_both (writes_layout (ways_in (kernel_lines kept.kernel)) layout) (has_written (ways_in (kernel_lines kept.kernel)) layout field way first) unwritten

    pub code_apt : (slice code : Code) → list_all (stmt_fits body) kept.kernel.body ≡ true → WritesAsKernel shapes kept.kernel code.body → WantsAsKernel shapes kept.kernel slice.body
        → NamesItsAccesses shapes kept.kernel slice.body → NamesItsAccesses shapes kept.kernel code.body → UsesBlock body kept.kernel.body [] code.body → AsksBlock kept.kernel.body [] code.body → IsApt shapes (record { slice = slice; code = code; domain = kept.domain })
    code_apt slice code fit writes wanted slice_named code_named uses asked = record {
      domain = subst (IsDomain shapes) (sym domain_is) (good_domain kept.kernel.domain typed_domain says.1.1);
      slice_named = named slice.body slice_named;
      code_named = named code.body code_named;
      wants = wants slice.body code.body writes wanted;
      ways = ways code.body fit uses;
      asks = asks code.body fit uses asked;
    }
