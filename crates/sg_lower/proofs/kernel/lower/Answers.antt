use Rattle.std.proofs.Common.{true, false, List, [], ◌∙◌, subst}
use Rattle.sg_types.specs.declared.typed.TypedStmt.{TypedStmt}
use Rattle.sg_words.specs.declared.operators.Ty.TheVariants as ty
use Rattle.sg_lower.specs.steps.Basis.{Basis}
use Rattle.sg_lower.specs.steps.Asking.{AsksBlock}
use Rattle.sg_lower.proofs.Lowered.{writes_told, named_told, wants_told, tells_same, owned_is, body_fit, slice_fit}
use Rattle.sg_lower.proofs.UsingLines.{uses_same}
use Rattle.sg_lower.proofs.Aptness.{point, code_apt}
use Rattle.sg_lower.proofs.CodeTypes.{body_code, slice_code}
use Rattle.sg_lower.proofs.kernel.lower.Goals as goal

pub returns-clause-writes : goal.returns-clause-writes
returns-clause-writes c =
    let kept = c.args.kernel.now in
    let shapes = c.args.layouts.now.list in
    let owned = c.in_ok-owned.owned in
    let laws = c.operators_give_words.ensures in
    let basis : Basis = record { shapes = shapes; owned = owned; vars = kept.kernel.vars; slicing = false } in
    writes_told c.numbering.ensures.inside_test c.closure_members.ensures.inside c.paths_tell.ensures.coordinate laws.applied laws.applied_un laws.mulq shapes kept.kernel owned c.in_ok-code.code.body
    (tells_same basis c.as_slice-2.result.now kept.kernel.body c.in_ok-code.code.body c.as_slice-2.ensures c.in_ok-code.ensures.tells
    (body_fit shapes kept owned c.dirty_is_closed.ensures c.faults_are_first.ensures c.requires.admitted c.requires.typed c.requires.numbered c.as_slice.result.now c.as_slice.ensures c.in_ok-owned.ensures))

pub returns-clause-wants : goal.returns-clause-wants
returns-clause-wants c =
    let kept = c.args.kernel.now in
    let shapes = c.args.layouts.now.list in
    let owned = c.in_ok-owned.owned in
    let laws = c.operators_give_words.ensures in
    let basis : Basis = record { shapes = shapes; owned = owned; vars = kept.kernel.vars; slicing = true } in
    wants_told c.numbering.ensures.inside_test c.closure_members.ensures.inside c.paths_tell.ensures.coordinate laws.applied laws.applied_un laws.mulq shapes kept.kernel owned c.slice_wants_what_is_written.ensures kept c.requires.admitted c.in_ok-slice.slice.body
    (tells_same basis c.as_slice-3.result.now kept.slice c.in_ok-slice.slice.body c.as_slice-3.ensures c.in_ok-slice.ensures.tells
    (slice_fit shapes kept owned c.dirty_is_closed.ensures c.faults_are_first.ensures c.requires.admitted c.requires.typed c.requires.numbered c.as_slice.result.now c.as_slice.ensures c.in_ok-owned.ensures))

pub returns-clause-code_named : goal.returns-clause-code_named
returns-clause-code_named c =
    let kept = c.args.kernel.now in
    let shapes = c.args.layouts.now.list in
    let owned = c.in_ok-owned.owned in
    let laws = c.operators_give_words.ensures in
    let basis : Basis = record { shapes = shapes; owned = owned; vars = kept.kernel.vars; slicing = false } in
    named_told c.numbering.ensures.inside_test c.closure_members.ensures.inside c.paths_tell.ensures.coordinate laws.applied laws.applied_un laws.mulq shapes kept.kernel owned false kept.kernel.body c.in_ok-code.code.body
    (tells_same basis c.as_slice-2.result.now kept.kernel.body c.in_ok-code.code.body c.as_slice-2.ensures c.in_ok-code.ensures.tells
    (body_fit shapes kept owned c.dirty_is_closed.ensures c.faults_are_first.ensures c.requires.admitted c.requires.typed c.requires.numbered c.as_slice.result.now c.as_slice.ensures c.in_ok-owned.ensures))

pub returns-clause-slice_named : goal.returns-clause-slice_named
returns-clause-slice_named c =
    let kept = c.args.kernel.now in
    let shapes = c.args.layouts.now.list in
    let owned = c.in_ok-owned.owned in
    let laws = c.operators_give_words.ensures in
    let basis : Basis = record { shapes = shapes; owned = owned; vars = kept.kernel.vars; slicing = true } in
    named_told c.numbering.ensures.inside_test c.closure_members.ensures.inside c.paths_tell.ensures.coordinate laws.applied laws.applied_un laws.mulq shapes kept.kernel owned true kept.slice c.in_ok-slice.slice.body
    (tells_same basis c.as_slice-3.result.now kept.slice c.in_ok-slice.slice.body c.as_slice-3.ensures c.in_ok-slice.ensures.tells
    (slice_fit shapes kept owned c.dirty_is_closed.ensures c.faults_are_first.ensures c.requires.admitted c.requires.typed c.requires.numbered c.as_slice.result.now c.as_slice.ensures c.in_ok-owned.ensures))

pub returns-clause-apt : goal.returns-clause-apt
returns-clause-apt c =
    let kept = c.args.kernel.now in
    let shapes = c.args.layouts.now.list in
    let owned = c.in_ok-owned.owned in
    let basis : Basis = record { shapes = shapes; owned = owned; vars = kept.kernel.vars; slicing = false } in
    let fit = body_fit shapes kept owned c.dirty_is_closed.ensures c.faults_are_first.ensures c.requires.admitted c.requires.typed c.requires.numbered c.as_slice.result.now c.as_slice.ensures c.in_ok-owned.ensures in
    code_apt (c.words_are_numbers.ensures.word ty.I32) c.closure_members.ensures.inside c.box_has_its_size.ensures c.faults_are_first.ensures shapes kept c.requires.admitted c.requires.typed c.requires.few
    c.domain_bounds.ensures.walked c.domain_bounds.ensures.boxed owned c.as_slice.result.now c.as_slice.ensures c.in_ok-owned.ensures c.in_ok-slice.slice c.in_ok-code.code fit
    (returns-clause-writes c) (returns-clause-wants c) (returns-clause-slice_named c) (returns-clause-code_named c)
    (uses_same basis c.as_slice-2.result.now kept.kernel.body [] c.in_ok-code.code.body c.as_slice-2.ensures c.in_ok-code.ensures.uses)
    (subst (λ (stmts : List TypedStmt). AsksBlock stmts [] c.in_ok-code.code.body) c.as_slice-2.ensures c.in_ok-code.ensures.asks)

pub returns-clause-well_typed : goal.returns-clause-well_typed
returns-clause-well_typed c =
    let kept = c.args.kernel.now in
    let shapes = c.args.layouts.now.list in
    let owned = c.in_ok-owned.owned in (
      body_code shapes kept c.requires.admitted c.requires.typed c.requires.numbered c.requires.few c.as_slice-2.result.now c.as_slice-2.ensures c.in_ok-code.code (c.in_ok-code.ensures.vars ∙ c.as_slice-types.ensures) c.in_ok-code.ensures.typed c.in_ok-code.ensures.sets,
      slice_code shapes kept c.requires.admitted c.requires.typed c.requires.numbered c.requires.few c.dirty_is_closed.ensures c.faults_are_first.ensures owned
          (owned_is shapes kept owned c.dirty_is_closed.ensures c.faults_are_first.ensures c.requires.admitted c.requires.typed c.requires.numbered c.as_slice.result.now c.as_slice.ensures c.in_ok-owned.ensures)
          c.as_slice-3.result.now c.as_slice-3.ensures c.in_ok-slice.slice (c.in_ok-slice.ensures.vars ∙ c.as_slice-types.ensures) c.in_ok-slice.ensures.typed c.in_ok-slice.ensures.sets,
    )

pub returns-clause-points : goal.returns-clause-points
returns-clause-points c =
    point (c.words_are_numbers.ensures.word ty.I32) c.closure_members.ensures.inside c.box_has_its_size.ensures c.faults_are_first.ensures c.args.layouts.now.list c.args.kernel.now c.requires.admitted c.requires.typed c.requires.few
    c.domain_bounds.ensures.walked c.domain_bounds.ensures.boxed
