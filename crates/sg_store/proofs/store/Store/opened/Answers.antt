use Rattle.std.proofs.Common.{◌≡◌, suc, ◌+◌, ◌++◌, length, refl, sym, ap, subst, arith}
use Rattle.std.specs.Prelude.{Result, Ok, Err, IsErrAnd}
use Rattle.sg_words.specs.declared.memory.Stop.{Stop}
use Rattle.sg_words.specs.declared.memory.Stop.TheVariants as stop
use Rattle.sg_words.specs.Answers.{Answers, AnswersAs}
use Rattle.sg_layout.specs.Need.{first_full}
use Rattle.sg_store.specs.declared.reach.Full.{Full}
use Rattle.sg_store.specs.StoreWords.{StoreWords}
use Rattle.sg_store.specs.WellFormed.{IsWellFormed}
use Rattle.sg_store.specs.Reaching.{unless_full}
use Rattle.sg_store.proofs.Reached.{ReachLaws, reaching_more, refused_answer, reached_fits, stands_after}
use Rattle.sg_store.proofs.store.Store.opened.Goals as goal

-- a refusal, whatever would have been answered else
refused_as : (r : Result StoreWords (Stop Full)) (e : Stop Full) (meaning : Result Unit Full) → IsErrAnd r (λ x. x ≡ e) → Answers {A = Unit} (Err e) meaning → AnswersAs (λ next. tt) r meaning
refused_as (Ok next) e meaning from answer = absurd from
refused_as (Err x) e meaning from answer = subst (λ (y : Stop Full). AnswersAs {A = StoreWords} (λ next. tt) (Err y) meaning) (sym from) (go e answer)
  where
    go : (y : Stop Full) → Answers {A = Unit} (Err y) meaning → AnswersAs {A = StoreWords} (λ next. tt) (Err y) meaning
    go stop.Memory h = tt
    go (stop.Refused full) h = h

pub returns-in_err-open_node-clause-answer : goal.returns-in_err-open_node-clause-answer
returns-in_err-open_node-clause-answer c = λ flat stands.
    let laws : ReachLaws c.args.self.shape = record {
      paths = c.paths_tell.ensures.is_slot c.args.self.shape;
      reached = c.need_counts_live.ensures.live c.args.self.shape;
      once = c.need_counts_live.ensures.once c.args.self.shape;
      parents = c.need_counts_live.ensures.parents c.args.self.shape;
      up_to = c.need_counts_live.ensures.greatest c.args.self.shape;
      absorbs = c.live_absorbs.ensures.absorbs c.args.self.shape;
      inside = λ written at has. (c.closure_members.ensures.inside c.args.self.shape written at has);
      grows = c.closure_closes.ensures.grows c.args.self.shape;
      closed = c.closure_closes.ensures.closed c.args.self.shape;
      cells = record {
        inside = c.numbering.ensures.inside_test;
        tested = c.closure_members.ensures.tested c.args.self.shape;
        is_slot = c.paths_tell.ensures.is_slot c.args.self.shape;
        whole = c.paths_tell.ensures.whole c.args.self.shape;
        tells = c.paths_tell.ensures.tells c.args.self.shape;
        last = c.last_sparse_decides.ensures.last c.args.self.shape;
      };
      point_of_row = c.numbering.ensures.point_of_row;
    } in
    refused_as c.from_residual.result c.in_err-open_node.field-0.0 (unless_full (first_full c.args.self.shape (flat.active ++ c.args.wanted.now))) c.from_residual.ensures.1
    (refused_answer c.args.self c.loop-index.next c.args.wanted.now c.loop-index.index laws c.loop-index.invariant (Err c.in_err-open_node.field-0.0) c.in_err-open_node.field-0.0 refl c.in_err-open_node.ensures.full flat stands)

pub loop-index-preserved : goal.loop-index-preserved
loop-index-preserved c =
    let one : c.loop-index.index + 1 ≡ suc c.loop-index.index = omega arith in
    reaching_more c.args.self c.loop-index.next c.open_node.new.self c.args.wanted.now c.loop-index.index (c.loop-index.index + 1) one c.loop-index.invariant c.layout.ensures.well_formed c.in_ok-open_node.ensures.keeps c.in_ok-open_node.ensures.opened

pub returns-clause-answer : goal.returns-clause-answer
returns-clause-answer c = λ flat stands.
    let laws : ReachLaws c.args.self.shape = record {
      paths = c.paths_tell.ensures.is_slot c.args.self.shape;
      reached = c.need_counts_live.ensures.live c.args.self.shape;
      once = c.need_counts_live.ensures.once c.args.self.shape;
      parents = c.need_counts_live.ensures.parents c.args.self.shape;
      up_to = c.need_counts_live.ensures.greatest c.args.self.shape;
      absorbs = c.live_absorbs.ensures.absorbs c.args.self.shape;
      inside = λ written at has. (c.closure_members.ensures.inside c.args.self.shape written at has);
      grows = c.closure_closes.ensures.grows c.args.self.shape;
      closed = c.closure_closes.ensures.closed c.args.self.shape;
      cells = record {
        inside = c.numbering.ensures.inside_test;
        tested = c.closure_members.ensures.tested c.args.self.shape;
        is_slot = c.paths_tell.ensures.is_slot c.args.self.shape;
        whole = c.paths_tell.ensures.whole c.args.self.shape;
        tells = c.paths_tell.ensures.tells c.args.self.shape;
        last = c.last_sparse_decides.ensures.last c.args.self.shape;
      };
      point_of_row = c.numbering.ensures.point_of_row;
    } in
    let whole : c.loop-index.index ≡ length c.args.self.shape.nodes =
    omega (arith, c.loop-index.auto.index-end, c.loop-index-test.false, c.nodes-nodes.ensures.value, ap (λ (s : StoreWords). length s.shape.nodes) c.self.view_is) in
    reached_fits c.args.self c.loop-index.next c.args.wanted.now c.loop-index.index laws c.loop-index.invariant whole flat stands

pub returns-clause-reached : goal.returns-clause-reached
returns-clause-reached c = λ flat stands.
    let laws : ReachLaws c.args.self.shape = record {
      paths = c.paths_tell.ensures.is_slot c.args.self.shape;
      reached = c.need_counts_live.ensures.live c.args.self.shape;
      once = c.need_counts_live.ensures.once c.args.self.shape;
      parents = c.need_counts_live.ensures.parents c.args.self.shape;
      up_to = c.need_counts_live.ensures.greatest c.args.self.shape;
      absorbs = c.live_absorbs.ensures.absorbs c.args.self.shape;
      inside = λ written at has. (c.closure_members.ensures.inside c.args.self.shape written at has);
      grows = c.closure_closes.ensures.grows c.args.self.shape;
      closed = c.closure_closes.ensures.closed c.args.self.shape;
      cells = record {
        inside = c.numbering.ensures.inside_test;
        tested = c.closure_members.ensures.tested c.args.self.shape;
        is_slot = c.paths_tell.ensures.is_slot c.args.self.shape;
        whole = c.paths_tell.ensures.whole c.args.self.shape;
        tells = c.paths_tell.ensures.tells c.args.self.shape;
        last = c.last_sparse_decides.ensures.last c.args.self.shape;
      };
      point_of_row = c.numbering.ensures.point_of_row;
    } in
    let whole : c.loop-index.index ≡ length c.args.self.shape.nodes =
    omega (arith, c.loop-index.auto.index-end, c.loop-index-test.false, c.nodes-nodes.ensures.value, ap (λ (s : StoreWords). length s.shape.nodes) c.self.view_is) in
    stands_after c.args.self c.loop-index.next c.args.wanted.now c.loop-index.index laws (subst IsWellFormed c.self.view_is c.self.invariant) c.loop-index.invariant whole c.requires flat stands
