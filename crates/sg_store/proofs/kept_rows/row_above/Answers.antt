use Rattle.std.proofs.Common.{◌≡◌, ℕ, ◌&&◌, not, nat_lt, Bool, subst}
use Rattle.std.specs.Prelude.{slice_index, ◌==◌, IfOk}
use Rattle.sg_store.specs.declared.node_plan.StayingWords.{StayingWords}
use Rattle.sg_store.specs.steps.Trimming.{place_kept}
use Rattle.sg_store.specs.steps.KeptWords.{in_row}
use Rattle.sg_store.specs.steps.Planning.{AreStaying}
use Rattle.sg_store.proofs.RowTests.{same_test}
use Rattle.sg_store.proofs.NodesTrimmed.{lengths_above}
use Rattle.sg_store.proofs.kept_rows.row_above.Goals as goal

pub returns-in-Lengths-clause-above : goal.returns-in-Lengths-clause-above
returns-in-Lengths-clause-above c =
    let plan = subst (λ (s : StayingWords). AreStaying s c.args.node.now.kind c.args.node.now c.args.kept.now c.args.plan.now.row) c.in-Lengths.is c.requires.plan in
    let test : ℕ → Bool = λ place. nat_lt place c.args.places && not (slice_index c.in-Lengths.lengths place == 0) in
    let same : test ≡ place_kept (in_row c.args.plan.now.row) c.args.node.now c.args.kept.now = same_test test (place_kept (in_row c.args.plan.now.row) c.args.node.now c.args.kept.now) (λ place.
    lengths_above c.args.plan.now.row c.args.node.now c.args.kept.now c.in-Lengths.lengths c.args.places c.args.size plan.0 c.requires.node plan.1 c.requires.sized c.requires.within place) in
    subst (λ (t : ℕ → Bool). IfOk c.row_of_lengths.result (λ above. (place : ℕ) → in_row above place ≡ t place)) same c.row_of_lengths.ensures.each
