use Rattle.std.proofs.Common.{◌≡◌, ℕ, ◌+◌, ◌-◌, ◌<◌, length, refl, ap, ◌∙◌, subst, arith}
use Rattle.sg_store.specs.StandsFor.{StandsFor}
use Rattle.sg_snapshot.specs.Restoring.{points_in}
use Rattle.sg_snapshot.specs.steps.Laying.{laid, IsLaid, beside_from}
use Rattle.sg_snapshot.proofs.Steps.{rows_inside, words_within, words_many, words_begin, words_step, words_end}
use Rattle.sg_snapshot.proofs.filling.set_words.Goals as goal

pub loop-done-init : goal.loop-done-init
loop-done-init c = record {
  same_shape = refl;
  stands = λ start. words_begin c.args.store.now.shape c.args.part.now (length c.args.part.now.rows - 0) c.args.store.now c.requires.closed (omega arith) start;
}

pub loop-done-preserved : goal.loop-done-preserved
loop-done-preserved c =
    let shape = c.args.store.now.shape in
    let part = c.args.part.now in
    let rows = c.as_slice-rows.result.now in
    let done = c.loop-done.done in
    let many : length rows ≡ length part.rows = ap length c.as_slice-rows.ensures in
    let index = length rows - 1 - done in
    let below : index < length part.rows = omega (arith, c.loop-done-test.true, many) in
    let before : length part.rows - done ≡ index + 1 = omega (arith, c.loop-done-test.true, many) in
    let now : index ≡ length part.rows - (done + 1) = omega (arith, c.loop-done-test.true, many) in
    let points = points_in shape part in
    record {
      same_shape = c.set_row.ensures.same_shape ∙ c.loop-done.invariant.same_shape;
      stands = λ start.
          subst (λ (n : ℕ). IsLaid shape points (beside_from part n) × StandsFor c.set_row.new.store (laid shape points (beside_from part n))) now
          (words_step shape part c.loop-done.store c.set_row.new.store rows c.as_slice.result.now index c.requires.is c.as_slice-rows.ensures c.as_slice.ensures c.loop-done.invariant.same_shape below c.set_row.ensures.gives
          (subst (λ (n : ℕ). IsLaid shape points (beside_from part n) × StandsFor c.loop-done.store (laid shape points (beside_from part n))) before (c.loop-done.invariant.stands start)));
    }

pub set_row-requires : goal.set_row-requires
set_row-requires c =
    let shape = c.args.store.now.shape in
    let part = c.args.part.now in
    let rows = c.as_slice-rows.result.now in
    let index = length rows - 1 - c.loop-done.done in
    let below : index < length rows = omega (arith, c.loop-done-test.true) in
    record {
      inside = rows_inside shape c.loop-done.store.shape part rows c.requires.is c.as_slice-rows.ensures c.loop-done.invariant.same_shape index 0 below;
      many = words_many shape c.loop-done.store.shape part c.as_slice.result.now c.requires.is c.as_slice.ensures c.loop-done.invariant.same_shape;
      within = words_within shape part rows c.as_slice.result.now index c.requires.is c.as_slice-rows.ensures c.as_slice.ensures below;
    }

pub returns : goal.returns
returns c =
    let part = c.args.part.now in
    let many : length c.as_slice-rows.result.now ≡ length part.rows = ap length c.as_slice-rows.ensures in
    record {
      same_shape = c.loop-done.invariant.same_shape;
      stands = λ start. words_end c.args.store.now.shape part (length part.rows - c.loop-done.done) c.loop-done.store c.requires.is (omega (arith, many, c.loop-done-test.false)) (c.loop-done.invariant.stands start);
    }
