use Rattle.std.proofs.Common.{◌≡◌, ℕ, ◌<◌, length, refl, ap, ◌∙◌, subst, arith}
use Rattle.sg_layout.specs.declared.shape.Shape.{Shape}
use Rattle.sg_store.specs.StoreWords.{StoreWords}
use Rattle.sg_snapshot.specs.steps.Laying.{GivesRow, words_at}
use Rattle.sg_snapshot.proofs.Laying.{point_laws}
use Rattle.sg_snapshot.proofs.Giving.{gives_none, gives_more, cell_stays, reached_stays}
use Rattle.sg_snapshot.proofs.filling.set_cell.Goals as goal

pub loop-place-init : goal.loop-place-init
loop-place-init c = record {
  same_shape = refl;
  cell = c.requires.cell;
  reached = c.requires.reached;
  gives = λ active word row inside point is has stands. gives_none c.args.store.now row (words_at c.args.words.now c.args.index) active word is stands;
}

pub loop-place-preserved : goal.loop-place-preserved
loop-place-preserved c =
    let now = c.loop-place.store in
    let after = c.set.new.self in
    let words = c.args.words.now in
    let index = c.args.index in
    let place = c.loop-place.place in
    let laws = c.numbering.ensures in
    let below : place < length c.args.store.now.shape.fields = omega (arith, c.loop-place-test.true, c.requires.many) in
    record {
      same_shape = ap (λ (s : StoreWords). s.shape) c.set.ensures.set ∙ c.loop-place.invariant.same_shape;
      cell = cell_stays now after _ c.args.at c.args.cell c.set.ensures.set c.loop-place.invariant.cell;
      reached = reached_stays now after _ c.args.cell c.set.ensures.set c.loop-place.invariant.reached;
      gives = λ active word row inside point is has stands.
          gives_more (point_laws laws.inside_test laws.point_inside laws.point_of_row laws.row_of_point laws.row_below) c.args.store.now now after place row (words_at words index) active word c.args.at c.word_at.result
          inside point is has below c.loop-place.invariant.same_shape c.word_at.ensures c.word_at.type_inv (λ flat later stand sets. c.set.ensures.stands flat later c.args.at stand c.loop-place.invariant.cell sets)
          (c.loop-place.invariant.gives active word row inside point is has stands);
    }

pub set-requires-clause-field : goal.set-requires-clause-field
set-requires-clause-field c = omega (arith, c.loop-place-test.true, c.requires.many, ap (λ (s : Shape). length s.fields) c.loop-place.invariant.same_shape)

pub set-requires-clause-cell : goal.set-requires-clause-cell
set-requires-clause-cell c = c.loop-place.invariant.reached

pub returns : goal.returns
returns c =
    let store = c.args.store.now in
    let last : c.loop-place.place ≡ length store.shape.fields = omega (arith, c.loop-place.auto.place-end, c.loop-place-test.false, c.requires.many) in
    record {
      same_shape = c.loop-place.invariant.same_shape;
      gives = λ active word row inside point is has stands.
          subst (λ (n : ℕ). GivesRow store c.loop-place.store n row (words_at c.args.words.now c.args.index) active word) last (c.loop-place.invariant.gives active word row inside point is has stands);
    }
