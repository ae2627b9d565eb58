use Rattle.std.proofs.Common.{◌+◌, take, sym, ap, ◌∙◌, subst, arith}
use Rattle.std.specs.Prelude.{slice_index, slice_set}
use Rattle.sg_store.specs.steps.Filling.{IsFill}
use Rattle.sg_store.proofs.Filled.{filled_more, filled_same, number_there}
use Rattle.sg_store.proofs.pointer.fill.Goals as goal
use Rattle.sg_store.proofs.pointer.fill.Goals.{then-word-eq0+else-taken-room, else-word-eq0}

pub returns-then-taken-room : goal.returns-then-taken-room
returns-then-taken-room c =
    let more = filled_more c.args.links.now c.loop-slot.links c.set.new.self c.args.stock.now c.args.slots.now c.loop-slot.taken c.loop-slot.slot-index _ _
    c.requires.fresh (number_there c.args.stock.now c.args.slots.now c.args.room c.loop-slot.taken c.loop-slot.slot-index c.requires.enough c.loop-slot-test.true c.loop-slot.invariant.low c.loop-slot.invariant.few) c.requires.within c.loop-slot-test.true (sym c.get-word.ensures ∙ c.if-word-eq0.true) (c.set.ensures ∙ ap (λ n. slice_set c.loop-slot.links (slice_index c.args.slots.now c.loop-slot.slot-index) (n + 1)) c.from.ensures) c.loop-slot.invariant.fill in
    record {
      through = c.loop-slot.slot-index + 1;
      within = omega (arith, c.loop-slot-test.true);
      fill = more;
      enough = omega (arith, (number_there c.args.stock.now c.args.slots.now c.args.room c.loop-slot.taken c.loop-slot.slot-index c.requires.enough c.loop-slot-test.true c.loop-slot.invariant.low c.loop-slot.invariant.few));
      most = omega (arith, c.loop-slot.invariant.few);
      all = λ few. absurd (omega (arith, c.if-taken-room.true));
    }

pub loop-slot-preserved : goal.loop-slot-preserved
loop-slot-preserved c = elim c.if-word-eq0.branch [
  | then-word-eq0+else-taken-room w ↦
      let more = filled_more c.args.links.now c.loop-slot.links c.if-word-eq0.links c.args.stock.now c.args.slots.now c.loop-slot.taken c.loop-slot.slot-index _ _
      c.requires.fresh (number_there c.args.stock.now c.args.slots.now c.args.room c.loop-slot.taken c.loop-slot.slot-index c.requires.enough c.loop-slot-test.true c.loop-slot.invariant.low c.loop-slot.invariant.few) c.requires.within c.loop-slot-test.true (sym c.get-word.ensures ∙ w.if-word-eq0.true) (w.links-is ∙ w.set.ensures ∙ ap (λ n. slice_set c.loop-slot.links (slice_index c.args.slots.now c.loop-slot.slot-index) (n + 1)) w.from.ensures) c.loop-slot.invariant.fill in
      record {
        fill = subst (λ n. IsFill c.args.links.now c.if-word-eq0.links (take n c.args.stock.now) (take (c.loop-slot.slot-index + 1) c.args.slots.now)) (sym w.taken-is) more;
        few = omega (arith, w.taken-is, w.if-taken-room.false);
        low = omega (arith, w.taken-is, c.loop-slot.invariant.low);
        enough = omega (arith, w.taken-is, (number_there c.args.stock.now c.args.slots.now c.args.room c.loop-slot.taken c.loop-slot.slot-index c.requires.enough c.loop-slot-test.true c.loop-slot.invariant.low c.loop-slot.invariant.few));
      }
  | else-word-eq0 w ↦
      record {
        fill = subst (λ n. IsFill c.args.links.now c.if-word-eq0.links (take n c.args.stock.now) (take (c.loop-slot.slot-index + 1) c.args.slots.now)) (sym w.taken-is)
            (filled_same c.args.links.now c.loop-slot.links c.if-word-eq0.links (take c.loop-slot.taken c.args.stock.now) c.args.slots.now c.loop-slot.slot-index _
            c.loop-slot-test.true (λ none. w.if-word-eq0.false (c.get-word.ensures ∙ none)) w.links-is c.loop-slot.invariant.fill);
        few = omega (arith, w.taken-is, c.loop-slot.invariant.few);
        low = omega (arith, w.taken-is, c.loop-slot.invariant.low);
        enough = omega (arith, w.taken-is, c.loop-slot.invariant.enough);
      }
]

pub bounds-stock-taken : goal.bounds-stock-taken
bounds-stock-taken c =
    number_there c.args.stock.now c.args.slots.now c.args.room c.loop-slot.taken c.loop-slot.slot-index c.requires.enough c.loop-slot-test.true c.loop-slot.invariant.low c.loop-slot.invariant.few
