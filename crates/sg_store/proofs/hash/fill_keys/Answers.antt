use Rattle.std.proofs.Common.{◌+◌, ℕ, true, false, take, sym, subst, arith}
use Rattle.std.specs.Prelude.{slice_index}
use Rattle.sg_store.specs.Slots.{links_by_slot}
use Rattle.sg_store.specs.steps.Filling.{IsFill}
use Rattle.sg_store.specs.steps.Keying.{AddsKey}
use Rattle.sg_store.proofs.Filled.{number_there}
use Rattle.sg_store.proofs.Keyed.{can_add, keyed_on, turn_more, turn_same}
use Rattle.sg_store.proofs.hash.fill_keys.Goals as goal
use Rattle.sg_store.proofs.hash.fill_keys.Goals.{then-add_key+else-taken-room, else-add_key}

pub add_key-requires : goal.add_key-requires
add_key-requires g c =
    can_add c.args.keys.now c.args.links.now c.loop-slot.keys c.loop-slot.links c.args.stock.now c.args.slots.now c.args.room c.loop-slot.taken g.count c.loop-slot.slot-index 0
    c.requires c.loop-slot.invariant.keyed c.loop-slot.invariant.fill c.loop-slot.invariant.few c.loop-slot.invariant.low c.loop-slot-test.true

pub returns-then-taken-room : goal.returns-then-taken-room
returns-then-taken-room g c =
    let slot : ℕ = slice_index c.args.slots.now c.loop-slot.slot-index in
    let number : ℕ = slice_index c.args.stock.now c.loop-slot.taken in
    let adds : AddsKey c.loop-slot.keys c.loop-slot.links c.add_key.new.keys c.add_key.new.links slot number true g.count =
    subst (λ b. AddsKey c.loop-slot.keys c.loop-slot.links c.add_key.new.keys c.add_key.new.links slot number b g.count) c.if-add_key.true c.add_key.ensures in
    record {
      keyed = keyed_on c.args.keys.now c.args.links.now c.loop-slot.keys c.loop-slot.links c.add_key.new.keys c.add_key.new.links slot number g.count true c.loop-slot.invariant.keyed adds;
      filled = record {
        through = c.loop-slot.slot-index + 1;
        within = omega (arith, c.loop-slot-test.true);
        fill = turn_more c.args.keys.now c.args.links.now c.loop-slot.keys c.loop-slot.links c.add_key.new.keys c.add_key.new.links c.args.stock.now c.args.slots.now c.args.room c.loop-slot.taken g.count c.loop-slot.slot-index 0 0
            c.requires c.loop-slot.invariant.fill c.loop-slot.invariant.few c.loop-slot.invariant.low c.loop-slot-test.true adds;
        enough = omega (arith, (number_there c.args.stock.now c.args.slots.now c.args.room c.loop-slot.taken c.loop-slot.slot-index c.requires.enough c.loop-slot-test.true c.loop-slot.invariant.low c.loop-slot.invariant.few));
        most = omega (arith, c.loop-slot.invariant.few);
        all = λ few. absurd (omega (arith, few, c.if-taken-room.true));
      };
    }

pub loop-slot-preserved : goal.loop-slot-preserved
loop-slot-preserved g c = elim c.if-add_key.branch [
  | then-add_key+else-taken-room w ↦
      let slot : ℕ = slice_index c.args.slots.now c.loop-slot.slot-index in
      let number : ℕ = slice_index c.args.stock.now c.loop-slot.taken in
      let adds : AddsKey c.loop-slot.keys c.loop-slot.links c.add_key.new.keys c.add_key.new.links slot number true g.count =
      subst (λ b. AddsKey c.loop-slot.keys c.loop-slot.links c.add_key.new.keys c.add_key.new.links slot number b g.count) w.if-add_key.true c.add_key.ensures in
      record {
        keyed = keyed_on c.args.keys.now c.args.links.now c.loop-slot.keys c.loop-slot.links c.add_key.new.keys c.add_key.new.links slot number g.count true c.loop-slot.invariant.keyed adds;
        fill = subst (λ n. IsFill (links_by_slot c.args.keys.now c.args.links.now g.count) (links_by_slot c.add_key.new.keys c.add_key.new.links g.count) (take n c.args.stock.now) (take (c.loop-slot.slot-index + 1) c.args.slots.now)) (sym w.taken-is)
            (turn_more c.args.keys.now c.args.links.now c.loop-slot.keys c.loop-slot.links c.add_key.new.keys c.add_key.new.links c.args.stock.now c.args.slots.now c.args.room c.loop-slot.taken g.count c.loop-slot.slot-index 0 0
            c.requires c.loop-slot.invariant.fill c.loop-slot.invariant.few c.loop-slot.invariant.low c.loop-slot-test.true adds);
        few = omega (arith, w.taken-is, w.if-taken-room.false);
        low = omega (arith, w.taken-is, c.loop-slot.invariant.low);
        enough = omega (arith, w.taken-is, (number_there c.args.stock.now c.args.slots.now c.args.room c.loop-slot.taken c.loop-slot.slot-index c.requires.enough c.loop-slot-test.true c.loop-slot.invariant.low c.loop-slot.invariant.few));
      }
  | else-add_key w ↦
      let slot : ℕ = slice_index c.args.slots.now c.loop-slot.slot-index in
      let number : ℕ = slice_index c.args.stock.now c.loop-slot.taken in
      let adds : AddsKey c.loop-slot.keys c.loop-slot.links c.add_key.new.keys c.add_key.new.links slot number false g.count =
      subst (λ b. AddsKey c.loop-slot.keys c.loop-slot.links c.add_key.new.keys c.add_key.new.links slot number b g.count) w.if-add_key.false c.add_key.ensures in
      record {
        keyed = keyed_on c.args.keys.now c.args.links.now c.loop-slot.keys c.loop-slot.links c.add_key.new.keys c.add_key.new.links slot number g.count false c.loop-slot.invariant.keyed adds;
        fill = subst (λ n. IsFill (links_by_slot c.args.keys.now c.args.links.now g.count) (links_by_slot c.add_key.new.keys c.add_key.new.links g.count) (take n c.args.stock.now) (take (c.loop-slot.slot-index + 1) c.args.slots.now)) (sym w.taken-is)
            (turn_same c.args.keys.now c.args.links.now c.loop-slot.keys c.loop-slot.links c.add_key.new.keys c.add_key.new.links c.args.stock.now c.args.slots.now c.loop-slot.taken g.count c.loop-slot.slot-index 0 number
            c.loop-slot.invariant.fill c.loop-slot-test.true adds);
        few = omega (arith, w.taken-is, c.loop-slot.invariant.few);
        low = omega (arith, w.taken-is, c.loop-slot.invariant.low);
        enough = omega (arith, w.taken-is, c.loop-slot.invariant.enough);
      }
]

pub bounds-stock-taken : goal.bounds-stock-taken
bounds-stock-taken g c =
    number_there c.args.stock.now c.args.slots.now c.args.room c.loop-slot.taken c.loop-slot.slot-index c.requires.enough c.loop-slot-test.true c.loop-slot.invariant.low c.loop-slot.invariant.few
