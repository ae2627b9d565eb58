use Rattle.std.proofs.Common.{◌≡◌, ◌<◌, ◌≤◌, List, ◌++◌, [], ◌∷◌, map, length, take, get_or, sym, ap, ◌∙◌, subst, arith}
use Rattle.std.proofs.lemmas.List.{length-map, map-append, get_or-map, take_more}
use Rattle.atomic_table.specs.Seated.{TableId}
use Rattle.sg_words.specs.declared.race.Worker.{Worker}
use Rattle.sg_words.specs.RaceMachine.{nobody, after_split, other_half}
use Rattle.sg_accum.specs.declared.part.Part.{Part}
use Rattle.sg_accum.specs.declared.part.PartSeat.{PartSeat}
use Rattle.sg_accum.specs.Parts.{part_tables, seat_tables, seat_workers, worker_at}
use Rattle.sg_accum.proofs.Ledgers.{same_many, own-at, own-stays}
use Rattle.sg_accum.proofs.Rounds.{many-workers, reads-up, writes-up}
use Rattle.sg_accum.proofs.teams.split_each.Goals as goal

pub split-requires-clause-own : goal.split-requires-clause-own
split-requires-clause-own c =
    ap (λ (s : PartSeat). s.seat.table_id) c.index_mut.ensures.value
    ∙ own-at c.args.parts.now c.loop-place.seats.items c.loop-place.place c.loop-place.invariant.own c.loop-place-test.true c.index-parts-place.result c.index_mut.result.now
    ∙ ap (λ (p : Part). p.table.shared.table_id) (sym c.index-parts-place.is)

pub split-requires-clause-share : goal.split-requires-clause-share
split-requires-clause-share c =
    let k = c.loop-place.place in
    let old = seat_workers c.args.seats.now.items in
    let now = map after_split old in
    let first = same_many c.args.parts.now c.args.seats.now.items c.requires.own in
    let many = many-workers c.args.seats.now.items in
    let below : k < length old = omega (arith, first, many, c.loop-place-test.true) in
    let within : k < length c.loop-place.seats.items = omega (arith, same_many c.args.parts.now c.loop-place.seats.items c.loop-place.invariant.own, c.loop-place-test.true) in
    let is = reads-up c.loop-place.seats.items old now k c.index_mut.result.now c.loop-place.invariant.left (length-map old after_split) below within c.index_mut.ensures.value in
    subst (λ (v : Worker). 2 ≤ v.share) (sym is) (c.requires.share k nobody below)

pub loop-place-preserved : goal.loop-place-preserved
loop-place-preserved c =
    let k = c.loop-place.place in
    let parts = c.args.parts.now in
    let old = seat_workers c.args.seats.now.items in
    let left = map after_split old in
    let right = map other_half old in
    let first = same_many parts c.args.seats.now.items c.requires.own in
    let many = many-workers c.args.seats.now.items in
    let below : k < length old = omega (arith, first, many, c.loop-place-test.true) in
    let within : k < length c.loop-place.seats.items = omega (arith, same_many parts c.loop-place.seats.items c.loop-place.invariant.own, c.loop-place-test.true) in
    let is : c.index_mut.result.now.seat.me.0 ≡ worker_at old k =
    reads-up c.loop-place.seats.items old left k c.index_mut.result.now c.loop-place.invariant.left (length-map old after_split) below within c.index_mut.ensures.value in
    let me : PartSeat → Worker = λ s. s.seat.me.0 in
    let seat-table : PartSeat → TableId = λ s. s.seat.table_id in
    let part-table : Part → TableId = λ p. p.table.shared.table_id in
    let id = c.split.result.seat.table_id in
    let id-is : id ≡ get_or (part_tables parts) k id =
    c.split.ensures.other ∙ ap part-table c.index-parts-place.is ∙ sym (get_or-map part-table parts k c.index-parts-place.result id c.loop-place-test.true) in
    let inside' : k < length (part_tables parts) = omega (arith, length-map parts part-table, c.loop-place-test.true) in
    let pushed = c.push_reserved.ensures.items in
    let right-is : c.split.result.seat.me.0 ≡ worker_at right k = c.split.ensures.right ∙ ap other_half is ∙ sym (get_or-map other_half old k nobody nobody below) in
    let left-is : c.split.new.seat.seat.me.0 ≡ worker_at left k = c.split.ensures.left ∙ ap after_split is ∙ sym (get_or-map after_split old k nobody nobody below) in
    let inside : k < length right = omega (arith, length-map old other_half, below) in
    record {
      own = own-stays parts c.loop-place.seats.items k c.index_mut.result.now c.split.new.seat c.index_mut.ensures.value c.split.ensures.own c.loop-place.invariant.own;
      left = writes-up c.loop-place.seats.items old left k c.split.new.seat c.loop-place.invariant.left (length-map old after_split) below left-is;
      other = ap seat_tables pushed ∙ map-append seat-table c.loop-place.others.items (c.split.result ∷ []) ∙ ap (λ (l : List TableId). l ++ id ∷ []) c.loop-place.invariant.other
          ∙ ap (λ (t : TableId). take k (part_tables parts) ++ t ∷ []) id-is ∙ sym (take_more (part_tables parts) k id inside');
      right = ap seat_workers pushed ∙ map-append me c.loop-place.others.items (c.split.result ∷ []) ∙ ap (λ (l : List Worker). l ++ c.split.result.seat.me.0 ∷ []) c.loop-place.invariant.right
          ∙ ap (λ (v : Worker). take k right ++ v ∷ []) right-is ∙ sym (take_more right k nobody inside);
      many = omega (arith, c.push_reserved.ensures.len, c.loop-place.invariant.many);
      room = omega (arith, c.push_reserved.ensures.capacity, c.loop-place.invariant.room);
    }
