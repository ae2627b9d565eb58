use Rattle.std.proofs.Common.{◌<◌, length, refl, arith}
use Rattle.sg_snapshot.specs.Restoring.{first_too_full}
use Rattle.sg_snapshot.proofs.Fillings.{words_at, room_here, refused_here, stand_more, stand_none, stand_all}
use Rattle.sg_snapshot.proofs.Openings.{tested_closed, part_here, closed_here, as_many}
use Rattle.sg_snapshot.proofs.restoring.filled.Goals as goal

pub bounds-layouts-number : goal.bounds-layouts-number
bounds-layouts-number c = omega (arith, c.loop-number-test.true, as_many c.args.layouts.now c.args.parts.now c.requires.are)

pub loop-number-init : goal.loop-number-init
loop-number-init c = record { full = refl; stand = stand_none c.args.layouts.now c.args.parts.now c.new-list.result c.new-list.ensures }

pub store_of-requires : goal.store_of-requires
store_of-requires c =
    let layouts = c.args.layouts.now in
    let parts = c.args.parts.now in
    let number = c.loop-number.number in
    let shape = c.index-layouts-number.result in
    let part = c.index-parts-number.result in
    let below : number < length layouts = omega (arith, c.loop-number-test.true, as_many layouts parts c.requires.are) in
    record {
      few_words = words_at layouts number _ shape below c.index-layouts-number.is c.requires.few_words;
      is = part_here layouts parts number shape part c.requires.are c.loop-number-test.true c.index-layouts-number.is c.index-parts-number.is;
      closed = tested_closed c.numbering.ensures.point_of_row shape part (c.closure_members.ensures.inside shape)
          (closed_here layouts parts number shape part c.requires.are c.requires.closed c.loop-number-test.true c.index-layouts-number.is c.index-parts-number.is);
    }

pub loop-number-preserved : goal.loop-number-preserved
loop-number-preserved c =
    let layouts = c.args.layouts.now in
    let parts = c.args.parts.now in
    let number = c.loop-number.number in
    let shape = c.index-layouts-number.result in
    let part = c.index-parts-number.result in
    let below : number < length layouts = omega (arith, c.loop-number-test.true, as_many layouts parts c.requires.are) in
    record {
      full = room_here layouts parts number shape part (first_too_full 0 layouts parts) below c.loop-number-test.true c.index-layouts-number.is c.index-parts-number.is c.in-Ok.ensures.2 c.loop-number.invariant.full;
      stand = stand_more layouts parts number shape part c.loop-number.list c.push.new.self c.in-Ok.store below c.loop-number-test.true c.index-layouts-number.is c.index-parts-number.is
          c.in_ok-push-in-Ok.ensures.ok c.in-Ok.ensures.0 c.in-Ok.ensures.1 c.loop-number.invariant.stand;
    }

pub returns-in-Err : goal.returns-in-Err
returns-in-Err c =
    let layouts = c.args.layouts.now in
    let parts = c.args.parts.now in
    let number = c.loop-number.number in
    let below : number < length layouts = omega (arith, c.loop-number-test.true, as_many layouts parts c.requires.are) in
    refused_here layouts parts number c.index-layouts-number.result c.index-parts-number.result c.in-Err.stop below c.loop-number-test.true c.index-layouts-number.is c.index-parts-number.is
    c.loop-number.invariant.full c.in-Err.ensures

pub returns : goal.returns
returns c =
    let layouts = c.args.layouts.now in
    let parts = c.args.parts.now in
    stand_all layouts parts c.loop-number.number c.loop-number.list _ (omega (arith, c.loop-number-test.false, as_many layouts parts c.requires.are)) c.loop-number-test.false refl c.loop-number.invariant.full c.loop-number.invariant.stand
