use Rattle.std.specs.Prelude.{length}
use Rattle.sg_snapshot.specs.Parts.{frames_of, parts_read}
use Rattle.sg_snapshot.proofs.Fronts.{not_begun, parts_more, parts_none, parts_behind, parts_end, is_some, is_none}
use Rattle.sg_snapshot.proofs.reading.parts_read.Goals as goal

pub loop-layout-init : goal.loop-layout-init
loop-layout-init c = not_begun c.new-read.result (parts_read (frames_of c.args.layouts.now) c.args.numbers.now) c.new-read.ensures

pub loop-layout-preserved : goal.loop-layout-preserved
loop-layout-preserved c =
    let layouts = c.args.layouts.now in
    parts_more layouts c.loop-layout.layout-index c.in-Some.front.used c.layout-item.result c.loop-layout.read c.push.new.self c.in-Some.front.part c.loop-layout.rest.now c.split_at.result.1.now
    (parts_read (frames_of layouts) c.args.numbers.now) c.loop-layout-test.true c.layout-item.is (rw c.in-Some.is at c.in_ok-part_front.ensures.front) c.in_ok-push-in-Some.ensures.ok c.split_at.ensures.back c.loop-layout.invariant

pub returns-in-None : goal.returns-in-None
returns-in-None c =
    let layouts = c.args.layouts.now in
    parts_none layouts c.loop-layout.layout-index c.layout-item.result c.loop-layout.read c.loop-layout.rest.now (parts_read (frames_of layouts) c.args.numbers.now)
    c.loop-layout-test.true c.layout-item.is (rw c.in-None.is at c.in_ok-part_front.ensures.front) c.loop-layout.invariant

pub returns-then-not-is_empty : goal.returns-then-not-is_empty
returns-then-not-is_empty c =
    let layouts = c.args.layouts.now in
    let rest = c.loop-layout.rest.now in
    parts_behind layouts c.loop-layout.layout-index c.loop-layout.read rest (parts_read (frames_of layouts) c.args.numbers.now) c.loop-layout-test.false (is_some (length rest) c.if-not-is_empty.ensures) c.loop-layout.invariant

pub returns : goal.returns
returns c =
    let layouts = c.args.layouts.now in
    let rest = c.loop-layout.rest.now in
    parts_end layouts c.loop-layout.layout-index c.loop-layout.read rest (parts_read (frames_of layouts) c.args.numbers.now) c.loop-layout-test.false (is_none (length rest) c.if-not-is_empty.ensures) c.loop-layout.invariant
