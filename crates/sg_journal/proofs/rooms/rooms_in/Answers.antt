use Rattle.std.proofs.Common.{◌≡◌, ◌+◌, ◌*◌, ◌≤◌, ◌<◌, ◌^◌, ◌∙◌, cond, List, length, refl, ap, sym, arith}
use Rattle.std.specs.Prelude.{Some, slice_get}
use Rattle.std.proofs.lemmas.Option.{same_Some, slice_get_read}
use Rattle.sg_layout.specs.declared.shape.NodeShape.{NodeShape}
use Rattle.sg_layout.specs.declared.shape.Shape.{Shape}
use Rattle.sg_layout.specs.StorageWords.{ends_segment}
use Rattle.sg_store.specs.Spots.{width_past}
use Rattle.sg_store.proofs.Uses.{read_as, width_fits}
use Rattle.sg_journal.specs.steps.Walking.{room_by}
use Rattle.sg_journal.proofs.RoomLoops as lemmas
use Rattle.sg_journal.proofs.rooms.rooms_in.Goals as goal

pub room_at-requires-clause-room : goal.room_at-requires-clause-room
room_at-requires-clause-room c =
    let nodes : List NodeShape = c.args.layout.now.nodes in
    let same : c.as_slice-nodes.result.now ≡ nodes = c.as_slice-nodes.ensures ∙ ap (λ (s : Shape). s.nodes) c.shape.ensures.value in
    width_fits nodes c.loop-index.index c.loop-index.before c.size-size.result c.index-nodes-index.result.kind (record {
      within = omega (arith, c.loop-index-test.true, ap length same);
      is = c.loop-index.invariant.before_is;
      narrow = c.loop-index.invariant.narrow;
      sized = c.size-size.ensures.value;
      kinded = λ n at. ap (λ (m : NodeShape). m.kind) (read_as c.as_slice-nodes.result.now nodes c.loop-index.index c.index-nodes-index.result n same c.index-nodes-index.is at);
    })

pub overflow_mul-before : goal.overflow_mul-before
overflow_mul-before c =
    let nodes : List NodeShape = c.args.layout.now.nodes in
    let same : c.as_slice-nodes.result.now ≡ nodes = c.as_slice-nodes.ensures ∙ ap (λ (s : Shape). s.nodes) c.shape.ensures.value in
    let fits : c.loop-index.before * c.size-size.result ≤ 2 ^ 30 =
    width_fits nodes c.loop-index.index c.loop-index.before c.size-size.result c.index-nodes-index.result.kind (record {
      within = omega (arith, c.loop-index-test.true, ap length same);
      is = c.loop-index.invariant.before_is;
      narrow = c.loop-index.invariant.narrow;
      sized = c.size-size.ensures.value;
      kinded = λ n at. ap (λ (m : NodeShape). m.kind) (read_as c.as_slice-nodes.result.now nodes c.loop-index.index c.index-nodes-index.result n same c.index-nodes-index.is at);
    }) in
    omega arith

pub loop-index-preserved : goal.loop-index-preserved
loop-index-preserved c =
    let items : List NodeShape = c.as_slice-nodes.result.now in
    let nodes : List NodeShape = c.args.layout.now.nodes in
    let same : items ≡ nodes = c.as_slice-nodes.ensures ∙ ap (λ (s : Shape). s.nodes) c.shape.ensures.value in
    let below : c.loop-index.index < length items = c.loop-index-test.true in
    let first : slice_get items c.loop-index.index ≡ Some c.index-nodes-index.result = slice_get_read items (length items) c.loop-index.index c.index-nodes-index.result refl below c.index-nodes-index.is in
    let second : slice_get items c.loop-index.index ≡ Some c.index-nodes-index-in-loop-index.result =
    slice_get_read items (length items) c.loop-index.index c.index-nodes-index-in-loop-index.result refl below c.index-nodes-index-in-loop-index.is in
    let one : c.index-nodes-index-in-loop-index.result ≡ c.index-nodes-index.result = same_Some c.index-nodes-index-in-loop-index.result c.index-nodes-index.result (sym second ∙ first) in
    lemmas.rooms_next c.args.layout.now c.loop-index.index c.loop-index.above c.above_past-above.result c.loop-index.before c.size-size.result c.width_past-before.result c.index-nodes-index.result.kind
    c.index-nodes-index.result c.loop-index.rooms c.push.new.self c.room_at.result c.loop-index.invariant
    (ap (λ (l : List NodeShape). slice_get l c.loop-index.index) (sym same) ∙ first) refl
    (record {
      within = omega (arith, below, ap length same);
      is = c.loop-index.invariant.before_is;
      narrow = c.loop-index.invariant.narrow;
      sized = c.size-size.ensures.value;
      kinded = λ n at. ap (λ (m : NodeShape). m.kind) (read_as items nodes c.loop-index.index c.index-nodes-index.result n same c.index-nodes-index.is at);
    })
    c.in_ok-push.ensures.ok
    (c.room_at.ensures ∙ ap (λ (n : NodeShape). room_by n c.loop-index.above c.loop-index.before) one)
    (c.above_past-above.ensures ∙ ap (λ (n : NodeShape). cond (ends_segment n.kind) (Some (c.loop-index.index + 1)) c.loop-index.above) (sym c.index-nodes-index.is))
    (c.width_past-before.ensures ∙ ap (λ (n : NodeShape). width_past n.kind (c.loop-index.before * c.size-size.result)) (sym c.index-nodes-index.is))

pub returns : goal.returns
returns c =
    let same = c.as_slice-nodes.ensures ∙ ap (λ (s : Shape). s.nodes) c.shape.ensures.value in
    let all : c.loop-index.index ≡ length c.args.layout.now.nodes = omega (arith, c.loop-index-test.false, c.loop-index.auto.index-end, ap length same) in
    lemmas.rooms_end c.args.layout.now c.loop-index.index c.loop-index.above c.loop-index.before c.loop-index.rooms all c.loop-index.invariant
