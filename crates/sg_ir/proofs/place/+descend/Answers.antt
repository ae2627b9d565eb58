use Rattle.std.proofs.Common.{refl, [], length, drop, take, ◌-◌, ap, arith}
use Rattle.std.proofs.lemmas.Result.{IfOk-weaker}
use Rattle.sg_ir.proofs.Extending.{rest-whole, rest-shorter, split_first, all_named, extends-trans}
use Rattle.sg_ir.proofs.Walkable.{tail-walkable, split-walkable}
use Rattle.sg_ir.proofs.Walking.{led-done, led-next}
use Rattle.sg_ir.proofs.Fronts.{front-kept, front-trans}
use Rattle.sg_ir.proofs.AddingPlaces.{descent-added-done, descent-added}
use Rattle.sg_ir.proofs.place.+descend.Goals as goal

pub returns-in_default : goal.returns-in_default
returns-in_default t c = record {
  front = front-kept _ _ _ _ refl refl;
  typed = λ shapes. descent-added-done shapes c.args.number c.args.nodes.now c.args.index.now c.args.place c.args.names.now c.args.block.now c.in_default.len_below;
  reaches = λ shapes. led-done shapes c.args.number c.args.nodes.now c.args.index.now c.args.place c.args.names.now c.args.block.now c.in_default.len_below c.requires.place;
}

pub offset_at-requires-clause-walkable : goal.offset_at-requires-clause-walkable
offset_at-requires-clause-walkable t c =
    let nodes = c.args.nodes.now in
    split-walkable nodes c.node-item.result (split_first nodes c.node-item.result c.in-len1-up.len_at_least c.node-item.is) c.requires.walkable

pub descend-requires : goal.descend-requires
descend-requires t c =
    let nodes = c.args.nodes.now in
    let node = c.node-item.result in
    let shorter = rest-shorter nodes c.in-len1-up.len_at_least in
    let whole = ap length (rest-whole nodes) in
    let few = c.requires.few_nodes in
    let one = c.in_ok-offset.ensures.computes [] in
    let two = c.in_ok-next.ensures.reaches [] in
    let both = extends-trans [] _ _ _ _ _ _ one.extends two.extends in
    let walkable = split-walkable nodes node (split_first nodes node c.in-len1-up.len_at_least c.node-item.is) c.requires.walkable in (
      omega (arith, shorter, whole, c.decreases),
      (
        omega (arith, shorter, whole),
        (
          tail-walkable node (take (length nodes - 1) (drop 1 nodes)) walkable,
          (c.requires.some_axes, (c.requires.few_axes, (two.named, all_named c.args.names.now c.stepped.new.names c.args.index.now both.grows c.requires.named))),
        ),
      ),
    )

pub returns : goal.returns
returns t c =
    let nodes = c.args.nodes.now in
    let node = c.node-item.result in
    let split = split_first nodes node c.in-len1-up.len_at_least c.node-item.is in
    record {
      front = front-trans _ _ _ _ _ _ c.in_ok-offset.ensures.front (front-trans _ _ _ _ _ _ c.in_ok-next.ensures.front c.descend.ensures.front);
      reaches =
          IfOk-weaker c.descend.result _ _ (λ to rest shapes. led-next shapes c.args.number nodes node c.args.index.now c.args.place c.in_ok-offset.offset c.in_ok-next.next to _ _ _ _ _ _ _ _ split c.requires.place c.requires.named (c.in_ok-offset.ensures.computes shapes) (c.in_ok-next.ensures.reaches shapes) (rest shapes)) c.descend.ensures.reaches;
      typed =
          IfOk-weaker c.descend.result _ _ (λ to rest shapes. descent-added shapes c.args.number nodes node c.args.index.now c.args.place c.in_ok-offset.offset c.in_ok-next.next to _ _ _ _ _ _ _ _ split c.requires.place c.requires.named (c.in_ok-offset.ensures.typed shapes) c.in_ok-next.ensures.puts (rest shapes)) c.descend.ensures.typed;
    }
