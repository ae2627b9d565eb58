use Rattle.std.proofs.lemmas.Result.{IfOk-weaker}
use Rattle.sg_ir.proofs.Walkable.{tail-walkable, size-some, over-some}
use Rattle.sg_ir.proofs.Walking.{digit-from}
use Rattle.sg_ir.proofs.AddingPlaces.{extract-adds}
use Rattle.sg_ir.proofs.place.digit.Goals as goal

pub extent_over-requires-clause-small : goal.extent_over-requires-clause-small
extent_over-requires-clause-small c = (tail-walkable c.args.node.now c.args.later.now c.requires.walkable).small c.args.axis c.requires.first c.requires.last

pub returns-clause-computes : goal.returns-clause-computes
returns-clause-computes c =
    IfOk-weaker c.extract.result _ _ (λ to computes shapes. digit-from shapes c.args.node.now c.args.later.now c.args.axis _ _ c.args.from to _ _ _ _ c.extent_over.ensures c.node_extent-size.ensures (computes shapes)) c.extract.ensures.computes

pub returns-clause-typed : goal.returns-clause-typed
returns-clause-typed c =
    let node = c.args.node.now in
    let later = c.args.later.now in
    let div = over-some node later c.args.axis _ c.requires.walkable c.extent_over.ensures in
    let size = size-some node later c.args.axis _ c.requires.walkable c.node_extent-size.ensures in
    IfOk-weaker c.extract.result _ _ (λ to puts shapes. extract-adds shapes _ _ c.args.from to _ _ _ _ puts div size) c.extract.ensures.puts
