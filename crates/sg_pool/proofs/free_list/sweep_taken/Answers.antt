use Rattle.sg_pool.proofs.Taken.{front_gone, rest_stays, rest_left, rest_swept}
use Rattle.sg_links.specs.Lists.{list_of}
use Rattle.sg_pool.proofs.free_list.sweep_taken.Goals as goal

pub returns-then-are_past : goal.returns-then-are_past
returns-then-are_past c =
    let list = list_of c.args.free.now 0 in
    rest_left c.args.live.now c.args.free.now c.pop_taken-gone.new.free c.pop_taken-gone.result c.pop_taken-gone.ensures.left
    (front_gone c.args.live.now list c.args.taken.now c.pop_taken-gone.result c.requires.live c.pop_taken-gone.ensures.same)
    (rest_stays c.args.live.now list c.args.taken.now c.pop_taken-gone.result c.args.mark c.pop_taken-gone.ensures.same c.requires.others c.requires.below c.requires.once (c.are_past.ensures c.if-are_past.true))

pub returns : goal.returns
returns c =
    rest_swept c.args.live.now c.args.free.now c.pop_taken-gone.new.free c.sweep.new.free c.pop_taken-gone.result c.requires.there c.pop_taken-gone.ensures.left
    (front_gone c.args.live.now (list_of c.args.free.now 0) c.args.taken.now c.pop_taken-gone.result c.requires.live c.pop_taken-gone.ensures.same) c.sweep.ensures
