use Rattle.sg_store.proofs.LiveNeed as lemmas
use Rattle.sg_store.proofs.laws.live_is_need.Goals as goal

pub returns : goal.returns
returns c = λ store well. lemmas.live_is_need store (record {
  is_slot = c.paths_tell.ensures.is_slot store.shape;
  reached = c.need_counts_live.ensures.live store.shape;
  once = c.need_counts_live.ensures.once store.shape;
  parents = c.need_counts_live.ensures.parents store.shape;
  up_to = c.need_counts_live.ensures.greatest store.shape;
}) well
