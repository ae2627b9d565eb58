use Rattle.sg_store.proofs.HasRoom as lemmas
use Rattle.sg_store.proofs.laws.stands_has_room.Goals as goal

pub returns : goal.returns
returns c = λ store well flat stands. lemmas.stands_has_room store (record {
  is_slot = c.paths_tell.ensures.is_slot store.shape;
  reached = c.need_counts_live.ensures.live store.shape;
  once = c.need_counts_live.ensures.once store.shape;
  parents = c.need_counts_live.ensures.parents store.shape;
  up_to = c.need_counts_live.ensures.greatest store.shape;
}) well flat stands
