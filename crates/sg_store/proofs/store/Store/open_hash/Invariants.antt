use Rattle.sg_store.proofs.HashAt.{slots_at}
use Rattle.sg_store.proofs.store.Store.open_hash.Given as goal

abbrev pub ghost-key_plan : goal.ghost-key_plan
ghost-key_plan a = slots_at a.self.now.shape.nodes 1 a.index
