use Rattle.sg_store.proofs.hash.plan_keys.Given as goal

abbrev pub ghost-fill_keys : goal.ghost-fill_keys
ghost-fill_keys g a = g.count
