use Rattle.sg_store.proofs.store.Store.key_plan.Given as goal

abbrev pub ghost-plan_keys : goal.ghost-plan_keys
ghost-plan_keys g a = g.count
