use Rattle.sg_elements.proofs.ways.list_end.Given as goal

abbrev pub ghost-down : goal.ghost-down
ghost-down g a = g.path
