use Rattle.std.proofs.Common.{◌≤◌, sym, subst}
use Rattle.sg_store.proofs.NodesTrimmed.{dynamic_of, lengths_short}
use Rattle.sg_store.proofs.node_plan.staying.Goals as goal

pub kept_lengths-requires-clause-some : goal.kept_lengths-requires-clause-some
kept_lengths-requires-clause-some c = subst (λ n. 1 ≤ n) (sym c.chunk_of.ensures) (dynamic_of c.args.node.now c.args.kept.now c.in-Dynamic.is c.requires).some_chunk

pub kept_lengths-requires-clause-many : goal.kept_lengths-requires-clause-many
kept_lengths-requires-clause-many c = (dynamic_of c.args.node.now c.args.kept.now c.in-Dynamic.is c.requires).chain_count

pub kept_lengths-requires-clause-short : goal.kept_lengths-requires-clause-short
kept_lengths-requires-clause-short c = lengths_short c.args.node.now c.args.kept.now c.in-Dynamic.is c.requires
