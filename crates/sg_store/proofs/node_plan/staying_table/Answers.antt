use Rattle.sg_store.proofs.NodesTrimmed.{table_of}
use Rattle.sg_store.proofs.node_plan.staying_table.Goals as goal

pub kept_table-requires : goal.kept_table-requires
kept_table-requires c = table_of c.args.node.now c.args.kept.now c.requires.kind c.requires.plannable
