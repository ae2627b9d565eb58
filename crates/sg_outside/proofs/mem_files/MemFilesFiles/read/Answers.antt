use Rattle.std.proofs.Common.{vec_capacity, arith}
use Rattle.std.specs.FinMap.{get}
use Rattle.sg_outside.specs.Counts.{one_more, is_listed}
use Rattle.sg_outside.specs.MemFiles.{ReadsExactly, held_of, next_reading}
use Rattle.sg_outside.proofs.Names.{get_named}
use Rattle.sg_outside.proofs.Fails.{fails_just}
use Rattle.sg_outside.proofs.mem_files.MemFilesFiles.read.Goals as goal

-- the answer is exactly the read's meaning, and so a failure just when that is no file
pub returns-clause-fails : goal.returns-clause-fails
returns-clause-fails c =
    let files = c.args.self.now in
    let exact : ReadsExactly c.if-contains.got c.if-contains.into.items (vec_capacity c.args.into.now) (next_reading files c.args.name.now c.args.limit) = grind (arith, get_named) in
    fails_just _ _ _ (is_listed (one_more files.reads) files.failing) (get (held_of files) c.args.name.now) _ exact
