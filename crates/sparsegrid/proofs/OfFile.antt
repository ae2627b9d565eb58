-- The session that a run leaves is of the file's program.
use Rattle.std.proofs.Common.{Result, Ok, Err}
use Rattle.std.specs.Option.{IfSome}
use Rattle.sg_words.specs.declared.memory.Stop.{Stop}
use Rattle.sg_session.specs.Performed.{SessionParts}
use Rattle.sparsegrid.specs.declared.output.PutFailed.{PutFailed}
use Rattle.sparsegrid.specs.declared.session.Done.{Done}
use Rattle.sparsegrid.specs.steps.Along.{LeavesOnly, session_of}

-- what holds of the session of a result holds of the one that is left at the end
pub left_at_end : (P : SessionParts → Type 0) (result : Result Done (Stop PutFailed)) → LeavesOnly P result → IfSome (session_of result) P
left_at_end P (Ok done) has = has
left_at_end P (Err why) has = tt
