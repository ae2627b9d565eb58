use Rattle.std.proofs.Common.{arith}
use Rattle.sg_outside.proofs.Written.{known_same, known_none, known_more, more_left}
use Rattle.sg_outside.proofs.real_out.write_piece.Goals as goal
use Rattle.sg_outside.proofs.real_out.write_piece.Goals.{in-Ok+else-taken-piece, in-Err}

-- nothing was taken before, and nothing by this write
pub returns-in-Err-2-clause-told : goal.returns-in-Err-2-clause-told
returns-in-Err-2-clause-told g c = λ written is.
    known_none _ _ written c.args.piece.now c.loop.taken (omega arith) (c.loop.invariant.told written is) c.in-Err.ensures.bytes

-- this write took a part of what was left, or nothing
pub loop-preserved : goal.loop-preserved
loop-preserved g c =
    elim c.match-write.branch [
      | in-Ok+else-taken-piece w ↦ record {
        more = more_left c.args.piece.now c.loop.taken w.in-Ok.count _ (omega arith) w.in-Ok.ensures.bound w.if-taken-piece.false c.loop.invariant.more;
        told = λ written is. known_more _ _ written c.args.piece.now c.loop.taken w.in-Ok.count _ (omega arith) (c.loop.invariant.told written is) w.in-Ok.ensures.bytes;
      }
      | in-Err w ↦ record {
        more = omega arith;
        told = λ written is. known_same _ _ written c.args.piece.now c.loop.taken _ (omega arith) (c.loop.invariant.told written is) w.in-Err.ensures.bytes;
      }
    ]
