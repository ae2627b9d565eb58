use Rattle.std.proofs.lemmas.Simd.{get_or-replicate}
use Rattle.sg_exec.proofs.HeldWords.{held_same}
use Rattle.sg_exec.proofs.lanes.held_row.in_all.Goals as goal

pub returns : goal.returns
returns c = λ k small.
    held_same _ c.args.words.kind _ c.args.words.part _ c.args.words.slot (get_or-replicate 32 k c.args.words.kind 0 small) (get_or-replicate 32 k c.args.words.part 0 small) (get_or-replicate 32 k c.args.words.slot 0 small)
