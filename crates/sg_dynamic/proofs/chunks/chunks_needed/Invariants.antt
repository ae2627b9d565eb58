use Rattle.std.proofs.Common.{◌≡◌, ◌*◌, ◌^◌, ◌≤◌, take}
use Rattle.sg_dynamic.specs.Chunks.{chunk_need}
use Rattle.sg_dynamic.proofs.chunks.chunks_needed.Given as goal

abbrev pub invariant-loop-len : goal.invariant-loop-len
invariant-loop-len l = record { so_far : l.need ≡ chunk_need l.chunk (take l.len-index l.lengths); few : l.need ≤ l.len-index * 2 ^ 15 }
