use Rattle.std.proofs.Common.{◌≡◌, ◌+◌, ◌*◌, ◌^◌, arith}
use Rattle.std.proofs.lemmas.Nat.{mul-le}
use Rattle.std.proofs.lemmas.Int.{to_z-of_z}
use Rattle.sg_layout.specs.Axes.{count_of}
use Rattle.sg_convert.proofs.Tallied.{dynamic_chunk}
use Rattle.sg_convert.proofs.used.chunk_words.Goals as goal

pub overflow_mul-result-in-Dynamic : goal.overflow_mul-result-in-Dynamic
overflow_mul-result-in-Dynamic c =
    let chunk = (dynamic_chunk c.args.node.now (rw c.in-Dynamic.is at c.requires.caps)).1 in
    let is_chunk : c.count.result ≡ count_of c.args.node.now.chunk = grind (arith, to_z-of_z) in
    let values = mul-le c.count.result c.args.fields (2 ^ 30) 16 (omega (arith, chunk, c.requires.small)) c.requires.few in
    omega (arith, mul-le c.args.need (c.count.result * c.args.fields + 1) (2 ^ 16) (2 ^ 34 + 1) c.requires.few_needed (omega (arith, values)))
