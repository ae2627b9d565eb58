use Rattle.std.proofs.Common.{arith, ap, ◌≡◌, ◌+◌, ◌-◌, ◌/◌, ◌∙◌, ℕ}
use Rattle.sg_dynamic.specs.Chunks.{chunks_of}
use Rattle.sg_dynamic.proofs.Growth.{chunks_within}
use Rattle.sg_dynamic.proofs.chunks.chunks.Goals as goal

pub returns-clause-few : goal.returns-clause-few
returns-clause-few c =
    let same : (c.args.len + (c.from.result - 1)) / c.from-2.result ≡ chunks_of c.args.chunk c.args.len =
    ap (λ (k : ℕ). (c.args.len + (k - 1)) / c.from-2.result) c.from.ensures ∙ ap (λ (k : ℕ). (c.args.len + (c.args.chunk - 1)) / k) c.from-2.ensures in
    let few = chunks_within c.args.chunk c.args.len c.requires.some in
    omega arith
