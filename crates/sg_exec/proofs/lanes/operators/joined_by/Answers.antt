use Rattle.std.proofs.Common.{◌≡◌, ◌+◌, ◌*◌, ◌%◌, ◌^◌, ℕ, List, get_or, length, ap, ◌∙◌, arith}
use Rattle.std.specs.Prelude.{replicate}
use Rattle.std.proofs.lemmas.Simd.{get_or-zip2, get_or-replicate, length-zip2, length-replicate}
use lib.Lanes.{zip2}
use Rattle.sg_exec.proofs.lanes.operators.joined_by.Goals as goal

pub returns : goal.returns
returns c = λ k small.
    let times : ℕ → ℕ → ℕ = λ x y. (x * y) % 2 ^ 32 in
    let size : List ℕ = replicate 32 c.args.size in
    let long : length (zip2 times c.args.high size) ≡ length c.args.high = length-zip2 times c.args.high size (omega (arith, c.fits-high.0, length-replicate {A = ℕ} 32 c.args.size)) in
    get_or-zip2 (λ (x y : ℕ). (x + y) % 2 ^ 32) (zip2 times c.args.high size) c.args.low k 0 0 0 (omega (arith, small, long, c.fits-high.0)) (omega (arith, small, c.fits-low.0))
    ∙ ap (λ (x : ℕ). (x + get_or c.args.low k 0) % 2 ^ 32)
    (get_or-zip2 times c.args.high size k 0 0 0 (omega (arith, small, c.fits-high.0)) (omega (arith, small, length-replicate {A = ℕ} 32 c.args.size))
    ∙ ap (times (get_or c.args.high k 0)) (get_or-replicate 32 k c.args.size 0 small))
    ∙ wraps (get_or c.args.high k 0 * c.args.size) (get_or c.args.low k 0)
  where
    wraps : (a b : ℕ) → (a % 2 ^ 32 + b) % 2 ^ 32 ≡ (a + b) % 2 ^ 32
    wraps a b = omega arith
