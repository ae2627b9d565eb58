use Rattle.std.proofs.Common.{◌<◌, ◌^◌, ℕ, List, subst, arith}
use Rattle.std.specs.Prelude.{slice_index}
use Rattle.std.specs.List.{concat}
use Rattle.std.proofs.lemmas.List.{take_all}
use Rattle.sg_exec.proofs.SumsPut.{no_low, low_more}
use Rattle.sg_exec.proofs.results.sums.are_low.Goals as goal

pub loop-part-init : goal.loop-part-init
loop-part-init c = no_low

pub loop-part-preserved : goal.loop-part-preserved
loop-part-preserved c =
    low_more c.args.parts.now c.loop-part.part-index c.part-item.result c.part-item.result (omega arith) c.part-item.is c.loop-part.invariant
    (subst (λ (words : List ℕ). (k : ℕ) → slice_index words k < 2 ^ 32) c.as_slice.ensures c.is_low.ensures)

pub returns : goal.returns
returns c =
    subst (λ (parts : List (List ℕ)). (k : ℕ) → slice_index (concat parts) k < 2 ^ 32) (take_all c.loop-part.part-index c.args.parts.now (omega arith)) c.loop-part.invariant
