use Rattle.std.proofs.Common.{◌≡◌, ℕ, List, Bool, eqb, ap, ◌∙◌, w32}
use Rattle.std.specs.Prelude.{replicate}
use Rattle.std.proofs.lemmas.Simd.{tops_compared}
use lib.Lanes.{sel_l}
use Rattle.sg_exec.specs.steps.Rows.{is_on}
use Rattle.sg_exec.proofs.Masks.{both_on}
use Rattle.sg_exec.proofs.lanes.columns.set_lanes.Goals as goal

pub returns : goal.returns
returns c = λ k. ap (λ (ms : List Bool). is_on (sel_l {A = ℕ} ms (replicate 32 0) c.args.on) k) (tops_compared w32 eqb c.args.row (replicate 32 0)) ∙ both_on c.args.on c.args.row c.fits-on.0 c.fits-row.0 k
