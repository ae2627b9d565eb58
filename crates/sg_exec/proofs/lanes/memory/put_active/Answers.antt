use Rattle.std.proofs.Common.{ℕ, sym, subst}
use Rattle.std.specs.Prelude.{None}
use Rattle.sg_exec.specs.steps.Rows.{item_in}
use Rattle.sg_exec.specs.steps.Accessing.{TellsActive}
use Rattle.sg_exec.proofs.Rows.{put_so}
use Rattle.sg_exec.proofs.lanes.memory.put_active.Goals as goal

pub returns : goal.returns
returns c =
    let Holds : ℕ → ℕ → Type 0 = λ k. TellsActive c.args.places.now.stores (item_in c.args.places.now.list None k c.args.place) in
    put_so _ Holds _ _ _ _ _ (λ k word small on is. subst (Holds k) (sym is) (c.active.ensures k small on)) c.put_row.ensures
