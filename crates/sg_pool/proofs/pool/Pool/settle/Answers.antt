use Rattle.std.proofs.Common.{◌≡◌, ◌≤◌, ap, arith, length}
use Rattle.sg_links.specs.Lists.{list_of, times}
use Rattle.sg_pool.specs.Numbers.{PoolNumbers}
use Rattle.sg_pool.specs.steps.Kept.{dead_in}
use Rattle.sg_pool.proofs.Times.{dead_least}
use Rattle.sg_pool.proofs.Parts.{parted_past, parted_listed, taken_live, listed_taken}
use Rattle.sg_pool.proofs.KeptPools.{shown, swept_absent, kept_settled}
use Rattle.sg_pool.proofs.pool.Pool.settle.Goals as goal

pub sweep_taken-requires-clause-live : goal.sweep_taken-requires-clause-live
sweep_taken-requires-clause-live c = taken_live c.self.inside.live c.mark_all.new.live c.args.taken.now c.mark_all.ensures

pub sweep_taken-requires-clause-others : goal.sweep_taken-requires-clause-others
sweep_taken-requires-clause-others c = λ number stands on.
    listed_taken (shown c.self.inside.live c.self.inside.free c.self.inside.mark) c.mark_all.new.live c.args.taken.now c.mark_all.ensures number c.self.invariant.parted stands on

pub sweep_taken-requires-clause-below : goal.sweep_taken-requires-clause-below
sweep_taken-requires-clause-below c = λ number stands.
    (parted_listed (shown c.self.inside.live c.self.inside.free c.self.inside.mark) number c.self.invariant.parted stands).1

pub sweep_taken-requires-clause-once : goal.sweep_taken-requires-clause-once
sweep_taken-requires-clause-once c = λ number. omega (arith, c.self.invariant.parted.one_of number)

pub put_spares-requires-clause-absent : goal.put_spares-requires-clause-absent
put_spares-requires-clause-absent c = λ number above.
    let list = list_of c.self.inside.free 0 in
    let after = c.mark_all.new.live in
    let none : times number list ≡ 0 = (parted_past (shown c.self.inside.live c.self.inside.free c.self.inside.mark) number c.self.invariant.parted above).0 in
    let left : times number (dead_in after list) ≡ 0 = omega (arith, dead_least after number list, none) in
    swept_absent after number c.self.inside.free c.sweep_taken.new.free (dead_in after list) c.self.invariant.one_list c.sweep_taken.ensures left

pub invariant_of-self : goal.invariant_of-self
invariant_of-self c =
    let within : c.raised-mark.result ≤ length c.self.inside.live = omega (arith, c.raised-mark.ensures.within, c.places.ensures.places, ap (λ (p : PoolNumbers). length p.live) c.self.view_is) in
    kept_settled c.self.inside.live c.mark_all.new.live c.self.inside.count c.self.inside.mark c.raised-mark.result c.self.inside.free c.sweep_taken.new.free c.put_spares.new.free c.args.taken.now c.self.invariant c.mark_all.ensures
    c.raised-mark.ensures.raised within
    c.sweep_taken.ensures c.put_spares.ensures
